-- What was disclosed of a patient, as it is shown.
use Rattle.std.specs.Prelude.{◌≡◌, Bool, ◌&&◌, List, ◌++◌, flat_map}
use Rattle.hippo_values_text.specs.Dates.{moment_text}
use Rattle.hippo_values.specs.Texts.{Txt}
use Rattle.hippo_model.specs.declared.entry.Entry.{Entry}
use Rattle.hippo_model.specs.Terms.{History}
use Rattle.hippo_report.specs.declared.format.Format.{Format}
use Rattle.hippo_audit_job.specs.Examining.{IsPastOf}
use Rattle.hippo_replay.specs.Standing.{Represents}
use Rattle.hippo_replay.specs.declared.state.State.{State}
use Rattle.hippo_history_formats.specs.declared.access.Access.{Access}
use Rattle.hippo_history_formats.specs.Accesses.{access_header, access_line}
use Rattle.hippo_history_page.specs.Pages.{entry_words, page}
use Rattle.hippo_history_uses.specs.Disclosing.{AreDisclosed}
use Rattle.hippo_history_uses.specs.Accesses.{accesses_of}
use Rattle.hippo_history_uses.specs.declared.disclosing.Disclosures.{Disclosures}
use Rattle.hippo_history_top.specs.declared.asking.Bound.{Bound}
use Rattle.hippo_history_top.specs.declared.asking.Bound.TheVariants.{Number, At}
use Rattle.hippo_history_top.specs.declared.asking.Inquiry.{Inquiry}
use Rattle.hippo_history_top.specs.declared.asking.Layout.{Layout}
use Rattle.hippo_history_top.specs.declared.asking.Layout.TheVariants.{Lines, Html}
use Rattle.hippo_history_top.specs.declared.disclosing.Sought.{Sought}
use Rattle.hippo_history_top.specs.Dating.{is_from, is_to}

-- whether an entry is in the stretch that is asked for
abbrev pub is_inquired : Inquiry → Entry → Bool
is_inquired inquiry entry = is_from inquiry.first entry && is_to inquiry.last entry

-- the accesses to the patient's rows by the questions of the stretch
abbrev pub accesses_asked : Inquiry → History → List Access
accesses_asked inquiry history = accesses_of inquiry.patient (is_inquired inquiry) history

-- what stands before all lines, and then a line for each access
abbrev pub accesses_shown : Format → List Access → Txt
accesses_shown format accesses = access_header format ++ flat_map (access_line format) accesses

-- an end of a stretch of entries, in words
abbrev pub bound_words : Bound → Txt
bound_words (Number number) = entry_words number
bound_words (At moment) = moment_text moment

-- the accesses as lines, or as a page
abbrev pub accesses_laid_out : Layout → Inquiry → List Access → Txt
accesses_laid_out (Lines format) inquiry accesses = accesses_shown format accesses
accesses_laid_out Html inquiry accesses =
    page inquiry.patient (bound_words inquiry.first) (bound_words inquiry.last) accesses

-- the accesses as an inquiry asks for them
abbrev pub inquiry_shown : Inquiry → List Access → Txt
inquiry_shown inquiry accesses = accesses_laid_out inquiry.layout inquiry accesses

-- these accesses are those of the entries read so far, whatever entries follow
abbrev pub FindsAccesses : Sought → Disclosures → History → Type 0
FindsAccesses sought found read =
    (history later : History) → IsPastOf sought.past history → history ≡ read ++ later
    → AreDisclosed sought.inquiry.now.patient (is_inquired sought.inquiry.now) history read found

-- what is searched for knows the past of each history that a state stands for
abbrev pub KnowsPast : Sought → State → Type 0
KnowsPast sought state =
    (history : History) → Represents state history → IsPastOf sought.past history
