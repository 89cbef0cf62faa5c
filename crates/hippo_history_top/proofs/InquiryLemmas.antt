-- What was disclosed of a patient, with one more entry, and at the end.
use Rattle.std.proofs.Common.{◌≡◌, ◌∙◌, ℕ, ℤ, Bool, [], ◌∷◌, ◌++◌, Option, unwrap_or, refl, sym, ap, subst, append_assoc}
use Rattle.std.proofs.lemmas.List.{append-nil}
use Rattle.hippo_values.specs.Texts.{Txt}
use Rattle.hippo_model.specs.declared.entry.Entry.{Entry}
use Rattle.hippo_model.specs.Terms.{History}
use Rattle.hippo_keeper.specs.declared.faults.KeeperFault.{KeeperFault as Fault}
use Rattle.hippo_keeper.specs.Keeping.{KeeperState}
use Rattle.hippo_keeper.proofs.Results.{well}
use Rattle.hippo_replay.specs.Standing.{Represents}
use Rattle.hippo_replay.specs.declared.state.State.{State}
use Rattle.hippo_program_args.specs.declared.endings.Ending.{Ending}
use Rattle.hippo_program_args.specs.declared.endings.Ending.TheVariants.{Served}
use Rattle.hippo_history_formats.specs.declared.access.Access.{Access}
use Rattle.hippo_history_uses.specs.Disclosing.{AreDisclosed, TakesInEntry}
use Rattle.hippo_history_uses.specs.declared.disclosing.Disclosures.{Disclosures}
use Rattle.hippo_history_top.specs.declared.asking.Inquiry.{Inquiry}
use Rattle.hippo_history_top.specs.declared.asking.View.TheVariants.{Patient}
use Rattle.hippo_history_top.specs.declared.disclosing.Sought.{Sought}
use Rattle.hippo_history_top.specs.Gathering.{GathersAll}
use Rattle.hippo_history_top.specs.Inquiring.{is_inquired, accesses_asked, inquiry_shown, FindsAccesses, KnowsPast}
use Rattle.hippo_history_top.specs.Progress.{ShowsLoaded}
use Rattle.hippo_history_top.specs.Saying.{Writes}
use Rattle.hippo_history_top.specs.Showing.{shown_text}
use Rattle.hippo_history_top.proofs.GatheredLemmas.{gathered_page}
use Rattle.hippo_history_top.proofs.PageLemmas.{page_written}

-- one more entry was taken in
pub found-more : (sought : Sought) (entry : Entry) (within : Bool) (old new : Disclosures) → within ≡ is_inquired sought.inquiry.now entry → TakesInEntry sought.past entry within old new
    → (read : History) → FindsAccesses sought old read → FindsAccesses sought new (read ++ entry ∷ [])
found-more sought entry within old new is takes read so history later past whole =
    let longer : history ≡ read ++ entry ∷ later = whole ∙ append_assoc read (entry ∷ []) later in
    takes sought.inquiry.now.patient (is_inquired sought.inquiry.now) history read later is (record { past_is = past; whole = longer })
    (so history (entry ∷ later) past longer)

-- nothing was read yet
pub found-nothing : (sought : Sought) (found : Disclosures) (patient : ℤ) → patient ≡ sought.inquiry.now.patient
    → ((test : Entry → Bool) (history : History) → AreDisclosed patient test history [] found) → FindsAccesses sought found []
found-nothing sought found patient is new history later past whole =
    subst (λ (number : ℤ). AreDisclosed number (is_inquired sought.inquiry.now) history [] found) is (new (is_inquired sought.inquiry.now) history)

-- all entries were read, and the accesses are those of the history
module _ (sought : Sought) (state : State) (knows : KnowsPast sought state) (start found : Disclosures) (before after : KeeperState) (ticks ticks' : ℕ) (written written' : Option Txt) (faults faults' : ℕ) (cut : Option Ending) where
  abbrev inquiry : Inquiry
  inquiry = sought.inquiry.now

  accesses_found : (history : History) → FindsAccesses sought found history → Represents state history → found.accesses ≡ accesses_asked inquiry history
  accesses_found history so stands = (so history [] (knows history stands) (sym (append-nil history))).accesses_are

  pub loaded_patient : FindsAccesses sought start [] → GathersAll (FindsAccesses sought start) (FindsAccesses sought found) (well Fault) before after ticks ticks'
      → Writes (inquiry_shown inquiry found.accesses) cut written written' faults faults'
      → ShowsLoaded state (Patient inquiry) (unwrap_or cut Served) before after written written' faults faults' ticks ticks'
  loaded_patient none all writes =
      let text : Txt = inquiry_shown inquiry found.accesses in
      let IsText : History → Type 0 = λ history. text ≡ shown_text (Patient inquiry) history in
      gathered_page (FindsAccesses sought start) (FindsAccesses sought found) state before after ticks ticks' (Patient inquiry) all none IsText
      (λ history. shown_text (Patient inquiry) history) (λ history so stands. (ap (inquiry_shown inquiry) (accesses_found history so stands), refl)) written written' faults faults' cut
      (page_written IsText (λ history. shown_text (Patient inquiry) history) written faults written' faults' text (λ history is. is) cut writes)
