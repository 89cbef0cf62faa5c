-- Steps of a job, and the alarms of a watch, on a small clinic.
use Rattle.std.proofs.Common.{◌≡◌, ◌∙◌, inl, inr, refl, ap, subst, length, Option, option_and_then, arith, pos, List, [], ◌∷◌, ◌++◌, Some, None, Ok, codes, decimal}
use Rattle.std.specs.Prelude.{⊤}
use Rattle.hippo_io.specs.Lines.{LineText, text_line, too_long_line, not_utf8_line}
use Rattle.hippo_values.specs.Names.{keywords, unsupported_words}
use Rattle.hippo_values.specs.declared.values.Value.TheVariants.{Int}
use Rattle.hippo_model.specs.declared.audit.Audit.{Audit}
use Rattle.hippo_model.specs.declared.audit.Flag.{Flag}
use Rattle.hippo_model.specs.declared.query.CondOf.TheVariants.{All}
use Rattle.hippo_model.specs.Terms.{History}
use Rattle.hippo_report.specs.declared.speaker.Speaker.TheVariants.{Nobody, Console, Session}
use Rattle.hippo_report.specs.declared.format.Format.TheVariants as formats
use Rattle.hippo_report.specs.declared.refusal.Refusal.TheVariants.{BadLine, LineTooLong, Memory}
use Rattle.hippo_report_flags.specs.Flags.{flag_line}
use Rattle.hippo_report.specs.Cells.{tuple_text}
use Rattle.hippo_report.specs.Notices.{number_line}
use Rattle.hippo_report.specs.Refusals.{refusal_line}
use Rattle.hippo_audit_job.specs.Jobs.{OpenAudit}
use Rattle.hippo_report_flags.specs.AlarmLines.{alarm_text}
use Rattle.hippo_engine_sessions.specs.Worlds.{World}
use Rattle.hippo_stmt_lines.specs.Words.{words_of}
use Rattle.hippo_stmt_lines.specs.Forms.{steps}
use Rattle.hippo_stmt_lines.specs.Commands.{Command, wrong, make_request, command_of}
use Rattle.std.specs.List.{cons_option}
use Rattle.hippo_values.specs.Texts.{Txt}
use Rattle.hippo_values.specs.Words.{word_of}
use Rattle.hippo_model.specs.declared.entry.Act.{Act}
use Rattle.hippo_model.specs.declared.entry.Act.TheVariants as acts
use Rattle.hippo_model.specs.declared.query.Query.{Query}
use Rattle.hippo_model.specs.Verdicts.{Context}
use Rattle.hippo_model.specs.Audits.{shared_by, flag_by, flags_between}
use Rattle.hippo_model.proofs.Truths.{truths}
use Rattle.hippo_model_laws.proofs.ExampleHistories.{audit_between}
use Rattle.hippo_model.proofs.FoldedConditions.{folded_conditions}
use Rattle.hippo_lexer.specs.Spelling.{sign_table, sign_of}
use Rattle.hippo_lexer.specs.Cutting.{number_of, number_first, closing, quoted_first, date_first, word_first, sign_first, token_first, tokens_from, outcome_of}
use Rattle.hippo_lexer.specs.Words.{words_check}
use Rattle.hippo_spj_reader.specs.SelectFinder.{leading_item, leading_member, leading_members, leading_joined, leading_sources, leading_where, leading_scope, leading_draft_of, leading_draft, ungrouped_select, leading_select}
use Rattle.hippo_stmt_reader.specs.StatementFinder.{placed_select_of, open_of, extract_of, select_of, statement_of}
use Rattle.hippo_typing.specs.Meanings.{meaning, meaning_in}
use Rattle.std.specs.Option.{option_map_or}
use Rattle.hippo_engine_checks.specs.Deeds as deeds
use Rattle.hippo_engine_rules.specs.Effects.{Effect, effect_of, deed_effect, alarms, only_reply, with_job, with_watch, new_open_audit, job_up_to}
use Rattle.hippo_engine_rules.specs.Runs.{IsRun}
use Rattle.hippo_engine_rules.proofs.ExampleLines.{patient, treatment, nurse, entry, nurses_pair, clinic, world_within, question, all_rows, asked_for}
use Rattle.hippo_engine_laws.specs.Lines.{OfEachLine}
use Rattle.hippo_engine_laws.specs.Jobs.{Portion, no_portion, portion_reply, StepWrites, JudgedWrites, WritesPortion, flags_in, last_end}
use Rattle.hippo_engine_laws.specs.Watches.{alarm_of, alarm_texts, JudgedHeard, IsHeard}

-- AUDIT name FROM patient, in the year 2024
abbrev names_of_patients : Audit
names_of_patients = audit_between (pos 1704067200) (pos 1735689599) (record { table = 0; column = 1 } ∷ []) (patient ∷ []) (All [])

-- Ann has seen Ada's row
abbrev eighth : Flag
eighth = record {
  seq = 8;
  moment = pos 1704182400;
  user = codes "ann";
  pair = nurses_pair;
  shared = record { table = patient; key = Int (pos 1) ∷ [] } ∷ [];
}

abbrev ninth : Flag
ninth = record eighth { seq = 9 }

-- a job over the seven entries of the morning, and one in which a flag waits
abbrev job : OpenAudit
job = new_open_audit clinic names_of_patients

abbrev one_waits : OpenAudit
one_waits = job_up_to job 2 (eighth ∷ [])

abbrev world : World
world = with_job (world_within 4000000) 1 (Some job)

abbrev three_numbers : Command
three_numbers = make_request Console (steps 1 3)

-- a step writes the waiting flags, and the number that it has looked up to
abbrev eighth_written : Portion
eighth_written = record { flags = eighth ∷ []; ended = None }

what_waits_is_written : StepWrites world three_numbers one_waits 3 (deed_effect clinic world (deeds.step_job 1 one_waits 3)) eighth_written
what_waits_is_written = inl refl

a_flag_and_how_far_it_is :
    portion_reply world 5 eighth_written ≡ (flag_line formats.Text eighth ++ []) ++ number_line 0 (codes "part") 5
a_flag_and_how_far_it_is = refl

-- the last step says how many flags there are: nobody asked a question in the morning
the_last_step_says_end :
    StepWrites world (make_request Console (steps 1 9)) job 9 (deed_effect clinic world (deeds.step_job 1 job 9)) (record { flags = []; ended = Some 0 })
the_last_step_says_end = inl refl

-- out of memory, nothing is written
abbrev short_of_memory : Effect
short_of_memory = only_reply (with_job world 1 (Some one_waits)) (refusal_line Console Memory)

nothing_is_written_without_memory : JudgedWrites 1 world three_numbers (Ok (deeds.step_job 1 one_waits 3)) short_of_memory no_portion
nothing_is_written_without_memory = inl (refl, inr (refl, refl))

-- a step of job 1 writes nothing of job 2
others_write_nothing : JudgedWrites 2 world three_numbers (Ok (deeds.step_job 1 one_waits 3)) (deed_effect clinic world (deeds.step_job 1 one_waits 3)) no_portion
others_write_nothing = inr (λ same. omega (arith, same), refl)

-- lines that are refused write nothing
refused_lines_write_nothing :
    OfEachLine (WritesPortion 1) clinic world (too_long_line ∷ not_utf8_line ∷ [])
    (only_reply world (refusal_line Nobody LineTooLong) ∷ only_reply world (refusal_line Nobody BadLine) ∷ []) (no_portion ∷ no_portion ∷ [])
refused_lines_write_nothing = (refl, (refl, tt))

-- the flags of all portions, concatenated; the last portion may say that the job has ended
abbrev ninth_written : Portion
ninth_written = record { flags = ninth ∷ []; ended = Some 2 }

all_that_was_written : flags_in (eighth_written ∷ no_portion ∷ ninth_written ∷ []) ≡ eighth ∷ ninth ∷ []
all_that_was_written = refl

the_last_says_how_many : last_end (eighth_written ∷ no_portion ∷ ninth_written ∷ []) ≡ Some 2
the_last_says_how_many = refl

the_others_do_not : last_end (ninth_written ∷ eighth_written ∷ []) ≡ None
the_others_do_not = refl

-- watch 2 flags the eighth entry, watch 1 does not, and there is no watch 3
one_watch_of_two :
    alarm_texts (None ∷ Some eighth ∷ None ∷ [])
    ≡ (codes "0 alarm " ++ ((decimal 2 ++ (codes " " ++ decimal 8)) ++ (tuple_text eighth.shared ++ codes "\n"))) ++ []
one_watch_of_two = refl

-- a line that asks no question has no alarm, nor has a question for which memory ran out
nothing_is_heard_of_refused_lines : IsHeard 1 clinic world (wrong Nobody LineTooLong) (only_reply world (refusal_line Nobody LineTooLong)) None
nothing_is_heard_of_refused_lines = refl

nothing_is_heard_without_memory :
    JudgedHeard 1 clinic world (question (all_rows (codes "name" ∷ []))) (Ok (deeds.answer_question (asked_for (1 ∷ []))))
    (only_reply world (refusal_line (Session 1) Memory)) None
nothing_is_heard_without_memory = inr (refl, refl)

-- what is unfolded to read lines and texts
unfoldable reading : ⊤
unfolding words_of keywords unsupported_words sign_table sign_of number_of number_first closing quoted_first date_first word_first sign_first token_first tokens_from outcome_of words_check leading_item leading_member leading_members leading_joined leading_sources leading_where leading_scope leading_draft_of leading_draft ungrouped_select leading_select placed_select_of open_of extract_of select_of statement_of word_of meaning_in
reading = tt

-- Ann asks for the names of patients
abbrev text : Txt
text = codes "SELECT name FROM patient"

abbrev ann_asks : Act
ann_asks = acts.Asked (codes "ann") treatment nurse text

abbrev asked_once : History
asked_once = clinic ++ entry 8 ann_asks ∷ []

names_are_meant : meaning clinic text ≡ Some (asked_for (1 ∷ [])).query
unfolding reading
names_are_meant = simp folded_conditions

-- what an audit flags of it, by the meaning of its text
abbrev flagged_by : Option Query → List Flag
flagged_by found =
    let context : Context = record { purpose = treatment; recipient = nurse; moment = pos 1704182400 } in
    cons_option (option_and_then (flag_by (entry 8 ann_asks) ann_asks) (option_and_then (λ query. shared_by clinic context query names_of_patients) found)) []

adas_row_is_shared : flagged_by (Some (asked_for (1 ∷ [])).query) ≡ eighth ∷ []
adas_row_is_shared = simp truths

ann_is_flagged : flags_between meaning asked_once names_of_patients 0 8 ≡ eighth ∷ []
ann_is_flagged = ap flagged_by names_are_meant ∙ adas_row_is_shared

-- a watch with the same audit has an alarm when it is asked
abbrev watched : World
watched = with_watch (world_within 4000000) 2 (Some names_of_patients)

abbrev alarm_by : Option Query → Txt
alarm_by found =
    let context : Context = record { purpose = treatment; recipient = nurse; moment = pos 1704182400 } in
    option_map_or (alarm_text 2 8) (option_and_then (λ query. shared_by clinic context query names_of_patients) found) []

adas_row_is_told : alarm_by (Some (asked_for (1 ∷ [])).query) ≡ alarm_of 2 eighth
adas_row_is_told = simp truths

the_watch_tells_of_ann : alarms clinic watched (entry 8 ann_asks) ≡ alarm_texts (None ∷ Some eighth ∷ [])
the_watch_tells_of_ann = ap (λ (said : Txt). said ++ []) (ap alarm_by names_are_meant ∙ adas_row_is_told)

-- the effects of lines by the rules
abbrev with_effect : History → (History → World → List Effect) → Effect → List Effect
with_effect history later effect = effect ∷ later (history ++ effect.added) effect.world

abbrev effects_of : List LineText → History → World → List Effect
effects_of [] history held = []
effects_of (line ∷ lines) history held = with_effect history (effects_of lines) (effect_of history held (command_of line))

-- a job over these eight entries in two steps, with another line between them
abbrev audited : World
audited = with_job (world_within 4000000) 1 (Some (new_open_audit asked_once names_of_patients))

abbrev in_two_steps : List LineText
in_two_steps = text_line (codes "0 step 1 3") ∷ too_long_line ∷ text_line (codes "0 step 1 9") ∷ []

they_are_a_run : IsRun asked_once audited in_two_steps (effects_of in_two_steps asked_once audited)
they_are_a_run = (inl refl, (inl refl, (inl refl, tt)))

-- the first step writes nothing and says `part`, the second writes the flag and says `end`
they_write_two_portions :
    OfEachLine (WritesPortion 1) asked_once audited in_two_steps (effects_of in_two_steps asked_once audited)
    (no_portion ∷ no_portion ∷ record { flags = eighth ∷ []; ended = Some 1 } ∷ [])
unfolding reading
they_write_two_portions =
    subst (λ (flags : List Flag). OfEachLine (WritesPortion 1) asked_once audited in_two_steps (effects_of in_two_steps asked_once audited)
    (no_portion ∷ no_portion ∷ record { flags = flags; ended = Some (length flags) } ∷ [])) ann_is_flagged
    (inl (refl, inl refl), (refl, (inl (refl, inl refl), tt)))
