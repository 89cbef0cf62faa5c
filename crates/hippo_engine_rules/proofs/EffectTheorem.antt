-- What lines change: nothing if they are refused, and otherwise at most the next entry is added.
use Rattle.std.proofs.Common.{◌≡◌, inl, inr, Ok, Err, refl}
use Rattle.hippo_model.specs.Terms.{History}
use Rattle.hippo_engine_sessions.specs.Worlds.{World}
use Rattle.hippo_report.specs.declared.speaker.Speaker.{Speaker}
use Rattle.hippo_report.specs.declared.refusal.Refusal.{Refusal}
use Rattle.hippo_stmt_lines.specs.Commands.{who_commands}
use Rattle.hippo_engine_checks.specs.Checks.{Checked}
use Rattle.hippo_engine_checks.specs.Deeds.{Deed, question_act}
use Rattle.hippo_engine_checks.specs.Deeds as deeds
use Rattle.hippo_engine_checks.specs.Judging.{judged}
use Rattle.hippo_engine_rules.specs.Effects.{deed_effect, judgement_effect}
use Rattle.hippo_engine_rules.specs.EffectLaws.{ChangesNothing, RefusalsChangeNothing, AddsNext, LinesAddTheNextEntry}

refused : (history : History) (world : World) (who : Speaker) (judgement : Checked Deed) (refusal : Refusal) → judgement ≡ Err refusal → ChangesNothing world (judgement_effect history world who judgement)
refused history world who (Err other) refusal e = record { added = refl; world_is = refl }
refused history world who (Ok deed) refusal e = absurd cc

pub refusals_change_nothing : RefusalsChangeNothing
refusals_change_nothing history world command refusal e = refused history world (who_commands command) (judged history world command) refusal e

adds : (history : History) (world : World) (deed : Deed) → AddsNext history world (deed_effect history world deed)
adds history world deeds.do_nothing = inl refl
adds history world (deeds.set_clock moment) = inl refl
adds history world (deeds.log_in number user pair) = inl refl
adds history world (deeds.log_out number) = inl refl
adds history world (deeds.hand_out number session at cursor count) = inl refl
adds history world (deeds.close_cursor number session at) = inl refl
adds history world (deeds.step_job number job count) = inl refl
adds history world (deeds.drop_job number) = inl refl
adds history world (deeds.end_watch number) = inl refl
adds history world (deeds.change act) = inr (act, refl)
adds history world (deeds.answer_question question) = inr (question_act question, refl)
adds history world (deeds.open_cursor session number question) = inr (question_act question, refl)
adds history world (deeds.extract question) = inr (question_act question, refl)
adds history world (deeds.explain entry) = inl refl
adds history world (deeds.audit audit) = inl refl
adds history world (deeds.begin_audit number audit) = inl refl
adds history world (deeds.watch number audit) = inl refl

carried : (history : History) (world : World) (who : Speaker) (judgement : Checked Deed) → AddsNext history world (judgement_effect history world who judgement)
carried history world who (Ok deed) = adds history world deed
carried history world who (Err refusal) = inl refl

pub lines_add_the_next_entry : LinesAddTheNextEntry
lines_add_the_next_entry history world command = carried history world (who_commands command) (judged history world command)
