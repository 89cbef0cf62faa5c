-- The alarms of a watch, line by line.
use Rattle.std.proofs.Common.{◌≡◌, ◌≢◌, ◌∙◌, inl, inr, sym, ap, subst, refl, ℕ, zero, suc, ◌+◌, Bool, true, false, nat_lt, if◌then◌else◌, List, [], ◌∷◌, ◌++◌, map, flat_map, length, slice_get, Option, None, Some, IfSome, Ok, Err, append_assoc, append-nil, option_and_then, option_to_list}
use Rattle.std.specs.List.{enumerate_from, AllByRecursion}
use Rattle.std.specs.Option.{option_flatten, option_map_or}
use Rattle.hippo_values.specs.Texts.{Txt}
use Rattle.hippo_io.specs.Lines.{LineText}
use Rattle.hippo_model.specs.declared.audit.Audit.{Audit}
use Rattle.hippo_model.specs.declared.audit.Flag.{Flag}
use Rattle.hippo_model.specs.declared.audit.SharedRow.{SharedRow}
use Rattle.hippo_model.specs.declared.entry.Entry.{Entry}
use Rattle.hippo_model.specs.Terms.{History}
use Rattle.hippo_model.specs.Audits.{shared_tuple, flag_by, flag_of}
use Rattle.hippo_typing.specs.Meanings.{meaning}
use Rattle.hippo_report_flags.specs.AlarmLines.{alarm_text}
use Rattle.hippo_report.specs.Refusals.{refusal_line}
use Rattle.hippo_report.specs.declared.refusal.Refusal.TheVariants.{Memory}
use Rattle.hippo_engine_sessions.specs.Worlds.{World, at_number, free_number}
use Rattle.hippo_stmt_lines.specs.Commands.{Command, command_of, who_commands}
use Rattle.hippo_engine_checks.specs.Deeds.{Deed, Question, question_act, next_entry}
use Rattle.hippo_engine_checks.specs.Deeds as deeds
use Rattle.hippo_engine_checks.specs.Checks.{Checked}
use Rattle.hippo_engine_checks.specs.Judging.{judged}
use Rattle.hippo_engine_rules.specs.Effects.{Effect, row_limit, question_rows, alarm_line, question_effect, world_with_cursor, deed_effect, judgement_effect, IsOutOfMemory, IsEffect}
use Rattle.hippo_engine_rules.specs.Runs.{IsRun}
use Rattle.hippo_engine_laws.specs.Lines.{NoneJudged}
use Rattle.hippo_engine_laws.specs.Watches.{alarm_of, alarm_texts, answer_to, question_answered, Heard, DeedHeard, JudgedHeard, flags_at, HasHeard}
use Rattle.hippo_engine_laws.specs.RunLaws.{AlarmsAreFlags, StandingAudits}
use Rattle.hippo_engine_laws.proofs.DeedLemmas.{IsFounded, founded}
use Rattle.hippo_engine_laws.proofs.PlaceLemmas.{elsewhere, free_there, not_free}
use Rattle.hippo_engine_laws.proofs.FlagLemmas.{shared_there, flags_there}

-- at a number of a list that is mapped
slice_get-mapped : {A B : Type 0} (f : A → Option B) (places : List (Option A)) (place : ℕ)
    → option_flatten (slice_get (map (option_and_then f) places) place) ≡ option_and_then f (option_flatten (slice_get places place))
slice_get-mapped f [] place = refl
slice_get-mapped f (first ∷ rest) zero = refl
slice_get-mapped f (first ∷ rest) (suc place) = slice_get-mapped f rest place

at_number-mapped : {A B : Type 0} (f : A → Option B) (places : List (Option A)) (number : ℕ)
    → at_number (map (option_and_then f) places) number ≡ option_and_then f (at_number places number)
at_number-mapped f places zero = refl
at_number-mapped f places (suc place) = slice_get-mapped f places place

either_watches : (test : Bool) (world other : World) → other.watches ≡ world.watches → (if test then world else other).watches ≡ world.watches
either_watches true world other same = refl
either_watches false world other same = same

module _ (history : History) (world : World) (question : Question) where
  -- the question's entry
  abbrev next : Entry
  next = next_entry history world (question_act question)

  as_flag : (number : ℕ) (found : Option (List SharedRow))
      → option_map_or (alarm_text number next.seq) found []
      ≡ option_map_or (alarm_of number) (option_and_then (flag_by next next.act) found) []
  as_flag number None = refl
  as_flag number (Some tuple) = refl

  flagged_there : (later : History) (audit : Audit) → flag_of meaning (history ++ later) audit next ≡ flag_of meaning history audit next
  flagged_there later audit = ap (option_and_then (flag_by next next.act)) (shared_there meaning history later audit next refl)

  one_alarm : (later : History) (number : ℕ) (audit : Audit) → alarm_line history next number audit ≡ option_map_or (alarm_of number) (flag_of meaning (history ++ later) audit next) []
  one_alarm later number audit =
      as_flag number (shared_tuple meaning history audit next)
      ∙ ap (λ (flag : Option Flag). option_map_or (alarm_of number) flag []) (sym (flagged_there later audit))

  abbrev flags_later : History → List (Option Audit) → List (Option Flag)
  flags_later later watches = map (option_and_then (λ audit. flag_of meaning (history ++ later) audit next)) watches

  each_alarm : (later : History) (number : ℕ) (watches : List (Option Audit))
      → flat_map (λ (at, held). option_map_or (alarm_line history next at) held []) (enumerate_from number watches)
      ≡ flat_map (λ (at, flag). option_map_or (alarm_of at) flag []) (enumerate_from number (flags_later later watches))
  each_alarm later number [] = refl
  each_alarm later number (None ∷ rest) = each_alarm later (number + 1) rest
  each_alarm later number (Some audit ∷ rest) = λ i. one_alarm later number audit i ++ each_alarm later (number + 1) rest i

  -- the reply to a question that is logged ends with the flags of any longer history
  asked_alarms : (reply : Txt) (after : World) (later : History)
      → (question_effect history world question reply after).reply ≡ (reply ++ []) ++ alarm_texts (flags_later later world.watches)
  asked_alarms reply after later = λ i. sym (append-nil reply) i ++ each_alarm later 1 world.watches i

module _ (history : History) (world : World) where
  answer_alarms : (question other : Question) (later : History) (reply : Txt) (after : World) → question ≡ other
      → (question_effect history world question reply after).reply ≡ (reply ++ []) ++ alarm_texts (flags_later history world other later world.watches)
  answer_alarms question other later reply after same =
      asked_alarms history world question reply after later
      ∙ ap (λ (q : Question). (reply ++ []) ++ alarm_texts (flags_later history world q later world.watches)) same

  done_alarms : (deed : Deed) (question : Question) (later : History) → question_answered deed ≡ Some question
      → (deed_effect history world deed).reply ≡ answer_to history world deed ++ alarm_texts (flags_later history world question later world.watches)
  done_alarms (deeds.answer_question question) other later is = answer_alarms question other later _ world cc
  done_alarms (deeds.open_cursor session number question) other later is = answer_alarms question other later _ world cc
  done_alarms (deeds.extract question) other later is = answer_alarms question other later _ world cc
  done_alarms deed other later is = absurd cc

pub alarms_are_flags : AlarmsAreFlags
alarms_are_flags history world command effect deed question later does is =
    ap (λ (e : Effect). e.reply) does.is_done ∙ done_alarms history world deed question (effect.added ++ later) is

module _ (audit : Audit) (number : ℕ) where
  -- the result of a line
  abbrev After : History → World → Command → Checked Deed → Effect → Type 0
  After history world command judgement effect =
      (heard : Option Heard) × JudgedHeard number history world command judgement effect heard
      × ((later : History) → IfSome heard (λ one. flags_at (history ++ (effect.added ++ later)) audit one.entry ≡ option_to_list one.flag))
      × (at_number effect.world.watches number ≡ Some audit)

  still : (world after : World) → at_number world.watches number ≡ Some audit → after.watches ≡ world.watches → at_number after.watches number ≡ Some audit
  still world after stands same = ap (λ (watches : List (Option Audit)). at_number watches number) same ∙ stands

  answered : (history : History) (world : World) (command : Command) (deed : Deed) (question : Question) (reply : Txt) (after : World)
      → question_answered deed ≡ Some question → (reply ++ []) ≡ answer_to history world deed → at_number world.watches number ≡ Some audit → after.watches ≡ world.watches
      → After history world command (Ok deed) (question_effect history world question reply after)
  answered history world command deed question reply after is answer stands same =
      let entry : Entry = next_entry history world (question_act question) in
      let one : Heard = record { entry = entry; flag = flag_of meaning (history ++ entry ∷ []) audit entry } in
      let effect : Effect = question_effect history world question reply after in (
        Some one,
        subst (λ (q : Option Question). DeedHeard number history world command deed q effect (Some one)) (sym is)
            (inl (
              one,
              refl,
              record {
                entry_is = refl;
                added = refl;
                flags = flags_later history world question (entry ∷ []) world.watches;
                says = asked_alarms history world question reply after (entry ∷ [])
                    ∙ ap (λ (own : Txt). own ++ alarm_texts (flags_later history world question (entry ∷ []) world.watches)) answer;
                flag_is = at_number-mapped (λ a. flag_of meaning (history ++ entry ∷ []) a entry) world.watches number
                    ∙ ap (option_and_then (λ a. flag_of meaning (history ++ entry ∷ []) a entry)) stands;
              },
            )),
        λ later. flags_there meaning history later audit entry refl
            ∙ ap option_to_list (flagged_there history world question (entry ∷ later) audit ∙ sym (flagged_there history world question (entry ∷ []) audit)),
        still world after stands same,
      )

  carried : (history : History) (world : World) (command : Command) → at_number world.watches number ≡ Some audit → (judgement : Checked Deed)
      → IsFounded world judgement → (judgement ≢ Ok (deeds.end_watch number)) → After history world command judgement (judgement_effect history world (who_commands command) judgement)
  carried history world command stands (Err refusal) fits kept = (None, refl, λ later. tt, stands)
  carried history world command stands (Ok (deeds.answer_question question)) fits kept = answered history world command (deeds.answer_question question) question _ world refl refl stands refl
  carried history world command stands (Ok (deeds.extract question)) fits kept = answered history world command (deeds.extract question) question _ world refl refl stands refl
  carried history world command stands (Ok (deeds.open_cursor session at question)) fits kept =
      answered history world command (deeds.open_cursor session at question) question _ (world_with_cursor world session at question (question_rows history world question)) refl refl stands
      (either_watches (nat_lt row_limit (length (question_rows history world question))) world _ refl)
  carried history world command stands (Ok (deeds.end_watch at)) fits kept =
      (None, refl, λ later. tt, elsewhere world.watches at number None (λ same. kept (ap (λ (n : ℕ). Ok (deeds.end_watch n)) same)) ∙ stands)
  carried history world command stands (Ok (deeds.watch at other)) fits kept =
      (None, refl, λ later. tt, elsewhere world.watches at number (Some other) (not_free world.watches at number audit fits stands) ∙ stands)
  carried history world command stands (Ok deed) fits kept = (None, refl, λ later. tt, stands)

  short : (history : History) (world : World) (command : Command) → at_number world.watches number ≡ Some audit → (judgement : Checked Deed)
      → (effect : Effect) → IsOutOfMemory history world (refusal_line (who_commands command) Memory) judgement effect → After history world command judgement effect
  short history world command stands (Ok (deeds.step_job at job count)) effect is = (None, refl, λ later. tt, still world effect.world stands (ap (λ (e : Effect). e.world.watches) is.is))
  short history world command stands (Ok (deeds.answer_question question)) effect is = (None, inr (is.said, refl), λ later. tt, still world effect.world stands (ap (λ (w : World). w.watches) is.same))
  short history world command stands (Ok (deeds.open_cursor session at question)) effect is = (None, inr (is.said, refl), λ later. tt, still world effect.world stands (ap (λ (w : World). w.watches) is.same))
  short history world command stands (Ok (deeds.extract question)) effect is = (None, inr (is.said, refl), λ later. tt, still world effect.world stands (ap (λ (w : World). w.watches) is.same))
  short history world command stands judgement effect is = (None, refl, λ later. tt, still world effect.world stands (ap (λ (e : Effect). e.world.watches) is))

  -- one line
  one_line : (history : History) (world : World) (command : Command) (effect : Effect) → at_number world.watches number ≡ Some audit
      → IsEffect history world command effect → (judged history world command ≢ Ok (deeds.end_watch number)) → After history world command (judged history world command) effect
  one_line history world command effect stands (inl is) kept =
      subst (After history world command (judged history world command)) (sym is)
      (carried history world command stands (judged history world command) (founded history world command) kept)
  one_line history world command effect stands (inr is) kept = short history world command stands (judged history world command) effect is.1

  -- line by line
  all_lines : (history : History) (world : World) (lines : List LineText) (effects : List Effect) → at_number world.watches number ≡ Some audit
      → IsRun history world lines effects → NoneJudged (deeds.end_watch number) history world lines effects → HasHeard number audit history world lines effects
  all_lines history world [] [] stands run kept = record { heard = []; each = tt; flags = λ later. tt }
  all_lines history world [] (effect ∷ effects) stands run kept = absurd run
  all_lines history world (line ∷ lines) [] stands run kept = absurd run
  all_lines history world (line ∷ lines) (effect ∷ effects) stands run kept =
      let after = one_line history world (command_of line) effect stands run.0 kept.0 in
      let rest = all_lines (history ++ effect.added) effect.world lines effects after.3 run.1 kept.1 in
      let more : History = flat_map (λ (e : Effect). e.added) effects in
      record {
        heard = after.0 ∷ rest.heard;
        each = (after.1, rest.each);
        flags = λ later.
            let here : history ++ (effect.added ++ (more ++ later)) ≡ (history ++ (effect.added ++ more)) ++ later =
            sym (append_assoc history (effect.added ++ more) later ∙ ap (λ (h : History). history ++ h) (append_assoc effect.added more later)) in
            let remaining : ((history ++ effect.added) ++ more) ++ later ≡ (history ++ (effect.added ++ more)) ++ later =
            ap (λ (h : History). h ++ later) (append_assoc history effect.added more) in (
              subst (λ (h : History). IfSome after.0 (λ one. flags_at h audit one.entry ≡ option_to_list one.flag)) here (after.2 (more ++ later)),
              subst (λ (h : History). AllByRecursion (λ of_line. IfSome of_line (λ one. flags_at h audit one.entry ≡ option_to_list one.flag)) rest.heard) remaining (rest.flags later),
            );
      }

pub standing_audits : StandingAudits
standing_audits history world line effect lines effects number audit run does kept =
    let free : free_number world.watches ≡ Some number = subst (IsFounded world) does.asks (founded history world (command_of line)) in
    let stands : at_number effect.world.watches number ≡ Some audit =
    subst (λ (e : Effect). at_number e.world.watches number ≡ Some audit) (sym does.is_done) (free_there world.watches number (Some audit) free) in
    all_lines audit number (history ++ effect.added) effect.world lines effects stands run.1 kept
