-- The lines of a question make its entry again.
use Rattle.std.proofs.Common.{◌≡◌, ◌∙◌, ℕ, ◌<◌, true, false, not, ◌&&◌, List, [], ◌∷◌, ◌++◌, length, map, Option, Some, None, refl, ap, codes}
use Rattle.std.specs.Prelude.{◌==◌, is_some}
use Rattle.std.specs.List.{last_or, list_all}
use Rattle.std.specs.Option.{option_map_or}
use Rattle.std.proofs.Math.Nat.{sub-zero}
use Rattle.std.proofs.Math.Seq.{take-length}
use Rattle.std.proofs.lemmas.Bool.{and_parts, not-true, or_parts}
use Rattle.std.proofs.lemmas.List.{append-nil}
use Rattle.hippo_values.specs.Texts.{Txt}
use Rattle.hippo_values.specs.declared.names.Name.{Name}
use Rattle.hippo_values.proofs.OptionLemmas.{some_there}
use Rattle.hippo_io.specs.Lines.{LineText, text_line}
use Rattle.hippo_lexer.specs.Spelling.{begins_with, is_blank}
use Rattle.hippo_model.specs.declared.audit.Pair.{Pair}
use Rattle.hippo_model.specs.declared.entry.Act.TheVariants.{Asked}
use Rattle.hippo_model.specs.declared.entry.Entry.{Entry}
use Rattle.hippo_model.specs.declared.policy.Authorization.{Authorization}
use Rattle.hippo_model.specs.declared.policy.Authorization.TheVariants.{Yes, No}
use Rattle.hippo_stmt_ast.specs.declared.statement.RawSelect.{RawSelect}
use Rattle.hippo_stmt_ast.specs.declared.statement.Stmt.TheVariants as stmt
use Rattle.hippo_model.specs.Keepable.{act_is_keepable, is_folded_name, question_is_keepable}
use Rattle.hippo_model.specs.Rules.{authorized_at}
use Rattle.hippo_model.specs.Terms.{History}
use Rattle.hippo_model.specs.Validity.{is_acceptable, is_authorized}
use Rattle.hippo_typing_catalog.specs.Catalogs.{known_at}
use Rattle.hippo_typing.specs.Meanings.{Means, meaning}
use Rattle.hippo_typing.proofs.MeaningTheorem.{Means-found}
use Rattle.hippo_report.specs.declared.speaker.Speaker.TheVariants as speaker
use Rattle.hippo_report.specs.Notices.{done_line}
use Rattle.hippo_engine_sessions.specs.Worlds.{World, with_session}
use Rattle.hippo_stmt_lines.specs.Commands.{command_of}
use Rattle.hippo_engine_checks.specs.declared.asking.AnswerForm.TheVariants.{Rows}
use Rattle.hippo_engine_checks.specs.Deeds.{next_entry}
use Rattle.hippo_engine_checks.specs.Judging.{judged_question, text_between}
use Rattle.hippo_engine_rules.specs.Effects.{Effect, judgement_effect, effect_of, only_reply}
use Rattle.hippo_history_laws.proofs.ReadingTheorem.{three-names}
use Rattle.hippo_history_laws.specs.ScriptLaws.{ends_with, is_bare, is_free, is_lost, is_unfed, login_line_of, question_lines, history_by_rules}
use Rattle.hippo_history_laws.proofs.LineLemmas.{makes_request-it, logs-in-it, logs-out-it}
use Rattle.hippo_history_laws.proofs.JudgingLemmas.{ended-again, logged, login-judged, logout-judged, question-judged}
use Rattle.hippo_history_laws.proofs.QuestionLemmas.{asks-itself}

-- the bytes at the ends of a bare text
pub record IsBare (text : Txt) : Type 0 where
  pub front : begins_with is_blank text ≡ false
  pub end : ends_with is_lost text ≡ false
  pub one_line : list_all is_unfed text ≡ true

pub bare-parts : (text : Txt) → is_bare text ≡ true → IsBare text
bare-parts text bare =
    let outer = and_parts (not (begins_with is_blank text) && not (ends_with is_lost text))
    (list_all is_unfed text) bare in
    let ends =
    and_parts (not (begins_with is_blank text)) (not (ends_with is_lost text)) outer.0 in
    record {
      front = not-true (begins_with is_blank text) ends.0;
      end = not-true (ends_with is_lost text) ends.1;
      one_line = outer.1;
    }

last-fewer : (last : Option ℕ) → option_map_or is_lost last false ≡ false
    → option_map_or is_blank last false ≡ false
last-fewer None none = refl
last-fewer (Some byte) none = (or_parts (is_blank byte) (byte == 13) none).0

-- the answer of a valid history about a question
authorized-so : (said : Authorization) → is_authorized said ≡ true → said ≡ Yes
authorized-so Yes is = refl
authorized-so (No number) is = absurd cc

whole-text : (text : Txt) → text_between text 0 (length text) ≡ text
whole-text text = rw (sub-zero (length text)) (take-length text)

-- the first line opens session 1, the second adds the entry, and the third leaves the world as it
-- was
pub question-makes : (before : History) (world : World) (user purpose recipient : Name) (text : Txt)
    → is_free world ≡ true → act_is_keepable (Asked user purpose recipient text) ≡ true
    → is_acceptable meaning before (Asked user purpose recipient text) ≡ true
    → is_bare text ≡ true → length before < world.limit → (more : List LineText)
    → history_by_rules before world (map text_line (question_lines user purpose recipient text) ++ more)
    ≡ history_by_rules (before ++ next_entry before world (Asked user purpose recipient text) ∷ []) world more
question-makes before world user purpose recipient text free kept fit bare room more =
    let names = three-names user purpose recipient
    (and_parts (is_folded_name user && is_folded_name purpose && is_folded_name recipient)
    (question_is_keepable text) kept).0 in
    let fits = and_parts (is_authorized (authorized_at before user purpose recipient))
    (is_some (meaning before text)) fit in
    let may = authorized-so (authorized_at before user purpose recipient) fits.0 in
    let found = some_there (meaning before text) fits.1 in
    let means : Means (known_at before) text found.0 =
    Means-found (known_at before) text found.0 found.1 in
    let is = bare-parts text bare in
    let select : RawSelect = means.select in
    let itself = asks-itself text select is.front (last-fewer (last_or None text) is.end)
    means.read in
    let pair : Pair = record { purpose = purpose; recipient = recipient } in
    let w : World = logged world user pair in
    let made : Entry = next_entry before world (Asked user purpose recipient text) in
    let so_far : History = before ++ made ∷ [] in
    let question : LineText = text_line (codes "1 " ++ text) in
    let logout : LineText = text_line (codes "1 logout") in
    let opens : effect_of before world (command_of (text_line
    (login_line_of user purpose recipient))) ≡ only_reply w (done_line (speaker.Session 1)) =
    ap (effect_of before world) (logs-in-it user purpose recipient names.0 names.1 names.2)
    ∙ ap (judgement_effect before world (speaker.Session 1)) (login-judged before world user pair free may) in
    let judged_so =
    ap (judged_question Rows before w (speaker.Session 1) select) (whole-text text)
    ∙ question-judged before world user pair free may select text means.right room in
    let asks =
    ap (effect_of before w)
    (makes_request-it text (stmt.Select select 0 (length text)) itself.begins itself.is)
    ∙ ap (judgement_effect before w (speaker.Session 1)) judged_so in
    let ends : effect_of so_far w (command_of logout)
    ≡ only_reply (with_session w 1 None) (done_line (speaker.Session 1)) =
    ap (effect_of so_far w) logs-out-it
    ∙ ap (judgement_effect so_far w (speaker.Session 1)) (logout-judged before world user pair free may) in
    ap (λ (e : Effect). history_by_rules (before ++ e.added) e.world (question ∷ logout ∷ more)) opens
    ∙ ap (λ (h : History). history_by_rules h w (question ∷ logout ∷ more)) (append-nil before)
    ∙ ap (λ (e : Effect). history_by_rules (before ++ e.added) e.world (logout ∷ more)) asks
    ∙ ap (λ (e : Effect). history_by_rules (so_far ++ e.added) e.world more) ends
    ∙ ap (λ (h : History). history_by_rules h (with_session w 1 None) more) (append-nil so_far)
    ∙ ap (λ (v : World). history_by_rules so_far v more) (ended-again world user pair free)
