-- The new rule is appended to those of the column.
use Rattle.std.proofs.Common.{rules, ◌∙◌, refl, length, ◌++◌, [], ◌∷◌}
use Rattle.std.proofs.lemmas.Option.{slice_get_read}
use Rattle.hippo_policy.specs.Words.{clamped_number}
use Rattle.hippo_policy.proofs.CellLemmas.{words_at-set}
use Rattle.hippo_policy.proofs.ruled_columns.RuledColumns.push.Goals as goal

pub returns-in_ok-push-in-Some-clause-ok : goal.returns-in_ok-push-in-Some-clause-ok
returns-in_ok-push-in-Some-clause-ok c other =
    words_at-set (λ words. words ++ clamped_number words c.args.said ∷ []) c.in-Some.words.now c.push.new.self c.widen.new.self.columns.items c.args.column other (slice_get_read c.widen.new.self.columns.items (length c.widen.new.self.columns.items) c.args.column c.in-Some.words.now refl (search rules) c.in-Some.ensures.value) c.in_ok-push-in-Some.ensures.ok
    ∙ rw (c.widen.ensures other) refl
