-- The new value is the only one of the key.
use Rattle.std.proofs.Common.{[], ◌∷◌}
use Rattle.std.specs.HashMap.{get}
use Rattle.hippo_policy.specs.declared.sayings.Sayings.{Sayings}
use Rattle.hippo_policy.specs.Words.{clamped_number}
use Rattle.hippo_policy.proofs.KeyLemmas.{kept-begun}
use Rattle.hippo_policy.proofs.last_words.LastWords.begin.Goals as goal

pub returns-clause-ok : goal.returns-clause-ok
returns-clause-ok g c other =
    kept-begun (λ (words : Sayings g.row.W.Denot). words.said.items) [] (g.K.PartialEq.eq c.args.key other) c.push.new.self (get g.K.PartialEq.eq c.args.self.now.words other) (get g.K.PartialEq.eq c.insert.new.self other) (clamped_number [] c.args.said ∷ [])
    (c.in_ok-insert.ensures.updates.0 other) (rw c.new-words.ensures at c.in_ok-push.ensures.ok)
