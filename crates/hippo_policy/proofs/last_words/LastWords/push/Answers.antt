-- The new value is appended to those of the key.
use Rattle.std.proofs.Common.{◌∙◌, ◌++◌, [], ◌∷◌}
use Rattle.hippo_policy.specs.declared.sayings.Sayings.{Sayings}
use Rattle.hippo_policy.specs.Words.{kept_words, clamped_number}
use Rattle.hippo_policy.proofs.BookLemmas.{on_err}
use Rattle.hippo_policy.proofs.KeyLemmas.{kept-changed, done_if-same}
use Rattle.hippo_policy.proofs.last_words.LastWords.push.Goals as goal

pub returns-in_ok-push-in-Some-clause-ok : goal.returns-in_ok-push-in-Some-clause-ok
returns-in_ok-push-in-Some-clause-ok g c other =
    kept-changed g.K.PartialEq.eq g.met.K.Eq.laws c.args.self.now.words.entries c.args.key other c.in-Some.words.now c.push.new.self (λ (words : Sayings g.row.W.Denot). words.said.items) [] (λ words. words ++ clamped_number words c.args.said ∷ [])
    (c.get_mut.follows.lender c.push.new.self).entries (c.get_mut.follows.holds c.push.new.self).0 c.in-Some.ensures.value c.in_ok-push-in-Some.ensures.ok

pub returns-in_err-push-in-Some-clause-err : goal.returns-in_err-push-in-Some-clause-err
returns-in_err-push-in-Some-clause-err g c = on_err c.from_residual.result (λ other.
    kept-changed g.K.PartialEq.eq g.met.K.Eq.laws c.args.self.now.words.entries c.args.key other c.in-Some.words.now c.push.new.self (λ (words : Sayings g.row.W.Denot). words.said.items) [] (λ words. words)
    (c.get_mut.follows.lender c.push.new.self).entries (c.get_mut.follows.holds c.push.new.self).0 c.in-Some.ensures.value c.in_err-push-in-Some.ensures.err
    ∙ done_if-same (g.K.PartialEq.eq c.args.key other) (kept_words g.K.PartialEq.eq c.args.self.now other))
