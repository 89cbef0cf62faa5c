-- No other places are shared.
use Rattle.std.proofs.Common.{ℕ, Vec, Global}
use Rattle.hippo_audit_search.specs.Searching.{SharedBy}
use Rattle.hippo_audit_search.proofs.ToldLemmas.{told-first}
use Rattle.hippo_audit_search.proofs.told.first_told.Goals as goal

pub returns : goal.returns
returns g c =
    told-first (SharedBy g.C.ChoiceView.choices c.args.sides.now)
    (λ (places : Vec ℕ Global). places.items) c.args.told c.deref.result.now c.in_ok-shares.shares c.kept_if.result c.requires.told c.deref.ensures.value c.in_ok-shares.ensures c.kept_if.ensures
