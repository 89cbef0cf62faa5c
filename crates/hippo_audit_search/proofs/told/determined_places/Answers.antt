-- The settled rows are in every combination that counts.
use Rattle.std.proofs.Common.{ℕ, Vec, Global}
use Rattle.hippo_audit_search.proofs.ToldLemmas.{chosen-told}
use Rattle.hippo_audit_search.proofs.told.determined_places.Goals as goal

pub returns : goal.returns
returns g c =
    chosen-told (g.C.ChoiceView.choices c.args.side.now.choices.now) c.args.side.now.query.now c.args.side.now.sets.now c.in_ok-slots.slots.items c.deref.result.now c.args.tables.now
    (λ (places : Vec ℕ Global). places.items) c.in_ok-found.found c.in_ok-slots.ensures c.deref.ensures.value c.in_ok-found.ensures
