-- The pairs end with the shorter list.
use Rattle.std.proofs.Common.{nat_eq, length, sym, ap, ◌∙◌, rules}
use Rattle.std.specs.Map.{lookup}
use Rattle.std.proofs.lemmas.Slice.Zip.{zip_end}
use Rattle.hippo_typing_changes.proofs.ChangesLemmas.{zip-past_end}
use Rattle.hippo_typing_changes.proofs.columns.value_at.Goals as goal

pub returns : goal.returns
returns c =
    let places = c.args.places.now in
    let values = c.args.values.now in
    let ended = zip_end places values c.loop-known.yielded c.into_iter-known-iterator.result c.loop-known.known-iterator c.next.new.self _ (search rules) (search rules) c.loop-known.yielded_by c.in-None.is c.next.ensures.steps in
    let none = ap (lookup (nat_eq c.args.place)) (zip-past_end places values (length c.loop-known.yielded) ended) in
    sym (c.loop-known.invariant ∙ none)
