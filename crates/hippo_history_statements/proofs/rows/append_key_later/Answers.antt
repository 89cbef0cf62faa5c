use Rattle.std.proofs.Common.{◌++◌, flat_map, length, rules, sym, ap, ◌∙◌}
use Rattle.std.proofs.lemmas.List.{append-nil}
use Rattle.std.proofs.lemmas.Slice.Zip.{zip_end}
use Rattle.hippo_history_statements.specs.Telling.{assigned_text}
use Rattle.hippo_history_statements.proofs.PairLemmas.{Assigned, zip-past_end}
use Rattle.hippo_history_statements.proofs.rows.append_key_later.Goals as goal

pub returns : goal.returns
returns g c =
    let places = c.args.places.now in
    let values = c.args.values.now in
    let ended = zip_end places values c.loop-place.yielded c.into_iter-place-iterator.result c.loop-place.place-iterator c.next.new.self _ (search rules) (search rules) c.loop-place.yielded_by c.in-None.is c.next.ensures.steps in
    let none = zip-past_end places values (length c.loop-place.yielded) ended in
    let spelled = flat_map (λ (pair : Assigned). c.args.separator.now ++ assigned_text c.args.columns.now pair.0 pair.1) in
    record { adds = record { ok = sym (append-nil c.loop-place.out) ∙ (ap (λ pairs. c.loop-place.out ++ spelled pairs) (sym none) ∙ c.loop-place.invariant.0); err = tt } }
