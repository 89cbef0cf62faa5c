-- The text so far and the remaining columns make up the whole, and it begins with the old text.
use Rattle.std.proofs.Common.{◌≡◌, ◌++◌, flat_map, length, drop}
use Rattle.std.specs.List.{zip}
use Rattle.hippo_values_text.specs.Printing.{KeepsFront}
use Rattle.hippo_history_statements.specs.Telling.{assigned_text}
use Rattle.hippo_history_statements.proofs.rows.append_key_later.Given as goal

abbrev pub invariant-loop-place : goal.invariant-loop-place
invariant-loop-place g l =
    let n = length l.yielded in
    (l.out ++ flat_map (λ pair. l.separator ++ assigned_text l.columns pair.0 pair.1) (zip (drop n l.places) (drop n l.values))
    ≡ l.initial.out ++ flat_map (λ pair. l.separator ++ assigned_text l.columns pair.0 pair.1) (zip l.places l.values))
    × KeepsFront l.initial.out l.out
