-- The columns that remain.
use Rattle.std.proofs.Common.{◌≡◌, Bool, drop, bytes_eq}
use Rattle.hippo_model.specs.declared.schema.Column.{Column}
use Rattle.hippo_model.specs.Validity.{all_differ}
use Rattle.hippo_replay.proofs.schemas.names_differ.Given as goal

abbrev pub invariant-loop-place : goal.invariant-loop-place
invariant-loop-place l =
    let same : Column → Column → Bool = λ one other. bytes_eq one.name other.name in
    all_differ same (drop l.place l.columns) ≡ all_differ same l.columns
