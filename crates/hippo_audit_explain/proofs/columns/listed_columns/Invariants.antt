-- The columns so far, followed by the remaining ones.
use Rattle.std.proofs.Common.{◌≡◌, ◌++◌, drop, filter}
use Rattle.std.specs.List.{enumerate_from}
use Rattle.hippo_model.specs.Denials.{is_listed}
use Rattle.hippo_audit_explain.specs.Listing.{denial_columns}
use Rattle.hippo_audit_explain.proofs.columns.listed_columns.Given as goal

abbrev pub invariant-loop-place : goal.invariant-loop-place
invariant-loop-place l =
    l.listed ++ filter (λ (place, column). is_listed l.query l.schema place) (enumerate_from l.place (drop l.place l.schema.columns))
    ≡ denial_columns l.query l.schema
