-- The tallies of audit jobs.
use Rattle.std.specs.Prelude.{ℕ, Bool}

-- the tally of a job: the number of versions that it was given, and whether each of its steps
-- succeeded
pub record JobTally : Type 0 where
  pub taken : ℕ
  pub unbroken : Bool
