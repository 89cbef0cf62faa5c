-- The state of a line reader between two calls.
use Rattle.std.specs.Prelude.{ℕ, Bool, List, Option}
use Rattle.hippo_io.specs.declared.lines.LineFault.{LineFault}

-- the state of a line reader between two calls
pub record Position : Type 0 where
  -- the bytes read and not yet returned
  pub waiting : List ℕ
  -- how many bytes were read from the source
  pub taken : ℕ
  -- whether the source has ended
  pub ended : Bool
  -- the fault that was returned
  pub failure : Option LineFault
