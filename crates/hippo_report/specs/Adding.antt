-- The effect of a call that adds a line to a text: it adds all of the line, or nothing.
use Rattle.std.specs.Prelude.{◌≡◌, ◌+◌, ◌≤◌, ◌++◌, ℕ, List, length, Result, IsOk, OnOk, OnErr}

-- a text is appended to the old one; the old one is unchanged if the call fails
pub record AddsWhole {A E : Type 0} (text : List ℕ) (result : Result A E) (old new : List ℕ)
    : Type 0 where
  pub ok : OnOk result (new ≡ old ++ text)
  pub err : OnErr result (new ≡ old)

-- as `AddsWhole`; and the call never fails while the result fits in `size` bytes
pub record AddsWithin {A E : Type 0} (size : ℕ) (text : List ℕ) (result : Result A E)
    (old new : List ℕ) : Type 0 where
  pub ok : OnOk result (new ≡ old ++ text)
  pub err : OnErr result (new ≡ old)
  pub room : length old + length text ≤ size → IsOk result
