-- Chaining of optional values.
use Rattle.std.specs.Prelude.{Option}
use Rattle.std.specs.Option.{option_and_then}

infixl 10 ◌>>=◌
-- passes a value to the next function; empty if either is empty
abbrev pub ◌>>=◌ : {A B : Type 0} → Option A → (A → Option B) → Option B
found >>= next = option_and_then next found
