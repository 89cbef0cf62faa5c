-- Facts from `is_some`.
use Rattle.std.proofs.Common.{◌≡◌, refl, true, false, Option, Some, None, is_some}

-- an option that is not some is none
pub none_there : {A : Type 0} (found : Option A) → is_some found ≡ false → found ≡ None
none_there None is = refl
none_there (Some one) is = absurd cc

-- an option that is some has a value
pub some_there : {A : Type 0} (found : Option A) → is_some found ≡ true → (one : A) × (found ≡ Some one)
some_there None is = absurd cc
some_there (Some one) is = (one, refl)
