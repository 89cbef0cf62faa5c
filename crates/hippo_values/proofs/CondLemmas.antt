-- A function applied to a conditional.
use Rattle.std.proofs.Common.{◌≡◌, Bool, true, false, cond, refl}

-- a function of a conditional is the conditional of its values
pub on_cond : {A B : Type 0} (f : A → B) (test : Bool) (x y : A) → f (cond test x y) ≡ cond test (f x) (f y)
on_cond f true x y = refl
on_cond f false x y = refl
