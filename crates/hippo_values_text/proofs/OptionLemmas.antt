-- Clauses about an empty option.
use Rattle.std.proofs.Common.{◌≡◌, Option, None, Some, IfSome, IfNone, ap}

-- an implication carries over
pub IfNone_then : {X : Type 0} (r : Option X) {P Q : Type 0} → IfNone r P → (P → Q) → IfNone r Q
IfNone_then None p f = f p
IfNone_then (Some x) p f = tt

-- a fact that holds anyway
pub IfNone_always : {X : Type 0} (r : Option X) {P : Type 0} → P → IfNone r P
IfNone_always None p = p
IfNone_always (Some x) p = tt

-- an option that holds the one value with a property, and is empty only if no value has it
pub Some_of_unique : {X : Type 0} (r : Option X) (P : X → Type 0) → IfSome r P → IfNone r ((x : X) → ¬ (P x)) → ((x y : X) → P x → P y → x ≡ y) → (x : X) → P x → r ≡ Some x
Some_of_unique None P some none unique x h = absurd (none x h)
Some_of_unique (Some y) P some none unique x h = ap Some (unique y x some h)
