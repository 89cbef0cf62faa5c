-- Pairs of places and values.
use Rattle.std.proofs.Common.{◌≡◌, ℕ, List, [], length, drop, min, arith}
use Rattle.std.specs.List.{zip}
use Rattle.std.proofs.lemmas.List.{nil_from_length, length-drop}
use Rattle.std.proofs.lemmas.Slice.Zip.{length-zip}
use Rattle.hippo_values.specs.declared.values.Value.{Value}
use Rattle.hippo_model.specs.Terms.{Place}

abbrev pub Assigned : Type 0
Assigned = Place × Value

pub zip-past_end : {A B : Type 0} (xs : List A) (ys : List B) (n : ℕ) → n ≡ min (length xs) (length ys) → zip (drop n xs) (drop n ys) ≡ []
zip-past_end xs ys n ended =
    nil_from_length (zip (drop n xs) (drop n ys)) (rw (length-zip (drop n xs) (drop n ys), length-drop n xs, length-drop n ys) (omega arith))
