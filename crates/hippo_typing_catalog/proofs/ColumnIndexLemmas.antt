-- The first place that passes a test, after a member is appended.
use Rattle.std.proofs.Common.{◌≡◌, ℕ, ◌+◌, Bool, true, false, cond, List, [], ◌∷◌, ◌++◌, length, Option, None, Some, refl, ap, sym, ◌∙◌, arith}
use Rattle.std.specs.Prelude.{position}
use Rattle.std.specs.List.{position_from}
use Rattle.std.specs.Option.{option_or}
use Rattle.std.specs.Bool.{then_some}
use Rattle.std.proofs.lemmas.Iterator.Adapters.{position_from-zero}

place_or_none : (test : Bool) (place : ℕ) → cond test (Some place) None ≡ then_some test place
place_or_none true place = refl
place_or_none false place = refl

cond_or : (test : Bool) (place : ℕ) (rest later : Option ℕ) → cond test (Some place) (option_or rest later) ≡ option_or (cond test (Some place) rest) later
cond_or true place rest later = refl
cond_or false place rest later = refl

module _ {A : Type 0} (test : A → Bool) where
  position_from-push : (start : ℕ) (members : List A) (last : A) → position_from test start (members ++ last ∷ []) ≡ option_or (position_from test start members) (then_some (test last) (start + length members))
  position_from-push start [] last =
      let e : start + 0 ≡ start = omega arith in
      place_or_none (test last) start ∙ ap (then_some (test last)) (sym e)
  position_from-push start (first ∷ rest) last =
      let e : start + 1 + length rest ≡ start + length (first ∷ rest) = omega arith in
      ap (cond (test first) (Some start)) (position_from-push (start + 1) rest last ∙ ap (λ n. option_or (position_from test (start + 1) rest) (then_some (test last) n)) e)
      ∙ cond_or (test first) start (position_from test (start + 1) rest) (then_some (test last) (start + length (first ∷ rest)))

  pub position-push : (members : List A) (last : A) → position test (members ++ last ∷ []) ≡ option_or (position test members) (then_some (test last) (length members))
  position-push members last =
      let e : 0 + length members ≡ length members = omega arith in
      position_from-zero test (members ++ last ∷ []) ∙ position_from-push 0 members last
      ∙ ap (λ n. option_or (position_from test 0 members) (then_some (test last) n)) e
      ∙ ap (λ found. option_or found (then_some (test last) (length members))) (sym (position_from-zero test members))
