-- Parts that can be read in only one way, and what is composed of them.
use Rattle.std.proofs.Common.{◌≡◌, ℕ, ◌<◌, ◌^◌, Bool, true, ◌&&◌, List, [], ◌∷◌, ◌++◌, length, refl, sym, ap, ◌∙◌, append_assoc, arith}
use Rattle.std.specs.List.{list_all, flat_map}
use Rattle.std.specs.Int.{Width, w32, w64, to_be_bytes, from_be_bytes}
use Rattle.std.proofs.lemmas.Bool.{and_parts}
use Rattle.std.proofs.lemmas.List.Concat.{flat_map-cons}
use Rattle.std.proofs.lemmas.Nat.{from_be_bytes-to_be_bytes_4, from_be_bytes-to_be_bytes_8}
use Rattle.hippo_model.specs.StoredForms.{list_bytes}

-- if two fitting parts begin the same bytes, they are the same, and so are the bytes after them
pub record IsReadOnce {A : Type 0} (fits : A → Bool) (write : A → List ℕ) : Type 0 where
  pub once : (x y : A) (r s : List ℕ) → fits x ≡ true → fits y ≡ true → write x ++ r ≡ write y ++ s → (x ≡ y) × (r ≡ s)

-- whatever fits
abbrev pub any : {A : Type 0} → A → Bool
any x = true

abbrev pub both_fit : {A B : Type 0} → (A → Bool) → (B → Bool) → A × B → Bool
both_fit fits fits_too p = fits p.0 && fits_too p.1

abbrev pub one_then_other : {A B : Type 0} → (A → List ℕ) → (B → List ℕ) → A × B → List ℕ
one_then_other write write_too p = write p.0 ++ write_too p.1

-- lists of the same length that begin the same list
pub split_alike : {A : Type 0} (a b r s : List A) → length a ≡ length b → a ++ r ≡ b ++ s → (a ≡ b) × (r ≡ s)
split_alike [] [] r s l e = (refl, e)
split_alike [] (y ∷ b) r s l e = absurd cc
split_alike (x ∷ a) [] r s l e = absurd cc
split_alike {A = A} (x ∷ a) (y ∷ b) r s l e =
    let same_length : length a ≡ length b = omega (arith, l) in
    let same_rest : a ++ r ≡ b ++ s = cc in
    let both = split_alike a b r s same_length same_rest in
    let same_first : x ≡ y = cc in
    (ap (λ (z : A). z ∷ a) same_first ∙ ap (λ (c : List A). y ∷ c) both.0, both.1)

-- nothing follows the parts
pub last : {A : Type 0} {fits : A → Bool} {write : A → List ℕ} → IsReadOnce fits write → (x y : A) → fits x ≡ true → fits y ≡ true → write x ≡ write y → x ≡ y
last {A = A} {fits = fits} {write = write} read x y f g e = (read.once x y [] [] f g (ap (λ (bytes : List ℕ). bytes ++ []) e)).0

-- one part after another
pub pair : {A B : Type 0} {fits : A → Bool} {fits_too : B → Bool} {write : A → List ℕ} {write_too : B → List ℕ} → IsReadOnce fits write → IsReadOnce fits_too write_too
    → IsReadOnce (both_fit fits fits_too) (one_then_other write write_too)
pair {A = A} {B = B} {fits = fits} {fits_too = fits_too} {write = write} {write_too = write_too} first second = record {
  once = λ x y r s f g e.
      let fx = and_parts (fits x.0) (fits_too x.1) f in
      let fy = and_parts (fits y.0) (fits_too y.1) g in
      let front = first.once x.0 y.0 (write_too x.1 ++ r) (write_too y.1 ++ s) fx.0 fy.0 (sym (append_assoc (write x.0) (write_too x.1) r) ∙ e ∙ append_assoc (write y.0) (write_too y.1) s) in
      let back = second.once x.1 y.1 r s fx.1 fy.1 front.1 in
      (ap (λ (a : A). (a, x.1)) front.0 ∙ ap (λ (b : B). (y.0, b)) back.0, back.1);
}

-- a fixed number of bytes from which the number can be recovered
fixed : (w : Width) (x y : ℕ) (r s : List ℕ) → length (to_be_bytes w x) ≡ length (to_be_bytes w y) → from_be_bytes w (to_be_bytes w x) ≡ x → from_be_bytes w (to_be_bytes w y) ≡ y
    → to_be_bytes w x ++ r ≡ to_be_bytes w y ++ s → (x ≡ y) × (r ≡ s)
fixed w x y r s l again again_too e =
    let both = split_alike (to_be_bytes w x) (to_be_bytes w y) r s l e in
    (sym again ∙ ap (from_be_bytes w) both.0 ∙ again_too, both.1)

-- a 64-bit number, and a 32-bit number
pub eight_bytes : (x y : ℕ) (r s : List ℕ) → x < 2 ^ 64 → y < 2 ^ 64 → to_be_bytes w64 x ++ r ≡ to_be_bytes w64 y ++ s → (x ≡ y) × (r ≡ s)
eight_bytes x y r s f g e = fixed w64 x y r s refl (from_be_bytes-to_be_bytes_8 x f) (from_be_bytes-to_be_bytes_8 y g) e

pub four_bytes : (x y : ℕ) (r s : List ℕ) → x < 2 ^ 32 → y < 2 ^ 32 → to_be_bytes w32 x ++ r ≡ to_be_bytes w32 y ++ s → (x ≡ y) × (r ≡ s)
four_bytes x y r s f g e = fixed w32 x y r s refl (from_be_bytes-to_be_bytes_4 x f) (from_be_bytes-to_be_bytes_4 y g) e

-- the members of lists of the same length
members : {A : Type 0} (fits : A → Bool) (write : A → List ℕ) → IsReadOnce fits write → (xs ys : List A) (r s : List ℕ) → length xs ≡ length ys → list_all fits xs ≡ true → list_all fits ys ≡ true
    → flat_map write xs ++ r ≡ flat_map write ys ++ s → (xs ≡ ys) × (r ≡ s)
members fits write read [] [] r s l f g e = (refl, e)
members fits write read [] (y ∷ ys) r s l f g e = absurd cc
members fits write read (x ∷ xs) [] r s l f g e = absurd cc
members {A = A} fits write read (x ∷ xs) (y ∷ ys) r s l f g e =
    let fx = and_parts (fits x) (list_all fits xs) f in
    let fy = and_parts (fits y) (list_all fits ys) g in
    let left : flat_map write (x ∷ xs) ++ r ≡ write x ++ (flat_map write xs ++ r) = ap (λ (b : List ℕ). b ++ r) (flat_map-cons write x xs) ∙ append_assoc (write x) (flat_map write xs) r in
    let right : flat_map write (y ∷ ys) ++ s ≡ write y ++ (flat_map write ys ++ s) = ap (λ (b : List ℕ). b ++ s) (flat_map-cons write y ys) ∙ append_assoc (write y) (flat_map write ys) s in
    let front = read.once x y (flat_map write xs ++ r) (flat_map write ys ++ s) fx.0 fy.0 (sym left ∙ e ∙ right) in
    let same_length : length xs ≡ length ys = omega (arith, l) in
    let back = members fits write read xs ys r s same_length fx.1 fy.1 front.1 in
    (ap (λ (z : A). z ∷ xs) front.0 ∙ ap (λ (zs : List A). y ∷ zs) back.0, back.1)

abbrev pub all_fit : {A : Type 0} → (List A → Bool) → (A → Bool) → List A → Bool
all_fit has_room fits xs = has_room xs && list_all fits xs

-- a count, and then that many members
pub a_list : {A : Type 0} (has_room : List A → Bool) {fits : A → Bool} {write : A → List ℕ} → IsReadOnce fits write → IsReadOnce (all_fit has_room fits) (list_bytes write)
a_list has_room {fits = fits} {write = write} read = record {
  once = λ xs ys r s f g e.
      let same_length : length xs ≡ length ys = cc in
      let same_members : flat_map write xs ++ r ≡ flat_map write ys ++ s = cc in
      members fits write read xs ys r s same_length (and_parts (has_room xs) (list_all fits xs) f).1 (and_parts (has_room ys) (list_all fits ys) g).1 same_members;
}
