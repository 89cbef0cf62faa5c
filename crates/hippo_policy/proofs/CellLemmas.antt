-- The rules of the columns of tables after a change at one place.
use Rattle.std.proofs.Common.{◌≡◌, refl, arith, ℕ, zero, suc, List, [], ◌∷◌, ◌++◌, Bool, true, false, ◌&&◌, Some, nat_eq, slice_get}
use Rattle.std.specs.Prelude.{slice_set}
use Rattle.std.proofs.lemmas.Cmp.{nat_eq_equiv, nat_list_eq_equiv}
use Rattle.std.proofs.lemmas.Bool.Decides.{nat_tests}
use Rattle.std.specs.Cmp.{IsEquivalence}
use Rattle.std.specs.Option.{option_map_or}
use Rattle.hippo_policy.specs.declared.keys.CellKey.{CellKey}
use Rattle.hippo_policy.specs.declared.keys.TableKey.{TableKey}
use Rattle.hippo_policy.specs.declared.sayings.Sayings.{Sayings}
use Rattle.hippo_policy.specs.Keys.{same_table, same_cell_key}
use Rattle.hippo_policy.specs.Words.{Said}
use Rattle.hippo_policy.proofs.KeyLemmas.{done_if}

left_of : (a b : Bool) → (a && b) ≡ true → a ≡ true
left_of true b is = refl
left_of false b is = is

right_of : (a b : Bool) → (a && b) ≡ true → b ≡ true
right_of true b is = is
right_of false true is = refl
right_of false false is = is

-- an equivalence on each of two parts
both_equivalent : {K A B : Type 0} {E : A → A → Bool} {F : B → B → Bool} (f : K → A) (g : K → B) → IsEquivalence E → IsEquivalence F → IsEquivalence (λ x y. E (f x) (f y) && F (g x) (g y))
both_equivalent {E} {F} f g first second = record {
  refl = λ x. λ i. first.refl (f x) i && second.refl (g x) i;
  symm = λ x y. λ i. first.symm (f x) (f y) i && second.symm (g x) (g y) i;
  congr = λ x y z is. λ i. first.congr (f x) (f y) (f z) (left_of (E (f x) (f y)) (F (g x) (g y)) is) i && second.congr (g x) (g y) (g z) (right_of (E (f x) (f y)) (F (g x) (g y)) is) i;
}

pub same_table-equivalence : IsEquivalence same_table
same_table-equivalence = both_equivalent (λ (key : TableKey). key.purpose) (λ (key : TableKey). key) nat_list_eq_equiv (both_equivalent (λ (key : TableKey). key.recipient) (λ (key : TableKey). key.table) nat_list_eq_equiv nat_list_eq_equiv)

pub same_cell_key-equivalence : IsEquivalence same_cell_key
same_cell_key-equivalence = both_equivalent (λ (key : CellKey). key.table) (λ (key : CellKey). key.column) same_table-equivalence nat_eq_equiv

differs_below : (n : ℕ) → nat_eq 0 (suc n) ≡ false
differs_below n = grind (arith, nat_tests)

differs_above : (n : ℕ) → nat_eq (suc n) 0 ≡ false
differs_above n = grind (arith, nat_tests)

alike_above : (m n : ℕ) → nat_eq (suc m) (suc n) ≡ nat_eq m n
alike_above m n = grind (arith, nat_tests)

module _ {A : Type 0} where
  abbrev pub words_at : List (Sayings A) → ℕ → List (Said A)
  words_at columns column = option_map_or (λ words. words.said.items) (slice_get columns column) []

  -- one more column without rules
  pub words_at-append : (columns : List (Sayings A)) (empty : Sayings A) (other : ℕ) → empty.said.items ≡ [] → words_at (columns ++ empty ∷ []) other ≡ words_at columns other
  words_at-append [] empty zero nothing = nothing
  words_at-append [] empty (suc other) nothing = refl
  words_at-append (first ∷ rest) empty zero nothing = refl
  words_at-append (first ∷ rest) empty (suc other) nothing = words_at-append rest empty other nothing

  module _ (f : List (Said A) → List (Said A)) (old new : Sayings A) where
    -- the rules of one column are changed
    pub words_at-set : (columns : List (Sayings A)) (place other : ℕ) → slice_get columns place ≡ Some old → new.said.items ≡ f old.said.items → words_at (slice_set columns place new) other ≡ done_if f (nat_eq place other) (words_at columns other)
    words_at-set [] place other found changed = absurd cc
    words_at-set (first ∷ rest) zero zero found changed = let same : first ≡ old = cc in rw same changed
    words_at-set (first ∷ rest) zero (suc other) found changed = rw (differs_below other) refl
    words_at-set (first ∷ rest) (suc place) zero found changed = rw (differs_above place) refl
    words_at-set (first ∷ rest) (suc place) (suc other) found changed = rw (alike_above place other) (words_at-set rest place other found changed)

-- an update of a column of a table
pub done_both : {X : Type 0} (f : X → X) (is_table is_column : Bool) (old : X) → done_if (done_if f is_column) is_table old ≡ done_if f (is_table && is_column) old
done_both f true is_column old = refl
done_both f false is_column old = refl
