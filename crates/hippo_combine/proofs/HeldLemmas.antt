-- Held tables with one of them changed, and with one more.
use Rattle.std.proofs.Common.{◌≡◌, ◌∙◌, sym, ap, refl, subst, arith, ℕ, zero, suc, ◌+◌, ◌<◌, Bool, true, false, cond, List, [], ◌∷◌, ◌++◌, map, length, Option, None, Some, option_map}
use Rattle.std.specs.Prelude.{slice_get, slice_set, bytes_eq}
use Rattle.std.specs.List.{AllByRecursion, IsDistinct, position_or_len, sum_by}
use Rattle.std.specs.Option.{option_or}
use Rattle.std.proofs.lemmas.List.Folds.{find-append, find-set}
use Rattle.std.proofs.lemmas.List.Sums.{sum_by-cons}
use Rattle.std.proofs.lemmas.Option.{none-some, same_Some}
use Rattle.hippo_values.specs.declared.names.Name.{Name}
use Rattle.hippo_model.specs.declared.schema.Schema.{Schema}
use Rattle.hippo_intervals.specs.Living.{HeldLives}
use Rattle.hippo_combine.specs.Held.{lives_of, AreHeldAt}

-- ---- lists with one element changed, or one more
pub all-set : {X : Type 0} (P : X → Type 0) (xs : List X) (place : ℕ) (new : X) → P new → AllByRecursion P xs → AllByRecursion P (slice_set xs place new)
all-set P [] place new one all = all
all-set P (x ∷ xs) zero new one all = (one, all.1)
all-set P (x ∷ xs) (suc place) new one all = (all.0, all-set P xs place new one all.1)

pub all-push : {X : Type 0} (P : X → Type 0) (xs : List X) (new : X) → P new → AllByRecursion P xs → AllByRecursion P (xs ++ new ∷ [])
all-push P [] new one all = (one, tt)
all-push P (x ∷ xs) new one all = (all.0, all-push P xs new one all.1)

pub all-at : {X : Type 0} (P : X → Type 0) (xs : List X) (place : ℕ) (x : X) → slice_get xs place ≡ Some x → AllByRecursion P xs → P x
all-at P [] place x at all = absurd (none-some x at)
all-at P (y ∷ xs) zero x at all = subst P (same_Some y x at) all.0
all-at P (y ∷ xs) (suc place) x at all = all-at P xs place x at all.1

pub all-from : {X : Type 0} (P Q : X → Type 0) → ((x : X) → P x → Q x) → (xs : List X) → AllByRecursion P xs → AllByRecursion Q xs
all-from P Q stage [] all = tt
all-from P Q stage (x ∷ xs) all = (stage x all.0, all-from P Q stage xs all.1)

pub sum-set : {X : Type 0} (f : X → ℕ) (xs : List X) (place : ℕ) (old new : X) → slice_get xs place ≡ Some old → sum_by f (slice_set xs place new) + f old ≡ sum_by f xs + f new
sum-set f [] place old new at = absurd (none-some old at)
sum-set f (x ∷ xs) zero old new at =
    let same = ap f (same_Some x old at) in
    let now = sum_by-cons f new xs in
    let before = sum_by-cons f x xs in
    omega (arith, same, now, before)
sum-set f (x ∷ xs) (suc place) old new at =
    let rest = sum-set f xs place old new at in
    let now = sum_by-cons f x (slice_set xs place new) in
    let before = sum_by-cons f x xs in
    omega (arith, rest, now, before)

-- ---- the tables' names
abbrev pub name_of : HeldLives → Name
name_of lives = lives.schema.name

pub names-set : (tables : List HeldLives) (place : ℕ) (old new : HeldLives) → slice_get tables place ≡ Some old → new.schema ≡ old.schema → map name_of (slice_set tables place new) ≡ map name_of tables
names-set [] place old new at same = absurd (none-some old at)
names-set (first ∷ rest) zero old new at same =
    let one : first ≡ old = same_Some first old at in
    let name : new.schema.name ≡ first.schema.name = ap (λ (schema : Schema). schema.name) same ∙ sym (ap name_of one) in
    λ i. name i ∷ map name_of rest
names-set (first ∷ rest) (suc place) old new at same = λ i. first.schema.name ∷ names-set rest place old new at same i

module _ (table : Name) where
  abbrev has_name : HeldLives → Bool
  has_name lives = bytes_eq lives.schema.name table

  -- a name that no held table has differs from all their names
  pub others-differ : (tables : List HeldLives) → lives_of tables table ≡ None → AllByRecursion (λ (name : Name). bytes_eq name table ≡ false) (map name_of tables)
  others-differ [] none = tt
  others-differ (first ∷ rest) none =
      elim (has_name first) as (λ is. has_name first ≡ is → cond is (Some first) (lives_of rest table) ≡ None → AllByRecursion (λ (name : Name). bytes_eq name table ≡ false) (map name_of (first ∷ rest))) [
        | true ↦ λ is none. absurd (none-some first (sym none))
        | false ↦ λ is none. (is, others-differ rest none)
      ] refl none

  -- one more table is found if no other has its name
  pub lives_of-push : (tables : List HeldLives) (lives : HeldLives) → lives_of (tables ++ lives ∷ []) table ≡ option_or (lives_of tables table) (lives_of (lives ∷ []) table)
  lives_of-push tables lives = find-append has_name tables (lives ∷ [])

  -- the first table with the name is found after it is changed
  pub lives_of-set : (tables : List HeldLives) (place : ℕ) (new : HeldLives) → place ≡ position_or_len has_name tables → place < length tables → has_name new ≡ true → lives_of (slice_set tables place new) table ≡ Some new
  lives_of-set tables place new is within named = find-set has_name tables place new is within named

-- distinct names stay distinct with one more that is not among them
pub apart-push : (names : List Name) (name : Name) → AllByRecursion (λ (other : Name). bytes_eq other name ≡ false) names → IsDistinct bytes_eq names → IsDistinct bytes_eq (names ++ name ∷ [])
unfolding IsDistinct
apart-push [] name others apart = (tt, tt)
apart-push (first ∷ rest) name others apart =
    (all-push (λ (other : Name). bytes_eq first other ≡ false) rest name others.0 apart.0, apart-push rest name others.1 apart.1)

-- ---- the places of their rows
abbrev place_in : List HeldLives → Name → Option ℕ
place_in tables table = option_map (λ lives. lives.versions.place) (lives_of tables table)

module _ (number : ℕ) (table : Name) (old new : HeldLives) (same : new.schema ≡ old.schema) (stays : old.versions.place ≡ number → new.versions.place ≡ number) where
  place-set : (tables : List HeldLives) (place : ℕ) → slice_get tables place ≡ Some old → place_in tables table ≡ Some number → place_in (slice_set tables place new) table ≡ Some number
  place-set [] place at held = absurd (none-some old at)
  place-set (first ∷ rest) zero at held =
      let one : first ≡ old = same_Some first old at in
      let name : bytes_eq new.schema.name table ≡ bytes_eq first.schema.name table = ap (λ (schema : Schema). bytes_eq schema.name table) same ∙ sym (ap (has_name table) one) in
      let by : (is : Bool) → option_map (λ (lives : HeldLives). lives.versions.place) (cond is (Some first) (lives_of rest table)) ≡ Some number
      → option_map (λ (lives : HeldLives). lives.versions.place) (cond is (Some new) (lives_of rest table)) ≡ Some number
      = λ is. elim is as (λ is. option_map (λ (lives : HeldLives). lives.versions.place) (cond is (Some first) (lives_of rest table)) ≡ Some number
      → option_map (λ (lives : HeldLives). lives.versions.place) (cond is (Some new) (lives_of rest table)) ≡ Some number) [
        | true ↦ λ e. ap Some (stays (sym (ap (λ (lives : HeldLives). lives.versions.place) one) ∙ same_Some first.versions.place number e))
        | false ↦ λ e. e
      ] in
      ap (λ (is : Bool). option_map (λ (lives : HeldLives). lives.versions.place) (cond is (Some new) (lives_of rest table))) name ∙ by (has_name table first) held
  place-set (first ∷ rest) (suc place) at held =
      let later = place-set rest place at in
      elim (has_name table first) as (λ is. option_map (λ (lives : HeldLives). lives.versions.place) (cond is (Some first) (lives_of rest table)) ≡ Some number
      → option_map (λ (lives : HeldLives). lives.versions.place) (cond is (Some first) (lives_of (slice_set rest place new) table)) ≡ Some number) [
        | true ↦ λ e. e
        | false ↦ λ e. later e
      ] held

-- tables at a number are still there when a table is changed that stays there
pub held-set : (number : ℕ) (names : List Name) (tables : List HeldLives) (place : ℕ) (old new : HeldLives) → slice_get tables place ≡ Some old → new.schema ≡ old.schema → (old.versions.place ≡ number → new.versions.place ≡ number) → AreHeldAt number names tables → AreHeldAt number names (slice_set tables place new)
held-set number names tables place old new at same stays held =
    all-from (λ (table : Name). place_in tables table ≡ Some number) (λ (table : Name). place_in (slice_set tables place new) table ≡ Some number)
    (λ table. place-set number table old new same stays tables place at) names held

place-kept : (number : ℕ) (found more : Option HeldLives) → option_map (λ (lives : HeldLives). lives.versions.place) found ≡ Some number → option_map (λ (lives : HeldLives). lives.versions.place) (option_or found more) ≡ Some number
place-kept number None more held = absurd (none-some number held)
place-kept number (Some lives) more held = held

-- and when there is one more
pub held-push : (number : ℕ) (names : List Name) (tables : List HeldLives) (lives : HeldLives) → AreHeldAt number names tables → AreHeldAt number names (tables ++ lives ∷ [])
held-push number names tables lives held =
    all-from (λ (table : Name). place_in tables table ≡ Some number) (λ (table : Name). place_in (tables ++ lives ∷ []) table ≡ Some number)
    (λ table is. ap (option_map (λ (l : HeldLives). l.versions.place)) (lives_of-push table tables lives) ∙ place-kept number (lives_of tables table) (lives_of (lives ∷ []) table) is) names held
