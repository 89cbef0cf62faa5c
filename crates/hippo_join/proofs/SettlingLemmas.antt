-- Rows that every qualifying combination has.
use Rattle.std.proofs.Common.{◌≡◌, ℕ, suc, ◌<◌, ◌≤◌, Bool, true, false, cond, List, [], ◌∷◌, ◌++◌, ◌+◌, append_assoc, drop, if◌then◌else◌, map, length, length-set, get_or, refl, sym, ap, subst, ◌∙◌, Option, Some, None, inl, inr, ◌⊎◌, arith}
use Rattle.std.specs.Prelude.{slice_set, filter, IfSome}
use Rattle.std.specs.List.{All, Contains}
use Rattle.std.proofs.lemmas.List.{append-nil, drop_all, drop_more}
use Rattle.std.proofs.lemmas.Bool.{false≢true}
use Rattle.std.proofs.lemmas.Option.{slice_get-get_or}
use Rattle.hippo_model.specs.declared.query.Masked.{Masked}
use Rattle.hippo_model.specs.Terms.{Place}
use Rattle.hippo_tables_keyed.specs.RowSets.{KeyedRows}
use Rattle.hippo_model.specs.Masking.{Choices}
use Rattle.hippo_join_stages.specs.declared.stages.Stage.{Stage}
use Rattle.hippo_join_lookups.specs.Known.{is_chosen, is_open}
use Rattle.hippo_join_lookups.specs.Places.{Fits, stands}
use Rattle.hippo_join.specs.Settling.{Settles}
use Rattle.hippo_join_stages.specs.Stages.{Reaches, ReachesFrom}
use Rattle.hippo_join_stages.specs.Walking.{IsWalkable, AreWalkable, CanWalk}
use Rattle.hippo_join_lookups.proofs.PlaceSteps.{get_or_default}
use Rattle.hippo_join_stages.proofs.FindingLemmas.{closed_chosen, first_or_later}
use Rattle.hippo_join_lookups.proofs.PruneLemmas.{long-enough}
use Rattle.hippo_join_lookups.proofs.SlotLemmas.{Fits-set}

module _ (choices : Choices) (query : Masked) (sets : List KeyedRows) where
  pub Settles_refl : (slots : List (Option Place)) → Settles choices query sets slots slots
  Settles_refl slots = record { long = refl; fits = λ places fits counts. fits }

  pub Settles-trans : (slots more most : List (Option Place)) → Settles choices query sets slots more → Settles choices query sets more most → Settles choices query sets slots most
  Settles-trans slots more most a b = record { long = b.long ∙ a.long; fits = λ places fits counts. b.fits places (a.fits places fits counts) counts }

  -- the row of a table with at most one candidate
  pub settles-one : (slots : List (Option Place)) (table : Place) (some : List Place) (first : Place) → table < length sets → ReachesFrom choices query sets slots table some → length some ≤ 1 → first ≡ get_or some 0 0
      → Settles choices query sets slots (slice_set slots table (Some first))
  settles-one slots table some first within reaches few is = record {
    long = length-set slots table (Some first);
    fits = λ places fits counts.
        let long = long-enough choices query sets places counts in
        let at = slice_get-get_or places table 0 (omega (arith, long)) in
        let has = reaches places fits counts (get_or places table 0) at in
        let least : has.0 ≡ 0 = omega (arith, has.1, few) in
        let here : get_or some 0 0 ≡ get_or places table 0 =
        ap (λ (k : ℕ). get_or some k 0) (sym least) ∙ get_or_default some has.0 (get_or places table 0) 0 has.1 ∙ has.2 in
        Fits-set slots places table first fits (at ∙ ap Some (sym (is ∙ here)));
  }

  pub only-settles : (slots : List (Option Place)) (table : Place) (some : List Place) (found : Option Place) → table < length sets → ReachesFrom choices query sets slots table some
      → IfSome found (λ first. (length some ≤ 1) × (first ≡ get_or some 0 0)) → IfSome found (λ first. Settles choices query sets slots (slice_set slots table (Some first)))
  only-settles slots table some None within reaches only = tt
  only-settles slots table some (Some first) within reaches only = settles-one slots table some first within reaches only.0 only.1

  -- the candidates, given the settled rows, are all that can qualify
  pub reaches-settled : (slots here : List (Option Place)) (table : Place) (some listed : List Place) → ((places : List Place) → stands choices query sets places ≡ true → Fits slots places) → here ≡ slots
      → ReachesFrom choices query sets here table some → listed ≡ some → Reaches choices query sets table listed
  reaches-settled slots here table some listed settled same reaches is places counts place at =
      subst (λ (l : List Place). Contains l place) (sym is) (reaches places (subst (λ (s : List (Option Place)). Fits s places) (sym same) (settled places counts)) counts place at)

-- a member that passes a test is kept
Contains-kept : (test : Place → Bool) (xs : List Place) (x : Place) → Contains xs x → test x ≡ true → Contains (filter test xs) x
Contains-kept test [] x has good = absurd (omega (arith, has.1))
Contains-kept test (first ∷ xs) x has good = elim (first_or_later first xs x has) as (λ _. Contains (filter test (first ∷ xs)) x) [
  | inl here ↦ subst (λ (b : Bool). Contains (cond b (first ∷ filter test xs) (filter test xs)) x) (sym (ap test here ∙ good)) (0, omega arith, here)
  | inr later ↦ remaining (test first) (Contains-kept test xs x later good)
]
  where
    remaining : (b : Bool) → Contains (filter test xs) x → Contains (cond b (first ∷ filter test xs) (filter test xs)) x
    remaining true has = (suc has.0, omega (arith, has.1), has.2)
    remaining false has = has

open_or_not : (b : Bool) → (b ≡ true) ⊎ (b ≡ false)
open_or_not true = inl refl
open_or_not false = inr refl

-- an order of all tables contains those whose rows are not chosen
pub covers-open : (order tables : List Place) (slots : List (Option Place)) (n : ℕ) → length slots ≡ n → ((table : Place) → table < n → Contains order table) → tables ≡ filter (is_open slots) order
    → (table : Place) → table < length slots → (is_chosen slots table ≡ true) ⊎ Contains tables table
covers-open order tables slots n long whole kept table within = elim (open_or_not (is_open slots table)) as (λ _. (is_chosen slots table ≡ true) ⊎ Contains tables table) [
  | inl still ↦ inr (subst (λ (l : List Place). Contains l table) (sym kept) (Contains-kept (is_open slots) order table (whole table (subst (λ (m : ℕ). table < m) long within)) still))
  | inr closed ↦ inl (closed_chosen slots table closed within)
]

-- stages of the remaining tables are those of a walk
pub walk-left : (choices : Choices) (query : Masked) (sets : List KeyedRows) (order tables : List Place) (stages here : List Stage) (slots : List (Option Place)) → AreWalkable choices query sets false tables stages → here ≡ stages → length slots ≡ length sets
    → ((table : Place) → table < length sets → Contains order table) → tables ≡ filter (is_open slots) order → CanWalk choices query sets false here slots
walk-left choices query sets order tables stages here slots are same long whole kept = record {
  long = long;
  walkable = subst (λ l. All (IsWalkable choices query sets) l) (sym same) (λ k d within. (are.each k d within).0);
  covers = λ table within.
      let here_are : map (λ (s : Stage). s.table) here ≡ tables = ap (λ (l : List Stage). map (λ s. s.table) l) same ∙ are.tables in
      subst (λ (l : List Place). (is_chosen slots table ≡ true) ⊎ Contains l table) (sym here_are) (covers-open order tables slots (length sets) long whole kept table within);
  rises = λ asked. absurd (false≢true asked);
}

-- one more member of a list was tested
pub kept-more : (test : Place → Bool) (xs : List Place) (i : ℕ) (so_far more whole : List Place) → i < length xs → more ≡ (if test (get_or xs i 0) then so_far ++ get_or xs i 0 ∷ [] else so_far)
    → so_far ++ filter test (drop i xs) ≡ whole → more ++ filter test (drop (i + 1) xs) ≡ whole
kept-more test xs i so_far more whole within pushed before = by (test x) refl pushed
  where
    x : Place
    x = get_or xs i 0

    rest : List Place
    rest = filter test (drop (i + 1) xs)

    here : filter test (drop i xs) ≡ cond (test x) (x ∷ rest) rest
    here = ap (filter test) (drop_more xs i 0 within)

    by : (b : Bool) → test x ≡ b → more ≡ (if b then so_far ++ x ∷ [] else so_far) → more ++ rest ≡ whole
    by true e pushed = ap (λ (l : List Place). l ++ rest) pushed ∙ append_assoc so_far (x ∷ []) rest ∙ sym (ap (λ (l : List Place). so_far ++ l) (here ∙ ap (λ (b : Bool). cond b (x ∷ rest) rest) e)) ∙ before
    by false e pushed = ap (λ (l : List Place). l ++ rest) pushed ∙ sym (ap (λ (l : List Place). so_far ++ l) (here ∙ ap (λ (b : Bool). cond b (x ∷ rest) rest) e)) ∙ before

pub kept-all : (test : Place → Bool) (xs : List Place) (i : ℕ) (so_far : List Place) → length xs ≤ i → so_far ++ filter test (drop i xs) ≡ filter test xs → so_far ≡ filter test xs
kept-all test xs i so_far past before = sym (append-nil so_far) ∙ sym (ap (λ (l : List Place). so_far ++ filter test l) (drop_all i xs past)) ∙ before
