-- Whether some qualifying combination has the chosen rows.
use Rattle.std.proofs.Common.{◌≡◌, zero, suc, Bool, true, false, ◌||◌, List, [], ◌∷◌, ◌++◌, map, refl, sym, ap, ◌∙◌, Option, Some, None, get_or, unwrap_or}
use Rattle.std.specs.Prelude.{slice_set, Ok}
use Rattle.std.specs.List.{list_any}
use Rattle.std.specs.Ordering.{is_eq, nat_cmp}
use Rattle.std.specs.Cmp.Lexicographic.{slice_cmp}
use Rattle.std.specs.Cmp.{eq_by_cmp_equiv}
use Rattle.std.proofs.lemmas.Bool.{false≢true}
use Rattle.std.proofs.lemmas.Cmp.{nat_list_cmp_total}
use Rattle.std.proofs.lemmas.List.Folds.{Any-from_list_any, list_any-append, list_any_at}
use Rattle.hippo_model.specs.declared.query.Expr.{Expr}
use Rattle.hippo_model.specs.declared.query.Masked.{Masked}
use Rattle.hippo_model.specs.Terms.{Place}
use Rattle.hippo_tables_keyed.specs.RowSets.{KeyedRows}
use Rattle.hippo_model.specs.Masking.{Choices}
use Rattle.hippo_join_lookups.specs.Places.{Fits, chosen_rows}
use Rattle.hippo_join_lookups.specs.Known.{is_chosen}
use Rattle.hippo_join_stages.specs.Finding.{Covers, has_places}
use Rattle.hippo_join_stages.specs.Visiting.{AreAll, Completes}
use Rattle.hippo_join.specs.Existence.{are_shown, HasOne, Decides}
use Rattle.hippo_join_stages.proofs.FindingLemmas.{whole-chosen_rows, covered-whole}
use Rattle.hippo_join_stages.proofs.FoundLemmas.{same_places}

pub decided : (fact : Type 0) (answer : Bool) → (answer ≡ true → fact) → (answer ≡ false → ¬ fact) → Decides fact (Ok answer)
decided fact true so not = so refl
decided fact false so not = not refl

-- when no stage is left, each row is chosen
pub all-chosen_rows : (slots : List (Option Place)) (places : List Place) → Covers [] slots → places ≡ map (λ slot. unwrap_or slot 0) slots → slots ≡ map Some places
all-chosen_rows slots places covers is = whole-chosen_rows slots (covered-whole slots covers) ∙ ap (map Some) (sym is)

pub fits-itself : (places : List Place) → Fits (map Some places) places
fits-itself [] = tt
fits-itself (place ∷ places) = (refl, fits-itself places)

-- a place that is no longer chosen
pub Fits-unset : (slots : List (Option Place)) (places : List Place) (table place : Place) → is_chosen slots table ≡ false → Fits (slice_set slots table (Some place)) places → Fits slots places
Fits-unset [] places table place unchosen fits = fits
Fits-unset (slot ∷ slots) [] zero place unchosen fits = absurd fits
Fits-unset (slot ∷ slots) [] (suc table) place unchosen fits = absurd fits
Fits-unset (None ∷ slots) (first ∷ places) zero place unchosen fits = fits.1
Fits-unset (Some fixed ∷ slots) (first ∷ places) zero place unchosen fits = absurd (false≢true (sym unchosen))
Fits-unset (None ∷ slots) (first ∷ places) (suc table) place unchosen fits = Fits-unset slots places table place unchosen fits
Fits-unset (Some fixed ∷ slots) (first ∷ places) (suc table) place unchosen fits = (fits.0, Fits-unset slots places table place unchosen fits.1)

-- whether some visited combination passes a test
pub any-of : (test : List Place → Bool) (some : List (List Place)) → list_any test some ≡ true → (places : List Place) × (has_places places some ≡ true) × (test places ≡ true)
any-of test some any =
    let one = Any-from_list_any test some any in
    let at : get_or some one.0 one.1 ≡ one.1 = one.3 in (
      one.1,
      list_any_at (λ other. is_eq (slice_cmp nat_cmp one.1 other)) some one.0 one.1 one.2 (ap (λ (other : List Place). is_eq (slice_cmp nat_cmp one.1 other)) at ∙ (eq_by_cmp_equiv nat_list_cmp_total).refl one.1),
      one.4,
    )

pub any-has : (test : List Place → Bool) (some : List (List Place)) (places : List Place) → has_places places some ≡ true → test places ≡ true → list_any test some ≡ true
any-has test some places has passes =
    let one = Any-from_list_any (λ other. is_eq (slice_cmp nat_cmp places other)) some has in
    let at : get_or some one.0 one.1 ≡ one.1 = one.3 in
    list_any_at test some one.0 one.1 one.2 (ap test (at ∙ sym (same_places places one.1 one.4)) ∙ passes)

-- what is found among all qualifying combinations with the chosen rows
pub one-found : (choices : Choices) (query : Masked) (seen : List Expr) (sets : List KeyedRows) (slots : List (Option Place)) (in_order : Bool) (all : List (List Place)) (found : Bool) → AreAll (Completes choices query sets slots) in_order all
    → found ≡ list_any (λ places. are_shown choices seen (chosen_rows sets places)) all → Decides (HasOne choices query seen sets slots) (Ok found)
one-found choices query seen sets slots in_order all found are is =
    decided (HasOne choices query seen sets slots) found
    (λ yes. let one = any-of (λ places. are_shown choices seen (chosen_rows sets places)) all (sym is ∙ yes) in let counts = are.sound one.0 one.1 in record { places = one.0; fits = counts.0; counts = counts.1; shows = one.2 })
    (λ not_so one. false≢true (sym not_so ∙ is ∙ any-has (λ places. are_shown choices seen (chosen_rows sets places)) all one.places (are.whole one.places (one.fits, one.counts)) one.shows))

-- one more visited combination, which passes or does not
module _ (test : List Place → Bool) (before : List (List Place)) (places : List Place) where
  pub any-there : (later : List (List Place)) → test places ≡ true → true ≡ list_any test (before ++ places ∷ [] ++ later)
  any-there later passes = sym (list_any-append test (before ++ places ∷ []) later ∙ ap (λ b. b || list_any test later) (list_any-append test before (places ∷ []) ∙ last (list_any test before) (test places) passes))
    where
      last : (old new : Bool) → new ≡ true → (old || (new || false)) ≡ true
      last true new e = refl
      last false new e = ap (λ b. b || false) e

  pub any-not : test places ≡ false → list_any test before ≡ list_any test (before ++ places ∷ [])
  any-not fails = sym (list_any-append test before (places ∷ []) ∙ last (list_any test before) (test places) fails)
    where
      last : (old new : Bool) → new ≡ false → (old || (new || false)) ≡ old
      last true new e = refl
      last false new e = ap (λ b. b || false) e
