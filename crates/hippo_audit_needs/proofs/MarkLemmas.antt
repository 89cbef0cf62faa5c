-- The marks of a group after one more member.
use Rattle.std.proofs.Common.{◌≡◌, ℕ, ◌+◌, ◌<◌, arith, length, map, take, get_or, add-one, Bool, true, false, cond, ◌&&◌, ◌||◌, List, [], ◌∷◌, ◌++◌, refl, sym, ap, ◌∙◌}
use Rattle.std.specs.List.{list_any}
use Rattle.std.specs.Ordering.{is_eq}
use Rattle.std.proofs.Math.Seq.{take-suc}
use Rattle.std.proofs.lemmas.List.{map-append}
use Rattle.hippo_values.specs.declared.values.Value.{Value}
use Rattle.hippo_values.specs.declared.values.Value.TheVariants.{Null}
use Rattle.hippo_values.specs.Order.{value_cmp}
use Rattle.hippo_model.specs.declared.query.Out.{Out}
use Rattle.hippo_model.specs.declared.query.Out.TheVariants.{Column, Min, Max}
use Rattle.hippo_model.specs.declared.query.Masked.{Masked}
use Rattle.hippo_model.specs.Terms.{Combination, Place}
use Rattle.hippo_model.specs.Masking.{Choices, is_guarded, masked_passes, masked_items}
use Rattle.hippo_tables_keyed.specs.RowSets.{KeyedRows}
use Rattle.hippo_join_lookups.specs.Places.{stays}
use Rattle.hippo_join_stages.specs.Visiting.{counting}
use Rattle.hippo_join.proofs.VisitingLemmas.{filter-implied}
use Rattle.hippo_audit_search.specs.declared.marks.Mark.{Mark}
use Rattle.hippo_audit_search.specs.declared.marks.Mark.TheVariants.{Unmarked}
use Rattle.hippo_audit_search.specs.Marks.{mark_of, row_places}
use Rattle.hippo_audit_needs.specs.declared.group_marks.Best.{Best}
use Rattle.hippo_audit_needs.specs.GroupMarks.{PlacedRow, placed_rows, shown_value, member_places, best_by, best_of, best_after}
use Rattle.hippo_groups.proofs.BestTheorem.{IsBest, has, who_have_it, best-push, best-equal, who-equal, who-same, who-better}

-- the rows of the combinations that count are the rows of all
pub placed-counting : (choices : Choices) (query : Masked) (sets : List KeyedRows) (tables : List Place) (combinations : List Combination)
    → placed_rows choices query sets tables (counting choices query combinations) ≡ placed_rows choices query sets tables combinations
unfolding stays
placed-counting choices query sets tables combinations =
    ap (λ (some : List Combination). map (λ (rows : Combination). record { row = masked_items choices query rows; places = row_places sets tables rows }) some)
    (filter-implied (stays choices query) (λ rows. is_guarded choices query rows && masked_passes choices query rows) (λ rows counts. counts) combinations)

-- an output's best value if there is no member yet
pub no-best : (out : Out) → record { value = Null; mark = Unmarked } ≡ best_of [] out
no-best (Column place) = refl
no-best (Min place) = refl
no-best (Max place) = refl

-- the best values of some outputs, and one more output
pub no-best-more : (outs : List Out) (index : ℕ) (now later : List Best) → index < length outs → now ≡ map (best_of []) (take index outs) → later ≡ now ++ record { value = Null; mark = Unmarked } ∷ []
    → later ≡ map (best_of []) (take (index + 1) outs)
no-best-more outs index now later within so_far pushed =
    let out : Out = get_or outs index (Column 0) in
    pushed
    ∙ (λ i. so_far i ++ no-best out i ∷ [])
    ∙ sym (map-append (best_of []) (take index outs) (out ∷ []))
    ∙ ap (map (best_of [])) (sym (ap (λ (at : ℕ). take at outs) (add-one index) ∙ take-suc outs index (Column 0) within))

module _ (below : Value → Value → Bool) (lower : Value → Value → Value) (best : List Value → Value) (is : IsBest below lower best) (place : Place) (members : List PlacedRow) (member : PlacedRow) where
  abbrev value_of : PlacedRow → Value
  value_of one = shown_value place one.row

  abbrev more : List PlacedRow
  more = members ++ member ∷ []

  -- the members that have the best value
  abbrev pub who : List PlacedRow
  who = who_have_it below lower best is value_of members

  abbrev old_value : Value
  old_value = (best_by best place members).value

  who-then : member_places who ++ member.places ∷ [] ≡ member_places (who ++ member ∷ [])
  who-then = sym (map-append (λ (one : PlacedRow). one.places) who (member ∷ []))

  step : (is_better : Bool) → lower old_value (value_of member) ≡ cond is_better (value_of member) old_value
      → best_after old_value (member_places who) (value_of member) is_better member.places ≡ best_by best place more
  step is_better lower_is = by (has below lower best is value_of old_value member) refl is_better lower_is
    where
      by : (equal : Bool) → has below lower best is value_of old_value member ≡ equal
          → (is_better : Bool) → lower old_value (value_of member) ≡ cond is_better (value_of member) old_value
          → cond equal (record { value = old_value; mark = mark_of (member_places who ++ member.places ∷ []) })
          (cond is_better (record { value = value_of member; mark = mark_of (member.places ∷ []) }) (record { value = old_value; mark = mark_of (member_places who) }))
          ≡ best_by best place more
      by true e is_better lower_is = λ i. record {
        value = sym (best-equal below lower best is value_of members member e) i;
        mark = mark_of ((who-then ∙ ap member_places (sym (who-equal below lower best is value_of members member e))) i);
      }
      by false e true lower_is = λ i. record {
        value = sym (best-push below lower best is value_of members member ∙ lower_is) i;
        mark = mark_of (member_places (sym (who-better below lower best is value_of members member e lower_is) i));
      }
      by false e false lower_is = λ i. record {
        value = sym (best-push below lower best is value_of members member ∙ lower_is) i;
        mark = mark_of (member_places (sym (who-same below lower best is value_of members member e lower_is) i));
      }

  -- the best value after one more value
  pub taken : (old : Best) (value : Value) (places : List Place) → old ≡ best_by best place members → value ≡ value_of member → places ≡ member.places
      → (is_better : Bool) → lower old.value value ≡ cond is_better value old.value
      → best_after old.value (member_places who) value is_better places ≡ best_by best place more
  taken old value places old_is value_is places_is is_better lower_is =
      (λ i. best_after (old_is i).value (member_places who) (value_is i) is_better (places_is i))
      ∙ step is_better (sym (λ i. lower (old_is i).value (value_is i)) ∙ lower_is ∙ (λ i. cond is_better (value_is i) (old_is i).value))

-- one more value, by its comparisons with the best
module _ (old : Best) (who : List (List Place)) (value : Value) (places : List Place) where
  pub after-equal : (is_better : Bool) (mark : Mark) → is_eq (value_cmp value old.value) ≡ true → mark ≡ mark_of (who ++ places ∷ [])
      → record { value = old.value; mark = mark } ≡ best_after old.value who value is_better places
  after-equal is_better mark equal is =
      (λ i. record { value = old.value; mark = is i })
      ∙ sym (ap (λ (test : Bool). cond test (record { value = old.value; mark = mark_of (who ++ places ∷ []) })
      (cond is_better (record { value = value; mark = mark_of (places ∷ []) }) (record { value = old.value; mark = mark_of who }))) equal)

  after-other : (is_better : Bool) → is_eq (value_cmp value old.value) ≡ false
      → cond is_better (record { value = value; mark = mark_of (places ∷ []) }) (record { value = old.value; mark = mark_of who }) ≡ best_after old.value who value is_better places
  after-other is_better apart =
      sym (ap (λ (test : Bool). cond test (record { value = old.value; mark = mark_of (who ++ places ∷ []) })
      (cond is_better (record { value = value; mark = mark_of (places ∷ []) }) (record { value = old.value; mark = mark_of who }))) apart)

  pub after-better : (is_better : Bool) → is_eq (value_cmp value old.value) ≡ false → is_better ≡ true → record { value = value; mark = mark_of (places ∷ []) } ≡ best_after old.value who value is_better places
  after-better is_better apart better =
      sym (ap (λ (test : Bool). cond test (record { value = value; mark = mark_of (places ∷ []) }) (record { value = old.value; mark = mark_of who })) better) ∙ after-other is_better apart

  pub after-none : (is_better : Bool) → is_eq (value_cmp value old.value) ≡ false → is_better ≡ false → old.mark ≡ mark_of who → old ≡ best_after old.value who value is_better places
  after-none is_better apart better is =
      (λ i. record { value = old.value; mark = is i })
      ∙ sym (ap (λ (test : Bool). cond test (record { value = value; mark = mark_of (places ∷ []) }) (record { value = old.value; mark = mark_of who })) better) ∙ after-other is_better apart
