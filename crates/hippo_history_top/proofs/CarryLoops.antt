-- The loops that tell the entries that are left, one member further on.
use Rattle.std.proofs.Common.{◌≡◌, ◌∙◌, ℕ, ◌+◌, ◌-◌, ◌<◌, ◌≤◌, Bool, true, false, cond, List, [], ◌∷◌, ◌++◌, filter, map, length, take, drop, reverse, get_or, Option, Some, refl, sym, ap, append_assoc, arith}
use Rattle.std.specs.Prelude.{◌&&◌}
use Rattle.std.specs.List.{range_with_len, zip}
use Rattle.std.proofs.lemmas.Bool.{false≢true}
use Rattle.std.proofs.lemmas.List.{append-nil, take_more, reverse-append}
use Rattle.std.proofs.lemmas.List.Elements.{filter-append}
use Rattle.hippo_values.specs.declared.moments.Moment.{Moment}
use Rattle.hippo_values.specs.declared.values.Value.{Value}
use Rattle.hippo_values.specs.Texts.{Txt}
use Rattle.hippo_model.specs.declared.entry.Act.{Act}
use Rattle.hippo_model.specs.declared.entry.Act.TheVariants.{Insert}
use Rattle.hippo_model.specs.declared.entry.Entry.{Entry}
use Rattle.hippo_model.specs.declared.schema.Schema.{Schema}
use Rattle.hippo_model.specs.Rows.{cell_at}
use Rattle.hippo_model.specs.Terms.{History, Place, Row}
use Rattle.hippo_typing_catalog.specs.Catalogs.{KnownNames}
use Rattle.hippo_typing_catalog.proofs.ListLemmas.{drop_at_get_or, range_at}
use Rattle.hippo_history_statements.specs.Telling.{is_set}
use Rattle.hippo_history_statements.proofs.SetPlaces.{set_taken, set_passed}
use Rattle.hippo_history_top.specs.CarryingOn.{is_filled_text, inserts_row, carried_lines, entries_carried}
use Rattle.hippo_history_top.specs.ScriptLines.{act_lines, clock_line, schema_named}

-- one more column: its text is filled and outside the key, or not
module _ (row : Row) (key : List Place) (place : Place) where
  abbrev is_filled : Place → Bool
  is_filled column = is_filled_text (cell_at row column)

  taken : (outside filled : Bool) → is_set key place ≡ outside → is_filled place ≡ filled → outside && filled ≡ true
      → filter is_filled (filter (is_set key) (range_with_len 0 (place + 1))) ≡ filter is_filled (filter (is_set key) (range_with_len 0 place)) ++ place ∷ []
  taken true true outside filled both =
      ap (filter is_filled) (set_taken key place outside) ∙ filter-append is_filled (filter (is_set key) (range_with_len 0 place)) (place ∷ [])
      ∙ ap (λ (b : Bool). filter is_filled (filter (is_set key) (range_with_len 0 place)) ++ cond b (place ∷ []) []) filled
  taken true false outside filled both = absurd (false≢true both)
  taken false filled outside is both = absurd (false≢true both)

  passed : (outside filled : Bool) → is_set key place ≡ outside → is_filled place ≡ filled → outside && filled ≡ false
      → filter is_filled (filter (is_set key) (range_with_len 0 (place + 1))) ≡ filter is_filled (filter (is_set key) (range_with_len 0 place))
  passed true true outside filled both = absurd (false≢true (sym both))
  passed true false outside filled both =
      ap (filter is_filled) (set_taken key place outside) ∙ filter-append is_filled (filter (is_set key) (range_with_len 0 place)) (place ∷ [])
      ∙ ap (λ (b : Bool). filter is_filled (filter (is_set key) (range_with_len 0 place)) ++ cond b (place ∷ []) []) filled
      ∙ append-nil (filter is_filled (filter (is_set key) (range_with_len 0 place)))
  passed false filled outside is both = ap (filter is_filled) (set_passed key place outside)

  pub filled_taken : (is_set key place && is_filled_text (cell_at row place)) ≡ true
      → filter (λ column. is_filled_text (cell_at row column)) (filter (is_set key) (range_with_len 0 (place + 1))) ≡ filter (λ column. is_filled_text (cell_at row column)) (filter (is_set key) (range_with_len 0 place)) ++ place ∷ []
  filled_taken both = taken (is_set key place) (is_filled place) refl refl both

  pub filled_passed : (is_set key place && is_filled_text (cell_at row place)) ≡ false
      → filter (λ column. is_filled_text (cell_at row column)) (filter (is_set key) (range_with_len 0 (place + 1))) ≡ filter (λ column. is_filled_text (cell_at row column)) (filter (is_set key) (range_with_len 0 place))
  filled_passed both = passed (is_set key place) (is_filled place) refl refl both

  more : (both : Bool) → (is_set key place && is_filled_text (cell_at row place)) ≡ both
      → filter (λ column. is_filled_text (cell_at row column)) (filter (is_set key) (range_with_len 0 (place + 1))) ≡ filter (λ column. is_filled_text (cell_at row column)) (filter (is_set key) (range_with_len 0 place)) ++ cond both (place ∷ []) []
  more true is = filled_taken is
  more false is = filled_passed is ∙ sym (append-nil (filter (λ column. is_filled_text (cell_at row column)) (filter (is_set key) (range_with_len 0 place))))

  pub filled_more : filter (λ column. is_filled_text (cell_at row column)) (filter (is_set key) (range_with_len 0 (place + 1))) ≡ filter (λ column. is_filled_text (cell_at row column)) (filter (is_set key) (range_with_len 0 place)) ++ cond (is_set key place && is_filled_text (cell_at row place)) (place ∷ []) []
  filled_more = more (is_set key place && is_filled_text (cell_at row place)) refl

-- what is made of each value and its place: one more
module _ (f : ℕ × Value → Value) (row : Row) (place : ℕ) (within : place < length row) where
  pub row_at : (value : Value) → value ≡ get_or row place value
      → map f (zip (range_with_len place (length row - place)) (drop place row)) ≡ f (place, value) ∷ map f (zip (range_with_len (place + 1) (length row - (place + 1))) (drop (place + 1) row))
  row_at value is i = map f (zip (range_at place (length row) within i) (drop_at_get_or row place value within is i))

-- the act is no INSERT of a row
pub other_lines : (schema : Schema) (act : Act) → inserts_row act ≡ false → carried_lines (Some schema) act ≡ act_lines (Some schema) act
other_lines schema (Insert table row) other = absurd (false≢true (sym other))
other_lines schema act other = refl

module _ (known : KnownNames) (start now : Txt) (clock : Option Moment) (entries : History) (place : ℕ) where
  last_first : (entry : Entry) → place < length entries → entry ≡ get_or entries (length entries - 1 - place) entry
      → reverse (take (length entries - place) entries) ≡ entry ∷ reverse (take (length entries - (place + 1)) entries)
  last_first entry within is =
      let last : ℕ = length entries - (place + 1) in
      let one_on : length entries - place ≡ last + 1 = omega (arith, within) in
      let there : length entries - 1 - place ≡ last = omega arith in
      ap (λ (n : ℕ). reverse (take n entries)) one_on ∙ ap reverse (take_more entries last entry (omega (arith, within)))
      ∙ reverse-append (take last entries) (get_or entries last entry ∷ [])
      ∙ ap (λ (e : Entry). e ∷ reverse (take last entries)) (ap (λ (n : ℕ). get_or entries n entry) (sym there) ∙ sym is)

  pub told_more : (entry : Entry) (next : Txt) → place < length entries → entry ≡ get_or entries (length entries - 1 - place) entry
      → next ≡ now ++ (clock_line clock entry.moment ++ carried_lines (schema_named known entry.act) entry.act)
      → now ++ entries_carried known clock (reverse (take (length entries - place) entries)) ≡ start
      → next ++ entries_carried known (Some entry.moment) (reverse (take (length entries - (place + 1)) entries)) ≡ start
  told_more entry next within is added so_far =
      let set : Txt = clock_line clock entry.moment in
      let lines : Txt = carried_lines (schema_named known entry.act) entry.act in
      let rest : Txt = entries_carried known (Some entry.moment) (reverse (take (length entries - (place + 1)) entries)) in
      ap (λ (t : Txt). t ++ rest) added ∙ append_assoc now (set ++ lines) rest ∙ ap (λ (t : Txt). now ++ t) (append_assoc set lines rest)
      ∙ ap (λ (left : History). now ++ entries_carried known clock left) (sym (last_first entry within is)) ∙ so_far

  pub told_all : length entries ≤ place → now ++ entries_carried known clock (reverse (take (length entries - place) entries)) ≡ start → now ≡ start
  told_all past so_far =
      let none : length entries - place ≡ 0 = omega (arith, past) in
      sym (append-nil now) ∙ ap (λ (n : ℕ). now ++ entries_carried known clock (reverse (take n entries))) (sym none) ∙ so_far
