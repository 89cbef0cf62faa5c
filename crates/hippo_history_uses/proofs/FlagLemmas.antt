-- An audit of a cell of a row, by the row's key, flags a query exactly where the query sees the cell.
use Rattle.std.proofs.Common.{◌≡◌, ◌∙◌, sym, ap, refl, zero, suc, Bool, true, false, cond, List, [], ◌∷◌, map, Option, None, Some}
use Rattle.std.specs.Prelude.{◌&&◌, ◌||◌, is_some, option_and_then, slice_get, bytes_eq, filter_map, if◌then◌else◌}
use Rattle.std.specs.List.{cons_option, list_any}
use Rattle.std.specs.Option.{option_map_or}
use Rattle.std.proofs.lemmas.Bool.{and_parts, and_from, false≢true}
use Rattle.std.proofs.lemmas.Option.{none-some}
use Rattle.hippo_values.specs.declared.moments.Moment.{Moment}
use Rattle.hippo_values.specs.Order.{same_cells}
use Rattle.hippo_model.specs.declared.audit.Audit.{Audit}
use Rattle.hippo_model.specs.declared.audit.SharedRow.{SharedRow}
use Rattle.hippo_model.specs.declared.born_row.BornRow.{BornRow}
use Rattle.hippo_model.specs.declared.entry.Act.TheVariants.{Asked}
use Rattle.hippo_model.specs.declared.query.CondOf.{CondOf}
use Rattle.hippo_model.specs.declared.query.Operand.{Operand}
use Rattle.hippo_model.specs.declared.query.Query.{Query}
use Rattle.hippo_model.specs.declared.schema.Schema.{Schema}
use Rattle.hippo_model.specs.Answers.{product, passes}
use Rattle.hippo_model.specs.Audits.{common, virtual_tuples, query_needs, audit_needs, serves, first_serving, is_seen, row_named, in_period, is_candidate, shared_by, shared_in}
use Rattle.hippo_model.specs.Histories.{before_entry, schema_at}
use Rattle.hippo_model.specs.Rows.{key_of, table_rows, born_row_at, keys_named}
use Rattle.hippo_model.specs.Terms.{History, Key, Place}
use Rattle.hippo_model.specs.Verdicts.{Context, verdict}
use Rattle.hippo_model.specs.Views.{is_shown}
use Rattle.hippo_tables_keyed.specs.RowSets.{KeyedRows, kept_at}
use Rattle.hippo_tables_keyed.proofs.Orders.{same_exact}
use Rattle.hippo_tables_keyed.proofs.RowsAfter.{key_in-born_row_at}
use Rattle.hippo_typing.specs.Meanings.{meaning}
use Rattle.hippo_eval.specs.Unmasked.{all_shown}
use Rattle.hippo_audit_search.specs.Sharing.{audit_has, has_tuple_in}
use Rattle.hippo_audit_search.specs.HistoryLaws.{AuditNeedsWhatItHas}
use Rattle.hippo_audit_search.proofs.CommonLemmas.{same_as_itself}
use Rattle.hippo_history_uses.specs.Cells.{names_column}
use Rattle.hippo_history_uses.specs.Conditions.{own_column, key_is}
use Rattle.hippo_history_uses.specs.UseLaws.{audit_of_cell, FlagsSayWhatIsSeen}
use Rattle.hippo_history_uses.specs.Uses.{row_by_key, uses_row}
use Rattle.hippo_history_uses.proofs.ConditionLemmas.{key_equal, key_itself}
use Rattle.hippo_history_uses.proofs.RowLemmas.{found-any, any_at, none_at, who, any-map}
use Rattle.hippo_history_uses.proofs.UseLemmas.{singles, alone_each, key_same_itself}

-- ---- the row with a key of a table's row is that row
record ComesFrom {A B : Type 0} (f : A → Option B) (result : B) : Type 0 where
  member : A
  gives : f member ≡ Some result

at_first : {A B : Type 0} (f : A → Option B) (first : A) (later : List B) (result got : B) → ((place : Place) → slice_get later place ≡ Some result → ComesFrom f result)
    → f first ≡ Some got → (place : Place) → slice_get (got ∷ later) place ≡ Some result → ComesFrom f result
at_first f first later result got others is zero there = record { member = first; gives = is ∙ there }
at_first f first later result got others is (suc place) there = others place there

from_one : {A B : Type 0} (f : A → Option B) (members : List A) (place : Place) (result : B) → slice_get (filter_map f members) place ≡ Some result → ComesFrom f result
from_one f [] place result there = absurd (none-some result there)
from_one f (first ∷ rest) place result there =
    let others = λ (at : Place). from_one f rest at result in
    elim (f first) as (λ got. f first ≡ got → slice_get (cons_option got (filter_map f rest)) place ≡ Some result → ComesFrom f result) [
      | None ↦ λ is there. others place there
      | Some got ↦ λ is there. at_first f first (filter_map f rest) result got others is place there
    ] refl there

module _ (schema : Schema) (history : History) (place : Place) (kept : BornRow) (stands : slice_get (table_rows schema history) place ≡ Some kept) where
  pub born_itself : born_row_at schema history (key_of schema.key kept.row) ≡ Some kept
  born_itself =
      let its = from_one (born_row_at schema history) (keys_named schema history) place kept stands in
      ap (born_row_at schema history) (key_in-born_row_at schema history its.member kept its.gives) ∙ its.gives

-- ---- an audit of one cell
last_part : (a b c : Bool) → b ≡ true → (a && b && (c && true)) ≡ false → (a && c) ≡ false
last_part false b c holds none = refl
last_part true b false holds none = refl
last_part true b true holds none = absurd (false≢true (sym none ∙ (λ i. holds i && true)))

module _ (law : AuditNeedsWhatItHas) (history : History) (context : Context) (query : Query) (schema : Schema) (from to : Moment) (column : Place)
    (there : schema_at history schema.name ≡ Some schema) (among : list_any (bytes_eq schema.name) query.tables ≡ true)
    (place : Place) (chosen : BornRow) (stands : slice_get (table_rows schema history) place ≡ Some chosen) where
  abbrev condition : CondOf Operand
  condition = key_is schema.key chosen.row

  abbrev audit : Audit
  audit = audit_of_cell from to schema chosen.row column

  abbrev rows : List BornRow
  rows = table_rows schema history

  abbrev key : BornRow → Key
  key kept = key_of schema.key kept.row

  abbrev tuple : BornRow → List SharedRow
  tuple kept = row_by_key schema kept ∷ []

  common_is : common query audit ≡ schema.name ∷ []
  common_is = λ i. cond (among i) (schema.name ∷ []) []

  tuples_are : virtual_tuples history (common query audit) ≡ map tuple rows
  tuples_are =
      ap (virtual_tuples history) common_is
      ∙ (λ i. product (option_map_or (λ (made : Schema). map (λ (kept : BornRow). record { table = schema.name; key = key_of made.key kept.row }) (table_rows made history)) (there i) [] ∷ []))
      ∙ singles (row_by_key schema) rows

  -- whether the condition is true of some row with this row's key
  abbrev has_row : BornRow → BornRow → Bool
  has_row kept row = (same_cells (key row) (key kept) && true) && passes condition (all_shown (row ∷ []))

  abbrev set_by : Option Schema → KeyedRows
  set_by found = option_map_or (λ (made : Schema). kept_at made history) found (record { key = []; rows = [] })

  has_is : (kept : BornRow) → audit_has audit (set_by (schema_at history schema.name) ∷ []) (tuple kept) ≡ list_any (has_row kept) rows
  has_is kept =
      (λ i. audit_has audit (set_by (there i) ∷ []) (tuple kept))
      ∙ ap (list_any (λ combination. has_tuple_in (schema.name ∷ []) (kept_at schema history ∷ []) (tuple kept) combination && passes condition (all_shown combination))) (alone_each rows)
      ∙ any-map (λ combination. has_tuple_in (schema.name ∷ []) (kept_at schema history ∷ []) (tuple kept) combination && passes condition (all_shown combination)) (λ row. row ∷ []) rows
      ∙ rw (same_as_itself schema.name) refl

  needs_is : (kept : BornRow) → audit_needs history audit (tuple kept) ≡ list_any (has_row kept) rows
  needs_is kept = law history audit (tuple kept) (ap (λ b. b || false) (same_as_itself schema.name), tt) ∙ has_is kept

  abbrev shown_to : Schema → BornRow → Bool
  shown_to made kept = is_shown (verdict history context made kept column)

  abbrev is_visible : BornRow → Bool
  is_visible kept = is_seen history context (schema.name ∷ []) (tuple kept) (own_column column)

  -- the cell is that of the row with the key
  visible_by_key : (kept : BornRow) → key kept ≡ key chosen → is_visible kept ≡ shown_to schema chosen
  visible_by_key kept same =
      (λ i. option_map_or (λ (made : Schema). option_map_or (shown_to made) (row_named history (tuple kept) made) false) (there i) false)
      ∙ (λ i. option_map_or (shown_to schema) (option_and_then (λ shared. born_row_at schema history shared.key) (cond (same_as_itself schema.name i) (Some (row_by_key schema kept)) None)) false)
      ∙ (λ i. option_map_or (shown_to schema) (born_row_at schema history (same i)) false)
      ∙ (λ i. option_map_or (shown_to schema) (born_itself schema history place chosen stands i) false)

  abbrev is_shared : BornRow → Bool
  is_shared kept = uses_row history context query schema kept && list_any (has_row kept) rows && (is_visible kept && true)

  shared_is : (kept : BornRow) → serves history context query audit (tuple kept) ≡ is_shared kept
  shared_is kept = λ i. uses_row history context query schema kept && needs_is kept i && (is_visible kept && true)

  shares_is : is_some (first_serving history context query audit) ≡ list_any is_shared rows
  shares_is =
      found-any (serves history context query audit) (virtual_tuples history (common query audit))
      ∙ ap (list_any (serves history context query audit)) tuples_are
      ∙ any-map (serves history context query audit) tuple rows
      ∙ (λ i. list_any (λ kept. shared_is kept i) rows)

  abbrev sees : Bool
  sees = uses_row history context query schema chosen && shown_to schema chosen

  seen : list_any is_shared rows ≡ true → sees ≡ true
  seen some =
      let kept = who is_shared rows some in
      let parts = and_parts (uses_row history context query schema kept.member && list_any (has_row kept.member) rows) (is_visible kept.member && true) kept.passes in
      let first = and_parts (uses_row history context query schema kept.member) (list_any (has_row kept.member) rows) parts.0 in
      let row = who (has_row kept.member) rows first.1 in
      let both = and_parts _ _ row.passes in
      let same : key kept.member ≡ key chosen =
      sym (same_exact _ _ (and_parts _ _ both.0).0) ∙ key_equal row.member chosen.row schema.key both.1 in
      and_from (uses_row history context query schema chosen) (shown_to schema chosen)
      (ap (λ (k : Key). query_needs history context query (record { table = schema.name; key = k } ∷ [])) (sym same) ∙ first.0)
      (sym (visible_by_key kept.member same) ∙ (and_parts (is_visible kept.member) true parts.1).0)

  has_itself : list_any (has_row chosen) rows ≡ true
  has_itself = any_at (has_row chosen) rows place chosen stands (and_from _ _ (and_from _ _ (key_same_itself (key chosen)) refl) (key_itself chosen schema.key))

  not_seen : list_any is_shared rows ≡ false → sees ≡ false
  not_seen none =
      last_part (uses_row history context query schema chosen) (list_any (has_row chosen) rows) (shown_to schema chosen) has_itself
      (sym (λ i. uses_row history context query schema chosen && list_any (has_row chosen) rows && (visible_by_key chosen refl i && true))
      ∙ none_at is_shared rows place chosen stands none)

  -- the audit shares something exactly where the query used the row and was shown the cell
  pub shares_seen : is_some (first_serving history context query audit) ≡ sees
  shares_seen =
      shares_is
      ∙ elim (list_any is_shared rows) as (λ b. list_any is_shared rows ≡ b → b ≡ sees) [
        | true ↦ λ is. sym (seen is)
        | false ↦ λ is. sym (not_seen is)
      ] refl

-- ---- an entry
some_if : {A : Type 0} (test : Bool) (found : Option A) → is_some (if test then found else None) ≡ (test && is_some found)
some_if true found = refl
some_if false found = refl

and_true : (a b c : Bool) → ((a && true) && (b && c)) ≡ ((a && b) && c)
and_true true b c = refl
and_true false b c = refl

pub flags_say : AuditNeedsWhatItHas → FlagsSayWhatIsSeen
flags_say law history entry context query schema kept its from to column within =
    let front : History = before_entry entry history in
    let audit : Audit = audit_of_cell from to schema kept.row column in
    let period : in_period audit context.moment ≡ true = ap (in_period audit) its.moment_is ∙ within in
    (λ i. is_some (shared_in meaning front audit entry.moment (its.act_is i)))
    ∙ (λ i. is_some (shared_in meaning front audit (sym its.moment_is i) (Asked its.user context.purpose context.recipient its.text)))
    ∙ (λ i. is_some (option_and_then (λ (meant : Query). shared_by front context meant audit) (its.means i)))
    ∙ some_if (is_candidate context query audit) (first_serving front context query audit)
    ∙ (λ i. ((period i && true) && (names_column query schema.name column && true)) && shares_seen law front context query schema from to column its.schema_is its.named its.place kept its.stands i)
    ∙ and_true (names_column query schema.name column) (uses_row front context query schema kept) (is_shown (verdict front context schema kept column))
