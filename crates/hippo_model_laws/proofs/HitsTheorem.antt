-- A combination that an audit needs satisfies the audit's conditions on each table alone.
use Rattle.std.proofs.Common.{◌≡◌, ℕ, zero, suc, ◌<◌, Bool, true, false, not, cond, ◌&&◌, ◌||◌, List, [], ◌∷◌, map, length, Option, Some, None, get_or, refl, sym, ap, subst, ◌∙◌, arith}
use Rattle.std.specs.Prelude.{filter, flat_map, find, is_some, option_and_then, ◌==◌, if◌then◌else◌}
use Rattle.std.specs.List.{list_any, list_all}
use Rattle.std.specs.Option.{option_map_or}
use Rattle.std.proofs.lemmas.Bool.{and_parts, and_from, eqb-true, or_from}
use Rattle.std.proofs.lemmas.List.{get_or-map, length-map}
use Rattle.std.proofs.lemmas.List.Folds.{list_all-append, list_all-map}
use Rattle.std.proofs.lemmas.List.Concat.{flat_map-cons}
use Rattle.hippo_values.specs.declared.moments.Moment.{Moment}
use Rattle.hippo_values.specs.declared.values.Value.{Value}
use Rattle.hippo_values.specs.declared.values.Value.TheVariants.{Null}
use Rattle.hippo_model.specs.declared.audit.Audit.{Audit}
use Rattle.hippo_model.specs.declared.audit.SharedRow.{SharedRow}
use Rattle.hippo_model.specs.declared.born_row.BornRow.{BornRow}
use Rattle.hippo_model.specs.declared.cells.Cell.TheVariants.{Shown, Denied}
use Rattle.hippo_model.specs.declared.entry.Act.{Act}
use Rattle.hippo_model.specs.declared.entry.Act.TheVariants.{Asked}
use Rattle.hippo_model.specs.declared.entry.Entry.{Entry}
use Rattle.hippo_model.specs.declared.query.CondOf.{CondOf}
use Rattle.hippo_model.specs.declared.query.Operand.{Operand}
use Rattle.hippo_model.specs.declared.query.Operand.TheVariants.{Column, Literal}
use Rattle.hippo_model.specs.declared.query.Query.{Query}
use Rattle.hippo_model.specs.declared.query.Ref.{Ref}
use Rattle.hippo_model.specs.declared.schema.Schema.{Schema}
use Rattle.hippo_model.specs.Terms.{History, Row, ShownRow, Place, Meaning}
use Rattle.hippo_model.specs.Histories.{before_entry, schema_at}
use Rattle.hippo_model.specs.Rows.{table_rows}
use Rattle.hippo_model.specs.Verdicts.{Context}
use Rattle.hippo_model.specs.Views.{unmasked_at}
use Rattle.hippo_model.specs.Conditions.{truth, is_true, outer_parts}
use Rattle.hippo_model.specs.Columns.{columns_in, condition_columns}
use Rattle.hippo_model.specs.Forms.{value_in}
use Rattle.hippo_model.specs.Answers.{product, selected_cells, operand_value, passes, unmasked_combinations}
use Rattle.hippo_model.specs.Audits.{common, virtual_tuples, has_tuple, query_needs, audit_needs, is_seen, serves, is_candidate, shared_by, shared_in, is_flagged}
use Rattle.hippo_model.specs.Hits.{own_conditions, value_in_row, is_hit}
use Rattle.hippo_model_laws.specs.Hits.{HasNoHits}
use Rattle.hippo_model_laws.proofs.NeededTuples.{needs_what_is_lost}
use Rattle.hippo_model.proofs.HeldParts.{parts-hold}
use Rattle.hippo_model_laws.proofs.OwnConditions.{truth-own}

module _ {A : Type 0} where
  with_one : (test : A → Bool) (counted : Bool) (first : A) (rest : List A) → (counted ≡ true → test first ≡ true) → list_all test rest ≡ true → list_all test (cond counted (first ∷ rest) rest) ≡ true
  with_one test true first rest here later = and_from (test first) (list_all test rest) (here refl) later
  with_one test false first rest here later = later

  -- if `counts` and `held` imply `test`, and all members pass `held`, then the members that pass
  -- `counts` pass `test`
  all_of_filter : (counts held test : A → Bool) → ((x : A) → counts x ≡ true → held x ≡ true → test x ≡ true) → (xs : List A) → list_all held xs ≡ true → list_all test (filter counts xs) ≡ true
  all_of_filter counts held test each [] all = refl
  all_of_filter counts held test each (x ∷ xs) all =
      let both = and_parts (held x) (list_all held xs) all in
      with_one test (counts x) x (filter counts xs) (λ counted. each x counted both.0) (all_of_filter counts held test each xs both.1)

  none_with_one : (counted : Bool) (first : A) (rest : List A) (later : Bool) → (length rest ≡ 0 → later ≡ true) → length (cond counted (first ∷ rest) rest) ≡ 0 → (not counted && later) ≡ true
  none_with_one true first rest later remaining none = absurd (omega (arith, none))
  none_with_one false first rest later remaining none = remaining none

  -- if no member passes, each one fails
  none_of_filter : (test : A → Bool) (xs : List A) → length (filter test xs) ≡ 0 → list_all (λ x. not (test x)) xs ≡ true
  none_of_filter test [] none = refl
  none_of_filter test (x ∷ xs) none = none_with_one (test x) x (filter test xs) (list_all (λ y. not (test y)) xs) (none_of_filter test xs) none

  always : (test : Bool) → test ≡ true → (xs : List A) → list_all (λ x. test) xs ≡ true
  always test e [] = refl
  always test e (x ∷ xs) = and_from test (list_all (λ y. test) xs) e (always test e xs)

  find_none : (test : A → Bool) → ((x : A) → test x ≡ false) → (xs : List A) → find test xs ≡ None
  find_none test none [] = refl
  find_none test none (x ∷ xs) = ap (λ found. cond found (Some x) (find test xs)) (none x) ∙ find_none test none xs

  all_of_flat_map : {B : Type 0} (passes : A → Bool) (test : B → Bool) (f : A → List B) → ((x : A) → passes x ≡ true → list_all test (f x) ≡ true) → (xs : List A) → list_all passes xs ≡ true → list_all test (flat_map f xs) ≡ true
  all_of_flat_map passes test f each [] all = refl
  all_of_flat_map passes test f each (x ∷ xs) all =
      let both = and_parts (passes x) (list_all passes xs) all in
      ap (list_all test) (flat_map-cons f x xs) ∙ list_all-append test (f x) (flat_map f xs)
      ∙ and_from (list_all test (f x)) (list_all test (flat_map f xs)) (each x both.0) (all_of_flat_map passes test f each xs both.1)

-- if each member of a list of the product passes a test, so does the member at its index in each
-- combination
module _ {A : Type 0} (test : A → Bool) (blank : A) where
  pub all_of_product : (lists : List (List A)) (place : ℕ) → place < length lists → list_all test (get_or lists place []) ≡ true → list_all (λ combination. test (get_or combination place blank)) (product lists) ≡ true
  all_of_product [] place within all = absurd (omega (arith, within))
  all_of_product (first ∷ lists) zero within all =
      all_of_flat_map test (λ combination. test (get_or combination zero blank)) (λ member. map (λ others. member ∷ others) (product lists))
      (λ member passed. list_all-map (λ combination. test (get_or combination zero blank)) (λ others. member ∷ others) (product lists) ∙ always (test member) passed (product lists)) first all
  all_of_product (first ∷ lists) (suc place) within all =
      let remaining : list_all (λ combination. test (get_or combination place blank)) (product lists) ≡ true = all_of_product lists place (omega (arith, within)) all in
      all_of_flat_map (λ member. true) (λ combination. test (get_or combination (suc place) blank)) (λ member. map (λ others. member ∷ others) (product lists))
      (λ member passed. list_all-map (λ combination. test (get_or combination (suc place) blank)) (λ others. member ∷ others) (product lists) ∙ remaining) first (always true refl first)

-- the value of an operand in a row of the table whose columns it uses
abbrev value_of : ShownRow → Operand → Value
value_of row (Column column) = value_in (get_or row column.column (Denied 0))
value_of row (Literal value) = value

abbrev is_of : Place → Ref → Bool
is_of table column = column.table == table

reads_row : (combination : List ShownRow) (table : Place) (operand : Operand) → list_all (is_of table) (columns_in operand) ≡ true → operand_value combination operand ≡ value_of (get_or combination table []) operand
reads_row combination table (Column column) own =
    ap (λ t. value_in (get_or (get_or combination t []) column.column (Denied 0))) (eqb-true _ _ (and_parts (is_of table column) true own).0)
reads_row combination table (Literal value) own = refl

shown_value : (row : Row) (place : Place) → value_in (get_or (map Shown row) place (Denied 0)) ≡ get_or row place Null
shown_value [] place = refl
shown_value (value ∷ row) zero = refl
shown_value (value ∷ row) (suc place) = shown_value row place

row_value : (row : Row) (operand : Operand) → value_of (map Shown row) operand ≡ value_in_row row operand
row_value row (Column column) = shown_value row column.column
row_value row (Literal value) = refl

abbrev is_found : List (CondOf Operand) → ShownRow → Bool
is_found conditions row = list_all (λ condition. is_true (truth (value_of row) condition)) conditions

found_hit : (conditions : List (CondOf Operand)) (kept : BornRow) → is_found conditions (map Shown kept.row) ≡ is_hit conditions kept
found_hit conditions kept = λ i. list_all (λ condition. is_true (truth (λ operand. row_value kept.row operand i) condition)) conditions

fails : (out pass hit : Bool) → (pass ≡ true → hit ≡ true) → not hit ≡ true → (out && pass) ≡ false
fails false pass hit step none = refl
fails true false hit step none = refl
fails true true true step none = absurd cc
fails true true false step none = sym (step refl)

none_lost : {A : Type 0} (out pass hit : A → Bool) → ((x : A) → pass x ≡ true → hit x ≡ true) → (xs : List A) → list_all (λ x. not (hit x)) xs ≡ true → list_any (λ x. out x && pass x) xs ≡ false
none_lost out pass hit each [] all = refl
none_lost out pass hit each (x ∷ xs) all =
    let both = and_parts (not (hit x)) (list_all (λ y. not (hit y)) xs) all in
    or_from (out x && pass x) (list_any (λ y. out y && pass y) xs) (fails (out x) (pass x) (hit x) (each x) both.0) (none_lost out pass hit each xs both.1)

middle_fails : (a b c : Bool) → b ≡ false → (a && b && c) ≡ false
middle_fails true b c e = ap (λ x. x && c) e
middle_fails false b c e = refl

if_none : {A : Type 0} (test : Bool) (found : Option A) → found ≡ None → (if test then found else None) ≡ None
if_none true found e = e
if_none false found e = refl

and_then_none : {A B : Type 0} (next : A → Option B) → ((x : A) → next x ≡ None) → (found : Option A) → option_and_then next found ≡ None
and_then_none next none None = refl
and_then_none next none (Some x) = none x

module _ (history : History) (audit : Audit) where
  -- if the audit's condition is true, the row of a table matches the audit's conditions on that
  -- table alone
  found_where_true : (table : Place) (combination : List ShownRow) → passes audit.cond combination ≡ true → is_found (own_conditions audit table) (get_or combination table []) ≡ true
  found_where_true table combination passed =
      all_of_filter (λ part. list_all (is_of table) (condition_columns part)) (λ part. is_true (truth (operand_value combination) part)) (λ part. is_true (truth (value_of (get_or combination table [])) part))
      (λ part own held. sym (ap is_true (truth-own (is_of table) (operand_value combination) (value_of (get_or combination table [])) (reads_row combination table) part own)) ∙ held)
      (outer_parts audit.cond) (parts-hold (operand_value combination) audit.cond ∙ passed)

  module _ (no_hits : HasNoHits history audit) where
    abbrev own : List (CondOf Operand)
    own = own_conditions audit no_hits.table

    none_found : (schema : Option Schema) → option_map_or (λ made. length (filter (is_hit own) (table_rows made history))) schema 0 ≡ 0
        → list_all (λ row. not (is_found own row)) (option_map_or (λ made. map (λ kept. map Shown kept.row) (table_rows made history)) schema []) ≡ true
    none_found None none = refl
    none_found (Some made) none =
        list_all-map (λ row. not (is_found own row)) (λ kept. map Shown kept.row) (table_rows made history)
        ∙ (λ i. list_all (λ kept. not (found_hit own kept i)) (table_rows made history)) ∙ none_of_filter (is_hit own) (table_rows made history) none

    none_in_product : list_all (λ combination. not (is_found own (get_or combination no_hits.table []))) (unmasked_combinations history audit) ≡ true
    none_in_product =
        let rows : List (List ShownRow) = map (unmasked_at history) audit.tables in
        let within : no_hits.table < length rows = subst (λ n. no_hits.table < n) (sym (length-map audit.tables (unmasked_at history))) no_hits.within in
        all_of_product (λ row. not (is_found own row)) [] rows no_hits.table within
        (ap (list_all (λ row. not (is_found own row))) (get_or-map (unmasked_at history) audit.tables no_hits.table [] [] no_hits.within)
        ∙ none_found (schema_at history (get_or audit.tables no_hits.table [])) no_hits.none)

    -- an audit without such rows needs no tuple
    pub needs_none : (tuple : List SharedRow) → audit_needs history audit tuple ≡ false
    needs_none tuple =
        needs_what_is_lost (selected_cells audit.columns) (passes audit.cond) (has_tuple history audit.tables tuple) (unmasked_combinations history audit)
        ∙ none_lost (has_tuple history audit.tables tuple) (passes audit.cond) (λ combination. is_found own (get_or combination no_hits.table [])) (found_where_true no_hits.table) (unmasked_combinations history audit) none_in_product

    -- no tuple serves
    pub serves_none : (context : Context) (query : Query) (tuple : List SharedRow) → serves history context query audit tuple ≡ false
    serves_none context query tuple =
        middle_fails (query_needs history context query tuple) (audit_needs history audit tuple) (not audit.shown || list_all (is_seen history context audit.tables tuple) audit.columns) (needs_none tuple)

    -- no query shares a tuple with it
    pub shares_none : (context : Context) (query : Query) → shared_by history context query audit ≡ None
    shares_none context query =
        if_none (is_candidate context query audit) (find (serves history context query audit) (virtual_tuples history (common query audit)))
        (find_none (serves history context query audit) (serves_none context query) (virtual_tuples history (common query audit)))

    shares_in_none : (meaning : Meaning) (moment : Moment) (act : Act) → shared_in meaning history audit moment act ≡ None
    shares_in_none meaning moment (Asked user purpose recipient text) =
        let context : Context = record { purpose = purpose; recipient = recipient; moment = moment } in
        and_then_none (λ query. shared_by history context query audit) (shares_none context) (meaning history text)
    shares_in_none meaning moment act = refl

-- no entry is flagged
pub flags_none : (meaning : Meaning) (history : History) (audit : Audit) (entry : Entry) → HasNoHits (before_entry entry history) audit → is_flagged meaning history audit entry ≡ false
flags_none meaning history audit entry no_hits = ap is_some (shares_in_none (before_entry entry history) audit no_hits meaning entry.moment entry.act)
