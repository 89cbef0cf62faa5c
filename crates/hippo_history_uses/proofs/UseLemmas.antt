-- What an audit of a table's rows shares with a query says which of the rows the query used.
use Rattle.std.proofs.Common.{◌≡◌, ◌∙◌, sym, ap, refl, ℤ, Bool, true, false, cond, List, [], ◌∷◌, map, Option, None, Some}
use Rattle.std.specs.Prelude.{◌&&◌, ◌||◌, is_some, option_and_then, slice_get, flat_map, bytes_eq}
use Rattle.std.specs.Cmp.{tied_itself}
use Rattle.std.specs.List.{list_any}
use Rattle.std.specs.Option.{option_map_or}
use Rattle.std.specs.Ordering.{is_eq, int_eq}
use Rattle.std.proofs.lemmas.Bool.{and_parts, and_from, false≢true}
use Rattle.std.proofs.lemmas.Bool.Decides.{Decides-int_eq}
use Rattle.hippo_values.specs.declared.moments.Moment.{Moment}
use Rattle.hippo_values.specs.declared.values.Value.{Value}
use Rattle.hippo_values.specs.declared.values.Value.TheVariants.{Null, Int, Text, Day}
use Rattle.hippo_values.specs.Order.{same_cells}
use Rattle.hippo_model.specs.declared.audit.Audit.{Audit}
use Rattle.hippo_model.specs.declared.audit.SharedRow.{SharedRow}
use Rattle.hippo_model.specs.declared.born_row.BornRow.{BornRow}
use Rattle.hippo_model.specs.declared.query.CondOf.{CondOf}
use Rattle.hippo_model.specs.declared.query.Operand.{Operand}
use Rattle.hippo_model.specs.declared.query.Query.{Query}
use Rattle.hippo_model.specs.declared.schema.Schema.{Schema}
use Rattle.hippo_model.specs.Answers.{product, passes}
use Rattle.hippo_model.specs.Audits.{common, virtual_tuples, query_needs, audit_needs, serves, first_serving}
use Rattle.hippo_model.specs.Histories.{schema_at}
use Rattle.hippo_model.specs.Rows.{cell_at, key_of, table_rows}
use Rattle.hippo_model.specs.Terms.{History, Key, Place}
use Rattle.hippo_model.specs.Verdicts.{Context, number_in}
use Rattle.hippo_tables_keyed.specs.RowSets.{KeyedRows, kept_at}
use Rattle.hippo_tables_keyed.proofs.Orders.{cells_total, same_exact}
use Rattle.hippo_eval.specs.Unmasked.{all_shown}
use Rattle.hippo_audit_search.specs.Sharing.{audit_has, has_tuple_in}
use Rattle.hippo_audit_search.specs.HistoryLaws.{AuditNeedsWhatItHas}
use Rattle.hippo_audit_search.proofs.CommonLemmas.{same_as_itself}
use Rattle.hippo_history_uses.specs.Conditions.{column_is, key_is, audit_of_rows}
use Rattle.hippo_history_uses.specs.Uses.{is_patients_row, row_by_key, uses_row, used_rows}
use Rattle.hippo_history_uses.proofs.ConditionLemmas.{same_value, same_itself, column-true, key_equal, key_itself}
use Rattle.hippo_history_uses.proofs.RowLemmas.{found-any, any_at, none_at, who, filter-none, any-map}

pub singles : {A B : Type 0} (f : A → B) (members : List A) → flat_map (λ member. map (λ others. member ∷ others) ([] ∷ [])) (map f members) ≡ map (λ member. f member ∷ []) members
singles f [] = refl
singles f (first ∷ rest) = λ i. (f first ∷ []) ∷ singles f rest i

itself : {A : Type 0} (members : List A) → map (λ member. member) members ≡ members
itself [] = refl
itself (first ∷ rest) = λ i. first ∷ itself rest i

pub alone_each : {A : Type 0} (members : List A) → flat_map (λ member. map (λ others. member ∷ others) ([] ∷ [])) members ≡ map (λ member. member ∷ []) members
alone_each [] = refl
alone_each (first ∷ rest) = λ i. (first ∷ []) ∷ alone_each rest i

pub key_same_itself : (key : Key) → same_cells key key ≡ true
key_same_itself key = ap is_eq (tied_itself cells_total key)

module _ (law : AuditNeedsWhatItHas) (history : History) (context : Context) (query : Query) (schema : Schema) (moment : Moment) (condition : CondOf Operand)
    (there : schema_at history schema.name ≡ Some schema) (among : list_any (bytes_eq schema.name) query.tables ≡ true) where
  abbrev audit : Audit
  audit = audit_of_rows schema.name moment [] condition

  abbrev rows : List BornRow
  rows = table_rows schema history

  abbrev key : BornRow → Key
  key kept = key_of schema.key kept.row

  abbrev tuple : BornRow → List SharedRow
  tuple kept = row_by_key schema kept ∷ []

  common_is : common query audit ≡ schema.name ∷ []
  common_is = λ i. cond (among i) (schema.name ∷ []) []

  tuples_are : virtual_tuples history (common query audit) ≡ map tuple rows
  tuples_are =
      ap (virtual_tuples history) common_is
      ∙ (λ i. product (option_map_or (λ (made : Schema). map (λ (kept : BornRow). record { table = schema.name; key = key_of made.key kept.row }) (table_rows made history)) (there i) [] ∷ []))
      ∙ singles (row_by_key schema) rows

  -- whether the condition is true of some row with this row's key
  abbrev has_row : BornRow → BornRow → Bool
  has_row kept row = (same_cells (key row) (key kept) && true) && passes condition (all_shown (row ∷ []))

  abbrev set_by : Option Schema → KeyedRows
  set_by found = option_map_or (λ (made : Schema). kept_at made history) found (record { key = []; rows = [] })

  has_is : (kept : BornRow) → audit_has audit (set_by (schema_at history schema.name) ∷ []) (tuple kept) ≡ list_any (has_row kept) rows
  has_is kept =
      (λ i. audit_has audit (set_by (there i) ∷ []) (tuple kept))
      ∙ ap (list_any (λ combination. has_tuple_in (schema.name ∷ []) (kept_at schema history ∷ []) (tuple kept) combination && passes condition (all_shown combination))) (alone_each rows)
      ∙ any-map (λ combination. has_tuple_in (schema.name ∷ []) (kept_at schema history ∷ []) (tuple kept) combination && passes condition (all_shown combination)) (λ row. row ∷ []) rows
      ∙ rw (same_as_itself schema.name) refl

  needs_is : (kept : BornRow) → audit_needs history audit (tuple kept) ≡ list_any (has_row kept) rows
  needs_is kept = law history audit (tuple kept) (ap (λ b. b || false) (same_as_itself schema.name), tt) ∙ has_is kept

  abbrev is_shared : BornRow → Bool
  is_shared kept = uses_row history context query schema kept && list_any (has_row kept) rows && true

  shared_is : (kept : BornRow) → serves history context query audit (tuple kept) ≡ is_shared kept
  shared_is kept = λ i. uses_row history context query schema kept && needs_is kept i && true

  abbrev found : Option (List SharedRow)
  found = first_serving history context query audit

  pub shares_is : is_some found ≡ list_any is_shared rows
  shares_is =
      found-any (serves history context query audit) (virtual_tuples history (common query audit))
      ∙ ap (list_any (serves history context query audit)) tuples_are
      ∙ any-map (serves history context query audit) tuple rows
      ∙ (λ i. list_any (λ kept. shared_is kept i) rows)

  first_part : (a b : Bool) → b ≡ true → (a && b && true) ≡ false → a ≡ false
  first_part false b holds none = refl
  first_part true b holds none = absurd (false≢true (sym none ∙ ap (λ x. x && true) holds))

  -- if nothing is shared, the query did not use a row of which the condition is true
  pub not_used : is_some found ≡ false → (place : Place) (kept : BornRow) → slice_get rows place ≡ Some kept → passes condition (all_shown (kept ∷ [])) ≡ true → uses_row history context query schema kept ≡ false
  not_used none place kept at holds =
      first_part (uses_row history context query schema kept) (list_any (has_row kept) rows)
      (any_at (has_row kept) rows place kept at (and_from _ _ (and_from _ _ (key_same_itself (key kept)) refl) holds))
      (none_at is_shared rows place kept at (sym shares_is ∙ none))

  -- if something is shared, the query used a row that has the key of a row of which the condition
  -- is true
  pub record IsUsed : Type 0 where
    pub kept : BornRow
    pub row : BornRow
    pub same : key row ≡ key kept
    pub holds : passes condition (all_shown (row ∷ [])) ≡ true
    pub used : uses_row history context query schema kept ≡ true

  pub some_used : is_some found ≡ true → IsUsed
  some_used some =
      let kept = who is_shared rows (sym shares_is ∙ some) in
      let parts = and_parts (uses_row history context query schema kept.member) (list_any (has_row kept.member) rows) (and_parts _ _ kept.passes).0 in
      let row = who (has_row kept.member) rows parts.1 in
      let both = and_parts _ _ row.passes in
      record {
        kept = kept.member;
        row = row.member;
        same = same_exact _ _ (and_parts _ _ both.0).0;
        holds = both.1;
        used = parts.0;
      }

module _ (law : AuditNeedsWhatItHas) (history : History) (context : Context) (query : Query) (schema : Schema) (moment : Moment)
    (there : schema_at history schema.name ≡ Some schema) (among : list_any (bytes_eq schema.name) query.tables ≡ true) where
  -- an audit of a row's key shares something exactly where the query used the row
  pub uses-by_key : (place : Place) (kept : BornRow) → slice_get (table_rows schema history) place ≡ Some kept
      → is_some (first_serving history context query (audit_of_rows schema.name moment [] (key_is schema.key kept.row))) ≡ uses_row history context query schema kept
  uses-by_key place kept at =
      elim (is_some (first_serving history context query (audit_of_rows schema.name moment [] (key_is schema.key kept.row))))
      as (λ b. is_some (first_serving history context query (audit_of_rows schema.name moment [] (key_is schema.key kept.row))) ≡ b → b ≡ uses_row history context query schema kept) [
        | true ↦ λ is.
            let its = some_used law history context query schema moment (key_is schema.key kept.row) there among is in
            let keys : key_of schema.key its.kept.row ≡ key_of schema.key kept.row = sym its.same ∙ key_equal its.row kept.row schema.key its.holds in
            sym its.used ∙ ap (λ (k : Key). query_needs history context query (record { table = schema.name; key = k } ∷ [])) keys
        | false ↦ λ is. sym (not_used law history context query schema moment (key_is schema.key kept.row) there among is place kept at (key_itself kept schema.key))
      ] refl

  number_holds : (patient : ℤ) (value : Value) → option_map_or (int_eq patient) (number_in value) false ≡ true → same_value value (Int patient) ≡ true
  number_holds patient (Int number) is = ap (λ (n : ℤ). same_value (Int n) (Int patient)) (sym ((Decides-int_eq patient number).0 is)) ∙ same_itself (Int patient)
  number_holds patient Null is = absurd (false≢true is)
  number_holds patient (Text text) is = absurd (false≢true is)
  number_holds patient (Day day) is = absurd (false≢true is)

  unused : (about used : Bool) → (about ≡ true → used ≡ false) → (about && used) ≡ false
  unused true used none = none refl
  unused false used none = refl

  -- if an audit of a patient's number shares nothing, the query used no row about the patient
  pub none-by_number : (subject : Place) (patient : ℤ) → schema.subject ≡ Some subject
      → is_some (first_serving history context query (audit_of_rows schema.name moment [] (column_is subject (Int patient)))) ≡ false
      → used_rows history context query patient schema ≡ []
  none-by_number subject patient subject_is none =
      filter-none (λ kept. is_patients_row patient schema kept && uses_row history context query schema kept) (table_rows schema history)
      (λ place kept at. unused (is_patients_row patient schema kept) (uses_row history context query schema kept)
      (λ about. not_used law history context query schema moment (column_is subject (Int patient)) there among none place kept at
      (column-true kept subject (Int patient)
      ∙ number_holds patient (cell_at kept.row subject)
      (sym (ap (λ found. option_map_or (int_eq patient) (option_and_then (λ at. number_in (cell_at kept.row at)) found) false) subject_is) ∙ about))))

-- a table without a SUBJECT has no rows about a patient
pub none-without : (history : History) (context : Context) (query : Query) (patient : ℤ) (schema : Schema) → schema.subject ≡ None → used_rows history context query patient schema ≡ []
none-without history context query patient schema none =
    filter-none (λ kept. is_patients_row patient schema kept && uses_row history context query schema kept) (table_rows schema history)
    (λ place kept at. ap (λ about. about && uses_row history context query schema kept) (ap (λ found. option_map_or (int_eq patient) (option_and_then (λ place. number_in (cell_at kept.row place)) found) false) none))
