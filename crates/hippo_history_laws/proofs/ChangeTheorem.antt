-- The text of an updated row reads back.
use Rattle.std.proofs.Common.{◌≡◌, ◌∙◌, zero, suc, ◌+◌, ◌<◌, ◌≤◌, Bool, true, false, not, List, [], ◌∷◌, ◌++◌, filter, length, map, Some, Ok, refl, sym, ap, subst, inl, inr, arith, zero-add, codes}
use Rattle.std.specs.Prelude.{nat_eq, nat_lt, slice_set}
use Rattle.std.specs.List.{list_any, list_all, range_with_len}
use Rattle.std.proofs.lemmas.Bool.{and_parts, and_from, or_parts, both_ways, cases_Bool, eqb-true, eqb-false, lt-ltb}
use Rattle.std.proofs.lemmas.Grind.{get_or-set_at}
use Rattle.std.proofs.lemmas.List.{append-nil, ext_get_or, get_or-set_other, length-map, length-set}
use Rattle.hippo_values.specs.Texts.{Txt}
use Rattle.hippo_values.specs.declared.names.Name.{Name}
use Rattle.hippo_values.specs.declared.values.Value.{Value}
use Rattle.hippo_values.specs.declared.values.Value.TheVariants.{Null}
use Rattle.hippo_values.specs.declared.keywords.Keyword.TheVariants.{KAnd, KSet, KUpdate, KWhere}
use Rattle.hippo_lexer.specs.declared.kinds.Symbol.TheVariants.{Comma}
use Rattle.hippo_lexer.specs.declared.kinds.TokenKind.{TokenKind}
use Rattle.hippo_lexer.specs.declared.kinds.TokenKind.TheVariants.{Word, Keyword, Symbol}
use Rattle.hippo_lexer.proofs.RangeLemmas.{list_any-range_true}
use Rattle.hippo_model.specs.declared.entry.Act.TheVariants.{Update}
use Rattle.hippo_model.specs.declared.schema.Column.{Column}
use Rattle.hippo_stmt_ast.specs.declared.statement.Stmt.TheVariants as stmt
use Rattle.hippo_model.specs.declared.wanted.Wanted.TheVariants.{Set}
use Rattle.hippo_model.specs.Keepable.{is_folded_name, value_is_keepable}
use Rattle.hippo_model.specs.Rows.{cell_at, key_of}
use Rattle.hippo_model.specs.Terms.{Key, Place, Row}
use Rattle.hippo_spj_reader.specs.Front.{Kinds}
use Rattle.hippo_spj_reader.specs.ListGrammar.{IsListOf}
use Rattle.hippo_stmt_reader.specs.StatementGrammar.{IsAssignment, assigned_columns, assigned_values, update}
use Rattle.hippo_tables.specs.Finished.{written_row}
use Rattle.hippo_report.specs.Cells.{comma}
use Rattle.hippo_history_statements.specs.Telling.{name_at, assigned_text, row_text, is_set, set_places}
use Rattle.hippo_history_laws.specs.TellingLaws.{ReadsAs, UpdatesReadBack}
use Rattle.hippo_history_laws.proofs.SayingLemmas.{Says, says-blank, says-word, says-name_first, says-nothing}
use Rattle.hippo_history_laws.proofs.SpellingLemmas.{EndsLiteral, says-comma, and-word, set-word, update-word, where-word}
use Rattle.hippo_history_laws.proofs.ListLemmas.{SaysList, SaysSeparator, later_said, says-separated_text, list-read}
use Rattle.hippo_history_laws.proofs.FitLemmas.{is_calm, front-fit}
use Rattle.hippo_history_laws.proofs.NamePlaces.{all_within, places_again, names_folded}
use Rattle.hippo_history_laws.proofs.ReadingTheorem.{console-reads}
use Rattle.hippo_history_laws.proofs.KeyTheorem.{conjunction, pair_said, pair_meant, pair_fits, pair-says, pair-is, pair-calm, same_place, key-again}

-- columns with the values of a row
module _ (columns : List Column) (row : Row) where
  abbrev cell_text : Place → Txt
  cell_text place = assigned_text columns place (cell_at row place)

  abbrev cell_said : Place → Kinds
  cell_said place = pair_said columns (place, cell_at row place)

  abbrev cell_meant : Place → Name × Value
  cell_meant place = pair_meant columns (place, cell_at row place)

  abbrev cell_fits : Place → Bool
  cell_fits place = pair_fits columns (place, cell_at row place)

  pub cells-fit : (places : List Place)
      → list_all (λ (place : Place). is_folded_name (name_at columns place)) places ≡ true
      → ((place : Place) → value_is_keepable (cell_at row place) ≡ true) → list_all cell_fits places
      ≡ true
  cells-fit [] named kept = refl
  cells-fit (place ∷ places) named kept =
      let names =
      and_parts (is_folded_name (name_at columns place))
      (list_all (λ (place : Place). is_folded_name (name_at columns place)) places) named in
      and_from _ _ (and_from _ _ names.0 (kept place)) (cells-fit places names.1 kept)

  names-are : (places : List Place) → map (name_at columns) places
      ≡ assigned_columns (map cell_meant places)
  names-are [] = refl
  names-are (place ∷ places) =
      ap (λ (names : List Name). name_at columns place ∷ names) (names-are places)

  cells-are : (places : List Place) → map (cell_at row) places ≡ assigned_values (map cell_meant places)
  cells-are [] = refl
  cells-are (place ∷ places) = ap (λ (cells : Row). cell_at row place ∷ cells) (cells-are places)

  module _ (separator : Txt) (kind : TokenKind) where
    abbrev cells_later : List Place → Kinds → Kinds
    cells_later places said =
        later_said cell_text cell_said cell_meant cell_fits EndsLiteral separator kind places said

    cells-say : SaysSeparator cell_text cell_said cell_meant cell_fits EndsLiteral separator kind
        → ((rest : Txt) → EndsLiteral (separator ++ rest))
        → SaysList cell_text cell_said cell_meant cell_fits EndsLiteral separator kind
    cells-say says-separator ends-separator place places rest said fit ends more =
        says-separated_text cell_text cell_said cell_meant cell_fits EndsLiteral separator kind
        (λ one remaining said fit ends more. pair-says columns (one, cell_at row one) remaining said fit
        ends more) says-separator ends-separator
        place places rest said fit ends more

    cells-read : (place : Place) (places : List Place) (rest : Kinds)
        → IsListOf IsAssignment kind (cell_said place ++ cells_later places rest)
        (map cell_meant (place ∷ places)) rest
    cells-read place places rest =
        list-read cell_text cell_said cell_meant cell_fits EndsLiteral separator kind IsAssignment
        (λ one remaining. pair-is columns (one, cell_at row one) remaining) place places rest

    cells-calm : is_calm kind ≡ true → (places : List Place) (said : Kinds) → list_all is_calm said
        ≡ true → list_all is_calm (cells_later places said) ≡ true
    cells-calm calm [] said rest = rest
    cells-calm calm (place ∷ places) said rest =
        and_from _ _ calm (pair-calm columns (place, cell_at row place) (cells_later places said)
        (cells-calm calm places said rest))

pub update-reads : (columns : List Column) (table : Name) (row : Row) (places key : List Place)
    → is_folded_name table ≡ true → 0 < length places → 0 < length key →
    list_all (cell_fits columns row) places ≡ true → list_all (cell_fits columns row) key ≡ true →
    ReadsAs (codes
    "UPDATE " ++ (table
    ++ (codes " SET "
    ++ (row_text columns row comma
    places ++ (codes " WHERE " ++ row_text columns row (codes " AND ") key)))))
    (stmt.Update table (map (name_at columns) places) (map (cell_at row) places)
    (map (name_at columns) key) (map (cell_at row) key))
update-reads columns table row [] key is some some_key fit key_fit = absurd (omega (arith, some))
update-reads columns table row (place ∷ places) [] is some some_key fit key_fit =
    absurd (omega (arith, some_key))
update-reads columns table row (place ∷ places) (first ∷ key) is some some_key fit key_fit =
    let keys : Txt = row_text columns row conjunction (first ∷ key) in
    let sets : Txt = row_text columns row comma (place ∷ places) ++ (codes " WHERE " ++ keys) in
    let keys_said : Kinds =
    cell_said columns row first ++ cells_later columns row conjunction (Keyword KAnd) key [] in
    let remaining : Kinds = Keyword KWhere ∷ keys_said in
    let front : Kinds = Keyword KUpdate ∷ Word table ∷ Keyword KSet ∷ [] in
    let tail : Kinds =
    cell_said columns row place ++ cells_later columns row comma (Symbol Comma) places remaining in
    let says_keys : Says keys keys_said =
    subst (λ (t : Txt). Says t keys_said) (append-nil keys)
    (cells-say columns row conjunction (Keyword KAnd)
    (λ rest said more. says-blank (codes "AND " ++ rest) _
    (says-word (codes "AND") rest KAnd said and-word more)) (λ rest. (refl, refl))
    first key [] [] key_fit (refl, refl) says-nothing) in
    let says_sets : Says sets tail =
    cells-say columns row comma (Symbol Comma)
    (λ rest said more. says-comma (32 ∷ rest) said (says-blank rest said more))
    (λ rest. (refl, refl))
    place places (codes " WHERE " ++ keys) remaining fit (refl, refl)
    (says-blank (codes "WHERE " ++ keys) _
    (says-word (codes "WHERE") keys KWhere _ where-word says_keys)) in
    let says : Says (codes "UPDATE " ++ (table ++ (codes " SET " ++ sets))) (front ++ tail) =
    says-word (codes "UPDATE") (table ++ (codes " SET " ++ sets)) KUpdate _ update-word
    (says-name_first table (codes "SET " ++ sets) _ is
    (says-word (codes "SET") sets KSet _ set-word says_sets)) in
    let calm_keys : list_all is_calm keys_said ≡ true =
    pair-calm columns (first, cell_at row first) _
    (cells-calm columns row conjunction (Keyword KAnd) refl key [] refl) in
    let calm : list_all is_calm tail ≡ true =
    pair-calm columns (place, cell_at row place) _
    (cells-calm columns row comma (Symbol Comma) refl places remaining calm_keys) in
    console-reads _ (front ++ tail) _ says
    (front-fit front tail 0 refl (omega arith) refl refl calm)
    (update (cells-read columns row comma (Symbol Comma) place places remaining)
    (cells-read columns row conjunction (Keyword KAnd) first key [])
    (λ i. stmt.Update table (names-are columns row (place ∷ places) i)
    (cells-are columns row (place ∷ places) i) (names-are columns row (first ∷ key) i)
    (cells-are columns row (first ∷ key) i)))

-- the places that are set are places of columns
kept_below : (kept : Place → Bool) (low n limit : Place) → low + n ≤ limit
    → list_all (λ (place : Place). nat_lt place limit) (filter kept (range_with_len low n)) ≡ true
kept_below kept low zero limit small = refl
kept_below kept low (suc n) limit small = elim (cases_Bool (kept low)) [
  | inl is ↦ rw is
      (and_from _ _ (lt-ltb low limit (omega (arith, small)))
      (kept_below kept (low + 1) n limit (omega (arith, small))))
  | inr is ↦ rw is (kept_below kept (low + 1) n limit (omega (arith, small)))
]

pub sets_within : (columns : List Column) (key : List Place)
    → all_within columns (set_places columns key) ≡ true
sets_within columns key =
    kept_below (is_set key) 0 (length columns) (length columns) (omega arith)

-- a column that is not set belongs to the key
not_kept : (kept : Place → Bool) (places : List Place) (place : Place)
    → list_any (nat_eq place) places ≡ true → list_any (nat_eq place) (filter kept places) ≡ false
    → kept place ≡ false
not_kept kept [] place there none = absurd cc
not_kept kept (first ∷ places) place there none = elim (cases_Bool (nat_eq place first)) [
  | inl same ↦ elim (cases_Bool (kept first)) [
    | inl is ↦ absurd
        (both_ways _ (or_parts (nat_eq place first) (list_any (nat_eq place) (filter kept places))
        (rw is at none)).0 same)
    | inr is ↦ subst (λ (p : Place). kept p ≡ false) (sym (eqb-true place first same)) is
  ]
  | inr other ↦ elim (cases_Bool (kept first)) [
    | inl is ↦ not_kept kept places place (rw other at there)
        (or_parts (nat_eq place first) (list_any (nat_eq place) (filter kept places))
        (rw is at none)).1
    | inr is ↦ not_kept kept places place (rw other at there) (rw is at none)
  ]
]

denied : (test : Bool) → not test ≡ false → test ≡ true
denied true is = refl
denied false is = absurd cc

pub unset : (columns : List Column) (key : List Place) (place : Place) → place < length columns
    → list_any (nat_eq place) (set_places columns key) ≡ false → list_any (nat_eq place) key ≡ true
unset columns key place small none =
    let there : list_any (nat_eq place) (range_with_len 0 (length columns)) ≡ true =
    list_any-range_true (nat_eq place) 0 (length columns) place small
    (rw zero-add (same_place place)) in
    denied (list_any (nat_eq place) key)
    (not_kept (is_set key) (range_with_len 0 (length columns)) place there none)

-- rows with the same key have the same values in its columns
abbrev cells_after_first : Row → Row
cells_after_first [] = []
cells_after_first (value ∷ row) = row

pub same_cells_at : (key : List Place) (old row : Row) (place : Place) → key_of key old
    ≡ key_of key row → list_any (nat_eq place) key ≡ true → cell_at old place ≡ cell_at row place
same_cells_at [] old row place same there = absurd cc
same_cells_at (first ∷ key) old row place same there = elim (cases_Bool (nat_eq place first)) [
  | inl is ↦ subst (λ (p : Place). cell_at old p ≡ cell_at row p) (sym (eqb-true place first is))
      (ap (λ (cells : Row). cell_at cells 0) same)
  | inr is ↦ same_cells_at key old row place (ap cells_after_first same) (rw is at there)
]

-- setting the values makes the row again
pub written_row-again : (places : List Place) (row old : Row) → length old ≡ length row
    → ((place : Place) → place < length row → list_any (nat_eq place) places ≡ false
    → cell_at old place ≡ cell_at row place) → written_row places (map (cell_at row) places) old ≡ row
written_row-again [] row old size same =
    ext_get_or Null old row size (λ place small. same place (omega (arith, size, small)) refl)
written_row-again (place ∷ places) row old size same =
    written_row-again places row (slice_set old place (cell_at row place))
    (length-set old place (cell_at row place) ∙ size)
    (λ other small none. elim (cases_Bool (nat_eq other place)) [
      | inl is ↦
          let at : other ≡ place = eqb-true other place is in
          get_or-set_at old place other (cell_at row place) Null at (omega (arith, size, small, at))
          ∙ ap (cell_at row) (sym at)
      | inr is ↦
          get_or-set_other old place other (cell_at row place) Null (eqb-false other place is)
          ∙ same other small (rw is none)
    ])

pub cell_kept : (row : Row) (place : Place) → list_all value_is_keepable row ≡ true
    → value_is_keepable (cell_at row place) ≡ true
cell_kept [] place all = refl
cell_kept (value ∷ row) zero all =
    (and_parts (value_is_keepable value) (list_all value_is_keepable row) all).0
cell_kept (value ∷ row) (suc place) all =
    cell_kept row place (and_parts (value_is_keepable value) (list_all value_is_keepable row) all).1

abbrev pub updates_read_back : UpdatesReadBack
updates_read_back history schema table row old rule differ some is kept there =
    let columns : List Column = schema.columns in
    let sets : List Place = set_places columns schema.key in
    let key : Key = key_of schema.key row in
    let within : all_within columns sets ≡ true = sets_within columns schema.key in
    let cells : (place : Place) → value_is_keepable (cell_at row place) ≡ true =
    λ place. cell_kept row place kept in
    let sets_fit =
    cells-fit columns row sets (names_folded columns sets rule.columns_named within) cells in
    let key_fit =
    cells-fit columns row schema.key
    (names_folded columns schema.key rule.columns_named rule.within) cells in
    let key_places = places_again schema schema.key rule.differ rule.within in
    let again =
    key-again schema key key_places differ (sym (length-map schema.key (cell_at row))) in
    let set_again = places_again schema sets rule.differ within in
    let made : written_row sets (map (cell_at row) sets) old ≡ row =
    written_row-again sets row old (there.old_size ∙ sym there.size)
    (λ place small none. same_cells_at schema.key old row place there.same
    (unset columns schema.key place (omega (arith, small, there.size)) none)) in
    record {
      statement =
          stmt.Update table (map (name_at columns) sets) (map (cell_at row) sets)
          (map (name_at columns) schema.key) key;
      reads = update-reads columns table row sets schema.key is some rule.some sets_fit key_fit;
      wanted = Set table key sets (map (cell_at row) sets);
      wants = rw rule.known
          (λ i. Some (Set table (again i) (set_again i) (map (cell_at row) sets)));
      comes = rw there.live (ap (λ (left : Row). Ok (Update table left)) made);
    }
