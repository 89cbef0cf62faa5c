-- The text of a deleted row reads back.
use Rattle.std.proofs.Common.{◌≡◌, ◌∙◌, ◌<◌, Bool, true, false, not, ◌&&◌, List, [], ◌∷◌, ◌++◌, length, map, filter_map, Some, refl, sym, ap, subst, arith, codes}
use Rattle.std.specs.Prelude.{nat_eq}
use Rattle.std.specs.List.{list_any, list_all, cons_option, zip}
use Rattle.std.specs.Map.{lookup}
use Rattle.std.proofs.lemmas.Bool.{and_parts, and_from, or_parts, not-true}
use Rattle.std.proofs.lemmas.Bool.Decides.{nat_tests}
use Rattle.std.proofs.lemmas.List.{append-nil, append_assoc}
use Rattle.hippo_values.specs.Texts.{Txt}
use Rattle.hippo_values.specs.declared.names.Name.{Name}
use Rattle.hippo_values.specs.declared.values.Value.{Value}
use Rattle.hippo_values.specs.declared.keywords.Keyword.TheVariants.{KAnd, KDelete, KFrom, KWhere}
use Rattle.hippo_lexer.specs.declared.kinds.Symbol.TheVariants.{Equal}
use Rattle.hippo_lexer.specs.declared.kinds.TokenKind.TheVariants.{Word, Keyword, Symbol}
use Rattle.hippo_model.specs.declared.schema.Column.{Column}
use Rattle.hippo_model.specs.declared.schema.Schema.{Schema}
use Rattle.hippo_stmt_ast.specs.declared.statement.Stmt.TheVariants as stmt
use Rattle.hippo_model.specs.declared.wanted.Wanted.TheVariants.{Remove}
use Rattle.hippo_model.specs.Keepable.{is_folded_name, value_is_keepable}
use Rattle.hippo_model.specs.Terms.{Key, Place}
use Rattle.hippo_model.specs.Validity.{all_differ}
use Rattle.hippo_spj_reader.specs.Front.{Kinds}
use Rattle.hippo_stmt_reader.specs.StatementGrammar.{IsAssignment, AreKeys, assignment, assigned_columns, assigned_values, delete}
use Rattle.hippo_typing_catalog.specs.ChangesRefused.{places_named}
use Rattle.hippo_typing_catalog.specs.ChangesWanted.{key_written}
use Rattle.hippo_report.specs.Cells.{separated_text}
use Rattle.hippo_history_statements.specs.Telling.{name_at, assigned_text, key_text, delete_text, literal_text}
use Rattle.hippo_history_laws.specs.TellingLaws.{ReadsAs, DeletesReadBack}
use Rattle.hippo_history_laws.proofs.SayingLemmas.{Says, says-blank, says-word, says-name_first, says-nothing}
use Rattle.hippo_history_laws.proofs.SpellingLemmas.{EndsLiteral, literal_said, says-literal, literal-is, says-equal, and-word, delete-word, from-word, where-word}
use Rattle.hippo_history_laws.proofs.ListLemmas.{SaysList, later_said, says-separated_text, list-read}
use Rattle.hippo_history_laws.proofs.FitLemmas.{is_calm, calm-append, front-fit}
use Rattle.hippo_history_laws.proofs.NamePlaces.{places_again, names_folded}
use Rattle.hippo_history_laws.proofs.ReadingTheorem.{console-reads}
use Rattle.hippo_history_laws.proofs.RowTheorem.{literal-calm}

abbrev pub Assigned : Type 0
Assigned = Place × Value

abbrev pub conjunction : Txt
conjunction = codes " AND "

-- columns with values
module _ (columns : List Column) where
  abbrev pub pair_text : Assigned → Txt
  pair_text = λ (place, value). assigned_text columns place value

  abbrev pub pair_said : Assigned → Kinds
  pair_said (place, value) = Word (name_at columns place) ∷ Symbol Equal ∷ literal_said value

  abbrev pub pair_meant : Assigned → Name × Value
  pair_meant (place, value) = (name_at columns place, value)

  abbrev pub pair_fits : Assigned → Bool
  pair_fits (place, value) = is_folded_name (name_at columns place) && value_is_keepable value

  abbrev pub pairs_later : List Assigned → Kinds → Kinds
  pairs_later pairs said =
      later_said pair_text pair_said pair_meant pair_fits EndsLiteral conjunction
      (Keyword KAnd) pairs said

  pub pair-says : (pair : Assigned) (rest : Txt) (said : Kinds) → pair_fits pair ≡ true
      → EndsLiteral rest → Says rest said → Says (pair_text pair ++ rest) (pair_said pair ++ said)
  pair-says (place, value) rest said fit ends more =
      let parts =
      and_parts (is_folded_name (name_at columns place)) (value_is_keepable value) fit in
      subst (λ (t : Txt). Says t (pair_said (place, value) ++ said))
      (sym (append_assoc (name_at columns place) (codes " = " ++ literal_text value) rest))
      (says-name_first (name_at columns place) (codes "= " ++ (literal_text value ++ rest)) _
      parts.0
      (says-equal (32 ∷ (literal_text value ++ rest)) _
      (says-blank (literal_text value ++ rest) _ (says-literal value rest said parts.1 ends more))))

  pub pairs-say : SaysList pair_text pair_said pair_meant pair_fits EndsLiteral conjunction
      (Keyword KAnd)
  pairs-say pair pairs rest said fit ends more =
      says-separated_text pair_text pair_said pair_meant pair_fits EndsLiteral conjunction
      (Keyword KAnd) pair-says
      (λ remaining said more. says-blank (codes "AND " ++ remaining) _
      (says-word (codes "AND") remaining KAnd said and-word more)) (λ remaining. (refl, refl))
      pair pairs rest said fit ends more

  pub pair-is : (pair : Assigned) (rest : Kinds)
      → IsAssignment (pair_said pair ++ rest) (pair_meant pair) rest
  pair-is (place, value) rest = assignment (literal-is value rest)

  pub pairs-read : (pair : Assigned) (pairs : List Assigned) (rest : Kinds)
      → AreKeys (pair_said pair ++ pairs_later pairs rest) (map pair_meant (pair ∷ pairs)) rest
  pairs-read pair pairs rest =
      list-read pair_text pair_said pair_meant pair_fits EndsLiteral conjunction
      (Keyword KAnd) IsAssignment pair-is pair pairs rest

  pub pair-calm : (pair : Assigned) (said : Kinds) → list_all is_calm said ≡ true
      → list_all is_calm (pair_said pair ++ said) ≡ true
  pair-calm (place, value) said calm =
      calm-append (literal_said value) said (literal-calm value) calm

  pub pairs-calm : (pairs : List Assigned) → list_all is_calm (pairs_later pairs []) ≡ true
  pairs-calm [] = refl
  pairs-calm (pair ∷ pairs) = pair-calm pair (pairs_later pairs []) (pairs-calm pairs)

  -- the names and the values of a key
  pub names-of : (places : List Place) (key : Key) → length places ≡ length key
      → assigned_columns (map pair_meant (zip places key)) ≡ map (name_at columns) places
  names-of [] key size = refl
  names-of (place ∷ places) [] size = absurd (omega (arith, size))
  names-of (place ∷ places) (value ∷ key) size =
      ap (λ (names : List Name). name_at columns place ∷ names)
      (names-of places key (omega (arith, size)))

  pub values-of : (places : List Place) (key : Key) → length places ≡ length key
      → assigned_values (map pair_meant (zip places key)) ≡ key
  values-of [] [] size = refl
  values-of [] (value ∷ key) size = absurd (omega (arith, size))
  values-of (place ∷ places) [] size = absurd (omega (arith, size))
  values-of (place ∷ places) (value ∷ key) size =
      ap (λ (rest : Key). value ∷ rest) (values-of places key (omega (arith, size)))

  pub pairs-fit : (places : List Place) (key : Key)
      → list_all (λ (place : Place). is_folded_name (name_at columns place)) places ≡ true
      → list_all value_is_keepable key ≡ true → list_all pair_fits (zip places key) ≡ true
  pairs-fit [] key named kept = refl
  pairs-fit (place ∷ places) [] named kept = refl
  pairs-fit (place ∷ places) (value ∷ key) named kept =
      let names =
      and_parts (is_folded_name (name_at columns place))
      (list_all (λ (place : Place). is_folded_name (name_at columns place)) places) named in
      let each = and_parts (value_is_keepable value) (list_all value_is_keepable key) kept in
      and_from _ _ (and_from _ _ names.0 each.0) (pairs-fit places key names.1 each.1)

-- looking values up by places that differ
passed-over : (place : Place) (value : Value) (pairs : List Assigned) (others : List Place)
    → list_any (nat_eq place) others ≡ false →
    filter_map (λ (other : Place). lookup (nat_eq other) ((place, value) ∷ pairs)) others
    ≡ filter_map (λ (other : Place). lookup (nat_eq other) pairs) others
passed-over place value pairs [] none = refl
passed-over place value pairs (other ∷ others) none =
    let parts = or_parts (nat_eq place other) (list_any (nat_eq place) others) none in
    let differs : nat_eq other place ≡ false = grind (arith, nat_tests) in
    rw differs (ap (λ (rest : List Value). cons_option (lookup (nat_eq other) pairs) rest)
    (passed-over place value pairs others parts.1))

pub same_place : (place : Place) → nat_eq place place ≡ true
same_place place = grind (arith, nat_tests)

looked-up : (places : List Place) (key : Key) → all_differ nat_eq places ≡ true → length places
    ≡ length key → filter_map (λ (place : Place). lookup (nat_eq place) (zip places key)) places
    ≡ key
looked-up [] [] differ size = refl
looked-up [] (value ∷ key) differ size = absurd (omega (arith, size))
looked-up (place ∷ places) [] differ size = absurd (omega (arith, size))
looked-up (place ∷ places) (value ∷ key) differ size =
    let parts =
    and_parts (not (list_any (nat_eq place) places)) (all_differ nat_eq places) differ in
    rw (same_place place)
    (ap (λ (rest : Key). value ∷ rest)
    (passed-over place value (zip places key) places (not-true _ parts.0)
    ∙ looked-up places key parts.1 (omega (arith, size))))

pub key-again : (schema : Schema) (key : Key)
    → places_named schema (map (name_at schema.columns) schema.key) ≡ schema.key
    → all_differ nat_eq schema.key ≡ true → length schema.key ≡ length key
    → key_written schema (map (name_at schema.columns) schema.key) key ≡ key
key-again schema key again differ size =
    ap (λ (places : List Place). filter_map
    (λ (place : Place). lookup (nat_eq place) (zip places key)) schema.key) again
    ∙ looked-up schema.key key differ size

pub delete-reads : (columns : List Column) (places : List Place) (table : Name) (key : Key)
    → is_folded_name table ≡ true → 0 < length places → length places ≡ length key →
    list_all (pair_fits columns) (zip places key) ≡ true
    → ReadsAs (delete_text columns places table key)
    (stmt.Delete table (map (name_at columns) places) key)
delete-reads columns [] table key is some size fit = absurd (omega (arith, some))
delete-reads columns (place ∷ places) table [] is some size fit = absurd (omega (arith, size))
delete-reads columns (place ∷ places) table (value ∷ key) is some size fit =
    let text : Txt = key_text columns (place ∷ places) (value ∷ key) in
    let pair : Assigned = (place, value) in
    let pairs : List Assigned = zip places key in
    let front : Kinds = Keyword KDelete ∷ Keyword KFrom ∷ Word table ∷ Keyword KWhere ∷ [] in
    let tail : Kinds = pair_said columns pair ++ pairs_later columns pairs [] in
    let keys : Says text tail =
    subst (λ (t : Txt). Says t tail) (append-nil text)
    (pairs-say columns pair pairs [] [] fit (refl, refl) says-nothing) in
    let says : Says (delete_text columns (place ∷ places) table (value ∷ key)) (front ++ tail) =
    says-word (codes "DELETE") (codes "FROM " ++ (table ++ (codes " WHERE " ++ text))) KDelete _
    delete-word
    (says-word (codes "FROM") (table ++ (codes " WHERE " ++ text)) KFrom _ from-word
    (says-name_first table (codes "WHERE " ++ text) _ is
    (says-word (codes "WHERE") text KWhere _ where-word keys))) in
    let calm : list_all is_calm tail ≡ true =
    pair-calm columns pair (pairs_later columns pairs []) (pairs-calm columns pairs) in
    let names = names-of columns (place ∷ places) (value ∷ key) size in
    let kept = values-of columns (place ∷ places) (value ∷ key) size in
    console-reads _ (front ++ tail) _ says
    (front-fit front tail 0 refl (omega arith) refl refl calm)
    (delete (pairs-read columns pair pairs [])
    (ap (λ (n : List Name). stmt.Delete table n (value ∷ key)) (sym names)
    ∙ ap (λ (v : Key). stmt.Delete table (assigned_columns (map (pair_meant columns) (pair ∷ pairs))) v)
    (sym kept)))

abbrev pub deletes_read_back : DeletesReadBack
deletes_read_back history schema table key row rule differ is size kept live =
    let named = names_folded schema.columns schema.key rule.columns_named rule.within in
    let again = places_again schema schema.key rule.differ rule.within in
    let names : List Name = map (name_at schema.columns) schema.key in
    record {
      statement = stmt.Delete table names key;
      reads = delete-reads schema.columns schema.key table key is rule.some size
          (pairs-fit schema.columns schema.key key named kept);
      wanted = Remove table key;
      wants = rw rule.known
          (ap (λ (k : Key). Some (Remove table k)) (key-again schema key again differ size));
      comes = rw live refl;
    }
