-- What a valid history says of its schemas and rows: which entry says it, and what was tested at
-- that entry.
use Rattle.std.proofs.Common.{◌≡◌, Bool, true, false, ◌&&◌, [], ◌∷◌, ◌++◌, Option, Some, None, refl, sym, ap, subst, ◌∙◌, append_assoc, length, ◌+◌}
use Rattle.std.specs.Prelude.{option_and_then, bytes_eq, not, ◌==◌, nat_lt}
use Rattle.std.specs.Bool.{then_some}
use Rattle.std.specs.Option.{option_or, option_map_or}
use Rattle.std.proofs.lemmas.Bool.{and_parts}
use Rattle.std.proofs.lemmas.Slice.Eq.{bytes_eq-Decides}
use Rattle.hippo_values.specs.declared.names.Name.{Name}
use Rattle.hippo_values.specs.Moments.{is_moment}
use Rattle.hippo_model.specs.declared.entry.Act.{Act}
use Rattle.hippo_model.specs.declared.entry.Act.TheVariants.{Create, Insert, Update}
use Rattle.hippo_model.specs.declared.entry.Entry.{Entry}
use Rattle.hippo_model.specs.declared.schema.Schema.{Schema}
use Rattle.hippo_model.specs.Terms.{History, Meaning, Row, Key}
use Rattle.hippo_model.specs.Histories.{last_word, schema_created, schema_at}
use Rattle.hippo_model.specs.Keepable.{is_keepable, act_is_keepable, cells_are_keepable, schema_is_keepable, is_folded_name}
use Rattle.hippo_model.specs.Rows.{key_of, names_key, row_left, row_at}
use Rattle.hippo_model.specs.Validity.{is_acceptable, is_valid, is_well_formed, keeps_order, may_follow}
use Rattle.hippo_model.specs.Versions.{row_fits, is_live, version_fits}
use Rattle.hippo_values.specs.Order.{same_cells}
use Rattle.hippo_model_laws.proofs.ValidFronts.{front_is_valid, is_valid-append}
use Rattle.hippo_tables.proofs.StandingLemmas.{schema_at-named}
use Rattle.hippo_typing.proofs.CatalogTheorem.{valid_names}
use Rattle.hippo_typing.proofs.LastingNames.{extends_later}

-- the entry that says the last word, with the entries before and after it
pub record IsSaid {A : Type 0} (word : Entry → Option A) (history : History) (what : A) : Type 0 where
  pub front : History
  pub entry : Entry
  pub later : History
  pub parts : history ≡ front ++ entry ∷ later
  pub says : word entry ≡ Some what

pub said_where : {A : Type 0} (word : Entry → Option A) (history : History) (what : A) → last_word word history ≡ Some what → IsSaid word history what
said_where word [] what said = absurd cc
said_where {A} word (first ∷ later) what said =
    elim (last_word word later) as (λ last. last_word word later ≡ last → option_or last (word first) ≡ Some what → IsSaid word (first ∷ later) what) [
      | None ↦ λ is said. record { front = []; entry = first; later = later; parts = refl; says = said }
      | Some found ↦ λ is said.
          let there = said_where word later what (is ∙ said) in
          record { front = first ∷ there.front; entry = there.entry; later = there.later; parts = ap (λ (l : History). first ∷ l) there.parts; says = there.says }
    ] refl said

then_some_parts : {A : Type 0} (test : Bool) (x y : A) → then_some test x ≡ Some y → (test ≡ true) × (x ≡ y)
then_some_parts true x y e = (refl, cc)
then_some_parts false x y e = absurd cc

-- a value exists and passes a test
pub record Passes {A : Type 0} (test : A → Bool) (found : Option A) : Type 0 where
  pub what : A
  pub is : found ≡ Some what
  pub fits : test what ≡ true

pub passes_so : {A : Type 0} (test : A → Bool) (found : Option A) → option_map_or test found false ≡ true → Passes test found
passes_so test None passes = absurd cc
passes_so test (Some x) passes = record { what = x; is = refl; fits = passes }

-- the act that creates a table
created_by : (table : Name) (schema : Schema) (act : Act) → schema_created table act ≡ Some schema → act ≡ Create schema
created_by table schema (Create made) is = ap Create (then_some_parts (bytes_eq made.name table) made schema is).1
created_by table schema act is = absurd cc

module _ (meaning : Meaning) where
  -- each entry of a valid history may follow the entries before it
  pub followed : (front : History) (entry : Entry) (later : History) → is_valid meaning (front ++ entry ∷ later) ≡ true → may_follow meaning front entry ≡ true
  followed front entry later valid =
      let first : is_valid meaning (front ++ entry ∷ []) ≡ true = front_is_valid meaning (front ++ entry ∷ []) later (ap (is_valid meaning) (append_assoc front (entry ∷ []) later) ∙ valid) in
      (and_parts (is_valid meaning front) (may_follow meaning front entry) (sym (is_valid-append meaning front entry) ∙ first)).1

  pub acceptable : (history : History) (entry : Entry) → may_follow meaning history entry ≡ true → is_acceptable meaning history entry.act ≡ true
  acceptable history entry may = (and_parts (is_keepable entry && entry.seq == length history + 1 && keeps_order history entry.moment) (is_acceptable meaning history entry.act) may).1

  pub keepable : (history : History) (entry : Entry) → may_follow meaning history entry ≡ true → act_is_keepable entry.act ≡ true
  keepable history entry may =
      let first = (and_parts (is_keepable entry && entry.seq == length history + 1 && keeps_order history entry.moment) (is_acceptable meaning history entry.act) may).0 in
      let numbered = (and_parts (is_keepable entry && entry.seq == length history + 1) (keeps_order history entry.moment) first).0 in
      let kept = (and_parts (is_keepable entry) (entry.seq == length history + 1) numbered).0 in
      (and_parts (nat_lt entry.seq 18446744073709551616 && is_moment entry.moment) (act_is_keepable entry.act) kept).1

  -- a table keeps its schema
  pub schemas_last : (front later : History) (table : Name) (schema : Schema) → is_valid meaning (front ++ later) ≡ true → schema_at front table ≡ Some schema → schema_at (front ++ later) table ≡ Some schema
  schemas_last front later table schema valid found =
      let here = valid_names meaning front (front_is_valid meaning front later valid) in
      let there = valid_names meaning (front ++ later) valid in
      sym (there.tables table) ∙ (extends_later front later).tables table schema (here.tables table ∙ found)

  -- a schema can be stored and is well formed
  pub schema_kept : (history : History) (table : Name) (schema : Schema) → is_valid meaning history ≡ true → schema_at history table ≡ Some schema → (schema_is_keepable schema ≡ true) × (is_well_formed schema ≡ true)
  schema_kept history table schema valid found =
      let said = said_where (λ (entry : Entry). schema_created table entry.act) history schema found in
      let may = followed said.front said.entry said.later (ap (is_valid meaning) (sym said.parts) ∙ valid) in
      let act = created_by table schema said.entry.act said.says in
      let kept : act_is_keepable (Create schema) ≡ true = subst (λ (act : Act). act_is_keepable act ≡ true) act (keepable said.front said.entry may) in
      let fits : is_acceptable meaning said.front (Create schema) ≡ true = subst (λ (act : Act). is_acceptable meaning said.front act ≡ true) act (acceptable said.front said.entry may) in
      (kept, (and_parts _ (is_well_formed schema) fits).1)

-- a row fits its table and can be stored
pub record IsKept (schema : Schema) (row : Row) : Type 0 where
  pub fits : row_fits schema row ≡ true
  pub keepable : cells_are_keepable row ≡ true

word_parts : (test : Bool) (left : Option Row) (row : Row) → then_some test left ≡ Some (Some row) → (test ≡ true) × (left ≡ Some row)
word_parts true left row e = (refl, cc)
word_parts false left row e = absurd cc

named_parts : (test : Bool) (named key : Key) → option_map_or (λ named. same_cells named key) (then_some test named) false ≡ true → test ≡ true
named_parts true named key e = refl
named_parts false named key e = absurd cc

flat_so : (word : Option (Option Row)) (row : Row) → option_and_then (λ left. left) word ≡ Some row → word ≡ Some (Some row)
flat_so None row e = absurd cc
flat_so (Some left) row e = ap Some e

module _ (meaning : Meaning) (front : History) (schema : Schema) (key row : Row)
    (last : (table : Name) (made : Schema) → bytes_eq table schema.name ≡ true → schema_at front table ≡ Some made → made ≡ schema) where
  fitting : (table : Name) (fits : Schema → Bool) → bytes_eq table schema.name ≡ true → option_map_or fits (schema_at front table) false ≡ true → fits schema ≡ true
  fitting table fits named passes =
      let made = passes_so fits (schema_at front table) passes in
      subst (λ (schema : Schema). fits schema ≡ true) (last table made.what named made.is) made.fits

  left_fits : (act : Act) → row_left act ≡ Some row → names_key schema key act ≡ true → act_is_keepable act ≡ true → is_acceptable meaning front act ≡ true → IsKept schema row
  left_fits (Insert table left) leaves names kept fits =
      let same : left ≡ row = cc in
      let named = named_parts (bytes_eq table schema.name) (key_of schema.key left) key names in
      let version = fitting table (λ schema. version_fits schema front (Insert table left)) named fits in
      let row_part = (and_parts (bytes_eq table schema.name) (row_fits schema left) (and_parts (bytes_eq table schema.name && row_fits schema left) (not (is_live schema front (key_of schema.key left))) version).0).1 in
      subst (IsKept schema) same (record { fits = row_part; keepable = (and_parts (is_folded_name table) (cells_are_keepable left) kept).1 })
  left_fits (Update table left) leaves names kept fits =
      let same : left ≡ row = cc in
      let named = named_parts (bytes_eq table schema.name) (key_of schema.key left) key names in
      let version = fitting table (λ schema. version_fits schema front (Update table left)) named fits in
      let row_part = (and_parts (bytes_eq table schema.name) (row_fits schema left) (and_parts (bytes_eq table schema.name && row_fits schema left) (is_live schema front (key_of schema.key left)) version).0).1 in
      subst (IsKept schema) same (record { fits = row_part; keepable = (and_parts (is_folded_name table) (cells_are_keepable left) kept).1 })
  left_fits act leaves names kept fits = absurd cc

same_name : (a b : Name) → bytes_eq a b ≡ true → a ≡ b
same_name a b same = (bytes_eq-Decides a b).0 same

-- each row of a valid history fits its table and can be stored
pub rows_fit : (meaning : Meaning) (history : History) (table : Name) (schema : Schema) (key row : Row) → is_valid meaning history ≡ true → schema_at history table ≡ Some schema → row_at schema history key ≡ Some row → IsKept schema row
rows_fit meaning history table schema key row valid found live =
    let word : Entry → Option (Option Row) = λ entry. then_some (names_key schema key entry.act) (row_left entry.act) in
    let said = said_where word history (Some row) (flat_so (last_word word history) row live) in
    let whole : is_valid meaning (said.front ++ said.entry ∷ said.later) ≡ true = ap (is_valid meaning) (sym said.parts) ∙ valid in
    let may = followed meaning said.front said.entry said.later whole in
    let parts = word_parts (names_key schema key said.entry.act) (row_left said.entry.act) row said.says in
    let here : schema.name ≡ table = same_name schema.name table (schema_at-named history table schema found) in
    let last : (other : Name) (made : Schema) → bytes_eq other schema.name ≡ true → schema_at said.front other ≡ Some made → made ≡ schema = λ other made named is.
    let there : schema_at history other ≡ Some made = ap (λ (h : History). schema_at h other) said.parts ∙ schemas_last meaning said.front (said.entry ∷ said.later) other made whole is in
    let same : other ≡ table = same_name other schema.name named ∙ here in
    let again : Some made ≡ Some schema = sym there ∙ ap (schema_at history) same ∙ found in cc in
    left_fits meaning said.front schema key row last said.entry.act parts.1 parts.0 (keepable meaning said.front said.entry may) (acceptable meaning said.front said.entry may)
