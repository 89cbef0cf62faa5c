-- The rules after the first entries only concern what these entries created.
use Rattle.std.proofs.Common.{◌≡◌, ◌∙◌, ℕ, ◌+◌, ◌-◌, ◌<◌, Bool, true, false, cond, not, ◌&&◌, List, [], ◌∷◌, ◌++◌, flat_map, length, take, drop, Option, Some, None, refl, sym, ap, subst, append_assoc}
use Rattle.std.specs.Prelude.{◌||◌, is_some, is_none, nat_eq, nat_lt, bytes_eq, count_by}
use Rattle.std.specs.Bool.{then_some}
use Rattle.std.specs.List.{list_any, range_with_len}
use Rattle.std.specs.Option.{option_or, option_map_or}
use Rattle.std.proofs.lemmas.Bool.{and_parts, false≢true, false_from_ne_true}
use Rattle.std.proofs.lemmas.Grind.{flat_map-append}
use Rattle.std.proofs.lemmas.List.{append-nil, take-append-drop}
use Rattle.std.proofs.lemmas.Slice.Eq.{bytes_eq-Decides}
use Rattle.hippo_values.specs.Limits.{table_limit}
use Rattle.hippo_values.specs.Texts.{Txt}
use Rattle.hippo_values.specs.declared.names.Name.{Name}
use Rattle.hippo_values.proofs.OptionLemmas.{some_there}
use Rattle.hippo_model.specs.declared.entry.Act.{Act}
use Rattle.hippo_model.specs.declared.entry.Act.TheVariants.{Create, Purpose, Recipient, Allow, Revoke}
use Rattle.hippo_model.specs.declared.entry.Entry.{Entry}
use Rattle.hippo_model.specs.declared.schema.Schema.{Schema}
use Rattle.hippo_model.specs.Histories.{last_word, schema_at}
use Rattle.hippo_model.specs.Rules.{Rule, RuledCell, rule_in, is_named_by}
use Rattle.hippo_model.specs.Terms.{History, Place}
use Rattle.hippo_model.specs.Validity.{creates_table, is_purpose, is_recipient, creates_purpose, creates_recipient, pair_exists, table_passes, has_columns, rule_fits, item_fits, days_fit, is_well_formed, is_acceptable, is_valid}
use Rattle.hippo_model_laws.proofs.ValidFronts.{front_is_valid}
use Rattle.hippo_typing_catalog.specs.Catalogs.{KnownNames, known_at, known_after}
use Rattle.hippo_typing.specs.Meanings.{meaning}
use Rattle.hippo_typing.proofs.CatalogTheorem.{names_grow, valid_names}
use Rattle.hippo_typing.proofs.LastingNames.{extends_later}
use Rattle.hippo_history_top.specs.declared.asking.Scope.{Scope}
use Rattle.hippo_history_top.proofs.LoopLemmas.{place_passes, place_fails}
use Rattle.hippo_history_top.proofs.NameLemmas.{acceptable}
use Rattle.hippo_history_top.specs.Ruling.{RuleLine, column_rule, is_ruled, columns_shown, has_table, table_shown, tables_shown, rules_by_names, rules_shown}

-- what a history says last is said by one of its entries
record IsSaid {A : Type 0} (word : Entry → Option A) (history : History) (said : A) : Type 0 where
  front : History
  entry : Entry
  later : History
  parts : history ≡ front ++ entry ∷ later
  says : word entry ≡ Some said

said_by : {A : Type 0} (word : Entry → Option A) (history : History) (said : A) → last_word word history ≡ Some said → IsSaid word history said
said_by {A} word [] said is = absurd cc
said_by {A} word (entry ∷ later) said is = by_later (last_word word later) refl is (said_by word later)
  where
    by_later : (last : Option A) → last_word word later ≡ last → option_or last (word entry) ≡ Some said → ((said : A) → last_word word later ≡ Some said → IsSaid word later said) → IsSaid word (entry ∷ later) said
    by_later None none is below = record { front = []; entry = entry; later = later; parts = refl; says = is }
    by_later (Some other) found is below =
        let remaining = below said (found ∙ is) in
        record { front = entry ∷ remaining.front; entry = remaining.entry; later = remaining.later; parts = ap (λ (h : History). entry ∷ h) remaining.parts; says = remaining.says }

any_there : {A : Type 0} (test : A → Bool) (list : List A) → list_any test list ≡ true → ((x : A) × (test x ≡ true))
any_there {A} test [] is = absurd (false≢true is)
any_there {A} test (x ∷ list) is = by_first (test x) refl is (any_there test list)
  where
    by_first : (first : Bool) → test x ≡ first → (first || list_any test list) ≡ true → (list_any test list ≡ true → ((x : A) × (test x ≡ true))) → ((x : A) × (test x ≡ true))
    by_first true passes is below = (x, passes)
    by_first false fails is below = below is

any_front : {A : Type 0} (test : A → Bool) (front later : List A) → list_any test front ≡ true → list_any test (front ++ later) ≡ true
any_front test [] later is = absurd (false≢true is)
any_front test (x ∷ front) later is = by_first (test x) refl is (any_front test front later)
  where
    by_first : (first : Bool) → test x ≡ first → (first || list_any test front) ≡ true → (list_any test front ≡ true → list_any test (front ++ later) ≡ true) → (test x || list_any test (front ++ later)) ≡ true
    by_first true passes is below = ap (λ (b : Bool). b || list_any test (front ++ later)) passes
    by_first false fails is below = ap (λ (b : Bool). b || list_any test (front ++ later)) fails ∙ below is

-- the names in a rule exist at its entry
record Exists (history : History) (purpose recipient table : Name) : Type 0 where
  purpose_is : is_purpose history purpose ≡ true
  recipient_is : is_recipient history recipient ≡ true
  table_is : is_some (schema_at history table) ≡ true

then_some_is : {A : Type 0} (test : Bool) (x y : A) → then_some test x ≡ Some y → test ≡ true
then_some_is true x y e = refl
then_some_is false x y e = absurd cc

passes_there : (history : History) (test : Schema → Bool) (table : Name) → table_passes history test table ≡ true → is_some (schema_at history table) ≡ true
passes_there history test table passes = by_found (schema_at history table) passes
  where
    by_found : (found : Option Schema) → option_map_or test found false ≡ true → is_some found ≡ true
    by_found None passes = absurd (false≢true passes)
    by_found (Some schema) passes = refl

module _ (cell : RuledCell) (history : History) where
  named_exist : (purpose recipient table : Name) (columns : List Place) → is_named_by cell purpose recipient table columns ≡ true
      → rule_fits history purpose recipient table columns ≡ true → Exists history cell.purpose cell.recipient cell.table
  named_exist purpose recipient table columns named fits =
      let names = (and_parts (bytes_eq purpose cell.purpose && bytes_eq recipient cell.recipient && bytes_eq table cell.table) (list_any (nat_eq cell.column) columns) named).0 in
      let three = and_parts (bytes_eq purpose cell.purpose && bytes_eq recipient cell.recipient) (bytes_eq table cell.table) names in
      let two = and_parts (bytes_eq purpose cell.purpose) (bytes_eq recipient cell.recipient) three.0 in
      let there = and_parts (pair_exists history purpose recipient) (table_passes history (has_columns columns) table) fits in
      let pair = and_parts (is_purpose history purpose) (is_recipient history recipient) there.0 in
      record {
        purpose_is = subst (λ (name : Name). is_purpose history name ≡ true) ((bytes_eq-Decides purpose cell.purpose).0 two.0) pair.0;
        recipient_is = subst (λ (name : Name). is_recipient history name ≡ true) ((bytes_eq-Decides recipient cell.recipient).0 two.1) pair.1;
        table_is = subst (λ (name : Name). is_some (schema_at history name) ≡ true) ((bytes_eq-Decides table cell.table).0 three.1) (passes_there history (has_columns columns) table there.1);
      }

  said_exist : (number : ℕ) (rule : Rule) (act : Act) → rule_in cell number act ≡ Some rule → is_acceptable meaning history act ≡ true → Exists history cell.purpose cell.recipient cell.table
  said_exist number rule (Allow purpose recipient table columns item days) says fits =
      let first = (and_parts (rule_fits history purpose recipient table columns && item_fits history table item) (days_fit days) fits).0 in
      named_exist purpose recipient table columns (then_some_is _ _ _ says) (and_parts (rule_fits history purpose recipient table columns) (item_fits history table item) first).0
  said_exist number rule (Revoke purpose recipient table columns) says fits = named_exist purpose recipient table columns (then_some_is _ _ _ says) fits
  said_exist number rule act says fits = absurd cc

-- what exists continues to exist
lasts : (front later : History) (purpose recipient table : Name) → is_valid meaning (front ++ later) ≡ true → Exists front purpose recipient table → Exists (front ++ later) purpose recipient table
lasts front later purpose recipient table valid exist =
    let here = valid_names meaning front (front_is_valid meaning front later valid) in
    let there = valid_names meaning (front ++ later) valid in
    let schema = some_there (schema_at front table) exist.table_is in
    let still : schema_at (front ++ later) table ≡ Some schema.0 = sym (there.tables table) ∙ (extends_later front later).tables table schema.0 (here.tables table ∙ schema.1) in
    record {
      purpose_is = any_front (λ (entry : Entry). creates_purpose purpose entry.act) front later exist.purpose_is;
      recipient_is = any_front (λ (entry : Entry). creates_recipient recipient entry.act) front later exist.recipient_is;
      table_is = ap is_some still;
    }

ruled_exist : (history : History) → is_valid meaning history ≡ true → (purpose recipient : Name) (schema : Schema) → is_ruled history purpose recipient schema ≡ true → Exists history purpose recipient schema.name
ruled_exist history valid purpose recipient schema is =
    let place = any_there (λ (place : Place). is_some (column_rule history purpose recipient schema place)) (range_with_len 0 (length schema.columns)) is in
    let rule = some_there (column_rule history purpose recipient schema place.0) place.1 in
    let cell : RuledCell = record { purpose = purpose; recipient = recipient; table = schema.name; column = place.0 } in
    let said = said_by (λ (entry : Entry). rule_in cell entry.seq entry.act) history rule.0 rule.1 in
    let whole : is_valid meaning (said.front ++ said.entry ∷ said.later) ≡ true = ap (is_valid meaning) (sym said.parts) ∙ valid in
    let exist = said_exist cell said.front said.entry.seq rule.0 said.entry.act said.says (acceptable said.front said.entry said.later whole) in
    subst (λ (h : History). Exists h purpose recipient schema.name) (sym said.parts) (lasts said.front (said.entry ∷ said.later) purpose recipient schema.name whole exist)

flat_none : {A : Type 0} (f : A → Txt) (list : List A) → ((x : A) → f x ≡ []) → flat_map f list ≡ []
flat_none f [] none = refl
flat_none f (x ∷ list) none = λ i. none x i ++ flat_none f list none i

-- one more member, with an empty text
flat_same : {A : Type 0} (f : A → Txt) (list : List A) (x : A) → f x ≡ [] → flat_map f (list ++ x ∷ []) ≡ flat_map f list
flat_same f list x none = flat_map-append f list (x ∷ []) ∙ ap (λ (t : Txt). flat_map f list ++ (t ++ [])) none ∙ append-nil (flat_map f list)

module _ (front : History) (valid : is_valid meaning front ≡ true) (line : RuleLine) (scope : Scope) where
  no_text : (purpose recipient : Name) (schema : Schema) → (Exists front purpose recipient schema.name → ⊥) → table_shown line scope front purpose recipient schema ≡ []
  no_text purpose recipient schema none =
      let unruled = false_from_ne_true (is_ruled front purpose recipient schema) (λ is. none (ruled_exist front valid purpose recipient schema is)) in
      by_scope (has_table scope schema.name) (is_ruled front purpose recipient schema) unruled
    where
      by_scope : (asked ruled : Bool) → ruled ≡ false → cond (asked && ruled) (columns_shown line front purpose recipient schema) [] ≡ []
      by_scope true true e = absurd (false≢true (sym e))
      by_scope true false e = refl
      by_scope false ruled e = refl

  -- a longer history, with one more entry
  module _ (later : History) (entry : Entry) (longer : is_valid meaning ((front ++ later) ++ entry ∷ []) ≡ true) where
    abbrev history : History
    history = front ++ later

    still_valid : is_valid meaning history ≡ true
    still_valid = front_is_valid meaning history (entry ∷ []) longer

    next_fits : is_acceptable meaning history entry.act ≡ true
    next_fits = acceptable history entry [] longer

    here : {purpose recipient table : Name} → Exists front purpose recipient table → Exists history purpose recipient table
    here {purpose} {recipient} {table} exist = lasts front later purpose recipient table still_valid exist

    not_both : (b : Bool) → not b ≡ true → b ≡ true → ⊥
    not_both true fails holds = false≢true fails
    not_both false fails holds = false≢true holds

    none_and_some : (found : Option Schema) → is_none found ≡ true → is_some found ≡ true → ⊥
    none_and_some None none some = false≢true some
    none_and_some (Some schema) none some = false≢true none

    by_act : (act : Act) → is_acceptable meaning history act ≡ true → rules_by_names (known_after (known_at history) act) line scope front ≡ rules_by_names (known_at history) line scope front
    by_act (Create schema) fits =
        let first = (and_parts (nat_lt (count_by (λ (e : Entry). creates_table e.act) history) table_limit && is_none (schema_at history schema.name)) (is_well_formed schema) fits).0 in
        let none = (and_parts (nat_lt (count_by (λ (e : Entry). creates_table e.act) history) table_limit) (is_none (schema_at history schema.name)) first).1 in
        let known = known_at history in
        let same : (purpose recipient : Name) → tables_shown (known_after known (Create schema)) line scope front purpose recipient ≡ tables_shown known line scope front purpose recipient =
        λ purpose recipient. flat_same (λ named. table_shown line scope front purpose recipient named.1) known.tables (schema.name, schema)
        (no_text purpose recipient schema (λ exist. none_and_some (schema_at history schema.name) none (here exist).table_is)) in
        λ i. flat_map (λ purpose. flat_map (λ recipient. same purpose recipient i) known.recipients) known.purposes
    by_act (Purpose name) fits =
        let known = known_at history in
        flat_same (λ purpose. flat_map (λ recipient. tables_shown known line scope front purpose recipient) known.recipients) known.purposes name
        (flat_none (λ recipient. tables_shown known line scope front name recipient) known.recipients (λ recipient. flat_none (λ named. table_shown line scope front name recipient named.1) known.tables
        (λ named. no_text name recipient named.1 (λ exist. not_both (is_purpose history name) fits (here exist).purpose_is))))
    by_act (Recipient name) fits =
        let known = known_at history in
        let same : (purpose : Name) → flat_map (λ recipient. tables_shown known line scope front purpose recipient) (known.recipients ++ name ∷ []) ≡ flat_map (λ recipient. tables_shown known line scope front purpose recipient) known.recipients =
        λ purpose. flat_same (λ recipient. tables_shown known line scope front purpose recipient) known.recipients name
        (flat_none (λ named. table_shown line scope front purpose name named.1) known.tables
        (λ named. no_text purpose name named.1 (λ exist. not_both (is_recipient history name) fits (here exist).recipient_is))) in
        λ i. flat_map (λ purpose. same purpose i) known.purposes
    by_act act fits = refl

    one_more_entry : rules_by_names (known_at (history ++ entry ∷ [])) line scope front ≡ rules_by_names (known_at history) line scope front
    one_more_entry = ap (λ (known : KnownNames). rules_by_names known line scope front) (names_grow history entry) ∙ by_act entry.act next_fits

  same_after : (middle later : History) → is_valid meaning ((front ++ middle) ++ later) ≡ true → rules_by_names (known_at ((front ++ middle) ++ later)) line scope front ≡ rules_by_names (known_at (front ++ middle)) line scope front
  same_after middle [] sound = ap (λ (h : History). rules_by_names (known_at h) line scope front) (append-nil (front ++ middle))
  same_after middle (entry ∷ later) sound =
      let regrouped : (front ++ (middle ++ entry ∷ [])) ++ later ≡ (front ++ middle) ++ entry ∷ later =
      ap (λ (h : History). h ++ later) (sym (append_assoc front middle (entry ∷ []))) ∙ append_assoc (front ++ middle) (entry ∷ []) later in
      let whole : is_valid meaning ((front ++ (middle ++ entry ∷ [])) ++ later) ≡ true = ap (is_valid meaning) regrouped ∙ sound in
      let one : is_valid meaning ((front ++ middle) ++ entry ∷ []) ≡ true = ap (is_valid meaning) (append_assoc front middle (entry ∷ [])) ∙ front_is_valid meaning (front ++ (middle ++ entry ∷ [])) later whole in
      ap (λ (h : History). rules_by_names (known_at h) line scope front) (sym regrouped) ∙ same_after (middle ++ entry ∷ []) later whole
      ∙ ap (λ (h : History). rules_by_names (known_at h) line scope front) (sym (append_assoc front middle (entry ∷ []))) ∙ one_more_entry middle entry one

-- the names of a valid history show the rules after its first entries as the names that these
-- entries created do
pub rules_of_first : (history : History) → is_valid meaning history ≡ true → (n : ℕ) (line : RuleLine) (scope : Scope) → rules_by_names (known_at history) line scope (take n history) ≡ rules_shown line scope (take n history)
rules_of_first history valid n line scope =
    let parts : take n history ++ drop n history ≡ history = take-append-drop n history in
    let nothing : (take n history ++ []) ++ drop n history ≡ history = ap (λ (h : History). h ++ drop n history) (append-nil (take n history)) ∙ parts in
    let first : is_valid meaning (take n history) ≡ true = front_is_valid meaning (take n history) (drop n history) (ap (is_valid meaning) parts ∙ valid) in
    ap (λ (h : History). rules_by_names (known_at h) line scope (take n history)) (sym nothing)
    ∙ same_after (take n history) first line scope [] (drop n history) (ap (is_valid meaning) nothing ∙ valid)
    ∙ ap (λ (h : History). rules_by_names (known_at h) line scope (take n history)) (append-nil (take n history))

-- whether some column has a rule, at one of them
module _ (history : History) (purpose recipient : Name) (schema : Schema) (place : Place) (within : place < length schema.columns) where
  abbrev has_rule : Place → Bool
  has_rule at = is_some (column_rule history purpose recipient schema at)

  module _ (so_far : list_any has_rule (range_with_len place (length schema.columns - place)) ≡ is_ruled history purpose recipient schema) where
    pub column_ruled : true ≡ has_rule place → true ≡ is_ruled history purpose recipient schema
    column_ruled is = place_passes has_rule (is_ruled history purpose recipient schema) place (length schema.columns) within so_far is

    pub column_unruled : false ≡ has_rule place → list_any has_rule (range_with_len (place + 1) (length schema.columns - (place + 1))) ≡ is_ruled history purpose recipient schema
    column_unruled is = place_fails has_rule (is_ruled history purpose recipient schema) place (length schema.columns) within so_far is
