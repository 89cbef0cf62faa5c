-- The names of a history, one entry at a time, and what the history says of each.
use Rattle.std.proofs.Common.{◌≡◌, ◌+◌, Bool, true, false, cond, List, [], ◌∷◌, ◌++◌, filter_map, length, Option, None, Some, refl, sym, ap, subst, ◌∙◌, arith}
use Rattle.std.specs.Prelude.{not, ◌&&◌, ◌||◌, ◌==◌, if◌then◌else◌, nat_lt, is_none, bytes_eq, count_by}
use Rattle.std.specs.Bool.{then_some}
use Rattle.std.specs.Cmp.Lexicographic.{nat_list_eq_equiv}
use Rattle.std.specs.List.{list_any, cons_option}
use Rattle.std.specs.Map.{lookup}
use Rattle.std.specs.Option.{option_or}
use Rattle.std.proofs.lemmas.Bool.{and_parts}
use Rattle.std.proofs.lemmas.List.{append-nil}
use Rattle.std.proofs.lemmas.List.Sums.{sum_by-cons}
use Rattle.std.proofs.lemmas.List.Elements.{filter_map-append}
use Rattle.std.proofs.lemmas.Slice.Eq.{bytes_eq-Decides}
use Rattle.hippo_values.specs.Limits.{table_limit}
use Rattle.hippo_values.specs.declared.names.Name.{Name}
use Rattle.hippo_model.specs.declared.entry.Act.{Act}
use Rattle.hippo_model.specs.declared.entry.Act.TheVariants.{Create, Purpose, Recipient, Item}
use Rattle.hippo_model.specs.declared.entry.Entry.{Entry}
use Rattle.hippo_model.specs.declared.entry.ItemKind.{ItemKind}
use Rattle.hippo_model.specs.declared.schema.Schema.{Schema}
use Rattle.hippo_model.specs.Histories.{last_word, schema_created, item_created, schema_at, item_at}
use Rattle.hippo_model.specs.Keepable.{is_keepable}
use Rattle.hippo_model.specs.Terms.{History, Meaning}
use Rattle.hippo_model.specs.Validity.{creates_purpose, creates_recipient, is_purpose, is_recipient, creates_table, keeps_order, is_acceptable, is_well_formed, may_follow, is_valid}
use Rattle.hippo_model.proofs.LastWords.{last_word-append}
use Rattle.hippo_typing_catalog.specs.Catalogs.{KnownNames, table_in, purpose_in, recipient_in, item_in, known_at, known_after, has_purpose, has_recipient, creates_new_names}
use Rattle.hippo_model_laws.proofs.ValidFronts.{holds_of_each_valid}
use Rattle.hippo_typing.specs.ResolutionLaws.{NamesAreThoseOf}
use Rattle.hippo_typing.proofs.LastingNames.{lookup-append}

nothing_more : (known : KnownNames) → (let more : KnownNames = record { tables = known.tables ++ []; purposes = known.purposes ++ []; recipients = known.recipients ++ []; items = known.items ++ [] } in more ≡ known)
nothing_more known = λ i. record { tables = append-nil known.tables i; purposes = append-nil known.purposes i; recipients = append-nil known.recipients i; items = append-nil known.items i }

abbrev with_created : KnownNames → Act → KnownNames
with_created known act = record {
  tables = known.tables ++ cons_option (table_in act) [];
  purposes = known.purposes ++ cons_option (purpose_in act) [];
  recipients = known.recipients ++ cons_option (recipient_in act) [];
  items = known.items ++ cons_option (item_in act) [];
}

created_after : (known : KnownNames) (act : Act) → with_created known act ≡ known_after known act
created_after known (Create schema) = λ i. record { tables = known.tables ++ (schema.name, schema) ∷ []; purposes = append-nil known.purposes i; recipients = append-nil known.recipients i; items = append-nil known.items i }
created_after known (Purpose purpose) = λ i. record { tables = append-nil known.tables i; purposes = known.purposes ++ purpose ∷ []; recipients = append-nil known.recipients i; items = append-nil known.items i }
created_after known (Recipient recipient) = λ i. record { tables = append-nil known.tables i; purposes = append-nil known.purposes i; recipients = known.recipients ++ recipient ∷ []; items = append-nil known.items i }
created_after known (Item item kind) = λ i. record { tables = append-nil known.tables i; purposes = append-nil known.purposes i; recipients = append-nil known.recipients i; items = known.items ++ (item, kind) ∷ [] }
created_after known act = nothing_more known

-- the names of a history with one entry more
pub names_grow : (history : History) (entry : Entry) → known_at (history ++ entry ∷ []) ≡ known_after (known_at history) entry.act
names_grow history entry =
    let tables = filter_map-append (λ (e : Entry). table_in e.act) history (entry ∷ []) in
    let purposes = filter_map-append (λ (e : Entry). purpose_in e.act) history (entry ∷ []) in
    let recipients = filter_map-append (λ (e : Entry). recipient_in e.act) history (entry ∷ []) in
    let items = filter_map-append (λ (e : Entry). item_in e.act) history (entry ∷ []) in
    let grown : known_at (history ++ entry ∷ []) ≡ with_created (known_at history) entry.act = λ i. record { tables = tables i; purposes = purposes i; recipients = recipients i; items = items i } in
    grown ∙ created_after (known_at history) entry.act

-- comparing two names does not depend on their order
swapped : (a b : Name) → bytes_eq a b ≡ bytes_eq b a
swapped a b = nat_list_eq_equiv.symm a b

option_or-None : {A : Type 0} (o : Option A) → option_or o None ≡ o
option_or-None None = refl
option_or-None (Some x) = refl

module _ {A : Type 0} (value : A) where
  by_test : (test : Bool) (at : Option A) → (test ≡ true → at ≡ None) → option_or at (cond test (Some value) None) ≡ option_or (then_some test value) at
  by_test true at fresh = ap (λ o. option_or o (Some value)) (fresh refl)
  by_test false at fresh = option_or-None at

table_step : (table : Name) (act : Act) (at : Option Schema) → ((schema : Schema) → act ≡ Create schema → bytes_eq schema.name table ≡ true → at ≡ None) → option_or at (lookup (bytes_eq table) (cons_option (table_in act) [])) ≡ option_or (schema_created table act) at
table_step table (Create schema) at fresh =
    ap (λ t. option_or at (cond t (Some schema) None)) (swapped table schema.name) ∙ by_test schema (bytes_eq schema.name table) at (fresh schema refl)
table_step table act at fresh = option_or-None at

item_step : (item : Name) (act : Act) (at : Option ItemKind) → ((name : Name) (kind : ItemKind) → act ≡ Item name kind → bytes_eq name item ≡ true → at ≡ None) → option_or at (lookup (bytes_eq item) (cons_option (item_in act) [])) ≡ option_or (item_created item act) at
item_step item (Item name kind) at fresh =
    ap (λ t. option_or at (cond t (Some kind) None)) (swapped item name) ∙ by_test kind (bytes_eq name item) at (fresh name kind refl)
item_step item act at fresh = option_or-None at

purpose_step : (purpose : Name) (act : Act) (rest : List Name) (found : Bool) → list_any (bytes_eq purpose) rest ≡ found → list_any (bytes_eq purpose) (cons_option (purpose_in act) rest) ≡ (creates_purpose purpose act || found)
purpose_step purpose (Purpose name) rest found e = ap (λ t. t || list_any (bytes_eq purpose) rest) (swapped purpose name) ∙ ap (λ t. bytes_eq name purpose || t) e
purpose_step purpose act rest found e = e

recipient_step : (recipient : Name) (act : Act) (rest : List Name) (found : Bool) → list_any (bytes_eq recipient) rest ≡ found → list_any (bytes_eq recipient) (cons_option (recipient_in act) rest) ≡ (creates_recipient recipient act || found)
recipient_step recipient (Recipient name) rest found e = ap (λ t. t || list_any (bytes_eq recipient) rest) (swapped recipient name) ∙ ap (λ t. bytes_eq name recipient || t) e
recipient_step recipient act rest found e = e

purposes_are : (history : History) (purpose : Name) → has_purpose (known_at history) purpose ≡ is_purpose history purpose
purposes_are [] purpose = refl
purposes_are (entry ∷ later) purpose = purpose_step purpose entry.act (known_at later).purposes (is_purpose later purpose) (purposes_are later purpose)

recipients_are : (history : History) (recipient : Name) → has_recipient (known_at history) recipient ≡ is_recipient history recipient
recipients_are [] recipient = refl
recipients_are (entry ∷ later) recipient = recipient_step recipient entry.act (known_at later).recipients (is_recipient later recipient) (recipients_are later recipient)

count_step : (act : Act) (rest : List (Name × Schema)) → length (cons_option (table_in act) rest) ≡ cond (creates_table act) 1 0 + length rest
count_step (Create schema) rest = omega arith
count_step act rest = omega arith

tables_counted : (history : History) → length (known_at history).tables ≡ count_by (λ (entry : Entry). creates_table entry.act) history
tables_counted [] = refl
tables_counted (entry ∷ later) =
    count_step entry.act (known_at later).tables ∙ ap (λ n. cond (creates_table entry.act) 1 0 + n) (tables_counted later) ∙ sym (sum_by-cons (λ (e : Entry). if creates_table e.act then 1 else 0) entry later)

none_is : {A : Type 0} (o : Option A) → is_none o ≡ true → o ≡ None
none_is None e = refl
none_is (Some x) e = absurd cc

module _ (meaning : Meaning) (history : History) (entry : Entry) (may : may_follow meaning history entry ≡ true) where
  acceptable : is_acceptable meaning history entry.act ≡ true
  acceptable = (and_parts (is_keepable entry && entry.seq == length history + 1 && keeps_order history entry.moment) (is_acceptable meaning history entry.act) may).1

  new_table : (table : Name) (schema : Schema) → entry.act ≡ Create schema → bytes_eq schema.name table ≡ true → schema_at history table ≡ None
  new_table table schema is named =
      let fits : is_acceptable meaning history (Create schema) ≡ true = subst (λ (a : Act). is_acceptable meaning history a ≡ true) is acceptable in
      let first = (and_parts (nat_lt (count_by (λ (e : Entry). creates_table e.act) history) table_limit && is_none (schema_at history schema.name)) (is_well_formed schema) fits).0 in
      let none = (and_parts (nat_lt (count_by (λ (e : Entry). creates_table e.act) history) table_limit) (is_none (schema_at history schema.name)) first).1 in
      ap (schema_at history) (sym ((bytes_eq-Decides schema.name table).0 named)) ∙ none_is (schema_at history schema.name) none

  new_item : (item name : Name) (kind : ItemKind) → entry.act ≡ Item name kind → bytes_eq name item ≡ true → item_at history item ≡ None
  new_item item name kind is named =
      let none : is_acceptable meaning history (Item name kind) ≡ true = subst (λ (a : Act). is_acceptable meaning history a ≡ true) is acceptable in
      ap (item_at history) (sym ((bytes_eq-Decides name item).0 named)) ∙ none_is (item_at history name) none

  -- what has a name after an entry, if the entry does not redefine an existing name
  named_after : {A : Type 0} (name : Name) (named : Act → Option (Name × A)) (said : Act → Option A) →
      lookup (bytes_eq name) (filter_map (λ (e : Entry). named e.act) history) ≡ last_word (λ (e : Entry). said e.act) history →
      option_or (last_word (λ (e : Entry). said e.act) history) (lookup (bytes_eq name) (cons_option (named entry.act) [])) ≡ option_or (said entry.act) (last_word (λ (e : Entry). said e.act) history) →
      lookup (bytes_eq name) (filter_map (λ (e : Entry). named e.act) (history ++ entry ∷ [])) ≡ last_word (λ (e : Entry). said e.act) (history ++ entry ∷ [])
  named_after name named said so_far step =
      ap (lookup (bytes_eq name)) (filter_map-append (λ (e : Entry). named e.act) history (entry ∷ []))
      ∙ lookup-append (bytes_eq name) (filter_map (λ (e : Entry). named e.act) history) (cons_option (named entry.act) [])
      ∙ ap (λ o. option_or o (lookup (bytes_eq name) (cons_option (named entry.act) []))) so_far
      ∙ step
      ∙ sym (last_word-append (λ (e : Entry). said e.act) history entry)

  kept : NamesAreThoseOf history → NamesAreThoseOf (history ++ entry ∷ [])
  kept so_far = record {
    tables = λ table. named_after table table_in (schema_created table) (so_far.tables table) (table_step table entry.act (schema_at history table) (new_table table));
    purposes = purposes_are (history ++ entry ∷ []);
    recipients = recipients_are (history ++ entry ∷ []);
    items = λ item. named_after item item_in (item_created item) (so_far.items item) (item_step item entry.act (item_at history item) (new_item item));
    count = tables_counted (history ++ entry ∷ []);
  }

-- what is found among the names of a valid history is what the history says
pub valid_names : (meaning : Meaning) (history : History) → is_valid meaning history ≡ true → NamesAreThoseOf history
valid_names meaning history valid =
    holds_of_each_valid meaning NamesAreThoseOf (λ front entry front_valid so_far may. kept meaning front entry may so_far)
    (record { tables = λ table. refl; purposes = λ purpose. refl; recipients = λ recipient. refl; items = λ item. refl; count = refl }) history valid

module _ (meaning : Meaning) (history : History) (names : NamesAreThoseOf history) where
  anew : (act : Act) → is_acceptable meaning history act ≡ true → creates_new_names (known_at history) act ≡ true
  anew (Create schema) fits =
      let first = (and_parts (nat_lt (count_by (λ (e : Entry). creates_table e.act) history) table_limit && is_none (schema_at history schema.name)) (is_well_formed schema) fits).0 in
      ap is_none (names.tables schema.name) ∙ (and_parts (nat_lt (count_by (λ (e : Entry). creates_table e.act) history) table_limit) (is_none (schema_at history schema.name)) first).1
  anew (Purpose purpose) fits = ap not (names.purposes purpose) ∙ fits
  anew (Recipient recipient) fits = ap not (names.recipients recipient) ∙ fits
  anew (Item item kind) fits = ap is_none (names.items item) ∙ fits
  anew act fits = refl

-- an entry that may follow creates no name that already exists
pub entries_create_anew : (meaning : Meaning) (history : History) (entry : Entry) → is_valid meaning history ≡ true → may_follow meaning history entry ≡ true → creates_new_names (known_at history) entry.act ≡ true
entries_create_anew meaning history entry valid may =
    anew meaning history (valid_names meaning history valid) entry.act (acceptable meaning history entry may)
