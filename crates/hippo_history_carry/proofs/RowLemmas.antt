-- The rows that live are those of the old history, with their births.
use Rattle.std.proofs.Common.{◌≡◌, ◌≢◌, ◌∙◌, ℕ, ◌+◌, Bool, true, false, not, ◌&&◌, ◌||◌, List, [], ◌∷◌, ◌++◌, Option, Some, None, refl, sym, ap, subst}
use Rattle.std.specs.Prelude.{◌==◌, is_none, is_some, option_map, option_and_then, unwrap_or, nat_lt, length, bytes_eq, if◌then◌else◌}
use Rattle.std.specs.Bool.{then_some}
use Rattle.std.specs.List.{list_any}
use Rattle.std.specs.Option.{option_or, option_map_or}
use Rattle.std.proofs.lemmas.Bool.{false≢true, and_parts}
use Rattle.hippo_values.specs.Moments.{first_moment}
use Rattle.hippo_values.specs.Order.{same_cells}
use Rattle.hippo_values.specs.declared.moments.Moment.{Moment}
use Rattle.hippo_values.specs.declared.names.Name.{Name}
use Rattle.hippo_model.specs.declared.born_row.BornRow.{BornRow}
use Rattle.hippo_model.specs.declared.entry.Act.{Act}
use Rattle.hippo_model.specs.declared.entry.Act.TheVariants.{Create, Insert, Update, Delete, Purpose, Recipient, Item, Authorize, Deauthorize, Allow, Revoke, Choice, Asked}
use Rattle.hippo_model.specs.declared.entry.Entry.{Entry}
use Rattle.hippo_model.specs.declared.schema.Schema.{Schema}
use Rattle.hippo_model.specs.Histories.{last_word, schema_created, schema_at}
use Rattle.hippo_model.specs.Keepable.{is_keepable}
use Rattle.hippo_model.specs.Rows.{key_of, names_key, row_left, row_at, is_insert, born_row_at}
use Rattle.hippo_model.specs.Rules.{choice_at}
use Rattle.hippo_model.specs.Terms.{History, Key, Meaning, Place, Row}
use Rattle.hippo_model.specs.Validity.{table_passes, is_acceptable, keeps_order, may_follow, is_valid}
use Rattle.hippo_model.specs.Versions.{row_fits, is_live, version_fits}
use Rattle.hippo_model.proofs.LastWords.{last_word-append}
use Rattle.hippo_model_laws.proofs.ValidFronts.{holds_of_each_valid}
use Rattle.hippo_tables_keyed.proofs.Orders.{same_exact}
use Rattle.hippo_tables_keyed.proofs.RowsAfter.{key_of-row_at, row_at-append}
use Rattle.hippo_tables.proofs.StandingLemmas.{same_name, create_parts}
use Rattle.hippo_history_carry.specs.Carrying.{columns_left, is_granted_again, inserts_key, is_inserted_again, birth_of, birth_left, act_left, with_act, entry_left, entries_left, numbered_from, carried}
use Rattle.hippo_history_carry.specs.CarryLaws.{CarriesRows}

or_none : {A : Type 0} (found : Option A) → option_or found None ≡ found
or_none None = refl
or_none (Some word) = refl

or_grouped : {A : Type 0} (a b c : Option A) → option_or (option_or a b) c ≡ option_or a (option_or b c)
or_grouped None b c = refl
or_grouped (Some word) b c = refl

some_same : {A : Type 0} (a b : A) → Some a ≡ Some b → a ≡ b
some_same a b is = cc

none_found : {A : Type 0} (found : Option A) → is_none found ≡ true → found ≡ None
none_found None is = refl
none_found (Some value) is = absurd cc

map_or : {A B : Type 0} (f : A → B) (a b : Option A) → option_map f (option_or a b) ≡ option_or (option_map f a) (option_map f b)
map_or f None b = refl
map_or f (Some value) b = refl

-- a schema has the name under which it is found
schema_has_name : (history : History) (table : Name) (schema : Schema) → schema_at history table ≡ Some schema → schema.name ≡ table
schema_has_name [] table schema is = absurd cc
schema_has_name (entry ∷ later) table schema is = by (schema_has_name later table schema) (schema_at later table) refl is
  where
    one : (made : Schema) (test : Bool) → bytes_eq made.name table ≡ test → then_some test made ≡ Some schema → schema.name ≡ table
    one made true e found = ap (λ (s : Schema). s.name) (sym (some_same made schema found)) ∙ same_name made.name table e
    one made false e found = absurd cc

    created : (act : Act) → schema_created table act ≡ Some schema → schema.name ≡ table
    created (Create made) found = one made (bytes_eq made.name table) refl found
    created act found = absurd cc

    by : (schema_at later table ≡ Some schema → schema.name ≡ table) → (last : Option Schema) → schema_at later table ≡ last → option_or last (schema_created table entry.act) ≡ Some schema → schema.name ≡ table
    by of_later (Some other) e found = of_later (e ∙ found)
    by of_later None e found = created entry.act found

-- words that say nothing of the numbers of their entries
module _ {A : Type 0} (word_of : Moment → Act → Option A) where
  abbrev word : Entry → Option A
  word entry = word_of entry.moment entry.act

  said_of_left : (entry : Entry) (left : Option Act) → last_word word (option_map_or (λ act. with_act entry act ∷ []) left []) ≡ option_and_then (word_of entry.moment) left
  said_of_left entry None = refl
  said_of_left entry (Some act) = refl

  appended : (first rest : History) → last_word word (first ++ rest) ≡ option_or (last_word word rest) (last_word word first)
  appended [] rest = sym (or_none (last_word word rest))
  appended (entry ∷ first) rest = ap (λ (found : Option A). option_or found (word entry)) (appended first rest) ∙ or_grouped (last_word word rest) (last_word word first) (word entry)

  numbered : (number : ℕ) (entries : History) → last_word word (numbered_from number entries) ≡ last_word word entries
  numbered number [] = refl
  numbered number (entry ∷ later) = ap (λ (found : Option A). option_or found (word entry)) (numbered (number + 1) later)

  said : (history later : History) (entry : Entry) → last_word word (entry_left history later entry ++ entries_left history later) ≡ option_or (last_word word (entries_left history later)) (option_and_then (word_of entry.moment) (act_left history later entry.act))
  said history later entry =
      appended (entry_left history later entry) (entries_left history later)
      ∙ ap (option_or (last_word word (entries_left history later))) (said_of_left entry (act_left history later entry.act))

  module _ (history : History) (stays : (later : History) (moment : Moment) (act : Act) → last_word word later ≡ None → option_and_then (word_of moment) (act_left history later act) ≡ word_of moment act) where
    left_words : (entries : History) → last_word word (entries_left history entries) ≡ last_word word entries
    left_words [] = refl
    left_words (entry ∷ later) =
        said history later entry ∙ ap (λ (found : Option A). option_or found (option_and_then (word_of entry.moment) (act_left history later entry.act))) (left_words later)
        ∙ by (last_word word later) refl
      where
        by : (found : Option A) → last_word word later ≡ found → option_or found (option_and_then (word_of entry.moment) (act_left history later entry.act)) ≡ option_or found (word entry)
        by (Some value) e = refl
        by None e = stays later entry.moment entry.act e

    carried_words : last_word word (carried history) ≡ last_word word history
    carried_words = numbered 1 (entries_left history history) ∙ left_words history

-- a word of each entry that is left follows from another word of it
module _ {A B : Type 0} (f : A → B) (one : Moment → Act → Option A) (other : Moment → Act → Option B) (history : History)
    (follows : (later : History) (moment : Moment) (act : Act) → option_and_then (other moment) (act_left history later act) ≡ option_map f (option_and_then (one moment) (act_left history later act))) where
  abbrev first : Entry → Option A
  first entry = one entry.moment entry.act

  abbrev second : Entry → Option B
  second entry = other entry.moment entry.act

  both_left : (entries : History) → last_word second (entries_left history entries) ≡ option_map f (last_word first (entries_left history entries))
  both_left [] = refl
  both_left (entry ∷ later) =
      said other history later entry ∙ (λ i. option_or (both_left later i) (follows later entry.moment entry.act i))
      ∙ sym (map_or f (last_word first (entries_left history later)) (option_and_then (one entry.moment) (act_left history later entry.act)))
      ∙ ap (option_map f) (sym (said one history later entry))

  both_carried : last_word second (carried history) ≡ option_map f (last_word first (carried history))
  both_carried = numbered other 1 (entries_left history history) ∙ both_left history ∙ ap (option_map f) (sym (numbered one 1 (entries_left history history)))

module _ (schema : Schema) (key : Key) where
  abbrev inserted : Moment → Act → Option Moment
  inserted moment act = then_some (is_insert act && names_key schema key act) moment

  abbrev changed : Moment → Act → Option (Option Row)
  changed moment act = then_some (names_key schema key act) (row_left act)

  abbrev insertion : Entry → Option Moment
  insertion entry = inserted entry.moment entry.act

  abbrev change : Entry → Option (Option Row)
  change entry = changed entry.moment entry.act

  abbrev named_with : Bool → Key → Bool
  named_with here named = option_map_or (λ other. same_cells other key) (then_some here named) false

  named_parts : (here : Bool) (named : Key) → named_with here named ≡ true → (here ≡ true) × (same_cells named key ≡ true)
  named_parts true named is = (refl, is)
  named_parts false named is = absurd (false≢true is)

  -- in a valid history each row was inserted
  module _ (meaning : Meaning) where
    abbrev IsInserted : History → Type 0
    IsInserted history =
        (schema_at history schema.name ≡ None → last_word change history ≡ None)
        × (schema_at history schema.name ≡ Some schema → (row : Row) → row_at schema history key ≡ Some row → is_some (last_word insertion history) ≡ true)

    nowhere : (history : History) (table : Name) (test : Schema → Bool) (named : Key) → schema_at history schema.name ≡ None → table_passes history test table ≡ true → named_with (bytes_eq table schema.name) named ≡ false
    nowhere history table test named unmade fits = by (bytes_eq table schema.name) refl
      where
        by : (here : Bool) → bytes_eq table schema.name ≡ here → named_with here named ≡ false
        by true e = absurd (false≢true (sym (ap (λ (found : Option Schema). option_map_or test found false) (ap (schema_at history) (same_name table schema.name e) ∙ unmade)) ∙ fits))
        by false e = refl

    unnamed : (history : History) (act : Act) → schema_at history schema.name ≡ None → is_acceptable meaning history act ≡ true → names_key schema key act ≡ false
    unnamed history (Insert table row) unmade fits = nowhere history table (λ s. version_fits s history (Insert table row)) (key_of schema.key row) unmade fits
    unnamed history (Update table row) unmade fits = nowhere history table (λ s. version_fits s history (Update table row)) (key_of schema.key row) unmade fits
    unnamed history (Delete table named) unmade fits = nowhere history table (λ s. version_fits s history (Delete table named)) named unmade fits
    unnamed history act unmade fits = refl

    module _ (history : History) (so_far : IsInserted history) (row : Row) (moment : Moment) where
      abbrev Goal : Act → Type 0
      Goal act = is_some (option_or (inserted moment act) (last_word insertion history)) ≡ true

      abbrev Found : Act → Type 0
      Found act = (if names_key schema key act then row_left act else row_at schema history key) ≡ Some row

      made_now : (made : Schema) → is_acceptable meaning history (Create made) ≡ true → option_or (schema_created schema.name (Create made)) (schema_at history schema.name) ≡ Some schema
          → row_at schema history key ≡ Some row → is_some (last_word insertion history) ≡ true
      made_now made fits is found = by (bytes_eq made.name schema.name) refl is
        where
          by : (here : Bool) → bytes_eq made.name schema.name ≡ here → option_or (then_some here made) (schema_at history schema.name) ≡ Some schema → is_some (last_word insertion history) ≡ true
          by false e there = so_far.1 there row found
          by true e there =
              let unmade : schema_at history schema.name ≡ None = ap (schema_at history) (sym (same_name made.name schema.name e)) ∙ none_found (schema_at history made.name) (create_parts history made fits) in
              let absent : None ≡ Some row = sym (ap (option_and_then (λ left. left)) (so_far.0 unmade)) ∙ found in
              absurd cc

      updated : (table : Name) (now : Row) → is_acceptable meaning history (Update table now) ≡ true → schema_at history schema.name ≡ Some schema → Found (Update table now) → is_some (last_word insertion history) ≡ true
      updated table now fits there found = by (names_key schema key (Update table now)) refl found
        where
          live : (left : Option Row) → row_at schema history key ≡ left → is_some left ≡ true → is_some (last_word insertion history) ≡ true
          live None e is = absurd (false≢true is)
          live (Some kept) e is = so_far.1 there kept e

          by : (names : Bool) → names_key schema key (Update table now) ≡ names → (if names then Some now else row_at schema history key) ≡ Some row → is_some (last_word insertion history) ≡ true
          by false e is = so_far.1 there row is
          by true e is =
              let parts = named_parts (bytes_eq table schema.name) (key_of schema.key now) e in
              let same : schema_at history table ≡ Some schema = ap (schema_at history) (same_name table schema.name parts.0) ∙ there in
              let fitting : version_fits schema history (Update table now) ≡ true = sym (ap (λ (found : Option Schema). option_map_or (λ s. version_fits s history (Update table now)) found false) same) ∙ fits in
              let lives = (and_parts (bytes_eq table schema.name && row_fits schema now) (is_live schema history (key_of schema.key now)) fitting).1 in
              live (row_at schema history key) refl (ap (λ (k : Key). is_some (row_at schema history k)) (sym (same_exact (key_of schema.key now) key parts.1)) ∙ lives)

      put : (table : Name) (now : Row) → schema_at history schema.name ≡ Some schema → Found (Insert table now) → Goal (Insert table now)
      put table now there found = by (names_key schema key (Insert table now)) found
        where
          by : (names : Bool) → (if names then Some now else row_at schema history key) ≡ Some row → is_some (option_or (then_some names moment) (last_word insertion history)) ≡ true
          by true is = refl
          by false is = so_far.1 there row is

      gone : (names : Bool) → schema_at history schema.name ≡ Some schema → (if names then None else row_at schema history key) ≡ Some row → is_some (last_word insertion history) ≡ true
      gone true there is = absurd cc
      gone false there is = so_far.1 there row is

      after : (act : Act) → is_acceptable meaning history act ≡ true → option_or (schema_created schema.name act) (schema_at history schema.name) ≡ Some schema → Found act → Goal act
      after (Create made) fits is found = made_now made fits is found
      after (Insert table now) fits is found = put table now is found
      after (Update table now) fits is found = updated table now fits is found
      after (Delete table named) fits is found = gone (names_key schema key (Delete table named)) is found
      after act fits is found = so_far.1 is row found

    unmade_before : {A : Type 0} (a b : Option A) → option_or a b ≡ None → b ≡ None
    unmade_before None b is = is
    unmade_before (Some value) b is = absurd cc

    unmade_after : (history : History) (entry : Entry) → IsInserted history → is_acceptable meaning history entry.act ≡ true → schema_at (history ++ entry ∷ []) schema.name ≡ None → last_word change (history ++ entry ∷ []) ≡ None
    unmade_after history entry so_far fits unmade =
        let schemas = last_word-append (λ (e : Entry). schema_created schema.name e.act) history entry in
        let before = unmade_before (schema_created schema.name entry.act) (schema_at history schema.name) (sym schemas ∙ unmade) in
        last_word-append change history entry ∙ ap (λ (names : Bool). option_or (then_some names (row_left entry.act)) (last_word change history)) (unnamed history entry.act before fits) ∙ so_far.0 before

    one_more : (history : History) (entry : Entry) → is_valid meaning history ≡ true → IsInserted history → may_follow meaning history entry ≡ true → IsInserted (history ++ entry ∷ [])
    one_more history entry valid so_far may =
        let fits = (and_parts (is_keepable entry && entry.seq == length history + 1 && keeps_order history entry.moment) (is_acceptable meaning history entry.act) may).1 in
        let schemas = last_word-append (λ (e : Entry). schema_created schema.name e.act) history entry in (
          unmade_after history entry so_far fits,
          (λ is row found. ap is_some (last_word-append insertion history entry) ∙ after history so_far row entry.moment entry.act fits (sym schemas ∙ is) (sym (row_at-append schema history entry key) ∙ found)),
        )

    each_inserted : (history : History) → is_valid meaning history ≡ true → IsInserted history
    each_inserted = holds_of_each_valid meaning IsInserted one_more ((λ unmade. refl), (λ is row found. absurd cc))

  module _ (history : History) (there : schema_at history schema.name ≡ Some schema) where
    -- the schema of an act that names the table
    schema_here : (table : Name) (other : Schema) → schema_at history table ≡ Some other → bytes_eq table schema.name ≡ true → other ≡ schema
    schema_here table other is same = some_same other schema (sym is ∙ ap (schema_at history) (same_name table schema.name same) ∙ there)

    -- the row of today has the key of the row that was inserted
    same_names : (table : Name) (row now : Row) (other : Schema) → schema_at history table ≡ Some other → row_at other history (key_of other.key row) ≡ Some now
        → names_key schema key (Insert table now) ≡ names_key schema key (Insert table row)
    same_names table row now other is found = by (bytes_eq table schema.name) refl
      where
        by : (here : Bool) → bytes_eq table schema.name ≡ here → named_with here (key_of schema.key now) ≡ named_with here (key_of schema.key row)
        by true e = ap (named_with true) (subst (λ (s : Schema). key_of s.key now ≡ key_of s.key row) (schema_here table other is e) (key_of-row_at other history (key_of other.key row) now found))
        by false e = refl

    -- an INSERT that is left has the row of today
    row_of_today : (table : Name) (row now : Row) (other : Schema) → schema_at history table ≡ Some other → row_at other history (key_of other.key row) ≡ Some now
        → names_key schema key (Insert table row) ≡ true → row_at schema history key ≡ Some now
    row_of_today table row now other is found names =
        let parts = named_parts (bytes_eq table schema.name) (key_of schema.key row) names in
        ap (row_at schema history) (sym (same_exact (key_of schema.key row) key parts.1))
        ∙ subst (λ (s : Schema). row_at s history (key_of s.key row) ≡ Some now) (schema_here table other is parts.0) found

    abbrev Follows : Moment → Option Act → Type 0
    Follows moment left = option_and_then (changed moment) left ≡ option_map (λ (born : Moment). row_at schema history key) (option_and_then (inserted moment) left)

    birth_follows : (later : History) (moment : Moment) (table : Name) (row : Row) → Follows moment (birth_left history later table row)
    birth_follows later moment table row = by (schema_at history table) refl
      where
        of_row : (other : Schema) → schema_at history table ≡ Some other → (found : Option Row) → row_at other history (key_of other.key row) ≡ found → Follows moment (option_map (Insert table) found)
        of_row other is None e = refl
        of_row other is (Some now) e = named (names_key schema key (Insert table now)) refl
          where
            named : (names : Bool) → names_key schema key (Insert table now) ≡ names → then_some names (Some now) ≡ option_map (λ (born : Moment). row_at schema history key) (then_some names moment)
            named true names = ap Some (sym (row_of_today table row now other is e (sym (same_names table row now other is e) ∙ names)))
            named false names = refl

        of_birth : (other : Schema) → schema_at history table ≡ Some other → (again : Bool) → Follows moment (if again then None else option_map (Insert table) (row_at other history (key_of other.key row)))
        of_birth other is true = refl
        of_birth other is false = of_row other is (row_at other history (key_of other.key row)) refl

        by : (found : Option Schema) → schema_at history table ≡ found → Follows moment (option_and_then (λ s. birth_of history later table s (key_of s.key row)) found)
        by None is = refl
        by (Some other) is = of_birth other is (is_inserted_again other (key_of other.key row) later)

    silent_follows : (moment : Moment) (test : Bool) (act : Act) → Follows moment (Some act) → Follows moment (then_some test act)
    silent_follows moment true act is = is
    silent_follows moment false act is = refl

    left_follows : (later : History) (moment : Moment) (act : Act) → Follows moment (act_left history later act)
    left_follows later moment (Insert table row) = birth_follows later moment table row
    left_follows later moment (Create made) = refl
    left_follows later moment (Purpose name) = refl
    left_follows later moment (Recipient name) = refl
    left_follows later moment (Item name kind) = refl
    left_follows later moment (Update table row) = refl
    left_follows later moment (Delete table named) = refl
    left_follows later moment (Asked u p r text) = refl
    left_follows later moment (Authorize u p r) = silent_follows moment (not (is_granted_again u p r later)) (Authorize u p r) refl
    left_follows later moment (Deauthorize u p r) = silent_follows moment (not (is_granted_again u p r later)) (Deauthorize u p r) refl
    left_follows later moment (Allow p r t columns item days) = let left : List Place = columns_left p r t columns later in silent_follows moment (nat_lt 0 (length left)) (Allow p r t left item days) refl
    left_follows later moment (Revoke p r t columns) = let left : List Place = columns_left p r t columns later in silent_follows moment (nat_lt 0 (length left)) (Revoke p r t left) refl
    left_follows later moment (Choice s i agreed) = silent_follows moment (is_none (choice_at later s i)) (Choice s i agreed) refl

    any_inserted : (later : History) → list_any (inserts_key schema key) later ≡ is_some (last_word insertion later)
    any_inserted [] = refl
    any_inserted (entry ∷ later) = ap (λ (b : Bool). inserts_key schema key entry || b) (any_inserted later) ∙ by (is_insert entry.act && names_key schema key entry.act) (last_word insertion later)
      where
        by : (b : Bool) (found : Option Moment) → (b || is_some found) ≡ is_some (option_or found (then_some b entry.moment))
        by true None = refl
        by true (Some value) = refl
        by false None = refl
        by false (Some value) = refl

    -- the birth of a row that lives is left
    module _ (now : Row) (lives : row_at schema history key ≡ Some now) (later : History) (moment : Moment) (unsaid : last_word insertion later ≡ None) where
      not_again : is_inserted_again schema key later ≡ false
      not_again = any_inserted later ∙ ap is_some unsaid

      abbrev Stays : Name → Row → Option Act → Type 0
      Stays table row left = option_and_then (inserted moment) left ≡ inserted moment (Insert table row)

      unless_named : (table : Name) (row : Row) → names_key schema key (Insert table row) ≢ true → None ≡ inserted moment (Insert table row)
      unless_named table row never = by (names_key schema key (Insert table row)) refl
        where
          by : (names : Bool) → names_key schema key (Insert table row) ≡ names → None ≡ then_some names moment
          by true e = absurd (never e)
          by false e = refl

      birth_stays : (table : Name) (row : Row) → Stays table row (birth_left history later table row)
      birth_stays table row = by (schema_at history table) refl
        where
          of_row : (other : Schema) → schema_at history table ≡ Some other → (found : Option Row) → row_at other history (key_of other.key row) ≡ found → Stays table row (option_map (Insert table) found)
          of_row other is (Some today) e = ap (λ (names : Bool). then_some names moment) (same_names table row today other is e)
          of_row other is None e = unless_named table row (λ names.
              let parts = named_parts (bytes_eq table schema.name) (key_of schema.key row) names in
              let absent : row_at schema history (key_of schema.key row) ≡ None = subst (λ (s : Schema). row_at s history (key_of s.key row) ≡ None) (schema_here table other is parts.0) e in
              let both : None ≡ Some now = sym absent ∙ ap (row_at schema history) (same_exact (key_of schema.key row) key parts.1) ∙ lives in
              absurd cc)

          of_birth : (other : Schema) → schema_at history table ≡ Some other → (again : Bool) → is_inserted_again other (key_of other.key row) later ≡ again
              → Stays table row (if again then None else option_map (Insert table) (row_at other history (key_of other.key row)))
          of_birth other is false e = of_row other is (row_at other history (key_of other.key row)) refl
          of_birth other is true e = unless_named table row (λ names.
              let parts = named_parts (bytes_eq table schema.name) (key_of schema.key row) names in
              let again : is_inserted_again schema (key_of schema.key row) later ≡ true = subst (λ (s : Schema). is_inserted_again s (key_of s.key row) later ≡ true) (schema_here table other is parts.0) e in
              false≢true (sym not_again ∙ ap (λ (k : Key). is_inserted_again schema k later) (sym (same_exact (key_of schema.key row) key parts.1)) ∙ again))

          by : (found : Option Schema) → schema_at history table ≡ found → Stays table row (option_and_then (λ s. birth_of history later table s (key_of s.key row)) found)
          by (Some other) is = of_birth other is (is_inserted_again other (key_of other.key row) later) refl
          by None is = unless_named table row (λ names.
              let parts = named_parts (bytes_eq table schema.name) (key_of schema.key row) names in
              let both : None ≡ Some schema = sym is ∙ ap (schema_at history) (same_name table schema.name parts.0) ∙ there in
              absurd cc)

      silent : (test : Bool) (act : Act) → inserted moment act ≡ None → option_and_then (inserted moment) (then_some test act) ≡ None
      silent true act none = none
      silent false act none = refl

      act_stays : (act : Act) → option_and_then (inserted moment) (act_left history later act) ≡ inserted moment act
      act_stays (Insert table row) = birth_stays table row
      act_stays (Create made) = refl
      act_stays (Purpose name) = refl
      act_stays (Recipient name) = refl
      act_stays (Item name kind) = refl
      act_stays (Update table row) = refl
      act_stays (Delete table named) = refl
      act_stays (Asked u p r text) = refl
      act_stays (Authorize u p r) = silent (not (is_granted_again u p r later)) (Authorize u p r) refl
      act_stays (Deauthorize u p r) = silent (not (is_granted_again u p r later)) (Deauthorize u p r) refl
      act_stays (Allow p r t columns item days) = let left : List Place = columns_left p r t columns later in silent (nat_lt 0 (length left)) (Allow p r t left item days) refl
      act_stays (Revoke p r t columns) = let left : List Place = columns_left p r t columns later in silent (nat_lt 0 (length left)) (Revoke p r t left) refl
      act_stays (Choice s i agreed) = silent (is_none (choice_at later s i)) (Choice s i agreed) refl

    insertions_carried : (now : Row) → row_at schema history key ≡ Some now → last_word insertion (carried history) ≡ last_word insertion history
    insertions_carried now lives = carried_words inserted history (λ later moment act unsaid. act_stays now lives later moment unsaid act)

    rows_carried : row_at schema (carried history) key ≡ option_and_then (λ left. left) (option_map (λ (born : Moment). row_at schema history key) (last_word insertion (carried history)))
    rows_carried = ap (option_and_then (λ left. left)) (both_carried (λ (born : Moment). row_at schema history key) inserted changed history left_follows)

    no_row : (found : Option Moment) → ◌≡◌ {A = Option Row} (option_and_then (λ left. left) (option_map (λ (born : Moment). None) found)) None
    no_row None = refl
    no_row (Some born) = refl

    one_row : (now : Row) (found : Option Moment) → is_some found ≡ true → ◌≡◌ {A = Option Row} (option_and_then (λ left. left) (option_map (λ (born : Moment). Some now) found)) (Some now)
    one_row now None is = absurd (false≢true is)
    one_row now (Some born) is = refl

    abbrev with_birth : Option Moment → Option Row → Option BornRow
    with_birth born found = option_map (λ row. record { row = row; born = unwrap_or born first_moment }) found

    born_rows_carried : (meaning : Meaning) → is_valid meaning history ≡ true → born_row_at schema (carried history) key ≡ born_row_at schema history key
    born_rows_carried meaning valid = by (row_at schema history key) refl
      where
        row_by : (found : Option Row) → row_at schema history key ≡ found → row_at schema (carried history) key ≡ option_and_then (λ left. left) (option_map (λ (born : Moment). found) (last_word insertion (carried history)))
        row_by found e = rows_carried ∙ ap (λ (kept : Option Row). option_and_then (λ left. left) (option_map (λ (born : Moment). kept) (last_word insertion (carried history)))) e

        by : (found : Option Row) → row_at schema history key ≡ found → born_row_at schema (carried history) key ≡ born_row_at schema history key
        by None e =
            ap (with_birth (last_word insertion (carried history))) (row_by None e ∙ no_row (last_word insertion (carried history)))
            ∙ sym (ap (with_birth (last_word insertion history)) e)
        by (Some now) e =
            let same = insertions_carried now e in
            let there_is : is_some (last_word insertion (carried history)) ≡ true = ap is_some same ∙ (each_inserted meaning history valid).1 there now e in
            ap (with_birth (last_word insertion (carried history))) (row_by (Some now) e ∙ one_row now (last_word insertion (carried history)) there_is)
            ∙ ap (λ (born : Option Moment). with_birth born (Some now)) same
            ∙ sym (ap (with_birth (last_word insertion history)) e)

pub carries_rows : CarriesRows
carries_rows meaning history valid table schema is key =
    born_rows_carried schema key history (ap (schema_at history) (schema_has_name history table schema is) ∙ is) meaning valid
