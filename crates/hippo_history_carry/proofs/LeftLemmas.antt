-- Entries of which nothing can be left do not decide on what is left of the others.
use Rattle.std.proofs.Common.{◌≡◌, ◌∙◌, ℕ, ℤ, Bool, true, false, cond, not, ◌&&◌, ◌||◌, List, [], ◌∷◌, ◌++◌, filter, Option, Some, None, refl, sym, ap}
use Rattle.std.specs.Prelude.{is_none, is_some, option_map, option_and_then, if◌then◌else◌}
use Rattle.std.specs.Bool.{then_some}
use Rattle.std.specs.List.{list_any}
use Rattle.std.specs.Option.{option_or, option_map_or}
use Rattle.std.proofs.lemmas.Bool.{false≢true}
use Rattle.hippo_values.specs.declared.names.Name.{Name}
use Rattle.hippo_model.specs.declared.entry.Act.{Act}
use Rattle.hippo_model.specs.declared.entry.Act.TheVariants.{Create, Insert, Update, Delete, Purpose, Recipient, Item, Authorize, Deauthorize, Allow, Revoke, Choice, Asked}
use Rattle.hippo_model.specs.declared.entry.Entry.{Entry}
use Rattle.hippo_model.specs.declared.schema.Schema.{Schema}
use Rattle.hippo_model.specs.Histories.{last_word, schema_at}
use Rattle.hippo_model.specs.Rows.{key_of}
use Rattle.hippo_model.specs.Rules.{RuledCell, rule_in, rule_at, choice_in, choice_at, authorization_in}
use Rattle.hippo_model.specs.Terms.{History, Key, Place, Row}
use Rattle.hippo_history_carry.specs.Carrying.{may_stay, is_carriable, columns_left, rule_on, is_granted_again, inserts_key, is_inserted_again, birth_of, act_left, with_act, entry_left, entries_left}

-- an entry of which nothing can be left says nothing on a matter
module _ {A : Type 0} (word : Entry → Option A) (silent : (entry : Entry) → is_carriable entry ≡ false → word entry ≡ None) where
  or_none : (found : Option A) → option_or found None ≡ found
  or_none None = refl
  or_none (Some value) = refl

  pub words-filter : (entries : History) → last_word word (filter is_carriable entries) ≡ last_word word entries
  words-filter [] = refl
  words-filter (entry ∷ later) = by (words-filter later) (is_carriable entry) refl
    where
      by : last_word word (filter is_carriable later) ≡ last_word word later → (test : Bool) → is_carriable entry ≡ test → last_word word (cond test (entry ∷ filter is_carriable later) (filter is_carriable later)) ≡ option_or (last_word word later) (word entry)
      by rest true e = ap (λ (found : Option A). option_or found (word entry)) rest
      by rest false e = rest ∙ sym (ap (option_or (last_word word later)) (silent entry e) ∙ or_none (last_word word later))

module _ (test_of : Entry → Bool) (silent : (entry : Entry) → is_carriable entry ≡ false → test_of entry ≡ false) where
  pub any-filter : (entries : History) → list_any test_of (filter is_carriable entries) ≡ list_any test_of entries
  any-filter [] = refl
  any-filter (entry ∷ later) = by (any-filter later) (is_carriable entry) refl
    where
      by : list_any test_of (filter is_carriable later) ≡ list_any test_of later → (test : Bool) → is_carriable entry ≡ test → list_any test_of (cond test (entry ∷ filter is_carriable later) (filter is_carriable later)) ≡ (test_of entry || list_any test_of later)
      by rest true e = ap (λ (b : Bool). test_of entry || b) rest
      by rest false e = rest ∙ sym (ap (λ (b : Bool). b || list_any test_of later) (silent entry e))

silent_act : {A : Type 0} (says : Act → A) (none : A) → ((table : Name) (row : Row) → says (Update table row) ≡ none) → ((table : Name) (key : Key) → says (Delete table key) ≡ none)
    → ((user purpose recipient : Name) (text : List ℕ) → says (Asked user purpose recipient text) ≡ none) → (act : Act) → may_stay act ≡ false → says act ≡ none
silent_act says none update delete asked (Update table row) is = update table row
silent_act says none update delete asked (Delete table key) is = delete table key
silent_act says none update delete asked (Asked user purpose recipient text) is = asked user purpose recipient text
silent_act says none update delete asked (Create schema) is = absurd (false≢true (sym is))
silent_act says none update delete asked (Insert table row) is = absurd (false≢true (sym is))
silent_act says none update delete asked (Purpose name) is = absurd (false≢true (sym is))
silent_act says none update delete asked (Recipient name) is = absurd (false≢true (sym is))
silent_act says none update delete asked (Item name kind) is = absurd (false≢true (sym is))
silent_act says none update delete asked (Authorize user purpose recipient) is = absurd (false≢true (sym is))
silent_act says none update delete asked (Deauthorize user purpose recipient) is = absurd (false≢true (sym is))
silent_act says none update delete asked (Allow purpose recipient table columns item days) is = absurd (false≢true (sym is))
silent_act says none update delete asked (Revoke purpose recipient table columns) is = absurd (false≢true (sym is))
silent_act says none update delete asked (Choice subject item agreed) is = absurd (false≢true (sym is))

module _ (history later : History) where
  abbrev kept : History
  kept = filter is_carriable later

  rules_kept : (purpose recipient table : Name) (column : Place) → rule_at kept purpose recipient table column ≡ rule_at later purpose recipient table column
  rules_kept purpose recipient table column =
      let cell : RuledCell = record { purpose = purpose; recipient = recipient; table = table; column = column } in
      words-filter (λ (entry : Entry). rule_in cell entry.seq entry.act) (λ entry is. silent_act (rule_in cell entry.seq) None (λ t r. refl) (λ t k. refl) (λ u p r x. refl) entry.act is) later

  choices_kept : (subject : ℤ) (item : Name) → choice_at kept subject item ≡ choice_at later subject item
  choices_kept subject item = words-filter (λ (entry : Entry). choice_in subject item entry.act) (λ entry is. silent_act (choice_in subject item) None (λ t r. refl) (λ t k. refl) (λ u p r x. refl) entry.act is) later

  grants_kept : (user purpose recipient : Name) → is_granted_again user purpose recipient kept ≡ is_granted_again user purpose recipient later
  grants_kept user purpose recipient =
      ap is_some (words-filter (λ (entry : Entry). authorization_in user purpose recipient entry.seq entry.act)
      (λ entry is. silent_act (authorization_in user purpose recipient entry.seq) None (λ t r. refl) (λ t k. refl) (λ u p r x. refl) entry.act is) later)

  inserts_kept : (schema : Schema) (key : Key) → is_inserted_again schema key kept ≡ is_inserted_again schema key later
  inserts_kept schema key =
      any-filter (inserts_key schema key) (λ entry is. silent_act (λ act. inserts_key schema key (with_act entry act)) false (λ t r. refl) (λ t k. refl) (λ u p r x. refl) entry.act is) later

  columns_kept : (purpose recipient table : Name) (columns : List Place) → columns_left purpose recipient table columns kept ≡ columns_left purpose recipient table columns later
  columns_kept purpose recipient table columns i = filter (λ column. is_none (rules_kept purpose recipient table column i)) columns

  births_kept : (table : Name) (schema : Schema) (key : Key) → birth_of history kept table schema key ≡ birth_of history later table schema key
  births_kept table schema key = ap (λ (b : Bool). birth_with b) (inserts_kept schema key)
    where
      birth_with : Bool → Option Act
      birth_with again = if again then None else birth_of history [] table schema key

  act_kept : (act : Act) → act_left history kept act ≡ act_left history later act
  act_kept (Insert table row) = λ i. option_and_then (λ schema. births_kept table schema (key_of schema.key row) i) (schema_at history table)
  act_kept (Authorize user purpose recipient) = λ i. then_some (not (grants_kept user purpose recipient i)) (Authorize user purpose recipient)
  act_kept (Deauthorize user purpose recipient) = λ i. then_some (not (grants_kept user purpose recipient i)) (Deauthorize user purpose recipient)
  act_kept (Allow purpose recipient table columns item days) = λ i. rule_on (λ left. Allow purpose recipient table left item days) (columns_kept purpose recipient table columns i)
  act_kept (Revoke purpose recipient table columns) = λ i. rule_on (Revoke purpose recipient table) (columns_kept purpose recipient table columns i)
  act_kept (Choice subject item agreed) = λ i. then_some (is_none (choices_kept subject item i)) (Choice subject item agreed)
  act_kept (Create schema) = refl
  act_kept (Update table row) = refl
  act_kept (Delete table key) = refl
  act_kept (Purpose name) = refl
  act_kept (Recipient name) = refl
  act_kept (Item name kind) = refl
  act_kept (Asked user purpose recipient text) = refl

  pub entry_kept : (entry : Entry) → entry_left history kept entry ≡ entry_left history later entry
  entry_kept entry = ap (λ (left : Option Act). option_map_or (λ act. with_act entry act ∷ []) left []) (act_kept entry.act)

  nothing_left : (entry : Entry) → is_carriable entry ≡ false → entry_left history later entry ≡ []
  nothing_left entry is = ap (λ (left : Option Act). option_map_or (λ act. with_act entry act ∷ []) left []) (silent_act (act_left history later) None (λ t r. refl) (λ t k. refl) (λ u p r x. refl) entry.act is)

-- so what is left of some entries is what is left of those of which something can be left
pub left-filter : (history entries : History) → entries_left history (filter is_carriable entries) ≡ entries_left history entries
left-filter history [] = refl
left-filter history (entry ∷ later) = by (left-filter history later) (is_carriable entry) refl
  where
    by : entries_left history (filter is_carriable later) ≡ entries_left history later → (test : Bool) → is_carriable entry ≡ test → entries_left history (cond test (entry ∷ filter is_carriable later) (filter is_carriable later)) ≡ entry_left history later entry ++ entries_left history later
    by rest true e = λ i. entry_kept history later entry i ++ rest i
    by rest false e = rest ∙ sym (ap (λ (l : History). l ++ entries_left history later) (nothing_left history later entry e))
