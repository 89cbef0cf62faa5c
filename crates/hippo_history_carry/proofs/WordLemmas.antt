-- The last words on a matter are those of the old history.
use Rattle.std.proofs.Common.{◌≡◌, ◌∙◌, ℕ, ℤ, ◌+◌, Bool, true, false, cond, not, ◌&&◌, ◌||◌, List, [], ◌∷◌, ◌++◌, filter, Option, Some, None, refl, sym, ap, arith}
use Rattle.std.specs.Prelude.{is_none, is_some, option_map, option_and_then, unwrap_or, nat_eq, nat_lt, length, bytes_eq, if◌then◌else◌}
use Rattle.std.specs.Bool.{then_some}
use Rattle.std.specs.List.{list_any}
use Rattle.std.specs.Option.{option_or, option_map_or}
use Rattle.std.specs.Ordering.{int_eq, int_cmp, is_eq}
use Rattle.std.specs.declared.cmp.Ordering.TheVariants.{Less, Equal, Greater}
use Rattle.std.proofs.lemmas.Bool.{false≢true, and_parts, eqb-true}
use Rattle.std.proofs.lemmas.Bool.Decides.{nat_tests}
use Rattle.std.proofs.lemmas.Slice.Eq.{bytes_eq-Decides}
use Rattle.std.specs.FinMap.{int_cmp-IsAntisymmetric}
use Rattle.hippo_values.specs.declared.names.Name.{Name}
use Rattle.hippo_model.specs.declared.entry.Act.{Act}
use Rattle.hippo_model.specs.declared.entry.Act.TheVariants.{Create, Insert, Update, Delete, Purpose, Recipient, Item, Authorize, Deauthorize, Allow, Revoke, Choice, Asked}
use Rattle.hippo_model.specs.declared.entry.Entry.{Entry}
use Rattle.hippo_model.specs.declared.policy.Authorization.{Authorization}
use Rattle.hippo_model.specs.declared.policy.Authorization.TheVariants.{Yes, No}
use Rattle.hippo_model.specs.declared.schema.Schema.{Schema}
use Rattle.hippo_model.specs.Histories.{last_word, schema_created, schema_at, item_created}
use Rattle.hippo_model.specs.Rows.{key_of, row_at}
use Rattle.hippo_model.specs.Rules.{Rule, allowed, revoked, RuledCell, is_named_by, rule_in, rule_at, choice_in, choice_at, authorization_in, authorized_at}
use Rattle.hippo_model.specs.Terms.{History, Key, Place, Row}
use Rattle.hippo_model.specs.Validity.{creates_purpose, creates_recipient, is_authorized}
use Rattle.hippo_history_carry.specs.Carrying.{columns_left, rule_on, is_granted_again, is_inserted_again, birth_of, birth_left, act_left, with_act, entry_left, entries_left, numbered_from, carried}
use Rattle.hippo_history_carry.specs.CarryLaws.{CarriesNames, CarriesChoices, CarriesUsers, CarriesRules, without_number}

or_none : {A : Type 0} (found : Option A) → option_or found None ≡ found
or_none None = refl
or_none (Some word) = refl

or_grouped : {A : Type 0} (a b c : Option A) → option_or (option_or a b) c ≡ option_or a (option_or b c)
or_grouped None b c = refl
or_grouped (Some word) b c = refl

module _ {A : Type 0} (says : Act → Option A) where
  abbrev word : Entry → Option A
  word entry = says entry.act

  said_of_left : (entry : Entry) (left : Option Act) → last_word word (option_map_or (λ act. with_act entry act ∷ []) left []) ≡ option_and_then says left
  said_of_left entry None = refl
  said_of_left entry (Some act) = refl

  appended : (first rest : History) → last_word word (first ++ rest) ≡ option_or (last_word word rest) (last_word word first)
  appended [] rest = sym (or_none (last_word word rest))
  appended (entry ∷ first) rest = ap (λ (found : Option A). option_or found (word entry)) (appended first rest) ∙ or_grouped (last_word word rest) (last_word word first) (word entry)

  numbered : (number : ℕ) (entries : History) → last_word word (numbered_from number entries) ≡ last_word word entries
  numbered number [] = refl
  numbered number (entry ∷ later) = ap (λ (found : Option A). option_or found (word entry)) (numbered (number + 1) later)

  then_silent : (test : Bool) (act : Act) → says act ≡ None → option_and_then says (then_some test act) ≡ None
  then_silent true act none = none
  then_silent false act none = refl

  -- where the last word on a matter is still to come, what is left of an act says what the act says
  module _ (history : History) (stays : (later : History) (act : Act) → last_word word later ≡ None → option_and_then says (act_left history later act) ≡ says act) where
    left_words : (entries : History) → last_word word (entries_left history entries) ≡ last_word word entries
    left_words [] = refl
    left_words (entry ∷ later) =
        appended (entry_left history later entry) (entries_left history later)
        ∙ ap (λ (found : Option A). option_or found (last_word word (entry_left history later entry))) (left_words later)
        ∙ ap (option_or (last_word word later)) (said_of_left entry (act_left history later entry.act))
        ∙ by (last_word word later) refl
      where
        by : (found : Option A) → last_word word later ≡ found → option_or found (option_and_then says (act_left history later entry.act)) ≡ option_or found (says entry.act)
        by (Some value) e = refl
        by None e = stays later entry.act e

    pub carried_words : last_word word (carried history) ≡ last_word word history
    carried_words = numbered 1 (entries_left history history) ∙ left_words history

  birth_silent : (history later : History) → ((table : Name) (row : Row) → says (Insert table row) ≡ None) → (table : Name) (row : Row) → option_and_then says (birth_left history later table row) ≡ None
  birth_silent history later none table row = by (schema_at history table)
    where
      of_row : (found : Option Row) → option_and_then says (option_map (Insert table) found) ≡ None
      of_row None = refl
      of_row (Some now) = none table now

      of_birth : (again : Bool) (found : Option Row) → option_and_then says (if again then None else option_map (Insert table) found) ≡ None
      of_birth true found = refl
      of_birth false found = of_row found

      by : (schema : Option Schema) → option_and_then says (option_and_then (λ schema. birth_of history later table schema (key_of schema.key row)) schema) ≡ None
      by None = refl
      by (Some schema) = of_birth (is_inserted_again schema (key_of schema.key row) later) (row_at schema history (key_of schema.key row))

name_exact : (a b : Name) → bytes_eq a b ≡ true → a ≡ b
name_exact a b same = (bytes_eq-Decides a b).0 same

module _ (history : History) where
  -- what is created
  module _ {A : Type 0} (says : Act → Option A) (insert : (table : Name) (row : Row) → says (Insert table row) ≡ None) (update : (table : Name) (row : Row) → says (Update table row) ≡ None)
      (delete : (table : Name) (key : Key) → says (Delete table key) ≡ None) (asked : (u p r : Name) (text : List ℕ) → says (Asked u p r text) ≡ None)
      (authorize : (u p r : Name) → says (Authorize u p r) ≡ None) (deauthorize : (u p r : Name) → says (Deauthorize u p r) ≡ None)
      (allow : (p r t : Name) (columns : List Place) (item : Option Name) (days : Option ℕ) → says (Allow p r t columns item days) ≡ None)
      (revoke : (p r t : Name) (columns : List Place) → says (Revoke p r t columns) ≡ None) (choice : (s : ℤ) (i : Name) (agreed : Bool) → says (Choice s i agreed) ≡ None) where
    created_stays : (later : History) (act : Act) → option_and_then says (act_left history later act) ≡ says act
    created_stays later (Create schema) = refl
    created_stays later (Purpose name) = refl
    created_stays later (Recipient name) = refl
    created_stays later (Item name kind) = refl
    created_stays later (Insert table row) = birth_silent says history later insert table row ∙ sym (insert table row)
    created_stays later (Update table row) = sym (update table row)
    created_stays later (Delete table key) = sym (delete table key)
    created_stays later (Asked u p r text) = sym (asked u p r text)
    created_stays later (Authorize u p r) = then_silent says (not (is_granted_again u p r later)) (Authorize u p r) (authorize u p r) ∙ sym (authorize u p r)
    created_stays later (Deauthorize u p r) = then_silent says (not (is_granted_again u p r later)) (Deauthorize u p r) (deauthorize u p r) ∙ sym (deauthorize u p r)
    created_stays later (Allow p r t columns item days) =
        let left : List Place = columns_left p r t columns later in
        then_silent says (nat_lt 0 (length left)) (Allow p r t left item days) (allow p r t left item days) ∙ sym (allow p r t columns item days)
    created_stays later (Revoke p r t columns) =
        let left : List Place = columns_left p r t columns later in
        then_silent says (nat_lt 0 (length left)) (Revoke p r t left) (revoke p r t left) ∙ sym (revoke p r t columns)
    created_stays later (Choice s i agreed) = then_silent says (is_none (choice_at later s i)) (Choice s i agreed) (choice s i agreed) ∙ sym (choice s i agreed)

    created_words : last_word (λ (entry : Entry). says entry.act) (carried history) ≡ last_word (λ (entry : Entry). says entry.act) history
    created_words = carried_words says history (λ later act none. created_stays later act)

  any_word : (test : Entry → Bool) (entries : History) → list_any test entries ≡ is_some (last_word (λ (entry : Entry). then_some (test entry) true) entries)
  any_word test [] = refl
  any_word test (entry ∷ later) = ap (λ (b : Bool). test entry || b) (any_word test later) ∙ by (test entry) (last_word (λ (e : Entry). then_some (test e) true) later)
    where
      by : (b : Bool) (found : Option Bool) → (b || is_some found) ≡ is_some (option_or found (then_some b true))
      by true None = refl
      by true (Some value) = refl
      by false None = refl
      by false (Some value) = refl

  any_created : (creates : Act → Bool) → last_word (λ (entry : Entry). then_some (creates entry.act) true) (carried history) ≡ last_word (λ (entry : Entry). then_some (creates entry.act) true) history
      → list_any (λ (entry : Entry). creates entry.act) (carried history) ≡ list_any (λ (entry : Entry). creates entry.act) history
  any_created creates same = any_word (λ (entry : Entry). creates entry.act) (carried history) ∙ ap is_some same ∙ sym (any_word (λ (entry : Entry). creates entry.act) history)

pub carries_names : CarriesNames
carries_names history = record {
  tables = λ table. created_words history (schema_created table) (λ t r. refl) (λ t r. refl) (λ t k. refl) (λ u p r x. refl) (λ u p r. refl) (λ u p r. refl) (λ p r t c i d. refl) (λ p r t c. refl) (λ s i a. refl);
  items = λ item. created_words history (item_created item) (λ t r. refl) (λ t r. refl) (λ t k. refl) (λ u p r x. refl) (λ u p r. refl) (λ u p r. refl) (λ p r t c i d. refl) (λ p r t c. refl) (λ s i a. refl);
  purposes = λ purpose. any_created history (creates_purpose purpose)
      (created_words history (λ act. then_some (creates_purpose purpose act) true) (λ t r. refl) (λ t r. refl) (λ t k. refl) (λ u p r x. refl) (λ u p r. refl) (λ u p r. refl) (λ p r t c i d. refl) (λ p r t c. refl) (λ s i a. refl));
  recipients = λ recipient. any_created history (creates_recipient recipient)
      (created_words history (λ act. then_some (creates_recipient recipient act) true) (λ t r. refl) (λ t r. refl) (λ t k. refl) (λ u p r x. refl) (λ u p r. refl) (λ u p r. refl) (λ p r t c i d. refl) (λ p r t c. refl) (λ s i a. refl));
}

int_exact : (a b : ℤ) → int_eq a b ≡ true → a ≡ b
int_exact a b same =
    elim (int_cmp a b) as (λ o. int_cmp a b ≡ o → is_eq o ≡ true → a ≡ b) [
      | Less ↦ λ e wrong. cc
      | Equal ↦ λ e right. int_cmp-IsAntisymmetric a b e
      | Greater ↦ λ e wrong. cc
    ] refl same

-- a patient's choice on an item
module _ (subject : ℤ) (item : Name) (history later : History) (unsaid : choice_at later subject item ≡ None) where
  abbrev chosen : Act → Option Bool
  chosen act = choice_in subject item act

  choice_stays : (act : Act) → option_and_then chosen (act_left history later act) ≡ chosen act
  choice_stays (Choice s i agreed) = by (int_eq s subject && bytes_eq i item) refl
    where
      by : (test : Bool) → (int_eq s subject && bytes_eq i item) ≡ test → option_and_then chosen (then_some (is_none (choice_at later s i)) (Choice s i agreed)) ≡ chosen (Choice s i agreed)
      by true e =
          let both = and_parts (int_eq s subject) (bytes_eq i item) e in
          let same : choice_at later s i ≡ None = (λ n. choice_at later (int_exact s subject both.0 n) (name_exact i item both.1 n)) ∙ unsaid in
          ap (λ (found : Option Bool). option_and_then chosen (then_some (is_none found) (Choice s i agreed))) same
      by false e =
          let none : chosen (Choice s i agreed) ≡ None = ap (λ (b : Bool). then_some b agreed) e in
          then_silent chosen (is_none (choice_at later s i)) (Choice s i agreed) none ∙ sym none
  choice_stays (Create schema) = refl
  choice_stays (Purpose name) = refl
  choice_stays (Recipient name) = refl
  choice_stays (Item name kind) = refl
  choice_stays (Insert table row) = birth_silent chosen history later (λ t r. refl) table row
  choice_stays (Update table row) = refl
  choice_stays (Delete table key) = refl
  choice_stays (Asked u p r text) = refl
  choice_stays (Authorize u p r) = then_silent chosen (not (is_granted_again u p r later)) (Authorize u p r) refl
  choice_stays (Deauthorize u p r) = then_silent chosen (not (is_granted_again u p r later)) (Deauthorize u p r) refl
  choice_stays (Allow p r t columns item days) = let left : List Place = columns_left p r t columns later in then_silent chosen (nat_lt 0 (length left)) (Allow p r t left item days) refl
  choice_stays (Revoke p r t columns) = let left : List Place = columns_left p r t columns later in then_silent chosen (nat_lt 0 (length left)) (Revoke p r t left) refl

pub carries_choices : CarriesChoices
carries_choices history subject item = carried_words (choice_in subject item) history (λ later act unsaid. choice_stays subject item history later unsaid act)

-- words without the numbers of their entries
stripped : {A B : Type 0} (strip : A → B) (numbered : Entry → Option A) (plain : Entry → Option B) → ((entry : Entry) → option_map strip (numbered entry) ≡ plain entry) → (entries : History) → option_map strip (last_word numbered entries) ≡ last_word plain entries
stripped strip numbered plain same [] = refl
stripped {A} strip numbered plain same (entry ∷ later) = split (last_word numbered later) (numbered entry) ∙ λ i. option_or (stripped strip numbered plain same later i) (same entry i)
  where
    split : (a b : Option A) → option_map strip (option_or a b) ≡ option_or (option_map strip a) (option_map strip b)
    split None b = refl
    split (Some value) b = refl

none_of_stripped : {A B : Type 0} (strip : A → B) (found : Option A) → option_map strip found ≡ None → found ≡ None
none_of_stripped strip None is = refl
none_of_stripped strip (Some value) is = absurd cc

-- an authorization
abbrev answer_only : Authorization → Bool
answer_only authorization = is_authorized authorization

module _ (user purpose recipient : Name) where
  abbrev authorized : Act → Option Bool
  authorized act = option_map answer_only (authorization_in user purpose recipient 0 act)

  abbrev authorized_so : Entry → Option Authorization
  authorized_so entry = authorization_in user purpose recipient entry.seq entry.act

  without_it : (test : Bool) (number : ℕ) → option_map answer_only (then_some test (No number)) ≡ option_map answer_only (then_some test (No 0))
  without_it true number = refl
  without_it false number = refl

  same_authorized : (act : Act) (number : ℕ) → option_map answer_only (authorization_in user purpose recipient number act) ≡ authorized act
  same_authorized (Deauthorize u p r) number = without_it (bytes_eq u user && bytes_eq p purpose && bytes_eq r recipient) number
  same_authorized act number = refl

  module _ (history later : History) (unsaid : last_word (λ (entry : Entry). authorized entry.act) later ≡ None) where
    still_open : is_granted_again user purpose recipient later ≡ false
    still_open = ap is_some (none_of_stripped answer_only (last_word authorized_so later) (stripped answer_only authorized_so (λ entry. authorized entry.act) (λ entry. same_authorized entry.act entry.seq) later ∙ unsaid))

    grant_stays : (act : Act) (u p r : Name) (word : Authorization) → authorized act ≡ option_map answer_only (then_some (bytes_eq u user && bytes_eq p purpose && bytes_eq r recipient) word)
        → option_and_then authorized (then_some (not (is_granted_again u p r later)) act) ≡ authorized act
    grant_stays act u p r word is = by (bytes_eq u user && bytes_eq p purpose && bytes_eq r recipient) refl
      where
        by : (test : Bool) → (bytes_eq u user && bytes_eq p purpose && bytes_eq r recipient) ≡ test → option_and_then authorized (then_some (not (is_granted_again u p r later)) act) ≡ authorized act
        by true e =
            let both = and_parts (bytes_eq u user && bytes_eq p purpose) (bytes_eq r recipient) e in
            let first = and_parts (bytes_eq u user) (bytes_eq p purpose) both.0 in
            let same : is_granted_again u p r later ≡ false = (λ i. is_granted_again (name_exact u user first.0 i) (name_exact p purpose first.1 i) (name_exact r recipient both.1 i) later) ∙ still_open in
            ap (λ (b : Bool). option_and_then authorized (then_some (not b) act)) same
        by false e =
            let none : authorized act ≡ None = is ∙ ap (λ (b : Bool). option_map answer_only (then_some b word)) e in
            then_silent authorized (not (is_granted_again u p r later)) act none ∙ sym none

    user_stays : (act : Act) → option_and_then authorized (act_left history later act) ≡ authorized act
    user_stays (Authorize u p r) = grant_stays (Authorize u p r) u p r Yes refl
    user_stays (Deauthorize u p r) = grant_stays (Deauthorize u p r) u p r (No 0) refl
    user_stays (Choice s i agreed) = then_silent authorized (is_none (choice_at later s i)) (Choice s i agreed) refl
    user_stays (Create schema) = refl
    user_stays (Purpose name) = refl
    user_stays (Recipient name) = refl
    user_stays (Item name kind) = refl
    user_stays (Insert table row) = birth_silent authorized history later (λ t r. refl) table row
    user_stays (Update table row) = refl
    user_stays (Delete table key) = refl
    user_stays (Asked u p r text) = refl
    user_stays (Allow p r t columns item days) = let left : List Place = columns_left p r t columns later in then_silent authorized (nat_lt 0 (length left)) (Allow p r t left item days) refl
    user_stays (Revoke p r t columns) = let left : List Place = columns_left p r t columns later in then_silent authorized (nat_lt 0 (length left)) (Revoke p r t left) refl

  answered : (history : History) → is_authorized (authorized_at history user purpose recipient) ≡ unwrap_or (last_word (λ (entry : Entry). authorized entry.act) history) false
  answered history =
      by (last_word authorized_so history) ∙ ap (λ (found : Option Bool). unwrap_or found false) (stripped answer_only authorized_so (λ entry. authorized entry.act) (λ entry. same_authorized entry.act entry.seq) history)
    where
      by : (found : Option Authorization) → is_authorized (unwrap_or found (No 0)) ≡ unwrap_or (option_map answer_only found) false
      by None = refl
      by (Some word) = refl

pub carries_users : CarriesUsers
carries_users history user purpose recipient =
    answered user purpose recipient (carried history)
    ∙ ap (λ (found : Option Bool). unwrap_or found false) (carried_words (authorized user purpose recipient) history (λ later act unsaid. user_stays user purpose recipient history later unsaid act))
    ∙ sym (answered user purpose recipient history)

some_columns : (column : Place) (columns : List Place) → nat_lt 0 (length (column ∷ columns)) ≡ true
some_columns column columns = grind (arith, nat_tests)

-- a rule
any_kept : (test : Place → Bool) (place : Place) → test place ≡ true → (columns : List Place) → list_any (nat_eq place) (filter test columns) ≡ list_any (nat_eq place) columns
any_kept test place passes [] = refl
any_kept test place passes (column ∷ columns) = by (any_kept test place passes columns) (test column) refl
  where
    by : list_any (nat_eq place) (filter test columns) ≡ list_any (nat_eq place) columns → (kept : Bool) → test column ≡ kept → list_any (nat_eq place) (cond kept (column ∷ filter test columns) (filter test columns)) ≡ (nat_eq place column || list_any (nat_eq place) columns)
    by rest true e = ap (λ (b : Bool). nat_eq place column || b) rest
    by rest false e = rest ∙ other (nat_eq place column) refl
      where
        other : (same : Bool) → nat_eq place column ≡ same → list_any (nat_eq place) columns ≡ (same || list_any (nat_eq place) columns)
        other false s = refl
        other true s = absurd (false≢true (sym e ∙ ap test (sym (eqb-true place column s)) ∙ passes))

module _ (cell : RuledCell) where
  abbrev ruled : Act → Option Rule
  ruled act = rule_in cell 0 act

  abbrev ruled_so : Entry → Option Rule
  ruled_so entry = rule_in cell entry.seq entry.act

  same_allowed : (test : Bool) (number : ℕ) (item : Option Name) (days : Option ℕ) → option_map without_number (then_some test (allowed number item days)) ≡ then_some test (allowed 0 item days)
  same_allowed true number item days = refl
  same_allowed false number item days = refl

  same_revoked : (test : Bool) (number : ℕ) → option_map without_number (then_some test (revoked number)) ≡ then_some test (revoked 0)
  same_revoked true number = refl
  same_revoked false number = refl

  same_ruled_act : (act : Act) (number : ℕ) → option_map without_number (rule_in cell number act) ≡ ruled act
  same_ruled_act (Allow p r t columns item days) number = same_allowed (is_named_by cell p r t columns) number item days
  same_ruled_act (Revoke p r t columns) number = same_revoked (is_named_by cell p r t columns) number
  same_ruled_act act number = refl

  module _ (history later : History) (unsaid : last_word (λ (entry : Entry). ruled entry.act) later ≡ None) where
    unruled : rule_at later cell.purpose cell.recipient cell.table cell.column ≡ None
    unruled = none_of_stripped without_number (last_word ruled_so later) (stripped without_number ruled_so (λ entry. ruled entry.act) (λ entry. same_ruled_act entry.act entry.seq) later ∙ unsaid)

    named_still : (p r t : Name) (columns : List Place) → is_named_by cell p r t (columns_left p r t columns later) ≡ is_named_by cell p r t columns
    named_still p r t columns = by (bytes_eq p cell.purpose && bytes_eq r cell.recipient && bytes_eq t cell.table) refl
      where
        by : (test : Bool) → (bytes_eq p cell.purpose && bytes_eq r cell.recipient && bytes_eq t cell.table) ≡ test
            → (test && list_any (nat_eq cell.column) (columns_left p r t columns later)) ≡ (test && list_any (nat_eq cell.column) columns)
        by false e = refl
        by true e =
            let outer = and_parts (bytes_eq p cell.purpose && bytes_eq r cell.recipient) (bytes_eq t cell.table) e in
            let inner = and_parts (bytes_eq p cell.purpose) (bytes_eq r cell.recipient) outer.0 in
            any_kept (λ column. is_none (rule_at later p r t column)) cell.column
            (ap is_none ((λ i. rule_at later (name_exact p cell.purpose inner.0 i) (name_exact r cell.recipient inner.1 i) (name_exact t cell.table outer.1 i) cell.column) ∙ unruled)) columns

    -- a rule on no column says nothing
    rule_says : (rule : List Place → Act) (word : Rule) (p r t : Name) → ((columns : List Place) → ruled (rule columns) ≡ then_some (is_named_by cell p r t columns) word) → (columns : List Place)
        → option_and_then ruled (rule_on rule columns) ≡ then_some (is_named_by cell p r t columns) word
    rule_says rule word p r t says [] = sym (ap (λ (b : Bool). then_some b word) (never (bytes_eq p cell.purpose && bytes_eq r cell.recipient && bytes_eq t cell.table)))
      where
        never : (test : Bool) → (test && false) ≡ false
        never true = refl
        never false = refl
    rule_says rule word p r t says (column ∷ columns) = ap (λ (b : Bool). option_and_then ruled (then_some b (rule (column ∷ columns)))) (some_columns column columns) ∙ says (column ∷ columns)

    rule_stays : (act : Act) → option_and_then ruled (act_left history later act) ≡ ruled act
    rule_stays (Allow p r t columns item days) =
        rule_says (λ left. Allow p r t left item days) (allowed 0 item days) p r t (λ left. refl) (columns_left p r t columns later) ∙ ap (λ (b : Bool). then_some b (allowed 0 item days)) (named_still p r t columns)
    rule_stays (Revoke p r t columns) =
        rule_says (Revoke p r t) (revoked 0) p r t (λ left. refl) (columns_left p r t columns later) ∙ ap (λ (b : Bool). then_some b (revoked 0)) (named_still p r t columns)
    rule_stays (Authorize u p r) = then_silent ruled (not (is_granted_again u p r later)) (Authorize u p r) refl
    rule_stays (Deauthorize u p r) = then_silent ruled (not (is_granted_again u p r later)) (Deauthorize u p r) refl
    rule_stays (Choice s i agreed) = then_silent ruled (is_none (choice_at later s i)) (Choice s i agreed) refl
    rule_stays (Create schema) = refl
    rule_stays (Purpose name) = refl
    rule_stays (Recipient name) = refl
    rule_stays (Item name kind) = refl
    rule_stays (Insert table row) = birth_silent ruled history later (λ t r. refl) table row
    rule_stays (Update table row) = refl
    rule_stays (Delete table key) = refl
    rule_stays (Asked u p r text) = refl

pub carries_rules : CarriesRules
carries_rules history purpose recipient table column =
    let cell : RuledCell = record { purpose = purpose; recipient = recipient; table = table; column = column } in
    let plain : (entries : History) → option_map without_number (rule_at entries purpose recipient table column) ≡ last_word (λ (entry : Entry). ruled cell entry.act) entries =
    λ entries. stripped without_number (ruled_so cell) (λ entry. ruled cell entry.act) (λ entry. same_ruled_act cell entry.act entry.seq) entries in
    plain (carried history) ∙ carried_words (ruled cell) history (λ later act unsaid. rule_stays cell history later unsaid act) ∙ sym (plain history)
