-- The history that a book represents after an entry of each kind is added.
use Rattle.std.proofs.Common.{◌≡◌, ◌∙◌, sym, refl, ap, ℕ, ℤ, ◌+◌, List, [], ◌∷◌, ◌++◌, length, Bool, true, false, ◌&&◌, ◌||◌, subst, Option, None, Result, Ok, Err, OnErr, bytes_eq, nat_eq}
use Rattle.std.proofs.lemmas.Bool.{false≢true}
use Rattle.std.specs.Cmp.{nat_eq_equiv}
use Rattle.std.specs.Bool.{then_some}
use Rattle.std.specs.List.{list_any}
use Rattle.hippo_values.specs.declared.names.Name.{Name}
use Rattle.hippo_model.specs.declared.entry.Entry.{Entry}
use Rattle.hippo_model.specs.declared.entry.ItemKind.{ItemKind}
use Rattle.hippo_model.specs.declared.entry.Act.{Act}
use Rattle.hippo_model.specs.declared.entry.Act.TheVariants.{Create, Insert, Update, Delete, Purpose, Recipient, Item, Authorize, Deauthorize, Allow, Revoke, Choice, Asked}
use Rattle.hippo_model.specs.declared.policy.Authorization.{Authorization}
use Rattle.hippo_model.specs.declared.policy.Authorization.TheVariants.{Yes, No}
use Rattle.hippo_model.specs.Rules.{Rule, allowed, revoked, is_named_by}
use Rattle.hippo_model.specs.Terms.{History, Place}
use Rattle.hippo_policy.specs.declared.book.Matter.{Matter}
use Rattle.hippo_policy.specs.declared.book.Matter.TheVariants.{Nothing, Cells, Choice as OfChoice, User, Item as OfItem}
use Rattle.hippo_policy.specs.declared.book.PolicyBook.{PolicyBook}
use Rattle.hippo_policy.specs.declared.keys.CellKey.{CellKey}
use Rattle.hippo_policy.specs.declared.keys.ChoiceKey.{ChoiceKey}
use Rattle.hippo_policy.specs.declared.keys.UserKey.{UserKey}
use Rattle.hippo_policy.specs.declared.ruled_tables.RuledTables.{RuledTables}
use Rattle.hippo_policy.specs.Keys.{same_cell_key, same_choice, same_user, same_name}
use Rattle.hippo_policy.specs.Cells.{cell_words}
use Rattle.hippo_policy.specs.Words.{LastWords, kept_words, with_word}
use Rattle.hippo_policy.specs.Books.{BookRepresents, BookIsAsBefore, BookAdds, AddsUser, AddsRule, rule_word, choice_word, user_word, item_word, cell_keys, leaves_book, cell_of}
use Rattle.hippo_policy.proofs.AddLemmas.{IsKept-silent, IsKept-spoken}

-- an act of any other kind sets no value
pub leaves_book-rest : (act : Act) → ((item : Name) (kind : ItemKind) → ¬ (act ≡ Item item kind)) → ((user purpose recipient : Name) → ¬ (act ≡ Authorize user purpose recipient)) → ((user purpose recipient : Name) → ¬ (act ≡ Deauthorize user purpose recipient))
    → ((purpose recipient table : Name) (columns : List Place) (item : Option Name) (days : Option ℕ) → ¬ (act ≡ Allow purpose recipient table columns item days))
    → ((purpose recipient table : Name) (columns : List Place) → ¬ (act ≡ Revoke purpose recipient table columns)) → ((subject : ℤ) (item : Name) (agreed : Bool) → ¬ (act ≡ Choice subject item agreed)) → leaves_book act ≡ true
leaves_book-rest (Item item kind) i a d w r c = absurd (i item kind refl)
leaves_book-rest (Authorize user purpose recipient) i a d w r c = absurd (a user purpose recipient refl)
leaves_book-rest (Deauthorize user purpose recipient) i a d w r c = absurd (d user purpose recipient refl)
leaves_book-rest (Allow purpose recipient table columns item days) i a d w r c = absurd (w purpose recipient table columns item days refl)
leaves_book-rest (Revoke purpose recipient table columns) i a d w r c = absurd (r purpose recipient table columns refl)
leaves_book-rest (Choice subject item agreed) i a d w r c = absurd (c subject item agreed refl)
leaves_book-rest act i a d w r c = refl

pub and-assoc : (a b c : Bool) → (a && b && c) ≡ (a && (b && c))
and-assoc false b c = refl
and-assoc true b c = refl

no_column : (a b c : Bool) → false ≡ (a && b && c && false)
no_column false b c = refl
no_column true false c = refl
no_column true true false = refl
no_column true true true = refl

column_more : (a b c e rest : Bool) → ((a && (b && c)) && e || (a && b && c && rest)) ≡ (a && b && c && (e || rest))
column_more false b c e rest = refl
column_more true false c e rest = refl
column_more true true false e rest = refl
column_more true true true e rest = refl

-- a rule names a cell exactly when one of its keys is the cell's
pub named : (purpose recipient table : Name) (other : CellKey) (columns : List Place) → list_any (λ key. same_cell_key key other) (cell_keys purpose recipient table columns) ≡ is_named_by (cell_of other) purpose recipient table columns
named purpose recipient table other [] = no_column (bytes_eq purpose other.table.purpose) (bytes_eq recipient other.table.recipient) (bytes_eq table other.table.table)
named purpose recipient table other (column ∷ rest) =
    rw (named purpose recipient table other rest, nat_eq_equiv.symm column other.column)
    (column_more (bytes_eq purpose other.table.purpose) (bytes_eq recipient other.table.recipient) (bytes_eq table other.table.table) (nat_eq other.column column) (list_any (nat_eq other.column) rest))

module _ (old : PolicyBook) (number : ℕ) where
  pub BookAdds-choice : (choices : LastWords ChoiceKey Bool) (subject : ℤ) (item : Name) (agreed : Bool)
      → ((other : ChoiceKey) → kept_words same_choice choices other ≡ with_word (same_choice (record { subject = subject; item = item }) other) (record { number = number; word = agreed }) (kept_words same_choice old.choices other))
      → BookAdds old (record { rules = old.rules; choices = choices; users = old.users; items = old.items; last = OfChoice (record { subject = subject; item = item }) }) number (Choice subject item agreed)
  BookAdds-choice choices subject item agreed added = record {
    stands = λ history entry is seq next kept. record {
      rules = IsKept-silent rule_word history entry (cell_words old.rules) (λ key. rw is refl) kept.rules;
      choices = IsKept-spoken choice_word history entry (kept_words same_choice old.choices) (kept_words same_choice choices) (λ key. same_choice (record { subject = subject; item = item }) key) (record { number = number; word = agreed }) added (λ key. rw is refl) next kept.choices;
      users = IsKept-silent user_word history entry (kept_words same_user old.users) (λ key. rw is refl) kept.users;
      items = IsKept-silent item_word history entry (kept_words same_name old.items) (λ key. rw is refl) kept.items;
    };
    remembers = refl;
  }

  pub BookAdds-item : (items : LastWords Name ItemKind) (item : Name) (kind : ItemKind)
      → ((other : Name) → kept_words same_name items other ≡ with_word (same_name item other) (record { number = number; word = kind }) (kept_words same_name old.items other))
      → BookAdds old (record { rules = old.rules; choices = old.choices; users = old.users; items = items; last = OfItem item }) number (Item item kind)
  BookAdds-item items item kind added = record {
    stands = λ history entry is seq next kept. record {
      rules = IsKept-silent rule_word history entry (cell_words old.rules) (λ key. rw is refl) kept.rules;
      choices = IsKept-silent choice_word history entry (kept_words same_choice old.choices) (λ key. rw is refl) kept.choices;
      users = IsKept-silent user_word history entry (kept_words same_user old.users) (λ key. rw is refl) kept.users;
      items = IsKept-spoken item_word history entry (kept_words same_name old.items) (kept_words same_name items) (same_name item) (record { number = number; word = kind }) added (λ key. rw is refl) next kept.items;
    };
    remembers = refl;
  }

  -- an entry that sets no value that is kept
  silent-kept : (last : Matter) (history : History) (entry : Entry) → ((key : CellKey) → rule_word key entry ≡ None) → ((key : ChoiceKey) → choice_word key entry ≡ None) → ((key : UserKey) → user_word key entry ≡ None) → ((item : Name) → item_word item entry ≡ None) → BookRepresents old history
      → BookRepresents (record { rules = old.rules; choices = old.choices; users = old.users; items = old.items; last = last }) (history ++ entry ∷ [])
  silent-kept last history entry rules choices users items kept = record {
    rules = IsKept-silent rule_word history entry (cell_words old.rules) rules kept.rules;
    choices = IsKept-silent choice_word history entry (kept_words same_choice old.choices) choices kept.choices;
    users = IsKept-silent user_word history entry (kept_words same_user old.users) users kept.users;
    items = IsKept-silent item_word history entry (kept_words same_name old.items) items kept.items;
  }

  abbrev passed_over : PolicyBook
  passed_over = record { rules = old.rules; choices = old.choices; users = old.users; items = old.items; last = Nothing }

  pub BookAdds-silent : (act : Act) → leaves_book act ≡ true → BookAdds old passed_over number act
  BookAdds-silent (Create schema) silent = record { stands = λ history entry is seq next kept. silent-kept Nothing history entry (λ key. rw is refl) (λ key. rw is refl) (λ key. rw is refl) (λ item. rw is refl) kept; remembers = refl }
  BookAdds-silent (Insert table row) silent = record { stands = λ history entry is seq next kept. silent-kept Nothing history entry (λ key. rw is refl) (λ key. rw is refl) (λ key. rw is refl) (λ item. rw is refl) kept; remembers = refl }
  BookAdds-silent (Update table row) silent = record { stands = λ history entry is seq next kept. silent-kept Nothing history entry (λ key. rw is refl) (λ key. rw is refl) (λ key. rw is refl) (λ item. rw is refl) kept; remembers = refl }
  BookAdds-silent (Delete table key) silent = record { stands = λ history entry is seq next kept. silent-kept Nothing history entry (λ key. rw is refl) (λ key. rw is refl) (λ key. rw is refl) (λ item. rw is refl) kept; remembers = refl }
  BookAdds-silent (Purpose name) silent = record { stands = λ history entry is seq next kept. silent-kept Nothing history entry (λ key. rw is refl) (λ key. rw is refl) (λ key. rw is refl) (λ item. rw is refl) kept; remembers = refl }
  BookAdds-silent (Recipient name) silent = record { stands = λ history entry is seq next kept. silent-kept Nothing history entry (λ key. rw is refl) (λ key. rw is refl) (λ key. rw is refl) (λ item. rw is refl) kept; remembers = refl }
  BookAdds-silent (Asked user purpose recipient text) silent = record { stands = λ history entry is seq next kept. silent-kept Nothing history entry (λ key. rw is refl) (λ key. rw is refl) (λ key. rw is refl) (λ item. rw is refl) kept; remembers = refl }
  BookAdds-silent (Item item kind) silent = absurd (false≢true silent)
  BookAdds-silent (Authorize user purpose recipient) silent = absurd (false≢true silent)
  BookAdds-silent (Deauthorize user purpose recipient) silent = absurd (false≢true silent)
  BookAdds-silent (Allow purpose recipient table columns item days) silent = absurd (false≢true silent)
  BookAdds-silent (Revoke purpose recipient table columns) silent = absurd (false≢true silent)
  BookAdds-silent (Choice subject item agreed) silent = absurd (false≢true silent)

  -- one more value for a user
  user-kept : (users : LastWords UserKey Authorization) (last : Matter) (key : UserKey) (word : Authorization) (history : History) (entry : Entry)
      → ((other : UserKey) → kept_words same_user users other ≡ with_word (same_user key other) (record { number = number; word = word }) (kept_words same_user old.users other))
      → ((key : CellKey) → rule_word key entry ≡ None) → ((key : ChoiceKey) → choice_word key entry ≡ None) → ((other : UserKey) → user_word other entry ≡ then_some (same_user key other) word) → ((item : Name) → item_word item entry ≡ None) → number ≡ length history + 1 → BookRepresents old history
      → BookRepresents (record { rules = old.rules; choices = old.choices; users = users; items = old.items; last = last }) (history ++ entry ∷ [])
  user-kept users last key word history entry added rules choices spoken items next kept = record {
    rules = IsKept-silent rule_word history entry (cell_words old.rules) rules kept.rules;
    choices = IsKept-silent choice_word history entry (kept_words same_choice old.choices) choices kept.choices;
    users = IsKept-spoken user_word history entry (kept_words same_user old.users) (kept_words same_user users) (same_user key) (record { number = number; word = word }) added spoken next kept.users;
    items = IsKept-silent item_word history entry (kept_words same_name old.items) items kept.items;
  }

  rule-kept : (rules : RuledTables) (last : Matter) (keys : List CellKey) (word : Rule) (history : History) (entry : Entry)
      → ((other : CellKey) → cell_words rules other ≡ with_word (list_any (λ key. same_cell_key key other) keys) (record { number = number; word = word }) (cell_words old.rules other))
      → ((other : CellKey) → rule_word other entry ≡ then_some (list_any (λ key. same_cell_key key other) keys) word) → ((key : ChoiceKey) → choice_word key entry ≡ None) → ((key : UserKey) → user_word key entry ≡ None) → ((item : Name) → item_word item entry ≡ None) → number ≡ length history + 1 → BookRepresents old history
      → BookRepresents (record { rules = rules; choices = old.choices; users = old.users; items = old.items; last = last }) (history ++ entry ∷ [])
  rule-kept rules last keys word history entry added spoken choices users items next kept = record {
    rules = IsKept-spoken rule_word history entry (cell_words old.rules) (cell_words rules) (λ other. list_any (λ key. same_cell_key key other) keys) (record { number = number; word = word }) added spoken next kept.rules;
    choices = IsKept-silent choice_word history entry (kept_words same_choice old.choices) choices kept.choices;
    users = IsKept-silent user_word history entry (kept_words same_user old.users) users kept.users;
    items = IsKept-silent item_word history entry (kept_words same_name old.items) items kept.items;
  }

  abbrev user_key : Name → Name → Name → UserKey
  user_key user purpose recipient = record { user = user; purpose = purpose; recipient = recipient }

  pub BookAdds-authorize : (new : PolicyBook) (user purpose recipient : Name) → AddsUser old new number (record { user = user; purpose = purpose; recipient = recipient }) Yes → BookAdds old new number (Authorize user purpose recipient)
  BookAdds-authorize new user purpose recipient added = record {
    stands = λ history entry is seq next kept. subst (λ book. BookRepresents book (history ++ entry ∷ [])) (sym added.others) (user-kept new.users (User (user_key user purpose recipient)) (user_key user purpose recipient) Yes history entry added.users (λ key. rw is refl) (λ key. rw is refl) (λ other. rw (is, and-assoc (bytes_eq user other.user) (bytes_eq purpose other.purpose) (bytes_eq recipient other.recipient)) refl) (λ item. rw is refl) next kept);
    remembers = ap (λ (book : PolicyBook). book.last) added.others;
  }

  pub BookAdds-deauthorize : (new : PolicyBook) (user purpose recipient : Name) → AddsUser old new number (record { user = user; purpose = purpose; recipient = recipient }) (No number) → BookAdds old new number (Deauthorize user purpose recipient)
  BookAdds-deauthorize new user purpose recipient added = record {
    stands = λ history entry is seq next kept. subst (λ book. BookRepresents book (history ++ entry ∷ [])) (sym added.others) (user-kept new.users (User (user_key user purpose recipient)) (user_key user purpose recipient) (No number) history entry added.users (λ key. rw is refl) (λ key. rw is refl) (λ other. rw (is, seq, and-assoc (bytes_eq user other.user) (bytes_eq purpose other.purpose) (bytes_eq recipient other.recipient)) refl) (λ item. rw is refl) next kept);
    remembers = ap (λ (book : PolicyBook). book.last) added.others;
  }

  pub BookAdds-allow : (new : PolicyBook) (purpose recipient table : Name) (columns : List Place) (item : Option Name) (days : Option ℕ) → AddsRule old new number (cell_keys purpose recipient table columns) (allowed number item days) → BookAdds old new number (Allow purpose recipient table columns item days)
  BookAdds-allow new purpose recipient table columns item days added = record {
    stands = λ history entry is seq next kept. subst (λ book. BookRepresents book (history ++ entry ∷ [])) (sym added.others) (rule-kept new.rules (Cells (cell_keys purpose recipient table columns)) (cell_keys purpose recipient table columns) (allowed number item days) history entry added.rules (λ other. rw (is, seq, named purpose recipient table other columns) refl) (λ key. rw is refl) (λ key. rw is refl) (λ item. rw is refl) next kept);
    remembers = ap (λ (book : PolicyBook). book.last) added.others;
  }

  pub BookAdds-revoke : (new : PolicyBook) (purpose recipient table : Name) (columns : List Place) → AddsRule old new number (cell_keys purpose recipient table columns) (revoked number) → BookAdds old new number (Revoke purpose recipient table columns)
  BookAdds-revoke new purpose recipient table columns added = record {
    stands = λ history entry is seq next kept. subst (λ book. BookRepresents book (history ++ entry ∷ [])) (sym added.others) (rule-kept new.rules (Cells (cell_keys purpose recipient table columns)) (cell_keys purpose recipient table columns) (revoked number) history entry added.rules (λ other. rw (is, seq, named purpose recipient table other columns) refl) (λ key. rw is refl) (λ key. rw is refl) (λ item. rw is refl) next kept);
    remembers = ap (λ (book : PolicyBook). book.last) added.others;
  }

pub on_err : {A B P : Type 0} (result : Result A B) → P → OnErr result P
on_err (Ok value) holds = tt
on_err (Err fault) holds = holds

-- a book whose values of one kind are equal to those before
module _ (old : PolicyBook) where
  pub as_before-choices : (choices : LastWords ChoiceKey Bool) → ((other : ChoiceKey) → kept_words same_choice choices other ≡ kept_words same_choice old.choices other) → BookIsAsBefore old (record { rules = old.rules; choices = choices; users = old.users; items = old.items; last = old.last })
  as_before-choices choices same = record { stands = λ history kept. record { rules = kept.rules; choices = λ key. same key ∙ kept.choices key; users = kept.users; items = kept.items }; remembers = refl }

  pub as_before-users : (users : LastWords UserKey Authorization) → ((other : UserKey) → kept_words same_user users other ≡ kept_words same_user old.users other) → BookIsAsBefore old (record { rules = old.rules; choices = old.choices; users = users; items = old.items; last = old.last })
  as_before-users users same = record { stands = λ history kept. record { rules = kept.rules; choices = kept.choices; users = λ key. same key ∙ kept.users key; items = kept.items }; remembers = refl }

  pub as_before-rules : (rules : RuledTables) → ((other : CellKey) → cell_words rules other ≡ cell_words old.rules other) → BookIsAsBefore old (record { rules = rules; choices = old.choices; users = old.users; items = old.items; last = old.last })
  as_before-rules rules same = record { stands = λ history kept. record { rules = λ key. same key ∙ kept.rules key; choices = kept.choices; users = kept.users; items = kept.items }; remembers = refl }
