-- The history that a book represents after its last entry is removed.
use Rattle.std.proofs.Common.{◌≡◌, ◌∙◌, refl, List, [], ◌∷◌, ◌++◌, Bool, Option, None, bytes_eq}
use Rattle.std.specs.Bool.{then_some}
use Rattle.std.specs.List.{list_any}
use Rattle.hippo_values.specs.declared.names.Name.{Name}
use Rattle.hippo_model.specs.declared.entry.Entry.{Entry}
use Rattle.hippo_model.specs.declared.entry.ItemKind.{ItemKind}
use Rattle.hippo_model.specs.declared.entry.Act.{Act}
use Rattle.hippo_model.specs.declared.entry.Act.TheVariants.{Create, Insert, Update, Delete, Purpose, Recipient, Item, Authorize, Deauthorize, Allow, Revoke, Choice, Asked}
use Rattle.hippo_model.specs.declared.policy.Authorization.{Authorization}
use Rattle.hippo_model.specs.declared.policy.Authorization.TheVariants.{Yes, No}
use Rattle.hippo_model.specs.Rules.{Rule, allowed, revoked}
use Rattle.hippo_model.specs.Terms.{History}
use Rattle.hippo_policy.specs.declared.book.Matter.TheVariants.{Nothing, Cells, Choice as OfChoice, User, Item as OfItem}
use Rattle.hippo_policy.specs.declared.book.PolicyBook.{PolicyBook}
use Rattle.hippo_policy.specs.declared.keys.CellKey.{CellKey}
use Rattle.hippo_policy.specs.declared.keys.ChoiceKey.{ChoiceKey}
use Rattle.hippo_policy.specs.declared.keys.UserKey.{UserKey}
use Rattle.hippo_policy.specs.declared.ruled_tables.RuledTables.{RuledTables}
use Rattle.hippo_policy.specs.Keys.{same_cell_key, same_choice, same_user, same_name}
use Rattle.hippo_policy.specs.Cells.{cell_words}
use Rattle.hippo_policy.specs.Words.{LastWords, Said, kept_words, without_word}
use Rattle.hippo_policy.specs.Books.{BookRepresents, IsKept, rule_word, choice_word, user_word, item_word, cell_keys, matter_of}
use Rattle.hippo_policy.proofs.AddLemmas.{IsKept-unspoken, numbered_words-silent}
use Rattle.hippo_policy.proofs.BookLemmas.{and-assoc, named}

-- the value that an entry sets for the keys of each kind that pass a test
record Says (entry : Entry) (cells : CellKey → Option Rule) (choices : ChoiceKey → Option Bool) (users : UserKey → Option Authorization) (items : Name → Option ItemKind) : Type 0 where
  rules : (key : CellKey) → rule_word key entry ≡ cells key
  agreed : (key : ChoiceKey) → choice_word key entry ≡ choices key
  asked : (key : UserKey) → user_word key entry ≡ users key
  kinds : (item : Name) → item_word item entry ≡ items item

module _ (entry : Entry) where
  says-nothing : (act : Act) → entry.act ≡ act → Nothing ≡ matter_of act → Says entry (λ key. None) (λ key. None) (λ key. None) (λ key. None)
  says-nothing (Create schema) is of = record { rules = λ key. rw is refl; agreed = λ key. rw is refl; asked = λ key. rw is refl; kinds = λ key. rw is refl }
  says-nothing (Insert table row) is of = record { rules = λ key. rw is refl; agreed = λ key. rw is refl; asked = λ key. rw is refl; kinds = λ key. rw is refl }
  says-nothing (Update table row) is of = record { rules = λ key. rw is refl; agreed = λ key. rw is refl; asked = λ key. rw is refl; kinds = λ key. rw is refl }
  says-nothing (Delete table key) is of = record { rules = λ key. rw is refl; agreed = λ key. rw is refl; asked = λ key. rw is refl; kinds = λ key. rw is refl }
  says-nothing (Purpose name) is of = record { rules = λ key. rw is refl; agreed = λ key. rw is refl; asked = λ key. rw is refl; kinds = λ key. rw is refl }
  says-nothing (Recipient name) is of = record { rules = λ key. rw is refl; agreed = λ key. rw is refl; asked = λ key. rw is refl; kinds = λ key. rw is refl }
  says-nothing (Asked user purpose recipient text) is of = record { rules = λ key. rw is refl; agreed = λ key. rw is refl; asked = λ key. rw is refl; kinds = λ key. rw is refl }
  says-nothing act is of = absurd cc

  says-choice : (key : ChoiceKey) (act : Act) → entry.act ≡ act → OfChoice key ≡ matter_of act → (word : Bool) × Says entry (λ other. None) (λ other. then_some (same_choice key other) word) (λ other. None) (λ other. None)
  says-choice key (Choice subject item agreed) is of =
      let same : key ≡ record { subject = subject; item = item } = cc in
      (agreed, record { rules = λ other. rw is refl; agreed = λ other. rw (is, same) refl; asked = λ other. rw is refl; kinds = λ other. rw is refl })
  says-choice key act is of = absurd cc

  says-item : (key : Name) (act : Act) → entry.act ≡ act → OfItem key ≡ matter_of act → (word : ItemKind) × Says entry (λ other. None) (λ other. None) (λ other. None) (λ other. then_some (same_name key other) word)
  says-item key (Item item kind) is of =
      let same : key ≡ item = cc in
      (kind, record { rules = λ other. rw is refl; agreed = λ other. rw is refl; asked = λ other. rw is refl; kinds = λ other. rw (is, same) refl })
  says-item key act is of = absurd cc

  says-user : (key : UserKey) (act : Act) → entry.act ≡ act → User key ≡ matter_of act → (word : Authorization) × Says entry (λ other. None) (λ other. None) (λ other. then_some (same_user key other) word) (λ other. None)
  says-user key (Authorize user purpose recipient) is of =
      let same : key ≡ record { user = user; purpose = purpose; recipient = recipient } = cc in
      (Yes, record { rules = λ other. rw is refl; agreed = λ other. rw is refl; asked = λ other. rw (is, same, and-assoc (bytes_eq user other.user) (bytes_eq purpose other.purpose) (bytes_eq recipient other.recipient)) refl; kinds = λ other. rw is refl })
  says-user key (Deauthorize user purpose recipient) is of =
      let same : key ≡ record { user = user; purpose = purpose; recipient = recipient } = cc in
      (No entry.seq, record { rules = λ other. rw is refl; agreed = λ other. rw is refl; asked = λ other. rw (is, same, and-assoc (bytes_eq user other.user) (bytes_eq purpose other.purpose) (bytes_eq recipient other.recipient)) refl; kinds = λ other. rw is refl })
  says-user key act is of = absurd cc

  says-cells : (keys : List CellKey) (act : Act) → entry.act ≡ act → Cells keys ≡ matter_of act → (word : Rule) × Says entry (λ other. then_some (list_any (λ key. same_cell_key key other) keys) word) (λ other. None) (λ other. None) (λ other. None)
  says-cells keys (Allow purpose recipient table columns item days) is of =
      let same : keys ≡ cell_keys purpose recipient table columns = cc in
      (allowed entry.seq item days, record { rules = λ other. rw (is, same, named purpose recipient table other columns) refl; agreed = λ other. rw is refl; asked = λ other. rw is refl; kinds = λ other. rw is refl })
  says-cells keys (Revoke purpose recipient table columns) is of =
      let same : keys ≡ cell_keys purpose recipient table columns = cc in
      (revoked entry.seq, record { rules = λ other. rw (is, same, named purpose recipient table other columns) refl; agreed = λ other. rw is refl; asked = λ other. rw is refl; kinds = λ other. rw is refl })
  says-cells keys act is of = absurd cc

module _ {K A : Type 0} (word : K → Entry → Option A) (history : History) (entry : Entry) where
  IsKept-before : (kept : K → List (Said A)) → ((key : K) → word key entry ≡ None) → IsKept kept word (history ++ entry ∷ []) → IsKept kept word history
  IsKept-before kept silent is key = is key ∙ numbered_words-silent (word key) history entry (silent key)

module _ (old : PolicyBook) (history : History) (entry : Entry) (kept : BookRepresents old (history ++ entry ∷ [])) where
  pub before-nothing : Nothing ≡ matter_of entry.act → BookRepresents old history
  before-nothing of =
      let says = says-nothing entry entry.act refl of in
      record {
        rules = IsKept-before rule_word history entry (cell_words old.rules) says.rules kept.rules;
        choices = IsKept-before choice_word history entry (kept_words same_choice old.choices) says.agreed kept.choices;
        users = IsKept-before user_word history entry (kept_words same_user old.users) says.asked kept.users;
        items = IsKept-before item_word history entry (kept_words same_name old.items) says.kinds kept.items;
      }

  pub before-cells : (keys : List CellKey) → Cells keys ≡ matter_of entry.act → (rules : RuledTables) → ((other : CellKey) → cell_words rules other ≡ without_word (list_any (λ key. same_cell_key key other) keys) (cell_words old.rules other))
      → BookRepresents (record { rules = rules; choices = old.choices; users = old.users; items = old.items; last = old.last }) history
  before-cells keys of rules taken =
      let said = says-cells entry keys entry.act refl of in
      record {
        rules = IsKept-unspoken rule_word history entry (cell_words old.rules) (cell_words rules) (λ other. list_any (λ key. same_cell_key key other) keys) said.0 taken said.1.rules kept.rules;
        choices = IsKept-before choice_word history entry (kept_words same_choice old.choices) said.1.agreed kept.choices;
        users = IsKept-before user_word history entry (kept_words same_user old.users) said.1.asked kept.users;
        items = IsKept-before item_word history entry (kept_words same_name old.items) said.1.kinds kept.items;
      }

  pub before-choice : (key : ChoiceKey) → OfChoice key ≡ matter_of entry.act → (choices : LastWords ChoiceKey Bool) → ((other : ChoiceKey) → kept_words same_choice choices other ≡ without_word (same_choice key other) (kept_words same_choice old.choices other))
      → BookRepresents (record { rules = old.rules; choices = choices; users = old.users; items = old.items; last = old.last }) history
  before-choice key of choices taken =
      let said = says-choice entry key entry.act refl of in
      record {
        rules = IsKept-before rule_word history entry (cell_words old.rules) said.1.rules kept.rules;
        choices = IsKept-unspoken choice_word history entry (kept_words same_choice old.choices) (kept_words same_choice choices) (same_choice key) said.0 taken said.1.agreed kept.choices;
        users = IsKept-before user_word history entry (kept_words same_user old.users) said.1.asked kept.users;
        items = IsKept-before item_word history entry (kept_words same_name old.items) said.1.kinds kept.items;
      }

  pub before-user : (key : UserKey) → User key ≡ matter_of entry.act → (users : LastWords UserKey Authorization) → ((other : UserKey) → kept_words same_user users other ≡ without_word (same_user key other) (kept_words same_user old.users other))
      → BookRepresents (record { rules = old.rules; choices = old.choices; users = users; items = old.items; last = old.last }) history
  before-user key of users taken =
      let said = says-user entry key entry.act refl of in
      record {
        rules = IsKept-before rule_word history entry (cell_words old.rules) said.1.rules kept.rules;
        choices = IsKept-before choice_word history entry (kept_words same_choice old.choices) said.1.agreed kept.choices;
        users = IsKept-unspoken user_word history entry (kept_words same_user old.users) (kept_words same_user users) (same_user key) said.0 taken said.1.asked kept.users;
        items = IsKept-before item_word history entry (kept_words same_name old.items) said.1.kinds kept.items;
      }

  pub before-item : (key : Name) → OfItem key ≡ matter_of entry.act → (items : LastWords Name ItemKind) → ((other : Name) → kept_words same_name items other ≡ without_word (same_name key other) (kept_words same_name old.items other))
      → BookRepresents (record { rules = old.rules; choices = old.choices; users = old.users; items = items; last = old.last }) history
  before-item key of items taken =
      let said = says-item entry key entry.act refl of in
      record {
        rules = IsKept-before rule_word history entry (cell_words old.rules) said.1.rules kept.rules;
        choices = IsKept-before choice_word history entry (kept_words same_choice old.choices) said.1.agreed kept.choices;
        users = IsKept-before user_word history entry (kept_words same_user old.users) said.1.asked kept.users;
        items = IsKept-unspoken item_word history entry (kept_words same_name old.items) (kept_words same_name items) (same_name key) said.0 taken said.1.kinds kept.items;
      }
