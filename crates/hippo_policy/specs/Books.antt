-- The history that a policy book represents.
use Rattle.std.specs.Prelude.{◌≡◌, ℕ, ℤ, ◌+◌, Bool, true, false, List, [], ◌∷◌, ◌++◌, length, map, Option}
use Rattle.std.specs.List.{list_any}
use Rattle.hippo_values.specs.declared.names.Name.{Name}
use Rattle.hippo_model.specs.declared.entry.Entry.{Entry}
use Rattle.hippo_model.specs.declared.entry.ItemKind.{ItemKind}
use Rattle.hippo_model.specs.declared.entry.Act.{Act}
use Rattle.hippo_model.specs.declared.entry.Act.TheVariants.{Item, Authorize, Deauthorize, Allow, Revoke, Choice}
use Rattle.hippo_model.specs.declared.policy.Authorization.{Authorization}
use Rattle.hippo_model.specs.Terms.{History, Place}
use Rattle.hippo_model.specs.Histories.{item_created}
use Rattle.hippo_model.specs.Rules.{Rule, RuledCell, rule_in, rule_at, choice_in, authorization_in}
use Rattle.hippo_policy.specs.declared.book.Matter.{Matter}
use Rattle.hippo_policy.specs.declared.book.Matter.TheVariants.{Nothing, Cells, Choice as OfChoice, User, Item as OfItem}
use Rattle.hippo_policy.specs.declared.book.PolicyBook.{PolicyBook}
use Rattle.hippo_policy.specs.declared.keys.CellKey.{CellKey}
use Rattle.hippo_policy.specs.declared.keys.ChoiceKey.{ChoiceKey}
use Rattle.hippo_policy.specs.declared.keys.UserKey.{UserKey}
use Rattle.hippo_policy.specs.declared.ruled_tables.RuledTables.{RuledTables}
use Rattle.hippo_policy.specs.Keys.{same_cell_key, same_choice, same_user, same_name}
use Rattle.hippo_policy.specs.Cells.{cell_words}
use Rattle.hippo_policy.specs.Words.{LastWords, Said, kept_words, with_word, numbered_words, latest}

abbrev pub cell_of : CellKey → RuledCell
cell_of key =
    record {
      purpose = key.table.purpose;
      recipient = key.table.recipient;
      table = key.table.table;
      column = key.column;
    }

-- the rule of the cell that a key names
abbrev pub rule_of : History → CellKey → Option Rule
rule_of history key =
    rule_at history key.table.purpose key.table.recipient key.table.table key.column

-- the value that an entry sets for a cell, a patient's choice, a user's authorization, an item
abbrev pub rule_word : CellKey → Entry → Option Rule
rule_word key entry = rule_in (cell_of key) entry.seq entry.act

abbrev pub choice_word : ChoiceKey → Entry → Option Bool
choice_word key entry = choice_in key.subject key.item entry.act

abbrev pub user_word : UserKey → Entry → Option Authorization
user_word key entry = authorization_in key.user key.purpose key.recipient entry.seq entry.act

abbrev pub item_word : Name → Entry → Option ItemKind
item_word item entry = item_created item entry.act

-- for each key, the values that the entries of a history set for it, with their numbers
abbrev pub IsKept : {K A : Type 0} → (K → List (Said A)) → (K → Entry → Option A) → History → Type 0
IsKept {K} kept word history = (key : K) → kept key ≡ numbered_words (word key) history

-- the book holds the values that a history sets
pub record BookRepresents (book : PolicyBook) (history : History) : Type 0 where
  pub rules : IsKept (cell_words book.rules) rule_word history
  pub choices : IsKept (kept_words same_choice book.choices) choice_word history
  pub users : IsKept (kept_words same_user book.users) user_word history
  pub items : IsKept (kept_words same_name book.items) item_word history

abbrev pub cell_keys : Name → Name → Name → List Place → List CellKey
cell_keys purpose recipient table columns =
    map
    (λ column. record {
      table = record { purpose = purpose; recipient = recipient; table = table };
      column = column;
    })
    columns

-- the keys of the cells that an ALLOW or a REVOKE names
abbrev pub ruled_cells : Act → List CellKey
ruled_cells (Allow purpose recipient table columns item days) =
    cell_keys purpose recipient table columns
ruled_cells (Revoke purpose recipient table columns) = cell_keys purpose recipient table columns
ruled_cells act = []

-- what an act is about: the keys whose values it sets
abbrev pub matter_of : Act → Matter
matter_of (Item item kind) = OfItem item
matter_of (Authorize user purpose recipient) =
    User (record { user = user; purpose = purpose; recipient = recipient })
matter_of (Deauthorize user purpose recipient) =
    User (record { user = user; purpose = purpose; recipient = recipient })
matter_of (Allow purpose recipient table columns item days) =
    Cells (cell_keys purpose recipient table columns)
matter_of (Revoke purpose recipient table columns) =
    Cells (cell_keys purpose recipient table columns)
matter_of (Choice subject item agreed) = OfChoice (record { subject = subject; item = item })
matter_of act = Nothing

abbrev is_nothing : Matter → Bool
is_nothing Nothing = true
is_nothing matter = false

-- whether an act sets no value that a book keeps
abbrev pub leaves_book : Act → Bool
leaves_book act = is_nothing (matter_of act)

-- the book knows what its last entry is about
abbrev pub RemembersMatter : PolicyBook → Act → Type 0
RemembersMatter book act = book.last ≡ matter_of act

-- the new book has an entry with this number and act added: it represents each history that the old
-- one represents, with the entry appended, if the entry has the next number
pub record BookAdds (old new : PolicyBook) (number : ℕ) (act : Act) : Type 0 where
  pub stands : (history : History) (entry : Entry) → entry.act ≡ act → entry.seq ≡ number
      → number ≡ length history + 1
      → BookRepresents old history → BookRepresents new (history ++ entry ∷ [])
  pub remembers : RemembersMatter new act

-- a book with these rules, users and last matter, and the choices and items of another book
abbrev pub book_with : PolicyBook → RuledTables → LastWords UserKey Authorization
    → Matter → PolicyBook
book_with book rules users last =
    record {
      rules = rules;
      choices = book.choices;
      users = users;
      items = book.items;
      last = last;
    }

-- the new book has one more value for a user
pub record AddsUser (old new : PolicyBook) (number : ℕ) (key : UserKey) (word : Authorization)
    : Type 0 where
  pub users : (other : UserKey) → kept_words same_user new.users other
      ≡ with_word (same_user key other) (record { number = number; word = word })
      (kept_words same_user old.users other)
  pub others : new ≡ book_with old old.rules new.users (User key)

-- the new book has one more rule for some cells
pub record AddsRule (old new : PolicyBook) (number : ℕ) (keys : List CellKey) (word : Rule)
    : Type 0 where
  pub rules : (other : CellKey) → cell_words new.rules other
      ≡ with_word (list_any (λ key. same_cell_key key other) keys)
      (record { number = number; word = word })
      (cell_words old.rules other)
  pub others : new ≡ book_with old new.rules old.users (Cells keys)

-- the new book represents every history that the old one represents
pub record BookIsAsBefore (old new : PolicyBook) : Type 0 where
  pub stands : (history : History) → BookRepresents old history → BookRepresents new history
  pub remembers : new.last ≡ old.last

-- the last choice of a patient on an item that a book keeps, up to an entry number
abbrev pub choice_kept : PolicyBook → ℕ → ℤ → Name → Option Bool
choice_kept book n subject item =
    latest n (kept_words same_choice book.choices (record { subject = subject; item = item }))
