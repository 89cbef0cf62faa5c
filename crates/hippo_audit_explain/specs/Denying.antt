-- The cells that were denied to a logged query, read from a keeper.
use Rattle.std.specs.Prelude.{◌≡◌, ◌<◌, ◌≤◌, ℕ, ◌+◌, true, false, List, [], ◌++◌, length, take, flat_map, sum_by, is_some, Some, Result, Ok, Err}
use Rattle.std.specs.List.{list_all}
use Rattle.std.specs.Option.{option_map_or}
use Rattle.hippo_values.specs.declared.names.Name.{Name}
use Rattle.hippo_values.specs.Texts.{Txt}
use Rattle.hippo_model.specs.declared.entry.Entry.{Entry}
use Rattle.hippo_model.specs.declared.query.Query.{Query}
use Rattle.hippo_model.specs.declared.schema.Schema.{Schema}
use Rattle.hippo_model.specs.Denials.{Denial, table_denials, query_denials, denials}
use Rattle.hippo_model.specs.Histories.{schema_at}
use Rattle.hippo_model.specs.Stores.{IsStoreOf}
use Rattle.hippo_model.specs.Terms.{History}
use Rattle.hippo_model.specs.Versions.{versions}
use Rattle.hippo_model_laws.specs.Audits.{StandsIn}
use Rattle.hippo_keeper.specs.declared.faults.KeeperFault.{KeeperFault}
use Rattle.hippo_keeper.specs.Keeping.{KeeperState, IsReady, IsAfterCall, KeepsSame}
use Rattle.hippo_typing_catalog.specs.Catalogs.{KnownNames, known_at, table_of}
use Rattle.hippo_policy.specs.declared.book.PolicyBook.{PolicyBook}
use Rattle.hippo_policy.specs.Books.{BookRepresents}
use Rattle.hippo_typing.specs.Meanings.{meaning}
use Rattle.hippo_backlog.specs.Backlogs.{versions_of}
use Rattle.hippo_backlog.specs.Calls as reads
use Rattle.hippo_backlog.specs.declared.faults.ReadFault.TheVariants.{Keeper, Damaged, Memory}
use Rattle.hippo_audit_explain.specs.declared.faults.DenialsFault.{DenialsFault}
use Rattle.hippo_audit_explain.specs.declared.faults.DenialsFault.TheVariants.{Read, TooMany}
use Rattle.hippo_audit_explain.specs.declared.rows.RulesThen.{RulesThen}
use Rattle.hippo_audit_explain.specs.Listing.{rules_context}

-- listing denied cells, as a single call of the keeper
abbrev pub listing_as_call : {A : Type 0} → Result A DenialsFault → Result (Unit {0}) KeeperFault
listing_as_call (Ok value) = Ok tt
listing_as_call (Err TooMany) = Ok tt
listing_as_call (Err (Read fault)) = reads.reading_as_call {A = Unit {0}} (Err fault)

-- the table has this schema after the first `count` entries of a history, and the rules are those
-- of the whole history
pub record FitsTable (schema : Schema) (count : ℕ) (book : PolicyBook) (history : History)
    : Type 0 where
  pub rules : BookRepresents book history
  pub created : schema_at (take count history) schema.name ≡ Some schema
  pub within : count ≤ length history

-- all tables are created by the first `count` entries
pub record FitsQuery (tables : List Name) (names : KnownNames) (count : ℕ) (book : PolicyBook)
    (history : History)
    : Type 0 where
  pub rules : BookRepresents book history
  pub known : names ≡ known_at history
  pub created : list_all (λ table. is_some (table_of (known_at (take count history)) table)) tables
      ≡ true
  pub within : count ≤ length history

-- the text means a query after the first `count` entries
pub record FitsText (text : Txt) (names : KnownNames) (count : ℕ) (book : PolicyBook)
    (history : History) : Type 0 where
  pub rules : BookRepresents book history
  pub known : names ≡ known_at history
  pub means : is_some (meaning (take count history) text) ≡ true
  pub within : count ≤ length history

-- the denied cells of a table, by the first entries of a history
abbrev pub one_table : RulesThen → Query → Schema → History → List Denial
one_table rules query schema history =
    table_denials (take rules.count history) (rules_context rules) query schema

-- the denied cells of the tables with these names
abbrev pub tables_denials : RulesThen → Query → List Name → History → List Denial
tables_denials rules query tables history =
    flat_map (λ table. option_map_or (λ schema. one_table rules query schema history)
    (schema_at (take rules.count history) table) []) tables

-- the denied cells of the query that a text means
abbrev pub text_denials : RulesThen → Txt → History → List Denial
text_denials rules text history =
    option_map_or (query_denials (take rules.count history) (rules_context rules))
    (meaning (take rules.count history) text) []

-- the number of versions of a table, and the sum over several tables
abbrev pub one_count : Schema → History → ℕ
one_count schema history = length (versions_of schema.name history)

abbrev pub tables_versions : List Name → History → ℕ
tables_versions tables history = sum_by (λ table. length (versions_of table history)) tables

-- the keeper may be read, and there are at most `limit` cells so far
pub record MayRead (limit : ℕ) (cells : List Denial) (keeper : KeeperState) : Type 0 where
  pub ready : IsReady true keeper
  pub within : length cells ≤ limit

-- the wanted cells are added; or they are more than the limit, or the keeper failed, or memory ran
-- out
abbrev pub AddsDenials : ℕ → List Denial → Result (Unit {0}) DenialsFault → List Denial
    → List Denial → Type 0
AddsDenials limit wanted (Ok tt) old new = new ≡ old ++ wanted
AddsDenials limit wanted (Err TooMany) old new = limit < length (old ++ wanted)
AddsDenials limit wanted (Err (Read Keeper)) old new = Unit {0}
AddsDenials limit wanted (Err (Read (Damaged number))) old new = ⊥
AddsDenials limit wanted (Err (Read Memory)) old new = Unit {0}

-- the wanted cells are added, in at most `versions` steps
pub record HasAdded (limit : ℕ) (wanted : List Denial) (versions : ℕ)
    (result : Result (Unit {0}) DenialsFault)
    (old new : List Denial) (steps steps' : ℕ) : Type 0 where
  pub adds : AddsDenials limit wanted result old new
  pub few : steps' ≤ steps + versions

-- what reading the tables of a logged query does to a keeper. It adds the wanted cells of the
-- history in the store, if its contents are known and the history fits.
pub record ReadsDenials (fits : History → Type 0) (wanted : History → List Denial)
    (count : History → ℕ) (limit : ℕ)
    (result : Result (Unit {0}) DenialsFault) (old new : List Denial) (before after : KeeperState)
    (steps steps' : ℕ) : Type 0 where
  pub call : IsAfterCall true false (listing_as_call result) before after
  pub stays : after.tells → KeepsSame before after
  pub told : after.tells → (history : History) → IsStoreOf meaning before.kept history
      → fits history
      → HasAdded limit (wanted history) (count history) result old new steps steps'

-- the result is the wanted cells; or they are more than the limit, or the keeper failed, or memory
-- ran out
abbrev pub IsAnswer : ℕ → List Denial → Result (List Denial) DenialsFault → Type 0
IsAnswer limit wanted (Ok cells) = (cells ≡ wanted) × (length wanted ≤ limit)
IsAnswer limit wanted (Err TooMany) = limit < length wanted
IsAnswer limit wanted (Err (Read Keeper)) = Unit {0}
IsAnswer limit wanted (Err (Read (Damaged number))) = ⊥
IsAnswer limit wanted (Err (Read Memory)) = Unit {0}

-- the result is the denied cells of the entry, in at most one step for each version of the history
pub record HasAnswered (limit : ℕ) (history : History) (entry : Entry)
    (result : Result (List Denial) DenialsFault)
    (steps steps' : ℕ) : Type 0 where
  pub answer : IsAnswer limit (denials meaning history entry) result
  pub few : steps' ≤ steps + versions history

-- what listing the denied cells of an entry does to a keeper. The result is guaranteed for the
-- history in the store, if its contents are known, the names and rules are those of this history,
-- and the entry is in it.
pub record Denies (limit : ℕ) (entry : Entry) (names : KnownNames) (book : PolicyBook)
    (result : Result (List Denial) DenialsFault) (before after : KeeperState) (steps steps' : ℕ)
    : Type 0 where
  pub call : IsAfterCall true false (listing_as_call result) before after
  pub stays : after.tells → KeepsSame before after
  pub told : after.tells → (history : History) → IsStoreOf meaning before.kept history
      → names ≡ known_at history
      → BookRepresents book history → StandsIn meaning history entry
      → HasAnswered limit history entry result steps steps'
