-- Carrying on in a new store: the entries of a history that still decide something.
use Rattle.std.specs.Prelude.{ℕ, ◌+◌, ◌&&◌, Bool, true, false, not, List, [], ◌∷◌, ◌++◌, filter, length, nat_lt, is_some, is_none, Option, Some, None, option_map, option_and_then, if◌then◌else◌}
use Rattle.std.specs.Bool.{then_some}
use Rattle.std.specs.List.{list_any}
use Rattle.std.specs.Option.{option_map_or}
use Rattle.hippo_values.specs.declared.names.Name.{Name}
use Rattle.hippo_model.specs.declared.entry.Act.{Act}
use Rattle.hippo_model.specs.declared.entry.Act.TheVariants.{Create, Insert, Update, Delete, Purpose, Recipient, Item, Authorize, Deauthorize, Allow, Revoke, Choice, Asked}
use Rattle.hippo_model.specs.declared.entry.Entry.{Entry}
use Rattle.hippo_model.specs.declared.schema.Schema.{Schema}
use Rattle.hippo_model.specs.Histories.{last_word, schema_at}
use Rattle.hippo_model.specs.Rows.{key_of, names_key, is_insert, row_at}
use Rattle.hippo_model.specs.Rules.{rule_at, choice_at, authorization_in}
use Rattle.hippo_model.specs.Terms.{History, Key, Place, Row}

-- the columns of a rule that no later entry names for the same purpose, recipient and table
abbrev pub columns_left : Name → Name → Name → List Place → History → List Place
columns_left purpose recipient table columns later =
    filter (λ column. is_none (rule_at later purpose recipient table column)) columns

-- a rule on the columns that are left, if there are any
abbrev pub rule_on : (List Place → Act) → List Place → Option Act
rule_on rule columns = then_some (nat_lt 0 (length columns)) (rule columns)

-- whether a later entry authorizes or deauthorizes the same user for the same purpose and recipient
abbrev pub is_granted_again : Name → Name → Name → History → Bool
is_granted_again user purpose recipient later =
    is_some (last_word (λ entry. authorization_in user purpose recipient entry.seq entry.act) later)

-- whether a later entry inserts a row with the same key
abbrev pub inserts_key : Schema → Key → Entry → Bool
inserts_key schema key entry = is_insert entry.act && names_key schema key entry.act

abbrev pub is_inserted_again : Schema → Key → History → Bool
is_inserted_again schema key later = list_any (inserts_key schema key) later

-- the birth of a row that lives, with the values that it has now
abbrev pub birth_of : History → History → Name → Schema → Key → Option Act
birth_of history later table schema key =
    if is_inserted_again schema key later then None
    else option_map (Insert table) (row_at schema history key)

abbrev pub birth_left : History → History → Name → Row → Option Act
birth_left history later table row =
    option_and_then (λ schema. birth_of history later table schema (key_of schema.key row))
    (schema_at history table)

-- what is left of an act of a history, by the entries after it: what is created stays, a word on a
-- matter stays unless a later one decides, and questions, updates and deletes go
abbrev pub act_left : History → History → Act → Option Act
act_left history later (Insert table row) = birth_left history later table row
act_left history later (Update table row) = None
act_left history later (Delete table key) = None
act_left history later (Authorize user purpose recipient) =
    then_some (not (is_granted_again user purpose recipient later))
    (Authorize user purpose recipient)
act_left history later (Deauthorize user purpose recipient) =
    then_some (not (is_granted_again user purpose recipient later))
    (Deauthorize user purpose recipient)
act_left history later (Allow purpose recipient table columns item days) =
    rule_on (λ left. Allow purpose recipient table left item days)
    (columns_left purpose recipient table columns later)
act_left history later (Revoke purpose recipient table columns) =
    rule_on (Revoke purpose recipient table) (columns_left purpose recipient table columns later)
act_left history later (Choice subject item agreed) =
    then_some (is_none (choice_at later subject item)) (Choice subject item agreed)
act_left history later (Asked user purpose recipient text) = None
act_left history later act = Some act

-- whether something may be left of an act: it is no question, and no update or delete of a row
abbrev pub may_stay : Act → Bool
may_stay (Update table row) = false
may_stay (Delete table key) = false
may_stay (Asked user purpose recipient text) = false
may_stay act = true

-- an entry with another act
abbrev pub with_act : Entry → Act → Entry
with_act entry act = record { seq = entry.seq; moment = entry.moment; act = act }

-- what is left of an entry: nothing, or one entry
abbrev pub entry_left : History → History → Entry → History
entry_left history later entry =
    option_map_or (λ act. with_act entry act ∷ []) (act_left history later entry.act) []

-- what is left of some entries of a history, in their order; after the last of them come the entries
-- of `later`
abbrev pub entries_left : History → History → History
entries_left history [] = []
entries_left history (entry ∷ later) =
    entry_left history later entry ++ entries_left history later

-- whether an entry may be left, whatever comes after it
abbrev pub is_carriable : Entry → Bool
is_carriable entry = may_stay entry.act

-- entries with new numbers, one after another
abbrev pub numbered_from : ℕ → History → History
numbered_from number [] = []
numbered_from number (entry ∷ later) =
    record { seq = number; moment = entry.moment; act = entry.act }
    ∷ numbered_from (number + 1) later

-- a history without the entries that no longer decide anything
abbrev pub carried : History → History
carried history = numbered_from 1 (entries_left history history)
