-- Rules, choices and authorizations: the last entry on each decides.
use Rattle.std.specs.Prelude.{ℕ, ℤ, Bool, ◌&&◌, List, Option, None, nat_eq, unwrap_or, bytes_eq}
use Rattle.std.specs.Bool.{then_some}
use Rattle.std.specs.List.{list_any}
use Rattle.std.specs.Ordering.{int_eq}
use Rattle.hippo_values.specs.declared.names.Name.{Name}
use Rattle.hippo_model.specs.declared.entry.Act.{Act}
use Rattle.hippo_model.specs.declared.entry.Act.TheVariants.{Allow, Revoke, Choice, Authorize, Deauthorize}
use Rattle.hippo_model.specs.declared.policy.Authorization.{Authorization}
use Rattle.hippo_model.specs.declared.policy.Authorization.TheVariants.{Yes, No}
use Rattle.hippo_model.specs.Terms.{History, Place}
use Rattle.hippo_model.specs.Histories.{last_word}

-- the rule that an entry sets for a cell, with the entry's number: it allows the cell, with or
-- without an item, for a number of days or without end; or it revokes it
pub data Rule : Type 0 where
  allowed : ℕ → Option Name → Option ℕ → Rule
  revoked : ℕ → Rule

-- a cell as rules name it: for a purpose and a recipient, in a table's column
pub record RuledCell : Type 0 where
  pub purpose : Name
  pub recipient : Name
  pub table : Name
  pub column : Place

-- whether a rule on this purpose, recipient, table and columns names the cell
abbrev pub is_named_by : RuledCell → Name → Name → Name → List Place → Bool
is_named_by cell purpose recipient table columns =
    bytes_eq purpose cell.purpose && bytes_eq recipient cell.recipient && bytes_eq table cell.table
    && list_any (nat_eq cell.column) columns

abbrev pub rule_in : RuledCell → ℕ → Act → Option Rule
rule_in cell number (Allow purpose recipient table columns item days) =
    then_some (is_named_by cell purpose recipient table columns) (allowed number item days)
rule_in cell number (Revoke purpose recipient table columns) =
    then_some (is_named_by cell purpose recipient table columns) (revoked number)
rule_in cell number act = None

-- the rule of a cell is the last ALLOW or REVOKE that names its purpose, recipient, table and
-- column
abbrev pub rule_at : History → Name → Name → Name → Place → Option Rule
rule_at history purpose recipient table column =
    let cell : RuledCell =
    record { purpose = purpose; recipient = recipient; table = table; column = column } in
    last_word (λ entry. rule_in cell entry.seq entry.act) history

abbrev pub choice_in : ℤ → Name → Act → Option Bool
choice_in subject item (Choice s i agreed) = then_some (int_eq s subject && bytes_eq i item) agreed
choice_in subject item act = None

-- the last choice of a patient on an item
abbrev pub choice_at : History → ℤ → Name → Option Bool
choice_at history subject item = last_word (λ entry. choice_in subject item entry.act) history

abbrev pub authorization_in : Name → Name → Name → ℕ → Act → Option Authorization
authorization_in user purpose recipient number (Authorize u p r) =
    then_some (bytes_eq u user && bytes_eq p purpose && bytes_eq r recipient) Yes
authorization_in user purpose recipient number (Deauthorize u p r) =
    then_some (bytes_eq u user && bytes_eq p purpose && bytes_eq r recipient) (No number)
authorization_in user purpose recipient number act = None

-- whether a user may ask for a purpose and recipient: the last AUTHORIZE or DEAUTHORIZE of these
-- three decides
abbrev pub authorized_at : History → Name → Name → Name → Authorization
authorized_at history user purpose recipient =
    unwrap_or (last_word (λ entry. authorization_in user purpose recipient entry.seq entry.act)
    history) (No 0)
