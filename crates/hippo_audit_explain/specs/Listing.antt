-- How the denied cells of rows are listed.
use Rattle.std.specs.Prelude.{◌≡◌, ◌<◌, ℕ, List, ◌++◌, length, take, filter, filter_map, flat_map, Result, Ok, Err}
use Rattle.std.specs.List.{enumerate_from}
use Rattle.hippo_model.specs.declared.born_row.BornRow.{BornRow}
use Rattle.hippo_model.specs.declared.query.Query.{Query}
use Rattle.hippo_model.specs.declared.schema.Column.{Column}
use Rattle.hippo_model.specs.declared.schema.Schema.{Schema}
use Rattle.hippo_model.specs.Denials.{Denial, is_listed, denial_by}
use Rattle.hippo_model.specs.Terms.{History, Place}
use Rattle.hippo_model.specs.Verdicts.{Context, verdict}
use Rattle.hippo_policy.specs.Books.{BookRepresents}
use Rattle.hippo_backlog.specs.declared.faults.ReadFault.TheVariants.{Memory}
use Rattle.hippo_audit_explain.specs.declared.faults.DenialsFault.{DenialsFault}
use Rattle.hippo_audit_explain.specs.declared.faults.DenialsFault.TheVariants.{Read, TooMany}
use Rattle.hippo_audit_explain.specs.declared.faults.ListFault.{ListFault}
use Rattle.hippo_audit_explain.specs.declared.faults.ListFault.TheVariants as lists
use Rattle.hippo_audit_explain.specs.declared.rows.RulesThen.{RulesThen}

-- the columns of a table that EXPLAIN lists for a query, with their places
abbrev pub denial_columns : Query → Schema → List (Place × Column)
denial_columns query schema =
    filter (λ (place, column). is_listed query schema place) (enumerate_from 0 schema.columns)

abbrev pub rules_context : RulesThen → Context
rules_context rules =
    record { purpose = rules.purpose.now; recipient = rules.recipient.now; moment = rules.moment }

-- the denied cells of a row in these columns
abbrev pub listed_denials : History → Context → Schema → List (Place × Column) → BornRow
    → List Denial
listed_denials history context schema listed kept =
    filter_map (λ (place, column). denial_by schema kept.row column.name
    (verdict history context schema kept place))
    listed

-- the denied cells of some rows
abbrev pub rows_denials : History → Context → Schema → List (Place × Column) → List BornRow
    → List Denial
rows_denials history context schema listed rows =
    flat_map (listed_denials history context schema listed) rows

-- the fault of listing a logged query's denied cells, from that of listing rows
abbrev pub listing_fault : ListFault → DenialsFault
listing_fault lists.TooMany = TooMany
listing_fault lists.Memory = Read Memory

-- the wanted cells are added; or they are more than the limit, or memory ran out
abbrev pub Lists : ℕ → List Denial → Result (Unit {0}) ListFault → List Denial → List Denial
    → Type 0
Lists limit wanted (Ok tt) old new = new ≡ old ++ wanted
Lists limit wanted (Err lists.TooMany) old new = limit < length (old ++ wanted)
Lists limit wanted (Err lists.Memory) old new = Unit {0}

-- the denied cells of some rows are added, for each history that has these rules
abbrev pub ListsRows : ℕ → RulesThen → Schema → List (Place × Column) → List BornRow
    → Result (Unit {0}) ListFault → List Denial → List Denial → Type 0
ListsRows limit rules schema listed rows result old new =
    (history : History) → BookRepresents rules.book.now history
    → Lists limit
    (rows_denials (take rules.count history) (rules_context rules) schema listed rows)
    result old new
