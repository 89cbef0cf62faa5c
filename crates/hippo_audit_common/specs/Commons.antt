-- The tables that a query and an audit have in common.
use Rattle.std.specs.Prelude.{List, filter, bytes_eq}
use Rattle.std.specs.List.{list_any, position_or_len}
use Rattle.hippo_values.specs.declared.names.Name.{Name}
use Rattle.hippo_model.specs.Terms.{Place}

-- the tables in both FROM lists, in the audit's order
abbrev pub common_tables : List Name → List Name → List Name
common_tables query audit = filter (λ table. list_any (bytes_eq table) query) audit

-- the place of a table in a list, or the length of the list if the table is not in it
abbrev pub place_in : List Name → Name → Place
place_in tables table = position_or_len (bytes_eq table) tables
