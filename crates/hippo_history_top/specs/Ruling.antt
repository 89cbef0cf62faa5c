-- What is in force after a history. For each purpose and recipient, and each table that has a rule
-- for them on some column, every column is shown with its rule.
use Rattle.std.specs.Prelude.{Bool, true, ◌&&◌, [], flat_map, length, Option, is_some, if◌then◌else◌, bytes_eq}
use Rattle.std.specs.List.{list_any, range_with_len}
use Rattle.hippo_values.specs.Texts.{Txt}
use Rattle.hippo_values.specs.declared.names.Name.{Name}
use Rattle.hippo_model.specs.declared.schema.Schema.{Schema}
use Rattle.hippo_model.specs.Rules.{Rule, rule_at}
use Rattle.hippo_model.specs.Terms.{History, Place}
use Rattle.hippo_typing_catalog.specs.Catalogs.{KnownNames, known_at}
use Rattle.hippo_policy.specs.Rulings.{opt_in_at}
use Rattle.hippo_history_top.specs.declared.asking.Scope.{Scope}
use Rattle.hippo_history_top.specs.declared.asking.Scope.TheVariants.{Whole, Table}

-- how the rule of a column is shown: by its purpose, recipient, table and column, the rule, and how
-- silence on its item is read
abbrev pub RuleLine : Type 0
RuleLine = Name → Name → Schema → Place → Option Rule → Option Bool → Txt

-- the rule of a column, and then its line
abbrev pub column_rule : History → Name → Name → Schema → Place → Option Rule
column_rule history purpose recipient schema place =
    rule_at history purpose recipient schema.name place

abbrev pub column_line : RuleLine → History → Name → Name → Schema → Place → Txt
column_line line history purpose recipient schema place =
    line purpose recipient schema place (column_rule history purpose recipient schema place)
    (opt_in_at history (column_rule history purpose recipient schema place))

-- whether some column of a table has a rule
abbrev pub is_ruled : History → Name → Name → Schema → Bool
is_ruled history purpose recipient schema =
    list_any (λ place. is_some (column_rule history purpose recipient schema place))
    (range_with_len 0 (length schema.columns))

-- all columns of a table that has a rule
abbrev pub columns_shown : RuleLine → History → Name → Name → Schema → Txt
columns_shown line history purpose recipient schema =
    flat_map (column_line line history purpose recipient schema)
    (range_with_len 0 (length schema.columns))

-- whether a table is asked for
abbrev pub has_table : Scope → Name → Bool
has_table Whole table = true
has_table (Table name) table = bytes_eq name table

abbrev pub table_shown : RuleLine → Scope → History → Name → Name → Schema → Txt
table_shown line scope history purpose recipient schema =
    if has_table scope schema.name && is_ruled history purpose recipient schema
    then columns_shown line history purpose recipient schema else []

abbrev pub tables_shown : KnownNames → RuleLine → Scope → History → Name → Name → Txt
tables_shown known line scope history purpose recipient =
    flat_map (λ named. table_shown line scope history purpose recipient named.1) known.tables

-- for a purpose, to all recipients
abbrev pub recipients_shown : KnownNames → RuleLine → Scope → History → Name → Txt
recipients_shown known line scope history purpose =
    flat_map (tables_shown known line scope history purpose) known.recipients

-- the rules in force, by these purposes, recipients and tables
abbrev pub rules_by_names : KnownNames → RuleLine → Scope → History → Txt
rules_by_names known line scope history =
    flat_map (recipients_shown known line scope history) known.purposes

-- the rules in force, by everything that a history creates, in the order of creation
abbrev pub rules_shown : RuleLine → Scope → History → Txt
rules_shown line scope history = rules_by_names (known_at history) line scope history
