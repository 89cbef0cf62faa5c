-- An entry, and the rule of a column, as a line of text, of JSON (RFC 8259) or of CSV (RFC 4180).
use Rattle.std.specs.Prelude.{ℕ, Bool, true, false, List, [], ◌∷◌, ◌++◌, Option, Some, None, option_map, unwrap_or, codes, decimal}
use Rattle.std.specs.Option.{option_map_or}
use Rattle.csv.specs.Writing.{default_writer, row_text}
use Rattle.serde_json.specs.Data.{Data, null, number, unsigned, string, object, no_members, member}
use Rattle.serde_json.specs.Written.{compact_text}
use Rattle.hippo_values_text.specs.Dates.{moment_text}
use Rattle.hippo_values.specs.Texts.{Txt}
use Rattle.hippo_values.specs.declared.moments.Moment.{Moment}
use Rattle.hippo_values.specs.declared.names.Name.{Name}
use Rattle.hippo_model.specs.declared.entry.Act.{Act}
use Rattle.hippo_model.specs.declared.entry.Act.TheVariants.{Asked}
use Rattle.hippo_model.specs.declared.entry.Entry.{Entry}
use Rattle.hippo_model.specs.declared.schema.Column.{Column}
use Rattle.hippo_model.specs.declared.schema.Schema.{Schema}
use Rattle.hippo_model.specs.Rules.{Rule, allowed, revoked}
use Rattle.hippo_model.specs.Terms.{Place}
use Rattle.hippo_report.specs.declared.format.Format.{Format}
use Rattle.hippo_report.specs.declared.format.Format.TheVariants as formats
use Rattle.hippo_history_statements.specs.Telling.{act_statement, entry_line, allow_text, rule_text, name_at}

-- an object without spaces as a line, and then a record as a line
abbrev pub json_line : Data → Txt
json_line value = compact_text value ++ codes "\n"

abbrev pub csv_line : List Txt → Txt
csv_line fields = row_text default_writer fields

-- an object with its members sorted by key; the object of a question has its asker too
abbrev pub statement_data : ℕ → Txt → Txt → Data
statement_data entry moment statement =
    object (member (codes "entry") (number (unsigned entry))
    (member (codes "moment") (string moment)
    (member (codes "statement") (string statement) no_members)))

abbrev pub question_data : ℕ → Txt → Name → Name → Name → Txt → Data
question_data entry moment user purpose recipient text =
    object (member (codes "entry") (number (unsigned entry))
    (member (codes "moment") (string moment)
    (member (codes "purpose") (string purpose)
    (member (codes "recipient") (string recipient)
    (member (codes "statement") (string text)
    (member (codes "user") (string user) no_members))))))

-- an entry from its number and moment, with the schema of the table that its act names
abbrev pub entry_data : Option Schema → ℕ → Txt → Act → Data
entry_data schema entry moment (Asked user purpose recipient text) =
    question_data entry moment user purpose recipient text
entry_data schema entry moment act = statement_data entry moment (act_statement schema act)

-- six fields; the third to the fifth are empty if nobody asks
abbrev pub entry_fields : Option Schema → ℕ → Txt → Act → List Txt
entry_fields schema entry moment (Asked user purpose recipient text) =
    decimal entry ∷ moment ∷ user ∷ purpose ∷ recipient ∷ text ∷ []
entry_fields schema entry moment act =
    decimal entry ∷ moment ∷ [] ∷ [] ∷ [] ∷ act_statement schema act ∷ []

abbrev pub entry_by : Format → Option Schema → Entry → Txt
entry_by formats.Text schema entry = entry_line schema entry
entry_by formats.Json schema entry =
    json_line (entry_data schema entry.seq (moment_text entry.moment) entry.act)
entry_by formats.Csv schema entry =
    csv_line (entry_fields schema entry.seq (moment_text entry.moment) entry.act)

-- the parts of a rule: its entry's number, 0 if there is no rule; the word for its kind; its item;
-- and its days
abbrev pub rule_number : Option Rule → ℕ
rule_number None = 0
rule_number (Some (revoked entry)) = entry
rule_number (Some (allowed entry item days)) = entry

abbrev pub ruling_word : Option Rule → Txt
ruling_word None = codes "unnamed"
ruling_word (Some (revoked entry)) = codes "revoked"
ruling_word (Some (allowed entry item days)) = codes "allowed"

abbrev pub rule_item : Option Rule → Option Name
rule_item (Some (allowed entry item days)) = item
rule_item rule = None

abbrev pub rule_days : Option Rule → Option ℕ
rule_days (Some (allowed entry item days)) = days
rule_days rule = None

-- how an item reads a patient's silence: OPT IN or OPT OUT
abbrev pub opt_word : Bool → Txt
opt_word true = codes "in"
opt_word false = codes "out"

-- a number, and then a text, or null if there is none
abbrev pub number_data : Option ℕ → Data
number_data days = option_map_or (λ days. number (unsigned days)) days null

abbrev pub text_data : Option Txt → Data
text_data text = option_map_or string text null

-- the rule of a column for a purpose and a recipient, the moment of its entry, and how silence on
-- its item is read
abbrev pub rule_data : Name → Name → Name → Txt → Option Rule → Option Txt → Option Bool → Data
rule_data purpose recipient table column rule moment opt_in =
    object (member (codes "column") (string column)
    (member (codes "days") (number_data (rule_days rule))
    (member (codes "item") (text_data (rule_item rule))
    (member (codes "moment") (text_data moment)
    (member (codes "opt") (text_data (option_map opt_word opt_in))
    (member (codes "purpose") (string purpose)
    (member (codes "recipient") (string recipient)
    (member (codes "rule") (number (unsigned (rule_number rule)))
    (member (codes "ruling") (string (ruling_word rule))
    (member (codes "table") (string table) no_members))))))))))

-- ten fields, each empty if there is nothing to show
abbrev pub rule_fields : Name → Name → Name → Txt → Option Rule → Option Txt → Option Bool
    → List Txt
rule_fields purpose recipient table column rule moment opt_in =
    decimal (rule_number rule) ∷ unwrap_or moment [] ∷ ruling_word rule ∷ purpose ∷ recipient
    ∷ table ∷ column ∷ unwrap_or (rule_item rule) [] ∷ unwrap_or (option_map opt_word opt_in) []
    ∷ option_map_or decimal (rule_days rule) [] ∷ []

-- a rule: the number of its entry, and its statement for these columns; 0 if there is no rule
abbrev pub ruling_text : List Column → Name → Name → Name → List Place → Option Rule → Txt
ruling_text columns purpose recipient table places None =
    codes "0 nothing allows " ++ rule_text columns purpose recipient table places
ruling_text columns purpose recipient table places (Some (revoked entry)) =
    decimal entry ++ (codes " REVOKE " ++ rule_text columns purpose recipient table places)
ruling_text columns purpose recipient table places (Some (allowed entry item days)) =
    decimal entry ++ (codes " " ++ allow_text columns purpose recipient table places item days)

-- how the item of a rule reads a patient's silence, if the rule has an item
abbrev pub silence_text : Option Bool → Txt
silence_text None = []
silence_text (Some true) = codes " (OPT IN)"
silence_text (Some false) = codes " (OPT OUT)"

-- the rule of a column as a line, with the moment of its entry
abbrev pub rule_line : Format → Name → Name → Schema → Place → Option Rule → Option Moment
    → Option Bool → Txt
rule_line formats.Text purpose recipient schema place rule moment opt_in =
    ruling_text schema.columns purpose recipient schema.name (place ∷ []) rule
    ++ (silence_text opt_in ++ codes "\n")
rule_line formats.Json purpose recipient schema place rule moment opt_in =
    json_line (rule_data purpose recipient schema.name (name_at schema.columns place) rule
    (option_map moment_text moment) opt_in)
rule_line formats.Csv purpose recipient schema place rule moment opt_in =
    csv_line (rule_fields purpose recipient schema.name (name_at schema.columns place) rule
    (option_map moment_text moment) opt_in)

-- an authorization: the number and the moment of its entry, and who may ask for which purpose and
-- recipient; as an object, as five fields, and as a line
abbrev pub grant_data : ℕ → Txt → Name → Name → Name → Data
grant_data entry moment user purpose recipient =
    object (member (codes "entry") (number (unsigned entry))
    (member (codes "moment") (string moment)
    (member (codes "purpose") (string purpose)
    (member (codes "recipient") (string recipient)
    (member (codes "user") (string user) no_members)))))

abbrev pub grant_fields : ℕ → Txt → Name → Name → Name → List Txt
grant_fields entry moment user purpose recipient =
    decimal entry ∷ moment ∷ user ∷ purpose ∷ recipient ∷ []

abbrev pub grant_words : ℕ → Txt → Name → Name → Name → Txt
grant_words entry moment user purpose recipient =
    decimal entry ++ (codes " " ++ (moment ++ (codes " " ++ (user
    ++ (codes " " ++ (purpose ++ (codes " " ++ (recipient ++ codes "\n"))))))))

abbrev pub grant_line : Format → ℕ → Moment → Name → Name → Name → Txt
grant_line formats.Text entry moment user purpose recipient =
    grant_words entry (moment_text moment) user purpose recipient
grant_line formats.Json entry moment user purpose recipient =
    json_line (grant_data entry (moment_text moment) user purpose recipient)
grant_line formats.Csv entry moment user purpose recipient =
    csv_line (grant_fields entry (moment_text moment) user purpose recipient)
