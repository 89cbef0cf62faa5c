-- Flags in each of the three formats: text, JSON (RFC 8259) and CSV (RFC 4180).
use Rattle.std.specs.Prelude.{List, [], ◌∷◌, ◌++◌, map, codes, decimal}
use Rattle.std.specs.List.{concat}
use Rattle.csv.specs.Writing.{default_writer, row_text}
use Rattle.serde_json.specs.Data.{Data, null, number, unsigned, string, array, object, no_items, item, no_members, member}
use Rattle.serde_json.specs.Find.{of_integer}
use Rattle.serde_json.specs.View.{items_of}
use Rattle.serde_json.specs.Written.{compact_text}
use Rattle.hippo_values.specs.Texts.{Txt}
use Rattle.hippo_values_text.specs.Dates.{day_text, moment_text}
use Rattle.hippo_values.specs.declared.values.Value.{Value}
use Rattle.hippo_values.specs.declared.values.Value.TheVariants.{Null, Int, Text, Day}
use Rattle.hippo_model.specs.declared.audit.Flag.{Flag}
use Rattle.hippo_model.specs.declared.audit.SharedRow.{SharedRow}
use Rattle.hippo_report.specs.declared.format.Format.{Format}
use Rattle.hippo_report.specs.declared.format.Format.TheVariants as formats
use Rattle.hippo_report.specs.Cells.{separated_text, shared_text, tuple_text}

-- the number, moment, user, purpose and recipient of a flagged query, with spaces between them
abbrev pub question_text : Flag → Txt
question_text flag =
    concat (decimal flag.seq ∷ codes " " ∷ moment_text flag.moment ∷ codes " " ∷ flag.user
    ∷ codes " "
    ∷ flag.pair.purpose ∷ codes " " ∷ flag.pair.recipient ∷ [])

abbrev pub flag_text : Flag → Txt
flag_text flag = question_text flag ++ (tuple_text flag.shared ++ codes "\n")

-- a value of a key: a number or a text
abbrev pub value_data : Value → Data
value_data Null = null
value_data (Int integer) = number (of_integer integer)
value_data (Text text) = string text
value_data (Day day) = string (day_text day)

-- a row as the table's name and the list of the key's values
abbrev pub shared_data : SharedRow → Data
shared_data shared =
    array (item (string shared.table) (item (array (items_of (map value_data shared.key)))
    no_items))

-- a flag as an object with its members sorted by their keys
abbrev pub flag_data : Flag → Data
flag_data flag =
    object (member (codes "moment") (string (moment_text flag.moment))
    (member (codes "pair") (array (item (string flag.pair.purpose)
    (item (string flag.pair.recipient) no_items)))
    (member (codes "query") (number (unsigned flag.seq))
    (member (codes "shared") (array (items_of (map shared_data flag.shared)))
    (member (codes "user") (string flag.user) no_members)))))

-- a flag as six fields; the last one has the shared rows with a space between them
abbrev pub flag_fields : Flag → List Txt
flag_fields flag =
    decimal flag.seq ∷ moment_text flag.moment ∷ flag.user ∷ flag.pair.purpose ∷ flag.pair.recipient
    ∷ separated_text shared_text (codes " ") flag.shared ∷ []

abbrev pub formatted_flag : Format → Flag → Txt
formatted_flag formats.Text flag = flag_text flag
formatted_flag formats.Json flag = compact_text (flag_data flag) ++ codes "\n"
formatted_flag formats.Csv flag = row_text default_writer (flag_fields flag)

-- one flagged query
abbrev pub flag_line : Format → Flag → Txt
flag_line format flag = codes "0 flag " ++ formatted_flag format flag
