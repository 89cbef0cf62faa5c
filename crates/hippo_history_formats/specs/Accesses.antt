-- What a question saw of a patient's row, as a line of text, JSON (RFC 8259) or CSV (RFC 4180).
use Rattle.std.specs.Prelude.{List, [], ◌∷◌, ◌++◌, map, codes, decimal}
use Rattle.serde_json.specs.Data.{Data, number, unsigned, string, array, object, no_members, member}
use Rattle.serde_json.specs.View.{items_of}
use Rattle.hippo_values_text.specs.Dates.{moment_text}
use Rattle.hippo_values_text.specs.Printing.{value_text}
use Rattle.hippo_values.specs.Texts.{Txt}
use Rattle.hippo_report.specs.declared.format.Format.{Format}
use Rattle.hippo_report.specs.declared.format.Format.TheVariants as formats
use Rattle.hippo_report.specs.Cells.{separated_text, comma, keyed_text}
use Rattle.hippo_report_flags.specs.Flags.{value_data}
use Rattle.hippo_history_formats.specs.declared.access.Access.{Access}
use Rattle.hippo_history_formats.specs.declared.access.DeniedCell.{DeniedCell}
use Rattle.hippo_history_formats.specs.declared.access.SeenCell.{SeenCell}
use Rattle.hippo_history_formats.specs.Formats.{json_line, csv_line}

-- a column with the value that was seen, or with the number of the rule that denied it
abbrev pub seen_text : SeenCell → Txt
seen_text seen = seen.column ++ (codes " " ++ value_text seen.value)

abbrev pub denied_text : DeniedCell → Txt
denied_text denied = denied.column ++ (codes " " ++ decimal denied.rule)

-- a list with commas between its members; it has a title, unless it is empty
abbrev pub listed_text : {A : Type 0} → (A → Txt) → List A → Txt
listed_text text members = separated_text text comma members

abbrev pub titled_text : {A : Type 0} → (A → Txt) → Txt → List A → Txt
titled_text text title [] = []
titled_text text title (first ∷ rest) = title ++ listed_text text (first ∷ rest)

-- the number of the question's entry, its moment, and who asked
abbrev pub asker_text : Access → Txt → Txt
asker_text access moment =
    decimal access.entry ++ (codes " " ++ (moment ++ (codes " " ++ (access.user
    ++ (codes " " ++ (access.purpose ++ (codes " " ++ access.recipient)))))))

-- what the question saw, and what was denied to it
abbrev pub cells_text : Access → Txt
cells_text access =
    titled_text seen_text (codes " shown ") access.shown
    ++ (titled_text seen_text (codes " tested ") access.tested
    ++ titled_text denied_text (codes " denied ") access.denied)

abbrev pub access_text : Access → Txt → Txt
access_text access moment =
    asker_text access moment ++ (codes " " ++ (keyed_text access.table access.key
    ++ (cells_text access ++ codes "\n")))

-- such a column as an object
abbrev pub seen_data : SeenCell → Data
seen_data seen =
    object (member (codes "column") (string seen.column)
    (member (codes "value") (value_data seen.value) no_members))

abbrev pub denied_data : DeniedCell → Data
denied_data denied =
    object (member (codes "column") (string denied.column)
    (member (codes "rule") (number (unsigned denied.rule)) no_members))

abbrev pub list_data : {A : Type 0} → (A → Data) → List A → Data
list_data form members = array (items_of (map form members))

-- an object with its members sorted by their keys
abbrev pub access_data : Access → Txt → Data
access_data access moment =
    object (member (codes "denied") (list_data denied_data access.denied)
    (member (codes "entry") (number (unsigned access.entry))
    (member (codes "key") (list_data value_data access.key)
    (member (codes "moment") (string moment)
    (member (codes "purpose") (string access.purpose)
    (member (codes "recipient") (string access.recipient)
    (member (codes "shown") (list_data seen_data access.shown)
    (member (codes "table") (string access.table)
    (member (codes "tested") (list_data seen_data access.tested)
    (member (codes "user") (string access.user) no_members))))))))))

-- ten fields; a list that is empty is an empty field
abbrev pub access_fields : Access → Txt → List Txt
access_fields access moment =
    decimal access.entry ∷ moment ∷ access.user ∷ access.purpose ∷ access.recipient ∷ access.table ∷ listed_text value_text access.key
    ∷ listed_text seen_text access.shown ∷ listed_text seen_text access.tested
    ∷ listed_text denied_text access.denied ∷ []

abbrev pub access_line : Format → Access → Txt
access_line formats.Text access = access_text access (moment_text access.moment)
access_line formats.Json access = json_line (access_data access (moment_text access.moment))
access_line formats.Csv access = csv_line (access_fields access (moment_text access.moment))

-- what stands before all lines: in CSV the names of the fields
abbrev pub access_header : Format → Txt
access_header formats.Text = []
access_header formats.Json = []
access_header formats.Csv =
    codes "entry,moment,user,purpose,recipient,table,key,shown,tested,denied\n"
