-- Which entries can be stored: those whose parts fit the stored form. Numbers, days and names are
-- within the ranges of their types, and lists within the counts of the stored form.
use Rattle.std.specs.Prelude.{ℕ, Bool, true, ◌&&◌, List, Option, length, nat_lt, nat_le, bytes_eq}
use Rattle.std.specs.List.{list_all}
use Rattle.std.specs.Option.{option_map_or}
use Rattle.std.specs.Str.{is_utf8}
use Rattle.hippo_values.specs.Limits.{text_limit, line_limit, column_limit}
use Rattle.hippo_values.specs.Moments.{is_day, is_moment, is_signed_number}
use Rattle.hippo_values.specs.Names.{is_name, lower_case}
use Rattle.hippo_values.specs.declared.names.Name.{Name}
use Rattle.hippo_values.specs.Texts.{Txt}
use Rattle.hippo_values.specs.declared.values.Value.{Value}
use Rattle.hippo_values.specs.declared.values.Value.TheVariants.{Null, Int, Text, Day}
use Rattle.hippo_model.specs.declared.schema.Column.{Column}
use Rattle.hippo_model.specs.declared.schema.Schema.{Schema}
use Rattle.hippo_model.specs.declared.entry.Act.{Act}
use Rattle.hippo_model.specs.declared.entry.Act.TheVariants.{Create, Insert, Update, Delete, Purpose, Recipient, Item, Authorize, Deauthorize, Allow, Revoke, Choice, Asked}
use Rattle.hippo_model.specs.declared.entry.Entry.{Entry}
use Rattle.hippo_model.specs.Terms.{Row, Place}

-- a valid name in lower case
abbrev pub is_folded_name : Name → Bool
is_folded_name name = is_name name && bytes_eq (lower_case name) name

-- UTF-8 of at most `limit` bytes
abbrev pub is_text : ℕ → Txt → Bool
is_text limit text = nat_le (length text) limit && is_utf8 text

-- a list whose length fits in one byte
abbrev pub has_count : {A : Type 0} → List A → Bool
has_count members = nat_lt (length members) 256

-- a list with at least one member, and no more members than a table may have columns
abbrev pub is_short : {A : Type 0} → List A → Bool
is_short members = nat_le 1 (length members) && nat_le (length members) column_limit

abbrev pub is_place : Place → Bool
is_place place = nat_lt place 256

abbrev pub value_is_keepable : Value → Bool
value_is_keepable Null = true
value_is_keepable (Int number) = is_signed_number number
value_is_keepable (Text text) = is_text text_limit text
value_is_keepable (Day day) = is_day day

abbrev pub cells_are_keepable : Row → Bool
cells_are_keepable cells = has_count cells && list_all value_is_keepable cells

abbrev pub places_are_keepable : List Place → Bool
places_are_keepable places = has_count places && list_all is_place places

abbrev pub columns_are_keepable : List Column → Bool
columns_are_keepable columns =
    is_short columns && list_all (λ column. is_folded_name column.name) columns

abbrev pub key_is_keepable : List Place → Bool
key_is_keepable key = is_short key && list_all is_place key

abbrev pub subject_is_keepable : Option Place → Bool
subject_is_keepable subject = option_map_or (λ place. nat_lt place 255) subject true

abbrev pub schema_is_keepable : Schema → Bool
schema_is_keepable schema =
    is_folded_name schema.name && columns_are_keepable schema.columns && key_is_keepable schema.key
    && subject_is_keepable schema.subject

abbrev pub item_is_keepable : Option Name → Bool
item_is_keepable item = option_map_or is_folded_name item true

-- a number of days fits in 32 bits
abbrev pub days_are_keepable : Option ℕ → Bool
days_are_keepable days = option_map_or (λ number. nat_lt number 4294967296) days true

-- the text of a query: 1 to 65,536 bytes
abbrev pub question_is_keepable : Txt → Bool
question_is_keepable text = nat_le 1 (length text) && is_text line_limit text

abbrev pub rule_is_keepable : Name → Name → Name → List Place → Bool
rule_is_keepable purpose recipient table columns =
    is_folded_name purpose && is_folded_name recipient && is_folded_name table
    && places_are_keepable columns

abbrev pub act_is_keepable : Act → Bool
act_is_keepable (Create schema) = schema_is_keepable schema
act_is_keepable (Insert table row) = is_folded_name table && cells_are_keepable row
act_is_keepable (Update table row) = is_folded_name table && cells_are_keepable row
act_is_keepable (Delete table key) = is_folded_name table && cells_are_keepable key
act_is_keepable (Purpose name) = is_folded_name name
act_is_keepable (Recipient name) = is_folded_name name
act_is_keepable (Item name kind) = is_folded_name name
act_is_keepable (Authorize user purpose recipient) =
    is_folded_name user && is_folded_name purpose && is_folded_name recipient
act_is_keepable (Deauthorize user purpose recipient) =
    is_folded_name user && is_folded_name purpose && is_folded_name recipient
act_is_keepable (Allow purpose recipient table columns item days) =
    rule_is_keepable purpose recipient table columns && item_is_keepable item
    && days_are_keepable days
act_is_keepable (Revoke purpose recipient table columns) =
    rule_is_keepable purpose recipient table columns
act_is_keepable (Choice subject item agreed) = is_signed_number subject && is_folded_name item
act_is_keepable (Asked user purpose recipient text) =
    is_folded_name user && is_folded_name purpose && is_folded_name recipient
    && question_is_keepable text

-- whether an entry has a stored form
abbrev pub is_keepable : Entry → Bool
is_keepable entry =
    nat_lt entry.seq 18446744073709551616 && is_moment entry.moment && act_is_keepable entry.act
