-- Reading an entry that was written returns it, part by part.
use Rattle.std.proofs.Common.{◌≡◌, ℕ, ℤ, pos, negsuc, Bool, true, false, ◌&&◌, List, [], ◌∷◌, ◌++◌, length, Option}
use Rattle.std.proofs.Common.{Some, None, refl, ap, ◌∙◌, append_assoc, arith}
use Rattle.std.specs.Prelude.{nat_lt, nat_le, int_le}
use Rattle.std.specs.Int.{w32, w64, from_bool}
use Rattle.std.specs.Int.RustNames.{FitsSigned}
use Rattle.std.specs.List.{list_all}
use Rattle.std.proofs.lemmas.Bool.{and_parts, ltb-true}
use Rattle.std.proofs.lemmas.Int.{ints}
use Rattle.hippo_values.specs.declared.names.Name.{Name}
use Rattle.hippo_values.specs.Texts.{Txt}
use Rattle.hippo_values.specs.Moments.{is_signed_number, is_moment, is_day}
use Rattle.hippo_values.specs.declared.values.Value.{Value}
use Rattle.hippo_values.specs.declared.values.Value.TheVariants.{Null, Int, Text, Day}
use Rattle.hippo_values.specs.Options.{◌>>=◌}
use Rattle.hippo_model.specs.declared.schema.Column.{Column}
use Rattle.hippo_model.specs.declared.schema.ColumnKind.{ColumnKind}
use Rattle.hippo_model.specs.declared.schema.ColumnKind.TheVariants.{Integer, Text as TextColumn, Date}
use Rattle.hippo_model.specs.declared.schema.Schema.{Schema}
use Rattle.hippo_model.specs.declared.entry.Act.{Act}
use Rattle.hippo_model.specs.declared.entry.Act.TheVariants.{Create, Insert, Update, Delete, Purpose, Recipient, Item}
use Rattle.hippo_model.specs.declared.entry.Act.TheVariants.{Authorize, Deauthorize, Allow, Revoke, Choice, Asked}
use Rattle.hippo_model.specs.declared.entry.Entry.{Entry}
use Rattle.hippo_model.specs.declared.entry.ItemKind.{ItemKind}
use Rattle.hippo_model.specs.declared.entry.ItemKind.TheVariants.{OptIn, OptOut}
use Rattle.hippo_model.specs.Terms.{Row, Place}
use Rattle.hippo_model.specs.StoredForms.{number_bytes, signed_bytes, name_bytes, text_bytes, list_bytes, place_bytes}
use Rattle.hippo_model.specs.StoredForms.{value_bytes, column_kind, column_bytes, subject_byte, schema_bytes, item_kind}
use Rattle.hippo_model.specs.StoredForms.{item_bytes, days_bytes, act_format, act_kind, act_bytes, body}
use Rattle.hippo_model.specs.Keepable.{is_folded_name, is_text, has_count, is_short, is_place, value_is_keepable}
use Rattle.hippo_model.specs.Keepable.{cells_are_keepable, places_are_keepable, columns_are_keepable, key_is_keepable}
use Rattle.hippo_model.specs.Keepable.{subject_is_keepable, schema_is_keepable, item_is_keepable, days_are_keepable}
use Rattle.hippo_model.specs.Keepable.{question_is_keepable, rule_is_keepable, act_is_keepable, is_keepable}
use Rattle.hippo_entry_codec.specs.Readings.{leading_byte, leading_list, leading_value, stored_column_kind, bool_of}
use Rattle.hippo_entry_codec.specs.Readings.{item_kind_of, subject_of_byte, leading_stored_column, leading_schema, leading_create}
use Rattle.hippo_entry_codec.specs.Readings.{change_of, leading_change, leading_new_name, leading_new_item, grant_of}
use Rattle.hippo_entry_codec.specs.Readings.{leading_stored_grant, leading_stored_item, leading_days, leading_stored_rule, leading_allow, leading_revoke}
use Rattle.hippo_entry_codec.specs.Readings.{leading_choice, leading_question, act_of_kind, leading_entry}
use Rattle.hippo_entry_codec.proofs.Fields.{ReadsAgain, short_again, long_again, signed_again, short_signed_again, text_again}
use Rattle.hippo_entry_codec.proofs.Fields.{name_again, list_again}

-- ---- numbers with a sign

number_fits : (x : ℤ) → is_signed_number x ≡ true → FitsSigned w64 x
number_fits x f =
    let h = and_parts (int_le (negsuc 9223372036854775807) x) (int_le x (pos 9223372036854775807)) f in
    grind (arith, ints)

moment_fits : (x : ℤ) → is_moment x ≡ true → FitsSigned w64 x
moment_fits x f =
    let h = and_parts (int_le (negsuc 62135596799) x) (int_le x (pos 253402300799)) f in
    grind (arith, ints)

day_fits : (x : ℤ) → is_day x ≡ true → FitsSigned w32 x
day_fits x f = let h = and_parts (int_le (negsuc 719161) x) (int_le x (pos 2932896)) f in grind (arith, ints)

-- ---- values, columns and schemas

value_again : (x : Value) (rest : List ℕ) → value_is_keepable x ≡ true
    → leading_value (value_bytes x ++ rest) ≡ Some (x, rest)
unfolding leading_value
value_again Null rest fits = refl
value_again (Int x) rest fits =
    ap (λ (found : Option (ℤ × List ℕ)). found >>= λ n. Some (Int n.0, n.1)) (signed_again x rest (number_fits x fits))
value_again (Text x) rest fits =
    ap (λ (found : Option (Txt × List ℕ)). found >>= λ n. Some (Text n.0, n.1))
    (text_again 4096 x rest (omega arith) fits)
value_again (Day x) rest fits = rw (short_signed_again x rest (day_fits x fits), fits) refl

a_value : ReadsAgain leading_value value_is_keepable value_bytes
a_value = record { again = value_again }

row_again : (row : Row) (rest : List ℕ) → cells_are_keepable row ≡ true
    → leading_list leading_value (list_bytes value_bytes row ++ rest) ≡ Some (row, rest)
row_again row rest fits =
    list_again a_value row rest (and_parts (has_count row) (list_all value_is_keepable row) fits).1

a_place : ReadsAgain leading_byte is_place place_bytes
a_place = record { again = λ x rest fits. refl }

places_again : (places : List Place) (rest : List ℕ) → places_are_keepable places ≡ true
    → leading_list leading_byte (list_bytes place_bytes places ++ rest) ≡ Some (places, rest)
places_again places rest fits =
    list_again a_place places rest (and_parts (has_count places) (list_all is_place places) fits).1

kind_again : (kind : ColumnKind) → stored_column_kind (column_kind kind) ≡ Some kind
kind_again Integer = refl
kind_again TextColumn = refl
kind_again Date = refl

bool_again : (b : Bool) → bool_of (from_bool b) ≡ Some b
bool_again true = refl
bool_again false = refl

item_kind_again : (kind : ItemKind) → item_kind_of (item_kind kind) ≡ Some kind
item_kind_again OptIn = refl
item_kind_again OptOut = refl

column_again : (x : Column) (rest : List ℕ) → is_folded_name x.name ≡ true
    → leading_stored_column (column_bytes x ++ rest) ≡ Some (x, rest)
unfolding leading_stored_column
column_again x rest fits =
    let remaining : List ℕ = column_kind x.kind ∷ from_bool x.not_null ∷ [] in
    ap leading_stored_column (append_assoc (name_bytes x.name) remaining rest)
    ∙ rw (name_again x.name (remaining ++ rest) fits, kind_again x.kind, bool_again x.not_null) refl

a_column : ReadsAgain leading_stored_column (λ column. is_folded_name column.name) column_bytes
a_column = record { again = column_again }

subject_again : (subject : Option Place) → subject_of_byte (subject_byte subject) ≡ subject
subject_again None = refl
subject_again (Some place) = grind arith

-- consecutive parts
three : (a b c rest : List ℕ) → (a ++ b ++ c) ++ rest ≡ a ++ (b ++ (c ++ rest))
three a b c rest = append_assoc (a ++ b) c rest ∙ append_assoc a b (c ++ rest)

four : (a b c d rest : List ℕ) → (a ++ b ++ c ++ d) ++ rest ≡ a ++ (b ++ (c ++ (d ++ rest)))
four a b c d rest = append_assoc (a ++ b ++ c) d rest ∙ three a b c (d ++ rest)

six : (a b c d e f rest : List ℕ) → (a ++ b ++ c ++ d ++ e ++ f) ++ rest ≡ a ++ (b ++ (c ++ (d ++ (e ++ (f ++ rest)))))
six a b c d e f rest =
    append_assoc (a ++ b ++ c ++ d ++ e) f rest
    ∙ append_assoc (a ++ b ++ c ++ d) e (f ++ rest)
    ∙ four a b c d (e ++ (f ++ rest))

schema_again : (x : Schema) (rest : List ℕ) → schema_is_keepable x ≡ true
    → leading_schema (schema_bytes x ++ rest) ≡ Some (x, rest)
unfolding leading_schema
schema_again x rest fits =
    let all = and_parts (is_folded_name x.name && columns_are_keepable x.columns && key_is_keepable x.key)
    (subject_is_keepable x.subject) fits in
    let front = and_parts (is_folded_name x.name && columns_are_keepable x.columns) (key_is_keepable x.key) all.0 in
    let first = and_parts (is_folded_name x.name) (columns_are_keepable x.columns) front.0 in
    let columns = (and_parts (is_short x.columns)
    (list_all (λ column. is_folded_name column.name) x.columns) first.1).1 in
    let key = (and_parts (is_short x.key) (list_all is_place x.key) front.1).1 in
    let subject : List ℕ = subject_byte x.subject ∷ [] in
    ap leading_schema (four (name_bytes x.name) (list_bytes column_bytes x.columns)
    (list_bytes place_bytes x.key) subject rest)
    ∙ rw (
      name_again x.name (list_bytes column_bytes x.columns ++ (list_bytes place_bytes x.key ++ (subject ++ rest)))
          first.0,
      list_again a_column x.columns (list_bytes place_bytes x.key ++ (subject ++ rest)) columns,
      list_again a_place x.key (subject ++ rest) key,
      subject_again x.subject,
    ) refl

-- ---- acts

create_again : (x : Schema) (rest : List ℕ) → schema_is_keepable x ≡ true
    → leading_create (schema_bytes x ++ rest) ≡ Some (Create x, rest)
unfolding leading_create
create_again x rest fits = rw (schema_again x rest fits) refl

change_again : (kind : ℕ) (table : Name) (row : Row) (rest : List ℕ)
    → (is_folded_name table && cells_are_keepable row) ≡ true
    → leading_change kind ((name_bytes table ++ list_bytes value_bytes row) ++ rest)
    ≡ Some (change_of kind table row, rest)
unfolding leading_change
change_again kind table row rest fits =
    let parts = and_parts (is_folded_name table) (cells_are_keepable row) fits in
    ap (leading_change kind) (append_assoc (name_bytes table) (list_bytes value_bytes row) rest)
    ∙ rw (name_again table (list_bytes value_bytes row ++ rest) parts.0, row_again row rest parts.1) refl

purpose_again : (x : Name) (rest : List ℕ) → is_folded_name x ≡ true
    → leading_new_name 5 (name_bytes x ++ rest) ≡ Some (Purpose x, rest)
unfolding leading_new_name
purpose_again x rest fits = rw (name_again x rest fits) refl

recipient_again : (x : Name) (rest : List ℕ) → is_folded_name x ≡ true
    → leading_new_name 6 (name_bytes x ++ rest) ≡ Some (Recipient x, rest)
unfolding leading_new_name
recipient_again x rest fits = rw (name_again x rest fits) refl

new_item_again : (x : Name) (kind : ItemKind) (rest : List ℕ) → is_folded_name x ≡ true
    → leading_new_item ((name_bytes x ++ item_kind kind ∷ []) ++ rest) ≡ Some (Item x kind, rest)
unfolding leading_new_item
new_item_again x kind rest fits =
    ap leading_new_item (append_assoc (name_bytes x) (item_kind kind ∷ []) rest)
    ∙ rw (name_again x (item_kind kind ∷ rest) fits, item_kind_again kind) refl

-- three names that fit, and what follows them
record ThreeFit (x y z : Name) (remaining : Bool) : Type 0 where
  first : is_folded_name x ≡ true
  second : is_folded_name y ≡ true
  third : is_folded_name z ≡ true
  rest : remaining ≡ true

three_fit : (x y z : Name) (remaining : Bool)
    → (is_folded_name x && is_folded_name y && is_folded_name z && remaining) ≡ true → ThreeFit x y z remaining
three_fit x y z remaining fits =
    let all = and_parts (is_folded_name x && is_folded_name y && is_folded_name z) remaining fits in
    let front = and_parts (is_folded_name x && is_folded_name y) (is_folded_name z) all.0 in
    let names = and_parts (is_folded_name x) (is_folded_name y) front.0 in
    record { first = names.0; second = names.1; third = front.1; rest = all.1 }

grant_again : (kind : ℕ) (u p r : Name) (rest : List ℕ)
    → (is_folded_name u && is_folded_name p && is_folded_name r) ≡ true
    → leading_stored_grant kind ((name_bytes u ++ name_bytes p ++ name_bytes r) ++ rest) ≡ Some (grant_of kind u p r, rest)
unfolding leading_stored_grant
grant_again kind u p r rest fits =
    let all = and_parts (is_folded_name u && is_folded_name p) (is_folded_name r) fits in
    let front = and_parts (is_folded_name u) (is_folded_name p) all.0 in
    ap (leading_stored_grant kind) (three (name_bytes u) (name_bytes p) (name_bytes r) rest)
    ∙ rw (
      name_again u (name_bytes p ++ (name_bytes r ++ rest)) front.0,
      name_again p (name_bytes r ++ rest) front.1,
      name_again r rest all.1,
    ) refl

item_again : (x : Option Name) (rest : List ℕ) → item_is_keepable x ≡ true
    → leading_stored_item (item_bytes x ++ rest) ≡ Some (x, rest)
unfolding leading_stored_item
item_again None rest fits = refl
item_again (Some x) rest fits = rw (name_again x rest fits) refl

days_again : (days : ℕ) (rest : List ℕ) → days_are_keepable (Some days) ≡ true
    → leading_days 2 (days_bytes (Some days) ++ rest) ≡ Some (Some days, rest)
unfolding leading_days
days_again days rest fits = rw (short_again days rest (ltb-true _ _ fits)) refl

no_days_again : (rest : List ℕ) → leading_days 1 rest ≡ Some (None, rest)
unfolding leading_days
no_days_again rest = refl

rule_again : (p r t : Name) (c : List Place) (rest : List ℕ) → rule_is_keepable p r t c ≡ true
    → leading_stored_rule (name_bytes p ++ (name_bytes r ++ (name_bytes t ++ (list_bytes place_bytes c ++ rest)))) ≡ Some ((p, r, t, c), rest)
unfolding leading_stored_rule
rule_again p r t c rest fits =
    let names = three_fit p r t (places_are_keepable c) fits in
    let after_table : List ℕ = list_bytes place_bytes c ++ rest in
    rw (
      name_again p (name_bytes r ++ (name_bytes t ++ after_table)) names.first,
      name_again r (name_bytes t ++ after_table) names.second,
      name_again t after_table names.third,
      places_again c rest names.rest,
    ) refl

allow_again : (format : ℕ) (p r t : Name) (c : List Place) (i : Option Name) (d : Option ℕ) (rest : List ℕ)
    → (rule_is_keepable p r t c && item_is_keepable i) ≡ true
    → leading_days format (days_bytes d ++ rest) ≡ Some (d, rest)
    → leading_allow format ((name_bytes p ++ name_bytes r ++ name_bytes t ++ list_bytes place_bytes c ++ item_bytes i
    ++ days_bytes d) ++ rest)
    ≡ Some (Allow p r t c i d, rest)
unfolding leading_allow
allow_again format p r t c i d rest fits days =
    let both = and_parts (rule_is_keepable p r t c) (item_is_keepable i) fits in
    ap (leading_allow format)
    (six (name_bytes p) (name_bytes r) (name_bytes t) (list_bytes place_bytes c) (item_bytes i) (days_bytes d) rest)
    ∙ rw (
      rule_again p r t c (item_bytes i ++ (days_bytes d ++ rest)) both.0,
      item_again i (days_bytes d ++ rest) both.1,
      days,
    ) refl

revoke_again : (p r t : Name) (c : List Place) (rest : List ℕ) → rule_is_keepable p r t c ≡ true
    → leading_revoke ((name_bytes p ++ name_bytes r ++ name_bytes t ++ list_bytes place_bytes c) ++ rest)
    ≡ Some (Revoke p r t c, rest)
unfolding leading_revoke
revoke_again p r t c rest fits =
    ap leading_revoke (four (name_bytes p) (name_bytes r) (name_bytes t) (list_bytes place_bytes c) rest)
    ∙ rw (rule_again p r t c rest fits) refl

choice_again : (subject : ℤ) (item : Name) (agreed : Bool) (rest : List ℕ)
    → (is_signed_number subject && is_folded_name item) ≡ true
    → leading_choice ((signed_bytes subject ++ name_bytes item ++ from_bool agreed ∷ []) ++ rest)
    ≡ Some (Choice subject item agreed, rest)
unfolding leading_choice
choice_again subject item agreed rest fits =
    let parts = and_parts (is_signed_number subject) (is_folded_name item) fits in
    ap leading_choice (three (signed_bytes subject) (name_bytes item) (from_bool agreed ∷ []) rest)
    ∙ rw (
      signed_again subject (name_bytes item ++ (from_bool agreed ∷ rest)) (number_fits subject parts.0),
      name_again item (from_bool agreed ∷ rest) parts.1,
      bool_again agreed,
    ) refl

question_again : (u p r : Name) (text : Txt) (rest : List ℕ)
    → (is_folded_name u && is_folded_name p && is_folded_name r && question_is_keepable text) ≡ true
    → leading_question ((name_bytes u ++ name_bytes p ++ name_bytes r ++ text_bytes text) ++ rest)
    ≡ Some (Asked u p r text, rest)
unfolding leading_question
question_again u p r text rest fits =
    let names = three_fit u p r (question_is_keepable text) fits in
    let within = (and_parts (nat_le 1 (length text)) (is_text 65536 text) names.rest).1 in
    ap leading_question (four (name_bytes u) (name_bytes p) (name_bytes r) (text_bytes text) rest)
    ∙ rw (
      name_again u (name_bytes p ++ (name_bytes r ++ (text_bytes text ++ rest))) names.first,
      name_again p (name_bytes r ++ (text_bytes text ++ rest)) names.second,
      name_again r (text_bytes text ++ rest) names.third,
      text_again 65536 text rest (omega arith) within,
    ) refl

act_again : (x : Act) (rest : List ℕ) → act_is_keepable x ≡ true
    → act_of_kind (act_format x) (act_kind x) (act_bytes x ++ rest) ≡ Some (x, rest)
act_again (Create schema) rest fits = create_again schema rest fits
act_again (Insert table row) rest fits = change_again 2 table row rest fits
act_again (Update table row) rest fits = change_again 3 table row rest fits
act_again (Delete table key) rest fits = change_again 4 table key rest fits
act_again (Purpose name) rest fits = purpose_again name rest fits
act_again (Recipient name) rest fits = recipient_again name rest fits
act_again (Item name kind) rest fits = new_item_again name kind rest fits
act_again (Authorize u p r) rest fits = grant_again 8 u p r rest fits
act_again (Deauthorize u p r) rest fits = grant_again 9 u p r rest fits
act_again (Allow p r t c i None) rest fits =
    allow_again 1 p r t c i None rest (and_parts (rule_is_keepable p r t c && item_is_keepable i) true fits).0
    (no_days_again rest)
act_again (Allow p r t c i (Some d)) rest fits =
    let parts = and_parts (rule_is_keepable p r t c && item_is_keepable i) (days_are_keepable (Some d)) fits in
    allow_again 2 p r t c i (Some d) rest parts.0 (days_again d rest parts.1)
act_again (Revoke p r t c) rest fits = revoke_again p r t c rest fits
act_again (Choice subject item agreed) rest fits = choice_again subject item agreed rest fits
act_again (Asked u p r text) rest fits = question_again u p r text rest fits

-- ---- entries

pub entry_again : (x : Entry) (rest : List ℕ) → is_keepable x ≡ true → leading_entry (body x ++ rest) ≡ Some (x, rest)
unfolding leading_entry
entry_again x rest fits =
    let all = and_parts (nat_lt x.seq 18446744073709551616 && is_moment x.moment) (act_is_keepable x.act) fits in
    let head = and_parts (nat_lt x.seq 18446744073709551616) (is_moment x.moment) all.0 in
    let act : List ℕ = act_kind x.act ∷ act_bytes x.act in
    ap (λ (bytes : List ℕ). leading_entry (act_format x.act ∷ bytes))
    (three (number_bytes x.seq) (signed_bytes x.moment) act rest)
    ∙ rw (
      long_again x.seq (signed_bytes x.moment ++ (act ++ rest)) (ltb-true _ _ head.0),
      signed_again x.moment (act ++ rest) (moment_fits x.moment head.1),
      head.1,
      act_again x.act rest all.1,
    ) refl
