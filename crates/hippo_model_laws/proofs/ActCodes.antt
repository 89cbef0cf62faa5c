-- The bytes of an act can be read in only one way, and so can those of an entry's body.
use Rattle.std.proofs.Common.{◌≡◌, ℕ, ◌<◌, ◌^◌, ℤ, pos, negsuc, Bool, true, false, ◌&&◌, List, [], ◌∷◌, ◌++◌, length, map, Option, Some, None, refl, sym, ap, ◌∙◌, append_assoc, arith}
use Rattle.std.specs.Prelude.{nat_lt, nat_le, int_le}
use Rattle.std.specs.Int.{w32, w64, to_be_bytes, cast_unsigned, cast_signed, from_bool}
use Rattle.std.specs.Int.RustNames.{FitsSigned}
use Rattle.std.specs.List.{list_all}
use Rattle.std.specs.Str.{is_utf8}
use Rattle.std.proofs.lemmas.Bool.{and_parts, and_from, ltb-true, leb-true}
use Rattle.std.proofs.lemmas.Int.{to_z-of_z, ints}
use Rattle.hippo_values.specs.declared.names.Name.{Name}
use Rattle.hippo_values.specs.Texts.{Txt}
use Rattle.hippo_values.specs.declared.values.Value.{Value}
use Rattle.hippo_values.specs.declared.values.Value.TheVariants.{Null, Int, Text, Day}
use Rattle.hippo_model.specs.declared.schema.Column.{Column}
use Rattle.hippo_model.specs.declared.schema.ColumnKind.{ColumnKind}
use Rattle.hippo_model.specs.declared.schema.ColumnKind.TheVariants.{Integer, Text as TextColumn, Date}
use Rattle.hippo_model.specs.declared.schema.Schema.{Schema}
use Rattle.hippo_model.specs.declared.entry.Act.{Act}
use Rattle.hippo_model.specs.declared.entry.Act.TheVariants.{Create, Insert, Update, Delete, Purpose, Recipient, Item, Authorize, Deauthorize, Allow, Revoke, Choice, Asked}
use Rattle.hippo_model.specs.declared.entry.Entry.{Entry}
use Rattle.hippo_model.specs.declared.entry.ItemKind.{ItemKind}
use Rattle.hippo_model.specs.declared.entry.ItemKind.TheVariants.{OptIn, OptOut}
use Rattle.hippo_model.specs.declared.stored.StoredEntry.{StoredEntry}
use Rattle.hippo_model.specs.Terms.{History, Row, Place}
use Rattle.hippo_model.specs.StoredForms.{number_bytes, signed_bytes, day_bytes, name_bytes, text_bytes, list_bytes, place_bytes, value_bytes, column_kind, column_bytes, subject_byte, schema_bytes, item_kind, item_bytes, days_bytes, act_format, act_kind, act_bytes, body, stored}
use Rattle.hippo_values.specs.Moments.{is_signed_number, is_moment, is_day}
use Rattle.hippo_model.specs.Keepable.{is_folded_name, is_text, has_count, is_short, is_place, value_is_keepable, cells_are_keepable, places_are_keepable, columns_are_keepable, key_is_keepable, subject_is_keepable, schema_is_keepable, item_is_keepable, days_are_keepable, question_is_keepable, rule_is_keepable, act_is_keepable, is_keepable}
use Rattle.hippo_model_laws.proofs.Codes.{IsReadOnce, any, both_fit, one_then_other, split_alike, last, pair, eight_bytes, four_bytes, a_list}

-- ---- numbers with a sign

unsigned64 : (x : ℤ) → FitsSigned w64 x → cast_unsigned w64 x < 2 ^ 64
unsigned64 x f = omega (arith, ints)

unsigned32 : (x : ℤ) → FitsSigned w32 x → cast_unsigned w32 x < 2 ^ 32
unsigned32 x f = omega (arith, ints)

signed_again : (x y : ℤ) (r s : List ℕ) → FitsSigned w64 x → FitsSigned w64 y → signed_bytes x ++ r ≡ signed_bytes y ++ s → (x ≡ y) × (r ≡ s)
signed_again x y r s f g e =
    let both = eight_bytes (cast_unsigned w64 x) (cast_unsigned w64 y) r s (unsigned64 x f) (unsigned64 y g) e in
    (sym (to_z-of_z w64 x f) ∙ ap (cast_signed w64) both.0 ∙ to_z-of_z w64 y g, both.1)

day_again : (x y : ℤ) (r s : List ℕ) → FitsSigned w32 x → FitsSigned w32 y → day_bytes x ++ r ≡ day_bytes y ++ s → (x ≡ y) × (r ≡ s)
day_again x y r s f g e =
    let both = four_bytes (cast_unsigned w32 x) (cast_unsigned w32 y) r s (unsigned32 x f) (unsigned32 y g) e in
    (sym (to_z-of_z w32 x f) ∙ ap (cast_signed w32) both.0 ∙ to_z-of_z w32 y g, both.1)

number_fits : (x : ℤ) → is_signed_number x ≡ true → FitsSigned w64 x
number_fits x f = let h = and_parts (int_le (negsuc 9223372036854775807) x) (int_le x (pos 9223372036854775807)) f in grind (arith, ints)

moment_fits : (x : ℤ) → is_moment x ≡ true → FitsSigned w64 x
moment_fits x f = let h = and_parts (int_le (negsuc 62135596799) x) (int_le x (pos 253402300799)) f in grind (arith, ints)

day_fits : (x : ℤ) → is_day x ≡ true → FitsSigned w32 x
day_fits x f = let h = and_parts (int_le (negsuc 719161) x) (int_le x (pos 2932896)) f in grind (arith, ints)

pub a_number : IsReadOnce (λ number. nat_lt number 18446744073709551616) number_bytes
a_number = record { once = λ x y r s f g e. eight_bytes x y r s (ltb-true _ _ f) (ltb-true _ _ g) e }

pub a_signed_number : IsReadOnce is_signed_number signed_bytes
a_signed_number = record { once = λ x y r s f g e. signed_again x y r s (number_fits x f) (number_fits y g) e }

pub a_moment : IsReadOnce is_moment signed_bytes
a_moment = record { once = λ x y r s f g e. signed_again x y r s (moment_fits x f) (moment_fits y g) e }

pub a_day : IsReadOnce is_day day_bytes
a_day = record { once = λ x y r s f g e. day_again x y r s (day_fits x f) (day_fits y g) e }

-- ---- names and texts

pub a_name : IsReadOnce is_folded_name name_bytes
a_name = record {
  once = λ x y r s f g e.
      let same_length : length x ≡ length y = cc in
      let same_bytes : x ++ r ≡ y ++ s = cc in
      split_alike x y r s same_length same_bytes;
}

text_again : (x y r s : List ℕ) → length x < 2 ^ 32 → length y < 2 ^ 32 → text_bytes x ++ r ≡ text_bytes y ++ s → (x ≡ y) × (r ≡ s)
text_again x y r s f g e =
    let front = four_bytes (length x) (length y) (x ++ r) (y ++ s) f g (sym (append_assoc (to_be_bytes w32 (length x)) x r) ∙ e ∙ append_assoc (to_be_bytes w32 (length y)) y s) in
    split_alike x y r s front.0 front.1

is_within : (limit : ℕ) (text : Txt) → limit < 2 ^ 32 → is_text limit text ≡ true → length text < 2 ^ 32
is_within limit text below f =
    let within = leb-true (length text) limit (and_parts (nat_le (length text) limit) (is_utf8 text) f).0 in
    omega arith

pub a_text : (limit : ℕ) → limit < 2 ^ 32 → IsReadOnce (is_text limit) text_bytes
a_text limit below = record { once = λ x y r s f g e. text_again x y r s (is_within limit x below f) (is_within limit y below g) e }

question_within : (text : Txt) → question_is_keepable text ≡ true → length text < 2 ^ 32
question_within text f = is_within 65536 text (omega arith) (and_parts (nat_le 1 (length text)) (is_text 65536 text) f).1

pub a_question : IsReadOnce question_is_keepable text_bytes
a_question = record { once = λ x y r s f g e. text_again x y r s (question_within x f) (question_within y g) e }

-- what is made of parts, and what follows it
made : {A B : Type 0} {x y : A} {r s : List ℕ} (make : A → B) → (x ≡ y) × (r ≡ s) → (make x ≡ make y) × (r ≡ s)
made make both = (ap make both.0, both.1)

-- ---- values, columns, and parts of one byte

value_again : (x y : Value) (r s : List ℕ) → value_is_keepable x ≡ true → value_is_keepable y ≡ true → value_bytes x ++ r ≡ value_bytes y ++ s → (x ≡ y) × (r ≡ s)
value_again Null Null r s f g e = (refl, cc)
value_again (Int x) (Int y) r s f g e =
    let remaining : signed_bytes x ++ r ≡ signed_bytes y ++ s = cc in made Int (a_signed_number.once x y r s f g remaining)
value_again (Text x) (Text y) r s f g e =
    let remaining : text_bytes x ++ r ≡ text_bytes y ++ s = cc in made Text ((a_text 4096 (omega arith)).once x y r s f g remaining)
value_again (Day x) (Day y) r s f g e =
    let remaining : day_bytes x ++ r ≡ day_bytes y ++ s = cc in made Day (a_day.once x y r s f g remaining)
value_again x y r s f g e = absurd cc

pub a_value : IsReadOnce value_is_keepable value_bytes
a_value = record { once = value_again }

pub a_row : IsReadOnce cells_are_keepable (list_bytes value_bytes)
a_row = a_list has_count a_value

pub a_place : IsReadOnce is_place place_bytes
a_place = record { once = λ x y r s f g e. (cc, cc) }

pub some_places : IsReadOnce places_are_keepable (list_bytes place_bytes)
some_places = a_list has_count a_place

pub a_key : IsReadOnce key_is_keepable (list_bytes place_bytes)
a_key = a_list is_short a_place

same_kind : (x y : ColumnKind) → column_kind x ≡ column_kind y → x ≡ y
same_kind Integer Integer e = refl
same_kind TextColumn TextColumn e = refl
same_kind Date Date e = refl
same_kind x y e = absurd cc

same_bool : (x y : Bool) → from_bool x ≡ from_bool y → x ≡ y
same_bool true true e = refl
same_bool false false e = refl
same_bool x y e = absurd cc

same_column : {x y : Column} → x.name ≡ y.name → x.kind ≡ y.kind → x.not_null ≡ y.not_null → x ≡ y
same_column name kind null = λ i. record { name = name i; kind = kind i; not_null = null i }

column_again : (x y : Column) (r s : List ℕ) → is_folded_name x.name ≡ true → is_folded_name y.name ≡ true → column_bytes x ++ r ≡ column_bytes y ++ s → (x ≡ y) × (r ≡ s)
column_again x y r s f g e =
    let left = append_assoc (name_bytes x.name) (column_kind x.kind ∷ from_bool x.not_null ∷ []) r in
    let right = append_assoc (name_bytes y.name) (column_kind y.kind ∷ from_bool y.not_null ∷ []) s in
    let front = a_name.once x.name y.name (column_kind x.kind ∷ from_bool x.not_null ∷ r) (column_kind y.kind ∷ from_bool y.not_null ∷ s) f g (sym left ∙ e ∙ right) in
    let kinds : column_kind x.kind ≡ column_kind y.kind = cc in
    let nulls : from_bool x.not_null ≡ from_bool y.not_null = cc in
    (same_column front.0 (same_kind x.kind y.kind kinds) (same_bool x.not_null y.not_null nulls), cc)

pub a_column : IsReadOnce (λ column. is_folded_name column.name) column_bytes
a_column = record { once = column_again }

pub some_columns : IsReadOnce columns_are_keepable (list_bytes column_bytes)
some_columns = a_list is_short a_column

subject_again : (x y : Option ℕ) → subject_byte x ≡ subject_byte y → x ≡ y
subject_again None None e = refl
subject_again (Some x) (Some y) e = ap Some (omega (arith, e))
subject_again None (Some y) e = absurd (omega (arith, e))
subject_again (Some x) None e = absurd (omega (arith, e))

pub a_subject : IsReadOnce subject_is_keepable (λ subject. subject_byte subject ∷ [])
a_subject = record { once = λ x y r s f g e. let bytes : subject_byte x ≡ subject_byte y = cc in (subject_again x y bytes, cc) }

-- ---- acts

schema_again : (x y : Schema) (r s : List ℕ) → schema_is_keepable x ≡ true → schema_is_keepable y ≡ true → schema_bytes x ++ r ≡ schema_bytes y ++ s → (x ≡ y) × (r ≡ s)
schema_again x y r s f g e =
    let both = (pair (pair (pair a_name some_columns) a_key) a_subject).once (((x.name, x.columns), x.key), x.subject) (((y.name, y.columns), y.key), y.subject) r s f g e in
    (λ i. record { name = (both.0 i).0.0.0; columns = (both.0 i).0.0.1; key = (both.0 i).0.1; subject = (both.0 i).1 }, both.1)

pub a_schema : IsReadOnce schema_is_keepable schema_bytes
a_schema = record { once = schema_again }

item_again : (x y : Option Name) (r s : List ℕ) → item_is_keepable x ≡ true → item_is_keepable y ≡ true → item_bytes x ++ r ≡ item_bytes y ++ s → (x ≡ y) × (r ≡ s)
item_again None None r s f g e = (refl, cc)
item_again (Some x) (Some y) r s f g e =
    let remaining : name_bytes x ++ r ≡ name_bytes y ++ s = cc in made Some (a_name.once x y r s f g remaining)
item_again x y r s f g e = absurd cc

pub an_item : IsReadOnce item_is_keepable item_bytes
an_item = record { once = item_again }

-- the format says whether days come at the end
abbrev days_format : Option ℕ → ℕ
days_format None = 1
days_format (Some days) = 2

days_again : (x y : Option ℕ) (r s : List ℕ) → days_are_keepable x ≡ true → days_are_keepable y ≡ true → days_format x ≡ days_format y → days_bytes x ++ r ≡ days_bytes y ++ s → (x ≡ y) × (r ≡ s)
days_again None None r s f g formats e = (refl, e)
days_again (Some x) (Some y) r s f g formats e = made Some (four_bytes x y r s (ltb-true _ _ f) (ltb-true _ _ g) e)
days_again x y r s f g formats e = absurd cc

format_of_rule : (p r t : Name) (c : List Place) (i : Option Name) (d : Option ℕ) → act_format (Allow p r t c i d) ≡ days_format d
format_of_rule p r t c i None = refl
format_of_rule p r t c i (Some days) = refl

same_item_kind : (x y : ItemKind) → item_kind x ≡ item_kind y → x ≡ y
same_item_kind OptIn OptIn e = refl
same_item_kind OptOut OptOut e = refl
same_item_kind x y e = absurd cc

-- a part of one byte
pub a_kind : IsReadOnce any (λ kind. item_kind kind ∷ [])
a_kind = record { once = λ x y r s f g e. let bytes : item_kind x ≡ item_kind y = cc in (same_item_kind x y bytes, cc) }

pub an_agreement : IsReadOnce any (λ agreed. from_bool agreed ∷ [])
an_agreement = record { once = λ x y r s f g e. let bytes : from_bool x ≡ from_bool y = cc in (same_bool x y bytes, cc) }

three_names : IsReadOnce (both_fit (both_fit is_folded_name is_folded_name) is_folded_name) (one_then_other (one_then_other name_bytes name_bytes) name_bytes)
three_names = pair (pair a_name a_name) a_name

act_again : (x y : Act) (r s : List ℕ) → act_is_keepable x ≡ true → act_is_keepable y ≡ true → act_format x ≡ act_format y → act_kind x ≡ act_kind y → act_bytes x ++ r ≡ act_bytes y ++ s → (x ≡ y) × (r ≡ s)
act_again (Create x) (Create y) r s f g o k e = made Create (a_schema.once x y r s f g e)
act_again (Insert t x) (Insert u y) r s f g o k e = made (λ (p : Name × Row). Insert p.0 p.1) ((pair a_name a_row).once (t, x) (u, y) r s f g e)
act_again (Update t x) (Update u y) r s f g o k e = made (λ (p : Name × Row). Update p.0 p.1) ((pair a_name a_row).once (t, x) (u, y) r s f g e)
act_again (Delete t x) (Delete u y) r s f g o k e = made (λ (p : Name × Row). Delete p.0 p.1) ((pair a_name a_row).once (t, x) (u, y) r s f g e)
act_again (Purpose x) (Purpose y) r s f g o k e = made Purpose (a_name.once x y r s f g e)
act_again (Recipient x) (Recipient y) r s f g o k e = made Recipient (a_name.once x y r s f g e)
act_again (Item x a) (Item y b) r s f g o k e = made (λ (p : Name × ItemKind). Item p.0 p.1) ((pair a_name a_kind).once (x, a) (y, b) r s (and_from _ true f refl) (and_from _ true g refl) e)
act_again (Authorize u p n) (Authorize v q m) r s f g o k e =
    made (λ (p : (Name × Name) × Name). Authorize p.0.0 p.0.1 p.1) (three_names.once ((u, p), n) ((v, q), m) r s f g e)
act_again (Deauthorize u p n) (Deauthorize v q m) r s f g o k e =
    made (λ (p : (Name × Name) × Name). Deauthorize p.0.0 p.0.1 p.1) (three_names.once ((u, p), n) ((v, q), m) r s f g e)
act_again (Allow p n t c i d) (Allow p2 n2 t2 c2 i2 d2) r s f g o k e =
    let fits = and_parts (rule_is_keepable p n t c && item_is_keepable i) (days_are_keepable d) f in
    let fits2 = and_parts (rule_is_keepable p2 n2 t2 c2 && item_is_keepable i2) (days_are_keepable d2) g in
    let first : List ℕ = name_bytes p ++ name_bytes n ++ name_bytes t ++ list_bytes place_bytes c ++ item_bytes i in
    let first2 : List ℕ = name_bytes p2 ++ name_bytes n2 ++ name_bytes t2 ++ list_bytes place_bytes c2 ++ item_bytes i2 in
    let regrouped = sym (append_assoc first (days_bytes d) r) ∙ e ∙ append_assoc first2 (days_bytes d2) s in
    let front = (pair (pair three_names some_places) an_item).once ((((p, n), t), c), i) ((((p2, n2), t2), c2), i2) (days_bytes d ++ r) (days_bytes d2 ++ s) fits.0 fits2.0 regrouped in
    let formats : days_format d ≡ days_format d2 = sym (format_of_rule p n t c i d) ∙ o ∙ format_of_rule p2 n2 t2 c2 i2 d2 in
    let days = days_again d d2 r s fits.1 fits2.1 formats front.1 in
    (λ j. Allow (front.0 j).0.0.0.0 (front.0 j).0.0.0.1 (front.0 j).0.0.1 (front.0 j).0.1 (front.0 j).1 (days.0 j), days.1)
act_again (Revoke p n t c) (Revoke p2 n2 t2 c2) r s f g o k e =
    made (λ (p : ((Name × Name) × Name) × List Place). Revoke p.0.0.0 p.0.0.1 p.0.1 p.1) ((pair three_names some_places).once (((p, n), t), c) (((p2, n2), t2), c2) r s f g e)
act_again (Choice n x a) (Choice m y b) r s f g o k e =
    made (λ (p : (ℤ × Name) × Bool). Choice p.0.0 p.0.1 p.1)
    ((pair (pair a_signed_number a_name) an_agreement).once ((n, x), a) ((m, y), b) r s (and_from _ true f refl) (and_from _ true g refl) e)
act_again (Asked u p n x) (Asked v q m y) r s f g o k e =
    made (λ (p : ((Name × Name) × Name) × Txt). Asked p.0.0.0 p.0.0.1 p.0.1 p.1) ((pair three_names a_question).once (((u, p), n), x) (((v, q), m), y) r s f g e)
act_again x y r s f g o k e = absurd (omega (arith, k))

-- ---- entries

body_again : (x y : Entry) (r s : List ℕ) → is_keepable x ≡ true → is_keepable y ≡ true → body x ++ r ≡ body y ++ s → (x ≡ y) × (r ≡ s)
body_again x y r s f g e =
    let fits = and_parts (nat_lt x.seq 18446744073709551616 && is_moment x.moment) (act_is_keepable x.act) f in
    let fits2 = and_parts (nat_lt y.seq 18446744073709551616 && is_moment y.moment) (act_is_keepable y.act) g in
    let head : List ℕ = number_bytes x.seq ++ signed_bytes x.moment in
    let head2 : List ℕ = number_bytes y.seq ++ signed_bytes y.moment in
    let formats : act_format x.act ≡ act_format y.act = cc in
    let remaining : head ++ (act_kind x.act ∷ act_bytes x.act) ++ r ≡ head2 ++ (act_kind y.act ∷ act_bytes y.act) ++ s = cc in
    let regrouped = sym (append_assoc head (act_kind x.act ∷ act_bytes x.act) r) ∙ remaining ∙ append_assoc head2 (act_kind y.act ∷ act_bytes y.act) s in
    let front = (pair a_number a_moment).once (x.seq, x.moment) (y.seq, y.moment) (act_kind x.act ∷ act_bytes x.act ++ r) (act_kind y.act ∷ act_bytes y.act ++ s) fits.0 fits2.0 regrouped in
    let kinds : act_kind x.act ≡ act_kind y.act = cc in
    let fields : act_bytes x.act ++ r ≡ act_bytes y.act ++ s = cc in
    let act = act_again x.act y.act r s fits.1 fits2.1 formats kinds fields in
    (λ i. record { seq = (front.0 i).0; moment = (front.0 i).1; act = act.0 i }, act.1)

-- a body determines the whole entry, and where the body ends
pub a_body : IsReadOnce is_keepable body
a_body = record { once = body_again }

-- a stored form belongs to one entry
pub stored_again : (x y : Entry) → is_keepable x ≡ true → is_keepable y ≡ true → stored x ≡ stored y → x ≡ y
stored_again x y f g e = last a_body x y f g (ap (λ (kept : StoredEntry). kept.body) e)

-- and the list of stored forms belongs to one history
pub all_stored_again : (xs ys : History) → list_all is_keepable xs ≡ true → list_all is_keepable ys ≡ true → map stored xs ≡ map stored ys → xs ≡ ys
all_stored_again [] [] f g e = refl
all_stored_again [] (y ∷ ys) f g e = absurd cc
all_stored_again (x ∷ xs) [] f g e = absurd cc
all_stored_again (x ∷ xs) (y ∷ ys) f g e =
    let fits = and_parts (is_keepable x) (list_all is_keepable xs) f in
    let fits2 = and_parts (is_keepable y) (list_all is_keepable ys) g in
    let same_form : stored x ≡ stored y = cc in
    let same_forms : map stored xs ≡ map stored ys = cc in
    let first = stored_again x y fits.0 fits2.0 same_form in
    let rest = all_stored_again xs ys fits.1 fits2.1 same_forms in
    λ i. first i ∷ rest i
