-- Values, some of which may be missing.
use Rattle.std.proofs.Common.{◌≡◌, ◌∙◌, ℕ, zero, suc, ◌+◌, ◌<◌, ◌≤◌, true, false, List, [], ◌∷◌, ◌++◌, map, length, take, drop, Option, Some, None, Result, Ok, Err, refl, sym, ap, arith, filter_map, slice_get, get_or, nat_lt, ok_or}
use Rattle.std.specs.Prelude.{is_none}
use Rattle.std.specs.List.{position_or_len, zip}
use Rattle.std.proofs.lemmas.Bool.Decides.{nat_tests}
use Rattle.std.proofs.lemmas.List.{length-append, length-map, length-take, map-append, take-append-drop, take_all, take_more, drop_more}
use Rattle.std.proofs.lemmas.Option.{slice_get_read, slice_get_within, get_or_from_slice_get}
use Rattle.hippo_values.specs.declared.values.Value.{Value}
use Rattle.hippo_model.specs.declared.schema.Column.{Column}
use Rattle.hippo_model.specs.Terms.{Row}
use Rattle.hippo_csv.specs.declared.faults.CsvFault.{CsvFault}
use Rattle.hippo_csv.specs.declared.faults.CsvFault.TheVariants as faults
use Rattle.hippo_csv.specs.Records.{field_value}
use Rattle.hippo_csv.specs.Loading.{GivesValues, all_values}

-- after values that are present comes the first missing one
missing-remaining : (row : Row) (rest : List (Option Value)) → position_or_len is_none (map Some row ++ None ∷ rest) ≡ length row
missing-remaining [] rest = refl
missing-remaining (value ∷ row) rest = rw (missing-remaining row rest) (omega arith)

missing-never : (row : Row) → position_or_len is_none (map Some row) ≡ length row
missing-never [] = refl
missing-never (value ∷ row) = rw (missing-never row) (omega arith)

kept : (row : Row) → filter_map (λ value. value) (map Some row) ≡ row
kept [] = refl
kept (value ∷ row) = ap (λ rest. value ∷ rest) (kept row)

-- if each value is present
pub all-there : (values : List (Option Value)) (row : Row) → values ≡ map Some row → all_values values ≡ Ok row
all-there values row are =
    let none : nat_lt (length row) (length (map Some row)) ≡ false = rw (length-map row Some) (grind (arith, nat_tests)) in
    rw (are, missing-never row, none, kept row) refl

-- if one is missing, and each before it is present
pub one-missing : (row : Row) (rest : List (Option Value)) → all_values (map Some row ++ None ∷ rest) ≡ Err (faults.Field (length row))
one-missing row rest =
    let within : nat_lt (length row) (length (map Some row ++ None ∷ rest)) ≡ true = rw (length-append (map Some row) (None ∷ rest), length-map row Some) (grind (arith, nat_tests)) in
    rw (missing-remaining row rest, within) refl

-- the value of the field at an index
value-there : (columns : List Column) (fields : List (List ℕ)) (place : ℕ) (column : Column) (field : List ℕ)
    → slice_get columns place ≡ Some column → slice_get fields place ≡ Some field
    → slice_get (map (λ (column, field). field_value column.kind field) (zip columns fields)) place ≡ Some (field_value column.kind field)
value-there [] fields place column field there also = absurd cc
value-there (first ∷ columns) [] place column field there also = absurd cc
value-there (first ∷ columns) (text ∷ fields) zero column field there also = cc
value-there (first ∷ columns) (text ∷ fields) (suc place) column field there also = value-there columns fields place column field there also

-- the same, after a loop over the fields has read it
pub value-read : (columns : List Column) (fields : List (List ℕ)) (place : ℕ) (column : Column) (field text : List ℕ)
    → slice_get columns place ≡ Some column → place < length fields → field ≡ get_or fields place field → text ≡ field
    → slice_get (map (λ (column, field). field_value column.kind field) (zip columns fields)) place ≡ Some (field_value column.kind text)
value-read columns fields place column field text there within item is =
    rw is (value-there columns fields place column field there (slice_get_read fields (length fields) place field refl within item))

values-few : (columns : List Column) (fields : List (List ℕ))
    → length (map (λ (column, field). field_value column.kind field) (zip columns fields)) ≤ length fields
values-few [] fields = omega arith
values-few (first ∷ columns) [] = omega arith
values-few (first ∷ columns) (text ∷ fields) = omega (arith, values-few columns fields)

-- the values before an index, and the one at it
front-more : {A : Type 0} (values : List A) (place : ℕ) (value : A) → slice_get values place ≡ Some value
    → take (place + 1) values ≡ take place values ++ value ∷ []
front-more values place value there =
    take_more values place value (slice_get_within values place value there)
    ∙ ap (λ last. take place values ++ last ∷ []) (get_or_from_slice_get values place value value there)

front-and-rest : {A : Type 0} (values : List A) (place : ℕ) (value : A) → slice_get values place ≡ Some value
    → values ≡ take place values ++ value ∷ drop (place + 1) values
front-and-rest values place value there =
    let within = slice_get_within values place value there in
    let read = get_or_from_slice_get values place value value there in
    let remaining = drop_more values place value within ∙ ap (λ next. next ∷ drop (place + 1) values) read in
    sym (take-append-drop place values) ∙ ap (λ rest. take place values ++ rest) remaining

pub one-more : (values : List (Option Value)) (row : Row) (place : ℕ) (value : Value) → map Some row ≡ take place values
    → slice_get values place ≡ Some (Some value) → map Some (row ++ value ∷ []) ≡ take (place + 1) values
one-more values row place value front there =
    map-append Some row (value ∷ []) ∙ ap (λ before. before ++ Some value ∷ []) front ∙ sym (front-more values place (Some value) there)

pub missing-at : (values : List (Option Value)) (row : Row) (place : ℕ) → map Some row ≡ take place values
    → slice_get values place ≡ Some None → all_values values ≡ Err (faults.Field place)
missing-at values row place front there =
    let within = slice_get_within values place None there in
    let size : length row ≡ place = omega (arith, length-map row Some, ap length front, length-take place values) in
    let whole = front-and-rest values place None there ∙ ap (λ before. before ++ None ∷ drop (place + 1) values) (sym front) in
    ap all_values whole ∙ one-missing row (drop (place + 1) values) ∙ ap (λ at. Err (faults.Field at)) size

pub none-missing : (columns : List Column) (fields : List (List ℕ)) (row : Row) (place : ℕ) → length fields ≤ place
    → map Some row ≡ take place (map (λ (column, field). field_value column.kind field) (zip columns fields))
    → all_values (map (λ (column, field). field_value column.kind field) (zip columns fields)) ≡ Ok row
none-missing columns fields row place past front =
    all-there _ row (sym (front ∙ take_all place _ (omega (arith, values-few columns fields))))

-- the fault of the value at an index is that of the values
pub fault-so : (value : Option Value) (place : ℕ) (fault : CsvFault) (right : Result Row CsvFault)
    → GivesValues (Err fault) (ok_or value (faults.Field place)) → (value ≡ None → right ≡ Err (faults.Field place)) → GivesValues (Err fault) right
fault-so None place faults.Count right is so = absurd cc
fault-so None place (faults.Field at) right is so =
    let same : at ≡ place = cc in
    so refl ∙ ap (λ there. Err (faults.Field there)) (sym same)
fault-so None place faults.Memory right is so = tt
fault-so (Some value) place faults.Count right is so = absurd cc
fault-so (Some value) place (faults.Field at) right is so = absurd cc
fault-so (Some value) place faults.Memory right is so = tt

-- what is found is present
pub value-so : (value : Option Value) (place : ℕ) (found : Value) → ok_or value (faults.Field place) ≡ Ok found → value ≡ Some found
value-so None place found is = absurd cc
value-so (Some value) place found is = cc
