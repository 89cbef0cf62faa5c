-- The lines of the drill. They set up a clinic and fill it; then, for each patient, they change the
-- phone and a nurse asks a question; at the end there is an audit.
use Rattle.std.specs.Prelude.{ℕ, ◌+◌, ◌*◌, ◌/◌, ◌%◌, List, [], ◌∷◌, ◌++◌, map, codes, decimal}
use Rattle.std.specs.List.{flat_map, range_with_len}
use Rattle.hippo_values.specs.Texts.{Txt}

-- the numbers from 1 up to and including this one
abbrev pub up_to : ℕ → List ℕ
up_to count = range_with_len 1 count

-- the last two digits, used as a zip
abbrev pub zip_of : ℕ → ℕ
zip_of number = number % 100

-- sets the clock, and creates tables, names and rules
abbrev pub opening_lines : List Txt
opening_lines =
    codes "at 2024-01-01T00:00:00Z"
    ∷ codes "0 CREATE TABLE patient (pid INTEGER, name TEXT, phone TEXT, zip INTEGER, PRIMARY KEY (pid), SUBJECT pid)"
    ∷ codes "0 CREATE TABLE visit (vno INTEGER, pid INTEGER, ward TEXT, PRIMARY KEY (vno), SUBJECT pid)"
    ∷ codes "0 CREATE PURPOSE treatment"
    ∷ codes "0 CREATE RECIPIENT nurse"
    ∷ codes "0 CREATE ITEM contact OPT OUT"
    ∷ codes "0 AUTHORIZE ann FOR treatment, nurse"
    ∷ codes "0 ALLOW treatment TO nurse ON patient (pid, name, zip)"
    ∷ codes "0 ALLOW treatment TO nurse ON patient (phone) WITH contact"
    ∷ codes "0 ALLOW treatment TO nurse ON visit (vno, pid, ward)"
    ∷ []

-- a patient with a name, a phone and a zip
abbrev pub patient_line : ℕ → ℕ → Txt
patient_line number i =
    codes "0 INSERT INTO patient VALUES ("
    ++ (decimal i ++ (codes ", 'p" ++ (decimal i ++ (codes "', 't" ++
    (decimal i ++ (codes "', " ++ (decimal (zip_of (7 * i + number)) ++ codes ")")))))))

-- this patient's visit, in one of five wards
abbrev pub visit_line : ℕ → Txt
visit_line i =
    codes "0 INSERT INTO visit VALUES ("
    ++ (decimal i ++ (codes ", " ++ (decimal i ++ (codes ", 'w" ++
    (decimal (i % 5) ++ codes "')")))))

-- a patient opts out
abbrev pub choice_line : ℕ → Txt
choice_line i = codes "0 CHOICE " ++ (decimal i ++ codes " ON contact IS NO")

abbrev pub login_line : Txt
login_line = codes "1 login ann treatment nurse"

-- a patient's phone changes
abbrev pub phone_line : ℕ → Txt
phone_line j =
    codes "0 UPDATE patient SET phone = 'u" ++ (decimal j ++ (codes "' WHERE pid = " ++ decimal j))

-- the nurse asks for the patients of a zip
abbrev pub question_line : ℕ → ℕ → Txt
question_line number j =
    codes "1 SELECT name, phone, ward FROM patient, visit WHERE patient.pid = visit.pid AND zip = "
    ++
    decimal (zip_of (13 * j + number))

-- the audit asks who saw the phones of a zip
abbrev pub audit_line : ℕ → Txt
audit_line number =
    codes "0 DURING '2024-01-01T00:00:00Z' TO '2024-01-01T00:00:00Z' AUDIT phone FROM patient WHERE zip = " ++
    decimal (zip_of number)

-- the lines for this many patients
abbrev pub lines_for : ℕ → ℕ → List Txt
lines_for patients number =
    opening_lines ++
    (map (patient_line number) (up_to patients) ++
    (map visit_line (up_to patients) ++
    (map (λ k. choice_line (10 * k)) (up_to (patients / 10)) ++
    (login_line ∷
    (flat_map (λ j. phone_line j ∷ question_line number j ∷ []) (up_to patients) ++
    audit_line number ∷ [])))))

-- the script of a size, which has half as many patients
abbrev pub script : ℕ → ℕ → List Txt
script size number = lines_for (size / 2) number
