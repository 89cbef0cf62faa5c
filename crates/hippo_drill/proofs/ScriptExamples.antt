-- Scripts computed by evaluation. Each example's name says what it shows.
use Rattle.std.proofs.Common.{◌≡◌, [], ◌∷◌, ◌++◌, length, refl, codes}
use Rattle.std.specs.Fmt.{digits}
use Rattle.hippo_drill.specs.Script.{opening_lines, patient_line, visit_line, choice_line, question_line, audit_line, script}

-- the smallest script has one patient
one_patient_is_asked_for :
    script 2 0
    ≡ opening_lines
    ++ codes "0 INSERT INTO patient VALUES (1, 'p1', 't1', 7)"
    ∷ codes "0 INSERT INTO visit VALUES (1, 1, 'w1')"
    ∷ codes "1 login ann treatment nurse"
    ∷ codes "0 UPDATE patient SET phone = 'u1' WHERE pid = 1"
    ∷ codes "1 SELECT name, phone, ward FROM patient, visit WHERE patient.pid = visit.pid AND zip = 13"
    ∷ codes "0 DURING '2024-01-01T00:00:00Z' TO '2024-01-01T00:00:00Z' AUDIT phone FROM patient WHERE zip = 0"
    ∷ []
unfolding digits
one_patient_is_asked_for = refl

-- a size below 2 has no patient, and the last line still asks
nobody_is_asked_for : script 1 205 ≡ opening_lines ++ codes "1 login ann treatment nurse" ∷ audit_line 5 ∷ []
nobody_is_asked_for = refl

an_odd_size_is_halved_downward : script 3 0 ≡ script 2 0
an_odd_size_is_halved_downward = refl

zips_have_two_digits :
    patient_line 17 12 ≡ codes "0 INSERT INTO patient VALUES (12, 'p12', 't12', 1)"
unfolding digits
zips_have_two_digits = refl

wards_return_after_five : visit_line 12 ≡ codes "0 INSERT INTO visit VALUES (12, 12, 'w2')"
unfolding digits
wards_return_after_five = refl

questions_step_by_thirteen :
    question_line 7 12
    ≡ codes "1 SELECT name, phone, ward FROM patient, visit WHERE patient.pid = visit.pid AND zip = 63"
unfolding digits
questions_step_by_thirteen = refl

tenth_patients_choose : choice_line 20 ≡ codes "0 CHOICE 20 ON contact IS NO"
unfolding digits
tenth_patients_choose = refl

-- 10 lines, a patient, a visit and two lines for each of 100, 10 choices, the login and the audit
a_hundred_patients_take_so_many_lines : length (script 200 7) ≡ 422
a_hundred_patients_take_so_many_lines = refl
