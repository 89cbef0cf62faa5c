-- The texts of the lines in the code, and the lines that follow each part of the script.
use Rattle.std.specs.Prelude.{ℕ, ◌*◌, ◌/◌, List, [], ◌∷◌, ◌++◌, map}
use Rattle.std.specs.List.{flat_map}
use Rattle.hippo_values.specs.Texts.{Txt}
use Rattle.hippo_drill.specs.Script.{up_to, patient_line, visit_line, choice_line, login_line, phone_line, question_line, audit_line}
use Rattle.hippo_drill.specs.declared.script_line.ScriptLine.{ScriptLine}
use Rattle.hippo_drill.specs.declared.script_line.ScriptLine.TheVariants.{Same, Patient, Visit, Choice, Phone, Question, Audit}

-- the line's text in the script with this number
abbrev pub script_text : ℕ → ScriptLine → Txt
script_text number (Same text) = text.now
script_text number (Patient i) = patient_line number i
script_text number (Visit i) = visit_line i
script_text number (Choice i) = choice_line i
script_text number (Phone j) = phone_line j
script_text number (Question j) = question_line number j
script_text number Audit = audit_line number

-- the lines after the login, for this many patients
abbrev pub after_login : ℕ → ℕ → List Txt
after_login patients number =
    flat_map (λ j. phone_line j ∷ question_line number j ∷ []) (up_to patients) ++ audit_line number
    ∷ []

-- the lines after the visits
abbrev pub after_visits : ℕ → ℕ → List Txt
after_visits patients number =
    map (λ k. choice_line (10 * k)) (up_to (patients / 10)) ++ login_line
    ∷ after_login patients number

-- the lines after the opening
abbrev pub after_opening : ℕ → ℕ → List Txt
after_opening patients number =
    map (patient_line number) (up_to patients) ++
    (map visit_line (up_to patients) ++ after_visits patients number)
