-- Worked examples of scripts. Each example's name says what it shows.
use Rattle.std.proofs.Common.{◌≡◌, true, false, [], ◌∷◌, ◌++◌, map, None, refl, codes}
use Rattle.hippo_model.specs.declared.entry.Act.TheVariants.{Asked, Purpose}
use Rattle.hippo_history_laws.specs.ScriptLaws.{act_script, is_bare}

a_question_is_three_lines :
    act_script None
    (Asked (codes "ann") (codes "treatment") (codes "nurse") (codes "SELECT name FROM patient"))
    ≡ codes "1 login ann treatment nurse" ∷ codes "1 SELECT name FROM patient" ∷ codes "1 logout"
    ∷ []
a_question_is_three_lines = refl

a_statement_is_one_line :
    act_script None (Purpose (codes "billing")) ≡ codes "0 CREATE PURPOSE billing" ∷ []
a_statement_is_one_line = refl

nothing_is_around_a_bare_text :
    map is_bare
    (codes "SELECT name FROM patient" ∷ codes " SELECT name FROM patient"
    ∷ codes "SELECT name FROM patient " ∷ (codes "SELECT name FROM patient" ++ 9 ∷ [])
    ∷ (codes "SELECT name FROM patient" ++ 13 ∷ []) ∷ codes "SELECT name\nFROM patient" ∷ [])
    ≡ true ∷ false ∷ false ∷ false ∷ false ∷ false ∷ []
nothing_is_around_a_bare_text = refl
