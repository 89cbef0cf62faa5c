-- The text that is shown as a script consists of its lines.
use Rattle.std.proofs.Common.{◌≡◌, ◌∙◌, Bool, true, false, List, [], ◌∷◌, ◌++◌, filter, flat_map, Option, Some, refl, sym, ap, codes}
use Rattle.std.specs.Prelude.{if◌then◌else◌}
use Rattle.std.proofs.lemmas.List.{append-nil, append_assoc}
use Rattle.std.proofs.lemmas.List.Concat.{flat_map-append}
use Rattle.hippo_values_text.specs.Dates.{moment_text}
use Rattle.hippo_values.specs.Texts.{Txt}
use Rattle.hippo_values.specs.declared.moments.Moment.{Moment}
use Rattle.hippo_model.specs.declared.entry.Act.{Act}
use Rattle.hippo_model.specs.declared.entry.Act.TheVariants.{Asked}
use Rattle.hippo_model.specs.declared.entry.Entry.{Entry}
use Rattle.hippo_model.specs.declared.schema.Schema.{Schema}
use Rattle.hippo_model.specs.Terms.{History}
use Rattle.hippo_history_statements.specs.Telling.{schema_before, act_statement}
use Rattle.hippo_history_top.specs.declared.asking.Excerpt.{Excerpt}
use Rattle.hippo_history_top.specs.declared.asking.Form.{Form}
use Rattle.hippo_history_top.specs.declared.asking.Form.TheVariants.{Script}
use Rattle.hippo_history_top.specs.Showing.{stands_at, clock_line, act_lines, session_lines, told_as, is_told, entries_told}
use Rattle.hippo_history_laws.specs.ScriptLaws.{ScriptsAreLines, act_script, clock_lines, entry_lines, question_lines, script_lines}

abbrev pub fed : Txt → Txt
fed line = line ++ codes "\n"

-- a question's lines are a session, and any other act's line is one of the console
three_words : (one second third rest : Txt)
    → ((one ++ 32 ∷ (second ++ 32 ∷ third)) ++ 10 ∷ []) ++ rest
    ≡ one ++ 32 ∷ (second ++ 32 ∷ (third ++ 10 ∷ rest))
three_words one second third rest =
    append_assoc (one ++ 32 ∷ (second ++ 32 ∷ third)) (10 ∷ []) rest
    ∙ append_assoc one (32 ∷ (second ++ 32 ∷ third)) (10 ∷ rest)
    ∙ ap (λ (t : Txt). one ++ 32 ∷ t) (append_assoc second (32 ∷ third) (10 ∷ rest))

session-lines : (user purpose recipient text : Txt) → session_lines user purpose recipient text
    ≡ flat_map fed (question_lines user purpose recipient text)
session-lines user purpose recipient text =
    let asked : Txt = codes "1 " ++ ((text ++ 10 ∷ []) ++ codes "1 logout\n") in
    sym (ap (λ (t : Txt). codes "1 login " ++ t) (three_words user purpose recipient asked)
    ∙ ap (λ (t : Txt). codes "1 login " ++ (user ++ 32 ∷ (purpose ++ 32 ∷ (recipient
    ++ (codes "\n1 " ++ t))))) (append_assoc text (10 ∷ []) (codes "1 logout\n")))

act-lines : (schema : Option Schema) (act : Act) → act_lines schema act
    ≡ flat_map fed (act_script schema act)
act-lines schema (Asked user purpose recipient text) = session-lines user purpose recipient text
act-lines schema act = sym (append-nil (codes "0 " ++ (act_statement schema act ++ codes "\n")))

clock-line : (clock : Option Moment) (moment : Moment) → clock_line clock moment
    ≡ flat_map fed (clock_lines clock moment)
clock-line clock moment = by_test (stands_at clock moment)
  where
    by_test : (test : Bool)
        → (if test then [] else codes "at " ++ (moment_text moment ++ codes "\n"))
        ≡ flat_map fed (if test then [] else (codes "at " ++ moment_text moment) ∷ [])
    by_test true = refl
    by_test false = sym (append-nil (codes "at " ++ (moment_text moment ++ codes "\n")))

module _ (history : History) (excerpt : Excerpt) (is_script : excerpt.form ≡ Script) where
  abbrev Spells : Option Moment → History → Type 0
  Spells clock entries =
      entries_told history excerpt clock entries
      ≡ flat_map fed (script_lines history clock (filter (is_told history excerpt) entries))

  -- an entry that is shown, and the lines of the entries after it
  entry-lines : (clock : Option Moment) (entry : Entry) (later : History)
      → Spells (Some entry.moment) later
      → told_as history excerpt.form clock entry
      ++ entries_told history excerpt (Some entry.moment) later
      ≡ flat_map fed
      (script_lines history clock (entry ∷ filter (is_told history excerpt) later))
  entry-lines clock entry later remaining =
      let told : History = filter (is_told history excerpt) later in
      let rest : List Txt = script_lines history (Some entry.moment) told in
      let first : List Txt = clock_lines clock entry.moment in
      let written : List Txt = entry_lines history entry in
      let schema : Option Schema = schema_before history entry in
      let here : told_as history excerpt.form clock entry
      ≡ clock_line clock entry.moment ++ act_lines schema entry.act =
      ap (λ (form : Form). told_as history form clock entry) is_script in
      let spelled : told_as history excerpt.form clock entry
      ≡ flat_map fed first ++ flat_map fed written =
      here ∙ (λ i. clock-line clock entry.moment i ++ act-lines schema entry.act i) in
      (λ i. spelled i ++ remaining i)
      ∙ append_assoc (flat_map fed first) (flat_map fed written) (flat_map fed rest)
      ∙ ap (λ (text : Txt). flat_map fed first ++ text) (sym (flat_map-append fed written rest))
      ∙ sym (flat_map-append fed first (written ++ rest))

  entries-lines : (clock : Option Moment) (entries : History) → Spells clock entries
  entries-lines clock [] = refl
  entries-lines clock (entry ∷ later) =
      by_test (is_told history excerpt entry) (λ after. entries-lines after later)
    where
      told : History
      told = filter (is_told history excerpt) later

      by_test : (test : Bool) → ((after : Option Moment) → Spells after later)
          → (if test then told_as history excerpt.form clock entry else [])
          ++ entries_told history excerpt (if test then Some entry.moment else clock) later
          ≡ flat_map fed (script_lines history clock (if test then entry ∷ told else told))
      by_test true remaining = entry-lines clock entry later (remaining (Some entry.moment))
      by_test false remaining = remaining clock

pub scripts_are_lines : ScriptsAreLines
scripts_are_lines history excerpt clock entries is_script =
    entries-lines history excerpt is_script clock entries
