-- The lines of a small clinic, and the replies to runs of commands.
use Rattle.std.proofs.Common.{ℕ, pos, true, false, List, [], ◌∷◌, ◌++◌, map, Some, None, codes}
use Rattle.hippo_values.specs.Texts.{Txt}
use Rattle.hippo_values.specs.Moments.{first_moment}
use Rattle.hippo_values.specs.declared.names.Name.{Name}
use Rattle.hippo_values.specs.declared.values.Value.{Value}
use Rattle.hippo_values.specs.declared.values.Value.TheVariants.{Null, Int, Text}
use Rattle.hippo_model.specs.declared.query.CondOf.TheVariants.{All}
use Rattle.hippo_model.specs.declared.schema.Column.{Column}
use Rattle.hippo_model.specs.declared.schema.ColumnKind.{ColumnKind}
use Rattle.hippo_model.specs.declared.schema.ColumnKind.TheVariants.{Integer, Text as TextColumn}
use Rattle.hippo_stmt_ast.specs.declared.statement.RawForm.TheVariants.{Plain}
use Rattle.hippo_stmt_ast.specs.declared.statement.RawItem.TheVariants.{One}
use Rattle.hippo_stmt_ast.specs.declared.statement.RawSelect.{RawSelect}
use Rattle.hippo_stmt_ast.specs.declared.statement.Stmt.{Stmt}
use Rattle.hippo_stmt_ast.specs.declared.statement.Stmt.TheVariants.{CreateTable, CreatePurpose, CreateRecipient, Authorize, Allow, Insert, Select}
use Rattle.hippo_model.specs.Terms.{History}
use Rattle.hippo_report.specs.declared.speaker.Speaker.TheVariants.{Console, Session}
use Rattle.hippo_report.specs.declared.format.Format.TheVariants as formats
use Rattle.hippo_model.specs.declared.audit.Pair.{Pair}
use Rattle.hippo_model.specs.declared.entry.Act.{Act}
use Rattle.hippo_model.specs.declared.entry.Act.TheVariants as acts
use Rattle.hippo_model.specs.declared.entry.Entry.{Entry}
use Rattle.hippo_model.specs.declared.schema.Schema.{Schema}
use Rattle.hippo_engine_sessions.specs.Worlds.{World, opening, with_session, new_session}
use Rattle.hippo_stmt_lines.specs.Forms.{logs_in}
use Rattle.hippo_stmt_lines.specs.Commands.{Command, set_clock, make_request, make_statement}
use Rattle.hippo_model.specs.declared.cells.Cell.{Cell}
use Rattle.hippo_model.specs.declared.cells.Cell.TheVariants.{Shown}
use Rattle.hippo_model.specs.Terms.{ShownRow}
use Rattle.hippo_report.specs.declared.refusal.Refusal.{Refusal}
use Rattle.hippo_report.specs.Cells.{answer_line}
use Rattle.hippo_report.specs.Notices.{number_line}
use Rattle.hippo_report.specs.Refusals.{refusal_line}
use Rattle.hippo_engine_rules.specs.Effects.{Effect, effect_of, lines_and_count, question_rows}
use Rattle.hippo_engine_checks.specs.Deeds.{Question}
use Rattle.hippo_model.specs.declared.query.Form.TheVariants.{Plain as PlainForm}

-- the replies to commands
abbrev with_reply : History → (History → World → List Txt) → Effect → List Txt
with_reply history later effect = effect.reply ∷ later (history ++ effect.added) effect.world

abbrev replies : List Command → History → World → List Txt
replies [] history world = []
replies (command ∷ commands) history world =
    with_reply history (replies commands) (effect_of history world command)

-- the replies to a run whose history may have this many entries
abbrev pub run_within : ℕ → List Command → List Txt
run_within limit commands = replies commands [] (opening first_moment limit formats.Text)

abbrev pub run : List Command → List Txt
run commands = run_within 4000000 commands

-- the reply to a change that became an entry
abbrev pub ok : ℕ → Txt
ok number = number_line 0 (codes "ok") number

-- the rows of an answer to session 1
abbrev pub rows : List ShownRow → Txt
rows answer = lines_and_count 1 (answer_line 1) answer

abbrev pub text : Txt → Cell
text bytes = Shown (Text bytes)

abbrev pub no : Refusal → Txt
no refusal = refusal_line (Session 1) refusal

abbrev pub console_no : Refusal → Txt
console_no refusal = refusal_line Console refusal

-- a statement of the console, and below, one of a session with its whole text
abbrev pub console : Stmt → Command
console statement = make_statement Console statement []

abbrev column : Name → ColumnKind → Column
column name kind = record { name = name; kind = kind; not_null = false }

abbrev pub patient : Name
patient = codes "patient"

abbrev pub treatment : Name
treatment = codes "treatment"

abbrev pub nurse : Name
nurse = codes "nurse"

abbrev pub create_patient : Stmt
create_patient =
    CreateTable patient
    (column (codes "pid") Integer ∷ column (codes "name") TextColumn ∷ column (codes "phone") TextColumn ∷ column (codes "zip") Integer ∷ [])
    (codes "pid" ∷ []) (Some (codes "pid"))

abbrev pub ada : List Value
ada = Int (pos 1) ∷ Text (codes "Ada") ∷ Text (codes "555-1") ∷ Int (pos 95120) ∷ []

abbrev pub bob : List Value
bob = Int (pos 2) ∷ Text (codes "Bob") ∷ Text (codes "555-2") ∷ Null ∷ []

-- ALLOW treatment TO nurse ON patient
abbrev pub allow : List Name → Stmt
allow columns = Allow treatment nurse patient columns None None

abbrev pub ann_logs_in : Command
ann_logs_in = make_request (Session 1) (logs_in (codes "ann") treatment nurse)

-- a nurse may see the number and the name of two patients
abbrev pub morning : List Command
morning =
    set_clock (pos 1704182400) ∷ console create_patient ∷ console (CreatePurpose treatment) ∷ console (CreateRecipient nurse)
    ∷ console (Authorize (codes "ann") treatment nurse) ∷ console (allow (codes "pid" ∷ codes "name" ∷ []))
    ∷ console (Insert patient ada) ∷ console (Insert patient bob) ∷ ann_logs_in ∷ []

-- the patients' table, as it is created
abbrev required : Column → Column
required column = record column { not_null = true }

abbrev patients : Schema
patients = record {
  name = patient;
  columns = required (column (codes "pid") Integer) ∷ column (codes "name") TextColumn ∷ column (codes "phone") TextColumn
      ∷ column (codes "zip") Integer ∷ [];
  key = 0 ∷ [];
  subject = Some 0;
}

abbrev pub entry : ℕ → Act → Entry
entry number act = record { seq = number; moment = pos 1704182400; act = act }

-- the result of a morning: seven entries, and an open session
abbrev pub clinic : History
clinic =
    entry 1 (acts.Create patients) ∷ entry 2 (acts.Purpose treatment) ∷ entry 3 (acts.Recipient nurse)
    ∷ entry 4 (acts.Authorize (codes "ann") treatment nurse)
    ∷ entry 5 (acts.Allow treatment nurse patient (0 ∷ 1 ∷ []) None None) ∷ entry 6 (acts.Insert patient ada)
    ∷ entry 7 (acts.Insert patient bob) ∷ []

abbrev pub nurses_pair : Pair
nurses_pair = record { purpose = treatment; recipient = nurse }

abbrev pub world_within : ℕ → World
world_within limit =
    with_session (opening (pos 1704182400) limit formats.Text) 1 (Some (new_session (codes "ann") nurses_pair))

-- the reply to a command, and below, the world after it
abbrev pub reply_in : World → History → Command → Txt
reply_in world history command = (effect_of history world command).reply

abbrev pub world_left : World → History → Command → World
world_left world history command = (effect_of history world command).world

-- the reply to a command after a morning and some more entries
abbrev pub reply_after : History → Command → Txt
reply_after more command = reply_in (world_within 4000000) (clinic ++ more) command

-- the history and the world after commands
abbrev left_by : History → (History → World → History × World) → Effect → History × World
left_by history later effect = later (history ++ effect.added) effect.world

abbrev pub left : List Command → History → World → History × World
left [] history world = (history, world)
left (command ∷ commands) history world = left_by history (left commands) (effect_of history world command)

-- a question of session 1; its text does not matter here
abbrev pub question : RawSelect → Command
question selected = make_statement (Session 1) (Select selected 0 6) (codes "SELECT")

-- SELECT names FROM patient
abbrev pub all_rows : List Name → RawSelect
all_rows names = record {
  items = map (λ name. One (record { table = None; column = name })) names;
  tables = patient ∷ [];
  cond = All [];
  form = Plain;
}

-- the question for some columns of all patients, and below, its rows after a morning and some more
-- entries
abbrev pub asked_for : List ℕ → Question
asked_for places = record {
  session = 1;
  user = codes "ann";
  pair = nurses_pair;
  text = codes "SELECT";
  query = record {
    items = map (λ place. record { table = 0; column = place }) places;
    tables = patient ∷ [];
    cond = All [];
    form = PlainForm;
  };
}

abbrev pub rows_after : History → List ℕ → List ShownRow
rows_after more places = question_rows (clinic ++ more) (world_within 4000000) (asked_for places)
