-- A small history, and helpers for the worked examples.
use Rattle.hippo_model.specs.declared.query.Form.TheVariants.{Plain}
use Rattle.std.proofs.Common.{ℕ, ℤ, pos, true, false, List, [], ◌∷◌, Some, None, codes}
use Rattle.hippo_values.specs.declared.values.Value.{Value}
use Rattle.hippo_values.specs.declared.values.Value.TheVariants.{Null, Int, Text}
use Rattle.hippo_model.specs.declared.born_row.BornRow.{BornRow}
use Rattle.hippo_model.specs.declared.schema.Column.{Column}
use Rattle.hippo_model.specs.declared.schema.ColumnKind.TheVariants.{Integer, Text as TextColumn}
use Rattle.hippo_model.specs.declared.schema.Schema.{Schema}
use Rattle.hippo_model.specs.declared.entry.Entry.{Entry}
use Rattle.hippo_model.specs.declared.entry.Act.{Act}
use Rattle.hippo_model.specs.declared.entry.Act.TheVariants.{Create, Purpose, Recipient, Authorize, Allow, Insert, Asked}
use Rattle.hippo_model.specs.declared.audit.Audit.{Audit}
use Rattle.hippo_model.specs.declared.query.Operand.{Operand}
use Rattle.hippo_model.specs.declared.query.CondOf.{CondOf}
use Rattle.hippo_model.specs.declared.query.CondOf.TheVariants.{All, Compare}
use Rattle.hippo_model.specs.declared.query.Operand.TheVariants.{Column as ColumnOperand, Literal}
use Rattle.hippo_values.specs.declared.truths.CompareOp.TheVariants.{Eq}
use Rattle.hippo_model.specs.declared.query.Ref.{Ref}
use Rattle.hippo_model.specs.declared.query.Query.{Query}
use Rattle.hippo_model.specs.Terms.{History, Row, ShownRow, Place}
use Rattle.hippo_model.specs.Verdicts.{Context}
use Rattle.hippo_model.specs.Answers.{answer}
use Rattle.std.specs.Prelude.{⊤}
use Rattle.std.specs.Str.{is_utf8, chars}
use lib.Utf8.{encode}
use Rattle.hippo_values.specs.Names.{keywords, unsupported_words}

-- unfolded to compute which names and texts can be stored
unfoldable pub words_and_texts : ⊤
unfolding keywords unsupported_words is_utf8 chars encode
words_and_texts = tt

abbrev pub treatment : List ℕ
treatment = codes "treatment"

abbrev pub nurse : List ℕ
nurse = codes "nurse"

abbrev pub ann : List ℕ
ann = codes "ann"

abbrev pub billing : List ℕ
billing = codes "billing"

abbrev pub clerk : List ℕ
clerk = codes "clerk"

abbrev pub number_column : List ℕ → Column
number_column name = record { name = name; kind = Integer; not_null = false }

abbrev pub text_column : List ℕ → Column
text_column name = record { name = name; kind = TextColumn; not_null = false }

abbrev pub required : Column → Column
required column = record { name = column.name; kind = column.kind; not_null = true }

-- a table whose key is its first column
abbrev pub keyed : List ℕ → List Column → Place → Schema
keyed name columns subject = record { name = name; columns = columns; key = 0 ∷ []; subject = Some subject }

abbrev pub patient : List ℕ
patient = codes "patient"

abbrev pub patients : Schema
patients =
    keyed patient (required (number_column (codes "pid")) ∷ text_column (codes "name") ∷ text_column (codes "phone") ∷ number_column (codes "zip") ∷ []) 0

-- 2024-01-02T08:00:00Z
abbrev pub morning : ℤ
morning = pos 1704182400

abbrev pub entry : ℕ → Act → Entry
entry number act = record { seq = number; moment = morning; act = act }

abbrev pub ada : Row
ada = Int (pos 1) ∷ Text (codes "Ada") ∷ Text (codes "555-1") ∷ Int (pos 95120) ∷ []

abbrev pub bob : Row
bob = Int (pos 2) ∷ Text (codes "Bob") ∷ Text (codes "555-2") ∷ Null ∷ []

abbrev pub born_in_the_morning : Row → BornRow
born_in_the_morning row = record { row = row; born = morning }

-- a nurse may see the number and the name of two patients
abbrev pub clinic : History
clinic =
    entry 1 (Create patients) ∷ entry 2 (Purpose treatment) ∷ entry 3 (Recipient nurse) ∷ entry 4 (Authorize ann treatment nurse)
    ∷ entry 5 (Allow treatment nurse patient (0 ∷ 1 ∷ []) None None) ∷ entry 6 (Insert patient ada) ∷ entry 7 (Insert patient bob) ∷ []

abbrev pub column : Place → Ref
column place = record { table = 0; column = place }

abbrev pub column_of : Place → Place → Ref
column_of table place = record { table = table; column = place }

abbrev pub equals : Place → Value → CondOf Operand
equals place value = Compare Eq (ColumnOperand (column place)) (Literal value)

-- columns of the patients for which a condition is true
abbrev pub select : List Ref → CondOf Operand → Query
select items condition = record { items = items; tables = patient ∷ []; cond = condition; form = Plain }

abbrev pub always : CondOf Operand
always = All []

-- a nurse's query, at a moment
abbrev pub nursing : ℤ → Context
nursing moment = record { purpose = treatment; recipient = nurse; moment = moment }

abbrev pub ask : History → Query → List ShownRow
ask history query = answer history (nursing morning) query

abbrev pub asked : ℕ → Entry
asked number = entry number (Asked ann treatment nurse (codes "q"))

-- who queried the columns of some rows from one second to another; nobody is exempt
abbrev pub audit_between : ℤ → ℤ → List Ref → List (List ℕ) → CondOf Operand → Audit
audit_between from to columns tables condition = record {
  from = from;
  to = to;
  exempt = [];
  shown = false;
  columns = columns;
  tables = tables;
  cond = condition;
}
