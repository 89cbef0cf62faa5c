-- Audit expressions with several faults at once.
use Rattle.std.proofs.Common.{◌≡◌, ℤ, pos, true, false, List, [], ◌∷◌, Option, Some, None, refl, codes, replicate}
use Rattle.std.specs.Prelude.{slice_get}
use Rattle.hippo_values.specs.declared.names.Name.{Name}
use Rattle.hippo_values.specs.declared.values.Value.TheVariants.{Int}
use Rattle.hippo_values.specs.declared.truths.CompareOp.TheVariants.{Eq}
use Rattle.hippo_model.specs.declared.audit.Pair.{Pair}
use Rattle.hippo_model.specs.declared.name_fault.NameFault.{NameFault}
use Rattle.hippo_model.specs.declared.name_fault.NameFault.TheVariants.{UnknownTable, UnknownColumn, UnknownRecipient, TypeMismatch, TooManyParts, BadMoment, PeriodBack}
use Rattle.hippo_model.specs.declared.query.CondOf.{CondOf}
use Rattle.hippo_model.specs.declared.query.CondOf.TheVariants.{All, Compare}
use Rattle.hippo_model.specs.declared.schema.Column.{Column}
use Rattle.hippo_model.specs.declared.schema.ColumnKind.TheVariants.{Integer, Text as TextColumn}
use Rattle.hippo_model.specs.declared.schema.Schema.{Schema}
use Rattle.hippo_stmt_ast.specs.declared.statement.RawAudit.{RawAudit}
use Rattle.hippo_stmt_ast.specs.declared.statement.RawColumn.{RawColumn}
use Rattle.hippo_stmt_ast.specs.declared.statement.RawOperand.{RawOperand}
use Rattle.hippo_stmt_ast.specs.declared.statement.RawOperand.TheVariants.{Column as WrittenColumn, Literal}
use Rattle.hippo_model.proofs.FoldedConditions.{folded_conditions}
use Rattle.hippo_typing_catalog.specs.declared.period.Period.{Period}
use Rattle.hippo_typing_catalog.specs.Catalogs.{KnownNames}
use Rattle.hippo_typing_catalog.specs.AuditExpressions.{audit_refused, audit_of}

abbrev patient : Name
patient = codes "patient"

abbrev name : Name
name = codes "name"

-- patient (pid INTEGER, name TEXT), the purpose care and the recipient nurse
abbrev known : KnownNames
known =
    let pid : Column = record { name = codes "pid"; kind = Integer; not_null = true } in
    let named : Column = record { name = name; kind = TextColumn; not_null = false } in
    let patients : Schema = record { name = patient; columns = pid ∷ named ∷ []; key = 0 ∷ []; subject = Some 0 } in
    record { tables = (patient, patients) ∷ []; purposes = codes "care" ∷ []; recipients = codes "nurse" ∷ []; items = [] }

abbrev bare : Name → RawColumn
bare written = record { table = None; column = written }

abbrev pair : Name → Name → Pair
pair purpose recipient = record { purpose = purpose; recipient = recipient }

abbrev over : List Name → List Pair → List RawColumn → CondOf RawOperand → RawAudit
over tables exempt columns cond =
    record { from = codes "x"; to = codes "y"; exempt = exempt; shown = false; columns = columns; tables = tables; cond = cond }

abbrev no_condition : CondOf RawOperand
no_condition = All []

abbrev lasting : Option ℤ → Option ℤ → Period
lasting from to = record { from = from; to = to }

abbrev first_refusal : Period → RawAudit → Option NameFault
first_refusal period audit = slice_get (audit_refused known period audit) 0

-- of two unknown exempt pairs, the first one's purpose or recipient is reported; an unknown table
-- comes before both
pairs_in_text_order : first_refusal (lasting None None) (over (patient ∷ patient ∷ []) (pair (codes "care") (codes "aunt") ∷ pair (codes "spam") (codes "nurse") ∷ []) (bare name ∷ []) no_condition) ≡ Some (UnknownRecipient (codes "aunt"))
pairs_in_text_order = refl

table_before_pairs : first_refusal (lasting None None) (over (codes "nowhere" ∷ []) (pair (codes "spam") (codes "nurse") ∷ []) (bare name ∷ []) no_condition) ≡ Some (UnknownTable (codes "nowhere"))
table_before_pairs = refl

-- a period whose texts are not moments is reported after names, kinds and parts
columns_before_the_period : first_refusal (lasting None None) (over (patient ∷ []) [] (bare (codes "nothing") ∷ []) no_condition) ≡ Some (UnknownColumn (codes "nothing"))
columns_before_the_period = refl

kinds_before_the_period : first_refusal (lasting None None) (over (patient ∷ []) [] (bare name ∷ []) (All (Compare Eq (WrittenColumn (bare name)) (Literal (Int (pos 1))) ∷ []))) ≡ Some TypeMismatch
kinds_before_the_period = simp folded_conditions

parts_before_the_period : first_refusal (lasting None None) (over (patient ∷ []) (replicate 65 (pair (codes "care") (codes "nurse"))) (bare name ∷ []) no_condition) ≡ Some (TooManyParts 64)
parts_before_the_period = simp folded_conditions

no_moment_before_the_order : first_refusal (lasting (Some (pos 5)) None) (over (patient ∷ []) [] (bare name ∷ []) no_condition) ≡ Some BadMoment
no_moment_before_the_order = simp folded_conditions

end_before_the_beginning : first_refusal (lasting (Some (pos 5)) (Some (pos 4))) (over (patient ∷ []) [] (bare name ∷ []) no_condition) ≡ Some PeriodBack
end_before_the_beginning = simp folded_conditions

-- audited columns may repeat
columns_may_repeat : audit_of known (lasting (Some (pos 4)) (Some (pos 5))) (over (patient ∷ []) [] (bare name ∷ bare name ∷ []) no_condition)
    ≡ record {
      from = pos 4;
      to = pos 5;
      exempt = [];
      shown = false;
      columns = record { table = 0; column = 1 } ∷ record { table = 0; column = 1 } ∷ [];
      tables = patient ∷ [];
      cond = All [];
    }
columns_may_repeat = simp folded_conditions
