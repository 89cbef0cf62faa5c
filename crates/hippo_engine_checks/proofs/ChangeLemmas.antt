-- From the checks of a changing statement to its judgement.
use Rattle.std.proofs.Common.{◌≡◌, inl, inr, refl, ap, Option, Some, None, Ok, Err, true}
use Rattle.std.specs.Prelude.{ok_or}
use Rattle.std.proofs.lemmas.Bool.{false≢true}
use Rattle.hippo_values.specs.Texts.{Txt}
use Rattle.hippo_values.specs.Results.{◌>>=◌}
use Rattle.hippo_stmt_ast.specs.declared.statement.Stmt.{Stmt}
use Rattle.hippo_stmt_ast.specs.declared.statement.Stmt.TheVariants as stmt
use Rattle.hippo_model.specs.declared.wanted.Wanted.{Wanted}
use Rattle.hippo_model.specs.Terms.{History}
use Rattle.hippo_typing_catalog.specs.ChangesWanted.{changes_something}
use Rattle.hippo_keeper.proofs.Results.{err_of}
use Rattle.hippo_report.specs.declared.refusal.Refusal.{Refusal}
use Rattle.hippo_report.specs.declared.speaker.Speaker.{Speaker}
use Rattle.hippo_report.specs.declared.refusal.Refusal.TheVariants as refusals
use Rattle.hippo_engine_sessions.specs.Worlds.{World}
use Rattle.hippo_stmt_lines.specs.Commands.{make_statement}
use Rattle.hippo_engine_checks.specs.Checks.{Refuses, Checked}
use Rattle.hippo_engine_checks.specs.Deeds.{Deed}
use Rattle.hippo_engine_checks.specs.Judging.{judged, judged_change}

-- what a statement means is what it asks for
abbrev asked_for : Checked (Option Wanted) → Checked Wanted
asked_for means = means >>= λ change. ok_or change refusals.BadSyntax

-- the check of names and types, followed by the judgement of what is asked for
abbrev after_names : Checked (Option Wanted) → (Wanted → Checked Deed) → Checked Deed
after_names means next = means >>= λ change. ok_or change refusals.BadSyntax >>= λ wanted. next wanted

refusal_same : (one other : Refusal) → err_of Wanted one ≡ Err other → one ≡ other
refusal_same one other e = cc

-- the names and types are refused
pub names_refused : (means : Checked (Option Wanted)) (next : Wanted → Checked Deed) (refusal : Refusal)
    → Refuses (asked_for means) refusal → Refuses (after_names means next) refusal
names_refused means next refusal (inr memory) = inr memory
names_refused (Err other) next refusal (inl is) = inl (ap Err (refusal_same other refusal is))
names_refused (Ok None) next refusal (inl is) = inl (ap Err (refusal_same refusals.BadSyntax refusal is))
names_refused (Ok (Some w)) next refusal (inl is) = absurd cc

-- a changing statement is judged as a change
pub judged_as_change : (history : History) (world : World) (who : Speaker) (statement : Stmt) (text : Txt) → changes_something statement ≡ true
    → judged history world (make_statement who statement text) ≡ judged_change history world who statement
judged_as_change history world who (stmt.Explain question) text changes = absurd (false≢true changes)
judged_as_change history world who (stmt.Audit audit) text changes = absurd (false≢true changes)
judged_as_change history world who (stmt.BeginAudit audit) text changes = absurd (false≢true changes)
judged_as_change history world who (stmt.Watch audit) text changes = absurd (false≢true changes)
judged_as_change history world who (stmt.Select select start end) text changes = absurd (false≢true changes)
judged_as_change history world who (stmt.Ask select start end) text changes = absurd (false≢true changes)
judged_as_change history world who (stmt.Extract select start end) text changes = absurd (false≢true changes)
judged_as_change history world who statement text changes = refl
