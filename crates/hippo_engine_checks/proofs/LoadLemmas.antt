-- From the checks of a loaded record to the checks of its INSERT.
use Rattle.std.proofs.Common.{◌≡◌, ◌∙◌, inl, inr, sym, ap, subst, Result, Ok}
use Rattle.hippo_values.specs.Texts.{Txt}
use Rattle.hippo_values.specs.declared.names.Name.{Name}
use Rattle.hippo_values.specs.Results.{◌>>=◌}
use Rattle.hippo_model.specs.declared.entry.Entry.{Entry}
use Rattle.hippo_stmt_ast.specs.declared.statement.Stmt.{Stmt}
use Rattle.hippo_model.specs.Terms.{History}
use Rattle.hippo_typing_catalog.specs.Catalogs.{KnownNames, known_at}
use Rattle.hippo_report.specs.declared.refusal.Refusal.{Refusal}
use Rattle.hippo_report.specs.declared.speaker.Speaker.TheVariants.{Console}
use Rattle.hippo_engine_sessions.specs.Worlds.{World}
use Rattle.hippo_engine_checks.specs.Changes.{FindsChange}
use Rattle.hippo_engine_checks.specs.Checks.{Checked, Refuses}
use Rattle.hippo_engine_checks.specs.Deeds.{Deed}
use Rattle.hippo_engine_checks.specs.Judging.{judged_change, loaded_insert, judged_load}

module _ (history : History) (world : World) (table : Name) (text : Txt) (known : KnownNames) (names : known ≡ known_at history) where
  -- at the console a record is judged after its INSERT is found
  at_console : judged_load history world Console table text ≡ (loaded_insert known table text >>= λ insert. judged_change history world Console insert)
  at_console = ap (λ (k : KnownNames). loaded_insert k table text >>= λ insert. judged_change history world Console insert) (sym names)

  pub load_found : (insert : Stmt) (found : Result Entry Refusal) → loaded_insert known table text ≡ Ok insert
      → FindsChange history world (judged_change history world Console insert) found
      → FindsChange history world (judged_load history world Console table text) found
  load_found insert found is finds =
      subst (λ (judgement : Checked Deed). FindsChange history world judgement found)
      (sym (at_console ∙ ap (λ (checked : Checked Stmt). checked >>= λ insert. judged_change history world Console insert) is)) finds

  pub load_refused : (refusal : Refusal) → Refuses (loaded_insert known table text) refusal
      → Refuses (judged_load history world Console table text) refusal
  load_refused refusal (inl is) =
      inl (at_console ∙ ap (λ (checked : Checked Stmt). checked >>= λ insert. judged_change history world Console insert) is)
  load_refused refusal (inr memory) = inr memory
