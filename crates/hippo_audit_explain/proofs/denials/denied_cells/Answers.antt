use Rattle.std.proofs.Common.{Ok, Err, sym, ap, ◌∙◌}
use Rattle.hippo_model.specs.declared.entry.Act.TheVariants.{Asked}
use Rattle.hippo_audit_explain.proofs.TextLemmas.{question_denies}
use Rattle.hippo_audit_explain.proofs.denials.denied_cells.Goals as goal

pub returns-in-Ok : goal.returns-in-Ok
returns-in-Ok g c = record {
  denies = question_denies c.args.limit c.args.entry.now c.in-Asked.user c.in-Asked.purpose c.in-Asked.recipient c.as_str-text.result.now c.args.catalog.now.names c.args.book.now c.saturating_sub.result (Ok tt) c.read_text.new.cells
      (g.P.Keeper.state c.args.keeper.now) (g.P.Keeper.state c.read_text.new.keeper) c.args.steps.now c.read_text.new.steps (c.in-Asked.is ∙ ap (Asked c.in-Asked.user c.in-Asked.purpose c.in-Asked.recipient) (sym c.as_str-text.ensures)) c.saturating_sub.ensures (λ good. c.in-Ok.ensures.within) (rw c.new-cells.ensures at c.in-Ok.ensures.reads);
}

pub returns-in-Asked : goal.returns-in-Asked
returns-in-Asked g c = record {
  denies = question_denies c.args.limit c.args.entry.now c.in-Asked.user c.in-Asked.purpose c.in-Asked.recipient c.as_str-text.result.now c.args.catalog.now.names c.args.book.now c.saturating_sub.result (Err c.in-Err.fault) c.read_text.new.cells
      (g.P.Keeper.state c.args.keeper.now) (g.P.Keeper.state c.read_text.new.keeper) c.args.steps.now c.read_text.new.steps (c.in-Asked.is ∙ ap (Asked c.in-Asked.user c.in-Asked.purpose c.in-Asked.recipient) (sym c.as_str-text.ensures)) c.saturating_sub.ensures (λ good. absurd cc) (rw c.new-cells.ensures at c.in-Err.ensures.reads);
}
