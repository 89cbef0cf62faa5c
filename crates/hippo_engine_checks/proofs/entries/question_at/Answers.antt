use Rattle.std.proofs.Common.{Option, Ok, sym, subst}
use Rattle.hippo_model.specs.declared.entry.Entry.{Entry}
use Rattle.hippo_engine_checks.specs.Findings.{LooksUp}
use Rattle.hippo_engine_checks.proofs.EntryLemmas.{is_number}
use Rattle.hippo_engine_checks.proofs.LookUpLemmas.{missing_looks, read_looks, unread_looks}
use Rattle.hippo_engine_checks.proofs.entries.question_at.Goals as goal

pub read_entry-requires-clause-some : goal.read_entry-requires-clause-some
read_entry-requires-clause-some g c = (is_number c.args.number.now c.args.state.now.count c.in-Some.place (sym c.in-Some.ensures)).from

pub returns-in-None : goal.returns-in-None
returns-in-None g c = record {
  looks = missing_looks c.args.number.now c.args.state.now (g.P.Keeper.state c.args.keeper.now) c.args.steps.now c.requires.ready (sym c.in-None.ensures);
}

pub returns-in-Ok : goal.returns-in-Ok
returns-in-Ok g c = record {
  looks = subst (λ (found : Option Entry). LooksUp c.args.number.now (Ok found) c.args.state.now (g.P.Keeper.state c.args.keeper.now) (g.P.Keeper.state c.read_entry.new.keeper) c.args.steps.now c.read_entry.new.steps) (sym c.if_question.ensures)
      (read_looks c.args.number.now c.args.state.now c.in-Some.place (is_number c.args.number.now c.args.state.now.count c.in-Some.place (sym c.in-Some.ensures))
      (g.P.Keeper.state c.args.keeper.now) (g.P.Keeper.state c.read_entry.new.keeper) c.args.steps.now c.read_entry.new.steps c.in-Ok.entry c.in-Ok.ensures.reads);
}

pub returns-in-Err : goal.returns-in-Err
returns-in-Err g c = record {
  looks = unread_looks c.args.number.now c.args.state.now c.in-Some.place (is_number c.args.number.now c.args.state.now.count c.in-Some.place (sym c.in-Some.ensures))
      (g.P.Keeper.state c.args.keeper.now) (g.P.Keeper.state c.read_entry.new.keeper) c.args.steps.now c.read_entry.new.steps c.in-Err.fault c.in-Err.ensures.reads;
}
