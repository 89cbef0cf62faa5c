use Rattle.hippo_io.specs.Lines.{text_line}
use Rattle.hippo_keeper.specs.MemoryKeeping.{memory_keeper_state}
use Rattle.hippo_stmt_lines.specs.Commands.{command_of}
use Rattle.hippo_serve_jobs.proofs.DrillLemmas.{accepted}
use Rattle.hippo_serve_jobs.proofs.drilling.answer.Goals as goal

pub returns-in-Ok-clause-done : goal.returns-in-Ok-clause-done
returns-in-Ok-clause-done g c =
    accepted c.accept.result c.reply.result.now (command_of (text_line c.args.line.now)) c.args.engine.now c.answer_line.new.engine
    (memory_keeper_state c.args.keeper.now) (memory_keeper_state c.answer_line.new.keeper) c.args.steps.now c.answer_line.new.steps
    c.accept.ensures c.reply.ensures c.in-Ok.ensures.carries tt
