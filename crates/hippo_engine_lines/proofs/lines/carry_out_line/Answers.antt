-- The line was carried out, whether or not its reply was written.
use Rattle.hippo_io.specs.LineTexts.{line_text}
use Rattle.hippo_stmt_lines.specs.Commands.{input_command}
use Rattle.hippo_engine.proofs.CarryingLemmas.{Carries-written}
use Rattle.hippo_engine_lines.proofs.lines.carry_out_line.Goals as goal

pub returns-in-Ok-clause-carries : goal.returns-in-Ok-clause-carries
returns-in-Ok-clause-carries g c =
    Carries-written (input_command (line_text c.args.line)) c.write_reply.result c.args.engine.now c.answer_line.new.engine
    (g.P.Keeper.state c.args.keeper.now) (g.P.Keeper.state c.answer_line.new.keeper) c.args.steps.now c.answer_line.new.steps
    c.write_reply.ensures.only c.in-Ok.ensures.carries
