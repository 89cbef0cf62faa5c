-- A command is judged, and its deed is performed, or the reason for not doing it is in the reply.
use Rattle.hippo_io.specs.LineTexts.{line_text}
use Rattle.hippo_stmt_lines.specs.Commands.{input_command}
use Rattle.hippo_stmt_lines.specs.LentCommands.{command}
use Rattle.hippo_engine.proofs.CarryingLemmas.{Carries-found, IsOfLine-found}
use Rattle.hippo_engine_lines.proofs.LineLemmas.{IsOfLine-input_command}
use Rattle.hippo_engine_lines.proofs.PerformingLemmas.{Carries-performed, Carries-refused, AtWork-judged, Needs-judged}
use Rattle.hippo_engine_lines.proofs.lines.answer_line.Goals as goal

pub judge-requires-clause-of_line : goal.judge-requires-clause-of_line
judge-requires-clause-of_line g c =
    IsOfLine-found (input_command (line_text c.args.line)) (command c.command_of-found.result) (IsOfLine-input_command (line_text c.args.line) c.has_text.ensures) c.command_of-found.ensures

pub perform-requires-clause-at_work : goal.perform-requires-clause-at_work
perform-requires-clause-at_work g c =
    AtWork-judged (command c.command_of-found.result) c.in-Ok.deed c.args.engine.now (g.P.Keeper.state c.args.keeper.now) (g.P.Keeper.state c.judge.new.keeper) c.args.steps.now c.judge.new.steps
    c.requires.at_work c.in-Ok.ensures.judges (λ still. λ i. g.P.Keeper.state (c.in-Ok.ensures.still still i))

pub perform-requires-clause-needs : goal.perform-requires-clause-needs
perform-requires-clause-needs g c =
    Needs-judged (command c.command_of-found.result) c.in-Ok.deed c.args.engine.now (g.P.Keeper.state c.args.keeper.now) (g.P.Keeper.state c.judge.new.keeper) c.args.steps.now c.judge.new.steps
    c.in-Ok.ensures.judges

pub returns-in-Ok : goal.returns-in-Ok
returns-in-Ok g c = record {
  carries = Carries-found (input_command (line_text c.args.line)) (command c.command_of-found.result) c.perform.result c.args.engine.now c.perform.new.engine
      (g.P.Keeper.state c.args.keeper.now) (g.P.Keeper.state c.perform.new.keeper) c.args.steps.now c.perform.new.steps c.command_of-found.ensures
      (Carries-performed (command c.command_of-found.result) c.args.engine.now c.perform.new.engine (g.P.Keeper.state c.args.keeper.now) (g.P.Keeper.state c.judge.new.keeper) (g.P.Keeper.state c.perform.new.keeper)
      c.args.steps.now c.judge.new.steps c.perform.new.steps c.requires.at_work c.in-Ok.deed c.perform.result
      c.in-Ok.ensures.judges (λ still. λ i. g.P.Keeper.state (c.in-Ok.ensures.still still i)) c.in-Ok.ensures.idle c.perform.ensures.performs);
  unwritten = c.perform.ensures.unwritten;
}

pub returns-in-Err : goal.returns-in-Err
returns-in-Err g c = record {
  carries = Carries-found (input_command (line_text c.args.line)) (command c.command_of-found.result) c.refuse_unjudged.result c.args.engine.now c.refuse_unjudged.new.engine
      (g.P.Keeper.state c.args.keeper.now) (g.P.Keeper.state c.judge.new.keeper) c.args.steps.now c.judge.new.steps c.command_of-found.ensures
      (Carries-refused (command c.command_of-found.result) c.who_commands-who.result c.in-Err.unjudged c.refuse_unjudged.result c.args.engine.now c.refuse_unjudged.new.engine
      (g.P.Keeper.state c.args.keeper.now) (g.P.Keeper.state c.judge.new.keeper) c.args.steps.now c.judge.new.steps c.who_commands-who.ensures c.requires.at_work
      c.in-Err.ensures.judges (λ still. λ i. g.P.Keeper.state (c.in-Err.ensures.still still i)) c.in-Err.ensures.idle c.refuse_unjudged.ensures.says);
  unwritten = c.refuse_unjudged.ensures.unwritten;
}
