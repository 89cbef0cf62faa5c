-- What the commands of the code mean. They borrow their texts from a line.
use Rattle.hippo_stmt_lines.specs.LentForms.{request}
use Rattle.hippo_stmt_lines.specs.Commands as commands
use Rattle.hippo_stmt_lines.specs.declared.command.Command.{Command}
use Rattle.hippo_stmt_lines.specs.declared.command.Command.TheVariants.{Nothing, Wrong, SetClock, Request, Statement}

abbrev pub command : Command → commands.Command
command Nothing = commands.nothing
command (Wrong who refusal) = commands.wrong who refusal
command (SetClock moment) = commands.set_clock moment
command (Request who asked) = commands.make_request who (request asked)
command (Statement who statement text) = commands.make_statement who statement text.now
