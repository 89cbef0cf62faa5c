use Rattle.std.proofs.Common.{◌≡◌, map, take}
use Rattle.clap.specs.Words.{app_of}
use Rattle.hippo_program_args.specs.Arguments.{rule_by, command_with}
use Rattle.hippo_program_args.proofs.arguments.command_of.Given as goal

abbrev pub invariant-loop-argument : goal.invariant-loop-argument
invariant-loop-argument l = app_of l.command ≡ command_with l.name (map rule_by (take l.argument-index l.arguments))
