-- What is printed and what remains give the whole.
use Rattle.std.proofs.Common.{◌≡◌, ◌++◌, drop}
use Rattle.std.specs.List.{flat_map}
use Rattle.hippo_report_flags.specs.Flags.{flag_line}
use Rattle.hippo_engine_audits.proofs.auditing.append_flags.Given as goal

abbrev pub invariant-loop-flag : goal.invariant-loop-flag
invariant-loop-flag l = l.reply ++ flat_map (flag_line l.fn.format) (drop l.flag-index l.flags) ≡ l.initial.reply ++ flat_map (flag_line l.fn.format) l.flags
