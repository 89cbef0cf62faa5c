-- The text so far and the remaining accesses make up the whole.
use Rattle.std.proofs.Common.{◌≡◌, ◌++◌, drop, flat_map}
use Rattle.hippo_history_formats.specs.Accesses.{access_line}
use Rattle.hippo_history_top.proofs.disclosing.append_lines.Given as goal

abbrev pub invariant-loop-access : goal.invariant-loop-access
invariant-loop-access l = l.out ++ flat_map (access_line l.format) (drop l.access-index l.accesses) ≡ l.initial.out ++ flat_map (access_line l.format) l.accesses
