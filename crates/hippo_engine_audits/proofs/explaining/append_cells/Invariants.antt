-- What is printed and what remains give the whole.
use Rattle.std.proofs.Common.{◌≡◌, ◌++◌, drop}
use Rattle.std.specs.List.{flat_map}
use Rattle.hippo_engine_rules.specs.Effects.{denial_line}
use Rattle.hippo_engine_audits.proofs.explaining.append_cells.Given as goal

abbrev pub invariant-loop-cell : goal.invariant-loop-cell
invariant-loop-cell l = l.reply ++ flat_map denial_line (drop l.cell-index l.cells) ≡ l.initial.reply ++ flat_map denial_line l.cells
