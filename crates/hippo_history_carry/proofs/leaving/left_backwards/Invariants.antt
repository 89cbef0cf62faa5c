-- What is left of the entries so far, from the last one backwards, and the matters on which they decide.
use Rattle.std.proofs.Common.{◌≡◌, ◌-◌, drop, length, reverse}
use Rattle.hippo_model.specs.Terms.{History}
use Rattle.hippo_tables.specs.Standing.{TablesStandFor}
use Rattle.hippo_history_carry.specs.Carrying.{entries_left}
use Rattle.hippo_history_carry.specs.Decisions.{IsDecidedBy}
use Rattle.hippo_history_carry.proofs.leaving.left_backwards.Given as goal

abbrev pub invariant-loop-place : goal.invariant-loop-place
invariant-loop-place l =
    (history : History) → TablesStandFor l.tables history
    → (reverse l.left.items ≡ entries_left history (drop (length l.entries - l.place) l.entries))
    × IsDecidedBy history l.decided (drop (length l.entries - l.place) l.entries)
