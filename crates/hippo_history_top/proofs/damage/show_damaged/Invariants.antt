-- The ledger of the copies is a new one.
use Rattle.hippo_history_top.proofs.damage.show_damaged.Given as goal

abbrev pub ghosts-show_copied : goal.ghosts-show_copied
ghosts-show_copied g a = record { name = a.blank.name; parts = a.blank.parts }
