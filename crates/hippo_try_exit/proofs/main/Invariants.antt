-- The ledger of the run is the new one that it is given.
use Rattle.hippo_try_exit.proofs.main.Given as goal

abbrev pub ghosts-begin : goal.ghosts-begin
ghosts-begin a = record { name = a.blank.name; parts = a.blank.parts }
