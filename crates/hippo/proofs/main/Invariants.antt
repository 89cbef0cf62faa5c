-- The ledger of the run is the new one that it is given.
use Rattle.hippo.proofs.main.Given as goal

abbrev pub ghosts-start : goal.ghosts-start
ghosts-start a = record { name = a.blank.name; parts = a.blank.parts }
