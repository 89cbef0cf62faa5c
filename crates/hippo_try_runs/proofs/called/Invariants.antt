-- The ledger of a call is the new one that it is given.
use Rattle.hippo_try_runs.proofs.called.Given as goal

abbrev pub ghosts-counted : goal.ghosts-counted
ghosts-counted a = record { name = a.blank.name; parts = a.blank.parts }
