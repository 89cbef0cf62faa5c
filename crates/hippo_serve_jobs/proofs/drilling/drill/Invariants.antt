-- The ledger of a drill is a new one.
use Rattle.hippo_serve_jobs.proofs.drilling.drill.Given as goal

abbrev pub ghosts-run_script : goal.ghosts-run_script
ghosts-run_script g a = record { name = a.blank.name; parts = a.blank.parts }
