-- What is found survived, and what survives is known.
use Rattle.hippo_serve.proofs.laws.next_run_in_memory.Goals as goal

pub returns-clause-goes_on : goal.returns-clause-goes_on
returns-clause-goes_on c = λ name history keeps store found. ∣ keeps.alone store (c.restart.ensures.finds name store found) ∣₁

pub returns-clause-either : goal.returns-clause-either
returns-clause-either c = λ name history longer keeps store found. ∣ keeps.alone store (c.restart.ensures.finds name store found) ∣₁
