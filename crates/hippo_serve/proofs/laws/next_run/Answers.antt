-- What is found survived, and what survives is known.
use mathlib.Core.Logic.{∥∥₁_map}
use Rattle.hippo_serve.proofs.laws.next_run.Goals as goal

pub returns-clause-goes_on : goal.returns-clause-goes_on
returns-clause-goes_on g c = λ finds history keeps store found. ∥∥₁_map (finds store found) (keeps.alone store)

pub returns-clause-either : goal.returns-clause-either
returns-clause-either g c = λ finds history longer keeps store found. ∥∥₁_map (finds store found) (keeps.alone store)
