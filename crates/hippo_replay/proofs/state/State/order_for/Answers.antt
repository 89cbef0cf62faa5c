-- The tables have the same value as before, and nothing else changes.
use Rattle.hippo_replay.proofs.StateLemmas.{Represents-with_tables, Remembers-with_tables}
use Rattle.hippo_replay.proofs.state.State.order_for.Goals as goal

pub returns-clause-stands : goal.returns-clause-stands
returns-clause-stands c history stands = Represents-with_tables c.args.self.now c.order_for.new.self history c.order_for.ensures stands

pub returns-clause-remembers : goal.returns-clause-remembers
returns-clause-remembers c history entry knows = Remembers-with_tables c.args.self.now c.order_for.new.self history entry c.order_for.ensures knows
