-- The parts have the entry, and the state counts it.
use Rattle.std.proofs.Common.{refl}
use Rattle.hippo_replay.proofs.StateLemmas.{Represents-append, Remembers-append}
use Rattle.hippo_replay.proofs.state.State.add.Goals as goal

pub returns-clause-stands : goal.returns-clause-stands
returns-clause-stands c history stands may =
    let adds = c.in_ok-add_to_parts.ensures.ok in
    Represents-append history c.args.entry.now may c.args.self.now _ stands
    (record { names = adds.names; newest = adds.newest; book = adds.book; tables = adds.tables }) refl refl

pub returns-clause-remembers : goal.returns-clause-remembers
returns-clause-remembers c kept history stands may =
    let adds = c.in_ok-add_to_parts.ensures.ok in
    Remembers-append history c.args.entry.now may c.args.self.now _ kept stands
    (record { names = adds.names; newest = adds.newest; book = adds.book; tables = adds.tables }) refl refl c.in_ok-add_to_parts.ensures.last
