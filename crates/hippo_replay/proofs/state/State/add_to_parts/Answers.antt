-- What the catalog took in is taken back.
use Rattle.std.proofs.Common.{refl}
use Rattle.hippo_replay.proofs.StateLemmas.{creates_new_names-next, Represents-same}
use Rattle.hippo_replay.proofs.state.State.add_to_parts.Goals as goal

pub add-requires : goal.add-requires
add-requires c = creates_new_names-next c.args.self.now c.args.entry.now c.requires.next

pub returns-in-Err-clause-err : goal.returns-in-Err-clause-err
returns-in-Err-clause-err c history stands may =
    Represents-same history c.args.entry.now may c.args.self.now _ stands
    (c.take_back.ensures c.args.self.now.catalog.names c.args.entry.now.act c.in_ok-add.ensures.newest c.in_ok-add.ensures.names)
    (c.in-Err.ensures.same_book history) c.in-Err.ensures.same_tables refl refl
