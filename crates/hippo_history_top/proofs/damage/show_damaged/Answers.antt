-- The entries before the damage were copied and shown, or could not be copied.
use Rattle.std.proofs.Common.{refl}
use Rattle.hippo_history_top.proofs.DamageLemmas.{ShowsDamaged-copied, ShowsDamaged-uncopied}
use Rattle.hippo_history_top.proofs.damage.show_damaged.Goals as goal

pub returns-in-Ok : goal.returns-in-Ok
returns-in-Ok g c = record {
  shows = ShowsDamaged-copied c.args.view.now c.args.place (g.P.Keeper.state c.args.keeper.now) (g.P.Keeper.state c.copy_front.new.keeper) c.args.steps.now c.copy_front.new.steps _ c.in-Ok.front c.show_copied.result
      (g.K.Sink.written c.args.sink.now) (g.K.Sink.written c.show_copied.new.sink) (g.K.Sink.faults c.args.sink.now) (g.K.Sink.faults c.show_copied.new.sink)
      (rw c.saturating_sub.ensures at c.in-Ok.ensures.copies) c.show_copied.ensures.shows;
}

pub returns-in-Err : goal.returns-in-Err
returns-in-Err g c = record {
  shows = rw c.ending_of.ensures (ShowsDamaged-uncopied c.args.view.now c.args.place (g.P.Keeper.state c.args.keeper.now) (g.P.Keeper.state c.copy_front.new.keeper) c.args.steps.now c.copy_front.new.steps _ c.in-Err.fault
      (g.K.Sink.written c.args.sink.now) (g.K.Sink.faults c.args.sink.now) refl (rw c.saturating_sub.ensures at c.in-Err.ensures.copies));
}
