-- The accesses were written down, or the entries could not be read.
use Rattle.std.proofs.Common.{◌≡◌, FitsSigned, w64, rules}
use Rattle.std.proofs.lemmas.Int.{to_z-of_z}
use Rattle.hippo_history_top.proofs.GatheredLemmas.{gathered_nothing}
use Rattle.hippo_history_top.proofs.InquiryLemmas.{loaded_patient, found-nothing}
use Rattle.hippo_history_top.specs.declared.asking.View.TheVariants.{Patient}
use Rattle.hippo_history_top.specs.Inquiring.{FindsAccesses}
use Rattle.hippo_history_top.proofs.top.show_sought.Goals as goal

pub returns-in-Ok : goal.returns-in-Ok
returns-in-Ok g c =
    let fits : FitsSigned w64 c.args.sought.now.inquiry.now.patient = search rules in
    record {
      shows = λ state knows. rw c.served_or.ensures (loaded_patient c.args.sought.now state knows c.new-found.result c.gather_all.new.gathered (g.P.Keeper.state c.args.keeper.now) (g.P.Keeper.state c.gather_all.new.keeper) c.args.steps.now c.gather_all.new.steps
          (g.K.Sink.written c.args.sink.now) (g.K.Sink.written c.write_accesses.new.sink) (g.K.Sink.faults c.args.sink.now) (g.K.Sink.faults c.write_accesses.new.sink) c.write_accesses.result
          (found-nothing c.args.sought.now c.new-found.result _ (to_z-of_z w64 c.args.sought.now.inquiry.now.patient fits) c.new-found.ensures) c.in-Ok.ensures.gathers (rw c.accesses.ensures at c.write_accesses.ensures.writes));
    }

pub returns : goal.returns
returns g c = record {
  shows = λ state knows. rw c.ending_of.ensures (gathered_nothing (FindsAccesses c.args.sought.now c.new-found.result) (FindsAccesses c.args.sought.now c.gather_all.new.gathered) state (g.P.Keeper.state c.args.keeper.now) (g.P.Keeper.state c.gather_all.new.keeper) c.args.steps.now c.gather_all.new.steps
      (Patient c.args.sought.now.inquiry.now) (g.K.Sink.written c.args.sink.now) (g.K.Sink.faults c.args.sink.now) c.in-Err.fault c.in-Err.ensures.gathers);
}
