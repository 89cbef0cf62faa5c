-- The first line that the job asks for has its reply, and then the lines of the input have theirs.
use Rattle.std.proofs.Common.{◌≡◌, ◌≤◌, ◌∙◌, [], Some, None, Bool, true, false, IsTrue, IsFalse, refl, sym, ap, subst, arith}
use Rattle.hippo_io.specs.HandingOut.{HasHandedOut, input_limit, bytes_handed_out}
use Rattle.hippo_io.specs.Inputs.{left_in}
use Rattle.hippo_io.proofs.InputLemmas.{ReadsMore-none, ReadsMore-then, FitsInput-line}
use Rattle.hippo_io.specs.Position.{Position}
use Rattle.hippo_keeper.specs.declared.faults.KeeperFault.{KeeperFault}
use Rattle.hippo_keeper.proofs.CallLemmas.{IsAfterCall-none, IsAfterCall-then}
use Rattle.hippo_keeper.proofs.Results.{well}
use Rattle.hippo_program_args.specs.Endings.{status_of, ending_as_call, part_as_call}
use Rattle.hippo_serve_jobs.specs.Outside.{telling, outside}
use Rattle.hippo_serve_jobs.specs.Runs.{IsHandingOut}
use Rattle.hippo_serve_jobs.proofs.StatusLemmas.{status-other}
use Rattle.hippo_serve_jobs.proofs.TakenLemmas.{none_taken}
use Rattle.hippo_serve_jobs.proofs.RunLemmas.{reading_none, replied_none, served_none}
use Rattle.hippo_serve_jobs.proofs.serving.Serving.serve_all.Goals as goal

pub returns-in-Some-clause-ends : goal.returns-in-Some-clause-ends
returns-in-Some-clause-ends g c = λ tells view fits setting history holds world keeps start counted.
    let left = left_in view (g.S.Source.left c.args.source.now) (g.S.Source.reads c.args.source.now) in
    c.in-Some.ensures.served tells setting history (telling left (g.K.Sink.written c.args.sink.now) start)
    (replied_none setting history left (g.K.Sink.written c.args.sink.now) c.args.self.now.engine (g.P.Keeper.state c.args.keeper.now) start c.args.steps.now holds world keeps counted)

pub loop-ending-init : goal.loop-ending-init
loop-ending-init g c = record {
  unfailed = ap (λ (r : Position). r.failure) (c.serve_first.ensures.reader ∙ c.requires.reader);
  limit = subst (λ (r : Position). r.taken ≤ input_limit) (sym (c.serve_first.ensures.reader ∙ c.requires.reader)) (omega arith);
  source_faults = refl;
  sink_faults = refl;
  call = IsAfterCall-none (well KeeperFault) (g.P.Keeper.state c.serve_first.new.keeper) refl c.in_default.ensures.status.ready;
  at_work = c.in_default.ensures.status;
  on = ReadsMore-none (g.S.Source.reads c.args.source.now);
  going = λ going. refl;
  reading = λ view fits input reading. reading;
  served = λ tells view fits setting history before served. served;
}

pub returns-in-Some-serve_line-clause-call : goal.returns-in-Some-serve_line-clause-call
returns-in-Some-serve_line-clause-call g c =
    IsAfterCall-then false (well KeeperFault) (ending_as_call c.in-Some-serve_line.ending) (g.P.Keeper.state c.args.keeper.now) (g.P.Keeper.state c.serve_first.new.keeper) (g.P.Keeper.state c.serve_line.new.keeper) refl
    c.in_default.ensures.call
    (IsAfterCall-then false (well KeeperFault) (ending_as_call c.in-Some-serve_line.ending) (g.P.Keeper.state c.serve_first.new.keeper) (g.P.Keeper.state c.loop-ending.keeper) (g.P.Keeper.state c.serve_line.new.keeper) refl
    c.loop-ending.invariant.call c.in-Some-serve_line.ensures.call)

pub returns-in-Some-serve_line-clause-read : goal.returns-in-Some-serve_line-clause-read
returns-in-Some-serve_line-clause-read g c = λ view fits input is.
    let both = FitsInput-line view c.loop-ending.self.reader.ended (g.S.Source.reads c.args.source.now) (g.S.Source.reads c.loop-ending.source) (g.S.Source.reads c.serve_line.new.source)
    c.loop-ending.invariant.going (λ over. (c.serve_line.ensures.still over).0) c.serve_line.ensures.on fits in
    let left = left_in view (g.S.Source.left c.args.source.now) (g.S.Source.reads c.args.source.now) in
    c.in-Some-serve_line.ensures.read view both.1 input (c.loop-ending.invariant.reading view both.0 input
    (subst (λ (r : Position). IsHandingOut input r left) (sym c.serve_first.ensures.reader)
    (reading_none input c.args.self.now.reader left is (c.requires.handed input))))

pub returns-in-Some-serve_line-clause-ends : goal.returns-in-Some-serve_line-clause-ends
returns-in-Some-serve_line-clause-ends g c = λ tells view fits setting history holds world keeps start counted.
    let both = FitsInput-line view c.loop-ending.self.reader.ended (g.S.Source.reads c.args.source.now) (g.S.Source.reads c.loop-ending.source) (g.S.Source.reads c.serve_line.new.source)
    c.loop-ending.invariant.going (λ over. (c.serve_line.ensures.still over).0) c.serve_line.ensures.on fits in
    let left = left_in view (g.S.Source.left c.args.source.now) (g.S.Source.reads c.args.source.now) in
    let here = c.in-Some-serve_line.ensures.call.told tells in
    c.in-Some-serve_line.ensures.served tells view both.1 setting history (telling left (g.K.Sink.written c.args.sink.now) start)
    (c.loop-ending.invariant.served here view both.0 setting history (telling left (g.K.Sink.written c.args.sink.now) start)
    (served_none setting c.args.job.now history (telling left (g.K.Sink.written c.args.sink.now) start) c.serve_first.new.self.reader c.serve_first.new.self.engine
    (outside left (g.K.Sink.written c.serve_first.new.sink) (g.P.Keeper.state c.serve_first.new.keeper) c.serve_first.new.steps)
    (λ input. subst (λ (r : Position). HasHandedOut input [] r (Some input)) (sym c.serve_first.ensures.reader) (c.requires.handed input)) refl
    (c.in_default.ensures.served (c.loop-ending.invariant.call.told here) setting history (telling left (g.K.Sink.written c.args.sink.now) start)
    (replied_none setting history left (g.K.Sink.written c.args.sink.now) c.args.self.now.engine (g.P.Keeper.state c.args.keeper.now) start c.args.steps.now holds world keeps counted))))

pub returns-in-Some-clause-read : goal.returns-in-Some-clause-read
returns-in-Some-clause-read g c = λ view fits input is.
    let other = status-other c.in-Some.ending c.in-Some.ensures.status.0 c.in-Some.ensures.status.4 in
    none_taken (status_of c.in-Some.ending) input (left_in view (g.S.Source.left c.args.source.now) (g.S.Source.reads c.args.source.now)) is other.0 other.1

-- a reader that took a line had not ended
unended : (ended : Bool) → (IsTrue ended → ⊥) → IsFalse ended
unended false not = refl
unended true not = absurd (not refl)

pub loop-ending-preserved : goal.loop-ending-preserved
loop-ending-preserved g c =
    let next = c.in_default-serve_line.ensures in
    let so_far = c.loop-ending.invariant in
    let start = g.S.Source.reads c.args.source.now in
    let now = g.S.Source.reads c.loop-ending.source in
    let after = g.S.Source.reads c.serve_line.new.source in
    let not_over : IsFalse c.loop-ending.self.reader.ended =
    unended c.loop-ending.self.reader.ended (λ over. let same = ap bytes_handed_out (c.serve_line.ensures.still over).1 in omega (arith, next.goes_on.1, same)) in
    let still : IsTrue c.loop-ending.self.reader.ended → after ≡ now = λ over. (c.serve_line.ensures.still over).0 in
    record {
      unfailed = next.goes_on.0;
      limit = next.goes_on.2;
      source_faults = next.unfailed_read (λ e. cc) ∙ so_far.source_faults;
      sink_faults = next.unfailed_write (λ e. cc) ∙ so_far.sink_faults;
      call = IsAfterCall-then false (well KeeperFault) (part_as_call None) (g.P.Keeper.state c.serve_first.new.keeper) (g.P.Keeper.state c.loop-ending.keeper) (g.P.Keeper.state c.serve_line.new.keeper) refl
          so_far.call next.call;
      at_work = next.at_work;
      on = ReadsMore-then _ _ _ so_far.on c.serve_line.ensures.on;
      going = λ going. next.going going ∙ so_far.going not_over;
      reading = λ view fits input reading.
          let both = FitsInput-line view c.loop-ending.self.reader.ended start now after so_far.going still c.serve_line.ensures.on fits in
          next.read view both.1 input (so_far.reading view both.0 input reading);
      served = λ tells view fits setting history before served.
          let both = FitsInput-line view c.loop-ending.self.reader.ended start now after so_far.going still c.serve_line.ensures.on fits in
          next.served tells view both.1 setting history before (so_far.served (next.call.told tells) view both.0 setting history before served);
    }
