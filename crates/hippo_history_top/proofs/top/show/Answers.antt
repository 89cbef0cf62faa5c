-- What was loaded is shown, or the reason why it was not loaded is reported.
use Rattle.std.proofs.Common.{refl, inl, Some, true}
use Rattle.hippo_replay.specs.declared.faults.LoadFault.{LoadFault}
use Rattle.hippo_replay.proofs.LoadingLemmas.{Loads-ready}
use Rattle.hippo_keeper.proofs.Results.{ok_of, err_of}
use Rattle.hippo_replay.specs.declared.state.State.{State}
use Rattle.hippo_replay.specs.declared.faults.LoadFault.TheVariants as load_faults
use Rattle.hippo_program_args.specs.declared.endings.Ending.TheVariants.{KeeperFault, NoMemory}
use Rattle.hippo_keeper.proofs.TellingLemmas.{TellsOnceStarted-opened, TellsOnceStarted-then}
use Rattle.hippo_history_top.proofs.OutcomeLemmas.{show_call, show_kept, show_steps, show_ends, failed_call, short_call, unloaded_steps}
use Rattle.hippo_history_top.proofs.DamageLemmas.{damaged_call, damaged_found, damaged_steps, damaged_ends}
use Rattle.hippo_history_top.proofs.WriteLemmas.{CountsWrites-same}
use Rattle.hippo_history_top.proofs.top.show.Goals as goal

pub show_view-requires : goal.show_view-requires
show_view-requires g c = record {
  readable = record {
    ready = Loads-ready c.args.store.now (ok_of LoadFault c.in-Ok.state) (g.P.Keeper.state c.args.keeper.now) (g.P.Keeper.state c.load.new.keeper) c.args.steps.now c.load.new.steps c.in-Ok.ensures.loads refl;
    order = λ tells. (c.in-Ok.ensures.loads.found (c.in-Ok.ensures.loads.started refl) tells).order;
  };
}

pub returns-in-Ok-clause-call : goal.returns-in-Ok-clause-call
returns-in-Ok-clause-call g c = show_call c.args.store.now c.args.view.now c.in-Ok.state (g.P.Keeper.state c.args.keeper.now) (g.P.Keeper.state c.load.new.keeper) (g.P.Keeper.state c.show_view.new.keeper) c.show_view.result
    (g.K.Sink.written c.args.sink.now) (g.K.Sink.written c.show_view.new.sink) (g.K.Sink.faults c.args.sink.now) (g.K.Sink.faults c.show_view.new.sink) c.args.steps.now c.load.new.steps c.show_view.new.steps c.in-Ok.ensures.loads c.show_view.ensures.shows

pub returns-in-Ok-clause-ends : goal.returns-in-Ok-clause-ends
returns-in-Ok-clause-ends g c = λ tells. show_ends c.args.store.now c.args.view.now c.in-Ok.state (g.P.Keeper.state c.args.keeper.now) (g.P.Keeper.state c.load.new.keeper) (g.P.Keeper.state c.show_view.new.keeper) c.show_view.result
    (g.K.Sink.written c.args.sink.now) (g.K.Sink.written c.show_view.new.sink) (g.K.Sink.faults c.args.sink.now) (g.K.Sink.faults c.show_view.new.sink) c.args.steps.now c.load.new.steps c.show_view.new.steps c.in-Ok.ensures.loads c.show_view.ensures.shows tells _

pub returns-in-Ok-clause-idle : goal.returns-in-Ok-clause-idle
returns-in-Ok-clause-idle g c = λ tells started. show_kept c.args.store.now c.args.view.now c.in-Ok.state (g.P.Keeper.state c.args.keeper.now) (g.P.Keeper.state c.load.new.keeper) (g.P.Keeper.state c.show_view.new.keeper) c.show_view.result
    (g.K.Sink.written c.args.sink.now) (g.K.Sink.written c.show_view.new.sink) (g.K.Sink.faults c.args.sink.now) (g.K.Sink.faults c.show_view.new.sink) c.args.steps.now c.load.new.steps c.show_view.new.steps c.in-Ok.ensures.loads c.show_view.ensures.shows tells

pub returns-in-Ok-clause-steps : goal.returns-in-Ok-clause-steps
returns-in-Ok-clause-steps g c = λ tells. show_steps c.args.store.now c.args.view.now c.in-Ok.state (g.P.Keeper.state c.args.keeper.now) (g.P.Keeper.state c.load.new.keeper) (g.P.Keeper.state c.show_view.new.keeper) c.show_view.result
    (g.K.Sink.written c.args.sink.now) (g.K.Sink.written c.show_view.new.sink) (g.K.Sink.faults c.args.sink.now) (g.K.Sink.faults c.show_view.new.sink) c.args.steps.now c.load.new.steps c.show_view.new.steps c.in-Ok.ensures.loads c.show_view.ensures.shows tells

pub show_damaged-requires : goal.show_damaged-requires
show_damaged-requires g c =
    let loads = rw c.in-Err-Damaged.field-0-is at c.in-Err-Damaged.ensures.loads in
    record {
      readable = record {
        ready = Loads-ready c.args.store.now (err_of State (load_faults.Damaged c.in-Err-Damaged.place)) (g.P.Keeper.state c.args.keeper.now) (g.P.Keeper.state c.load.new.keeper) c.args.steps.now c.load.new.steps loads refl;
        order = λ tells. (loads.found (loads.started refl) tells).order;
      };
    }

pub returns-in-Err-Damaged-clause-call : goal.returns-in-Err-Damaged-clause-call
returns-in-Err-Damaged-clause-call g c = damaged_call c.args.store.now c.args.view.now c.in-Err-Damaged.place (g.P.Keeper.state c.args.keeper.now) (g.P.Keeper.state c.load.new.keeper) (g.P.Keeper.state c.show_damaged.new.keeper) c.show_damaged.result _
    (g.K.Sink.written c.args.sink.now) (g.K.Sink.written c.show_damaged.new.sink) (g.K.Sink.faults c.args.sink.now) (g.K.Sink.faults c.show_damaged.new.sink) c.args.steps.now c.load.new.steps c.show_damaged.new.steps (rw c.in-Err-Damaged.field-0-is at c.in-Err-Damaged.ensures.loads) c.show_damaged.ensures.shows

pub returns-in-Err-Damaged-clause-ends : goal.returns-in-Err-Damaged-clause-ends
returns-in-Err-Damaged-clause-ends g c = λ tells. damaged_ends c.args.store.now c.args.view.now c.in-Err-Damaged.place (g.P.Keeper.state c.args.keeper.now) (g.P.Keeper.state c.load.new.keeper) (g.P.Keeper.state c.show_damaged.new.keeper) c.show_damaged.result _
    (g.K.Sink.written c.args.sink.now) (g.K.Sink.written c.show_damaged.new.sink) (g.K.Sink.faults c.args.sink.now) (g.K.Sink.faults c.show_damaged.new.sink) c.args.steps.now c.load.new.steps c.show_damaged.new.steps (rw c.in-Err-Damaged.field-0-is at c.in-Err-Damaged.ensures.loads) c.show_damaged.ensures.shows tells

pub returns-in-Err-Damaged-clause-idle : goal.returns-in-Err-Damaged-clause-idle
returns-in-Err-Damaged-clause-idle g c = λ tells started. damaged_found c.args.store.now c.args.view.now c.in-Err-Damaged.place (g.P.Keeper.state c.args.keeper.now) (g.P.Keeper.state c.load.new.keeper) (g.P.Keeper.state c.show_damaged.new.keeper) c.show_damaged.result _
    (g.K.Sink.written c.args.sink.now) (g.K.Sink.written c.show_damaged.new.sink) (g.K.Sink.faults c.args.sink.now) (g.K.Sink.faults c.show_damaged.new.sink) c.args.steps.now c.load.new.steps c.show_damaged.new.steps (rw c.in-Err-Damaged.field-0-is at c.in-Err-Damaged.ensures.loads) c.show_damaged.ensures.shows tells

pub returns-in-Err-Damaged-clause-steps : goal.returns-in-Err-Damaged-clause-steps
returns-in-Err-Damaged-clause-steps g c = λ tells. damaged_steps c.args.store.now c.args.view.now c.in-Err-Damaged.place (g.P.Keeper.state c.args.keeper.now) (g.P.Keeper.state c.load.new.keeper) (g.P.Keeper.state c.show_damaged.new.keeper) c.show_damaged.result _
    (g.K.Sink.written c.args.sink.now) (g.K.Sink.written c.show_damaged.new.sink) (g.K.Sink.faults c.args.sink.now) (g.K.Sink.faults c.show_damaged.new.sink) c.args.steps.now c.load.new.steps c.show_damaged.new.steps (rw c.in-Err-Damaged.field-0-is at c.in-Err-Damaged.ensures.loads) c.show_damaged.ensures.shows tells

pub returns-in-Err-Damaged-clause-tells : goal.returns-in-Err-Damaged-clause-tells
returns-in-Err-Damaged-clause-tells g c =
    let loads = rw c.in-Err-Damaged.field-0-is at c.in-Err-Damaged.ensures.loads in
    TellsOnceStarted-then c.args.store.now (g.P.Keeper.state c.args.keeper.now) (g.P.Keeper.state c.load.new.keeper) (g.P.Keeper.state c.show_damaged.new.keeper) (loads.started refl) loads.opened c.show_damaged.ensures.shows.call.telling

pub returns-in-Err-Keeper-clause-call : goal.returns-in-Err-Keeper-clause-call
returns-in-Err-Keeper-clause-call g c = failed_call c.args.store.now (g.P.Keeper.state c.args.keeper.now) (g.P.Keeper.state c.load.new.keeper) c.args.steps.now c.load.new.steps (rw c.in-Err-Keeper.field-0-is at c.in-Err-Keeper.ensures.loads)

pub returns-in-Err-Keeper-clause-ends : goal.returns-in-Err-Keeper-clause-ends
returns-in-Err-Keeper-clause-ends g c = λ tells. inl (refl, λ started. c.in-Err-Keeper.ensures.loads.found started tells)

pub returns-in-Err-Keeper-clause-writes : goal.returns-in-Err-Keeper-clause-writes
returns-in-Err-Keeper-clause-writes g c = CountsWrites-same (Some KeeperFault) (g.K.Sink.faults c.args.sink.now) (λ e. cc)

pub returns-in-Err-Keeper-clause-steps : goal.returns-in-Err-Keeper-clause-steps
returns-in-Err-Keeper-clause-steps g c = λ tells. unloaded_steps c.args.store.now (g.P.Keeper.state c.args.keeper.now) (g.P.Keeper.state c.load.new.keeper) c.args.steps.now c.load.new.steps load_faults.Keeper (rw c.in-Err-Keeper.field-0-is at c.in-Err-Keeper.ensures.loads) tells

pub returns-in-Err-Keeper-clause-tells : goal.returns-in-Err-Keeper-clause-tells
returns-in-Err-Keeper-clause-tells g c = TellsOnceStarted-opened c.args.store.now (g.P.Keeper.state c.args.keeper.now) (g.P.Keeper.state c.load.new.keeper) c.in-Err-Keeper.ensures.loads.opened c.in-Err-Keeper.ensures.loads.call.telling.has_to

pub returns-in-Err-Memory-clause-call : goal.returns-in-Err-Memory-clause-call
returns-in-Err-Memory-clause-call g c = short_call c.args.store.now (g.P.Keeper.state c.args.keeper.now) (g.P.Keeper.state c.load.new.keeper) c.args.steps.now c.load.new.steps (rw c.in-Err-Memory.field-0-is at c.in-Err-Memory.ensures.loads)

pub returns-in-Err-Memory-clause-ends : goal.returns-in-Err-Memory-clause-ends
returns-in-Err-Memory-clause-ends g c = λ tells. inl (refl, λ started. c.in-Err-Memory.ensures.loads.found started tells)

pub returns-in-Err-Memory-clause-writes : goal.returns-in-Err-Memory-clause-writes
returns-in-Err-Memory-clause-writes g c = CountsWrites-same (Some NoMemory) (g.K.Sink.faults c.args.sink.now) (λ e. cc)

pub returns-in-Err-Memory-clause-steps : goal.returns-in-Err-Memory-clause-steps
returns-in-Err-Memory-clause-steps g c = λ tells. unloaded_steps c.args.store.now (g.P.Keeper.state c.args.keeper.now) (g.P.Keeper.state c.load.new.keeper) c.args.steps.now c.load.new.steps load_faults.Memory (rw c.in-Err-Memory.field-0-is at c.in-Err-Memory.ensures.loads) tells

pub returns-in-Err-Memory-clause-tells : goal.returns-in-Err-Memory-clause-tells
returns-in-Err-Memory-clause-tells g c = TellsOnceStarted-opened c.args.store.now (g.P.Keeper.state c.args.keeper.now) (g.P.Keeper.state c.load.new.keeper) c.in-Err-Memory.ensures.loads.opened c.in-Err-Memory.ensures.loads.call.telling.has_to

pub returns-in-Ok-clause-tells : goal.returns-in-Ok-clause-tells
returns-in-Ok-clause-tells g c =
    TellsOnceStarted-then c.args.store.now (g.P.Keeper.state c.args.keeper.now) (g.P.Keeper.state c.load.new.keeper) (g.P.Keeper.state c.show_view.new.keeper) (c.in-Ok.ensures.loads.started refl) c.in-Ok.ensures.loads.opened c.show_view.ensures.shows.call.telling
