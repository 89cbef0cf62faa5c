-- For any input, the lines read so far have their replies; each line takes at least one byte.
use Rattle.std.proofs.Common.{◌≡◌, ◌-◌, ◌≤◌, None, true, false, IsFalse}
use Rattle.hippo_values.specs.Texts.{Txt}
use Rattle.hippo_io.specs.HandingOut.{bytes_handed_out, input_limit}
use Rattle.hippo_io.specs.Inputs.{ForEachInput, ReadsMore}
use Rattle.hippo_model.specs.Terms.{History}
use Rattle.hippo_keeper.specs.Keeping.{IsAfterCall}
use Rattle.hippo_engine.specs.Carrying.{AtWork}
use Rattle.hippo_serve_args.specs.declared.calls.Setting.{Setting}
use Rattle.hippo_program_args.specs.Endings.{part_as_call}
use Rattle.hippo_serve_jobs.specs.Outside.{Told, outside}
use Rattle.hippo_serve_jobs.specs.Runs.{IsHandingOut, HasServed}
use Rattle.hippo_serve_jobs.proofs.serving.Serving.serve_all.Given as goal

abbrev pub invariant-loop-ending : goal.invariant-loop-ending
invariant-loop-ending g l = record {
  unfailed : l.self.reader.failure ≡ None;
  limit : l.self.reader.taken ≤ input_limit;
  source_faults : g.S.Source.faults l.source ≡ g.S.Source.faults l.initial.source;
  sink_faults : g.K.Sink.faults l.sink ≡ g.K.Sink.faults l.initial.sink;
  call : IsAfterCall true false (part_as_call None) (g.P.Keeper.state l.initial.keeper) (g.P.Keeper.state l.keeper);
  at_work : AtWork l.self.engine (g.P.Keeper.state l.keeper);
  on : ReadsMore (g.S.Source.reads l.initial.source) (g.S.Source.reads l.source);
  going : IsFalse l.self.reader.ended → (g.S.Source.reads l.source).ended ≡ (g.S.Source.reads l.initial.source).ended;
  reading : ForEachInput (g.S.Source.left l.initial.source) (g.S.Source.reads l.initial.source) (g.S.Source.left l.source) (g.S.Source.reads l.source)
      (λ left left'. (input : Txt) → IsHandingOut input l.initial.self.reader left → IsHandingOut input l.self.reader left');
  served : (g.P.Keeper.state l.keeper).tells → ForEachInput (g.S.Source.left l.initial.source) (g.S.Source.reads l.initial.source) (g.S.Source.left l.source) (g.S.Source.reads l.source)
      (λ left left'. (setting : Setting) (history : History) (before : Told)
      → HasServed setting l.job history before l.initial.self.reader l.initial.self.engine
      (outside left (g.K.Sink.written l.initial.sink) (g.P.Keeper.state l.initial.keeper) l.initial.steps)
      → HasServed setting l.job history before l.self.reader l.self.engine
      (outside left' (g.K.Sink.written l.sink) (g.P.Keeper.state l.keeper) l.steps));
}

abbrev pub decreases-loop-ending : goal.decreases-loop-ending
decreases-loop-ending g l = input_limit - bytes_handed_out l.self.reader
