-- Entries are shown, the rules or authorizations in force, a digest, or what was disclosed of a
-- patient.
use Rattle.std.proofs.Common.{sym, subst}
use Rattle.hippo_history_top.specs.declared.asking.View.{View}
use Rattle.hippo_history_top.specs.Progress.{ShowsLoaded}
use Rattle.hippo_history_top.proofs.PageLemmas.{loaded_entries}
use Rattle.hippo_history_top.proofs.top.show_view.Goals as goal

pub returns-in-Entries : goal.returns-in-Entries
returns-in-Entries g c = record {
  shows = subst
      (λ (view : View). ShowsLoaded c.args.state view c.show_all-ending.result (g.P.Keeper.state c.args.keeper.now) (g.P.Keeper.state c.show_all-ending.new.keeper)
      (g.K.Sink.written c.args.sink.now) (g.K.Sink.written c.show_all-ending.new.sink) (g.K.Sink.faults c.args.sink.now) (g.K.Sink.faults c.show_all-ending.new.sink) c.args.steps.now c.show_all-ending.new.steps)
      (sym c.in-Entries.is)
      (loaded_entries c.args.state (g.K.Sink.written c.args.sink.now) (g.K.Sink.written c.show_all-ending.new.sink) (g.K.Sink.faults c.args.sink.now) (g.K.Sink.faults c.show_all-ending.new.sink)
      c.in-Entries.excerpt c.show_all-ending.result (g.P.Keeper.state c.args.keeper.now) (g.P.Keeper.state c.show_all-ending.new.keeper) c.args.steps.now c.show_all-ending.new.steps c.show_all-ending.ensures.shows);
}

pub returns-in-Rules : goal.returns-in-Rules
returns-in-Rules g c = record {
  shows = subst
      (λ (view : View). ShowsLoaded c.args.state view c.show_rules.result (g.P.Keeper.state c.args.keeper.now) (g.P.Keeper.state c.show_rules.new.keeper)
      (g.K.Sink.written c.args.sink.now) (g.K.Sink.written c.show_rules.new.sink) (g.K.Sink.faults c.args.sink.now) (g.K.Sink.faults c.show_rules.new.sink) c.args.steps.now c.show_rules.new.steps)
      (sym c.in-Rules.is)
      c.show_rules.ensures.shows;
}

pub returns-in-Users : goal.returns-in-Users
returns-in-Users g c = record {
  shows = subst
      (λ (view : View). ShowsLoaded c.args.state view c.show_users.result (g.P.Keeper.state c.args.keeper.now) (g.P.Keeper.state c.show_users.new.keeper)
      (g.K.Sink.written c.args.sink.now) (g.K.Sink.written c.show_users.new.sink) (g.K.Sink.faults c.args.sink.now) (g.K.Sink.faults c.show_users.new.sink) c.args.steps.now c.show_users.new.steps)
      (sym c.in-Users.is)
      (c.show_users.ensures.shows c.args.state);
}

pub returns-in-Digest : goal.returns-in-Digest
returns-in-Digest g c = record {
  shows = subst
      (λ (view : View). ShowsLoaded c.args.state view c.show_digest.result (g.P.Keeper.state c.args.keeper.now) (g.P.Keeper.state c.show_digest.new.keeper)
      (g.K.Sink.written c.args.sink.now) (g.K.Sink.written c.show_digest.new.sink) (g.K.Sink.faults c.args.sink.now) (g.K.Sink.faults c.show_digest.new.sink) c.args.steps.now c.show_digest.new.steps)
      (sym c.in-Digest.is)
      (c.show_digest.ensures.shows c.args.state);
}

pub returns-in-Carry : goal.returns-in-Carry
returns-in-Carry g c = record {
  shows = subst
      (λ (view : View). ShowsLoaded c.args.state view c.show_carried.result (g.P.Keeper.state c.args.keeper.now) (g.P.Keeper.state c.show_carried.new.keeper)
      (g.K.Sink.written c.args.sink.now) (g.K.Sink.written c.show_carried.new.sink) (g.K.Sink.faults c.args.sink.now) (g.K.Sink.faults c.show_carried.new.sink) c.args.steps.now c.show_carried.new.steps)
      (sym c.in-Carry.is)
      c.show_carried.ensures.shows;
}

pub returns-in-Patient : goal.returns-in-Patient
returns-in-Patient g c = record {
  shows = subst
      (λ (view : View). ShowsLoaded c.args.state view c.show_patient-ending.result (g.P.Keeper.state c.args.keeper.now) (g.P.Keeper.state c.show_patient-ending.new.keeper)
      (g.K.Sink.written c.args.sink.now) (g.K.Sink.written c.show_patient-ending.new.sink) (g.K.Sink.faults c.args.sink.now) (g.K.Sink.faults c.show_patient-ending.new.sink) c.args.steps.now c.show_patient-ending.new.steps)
      (sym c.in-Patient.is)
      c.show_patient-ending.ensures.shows;
}
