-- Each part of the host is one that the top function speaks of.
use Rattle.std.proofs.Common.{◌≡◌, inl, inr, refl, ap}
use Rattle.hippo_program_start.specs.Hosts.{IsSameKeeper}
use Rattle.hippo_program_start.proofs.HostLemmas.{IsSameKeeper-same}
use Rattle.hippo_history_top.proofs.program.HistoryProgram.call.Goals as goal

pub returns : goal.returns
returns g c =
    let old = c.args.host.now in
    let new = c.history_top.new in
    let top = c.history_top.ensures in
    let state = g.P.Keeper.state in
    let silent : new.sink ≡ old.sink → g.K.Sink.written new.sink ≡ g.K.Sink.written old.sink = λ same. ap g.K.Sink.written same in
    let same_keeper : new.keeper ≡ old.keeper → IsSameKeeper (state old.keeper) (state new.keeper) = λ same. IsSameKeeper-same state old.keeper new.keeper same in
    record {
      answers = record {
        listed = ((λ none. (top.refused none).0, top.accepted), top.status);
        unread = refl;
        reads = refl;
        writes = (top.write_fault, top.unfailed_write);
        keeper = λ not. (top.unfailed_keeper not).0;
        keeper_fault = λ is. elim (top.keeper_fault is) [
          | inl none ↦ inl none
          | inr risen ↦ inr risen.0
        ];
        untouched = λ none. (same_keeper (top.refused none).1, (top.refused none).2);
        usage_said = top.usage;
        usage_cut = top.usage_cut;
        shows = λ call asked. record {
          looked = λ not. elim (top.looked call asked not) [
            | inl there ↦ inl there
            | inr none ↦ inr (none.0, none.1, same_keeper none.2, none.3)
          ];
          tells = top.tells call asked;
          shown = λ is tells. top.shown call asked is tells;
          keeper_cut = λ is. elim (top.keeper_cut call asked is) [
            | inl none ↦ inl (none.0, same_keeper none.1, none.2)
            | inr ends ↦ inr (λ tells. elim (ends tells) [
              | inl idle ↦ inl (silent idle.0, idle.1)
              | inr front ↦ inr front
            ])
          ];
          write_cut = λ is. elim (top.write_cut call asked is) [
            | inl none ↦ inl (none.0, same_keeper none.1, none.2)
            | inr ends ↦ inr ends
          ];
          damaged = λ is tells. top.damaged call asked is tells;
          memory_cut = λ is tells. elim (top.memory_cut call asked is tells) [
            | inl idle ↦ inl (silent idle.0, idle.1)
            | inr front ↦ inr front
          ];
          same = λ tells. top.same call asked tells;
        };
        steps_within = top.steps;
      };
    }
