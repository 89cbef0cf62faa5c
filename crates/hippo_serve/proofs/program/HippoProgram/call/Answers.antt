-- Each part of the host is one that the top function speaks of.
use Rattle.std.proofs.Common.{rules, ◌≡◌, refl, ap}
use Rattle.hippo_io.specs.Inputs.{left_in}
use Rattle.hippo_program_start.specs.Hosts.{HostState, host_state, input_state, IsUnread, IsSilent, IsUntouched, IsSameKeeper}
use Rattle.hippo_program_start.specs.Statuses.{fault_counts}
use Rattle.hippo_program_start.proofs.HostLemmas.{IsSameKeeper-same}
use Rattle.hippo_serve_args.specs.CommandLine.{call_of}
use Rattle.hippo_serve.specs.Asking.{store_of}
use Rattle.hippo_serve.specs.Calls.{seen_with}
use Rattle.hippo_serve.proofs.CallLemmas.{call_asked, run_on_host, check_on_host}
use Rattle.hippo_serve.proofs.program.HippoProgram.call.Goals as goal

pub returns : goal.returns
returns g c =
    let words = c.args.words.now in
    let old = c.args.host.now in
    let new = c.hippo_top.new in
    let top = c.hippo_top.ensures in
    let left = g.S.Source.left in
    let reads = g.S.Source.reads in
    let state = g.P.Keeper.state in
    let before : HostState = host_state (input_state (left old.source) (reads old.source)) (g.K.Sink.written old.sink) (fault_counts (g.S.Source.faults old.source) (g.K.Sink.faults old.sink)) (state old.keeper) old.steps in
    let after : HostState = host_state (input_state (left new.source) (reads new.source)) (g.K.Sink.written new.sink) (fault_counts (g.S.Source.faults new.source) (g.K.Sink.faults new.sink)) (state new.keeper) new.steps in
    let unread : new.source ≡ old.source → IsUnread before after = λ same. ap (λ s. input_state (left s) (reads s)) same in
    let silent : new.sink ≡ old.sink → IsSilent before after = λ same. ap g.K.Sink.written same in
    let same_keeper : new.keeper ≡ old.keeper → IsSameKeeper before.keeper after.keeper = λ same. IsSameKeeper-same state old.keeper new.keeper same in
    record {
      answers = record {
        fits = record {
          listed = ((λ none. (top.refused none).0, λ call asked. top.accepted (call_asked (call_of words) call asked)), top.status);
          reads = (top.read_fault, top.unfailed_read);
          writes = (top.write_fault, top.unfailed_write);
          keeper = (λ is. (top.keeper_fault is).0, λ not. (top.unfailed_keeper not).0);
        };
        refuses = record {
          untouched = λ none. (unread (top.refused none).1, same_keeper (top.refused none).2, (top.refused none).3);
          usage_said = top.usage;
          usage_cut = top.usage_cut;
        };
        tells = top.tells;
        serves = record {
          served = λ job setting asks tells view fits. run_on_host _ _ _ _ unread silent setting job (store_of words)
              (seen_with (left_in view (left old.source) (reads old.source)) before)
              (seen_with (left_in view (left new.source) (reads new.source)) after)
              c.hippo_top.result (top.served job setting asks tells view fits);
          taken = top.taken;
        };
        checks = λ check. record {
          counted = λ tells. check_on_host _ _ silent (store_of words) (seen_with (left old.source) before) (seen_with (left new.source) after)
              c.hippo_top.result (top.counted check tells);
          unread = unread (top.unread check);
          same = top.same check;
        };
        drills = λ size number drill. record {
          drilled = top.drilled size number drill;
          drill_cut = top.drill_cut size number drill;
          untouched = (unread (top.apart size number drill).1, same_keeper (top.apart size number drill).2, (top.apart size number drill).3);
        };
        damaged = λ is tells. (unread (top.damaged is tells).0, (top.damaged is tells).1);
        nothing = λ is. (unread (top.nothing is).0, silent (top.nothing is).1, (top.nothing is).2);
      };
    }
