-- One more is changed, and keeps its audit.
use Rattle.std.proofs.Common.{◌∙◌, ◌<◌, length, arith}
use Rattle.std.specs.Prelude.{IfSome, option_map}
use Rattle.hippo_engine_world.specs.Auditing.{watched, IsBefore, IsAfter}
use Rattle.hippo_engine_world.proofs.SlotLemmas.{map_kept, within_seen, changed_more}
use Rattle.hippo_engine_world.proofs.watches.change_each.Goals as goal

pub loop-place-preserved : goal.loop-place-preserved
loop-place-preserved c =
    let old = c.index-watches-place.result in
    let new = c.change_one.new.held in
    let watches = c.loop-place.watches in
    let place = c.loop-place.place in
    let seen = c.loop-place.invariant.audits in
    let within : place < length watches = within_seen (option_map watched) c.args.watches.now watches place seen (omega (arith, c.loop-place-test.true)) in
    record {
      audits = map_kept (option_map watched) watches place old new within c.change_one.ensures.audit ∙ seen;
      changes = λ history entry is next all.
          changed_more (λ held. IfSome held (IsBefore c.args.way history entry)) (λ held. IfSome held (IsAfter c.args.way history entry)) watches place old new within (c.change_one.ensures.changes history entry is next) (c.loop-place.invariant.changes history entry is next all);
    }
