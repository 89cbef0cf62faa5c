-- Those before a place are changed, and the others are not yet.
use Rattle.std.proofs.Common.{◌≡◌, map}
use Rattle.std.specs.Prelude.{IfSome, option_map}
use Rattle.std.specs.List.{All}
use Rattle.hippo_model.specs.declared.entry.Entry.{Entry}
use Rattle.hippo_model.specs.Terms.{History}
use Rattle.hippo_model.proofs.ChangeLoops.{AreChangedTo}
use Rattle.hippo_watch.specs.Watches.{ComesNext}
use Rattle.hippo_engine_world.specs.Auditing.{watched, IsBefore, IsAfter}
use Rattle.hippo_engine_world.proofs.watches.change_each.Given as goal

abbrev pub invariant-loop-place : goal.invariant-loop-place
invariant-loop-place l = record {
  audits : map (option_map watched) l.watches ≡ map (option_map watched) l.initial.watches;
  changes : (history : History) (entry : Entry) → entry.act ≡ l.act → ComesNext l.tables history entry
      → All (λ held. IfSome held (IsBefore l.way history entry)) l.initial.watches
      → AreChangedTo (λ held. IfSome held (IsBefore l.way history entry)) (λ held. IfSome held (IsAfter l.way history entry)) l.watches l.place;
}
