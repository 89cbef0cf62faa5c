-- What storing an entry says, whatever is returned with it.
use Rattle.std.proofs.Common.{refl, true, false}
use Rattle.hippo_model.specs.declared.entry.Entry.{Entry}
use Rattle.hippo_keeper.specs.declared.faults.KeeperFault.{KeeperFault}
use Rattle.hippo_keeper.specs.Keeping.{KeeperState}
use Rattle.hippo_keeper.proofs.CallLemmas.{IsAfterCall-as}
use Rattle.hippo_keeper.proofs.Results.{ok_of}
use Rattle.hippo_replay.specs.declared.state.State.{State}
use Rattle.hippo_replay.specs.Recording.{KeepsEntry}

-- what is stored does not depend on what is returned
pub KeepsEntry-ok : {A B : Type 0} (one : A) (other : B) (entry : Entry) (held : State) (before after : KeeperState) → KeepsEntry entry (ok_of KeeperFault one) held before after → KeepsEntry entry (ok_of KeeperFault other) held before after
KeepsEntry-ok one other entry held before after keeps = record {
  call = IsAfterCall-as true false (ok_of KeeperFault one) (ok_of KeeperFault other) before after refl keeps.call;
  follows = keeps.follows;
  kept = keeps.kept;
  failed = keeps.failed;
  same = keeps.same;
}
