-- Sequences of calls on a keeper.
use Rattle.std.proofs.Common.{◌≡◌, ◌∙◌, sym, refl, arith, subst, ℕ, Bool, true, false, Result}
use Rattle.std.proofs.lemmas.Bool.{false≢true}
use Rattle.hippo_io.specs.Faults.{HasRisen}
use Rattle.hippo_keeper.specs.declared.faults.KeeperFault.{KeeperFault}
use Rattle.hippo_keeper.specs.Answering.{has_failed}
use Rattle.hippo_keeper.specs.Keeping.{KeeperState, HasToTell, KeepsTelling, IsReady, IsAfterCall, Stays, KeepsSame}

-- a keeper keeps the same if nothing happens
pub KeepsSame-here : (keeper : KeeperState) → KeepsSame keeper keeper
KeepsSame-here keeper = record { same = refl; stop = λ store survives. survives; some = λ some. some }

pub KeepsSame-then : (first second third : KeeperState) → KeepsSame first second → KeepsSame second third → KeepsSame first third
KeepsSame-then first second third one other = record {
  same = other.same ∙ one.same;
  stop = λ store survives. one.stop store (other.stop store survives);
  some = λ some. other.some (one.some some);
}

pub KeepsSame-Stays : (before after : KeeperState) → Stays before after → KeepsSame before after
KeepsSame-Stays before after stays = record { same = stays.same; stop = stays.stop; some = λ some. stays.some }

-- a keeper that meets HasToTell and stays as it was keeps telling
pub KeepsTelling-here : (keeper : KeeperState) → HasToTell keeper → KeepsTelling keeper keeper
KeepsTelling-here keeper has_to = record { clean = λ clean. clean; own = λ own. own; memory = λ memory. memory; has_to = has_to }

pub KeepsTelling-then : (first second third : KeeperState) → KeepsTelling first second → KeepsTelling second third → KeepsTelling first third
KeepsTelling-then first second third one other = record {
  clean = λ clean. one.clean (other.clean clean);
  own = λ own. other.own (one.own own);
  memory = λ memory. other.memory (one.memory memory);
  has_to = other.has_to;
}

-- a call that did not fail, followed by another call
pub IsAfterCall-then : {A B : Type 0} (closed : Bool) (first : Result A KeeperFault) (second : Result B KeeperFault) (before mid after : KeeperState) → has_failed first ≡ false → IsAfterCall true false first before mid → IsAfterCall true closed second mid after → IsAfterCall true closed second before after
IsAfterCall-then closed first second before mid after good one other =
    let same : mid.faults ≡ before.faults = one.faults.unfailed good in
    record {
      is_sound = other.is_sound;
      started_is = other.started_is;
      closed_is = other.closed_is;
      spent_is = other.spent_is;
      told = λ tells. one.told (other.told tells);
      telling = KeepsTelling-then before mid after one.telling other.telling;
      faults = record {
        cause = λ failed. subst (λ (n : ℕ). HasRisen n after.faults) same (other.faults.cause failed);
        unfailed = λ fine. other.faults.unfailed fine ∙ same;
        rises = omega (arith, same, other.faults.rises);
      };
    }

-- the answer may be replaced by another one, if both failed or neither did
pub IsAfterCall-as : {A B : Type 0} (started closed : Bool) (one : Result A KeeperFault) (other : Result B KeeperFault) (before after : KeeperState) → has_failed other ≡ has_failed one → IsAfterCall started closed one before after → IsAfterCall started closed other before after
IsAfterCall-as started closed one other before after same call = record {
  is_sound = call.is_sound;
  started_is = call.started_is;
  closed_is = call.closed_is;
  spent_is = call.spent_is ∙ sym same;
  told = call.told;
  telling = call.telling;
  faults = record {
    cause = λ failed. call.faults.cause (sym same ∙ failed);
    unfailed = λ fine. call.faults.unfailed (sym same ∙ fine);
    rises = call.faults.rises;
  };
}

-- a ready keeper is in the state after a call that did nothing
pub IsAfterCall-none : {A : Type 0} (answer : Result A KeeperFault) (keeper : KeeperState) → has_failed answer ≡ false → IsReady true keeper → IsAfterCall true false answer keeper keeper
IsAfterCall-none answer keeper good ready = record {
  is_sound = ready.is_sound;
  started_is = ready.started_is;
  closed_is = ready.not_closed;
  spent_is = ready.not_spent ∙ sym good;
  told = λ tells. tells;
  telling = KeepsTelling-here keeper ready.has_to_tell;
  faults = record { cause = λ failed. absurd (false≢true (sym good ∙ failed)); unfailed = λ fine. refl; rises = omega arith };
}

-- a keeper is ready again after a call that did not fail
pub IsReady-after : {A : Type 0} (result : Result A KeeperFault) (before after : KeeperState) → has_failed result ≡ false → IsAfterCall true false result before after → IsReady true after
IsReady-after result before after good call = record {
  is_sound = call.is_sound;
  started_is = call.started_is;
  not_closed = call.closed_is;
  not_spent = call.spent_is ∙ good;
  has_to_tell = call.telling.has_to;
}
