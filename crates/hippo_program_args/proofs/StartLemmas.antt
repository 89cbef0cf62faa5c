-- How a program ends when nothing was loaded.
use Rattle.std.proofs.Common.{ℕ, inl, inr, Option, refl, sym, subst}
use Rattle.hippo_values.specs.Texts.{Txt}
use Rattle.hippo_keeper.specs.Keeping.{KeeperState}
use Rattle.hippo_keeper.proofs.Results.{err_of}
use Rattle.hippo_replay.specs.declared.faults.LoadFault.{LoadFault}
use Rattle.hippo_replay.specs.declared.faults.LoadFault.TheVariants.{Keeper, Damaged, Memory}
use Rattle.hippo_replay.specs.declared.state.State.{State}
use Rattle.hippo_replay.specs.Loading.{Loads}
use Rattle.hippo_program_args.specs.Starting.{IsIdle, KeepsDamaged, SaysDamaged, BeginsDamaged, Stops}

module _ (name : Txt) (before after : KeeperState) (start end : ℕ) where
  -- a load that found damage
  kept_damaged : (place : ℕ) → Loads name (err_of State (Damaged place)) before after start end → after.tells → KeepsDamaged name place before after
  kept_damaged place loads tells = record { kept = loads.found (loads.started refl) tells; damaged = loads.damaged place refl tells }

  -- a property holds of the ending with which a program stops if it holds in each case: nothing is
  -- written and the keeper is idle; the place of the damage is written; or a prefix of that line is
  -- written
  module _ {Ending : Type 0} (ending_of : LoadFault → Ending) (cut : Ending) (ends : Ending → Type 0) (unwritten : Type 0) (written written' : Option Txt) (faults faults' : ℕ)
      (failed : unwritten → IsIdle name before after → ends (ending_of Keeper)) (short : unwritten → IsIdle name before after → ends (ending_of Memory))
      (said : (place : ℕ) → SaysDamaged name before after written written' → ends (ending_of (Damaged place))) (begun : BeginsDamaged name before after written written' → ends cut) where
    pub ends_by_stop : (fault : LoadFault) (result : Ending) → Stops ending_of cut fault result unwritten written written' faults faults'
        → Loads name (err_of State fault) before after start end → after.tells → ends result
    ends_by_stop Keeper result stops loads tells = subst ends (sym stops.0) (failed stops.1 (λ started. loads.found started tells))
    ends_by_stop (Damaged place) result stops loads tells =
        let kept = kept_damaged place loads tells in
        elim stops [
          | inl all ↦ subst ends (sym all.0) (said place (record { place = place; kept = kept; said = all.1 }))
          | inr front ↦ subst ends (sym front.0) (begun (record { place = place; kept = kept; said = front.1 }))
        ]
    ends_by_stop Memory result stops loads tells = subst ends (sym stops.0) (short stops.1 (λ started. loads.found started tells))
