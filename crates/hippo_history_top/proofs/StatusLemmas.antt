-- Each status belongs to one ending.
use Rattle.std.proofs.Common.{◌≡◌, ◌≢◌, ◌⊎◌, ◌∙◌, inl, inr, ℕ, Bool, true, false, Any, Option, Some, arith, refl, sym, ap, subst}
use Rattle.std.proofs.lemmas.Bool.{false≢true}
use Rattle.std.proofs.lemmas.Option.{same_Some}
use Rattle.hippo_values.specs.Texts.{Txt}
use Rattle.hippo_io.specs.Faults.{HasRisen}
use Rattle.hippo_keeper.specs.Keeping.{KeeperState, IsAfterCall}
use Rattle.hippo_program_args.specs.Saying.{Says}
use Rattle.hippo_program_args.specs.Starting.{IsIdle}
use Rattle.hippo_history_top.specs.declared.asking.Call.{Call}
use Rattle.hippo_history_top.specs.declared.asking.View.{View}
use Rattle.hippo_program_args.specs.declared.endings.Ending.{Ending}
use Rattle.hippo_program_args.specs.declared.endings.Ending.TheVariants.{Served, Refused, KeeperFault, WriteFault, Damaged, NoMemory}
use Rattle.hippo_program_args.specs.Endings.{status_of, ending_as_call}
use Rattle.hippo_history_top.specs.Damage.{ShowsToDamage, BeginsToDamage}
use Rattle.hippo_history_top.specs.Endings.{ends_showing, showing_statuses}
use Rattle.hippo_history_top.specs.Saying.{CountsWrites}
use Rattle.hippo_history_top.specs.Outcomes.{ShowsView, BeginsView, Ends}

-- the status of an ending of showing is one of six
pub status-listed : (ending : Ending) (status : ℕ) → ends_showing (Some ending) ≡ true → status ≡ status_of ending → Any (λ listed. status ≡ listed) showing_statuses
status-listed Served status listed e = (0, 0, omega arith, refl, e)
status-listed KeeperFault status listed e = (2, 3, omega arith, refl, e)
status-listed WriteFault status listed e = (3, 5, omega arith, refl, e)
status-listed Damaged status listed e = (4, 6, omega arith, refl, e)
status-listed NoMemory status listed e = (5, 7, omega arith, refl, e)
status-listed ending status listed e = absurd (false≢true listed)

-- so is the status of a refusal
pub refusal-listed : (ending : Ending) (status : ℕ) (line : Txt) (written written' : Option Txt) (faults faults' : ℕ) → Says Refused line WriteFault ending written written' faults faults' → status ≡ status_of ending
    → Any (λ listed. status ≡ listed) showing_statuses
refusal-listed ending status line written written' faults faults' (inl all) e = (1, 2, omega arith, refl, e ∙ ap status_of all.0)
refusal-listed ending status line written written' faults faults' (inr front) e = (3, 5, omega arith, refl, e ∙ ap status_of front.0)

-- so is the status when there is no store
pub missing-listed : (ending : Ending) (status : ℕ) (line : Txt) (written written' : Option Txt) (faults faults' : ℕ) → Says KeeperFault line WriteFault ending written written' faults faults' → status ≡ status_of ending
    → Any (λ listed. status ≡ listed) showing_statuses
missing-listed ending status line written written' faults faults' (inl all) e = (2, 3, omega arith, refl, e ∙ ap status_of all.0)
missing-listed ending status line written written' faults faults' (inr front) e = (3, 5, omega arith, refl, e ∙ ap status_of front.0)

-- the result of showing, by its status
module _ (view : View) (name : Txt) (before after : KeeperState) (written written' : Option Txt) (unwritten : Type 0) where
  abbrev pub ByStatus : ℕ → Type 0
  ByStatus status = (status ≡ 0 → ShowsView view name before after written written')
      × (status ≡ 3 → (unwritten × IsIdle name before after) ⊎ BeginsView view name before after written written')
      × (status ≡ 5 → BeginsToDamage view name before after written written' ⊎ BeginsView view name before after written written')
      × (status ≡ 6 → ShowsToDamage view name before after written written')
      × (status ≡ 7 → (unwritten × IsIdle name before after) ⊎ (BeginsToDamage view name before after written written' ⊎ BeginsView view name before after written written'))

  pub by_status : (ending : Ending) → Ends ending unwritten view name before after written written' → ByStatus (status_of ending)
  by_status Served ends = (λ e. ends, λ e. absurd (omega (arith, e)), λ e. absurd (omega (arith, e)), λ e. absurd (omega (arith, e)), λ e. absurd (omega (arith, e)))
  by_status KeeperFault ends = (λ e. absurd (omega (arith, e)), λ e. ends, λ e. absurd (omega (arith, e)), λ e. absurd (omega (arith, e)), λ e. absurd (omega (arith, e)))
  by_status WriteFault ends = (λ e. absurd (omega (arith, e)), λ e. absurd (omega (arith, e)), λ e. ends, λ e. absurd (omega (arith, e)), λ e. absurd (omega (arith, e)))
  by_status Damaged ends = (λ e. absurd (omega (arith, e)), λ e. absurd (omega (arith, e)), λ e. absurd (omega (arith, e)), λ e. ends, λ e. absurd (omega (arith, e)))
  by_status NoMemory ends = (λ e. absurd (omega (arith, e)), λ e. absurd (omega (arith, e)), λ e. absurd (omega (arith, e)), λ e. absurd (omega (arith, e)), λ e. ends)
  by_status ending ends = absurd ends

-- what was found in the words is what they ask for
pub as_asked : (P : View → Txt → Type 0) (found call : Call) (store : Txt) → Some found ≡ Some call → store ≡ found.store → P found.view store → P call.view call.store
as_asked P found call store same is holds = subst (λ (c : Call). P c.view c.store) (same_Some found call same) (subst (P found.view) is holds)

-- faults by the status
module _ (ending : Ending) (status : ℕ) (is : status ≡ status_of ending) where
  pub write_faults : (faults faults' : ℕ) → CountsWrites (Some ending) faults faults' → (status ≡ 5 → HasRisen faults faults') × (status ≢ 5 → faults' ≡ faults)
  write_faults faults faults' writes = (λ e. writes.cause (ap Some (of_5 ending (sym is ∙ e))), λ other. writes.unfailed (λ e. other (is ∙ ap status_of (same_Some ending WriteFault e))))
    where
      of_5 : (ending : Ending) → status_of ending ≡ 5 → ending ≡ WriteFault
      of_5 WriteFault e = refl
      of_5 ending e = absurd (omega (arith, e))

  pub keeper_faults : (started closed : Bool) (before after : KeeperState) → IsAfterCall started closed (ending_as_call ending) before after
      → (status ≡ 3 → HasRisen before.faults after.faults × (after.spent ≡ true)) × (status ≢ 3 → (after.faults ≡ before.faults) × (after.spent ≡ false))
  keeper_faults started closed before after call = by_ending ending is call
    where
      by_ending : (ending : Ending) → status ≡ status_of ending → IsAfterCall started closed (ending_as_call ending) before after
          → (status ≡ 3 → HasRisen before.faults after.faults × (after.spent ≡ true)) × (status ≢ 3 → (after.faults ≡ before.faults) × (after.spent ≡ false))
      by_ending KeeperFault is call = (λ e. (call.faults.cause refl, call.spent_is), λ other. absurd (other is))
      by_ending ending is call = (λ e. absurd (omega (arith, is, e)), λ other. (call.faults.unfailed refl, call.spent_is))
