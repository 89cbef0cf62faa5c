-- What EXPLAIN finds, and what it does.
use Rattle.std.specs.Prelude.{◌≡◌, ◌⊎◌, ◌<◌, ◌≤◌, ℕ, ◌+◌, ℤ, true, false, List, map, length, Option, Some, None, Result, Ok, Err, OnOk}
use Rattle.hippo_values.specs.Texts.{Txt}
use Rattle.hippo_model.specs.declared.entry.Entry.{Entry}
use Rattle.hippo_model.specs.Denials.{Denial, denials}
use Rattle.hippo_model.specs.StoredForms.{stored}
use Rattle.hippo_model.specs.Terms.{History}
use Rattle.hippo_model.specs.Versions.{versions}
use Rattle.hippo_keeper.specs.declared.faults.KeeperFault.{KeeperFault}
use Rattle.hippo_keeper.specs.Keeping.{KeeperState, IsAfterCall, KeepsSame}
use Rattle.hippo_typing.specs.Meanings.{meaning}
use Rattle.hippo_backlog.specs.declared.faults.ReadFault.TheVariants.{Keeper, Damaged, Memory}
use Rattle.hippo_audit_explain.specs.declared.faults.DenialsFault.{DenialsFault}
use Rattle.hippo_audit_explain.specs.declared.faults.DenialsFault.TheVariants.{Read, TooMany}
use Rattle.hippo_audit_explain.specs.Denying as listing
use Rattle.hippo_audit_explain.specs.Denying.{Denies}
use Rattle.hippo_replay.specs.declared.state.State.{State}
use Rattle.hippo_replay.specs.Standing.{Represents}
use Rattle.hippo_report.specs.declared.speaker.Speaker.TheVariants.{Console}
use Rattle.hippo_report.specs.declared.refusal.Refusal.TheVariants as refusals
use Rattle.hippo_report.specs.Refusals.{refusal_line}
use Rattle.hippo_engine_rules.specs.declared.faults.EngineFault.{EngineFault}
use Rattle.hippo_engine_rules.specs.declared.faults.EngineFault.TheVariants as engine
use Rattle.hippo_engine_checks.specs.Checks.{question_at}
use Rattle.hippo_engine_rules.specs.Effects.{row_limit, denial_line, lines_and_count}

-- what EXPLAIN finds; `Err None` if no question has the number
abbrev pub Explanation : Type 0
Explanation = Result (List Denial) (Option DenialsFault)

abbrev pub explanation_as_call : Explanation → Result (Unit {0}) KeeperFault
explanation_as_call (Ok cells) = Ok tt
explanation_as_call (Err None) = Ok tt
explanation_as_call (Err (Some fault)) = listing.listing_as_call {A = Unit {0}} (Err fault)

-- the denied cells of a question
pub record AreDenied (history : History) (number : ℤ) (holds : List Denial → Type 0) : Type 0 where
  pub entry : Entry
  pub asked : question_at history number ≡ Some entry
  pub cells : holds (denials meaning history entry)

-- the result is the denied cells of the question with a number, if they are not too many; or no
-- question has the number; or memory ran out, or the keeper failed
abbrev pub IsFound : History → ℤ → Explanation → Type 0
IsFound history number (Ok cells) =
    AreDenied history number (λ denied. (cells ≡ denied) × (length denied ≤ row_limit))
IsFound history number (Err None) = question_at history number ≡ None
IsFound history number (Err (Some TooMany)) =
    AreDenied history number (λ denied. row_limit < length denied)
IsFound history number (Err (Some (Read Keeper))) = Unit {0}
IsFound history number (Err (Some (Read (Damaged other)))) = ⊥
IsFound history number (Err (Some (Read Memory))) = Unit {0}

pub record HasExplained (history : History) (number : ℤ) (result : Explanation) (steps steps' : ℕ)
    : Type 0 where
  pub found : IsFound history number result
  pub few : steps' ≤ steps + versions history

-- the effect of finding the denied cells of the question with a number
pub record Explains (number : ℤ) (state : State) (result : Explanation) (before after : KeeperState)
    (steps steps' : ℕ)
    : Type 0 where
  pub call : IsAfterCall true false (explanation_as_call result) before after
  pub stays : after.tells → KeepsSame before after
  pub told : after.tells → (history : History) → map stored history ≡ before.kept
      → Represents state history
      → HasExplained history number result steps steps'

-- the reply with what EXPLAIN finds
abbrev pub explained_line : ℤ → Explanation → Txt
explained_line number (Ok cells) = lines_and_count 0 denial_line cells
explained_line number (Err None) = refusal_line Console (refusals.NoSuchQuery number)
explained_line number (Err (Some TooMany)) = refusal_line Console refusals.TooManyRows
explained_line number (Err (Some (Read fault))) = refusal_line Console refusals.Memory

-- the denied cells of an entry as what EXPLAIN finds, and below, the reply with them
abbrev pub told_of : Result (List Denial) DenialsFault → Explanation
told_of (Ok cells) = Ok cells
told_of (Err fault) = Err (Some fault)

abbrev pub told_cells : Result (List Denial) DenialsFault → Txt
told_cells (Ok cells) = lines_and_count 0 denial_line cells
told_cells (Err TooMany) = refusal_line Console refusals.TooManyRows
told_cells (Err (Read fault)) = refusal_line Console refusals.Memory

-- the result of the line
abbrev pub explaining_end : Explanation → Result (Unit {0}) EngineFault
explaining_end (Ok cells) = Ok tt
explaining_end (Err None) = Ok tt
explaining_end (Err (Some TooMany)) = Ok tt
explaining_end (Err (Some (Read Keeper))) = Err engine.Keeper
explaining_end (Err (Some (Read (Damaged number)))) = Err (engine.Damaged number)
explaining_end (Err (Some (Read Memory))) = Ok tt

-- what was found is in the reply, or memory ran out
pub record TellsCells (number : ℤ) (state : State) (result : Result (Unit {0}) EngineFault)
    (reply : Txt)
    (before after : KeeperState) (steps steps' : ℕ) : Type 0 where
  pub found : Explanation
  pub explains : Explains number state found before after steps steps'
  pub ended_so : result ≡ explaining_end found
  pub said : OnOk result
      ((reply ≡ explained_line number found) ⊎ (reply ≡ refusal_line Console refusals.Memory))

-- the denied cells of an entry are found and listed in the reply, or memory ran out
pub record TellsEntry (entry : Entry) (state : State) (result : Result (Unit {0}) EngineFault)
    (reply : Txt)
    (before after : KeeperState) (steps steps' : ℕ) : Type 0 where
  pub found : Result (List Denial) DenialsFault
  pub denies : Denies row_limit entry state.catalog.names state.book found before after steps steps'
  pub ended_so : result ≡ explaining_end (told_of found)
  pub said : OnOk result ((reply ≡ told_cells found)
      ⊎ (reply ≡ refusal_line Console refusals.Memory))
