-- From what the top function says of its streams to what contracts see of a host.
use Rattle.std.proofs.Common.{◌≡◌, ◌≢◌, ◌⊎◌, ℕ, inl, inr, Option, Some}
use Rattle.std.specs.Prelude.{None}
use Rattle.hippo_values.specs.Texts.{Txt}
use Rattle.hippo_program_args.specs.declared.endings.Ending.{Ending}
use Rattle.hippo_program_args.specs.declared.endings.Ending.TheVariants.{Served, Refused, KeeperFault, ReadFault, WriteFault, Damaged, NoMemory, TooMuch}
use Rattle.hippo_serve_args.specs.declared.calls.Job.{Job}
use Rattle.hippo_serve_args.specs.declared.calls.Setting.{Setting}
use Rattle.hippo_serve_jobs.specs.Outcomes.{RunEnds, CheckEnds}
use Rattle.hippo_serve_jobs.specs.Outside.{Outside}
use Rattle.hippo_serve.specs.Asking.{EndsAs}

-- what is a call is not nothing
pub call_asked : {A : Type 0} → (asked : Option A) (call : A) → asked ≡ Some call → asked ≢ None
call_asked asked call is none = cc

-- what follows for each ending follows by the status
pub EndsAs-map : (ends ends' : Ending → Type 0) → ((ending : Ending) → ends ending → ends' ending) → (status : ℕ) → EndsAs ends status → EndsAs ends' status
EndsAs-map ends ends' follows status holds = (
  λ e. follows Served (holds.0 e),
  λ e. follows Refused (holds.1 e),
  λ e. follows KeeperFault (holds.2 e),
  λ e. follows ReadFault (holds.3 e),
  λ e. follows WriteFault (holds.4 e),
  λ e. follows Damaged (holds.5 e),
  λ e. follows NoMemory (holds.6 e),
  λ e. follows TooMuch (holds.7 e),
)

module _ (unread unwritten unread' unwritten' : Type 0) (read : unread → unread') (written : unwritten → unwritten') where
  -- a run that leaves its streams as they are leaves what is seen of them
  RunEnds-map : (setting : Setting) (job : Job) (name : Txt) (before after : Outside) (ending : Ending)
      → RunEnds ending unread unwritten setting job name before after → RunEnds ending unread' unwritten' setting job name before after
  RunEnds-map setting job name before after Served ends = ends
  RunEnds-map setting job name before after Refused ends = ends
  RunEnds-map setting job name before after KeeperFault (inl idle) = inl (read idle.0, written idle.1, idle.2)
  RunEnds-map setting job name before after KeeperFault (inr broken) = inr broken
  RunEnds-map setting job name before after ReadFault ends = ends
  RunEnds-map setting job name before after WriteFault (inl damaged) = inl (read damaged.0, damaged.1)
  RunEnds-map setting job name before after WriteFault (inr cut) = inr cut
  RunEnds-map setting job name before after Damaged ends = ends
  RunEnds-map setting job name before after NoMemory ends = ends
  RunEnds-map setting job name before after TooMuch ends = ends

  pub run_on_host : (setting : Setting) (job : Job) (name : Txt) (before after : Outside) (status : ℕ)
      → EndsAs (λ ending. RunEnds ending unread unwritten setting job name before after) status
      → EndsAs (λ ending. RunEnds ending unread' unwritten' setting job name before after) status
  run_on_host setting job name before after status ends =
      EndsAs-map (λ ending. RunEnds ending unread unwritten setting job name before after) (λ ending. RunEnds ending unread' unwritten' setting job name before after)
      (RunEnds-map setting job name before after) status ends

-- a check that leaves its output as it is leaves what is seen of it
module _ (unwritten unwritten' : Type 0) (written : unwritten → unwritten') where
  CheckEnds-map : (name : Txt) (before after : Outside) (ending : Ending)
      → CheckEnds ending unwritten name before after → CheckEnds ending unwritten' name before after
  CheckEnds-map name before after Served ends = ends
  CheckEnds-map name before after Refused ends = ends
  CheckEnds-map name before after KeeperFault ends = (written ends.0, ends.1)
  CheckEnds-map name before after ReadFault ends = ends
  CheckEnds-map name before after WriteFault ends = ends
  CheckEnds-map name before after Damaged ends = ends
  CheckEnds-map name before after NoMemory ends = (written ends.0, ends.1)
  CheckEnds-map name before after TooMuch ends = ends

  pub check_on_host : (name : Txt) (before after : Outside) (status : ℕ)
      → EndsAs (λ ending. CheckEnds ending unwritten name before after) status
      → EndsAs (λ ending. CheckEnds ending unwritten' name before after) status
  check_on_host name before after status ends =
      EndsAs-map (λ ending. CheckEnds ending unwritten name before after) (λ ending. CheckEnds ending unwritten' name before after)
      (CheckEnds-map name before after) status ends
