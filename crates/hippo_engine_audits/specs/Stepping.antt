-- The reply to a step of an audit job.
use Rattle.std.specs.Prelude.{◌≡◌, ◌==◌, ◌⊎◌, ◌++◌, [], flat_map, Result, Ok, Err, codes, if◌then◌else◌}
use Rattle.hippo_values.specs.Texts.{Txt}
use Rattle.hippo_backlog.specs.declared.faults.ReadFault.{ReadFault}
use Rattle.hippo_backlog.specs.declared.faults.ReadFault.TheVariants as faults
use Rattle.hippo_report.specs.declared.speaker.Speaker.TheVariants.{Console}
use Rattle.hippo_report.specs.declared.format.Format.{Format}
use Rattle.hippo_report.specs.declared.refusal.Refusal.TheVariants.{Memory}
use Rattle.hippo_report_flags.specs.Flags.{flag_line}
use Rattle.hippo_report.specs.Notices.{number_line}
use Rattle.hippo_report.specs.Refusals.{refusal_line}
use Rattle.hippo_engine_world.specs.Auditing.{HeldJob}

-- the number that a job has looked up to, or at its end the number of flags that it found
abbrev pub progress_line : HeldJob → Txt
progress_line job =
    if job.place == job.length then number_line 0 (codes "end") job.found
    else number_line 0 (codes "part") job.place

-- the waiting flags of a job, then its progress
abbrev pub step_text : Format → HeldJob → Txt
step_text format job = flat_map (flag_line format) job.waiting ++ progress_line job

-- the reply has what a step found, and no flag waits any more; or memory ran out, and the flags
-- wait
abbrev pub SaysStep : Format → HeldJob → HeldJob → Txt → Type 0
SaysStep format job told reply =
    ((told ≡ record job { waiting = [] }) × (reply ≡ step_text format job))
    ⊎ ((told ≡ job) × (reply ≡ refusal_line Console Memory))

-- the reply to a step, given the step's result, and the flags that wait after it
abbrev pub TellsStep : Result (Unit {0}) ReadFault → Format → HeldJob → HeldJob → Txt → Type 0
TellsStep (Ok all) format job told reply = SaysStep format job told reply
TellsStep (Err faults.Memory) format job told reply =
    (told ≡ job) × (reply ≡ refusal_line Console Memory)
TellsStep (Err fault) format job told reply = told ≡ job
