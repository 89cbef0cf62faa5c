-- What the replies to the steps of an audit job write.
use Rattle.std.specs.Prelude.{◌≡◌, ◌≢◌, ◌⊎◌, ℕ, List, [], ◌++◌, flat_map, length, Option, Some, None, Ok, codes, option_and_then}
use Rattle.std.specs.List.{last_or}
use Rattle.std.specs.Option.{option_map_or}
use Rattle.hippo_values.specs.Texts.{Txt}
use Rattle.hippo_io.specs.Lines.{LineText}
use Rattle.hippo_model.specs.declared.audit.Audit.{Audit}
use Rattle.hippo_model.specs.declared.audit.Flag.{Flag}
use Rattle.hippo_model.specs.Terms.{History}
use Rattle.hippo_model.specs.Audits.{flags_between}
use Rattle.hippo_typing.specs.Meanings.{meaning}
use Rattle.hippo_report.specs.declared.refusal.Refusal.TheVariants.{Memory}
use Rattle.hippo_report.specs.Notices.{number_line}
use Rattle.hippo_report.specs.Refusals.{refusal_line}
use Rattle.hippo_audit_job.specs.Jobs.{OpenAudit, step_end}
use Rattle.hippo_engine_sessions.specs.Worlds.{World, at_number}
use Rattle.hippo_stmt_lines.specs.Commands.{Command, who_commands}
use Rattle.hippo_engine_checks.specs.Deeds.{Deed}
use Rattle.hippo_engine_checks.specs.Deeds as deeds
use Rattle.hippo_engine_checks.specs.Checks.{Checked}
use Rattle.hippo_engine_checks.specs.Judging.{judged}
use Rattle.hippo_engine_rules.specs.Effects.{Effect, flag_lines}
use Rattle.hippo_engine_rules.specs.Runs.{world_after}
use Rattle.hippo_engine_laws.specs.Lines.{OfEachLine}

-- what a line writes of a job: some flags, and the number of all flags, if it says that the job has
-- ended
pub record Portion : Type 0 where
  pub flags : List Flag
  pub ended : Option ℕ

abbrev pub no_portion : Portion
no_portion = record { flags = []; ended = None }

-- the reply that writes a portion; its last line says `end`, or `part` and the number that the job
-- has looked up to
abbrev pub portion_reply : World → ℕ → Portion → Txt
portion_reply world upto portion =
    flag_lines world portion.flags
    ++ option_map_or (number_line 0 (codes "end")) portion.ended (number_line 0 (codes "part") upto)

-- a step writes a portion, or nothing if its reply is the out-of-memory refusal
abbrev pub StepWrites : World → Command → OpenAudit → ℕ → Effect → Portion → Type 0
StepWrites world command job count effect portion =
    (effect.reply ≡ portion_reply world (step_end job count) portion)
    ⊎ ((effect.reply ≡ refusal_line (who_commands command) Memory) × (portion ≡ no_portion))

-- the portion that a line writes of the job at a number: only the job's own steps write any
abbrev pub JudgedWrites : ℕ → World → Command → Checked Deed → Effect → Portion → Type 0
JudgedWrites number world command (Ok (deeds.step_job at job count)) effect portion =
    ((at ≡ number) × StepWrites world command job count effect portion)
    ⊎ ((at ≢ number) × (portion ≡ no_portion))
JudgedWrites number world command judgement effect portion = portion ≡ no_portion

abbrev pub WritesPortion : ℕ → History → World → Command → Effect → Portion → Type 0
WritesPortion number history world command effect portion =
    JudgedWrites number world command (judged history world command) effect portion

-- all flags of some portions, and below, the number of all flags if the last portion says that the
-- job has ended
abbrev pub flags_in : List Portion → List Flag
flags_in portions = flat_map (λ portion. portion.flags) portions

abbrev pub last_end : List Portion → Option ℕ
last_end portions = option_and_then (λ portion. portion.ended) (last_or None portions)

-- the portions have all flags of an audit of a history, and `count` is their number
pub record HaveAllFlags (history : History) (audit : Audit) (portions : List Portion) (count : ℕ)
    : Type 0 where
  pub flags : flags_in portions ≡ flags_between meaning history audit 0 (length history)
  pub counted : count ≡ length (flags_in portions)

-- the lines of a run have written the flags of an audit of the history `start`, up to the place of
-- the job at a number, except those that wait; they have written all flags if the last line says
-- that the job has ended
pub record HasWritten (number : ℕ) (audit : Audit) (start history : History) (world : World)
    (lines : List LineText)
    (effects : List Effect) : Type 0 where
  pub portions : List Portion
  pub each : OfEachLine (WritesPortion number) history world lines effects portions
  pub job : OpenAudit
  pub stands : at_number (world_after world effects).jobs number ≡ Some job
  pub flags : flags_in portions ++ job.waiting ≡ flags_between meaning start audit 0 job.place
  pub whole : (count : ℕ) → last_end portions ≡ Some count → HaveAllFlags start audit portions count
