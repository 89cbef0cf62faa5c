-- What the words of a call ask for, and how the call ends.
use Rattle.std.specs.Prelude.{◌≡◌, ℕ, List, [], Option, Some, None, option_map}
use Rattle.std.specs.Option.{option_map_or}
use Rattle.hippo_values.specs.Texts.{Txt}
use Rattle.hippo_serve_args.specs.CommandLine.{call_of}
use Rattle.hippo_serve_args.specs.declared.calls.Job.{Job}
use Rattle.hippo_serve_args.specs.declared.calls.Job.TheVariants.{Run, Load}
use Rattle.hippo_serve_args.specs.declared.calls.Setting.{Setting}
use Rattle.hippo_program_args.specs.declared.endings.Ending.{Ending}
use Rattle.hippo_program_args.specs.declared.endings.Ending.TheVariants.{Served, Refused, KeeperFault, ReadFault, WriteFault, Damaged, NoMemory, TooMuch}

-- the job that words ask for
abbrev pub job_of : List Txt → Option Job
job_of words = option_map (λ call. call.job) (call_of words)

-- the name of the call's store; the empty name is a store in memory
abbrev pub store_of : List Txt → Txt
store_of words = option_map_or (λ call. call.store) (call_of words) []

-- the setting with which a job that serves lines, a run or a load, begins
abbrev pub setting_of : Job → Option Setting
setting_of (Run setting) = Some setting
setting_of (Load setting table moment) = Some setting
setting_of job = None

-- words ask for a job that serves lines, with this setting
pub record AskToServe (words : List Txt) (job : Job) (setting : Setting) : Type 0 where
  pub asked : job_of words ≡ Some job
  pub serves : setting_of job ≡ Some setting

-- this holds of the ending that has the call's status
abbrev pub EndsAs : (Ending → Type 0) → ℕ → Type 0
EndsAs ends status =
    (status ≡ 0 → ends Served) × (status ≡ 2 → ends Refused) × (status ≡ 3 → ends KeeperFault)
    × (status ≡ 4 → ends ReadFault) × (status ≡ 5 → ends WriteFault) × (status ≡ 6 → ends Damaged)
    × (status ≡ 7 → ends NoMemory) × (status ≡ 8 → ends TooMuch)
