-- What contracts see of all that a program runs on, and of a program that has ended.
use Rattle.std.specs.Prelude.{◌≡◌, ◌↔◌, ℕ, List, Option}
use Rattle.hippo_values.specs.Texts.{Txt}
use Rattle.hippo_io.specs.Adapters.{stream_reads, stream_accepted, stream_faults}
use Rattle.hippo_io.specs.Inputs.{ReadSoFar}
use Rattle.hippo_keeper.specs.Keeping.{Store, KeeperState}
use Rattle.hippo_program_start.specs.Statuses.{FaultCounts, fault_counts}
use Rattle.hippo_program_start.specs.declared.ended.Ended.{Ended}

-- a program's input: the bytes that are left, if they are known, and what reads have returned
pub record InputState : Type 0 where
  pub left : Option Txt
  pub reads : ReadSoFar

-- a program's host: its input, the bytes written to its output, how often these failed, its keeper,
-- and the number of steps so far
pub record HostState : Type 1 where
  pub input : InputState
  pub written : Option Txt
  pub faults : FaultCounts
  pub keeper : KeeperState
  pub steps : ℕ

abbrev pub input_state : Option Txt → ReadSoFar → InputState
input_state left reads = record { left = left; reads = reads }

abbrev pub host_state : InputState → Option Txt → FaultCounts → KeeperState → ℕ → HostState
host_state input written faults keeper steps =
    record { input = input; written = written; faults = faults; keeper = keeper; steps = steps }

-- nothing was done with a keeper
pub record IsSameKeeper (before after : KeeperState) : Type 0 where
  pub tells_still : after.tells ↔ before.tells
  pub kept_is : after.kept ≡ before.kept
  pub started_is : after.started ≡ before.started
  pub closed_is : after.closed ≡ before.closed
  pub spent_is : after.spent ≡ before.spent
  pub survives_same : (store : Store) → after.survives store ↔ before.survives store
  pub faults_are : after.faults ≡ before.faults

-- nothing was read
abbrev pub IsUnread : HostState → HostState → Type 0
IsUnread before after = after.input ≡ before.input

-- nothing was written
abbrev pub IsSilent : HostState → HostState → Type 0
IsSilent before after = after.written ≡ before.written

-- nothing was read or stored, and no step was taken
abbrev pub IsUntouched : HostState → HostState → Type 0
IsUntouched before after =
    IsUnread before after × IsSameKeeper before.keeper after.keeper × (after.steps ≡ before.steps)

-- the exit status of a program that has ended
abbrev pub ended_status : {P : Type 0} → Ended P → ℕ
ended_status ended = ended.status

-- what the reads of its standard input have returned
abbrev pub ended_reads : {P : Type 0} → Ended P → ReadSoFar
ended_reads ended = stream_reads ended.source

-- the bytes that its standard output has accepted
abbrev pub ended_written : {P : Type 0} → Ended P → List ℕ
ended_written ended = stream_accepted ended.sink

-- how often its input and its output failed
abbrev pub ended_faults : {P : Type 0} → Ended P → FaultCounts
ended_faults ended = fault_counts (stream_faults ended.source) (stream_faults ended.sink)

-- its keeper
abbrev pub ended_keeper : {P : Type 0} → Ended P → P
ended_keeper ended = ended.keeper
