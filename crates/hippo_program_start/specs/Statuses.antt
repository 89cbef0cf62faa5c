-- The exit statuses of a program, and the faults that they report.
use Rattle.std.specs.Prelude.{◌≡◌, ◌≢◌, ◌⊎◌, ℕ, List, Option, Some, None, Any}
use Rattle.hippo_io.specs.Faults.{HasRisen}

-- words that ask for nothing end with 2, or with 5 if the write fails, or with 7 if memory runs
-- out; no other words end with 2
abbrev pub RefusesExactly : {A : Type 0} → Option A → ℕ → Type 0
RefusesExactly {A} asked status = (asked ≡ None → (status ≡ 2) ⊎ (status ≡ 5) ⊎ (status ≡ 7))
    × ((call : A) → asked ≡ Some call → status ≢ 2)

-- this holds, and the status is one of these
abbrev pub AnswersAmong : {A : Type 0} → List ℕ → Option A → ℕ → Type 0
AnswersAmong statuses asked status =
    RefusesExactly asked status × Any (λ listed. status ≡ listed) statuses

-- this status is that of a fault of something: exactly then its count of faults rose
abbrev pub ReportsFault : ℕ → ℕ → ℕ → ℕ → Type 0
ReportsFault fault status before after =
    (status ≡ fault → HasRisen before after) × (status ≢ fault → after ≡ before)

-- how often a source failed so far, and how often a sink did
pub record FaultCounts : Type 0 where
  pub reads : ℕ
  pub writes : ℕ

abbrev pub fault_counts : ℕ → ℕ → FaultCounts
fault_counts reads writes = record { reads = reads; writes = writes }
