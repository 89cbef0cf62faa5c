-- Each status belongs to one ending.
use Rattle.std.proofs.Common.{◌≡◌, ◌≢◌, ℕ, Any, arith, refl}
use Rattle.hippo_program_args.specs.declared.endings.Ending.{Ending}
use Rattle.hippo_program_args.specs.declared.endings.Ending.TheVariants.{Served, Refused, KeeperFault, ReadFault, WriteFault, Damaged, NoMemory, TooMuch}
use Rattle.hippo_program_args.specs.Endings.{status_of}
use Rattle.hippo_serve_jobs.specs.Endings.{statuses}

-- an ending's status is one of eight
pub status-listed : (ending : Ending) (status : ℕ) → status ≡ status_of ending → Any (λ listed. status ≡ listed) statuses
status-listed Served status e = (0, 0, omega arith, refl, e)
status-listed Refused status e = (1, 2, omega arith, refl, e)
status-listed KeeperFault status e = (2, 3, omega arith, refl, e)
status-listed ReadFault status e = (3, 4, omega arith, refl, e)
status-listed WriteFault status e = (4, 5, omega arith, refl, e)
status-listed Damaged status e = (5, 6, omega arith, refl, e)
status-listed NoMemory status e = (6, 7, omega arith, refl, e)
status-listed TooMuch status e = (7, 8, omega arith, refl, e)

-- an ending that is neither of two has neither status
pub status-other : (ending : Ending) → ending ≢ Served → ending ≢ TooMuch → (status_of ending ≢ 0) × (status_of ending ≢ 8)
status-other Served not_all not_more = absurd (not_all refl)
status-other Refused not_all not_more = (λ e. omega (arith, e), λ e. omega (arith, e))
status-other KeeperFault not_all not_more = (λ e. omega (arith, e), λ e. omega (arith, e))
status-other ReadFault not_all not_more = (λ e. omega (arith, e), λ e. omega (arith, e))
status-other WriteFault not_all not_more = (λ e. omega (arith, e), λ e. omega (arith, e))
status-other Damaged not_all not_more = (λ e. omega (arith, e), λ e. omega (arith, e))
status-other NoMemory not_all not_more = (λ e. omega (arith, e), λ e. omega (arith, e))
status-other TooMuch not_all not_more = absurd (not_more refl)

-- only running out of memory has the status 7
pub status-7 : (ending : Ending) → status_of ending ≡ 7 → ending ≡ NoMemory
status-7 Served e = absurd (omega (arith, e))
status-7 Refused e = absurd (omega (arith, e))
status-7 KeeperFault e = absurd (omega (arith, e))
status-7 ReadFault e = absurd (omega (arith, e))
status-7 WriteFault e = absurd (omega (arith, e))
status-7 Damaged e = absurd (omega (arith, e))
status-7 NoMemory e = refl
status-7 TooMuch e = absurd (omega (arith, e))
