-- How an audit job begins at the console.
use Rattle.std.specs.Prelude.{◌≡◌, ℕ, Some, codes}
use Rattle.hippo_model.specs.declared.audit.Audit.{Audit}
use Rattle.hippo_report.specs.Notices.{number_line}
use Rattle.hippo_engine_world.specs.Auditing.{HeldJob, HasBegun}
use Rattle.hippo_engine_sessions.specs.Worlds.{with_at}
use Rattle.hippo_engine.specs.declared.engine.Engine.{Engine}

-- a job over all entries begins at a number, and the reply is the number
pub record BeginsAt (number : ℕ) (audit : Audit) (old new : Engine) : Type 0 where
  pub job : HeldJob
  pub begun : HasBegun audit old.state.count job
  pub state : new.state ≡ old.state
  pub world : new.world ≡ record (old.world) { jobs = with_at old.world.jobs number (Some job) }
  pub reply : new.reply ≡ number_line 0 (codes "job") number
