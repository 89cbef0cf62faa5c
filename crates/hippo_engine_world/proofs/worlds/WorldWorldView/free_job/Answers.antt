-- The free number is free in the definitions, too.
use Rattle.std.proofs.Common.{◌∙◌, sym}
use Rattle.hippo_audit_job.specs.Jobs.{open_audit}
use Rattle.hippo_engine_sessions.proofs.HeldLemmas.{seen-free}
use Rattle.hippo_engine_world.proofs.worlds.WorldWorldView.free_job.Goals as goal

pub returns : goal.returns
returns c = c.free.ensures ∙ sym (seen-free open_audit c.args.self.now.jobs)
