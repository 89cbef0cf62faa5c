-- The session is closed.
use Rattle.std.proofs.Common.{refl}
use Rattle.hippo_engine_checks.specs.Deeds as deeds
use Rattle.hippo_engine.specs.declared.engine.Engine.{Engine}
use Rattle.hippo_engine_rules.specs.Effects.{only_reply}
use Rattle.hippo_engine.proofs.QuietLemmas.{quiet_done}
use Rattle.hippo_engine.proofs.engine.Engine.log_out.Goals as goal

pub returns : goal.returns
returns c = λ command does.
    let old : Engine = c.args.self.now in
    quiet_done command (deeds.log_out c.args.session) old (record { state = old.state; world = c.log_out.new.self; reply = c.say_done.new.reply }) does refl c.log_out.ensures.audits
    (λ history. λ i. only_reply (c.log_out.ensures.closed i) (c.say_done.ensures i))
