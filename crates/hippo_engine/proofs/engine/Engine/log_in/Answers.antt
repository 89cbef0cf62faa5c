-- The session is open, or memory ran out.
use Rattle.std.proofs.Common.{refl}
use Rattle.hippo_engine_checks.specs.Deeds as deeds
use Rattle.hippo_engine.specs.declared.engine.Engine.{Engine}
use Rattle.hippo_engine_rules.specs.Effects.{only_reply}
use Rattle.hippo_report.specs.declared.speaker.Speaker.TheVariants.{Session}
use Rattle.hippo_engine.proofs.QuietLemmas.{quiet_done, quiet_short}
use Rattle.hippo_engine.proofs.engine.Engine.log_in.Goals as goal

pub returns-in-Ok : goal.returns-in-Ok
returns-in-Ok c = λ command does.
    let old : Engine = c.args.self.now in
    quiet_done command (deeds.log_in c.args.session c.args.user c.args.pair) old (record { state = old.state; world = c.log_in.new.self; reply = c.say_done.new.reply }) does.2 refl c.in-Ok.ensures.audits
    (λ history. λ i. only_reply (c.in-Ok.ensures.ok i) (c.say_done.ensures i))

pub returns-in-Err : goal.returns-in-Err
returns-in-Err c = λ command does.
    let old : Engine = c.args.self.now in
    quiet_short command (Session c.args.session) old (record { state = old.state; world = c.log_in.new.self; reply = c.refuse_out_of_memory.new.reply }) does.0 does.1 refl c.in-Err.ensures.err
    c.refuse_out_of_memory.ensures
