-- The cursor is closed.
use Rattle.std.proofs.Common.{refl}
use Rattle.hippo_engine_checks.specs.Deeds as deeds
use Rattle.hippo_engine.specs.declared.engine.Engine.{Engine}
use Rattle.hippo_engine_rules.specs.Effects.{only_reply}
use Rattle.hippo_engine.proofs.QuietLemmas.{quiet_done}
use Rattle.hippo_engine.proofs.engine.Engine.close_cursor.Goals as goal

pub returns : goal.returns
returns c = λ command does.
    let old : Engine = c.args.self.now in
    quiet_done command (deeds.close_cursor c.args.session does.held c.args.cursor) old (record { state = old.state; world = c.close_cursor.new.self; reply = c.say_done.new.reply }) does.does refl c.close_cursor.ensures.audits
    (λ history. λ i. only_reply (c.close_cursor.ensures.open does.held does.there i) (c.say_done.ensures i))
