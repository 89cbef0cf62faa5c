-- The clock is set.
use Rattle.std.proofs.Common.{refl}
use Rattle.hippo_engine_world.specs.Holding.{world_of}
use Rattle.hippo_engine_checks.specs.Deeds as deeds
use Rattle.hippo_engine.specs.declared.engine.Engine.{Engine}
use Rattle.hippo_engine_rules.specs.Effects.{only_reply}
use Rattle.hippo_engine.proofs.QuietLemmas.{quiet_done}
use Rattle.hippo_engine.proofs.engine.Engine.set_clock.Goals as goal

pub returns : goal.returns
returns c = λ command does.
    let old : Engine = c.args.self.now in
    quiet_done command (deeds.set_clock c.args.moment) old (record { state = old.state; world = record (old.world) { clock = c.args.moment }; reply = c.say_done.new.reply }) does refl
    (record { jobs = refl; watches = refl }) (λ history. λ i. only_reply (record (world_of old.world) { clock = c.args.moment }) (c.say_done.ensures i))
