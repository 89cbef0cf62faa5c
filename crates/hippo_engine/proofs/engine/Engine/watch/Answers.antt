-- The watch is set at a number, or memory ran out.
use Rattle.std.proofs.Common.{refl}
use Rattle.hippo_engine.proofs.WatchLemmas.{sets_watch, watch_short}
use Rattle.hippo_engine.proofs.engine.Engine.watch.Goals as goal

pub returns-in-Ok : goal.returns-in-Ok
returns-in-Ok c = λ command is.
    sets_watch command c.args.number c.args.audit c.in-Ok.watch c.args.self.now (record { state = c.args.self.now.state; world = record c.args.self.now.world { watches = c.put.new.self }; reply = c.say_number.new.reply })
    is refl c.in-Ok.ensures.audit c.in-Ok.ensures.hits (λ i. record c.args.self.now.world { watches = c.put.ensures i }) c.say_number.ensures

pub returns-in-Err : goal.returns-in-Err
returns-in-Err c = λ command is.
    watch_short command c.args.number c.args.audit c.args.self.now (record { state = c.args.self.now.state; world = c.args.self.now.world; reply = c.refuse_out_of_memory.new.reply })
    is refl refl c.refuse_out_of_memory.ensures
