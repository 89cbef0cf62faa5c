-- The watch is ended.
use Rattle.std.proofs.Common.{refl, rules}
use Rattle.hippo_engine.proofs.WatchLemmas.{ends_watch}
use Rattle.hippo_engine.proofs.engine.Engine.end_watch.Goals as goal

pub returns : goal.returns
returns c = λ command is.
    ends_watch command c.args.number c.args.self.now (record { state = c.args.self.now.state; world = record c.args.self.now.world { watches = c.put.new.self }; reply = c.say_done.new.reply })
    is refl (search rules) (search rules)
