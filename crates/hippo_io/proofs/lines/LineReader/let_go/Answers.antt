-- The window begins later.
use Rattle.hippo_io.proofs.ReadLemmas.{window_later}
use Rattle.hippo_io.proofs.lines.LineReader.let_go.Goals as goal

pub returns : goal.returns
returns c = rw (← c.self.view_is) (cc (window_later c.self.inside.buffer.items c.self.inside.start c.args.count c.self.inside.end))
