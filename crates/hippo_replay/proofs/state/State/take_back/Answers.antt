-- Each part takes back what it took in.
use Rattle.std.proofs.Common.{refl}
use Rattle.hippo_replay.proofs.StateLemmas.{Represents-before}
use Rattle.hippo_replay.proofs.state.State.take_back.Goals as goal

pub returns : goal.returns
returns c history entry knows =
    Represents-before c.args.self.now _ history entry knows
    (λ known. c.take_back.ensures known entry.act) (c.take_back-2.ensures history entry) (c.take_back-3.ensures history knows.rows) c.saturating_sub-self.ensures refl
