-- One more entry of the batch is used.
use Rattle.std.proofs.Common.{◌∙◌, ap}
use Rattle.hippo_backlog.specs.ReadingAhead.{without_first}
use Rattle.hippo_backlog.proofs.AheadLemmas.{one_used}
use Rattle.hippo_backlog.proofs.ahead.Ahead.pass.Goals as goal

pub returns-then-self-len : goal.returns-then-self-len
returns-then-self-len c =
    (λ i. record { waiting = one_used c.self.inside.next c.self.inside.piece i; reached = c.self.inside.reached; handed = c.self.inside.handed })
    ∙ ap without_first c.self.view_is
