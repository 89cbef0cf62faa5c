use Rattle.std.proofs.Common.{◌∙◌, ap}
use Rattle.hippo_model.specs.Terms.{History}
use Rattle.hippo_model.specs.Rules.{authorized_at}
use Rattle.hippo_model.specs.Validity.{is_authorized}
use Rattle.hippo_replay.proofs.AcceptanceLemmas.{all_taken}
use Rattle.hippo_replay.proofs.state.State.is_authorized.Goals as goal

pub returns-in-Yes : goal.returns-in-Yes
returns-in-Yes c history stands =
    ap is_authorized (c.in-Yes.ensures history stands.book ∙ ap (λ (h : History). authorized_at h c.args.user.now c.args.purpose.now c.args.recipient.now) (all_taken c.args.self.now history stands))

pub returns-in_default : goal.returns-in_default
returns-in_default c history stands =
    ap is_authorized (c.in_default.ensures history stands.book ∙ ap (λ (h : History). authorized_at h c.args.user.now c.args.purpose.now c.args.recipient.now) (all_taken c.args.self.now history stands))
