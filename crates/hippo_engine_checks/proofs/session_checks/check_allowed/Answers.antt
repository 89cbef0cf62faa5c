use Rattle.std.proofs.Common.{◌∙◌, ap}
use Rattle.hippo_model.specs.Terms.{History}
use Rattle.hippo_model.specs.Rules.{authorized_at}
use Rattle.hippo_replay.proofs.AcceptanceLemmas.{all_taken}
use Rattle.hippo_engine_checks.specs.Checks.{allowed_by}
use Rattle.hippo_engine_checks.proofs.session_checks.check_allowed.Goals as goal

pub returns-in-Yes : goal.returns-in-Yes
returns-in-Yes c history stands =
    ap allowed_by (c.in-Yes.ensures history stands.book ∙ ap (λ (h : History). authorized_at h c.args.user.now c.args.pair.now.purpose c.args.pair.now.recipient) (all_taken c.args.state.now history stands))

pub returns-in-No : goal.returns-in-No
returns-in-No c history stands =
    ap allowed_by (c.in-No.ensures history stands.book ∙ ap (λ (h : History). authorized_at h c.args.user.now c.args.pair.now.purpose c.args.pair.now.recipient) (all_taken c.args.state.now history stands))
