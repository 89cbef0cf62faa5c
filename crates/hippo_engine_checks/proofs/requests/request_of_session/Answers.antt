-- A request that only the console may make is refused to a session.
use Rattle.std.proofs.Common.{refl, arith}
use Rattle.hippo_report.specs.declared.speaker.Speaker.TheVariants.{Session}
use Rattle.hippo_engine_checks.proofs.RequestLemmas.{console_only}
use Rattle.hippo_engine_checks.proofs.requests.request_of_session.Goals as goal

pub returns-in-Step : goal.returns-in-Step
returns-in-Step g c = rw c.in-Step.is (console_only (Session c.args.session) _ c.args.state.now (g.W.WorldView.seen c.args.world.now) (omega (arith, c.ranges.session.fits)) (λ history stands. refl))

pub returns-in-Drop : goal.returns-in-Drop
returns-in-Drop g c = rw c.in-Drop.is (console_only (Session c.args.session) _ c.args.state.now (g.W.WorldView.seen c.args.world.now) (omega (arith, c.ranges.session.fits)) (λ history stands. refl))

pub returns-in-Unwatch : goal.returns-in-Unwatch
returns-in-Unwatch g c = rw c.in-Unwatch.is (console_only (Session c.args.session) _ c.args.state.now (g.W.WorldView.seen c.args.world.now) (omega (arith, c.ranges.session.fits)) (λ history stands. refl))

pub returns-in-Load : goal.returns-in-Load
returns-in-Load g c = rw c.in-Load.is (console_only (Session c.args.session) _ c.args.state.now (g.W.WorldView.seen c.args.world.now) (omega (arith, c.ranges.session.fits)) (λ history stands. refl))
