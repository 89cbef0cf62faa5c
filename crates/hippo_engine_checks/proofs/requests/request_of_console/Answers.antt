-- A request that only sessions may make is refused to the console.
use Rattle.std.proofs.Common.{refl}
use Rattle.hippo_report.specs.declared.speaker.Speaker.TheVariants.{Console}
use Rattle.hippo_engine_checks.proofs.RequestLemmas.{sessions_only}
use Rattle.hippo_engine_checks.proofs.requests.request_of_console.Goals as goal

pub returns-in-Login : goal.returns-in-Login
returns-in-Login g c = rw c.in-Login.is (sessions_only Console _ c.args.state.now (g.W.WorldView.seen c.args.world.now) tt (λ history stands. refl))

pub returns-in-Logout : goal.returns-in-Logout
returns-in-Logout g c = rw c.in-Logout.is (sessions_only Console _ c.args.state.now (g.W.WorldView.seen c.args.world.now) tt (λ history stands. refl))

pub returns-in-Fetch : goal.returns-in-Fetch
returns-in-Fetch g c = rw c.in-Fetch.is (sessions_only Console _ c.args.state.now (g.W.WorldView.seen c.args.world.now) tt (λ history stands. refl))

pub returns-in-Close : goal.returns-in-Close
returns-in-Close g c = rw c.in-Close.is (sessions_only Console _ c.args.state.now (g.W.WorldView.seen c.args.world.now) tt (λ history stands. refl))
