use Rattle.std.proofs.lemmas.Str.{IsUtf8-from_ascii}
use Rattle.hippo_serve_jobs.proofs.loads.make_clock.Goals as goal

pub unreachable-requires : goal.unreachable-requires
unreachable-requires c = c.in-Err.ensures.cases.0 (IsUtf8-from_ascii c.moment_text.result c.moment_text.ensures.ascii)
