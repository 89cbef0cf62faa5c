use Rattle.std.proofs.lemmas.Str.{IsUtf8-from_ascii}
use Rattle.hippo_values_text.proofs.printing.append_day.Goals as goal

pub unreachable-requires : goal.unreachable-requires
unreachable-requires g c = c.in-Err.ensures.cases.0 (IsUtf8-from_ascii c.day_text.result c.day_text.ensures.ascii)
