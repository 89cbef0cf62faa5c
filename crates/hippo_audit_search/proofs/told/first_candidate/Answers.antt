-- The places that are found are copied.
use Rattle.std.specs.Prelude.{option_copied}
use Rattle.hippo_audit_search.specs.Searching.{SharedBy}
use Rattle.hippo_audit_search.proofs.AmongLemmas.{copied-first}
use Rattle.hippo_audit_search.proofs.told.first_candidate.Goals as goal

pub returns : goal.returns
returns g c = copied-first (SharedBy g.C.ChoiceView.choices c.args.sides.now) c.args.candidates.now (option_copied c.in_ok-found-2.found) c.copied-2.result c.copied-2.ensures c.in_ok-found-2.ensures
