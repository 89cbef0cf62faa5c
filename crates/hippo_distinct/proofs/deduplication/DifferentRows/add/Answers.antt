-- A row found by its hash is already among them.
use Rattle.std.proofs.Common.{sym, ◌∙◌, ap}
use Rattle.std.specs.Prelude.{is_some}
use Rattle.hippo_distinct.proofs.KeptLemmas.{there_already}
use Rattle.hippo_distinct.proofs.deduplication.DifferentRows.add.Goals as goal

pub returns : goal.returns
returns c found are =
    there_already c.args.self.now.rows.keys found c.args.self.now.at_hand are (sym c.get_index_of.ensures.found ∙ ap is_some c.in-Some.is)
