-- The last rule that is kept is that of the entries.
use Rattle.std.proofs.Common.{◌∙◌, ap}
use Rattle.hippo_policy.specs.Words.{latest}
use Rattle.hippo_policy.proofs.SaidLemmas.{latest-numbered_words}
use Rattle.hippo_policy.proofs.ruled_tables.RuledTables.at.Goals as goal

pub returns : goal.returns
returns c word history is =
    let found = rw c.columns_of.ensures at c.latest_in.ensures in
    found ∙ ap (latest c.args.n) is ∙ latest-numbered_words word c.args.n history
