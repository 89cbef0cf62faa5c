-- The last value that is kept is that of the entries.
use Rattle.std.proofs.Common.{◌∙◌, sym, ap}
use Rattle.hippo_policy.specs.Words.{latest}
use Rattle.hippo_policy.proofs.SaidLemmas.{latest-numbered_words}
use Rattle.hippo_policy.proofs.last_words.LastWords.at.Goals as goal

pub returns-in-None-clause-history : goal.returns-in-None-clause-history
returns-in-None-clause-history g c word history is =
    let none = rw (sym c.in-None.ensures.value) at is in
    ap (latest c.args.n) none ∙ latest-numbered_words word c.args.n history

pub returns-in-Some-clause-history : goal.returns-in-Some-clause-history
returns-in-Some-clause-history g c word history is =
    let same = rw (sym c.in-Some.ensures.value) at is in
    let found = rw c.as_slice.ensures.said at (c.latest.ensures c.as_slice.ensures.rises) in
    found ∙ ap (latest c.args.n) same ∙ latest-numbered_words word c.args.n history
