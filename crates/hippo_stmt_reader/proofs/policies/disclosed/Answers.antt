use Rattle.std.proofs.Common.{refl, arith}
use Rattle.hippo_stmt_reader.specs.StatementFinder.{leading_disclosure}
use Rattle.hippo_stmt_reader.proofs.policies.disclosed.Goals as goal

pub returns : goal.returns
unfolding leading_disclosure
returns c = record {
  found = rw (c.in_ok-purpose.ensures.found, c.in_ok-recipient.ensures.found, c.in_ok-table.ensures.found, c.in_ok-columns.ensures.found) refl;
  no_longer = omega (arith, c.in_ok-purpose.ensures.no_longer, c.in_ok-recipient.ensures.no_longer, c.in_ok-table.ensures.no_longer, c.in_ok-columns.ensures.no_longer);
}
