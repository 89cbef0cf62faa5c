use Rattle.std.proofs.Common.{refl, arith}
use Rattle.hippo_stmt_reader.specs.StatementFinder.{leading_grant}
use Rattle.hippo_stmt_reader.proofs.policies.authorization.Goals as goal

pub returns : goal.returns
unfolding leading_grant
returns c = record {
  found = rw (c.in_ok-user.ensures.found, c.in_ok-purpose.ensures.found, c.in_ok-rest.ensures.rest, c.in_ok-recipient.ensures.found) refl;
  no_longer = omega (arith, c.in_ok-user.ensures.no_longer, c.in_ok-purpose.ensures.no_longer, c.in_ok-rest.ensures.shorter, c.in_ok-recipient.ensures.no_longer);
}
