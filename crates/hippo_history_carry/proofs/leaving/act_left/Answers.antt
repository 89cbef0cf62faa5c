-- What is left of a rule.
use Rattle.hippo_history_carry.proofs.LeaveLemmas.{leaves-silent, leaves-authorize, leaves-deauthorize, leaves-choice, leaves-allow, leaves-revoke}
use Rattle.hippo_history_carry.proofs.leaving.act_left.Goals as goal

pub returns-in-Allow : goal.returns-in-Allow
returns-in-Allow c = record {
  leaves = rw c.in-Allow.is (leaves-allow c.args.tables.now c.allow_left.result c.args.decided.now c.allow_left.new.decided c.in-Allow.purpose c.in-Allow.recipient c.in-Allow.table c.in-Allow.columns c.allow_left.ensures.adds c.in-Allow.item c.in-Allow.days c.allow_left.ensures.left);
}

pub returns-in-Revoke : goal.returns-in-Revoke
returns-in-Revoke c = record {
  leaves = rw c.in-Revoke.is (leaves-revoke c.args.tables.now c.revoke_left.result c.args.decided.now c.revoke_left.new.decided c.in-Revoke.purpose c.in-Revoke.recipient c.in-Revoke.table c.in-Revoke.columns c.revoke_left.ensures.adds c.revoke_left.ensures.left);
}
