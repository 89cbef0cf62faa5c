-- The two columns are those of the tie, in either order.
use Rattle.hippo_join_lookups.proofs.PartLemmas.{equal-turned}
use Rattle.hippo_join_stages.proofs.SufficeLemmas.{equal-moved}
use Rattle.hippo_join_stages.proofs.sufficing.are_tied.Goals as goal

pub returns-then-are : goal.returns-then-are
returns-then-are c = λ yes rows tied.
    let same = c.are.ensures c.if-are.true in
    equal-moved rows (record { table = c.args.table; column = c.args.tie.now.column }) c.args.tie.now.other c.args.left c.args.right same.0 same.1 tied

pub returns : goal.returns
returns c = λ yes rows tied.
    let same = c.are-2.ensures yes in
    equal-turned rows c.args.right c.args.left (equal-moved rows (record { table = c.args.table; column = c.args.tie.now.column }) c.args.tie.now.other c.args.right c.args.left same.0 same.1 tied)
