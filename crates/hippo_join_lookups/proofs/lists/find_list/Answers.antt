-- What one part requires, all parts require.
use Rattle.std.proofs.Common.{sym}
use Rattle.hippo_join_lookups.proofs.PartLemmas.{tie-of-part}
use Rattle.hippo_join_lookups.proofs.lists.find_list.Goals as goal

pub returns-in-Some : goal.returns-in-Some
returns-in-Some c = λ choices rows all. c.in-Some.ensures choices rows (tie-of-part c.args.parts.now c.loop-part.part-index c.part-item.result c.loop-part-test.true (sym c.part-item.is) choices rows all)
