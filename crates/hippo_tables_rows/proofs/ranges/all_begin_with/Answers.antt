-- A row between two rows whose keys begin with these values begins with them too.
use Rattle.std.proofs.Common.{◌-◌, sym, arith, ◌∙◌}
use Rattle.hippo_tables_rows.proofs.RangeLemmas.{begin-all}
use Rattle.hippo_tables_rows.proofs.ranges.all_begin_with.Goals as goal

pub returns-then-not-stands_low : goal.returns-then-not-stands_low
returns-then-not-stands_low c = λ yes place from to.
    begin-all c.args.set.now c.args.front.now c.args.start c.args.end (c.args.end - 1) place c.len-count.ensures.order from to (omega (arith, from, to)) (omega (arith, c.if-end-count.false, c.len-count.ensures.rows))
    (sym c.stands_low.ensures ∙ c.if-not-stands_low.true) (sym c.stands_low-then-not-stands_low.ensures ∙ yes)
