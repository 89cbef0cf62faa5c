-- Keys ascend, so a row before a low row is low, and a row after one that is not low is not.
use Rattle.std.proofs.Common.{ℕ, ◌+◌, ◌-◌, ◌/◌, ◌<◌, sym, ◌∙◌, arith}
use Rattle.hippo_tables_rows.specs.Ranges.{stands_low}
use Rattle.hippo_tables_rows.proofs.RangeLemmas.{low-before, high-after, parted}
use Rattle.hippo_tables_rows.proofs.ranges.split.Goals as goal

pub loop-low-preserved-then-stands_low : goal.loop-low-preserved-then-stands_low
loop-low-preserved-then-stands_low c =
    let before = c.loop-low.invariant in
    let middle : ℕ = c.loop-low.low + (c.loop-low.high - c.loop-low.low) / 2 in
    let inside : middle < c.loop-low.high = omega (arith, c.loop-low-test.true) in
    record {
      ends = omega (arith, inside);
      within = before.within;
      below = λ k lower. low-before c.args.set.now c.args.front.now c.args.past k middle c.len-high.ensures.order (omega (arith, lower)) (omega (arith, inside, before.within)) (sym c.stands_low.ensures ∙ c.if-stands_low.true);
      above = before.above;
    }

pub loop-low-preserved : goal.loop-low-preserved
loop-low-preserved c =
    let before = c.loop-low.invariant in
    let middle : ℕ = c.loop-low.low + (c.loop-low.high - c.loop-low.low) / 2 in
    let inside : middle < c.loop-low.high = omega (arith, c.loop-low-test.true) in
    record {
      ends = omega arith;
      within = omega (arith, inside, before.within);
      below = before.below;
      above = λ k upper within. high-after c.args.set.now c.args.front.now c.args.past middle k c.len-high.ensures.order upper within (sym c.stands_low.ensures ∙ c.if-stands_low.false);
    }

pub returns-clause-parted : goal.returns-clause-parted
returns-clause-parted c = parted (stands_low c.args.set.now c.args.front.now c.args.past) c.loop-low.low c.loop-low.high _ (omega (arith, c.loop-low-test.false)) c.loop-low.invariant.below c.loop-low.invariant.above
