-- The entry of one more row, with a number above the last one.
use Rattle.std.proofs.Common.{◌≡◌, ◌<◌, ◌++◌, ◌∷◌, [], length, ap, length-append, arith}
use Rattle.sqlite_value.specs.declared.value.Value.TheVariants.{Int}
use Rattle.sqlite_trees.specs.Objects.{number_in}
use Rattle.hippo_sqlite_table.proofs.ListLemmas.{rises_with, one_more_row, numbered_is_told}
use Rattle.hippo_sqlite_table.proofs.entries.entries_of.Goals as goal

pub loop-row-preserved : goal.loop-row-preserved
loop-row-preserved c =
    let list = c.loop-row.list in
    let entry = c.in-Some-2.entry in
    let longer : c.push.new.self ≡ list ++ entry ∷ [] = c.in_ok-push.ensures.ok in
    let above : c.loop-row.last < c.in-Some.number = c.in-Some.ensures.above in
    let seq : entry.seq ≡ c.in-Some.number = rw c.in-Some-2.is at c.in_ok-entry.ensures.numbered in
    let both = rises_with c.args.after c.loop-row.last c.in-Some.number list c.push.new.self entry c.loop-row.invariant.order c.loop-row.invariant.last_is above seq longer in
    let told = rw c.in-Some-2.is at c.in_ok-entry.ensures.told in
    record {
      few = omega (arith, c.len.ensures, c.if-len-max.false, c.loop-row.invariant.few, ap length longer, length-append list (entry ∷ []));
      order = both.0;
      last_is = both.1;
      told = one_more_row c.args.after c.args.max c.loop-row.row-index c.loop-row.last c.in-Some.number c.args.rows.now c.row-item.result list c.push.new.self entry (omega arith) c.row-item.is c.loop-row.invariant.told
          (λ w is less. let found = c.in-Some.ensures.told w is less in cc) (λ w is numbered. let found = told w is numbered in cc) longer;
    }

-- each row of the table has a number above the last one, and is read
pub returns-in_default-clause-told : goal.returns-in_default-clause-told
returns-in_default-clause-told c =
    numbered_is_told c.args.after c.args.max c.loop-row.row-index c.loop-row.last c.args.rows.now c.row-item.result c.loop-row.list (omega arith) c.row-item.is c.loop-row.invariant.told
    (λ w is less. let found = c.in_default.ensures.told w is less in absurd cc)

pub returns-in_default-2-clause-told : goal.returns-in_default-2-clause-told
returns-in_default-2-clause-told c =
    let told = rw c.in_default-2.is at c.in_ok-entry.ensures.told in
    numbered_is_told c.args.after c.args.max c.loop-row.row-index c.loop-row.last c.args.rows.now c.row-item.result c.loop-row.list (omega arith) c.row-item.is c.loop-row.invariant.told
    (λ w is less. let number = c.in-Some.ensures.told w is less in let found = told w is (let same : c.in-Some.number ≡ number_in (Int w.number) = cc in same) in absurd cc)
