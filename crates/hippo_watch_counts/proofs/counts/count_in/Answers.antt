-- One more row.
use Rattle.std.proofs.Common.{◌≡◌, ◌∙◌, ◌+◌, Some, ap, arith, length, drop, ℕ}
use Rattle.std.specs.Prelude.{filter}
use Rattle.hippo_model.specs.Hits.{own_conditions, is_hit}
use Rattle.hippo_watch_counts.specs.Rows.{hit_of}
use Rattle.hippo_watch_counts.proofs.ChangedRows.{at_most_one, counted_next}
use Rattle.hippo_watch_counts.proofs.counts.count_in.Goals as goal

pub loop-place-preserved : goal.loop-place-preserved
loop-place-preserved c =
    let own = own_conditions c.args.audit.now c.args.table in
    let hit : c.hit_of-count.result ≡ hit_of own (Some c.row.result.now) = c.hit_of-count.ensures in
    let one = at_most_one own (Some c.row.result.now) in
    let within = c.loop-place.invariant.within in
    let next = counted_next own c.args.rows.now.rows c.loop-place.place c.loop-place.count c.row.result.now c.row.ensures in
    record {
      within = omega (arith, within, hit, one);
      left = ap (λ (n : ℕ). c.loop-place.count + n + length (filter (is_hit own) (drop (c.loop-place.place + 1) c.args.rows.now.rows))) hit ∙ next ∙ c.loop-place.invariant.left;
    }
