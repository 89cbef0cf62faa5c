-- One more row, or more cells than the limit.
use Rattle.std.proofs.Common.{◌≤◌, ◌++◌, length, take, drop, ◌∙◌, sym, ap, arith, length-append, ◌+◌, List}
use Rattle.hippo_model.specs.Denials.{Denial}
use Rattle.hippo_audit_explain.specs.Listing.{rules_context, rows_denials}
use Rattle.hippo_audit_explain.proofs.ListingLemmas.{held_ok, row_turn}
use Rattle.hippo_audit_explain.proofs.rows.list_rows.Goals as goal

pub returns-then-len-limit-clause-lists : goal.returns-then-len-limit-clause-lists
returns-then-len-limit-clause-lists c = λ history stands.
    let kept = c.born_row-kept.result.now in
    let added = held_ok _ c.list_row.result (sym c.is_err.ensures.value ∙ c.if-is_err.false) c.list_row.ensures in
    let turned = row_turn (take c.args.rules.now.count history) (rules_context c.args.rules.now) c.args.schema.now c.args.listed.now c.args.rows.now.rows c.loop-place.place kept c.loop-place.cells c.list_row.new.cells
    (c.args.cells.now ++ rows_denials (take c.args.rules.now.count history) (rules_context c.args.rules.now) c.args.schema.now c.args.listed.now c.args.rows.now.rows)
    c.born_row-kept.ensures (c.loop-place.invariant.so_far history stands) (added history stands) in
    let more : c.args.limit + 1 ≤ length c.list_row.new.cells = omega (arith, c.if-len-limit.true, c.len.ensures) in
    let lengths = length-append c.list_row.new.cells (rows_denials (take c.args.rules.now.count history) (rules_context c.args.rules.now) c.args.schema.now c.args.listed.now (drop (c.loop-place.place + 1) c.args.rows.now.rows)) in
    omega (arith, more, lengths, ap (λ (l : List Denial). length l) turned)

pub loop-place-preserved : goal.loop-place-preserved
loop-place-preserved c = record {
  within = omega (arith, c.if-len-limit.false, c.len.ensures);
  so_far = λ history stands.
      let kept = c.born_row-kept.result.now in
      let added = held_ok _ c.list_row.result (sym c.is_err.ensures.value ∙ c.if-is_err.false) c.list_row.ensures in
      row_turn (take c.args.rules.now.count history) (rules_context c.args.rules.now) c.args.schema.now c.args.listed.now c.args.rows.now.rows c.loop-place.place kept c.loop-place.cells c.list_row.new.cells
      (c.args.cells.now ++ rows_denials (take c.args.rules.now.count history) (rules_context c.args.rules.now) c.args.schema.now c.args.listed.now c.args.rows.now.rows)
      c.born_row-kept.ensures (c.loop-place.invariant.so_far history stands) (added history stands);
}
