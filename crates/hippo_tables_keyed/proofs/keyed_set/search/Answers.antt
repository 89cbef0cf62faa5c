-- The last piece that begins low is searched.
use Rattle.std.proofs.Common.{◌-◌, arith, sym, ◌∙◌}
use Rattle.hippo_tables_keyed.specs.Searches.{target_order}
use Rattle.hippo_tables_keyed.proofs.PieceSearch.{few_after, range_after, found_from, missing_before, missing_after}
use Rattle.hippo_tables_keyed.proofs.keyed_set.search.Goals as goal

pub returns-then-stands_after_all-clause-place : goal.returns-then-stands_after_all-clause-place
returns-then-stands_after_all-clause-place c = rw c.len-len.ensures (missing_after (target_order c.args.places.now c.args.target.now) c.args.rows.now (sym c.stands_after_all.ensures ∙ c.if-stands_after_all.true))

pub returns-then-low-eq0-clause-place : goal.returns-then-low-eq0-clause-place
returns-then-low-eq0-clause-place c = missing_before (target_order c.args.places.now c.args.target.now) c.args.rows.now c.as_slice-pieces.result.now c.as_slice-pieces.ensures.value c.rows.invariant.full c.rows.view_is
    c.low_pieces-low.result c.low_pieces-low.ensures.bound c.low_pieces-low.ensures.parted (omega arith)

pub place_from-requires : goal.place_from-requires
place_from-requires c = rw c.start-start.ensures
    (few_after (target_order c.args.places.now c.args.target.now) c.args.rows.now c.as_slice-pieces.result.now c.as_slice-pieces.ensures.value c.rows.invariant.full c.rows.view_is
    c.low_pieces-low.result c.low_pieces-low.ensures.bound c.low_pieces-low.ensures.parted
    (c.low_pieces-low.result - 1) c.index-pieces-low.result (omega arith) c.index-pieces-low.is _ (omega (arith, c.len-len.ensures)) c.search_piece.result c.search_piece.ensures.range)

pub returns : goal.returns
returns c = rw (c.place_from.ensures, c.start-start.ensures)
    (let order = target_order c.args.places.now c.args.target.now in
    let i = c.low_pieces-low.result - 1 in
    record {
      range = range_after order c.args.rows.now c.as_slice-pieces.result.now c.as_slice-pieces.ensures.value c.rows.invariant.full c.rows.view_is
          c.low_pieces-low.result c.low_pieces-low.ensures.bound c.low_pieces-low.ensures.parted i c.index-pieces-low.result (omega arith) c.index-pieces-low.is
          c.search_piece.result c.search_piece.ensures.range;
      place = found_from order c.args.rows.now c.as_slice-pieces.result.now c.as_slice-pieces.ensures.value c.rows.invariant.full c.rows.view_is
          c.low_pieces-low.result c.low_pieces-low.ensures.bound c.low_pieces-low.ensures.parted i c.index-pieces-low.result (omega arith) c.index-pieces-low.is
          c.search_piece.result c.search_piece.ensures.range c.search_piece.ensures.place;
    })
