-- Equal values are between the two ends, and no others are.
use Rattle.std.proofs.Common.{arith}
use Rattle.hippo_join_lookups.proofs.LookupLemmas.{all-between, among, before-all, between-equal, long, none-among}
use Rattle.hippo_join_lookups.proofs.lookups.searched_with.Goals as goal

pub returns-then-places-end : goal.returns-then-places-end
returns-then-places-end c = record {
  all = λ set column index place has equal.
      absurd (omega (arith, c.if-places-end.true, c.end_with-end.ensures.range, long set column c.args.values.now c.args.places.now c.args.value.now index));
  none_else = λ set column index place there. absurd (omega (arith, there.1));
}

pub returns-then-end-start : goal.returns-then-end-start
returns-then-end-start c = record {
  all = λ set column index place has equal.
      let places = c.args.places.now in
      absurd (none-among set column c.args.values.now places c.args.value.now index c.start_near-start.result c.end_with-end.result c.if-end-start.true
      (c.start_near-start.ensures.from set column places index) (c.end_with-end.ensures.upto set column places index) place has equal);
  none_else = λ set column index place there. absurd (omega (arith, there.1));
}

pub returns : goal.returns
returns c =
    let places = c.args.places.now in
    let values = c.args.values.now in
    record {
      all = λ set column index.
          among set column values places c.args.value.now index c.start_near-start.result c.end_with-end.result (omega (arith, c.if-places-end.false))
          (c.start_near-start.ensures.from set column places index) (c.end_with-end.ensures.upto set column places index);
      none_else = λ set column index.
          all-between set column values places c.args.value.now index c.start_near-start.result c.end_with-end.result (omega (arith, c.if-places-end.false))
          (λ k after short there. between-equal set column values places c.args.value.now index k
          (c.start_near-start.ensures.above set column places index k after (before-all set column values places c.args.value.now index k there) there)
          (c.end_with-end.ensures.within set column places index k after short there));
    }
