-- The only equal value is at the place that was tried.
use Rattle.std.proofs.Common.{◌+◌, arith}
use Rattle.hippo_join_lookups.proofs.LookupLemmas.{all-between, among, equal-by_test}
use Rattle.hippo_join_lookups.proofs.lookups.with_value.Goals as goal

pub returns-then-is_only_at : goal.returns-then-is_only_at
returns-then-is_only_at c =
    let places = c.args.places.now in
    let last = c.get-last.result in
    record {
      all = λ set column index.
          let only = c.is_only_at.ensures.only c.if-is_only_at.true set column places index in
          among set column c.args.values.now places c.args.value.now index last (last + 1) (omega (arith, c.if-last-places.true))
          (λ k within equal. omega (arith, only k within equal)) (λ k within equal. omega (arith, only k within equal));
      none_else = λ set column index.
          all-between set column c.args.values.now places c.args.value.now index last (last + 1) (omega (arith, c.if-last-places.true))
          (λ k after short there. equal-by_test _ (c.is_only_at.ensures.same c.if-is_only_at.true set column places index k after short there));
    }
