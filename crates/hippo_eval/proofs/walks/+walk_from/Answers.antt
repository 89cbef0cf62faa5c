-- One row more, with every combination that can follow it.
use Rattle.std.proofs.Common.{◌≡◌, ◌+◌, ◌++◌, [], ◌∷◌, take, drop, ap, ◌∙◌, Some, slice_get, arith}
use Rattle.std.specs.List.{flat_map}
use Rattle.std.proofs.lemmas.List.{take_all}
use Rattle.hippo_model.specs.declared.born_row.BornRow.{BornRow}
use Rattle.hippo_model.specs.Terms.{Combination}
use Rattle.hippo_model.specs.Answers.{product}
use Rattle.hippo_eval.specs.Walks.{rows_of, combinations_after}
use Rattle.hippo_eval.proofs.WalkLemmas.{beginning, without_last}
use Rattle.hippo_eval.proofs.KeptLemmas.{kept_more, kept_enough, born_row, product_at}
use Rattle.hippo_eval.proofs.walks.+walk_from.Goals as goal

pub returns-in-Enough-clause-kept : goal.returns-in-Enough-clause-kept
returns-in-Enough-clause-kept g t c before kept later =
    let rest = product (rows_of (drop (c.args.place + 1) c.args.sets.now)) in
    let row : BornRow = record { row = c.row.result.now; born = c.born.result } in
    let e : slice_get c.get-set.result.now.rows c.loop-index.index ≡ Some row = born_row _ _ _ c.row.ensures c.born.ensures in
    let pushed : c.push.new.self ≡ c.args.combo.now ++ row ∷ [] = c.in_ok-push.ensures.ok ∙ ap (λ (rows : Combination). rows ++ row ∷ []) c.loop-index.invariant.same in
    let so_far = c.loop-index.invariant.kept before kept in
    let visited = before ++ combinations_after c.args.combo.now (flat_map (beginning rest) (take c.loop-index.index c.get-set.result.now.rows)) in
    let after = rw (pushed, c.in-Enough.is) at (c.in_ok-onward.ensures.kept visited so_far) in
    rw (product_at c.args.sets.now c.args.place c.get-set.result.now c.get-set.ensures)
    (kept_enough (g.V.Visitor.Keeps c.args.visitor.now) c.args.combo.now rest c.get-set.result.now.rows c.loop-index.index row e before c.walk_from.new.state after later)

pub loop-index-preserved : goal.loop-index-preserved
loop-index-preserved g t c =
    let rest = product (rows_of (drop (c.args.place + 1) c.args.sets.now)) in
    let row : BornRow = record { row = c.row.result.now; born = c.born.result } in
    let e : slice_get c.get-set.result.now.rows c.loop-index.index ≡ Some row = born_row _ _ _ c.row.ensures c.born.ensures in
    let pushed : c.push.new.self ≡ c.args.combo.now ++ row ∷ [] = c.in_ok-push.ensures.ok ∙ ap (λ (rows : Combination). rows ++ row ∷ []) c.loop-index.invariant.same in
    record {
      same = c.pop.ensures ∙ without_last c.walk_from.new.combo c.args.combo.now row (c.in_ok-onward.ensures.same ∙ pushed);
      kept = λ before kept.
          let visited = before ++ combinations_after c.args.combo.now (flat_map (beginning rest) (take c.loop-index.index c.get-set.result.now.rows)) in
          let after = rw pushed at (c.in_ok-onward.ensures.kept visited (c.loop-index.invariant.kept before kept)) in
          kept_more (g.V.Visitor.Keeps c.args.visitor.now) c.args.combo.now rest c.get-set.result.now.rows c.loop-index.index row e before c.walk_from.new.state c.in_ok-onward.onward after;
    }

pub returns-clause-kept : goal.returns-clause-kept
returns-clause-kept g t c before kept =
    let whole = take_all c.loop-index.index c.get-set.result.now.rows (omega (arith, c.len-index-end.ensures.rows)) in
    rw (product_at c.args.sets.now c.args.place c.get-set.result.now c.get-set.ensures) (rw whole at (c.loop-index.invariant.kept before kept))
