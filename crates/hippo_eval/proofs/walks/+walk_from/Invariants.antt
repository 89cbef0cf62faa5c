-- What is kept of the rows before the index, with every combination that can follow each.
use Rattle.std.proofs.Common.{◌≡◌, ◌+◌, ◌-◌, List, ◌++◌, length, take, drop}
use Rattle.std.specs.List.{flat_map}
use Rattle.hippo_model.specs.Terms.{Combination}
use Rattle.hippo_model.specs.Answers.{product}
use Rattle.hippo_eval.specs.Walks.{rows_of, combinations_after}
use Rattle.hippo_eval.proofs.WalkLemmas.{beginning}
use Rattle.hippo_eval.proofs.walks.+walk_from.Given as goal

abbrev pub decreases-walk_from : goal.decreases-walk_from
decreases-walk_from g l = length l.sets.now - l.place

abbrev pub invariant-loop-index : goal.invariant-loop-index
invariant-loop-index g l = record {
  same : l.combo ≡ l.initial.combo;
  kept : (before : List Combination) → g.V.Visitor.Keeps l.visitor before l.initial.state
      → g.V.Visitor.Keeps l.visitor (before ++ combinations_after l.initial.combo (flat_map (beginning (product (rows_of (drop (l.place + 1) l.sets)))) (take l.index l.set.rows))) l.state;
}
