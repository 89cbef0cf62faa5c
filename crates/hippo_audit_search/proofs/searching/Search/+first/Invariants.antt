-- Fewer common tables are left. No place so far is shared by both sides, with the rows that were
-- chosen before.
use Rattle.std.proofs.Common.{◌≡◌, ◌+◌, ◌*◌, ◌∷◌, length}
use Rattle.hippo_audit_search.proofs.SearchLemmas.{NoneSoFar}
use Rattle.hippo_audit_search.proofs.searching.Search.+first.Given as goal

abbrev pub decreases-first : goal.decreases-first
decreases-first g l = 2 * length l.common.now

abbrev pub decreases-first_onward : goal.decreases-first_onward
decreases-first_onward g l = 2 * length l.rest.now + 1

abbrev pub invariant-first-loop-place : goal.invariant-first-loop-place
invariant-first-loop-place g l = record {
  same_query : l.query ≡ l.initial.query;
  same_audit : l.audit ≡ l.initial.audit;
  so_far : NoneSoFar g.C.ChoiceView.choices l.self (l.stages ∷ l.rest) l.initial.query l.initial.audit l.place-items l.place-index;
}
