-- Places are sorted, and duplicates are removed.
use Rattle.std.proofs.Common.{List, ℕ, eqb, sym, subst}
use Rattle.hippo_join_stages.specs.Walking.{candidate_places}
use Rattle.std.specs.List.{All, Contains}
use Rattle.std.specs.List.Sorted.{IsStrictlyIncreasing}
use Rattle.std.proofs.lemmas.List.Elements.{All-contains_itself}
use Rattle.std.proofs.lemmas.List.Filters.{All-dedup, dedup_is}
use Rattle.std.proofs.lemmas.List.Kept.{Contains-dedup_nat}
use Rattle.std.proofs.lemmas.List.Sorted.{All-permutation, Contains-permutation}
use Rattle.std.proofs.lemmas.Map.Keys.{IsStrictlyIncreasing-dedup}
use Rattle.hippo_join.proofs.walking.ascending.Goals as goal

pub returns-clause-order : goal.returns-clause-order
returns-clause-order c =
    let sorted = c.sort_unstable.new.self.items in
    subst IsStrictlyIncreasing (sym (dedup_is eqb sorted c.dedup.new.self.items c.dedup.ensures.filtered)) (IsStrictlyIncreasing-dedup sorted c.sort_unstable.ensures.sorted)

pub returns-clause-all : goal.returns-clause-all
returns-clause-all c = λ place has.
    let sorted = c.sort_unstable.new.self.items in
    let there = subst (λ (places : List ℕ). Contains places place) (sym c.in_ok-places.ensures) has in
    subst (λ (places : List ℕ). Contains places place) (sym (dedup_is eqb sorted c.dedup.new.self.items c.dedup.ensures.filtered))
    (Contains-dedup_nat sorted place (Contains-permutation c.in_ok-places.places.items sorted place c.sort_unstable.ensures.permutation there))

pub returns-clause-none_else : goal.returns-clause-none_else
returns-clause-none_else c =
    let sorted = c.sort_unstable.new.self.items in
    let Has = Contains (candidate_places c.args.following.now) in
    let own = subst (λ (places : List ℕ). All Has places) (sym c.in_ok-places.ensures) (All-contains_itself (candidate_places c.args.following.now)) in
    subst (λ (places : List ℕ). All Has places) (sym (dedup_is eqb sorted c.dedup.new.self.items c.dedup.ensures.filtered))
    (All-dedup eqb Has sorted (All-permutation Has c.in_ok-places.places.items sorted c.sort_unstable.ensures.permutation own))
