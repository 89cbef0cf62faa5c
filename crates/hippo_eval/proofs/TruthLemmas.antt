-- The least and the greatest truth, one part more.
use Rattle.std.proofs.Common.{◌≡◌, ℕ, ◌+◌, ◌<◌, Bool, true, false, List, map, drop, get_or, length, refl, sym, ap, ◌∙◌}
use Rattle.std.proofs.lemmas.List.{at_drop_more}
use Rattle.hippo_values.specs.declared.truths.Truth.{Truth}
use Rattle.hippo_values.specs.declared.truths.Truth.TheVariants.{False, Unknown}
use Rattle.hippo_values.specs.Truths.{truth_and, truth_or}
use Rattle.hippo_model.specs.Conditions.{least, greatest}
use Rattle.hippo_eval.specs.PartTruths.{truth_of_both, truth_of_all}

truth_and-assoc : (a b c : Truth) → truth_and (truth_and a b) c ≡ truth_and a (truth_and b c)
truth_and-assoc Unknown Unknown False = refl
truth_and-assoc a b c = refl

truth_or-assoc : (a b c : Truth) → truth_or (truth_or a b) c ≡ truth_or a (truth_or b c)
truth_or-assoc Unknown Unknown False = refl
truth_or-assoc a b c = refl

module _ {X : Type 0} (f : X → Truth) (parts : List X) (i : ℕ) (part : X) (short : i < length parts) (is : part ≡ get_or parts i part) (so_far : Truth) where
  least_more : truth_and (truth_and so_far (f part)) (least (map f (drop (i + 1) parts))) ≡ truth_and so_far (least (map f (drop i parts)))
  least_more =
      truth_and-assoc so_far (f part) (least (map f (drop (i + 1) parts)))
      ∙ ap (λ (first : X). truth_and so_far (truth_and (f first) (least (map f (drop (i + 1) parts))))) is
      ∙ sym (ap (truth_and so_far) (at_drop_more (λ some. least (map f some)) parts i part short))

  pub greatest_more : truth_or (truth_or so_far (f part)) (greatest (map f (drop (i + 1) parts))) ≡ truth_or so_far (greatest (map f (drop i parts)))
  greatest_more =
      truth_or-assoc so_far (f part) (greatest (map f (drop (i + 1) parts)))
      ∙ ap (λ (first : X). truth_or so_far (truth_or (f first) (greatest (map f (drop (i + 1) parts))))) is
      ∙ sym (ap (truth_or so_far) (at_drop_more (λ some. greatest (map f some)) parts i part short))

  either_more : (all : Bool) → truth_of_both all (truth_of_both all so_far (f part)) (truth_of_all all (map f (drop (i + 1) parts))) ≡ truth_of_both all so_far (truth_of_all all (map f (drop i parts)))
  either_more true = least_more
  either_more false = greatest_more

  -- the truth of the parts so far with one more, and when it is settled
  module _ (all : Bool) (now whole : Truth) (is_now : now ≡ truth_of_both all so_far (f part)) (before : truth_of_both all so_far (truth_of_all all (map f (drop i parts))) ≡ whole) where
    pub part_more : truth_of_both all now (truth_of_all all (map f (drop (i + 1) parts))) ≡ whole
    part_more = ap (λ (truth : Truth). truth_of_both all truth (truth_of_all all (map f (drop (i + 1) parts)))) is_now ∙ either_more all ∙ before

    pub part_settled : ((other : Truth) → truth_of_both all now other ≡ now) → now ≡ whole
    part_settled settled = sym (settled (truth_of_all all (map f (drop (i + 1) parts)))) ∙ part_more
