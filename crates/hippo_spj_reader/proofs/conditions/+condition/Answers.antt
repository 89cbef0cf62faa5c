-- The first part begins the list; each further part is its next one.
use Rattle.std.proofs.Common.{◌≡◌, ℕ, zero, suc, ◌<◌, ◌≤◌, [], length, None, Some, Result, List, Bor, refl, arith, sym}
use Rattle.std.proofs.lemmas.Result.{err_from_is_err_and}
use Rattle.hippo_lexer.specs.declared.faults.SyntaxFault.{SyntaxFault}
use Rattle.hippo_values.specs.declared.keywords.Keyword.TheVariants.{KAnd, KNot, KOr}
use Rattle.hippo_lexer.specs.declared.kinds.Token.{Token}
use Rattle.hippo_spj_reader.specs.Promises.{Gives}
use Rattle.hippo_spj_reader.specs.ConditionGrammar.{RawCond, any_of, all_of}
use Rattle.hippo_spj_reader.specs.Front.{kinds, after_keyword}
use Rattle.hippo_spj_reader.specs.ConditionFinder.{conjunction_with, primary_with, leading_negation}
use Rattle.hippo_spj_reader.proofs.ListLoops.{begins, adds, breaks, no_part}
use Rattle.hippo_spj_reader.proofs.conditions.+condition.Goals as goal

pub conjunction-loop-remaining-init : goal.conjunction-loop-remaining-init
conjunction-loop-remaining-init t c = record {
  no_longer = c.in_ok-first.ensures.no_longer;
  so_far = λ n enough. begins (leading_negation n) (after_keyword KAnd) c.args.tokens.now c.in_ok-first.rest.now c.in_ok-first.first [] _ (c.in_ok-first.ensures.found n enough) c.in_ok-first.ensures.no_longer refl c.in_ok-parts.ensures;
}

pub conjunction-loop-remaining-preserved : goal.conjunction-loop-remaining-preserved
conjunction-loop-remaining-preserved t c = record {
  no_longer = omega (arith, c.in_ok-rest.ensures.no_longer, c.in-Some.ensures.shorter);
  so_far = λ n enough. adds (leading_negation n) (after_keyword KAnd) c.loop-remaining.parts _ c.loop-remaining.rest.now c.in-Some.remaining.now c.in_ok-rest.rest.now
      (c.loop-remaining.invariant.so_far n enough) c.in-Some.ensures.rest (c.in_ok-rest.ensures.found n (omega (arith, c.in-Some.ensures.shorter))) c.in_ok-rest.ensures.no_longer c.in-Some.ensures.shorter;
}

pub conjunction-returns-in_err-rest-clause-found : goal.conjunction-returns-in_err-rest-clause-found
conjunction-returns-in_err-rest-clause-found t c n enough =
    let p = err_from_is_err_and c.from_residual-in_err-rest.result c.from_residual-in_err-rest.ensures.1 in
    rw (p.1, p.2) (breaks (leading_negation n) (after_keyword KAnd) (λ parts. Some (all_of parts.0, parts.1)) _ c.loop-remaining.parts c.loop-remaining.rest.now c.in-Some.remaining.now
    (c.loop-remaining.invariant.so_far n enough) c.in-Some.ensures.rest c.in-Some.ensures.shorter (no_part _ c.loop-remaining.parts _ (c.in_err-rest.ensures.found n (omega (arith, c.in-Some.ensures.shorter)))))

pub disjunction-loop-remaining-init : goal.disjunction-loop-remaining-init
disjunction-loop-remaining-init t c = record {
  no_longer = c.in_ok-first.ensures.no_longer;
  so_far = λ n enough. begins (conjunction_with (leading_negation n)) (after_keyword KOr) c.args.tokens.now c.in_ok-first.rest.now c.in_ok-first.first [] _ (c.in_ok-first.ensures.found n enough) c.in_ok-first.ensures.no_longer refl c.in_ok-parts.ensures;
}

pub disjunction-loop-remaining-preserved : goal.disjunction-loop-remaining-preserved
disjunction-loop-remaining-preserved t c = record {
  no_longer = omega (arith, c.in_ok-rest.ensures.no_longer, c.in-Some.ensures.shorter);
  so_far = λ n enough. adds (conjunction_with (leading_negation n)) (after_keyword KOr) c.loop-remaining.parts _ c.loop-remaining.rest.now c.in-Some.remaining.now c.in_ok-rest.rest.now
      (c.loop-remaining.invariant.so_far n enough) c.in-Some.ensures.rest (c.in_ok-rest.ensures.found n (omega (arith, c.in-Some.ensures.shorter))) c.in_ok-rest.ensures.no_longer c.in-Some.ensures.shorter;
}

pub disjunction-returns-in_err-rest-clause-found : goal.disjunction-returns-in_err-rest-clause-found
disjunction-returns-in_err-rest-clause-found t c n enough =
    let p = err_from_is_err_and c.from_residual-in_err-rest.result c.from_residual-in_err-rest.ensures.1 in
    rw (p.1, p.2) (breaks (conjunction_with (leading_negation n)) (after_keyword KOr) (λ parts. Some (any_of parts.0, parts.1)) _ c.loop-remaining.parts c.loop-remaining.rest.now c.in-Some.remaining.now
    (c.loop-remaining.invariant.so_far n enough) c.in-Some.ensures.rest c.in-Some.ensures.shorter (no_part _ c.loop-remaining.parts _ (c.in_err-rest.ensures.found n (omega (arith, c.in-Some.ensures.shorter)))))

-- if NOT does not come first, a negation is a primary
plain : (result : Result (RawCond × Bor (List Token)) SyntaxFault) (tokens : List Token) (n : ℕ) → length tokens < n → None ≡ after_keyword KNot (kinds tokens) →
    ((m : ℕ) → length tokens ≤ m → Gives (λ x. (x.0, kinds x.1.now)) result (primary_with (leading_negation m) (kinds tokens))) →
    Gives (λ x. (x.0, kinds x.1.now)) result (leading_negation n (kinds tokens))
plain result tokens zero enough none found = absurd (omega arith)
plain result tokens (suc m) enough none found = rw (sym none) (found m (omega arith))

pub negation-returns-clause-found : goal.negation-returns-clause-found
negation-returns-clause-found t c n enough = plain c.primary.result c.args.tokens.now n enough c.in_default.ensures.rest c.primary.ensures.found
