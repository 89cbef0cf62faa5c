-- How many parentheses and NOT some words have, piece by piece from their end.
use Rattle.std.proofs.Common.{◌≡◌, ℕ, ◌+◌, ◌≤◌, true, false, cond, ◌∷◌, refl, arith}
use Rattle.std.specs.Prelude.{count_by, not, ◌&&◌}
use Rattle.std.specs.List.{list_any, list_all}
use Rattle.std.proofs.lemmas.Bool.{and_parts}
use Rattle.std.proofs.lemmas.List.Sums.{sum_by-cons}
use Rattle.hippo_values.specs.declared.keywords.Keyword.TheVariants.{KNot}
use Rattle.hippo_lexer.specs.Words.{is_left_paren, negates, is_unsupported}
use Rattle.hippo_lexer.specs.declared.kinds.Symbol.TheVariants.{LeftParen}
use Rattle.hippo_lexer.specs.declared.kinds.TokenKind.{TokenKind}
use Rattle.hippo_lexer.specs.declared.kinds.TokenKind.TheVariants.{Keyword, Symbol}
use Rattle.hippo_spj_reader.specs.Front.{Kinds}
use Rattle.hippo_typing_laws.proofs.FitWords.{AreFit}
use Rattle.hippo_history_laws.proofs.FitLemmas.{is_calm, few-fit, passed, fails, calm-fits}

-- words with at most this many `(` and NOT, and no word that is refused
pub record Weighs (said : Kinds) (opened negated : ℕ) : Type 0 where
  pub open_few : count_by is_left_paren said ≤ opened
  pub not_few : count_by negates said ≤ negated
  pub supported : list_any is_unsupported said ≡ false

pub weighs-front : (said : Kinds) → list_all is_calm said ≡ true → Weighs said 0 0
weighs-front said calm =
    let none = calm-fits said calm in
    record { open_few = omega (arith, none.0); not_few = omega (arith, none.1); supported = none.2 }

pub weighs-calm : (kind : TokenKind) (said : Kinds) (opened negated : ℕ) → is_calm kind ≡ true
    → Weighs said opened negated → Weighs (kind ∷ said) opened negated
weighs-calm kind said opened negated calm light =
    let two = and_parts (not (is_left_paren kind) && not (negates kind)) (not (is_unsupported kind)) calm in
    let one = and_parts (not (is_left_paren kind)) (not (negates kind)) two.0 in
    let same_opened = passed is_left_paren kind (fails (is_left_paren kind) one.0) said in
    let same_negated = passed negates kind (fails (negates kind) one.1) said in
    record {
      open_few = (let few = light.open_few in omega (arith, same_opened, few));
      not_few = (let few = light.not_few in omega (arith, same_negated, few));
      supported = rw (fails (is_unsupported kind) two.1) light.supported;
    }

pub weighs-opening : (said : Kinds) (opened negated : ℕ) → Weighs said opened negated
    → Weighs (Symbol LeftParen ∷ said) (opened + 1) negated
weighs-opening said opened negated light =
    let one_more : count_by is_left_paren (Symbol LeftParen ∷ said) ≡ 1 + count_by is_left_paren said =
    sum_by-cons (λ (k : TokenKind). cond (is_left_paren k) 1 0) (Symbol LeftParen) said in
    let same_negated = passed negates (Symbol LeftParen) refl said in
    record {
      open_few = (let few = light.open_few in omega (arith, one_more, few));
      not_few = (let few = light.not_few in omega (arith, same_negated, few));
      supported = light.supported;
    }

pub weighs-not : (said : Kinds) (opened negated : ℕ) → Weighs said opened negated
    → Weighs (Keyword KNot ∷ said) opened (negated + 1)
weighs-not said opened negated light =
    let same_opened = passed is_left_paren (Keyword KNot) refl said in
    let one_more : count_by negates (Keyword KNot ∷ said) ≡ 1 + count_by negates said =
    sum_by-cons (λ (k : TokenKind). cond (negates k) 1 0) (Keyword KNot) said in
    record {
      open_few = (let few = light.open_few in omega (arith, same_opened, few));
      not_few = (let few = light.not_few in omega (arith, one_more, few));
      supported = light.supported;
    }

pub weighs-more : (said : Kinds) (opened negated : ℕ) → Weighs said opened negated
    → Weighs said opened (negated + 1)
weighs-more said opened negated light = record {
  open_few = light.open_few;
  not_few = (let few = light.not_few in omega (arith, few));
  supported = light.supported;
}

pub weighs-fit : (said : Kinds) (opened negated : ℕ) → Weighs said opened negated → opened ≤ 64
    → negated ≤ 64 → AreFit said
weighs-fit said opened negated light opened_small negated_small =
    few-fit said
    (let few = light.open_few in omega (arith, few, opened_small))
    (let few = light.not_few in omega (arith, few, negated_small)) light.supported
