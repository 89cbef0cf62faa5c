-- Words that the parser accepts.
use Rattle.std.proofs.Common.{◌≡◌, ◌∙◌, ℕ, ◌+◌, ◌≤◌, Bool, true, false, not, cond, ◌&&◌, [], ◌∷◌, ◌++◌, take, drop, refl, sym, ap, arith, zero-add}
use Rattle.std.specs.Prelude.{count_by}
use Rattle.std.specs.List.{list_any, list_all}
use Rattle.std.proofs.lemmas.Bool.{and_parts, and_from}
use Rattle.std.proofs.lemmas.List.{take-append-drop}
use Rattle.std.proofs.lemmas.List.Folds.{list_any-append}
use Rattle.std.proofs.lemmas.List.Sums.{sum_by-cons, sum_by-append}
use Rattle.hippo_lexer.specs.Words.{is_left_paren, negates, is_unsupported}
use Rattle.hippo_lexer.specs.declared.kinds.TokenKind.{TokenKind}
use Rattle.hippo_spj_reader.specs.Front.{Kinds}
use Rattle.hippo_typing_laws.proofs.FitWords.{AreFit}

-- words with few parentheses and few NOT are accepted
pub few-fit : (said : Kinds) → count_by is_left_paren said ≤ 64 → count_by negates said ≤ 64
    → list_any is_unsupported said ≡ false → AreFit said
few-fit said opened negated supported = record {
  level = λ n small.
      let parts : count_by is_left_paren said ≡ count_by is_left_paren (take n said) + count_by is_left_paren
      (drop n said) =
      ap (count_by is_left_paren) (sym (take-append-drop n said))
      ∙ sum_by-append (λ (k : TokenKind). cond (is_left_paren k) 1 0) (take n said) (drop n said) in
      omega (arith, parts, opened);
  few = negated;
  supported = supported;
}

-- words without any
pub flat-fit : (said : Kinds) → count_by is_left_paren said ≡ 0 → count_by negates said ≡ 0
    → list_any is_unsupported said ≡ false → AreFit said
flat-fit said opened negated supported =
    few-fit said (omega (arith, opened)) (omega (arith, negated)) supported

-- neither `(` nor NOT, and no word that is refused
abbrev pub is_calm : TokenKind → Bool
is_calm kind = not (is_left_paren kind) && not (negates kind) && not (is_unsupported kind)

pub passed : (test : TokenKind → Bool) (kind : TokenKind) → test kind ≡ false → (said : Kinds)
    → count_by test (kind ∷ said) ≡ count_by test said
passed test kind other said =
    sum_by-cons (λ (k : TokenKind). cond (test k) 1 0) kind said
    ∙ rw other (zero-add (count_by test said))

pub fails : (test : Bool) → not test ≡ true → test ≡ false
fails true is = absurd cc
fails false is = refl

pub calm-fits : (said : Kinds) → list_all is_calm said ≡ true
    → (count_by is_left_paren said ≡ 0) × (count_by negates said ≡ 0) × (list_any is_unsupported said
    ≡ false)
calm-fits [] calm = (refl, refl, refl)
calm-fits (kind ∷ said) calm =
    let both = and_parts (is_calm kind) (list_all is_calm said) calm in
    let two = and_parts (not (is_left_paren kind) && not (negates kind)) (not (is_unsupported kind))
    both.0 in
    let one = and_parts (not (is_left_paren kind)) (not (negates kind)) two.0 in
    let later = calm-fits said both.1 in (
      passed is_left_paren kind (fails (is_left_paren kind) one.0) said ∙ later.0,
      passed negates kind (fails (negates kind) one.1) said ∙ later.1,
      rw (fails (is_unsupported kind) two.1) later.2,
    )

-- a first part with few of them, and then none
pub front-fit : (front said : Kinds) (opened : ℕ) → count_by is_left_paren front ≡ opened → opened ≤ 64
    → count_by negates front ≡ 0 → list_any is_unsupported front ≡ false → list_all is_calm said
    ≡ true → AreFit (front ++ said)
front-fit front said opened count few negated supported calm =
    let none = calm-fits said calm in
    few-fit (front ++ said)
    (omega (
      arith,
      sum_by-append (λ (k : TokenKind). cond (is_left_paren k) 1 0) front said,
      none.0,
      count,
      few,
    ))
    (omega (
      arith,
      sum_by-append (λ (k : TokenKind). cond (negates k) 1 0) front said,
      none.1,
      negated,
    ))
    (list_any-append is_unsupported front said ∙ rw (supported, none.2) refl)

-- lists that are calm
pub calm-append : (front said : Kinds) → list_all is_calm front ≡ true → list_all is_calm said
    ≡ true → list_all is_calm (front ++ said) ≡ true
calm-append [] said first later = later
calm-append (kind ∷ front) said first later =
    let both = and_parts (is_calm kind) (list_all is_calm front) first in
    and_from _ _ both.0 (calm-append front said both.1 later)
