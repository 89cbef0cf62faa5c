-- Tokens that pass the checks of depth and of words, and a part of them.
use Rattle.std.proofs.Common.{◌≡◌, ℕ, suc, ◌+◌, ◌≤◌, ◌<◌, true, false, Bool, cond, ◌||◌, List, [], ◌∷◌, ◌++◌, length, take, Option, Some, None, Result, Ok, Err, refl, sym, ap, ◌∙◌, inl, inr, arith, zero-add}
use Rattle.std.specs.Prelude.{count_by, position, nat_lt, if◌then◌else◌}
use Rattle.std.specs.List.{list_any, position_or_len, range_with_len}
use Rattle.std.proofs.lemmas.Bool.{cases_Bool, both_ways, ltb-false, le-ltb, or_parts}
use Rattle.std.proofs.lemmas.List.{length-append, length-map, take-append-le, take-map}
use Rattle.std.proofs.lemmas.List.Folds.{list_any-append}
use Rattle.std.proofs.lemmas.List.Sums.{sum_by-cons, sum_by-append}
use Rattle.std.proofs.lemmas.Option.{none-some}
use Rattle.hippo_lexer.specs.declared.kinds.TokenKind.{TokenKind}
use Rattle.hippo_lexer.specs.declared.kinds.Token.{Token}
use Rattle.hippo_lexer.specs.declared.faults.SyntaxFault.{SyntaxFault}
use Rattle.hippo_lexer.specs.declared.faults.SyntaxFault.TheVariants.{TooDeep}
use Rattle.hippo_lexer.specs.Words.{is_left_paren, is_right_paren, negates, is_unsupported, token_count, is_steep, support_of, words_check}
use Rattle.hippo_lexer.proofs.RangeLemmas.{list_any-range_true, list_any-range_false}
use Rattle.hippo_spj_reader.specs.Front.{Kinds, kinds}

-- parentheses and NOT are at most 64 deep, and no word is refused
pub record AreFit (said : Kinds) : Type 0 where
  pub level : (n : ℕ) → n ≤ length said → count_by is_left_paren (take n said) ≤ count_by is_right_paren (take n said) + 64
  pub few : count_by negates said ≤ 64
  pub supported : list_any is_unsupported said ≡ false

-- A count of tokens is a count of what they say.
count-kinds : (test : TokenKind → Bool) (tokens : List Token) → token_count test tokens ≡ count_by test (kinds tokens)
count-kinds test [] = refl
count-kinds test (token ∷ tokens) =
    sum_by-cons (λ (t : Token). cond (test t.kind) 1 0) token tokens
    ∙ (ap (λ (n : ℕ). cond (test token.kind) 1 0 + n) (count-kinds test tokens) ∙ sym (sum_by-cons (λ (k : TokenKind). cond (test k) 1 0) token.kind (kinds tokens)))

any-kinds : (test : TokenKind → Bool) (tokens : List Token) → list_any (λ (token : Token). test token.kind) tokens ≡ list_any test (kinds tokens)
any-kinds test [] = refl
any-kinds test (token ∷ tokens) = ap (λ b. test token.kind || b) (any-kinds test tokens)

front-kinds : (test : TokenKind → Bool) (n : ℕ) (tokens : List Token) → token_count test (take n tokens) ≡ count_by test (take n (kinds tokens))
front-kinds test n tokens = count-kinds test (take n tokens) ∙ ap (count_by test) (sym (take-map (λ (token : Token). token.kind) n tokens))

-- If no member passes the test, no place is found.
past_all : {X : Type 0} (test : X → Bool) (xs : List X) → length xs ≤ position_or_len test xs → list_any test xs ≡ false
past_all test [] past = refl
past_all test (x ∷ xs) past = elim (cases_Bool (test x)) [
  | inl passed ↦ absurd (let none : suc (length xs) ≤ 0 = rw passed at past in omega arith)
  | inr failed ↦ (let more : suc (length xs) ≤ 1 + position_or_len test xs = rw failed at past in rw failed (past_all test xs (omega arith)))
]

all_past : {X : Type 0} (test : X → Bool) (xs : List X) → list_any test xs ≡ false → length xs ≤ position_or_len test xs
all_past test [] none = omega arith
all_past test (x ∷ xs) none =
    let parts = or_parts (test x) (list_any test xs) none in
    rw parts.0 (let more = all_past test xs parts.1 in omega arith)

none-position : {X : Type 0} (test : X → Bool) (xs : List X) → position test xs ≡ None → list_any test xs ≡ false
none-position test xs none = past_all test xs (ltb-false _ _ (not_there (nat_lt (position_or_len test xs) (length xs)) (position_or_len test xs) none)) where
  not_there : (there : Bool) (n : ℕ) → (cond there (Some n) None) ≡ None → there ≡ false
  not_there true n e = absurd (none-some n (sym e))
  not_there false n e = refl

position-none : {X : Type 0} (test : X → Bool) (xs : List X) → list_any test xs ≡ false → position test xs ≡ None
position-none test xs none = rw (le-ltb _ _ (all_past test xs none)) refl

-- The result of the check of words, by its tests.
abbrev Checked : Bool → Bool → Option ℕ → Result (Unit {0}) SyntaxFault
Checked steep negated place = if steep || negated then Err TooDeep else support_of place

passed_parts : (steep negated : Bool) (place : Option ℕ) → Checked steep negated place ≡ Ok tt → (steep ≡ false) × (negated ≡ false) × (place ≡ None)
passed_parts true negated place e = absurd cc
passed_parts false true place e = absurd cc
passed_parts false false (Some place) e = absurd cc
passed_parts false false None e = (refl, refl, refl)

none_steep : (tokens : List Token) (n : ℕ) → n < length tokens + 1 → list_any (λ n. is_steep (take n tokens)) (range_with_len 0 (length tokens + 1)) ≡ false → is_steep (take n tokens) ≡ false
none_steep tokens n small none = elim (cases_Bool (is_steep (take n tokens))) [
  | inl steep ↦ absurd (both_ways _ none (list_any-range_true (λ n. is_steep (take n tokens)) 0 (length tokens + 1) n small (rw zero-add steep)))
  | inr level ↦ level
]

-- tokens that pass the check of words are fit
pub fit-words : (tokens : List Token) → words_check tokens ≡ Ok tt → AreFit (kinds tokens)
unfolding words_check
fit-words tokens words =
    let parts = passed_parts (list_any (λ n. is_steep (take n tokens)) (range_with_len 0 (length tokens + 1))) (nat_lt 64 (token_count negates tokens)) (position (λ token. is_unsupported token.kind) tokens) words in
    record {
      level = λ n small.
          let within : n < length tokens + 1 = (let size : length (kinds tokens) ≡ length tokens = length-map tokens (λ (token : Token). token.kind) in omega arith) in
          let level = ltb-false _ _ (none_steep tokens n within parts.0) in
          rw (front-kinds is_left_paren n tokens, front-kinds is_right_paren n tokens) at level;
      few = rw (count-kinds negates tokens) at (ltb-false _ _ parts.1);
      supported = sym (any-kinds is_unsupported tokens) ∙ none-position (λ (token : Token). is_unsupported token.kind) tokens parts.2;
    }

pub words-fit : (tokens : List Token) → AreFit (kinds tokens) → words_check tokens ≡ Ok tt
unfolding words_check
words-fit tokens fit =
    let size : length (kinds tokens) ≡ length tokens = length-map tokens (λ (token : Token). token.kind) in
    let level : list_any (λ n. is_steep (take n tokens)) (range_with_len 0 (length tokens + 1)) ≡ false =
    list_any-range_false (λ n. is_steep (take n tokens)) 0 (length tokens + 1) (λ n small. rw zero-add (le-ltb _ _ (rw (front-kinds is_left_paren n tokens, front-kinds is_right_paren n tokens) (fit.level n (omega arith))))) in
    let few : nat_lt 64 (token_count negates tokens) ≡ false = le-ltb _ _ (rw (count-kinds negates tokens) fit.few) in
    let supported : position (λ (token : Token). is_unsupported token.kind) tokens ≡ None = position-none (λ (token : Token). is_unsupported token.kind) tokens (any-kinds is_unsupported tokens ∙ fit.supported) in
    rw (level, few, supported) refl

-- A part is fit if the whole is and no `)` comes before the part.
take-remaining : (skipped others : Kinds) (n : ℕ) → take (length skipped + n) (skipped ++ others) ≡ skipped ++ take n others
take-remaining [] others n = ap (λ k. take k others) (zero-add n)
take-remaining (kind ∷ skipped) others n =
    let more : suc (length skipped) + n ≡ suc (length skipped + n) = omega arith in
    rw more (ap (λ (k : Kinds). kind ∷ k) (take-remaining skipped others n))

pub fit-part : (skipped front rest : Kinds) → count_by is_right_paren skipped ≡ 0 → AreFit (skipped ++ (front ++ rest)) → AreFit front
fit-part skipped front rest closed fit = record {
  level = λ n small.
      let whole : length (skipped ++ (front ++ rest)) ≡ length skipped + (length front + length rest) = simp length-append refl in
      let part : take (length skipped + n) (skipped ++ (front ++ rest)) ≡ skipped ++ take n front =
      take-remaining skipped (front ++ rest) n ∙ ap (λ (k : Kinds). skipped ++ k) (take-append-le n front rest small) in
      let level = rw part at (fit.level (length skipped + n) (omega arith)) in
      omega (arith, level, sum_by-append (λ (k : TokenKind). cond (is_left_paren k) 1 0) skipped (take n front), sum_by-append (λ (k : TokenKind). cond (is_right_paren k) 1 0) skipped (take n front), closed);
  few = omega (arith, fit.few, sum_by-append (λ (k : TokenKind). cond (negates k) 1 0) skipped (front ++ rest), sum_by-append (λ (k : TokenKind). cond (negates k) 1 0) front rest);
  supported =
      (let remaining = or_parts (list_any is_unsupported skipped) (list_any is_unsupported (front ++ rest)) (sym (list_any-append is_unsupported skipped (front ++ rest)) ∙ fit.supported) in
      (or_parts (list_any is_unsupported front) (list_any is_unsupported rest) (sym (list_any-append is_unsupported front rest) ∙ remaining.1)).0);
}
