-- A few tokens do not nest too deep.
use Rattle.std.proofs.Common.{◌≡◌, ℕ, ◌+◌, ◌≤◌, false, List, length, take, nat_lt, sym, ◌∙◌, arith, zero-add}
use Rattle.std.proofs.lemmas.Bool.Decides.{nat_tests}
use Rattle.std.proofs.lemmas.List.{length-take}
use Rattle.std.proofs.lemmas.List.Sums.{count_by-le-length}
use Rattle.std.proofs.lemmas.Bool.{or_from}
use Rattle.hippo_values.specs.Limits.{depth_limit}
use Rattle.hippo_lexer.specs.declared.kinds.Token.{Token}
use Rattle.hippo_lexer.specs.Words.{is_left_paren, is_right_paren, negates, token_count, is_steep, is_too_deep}
use Rattle.hippo_lexer.proofs.RangeLemmas.{list_any-range_false}

not_above : (limit a b : ℕ) → b ≤ limit → nat_lt (a + limit) b ≡ false
not_above limit a b few = grind (arith, nat_tests)

flat_front : (tokens : List Token) (n : ℕ) → length tokens ≤ depth_limit → is_steep (take n tokens) ≡ false
flat_front tokens n few =
    let opened = count_by-le-length (λ (token : Token). is_left_paren token.kind) (take n tokens) in
    let shorter : length (take n tokens) ≤ length tokens = grind (arith, length-take n tokens) in
    not_above depth_limit (token_count is_right_paren (take n tokens)) (token_count is_left_paren (take n tokens)) (omega (arith, opened, shorter, few))

few_are_flat : (tokens : List Token) → length tokens ≤ depth_limit → is_too_deep tokens ≡ false
few_are_flat tokens few =
    let negated = count_by-le-length (λ (token : Token). negates token.kind) tokens in
    let no_steep = list_any-range_false (λ n. is_steep (take n tokens)) 0 (length tokens + 1) (λ n small. rw zero-add (flat_front tokens n few)) in
    or_from _ _ no_steep (not_above depth_limit 0 (token_count negates tokens) (omega (arith, negated, few)))

test_fails : (limit n : ℕ) → n ≤ limit → nat_lt limit n ≡ false
test_fails limit n few = grind (arith, nat_tests)

pub few_pass : (tokens : List Token) → length tokens ≤ depth_limit → nat_lt depth_limit (length tokens) ≡ is_too_deep tokens
few_pass tokens few = test_fails depth_limit (length tokens) few ∙ sym (few_are_flat tokens few)
