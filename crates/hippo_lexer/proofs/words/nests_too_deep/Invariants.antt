use Rattle.std.proofs.Common.{◌≡◌, ℕ, ◌+◌, ◌<◌, false, take}
use Rattle.hippo_lexer.specs.Words.{is_left_paren, is_right_paren, token_count, is_steep}
use Rattle.hippo_lexer.proofs.words.nests_too_deep.Given as goal

abbrev pub invariant-loop-token : goal.invariant-loop-token
invariant-loop-token l = record {
  open_so_far : l.open ≡ token_count is_left_paren (take l.token-index l.tokens);
  closed_so_far : l.closed ≡ token_count is_right_paren (take l.token-index l.tokens);
  no_steep_front : (k : ℕ) → k < l.token-index + 1 → is_steep (take k l.tokens) ≡ false;
  few : (l.open < l.token-index + 1) × (l.closed < l.token-index + 1);
}
