use Rattle.std.proofs.Common.{◌≡◌, ◌+◌, ◌<◌, true, length, take, sym, arith, zero-add}
use Rattle.std.proofs.lemmas.Grind.{common_steps}
use Rattle.hippo_lexer.specs.Words.{is_steep}
use Rattle.hippo_lexer.proofs.RangeLemmas.{list_any-range_true, list_any-range_false}
use Rattle.hippo_lexer.proofs.words.nests_too_deep.Goals as goal

pub returns-then-open-closed : goal.returns-then-open-closed
returns-then-open-closed c =
    let tokens = c.args.tokens.now in
    let n = c.loop-token.token-index + 1 in
    let steep : is_steep (take n tokens) ≡ true = grind (arith, common_steps) in
    let small : n < length tokens + 1 = omega arith in
    sym (list_any-range_true (λ k. is_steep (take k tokens)) 0 (length tokens + 1) n small (rw zero-add steep))

pub returns : goal.returns
returns c =
    let tokens = c.args.tokens.now in
    let whole : length tokens + 1 ≡ c.loop-token.token-index + 1 = omega arith in
    sym (list_any-range_false (λ k. is_steep (take k tokens)) 0 (length tokens + 1)
    (λ k small. rw zero-add (c.loop-token.invariant.no_steep_front k (rw whole at small))))
