use Rattle.std.proofs.Common.{◌≡◌, ◌≤◌, ◌-◌, false, length}
use denote.Text.{Utf8}
use denote.Shadow.{shadow}
use Rattle.hippo_lexer.specs.Spelling.{is_blank, begins_with}
use Rattle.hippo_lexer.specs.Cutting.{with_front_tokens, tokens_from, outcome_of}
use Rattle.hippo_lexer.proofs.lexer.cut_tokens.Given as goal

-- the tokens found so far, and the outcome of the rest, make the outcome of the text
abbrev pub invariant-loop-rest : goal.invariant-loop-rest
invariant-loop-rest l = record {
  utf8 : shadow (Utf8 l.rest);
  within : length l.rest ≤ length l.text;
  filled : begins_with is_blank l.rest ≡ false;
  told : with_front_tokens l.found (tokens_from (length l.text - length l.rest) 0 l.rest) ≡ outcome_of l.text;
}

abbrev pub decreases-loop-rest : goal.decreases-loop-rest
decreases-loop-rest l = length l.rest
