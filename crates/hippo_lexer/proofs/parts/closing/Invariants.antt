use Rattle.std.proofs.Common.{◌≡◌, ◌≤◌, ◌-◌, length}
use denote.Text.{Utf8}
use denote.Shadow.{shadow}
use Rattle.hippo_lexer.specs.Cutting.{closing, onto}
use Rattle.hippo_lexer.proofs.parts.closing.Given as goal

-- the rest, after the text so far, closes where the whole does
abbrev pub invariant-loop-run : goal.invariant-loop-run
invariant-loop-run l = record {
  utf8 : shadow (Utf8 l.rest);
  within : length l.rest ≤ length l.remaining;
  told : onto l.text (length l.remaining - length l.rest) (closing l.rest) ≡ closing l.remaining;
}

abbrev pub decreases-loop-run : goal.decreases-loop-run
decreases-loop-run l = length l.rest
