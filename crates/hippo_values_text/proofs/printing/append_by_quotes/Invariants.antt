-- What is printed so far and the rest make the whole.
use Rattle.std.proofs.Common.{◌≡◌, ◌++◌, length}
use denote.Text.{Utf8}
use denote.Shadow.{shadow}
use Rattle.hippo_values_text.specs.Printing.{KeepsFront}
use Rattle.hippo_values_text.specs.Quoting.{doubled_quotes}
use Rattle.hippo_values_text.proofs.printing.append_by_quotes.Given as goal

abbrev pub invariant-loop-before : goal.invariant-loop-before
invariant-loop-before g l = record {
  text : shadow (Utf8 l.rest);
  whole : l.out ++ doubled_quotes l.rest ≡ l.initial.out ++ doubled_quotes l.text;
  front : KeepsFront l.initial.out l.out;
}

abbrev pub decreases-loop-before : goal.decreases-loop-before
decreases-loop-before g l = length l.rest
