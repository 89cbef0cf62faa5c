-- What is written so far and what is still to be written make the whole.
use Rattle.std.proofs.Common.{◌≡◌, ◌++◌, IsUtf8}
use Rattle.std.specs.Str.Iter.{chars_rest}
use Rattle.hippo_history_page.specs.Escapes.{escaped}
use Rattle.hippo_history_page.proofs.escaping.append_escaped.Given as goal

abbrev pub invariant-loop-character : goal.invariant-loop-character
invariant-loop-character l =
    IsUtf8 (chars_rest l.character-iterator)
    × (l.out ++ escaped (chars_rest l.character-iterator) ≡ l.fn.out ++ escaped l.fn.text)
