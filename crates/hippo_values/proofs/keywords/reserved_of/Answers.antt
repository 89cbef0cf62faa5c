use Rattle.std.proofs.Common.{◌≡◌, ◌∙◌, Some, None, sym}
use Rattle.hippo_values.specs.Names.{letter_of}
use Rattle.hippo_values.proofs.KeywordLemmas.{bounds, found_by_letter, none_without_letter}
use Rattle.hippo_values.proofs.keywords.reserved_of.Goals as goal

pub returns-in_err-letter : goal.returns-in_err-letter
returns-in_err-letter c =
    let none : letter_of c.args.word.now ≡ None = cc in
    c.from_residual.ensures ∙ sym (none_without_letter c.args.word.now none)

pub find_between-requires-clause-order : goal.find_between-requires-clause-order
find_between-requires-clause-order c = (bounds c.in_ok-letter.letter c.in_ok-letter.ensures.within).0

pub find_between-requires-clause-within : goal.find_between-requires-clause-within
find_between-requires-clause-within c = (bounds c.in_ok-letter.letter c.in_ok-letter.ensures.within).1

pub returns : goal.returns
returns c =
    let letter : letter_of c.args.word.now ≡ Some c.in_ok-letter.letter = cc in
    c.find_between.ensures ∙ found_by_letter c.args.word.now c.in_ok-letter.letter letter c.in_ok-letter.ensures.within
