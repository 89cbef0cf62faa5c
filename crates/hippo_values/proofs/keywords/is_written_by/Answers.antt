use Rattle.std.proofs.Common.{◌≡◌, ◌∙◌, length, rules}
use Rattle.hippo_values.proofs.LetterLemmas.{written}
use Rattle.hippo_values.proofs.keywords.is_written_by.Goals as goal

pub returns-then-known-word : goal.returns-then-known-word
returns-then-known-word c =
    let same : length c.args.known.now ≡ length c.args.word.now = search rules in
    c.all_written.ensures ∙ written c.args.known.now c.args.word.now c.requires same
