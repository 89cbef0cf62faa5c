use Rattle.std.proofs.Common.{◌==◌, slice_index_or, ap, ◌∙◌, rules, ◌<◌}
use Rattle.hippo_lexer.specs.declared.parts.TheConstants.{WORD_BYTES}
use Rattle.hippo_lexer.proofs.WordByteLemmas.{marked}
use Rattle.hippo_lexer.proofs.parts.is_word_byte.Goals as goal

pub returns : goal.returns
returns c =
    let small : c.args.byte < 256 = search rules in
    ap (λ place. slice_index_or WORD_BYTES place 0 == 1) c.from.ensures ∙ marked c.args.byte small
