use Rattle.hippo_lexer.proofs.FrontLemmas.{boundary-blanks}
use Rattle.hippo_lexer.proofs.parts.without_blanks.Goals as goal

pub range_from-requires : goal.range_from-requires
range_from-requires c = λ some.
    rw (c.blanks_len.ensures, c.as_bytes.ensures.value) (boundary-blanks c.args.text.now c.utf8.text)
