use Rattle.hippo_lexer.proofs.FrontLemmas.{boundary-blanks}
use Rattle.hippo_lexer.proofs.parts.date_first.Goals as goal

pub range_from-requires : goal.range_from-requires
range_from-requires c = λ some.
    rw (c.blanks_len-blanks.ensures, c.as_bytes.ensures.value) (boundary-blanks c.args.remaining.now c.utf8.remaining)
