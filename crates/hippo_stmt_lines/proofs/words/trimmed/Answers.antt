use Rattle.hippo_stmt_lines.proofs.SpaceLemmas.{boundary-spaces}
use Rattle.hippo_stmt_lines.proofs.words.trimmed.Goals as goal

pub range_from-requires : goal.range_from-requires
range_from-requires c = λ some.
    rw (c.spaces_len.ensures, c.as_bytes.ensures.value) (boundary-spaces c.args.text.now c.utf8.text)
