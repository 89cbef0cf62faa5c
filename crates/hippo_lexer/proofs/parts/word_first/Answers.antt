use Rattle.std.proofs.Common.{◌≡◌, ◌∙◌, ap}
use Rattle.hippo_lexer.specs.Cutting.{word_len}
use Rattle.hippo_lexer.proofs.FrontLemmas.{boundary-word}
use Rattle.hippo_lexer.proofs.WholeLemmas.{front_is_word}
use Rattle.hippo_lexer.proofs.parts.word_first.Goals as goal

pub split_at-requires : goal.split_at-requires
split_at-requires c =
    rw (c.word_len-len.ensures, c.as_bytes.ensures.value) (boundary-word c.args.text.now c.utf8.text)

pub read_word-requires : goal.read_word-requires
read_word-requires c =
    let len : c.word_len-len.result ≡ word_len c.args.text.now = c.word_len-len.ensures ∙ ap word_len c.as_bytes.ensures.value in
    rw (c.split_at.ensures.front, len) (front_is_word c.args.text.now c.requires)
