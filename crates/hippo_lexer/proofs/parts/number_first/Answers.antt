use Rattle.std.proofs.Common.{◌≡◌, ◌<◌, ◌∙◌, ap, arith}
use Rattle.hippo_lexer.specs.Cutting.{number_len, sign_len}
use Rattle.hippo_lexer.proofs.FrontLemmas.{boundary-number, IsNumeral-number}
use Rattle.hippo_lexer.proofs.parts.number_first.Goals as goal

pub split_at-requires : goal.split_at-requires
split_at-requires c =
    rw (c.number_len-len.ensures, c.as_bytes-bytes.ensures.value) (boundary-number c.args.text.now c.utf8.text)

pub number_of-requires : goal.number_of-requires
number_of-requires c =
    let len : c.number_len-len.result ≡ number_len c.args.text.now = c.number_len-len.ensures ∙ ap number_len c.as_bytes-bytes.ensures.value in
    let sign : c.sign_len.result ≡ sign_len c.args.text.now = c.sign_len.ensures ∙ ap sign_len c.as_bytes-bytes.ensures.value in
    let some : sign_len c.args.text.now < number_len c.args.text.now = omega arith in
    rw (c.split_at.ensures.front, len) (IsNumeral-number c.args.text.now some)
