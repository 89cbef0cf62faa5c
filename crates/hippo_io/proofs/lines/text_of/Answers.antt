-- The bytes are UTF-8, or they are not.
use Rattle.std.proofs.Common.{Some, sym, ap, ◌∙◌}
use Rattle.hippo_io.proofs.LineLemmas.{line_of-text, line_of-not_utf8}
use Rattle.hippo_io.specs.Lines.{text_line}
use Rattle.hippo_io.proofs.lines.text_of.Goals as goal

pub returns-in-Ok : goal.returns-in-Ok
returns-in-Ok c =
    let piece = c.args.piece.now in
    let text = c.in-Ok.ensures.cases in
    ap Some (ap text_line text.0 ∙ sym (line_of-text piece c.without_return.result.now c.requires c.without_return.ensures text.1))

pub returns-in-Err : goal.returns-in-Err
returns-in-Err c =
    ap Some (sym (line_of-not_utf8 c.args.piece.now c.without_return.result.now c.requires c.without_return.ensures c.in-Err.ensures.cases.0))
