-- The pieces of the line, concatenated.
use Rattle.std.proofs.Common.{arith}
use Rattle.std.proofs.lemmas.Result.{on_ok_weaker}
use Rattle.std.proofs.lemmas.Str.{encode_ascii}
use Rattle.hippo_report.specs.Cells.{cell_text, comma, separated_text}
use Rattle.hippo_eval_answer.proofs.LineLemmas.{line_printed}
use Rattle.hippo_eval_answer.proofs.lines.LinePrinter.append_line.Goals as goal

pub returns : goal.returns
returns g c =
    on_ok_weaker c.push.result
    (line_printed c.args.self.now.session (separated_text cell_text comma c.args.row.now) c.args.out.now c.args.self.now.front.now c.append.new.self c.append_joined.new.out c.push.new.self
    c.args.self.now.is_front c.in_ok-append.ensures.ok (rw c.as_slice.ensures at c.in_ok-append_joined.ensures.adds.ok))
    (rw (encode_ascii 10 (omega arith)) at c.push.ensures.ok)
