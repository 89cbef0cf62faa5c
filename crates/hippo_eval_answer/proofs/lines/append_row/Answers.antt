-- The pieces of the line, concatenated.
use Rattle.std.proofs.Common.{arith}
use Rattle.std.proofs.lemmas.Result.{on_ok_weaker}
use Rattle.std.proofs.lemmas.Str.{encode_ascii}
use Rattle.hippo_eval_answer.proofs.LineLemmas.{row_printed}
use Rattle.hippo_eval_answer.proofs.lines.append_row.Goals as goal

pub returns : goal.returns
returns g c session front_is =
    on_ok_weaker c.push.result
    (row_printed session (g.C.ChoiceView.choices c.args.choices.now) c.args.query.now c.args.combo.now c.args.out.now c.args.front.now c.append.new.self c.append_items.new.out c.push.new.self
    front_is c.in_ok-append.ensures.ok (rw c.as_slice.ensures at c.in_ok-append_items.ensures))
    (rw (encode_ascii 10 (omega arith)) at c.push.ensures.ok)
