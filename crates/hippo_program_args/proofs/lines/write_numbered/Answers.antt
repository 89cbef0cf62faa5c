-- Three writes, one after another.
use Rattle.std.proofs.Common.{◌++◌, ◌∙◌, codes, decimal}
use Rattle.hippo_program_args.proofs.WriteLemmas.{front_of_more, whole_and_front, err_so, three_written}
use Rattle.hippo_program_args.proofs.lines.write_numbered.Goals as goal

pub returns-in_err-write_whole-clause-failed : goal.returns-in_err-write_whole-clause-failed
returns-in_err-write_whole-clause-failed g c =
    let failed = rw c.as_bytes.ensures.value at c.in_err-write_whole.ensures.failed in
    err_so c.from_residual.result _
    (front_of_more (g.K.Sink.written c.args.sink.now) (g.K.Sink.written c.write_whole.new.sink) c.args.words.now (decimal c.args.number ++ codes "\n") failed)

pub returns-in_err-write_whole-2-clause-failed : goal.returns-in_err-write_whole-2-clause-failed
returns-in_err-write_whole-2-clause-failed g c =
    let whole = rw c.as_bytes.ensures.value at c.in_ok-write_whole.ensures.ok in
    let failed = rw (c.as_bytes-2.ensures.value ∙ c.format.ensures.text) at c.in_err-write_whole-2.ensures.failed in
    err_so c.from_residual-in_err-write_whole-2.result _
    (whole_and_front (g.K.Sink.written c.args.sink.now) (g.K.Sink.written c.write_whole.new.sink) (g.K.Sink.written c.write_whole-2.new.sink) c.args.words.now (decimal c.args.number ++ codes "\n") whole
    (front_of_more (g.K.Sink.written c.write_whole.new.sink) (g.K.Sink.written c.write_whole-2.new.sink) (decimal c.args.number) (codes "\n") failed))

pub returns-clause-ok : goal.returns-clause-ok
returns-clause-ok g c =
    (three_written c.write_whole-3.result (g.K.Sink.written c.args.sink.now) (g.K.Sink.written c.write_whole.new.sink) (g.K.Sink.written c.write_whole-2.new.sink) (g.K.Sink.written c.write_whole-3.new.sink)
    c.args.words.now (decimal c.args.number) (codes "\n") (rw c.as_bytes.ensures.value at c.in_ok-write_whole.ensures.ok)
    (rw (c.as_bytes-2.ensures.value ∙ c.format.ensures.text) at c.in_ok-write_whole-2.ensures.ok) c.write_whole-3.ensures.ok c.write_whole-3.ensures.failed).0

pub returns-clause-failed : goal.returns-clause-failed
returns-clause-failed g c =
    (three_written c.write_whole-3.result (g.K.Sink.written c.args.sink.now) (g.K.Sink.written c.write_whole.new.sink) (g.K.Sink.written c.write_whole-2.new.sink) (g.K.Sink.written c.write_whole-3.new.sink)
    c.args.words.now (decimal c.args.number) (codes "\n") (rw c.as_bytes.ensures.value at c.in_ok-write_whole.ensures.ok)
    (rw (c.as_bytes-2.ensures.value ∙ c.format.ensures.text) at c.in_ok-write_whole-2.ensures.ok) c.write_whole-3.ensures.ok c.write_whole-3.ensures.failed).1
