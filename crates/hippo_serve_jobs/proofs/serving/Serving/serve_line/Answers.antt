-- What a call with a line does to the run.
use Rattle.std.proofs.Common.{◌≡◌, ◌<◌, ◌≤◌, Option, None, IfNone, IfSome, refl, ap, subst, arith}
use Rattle.hippo_io.specs.Lines.{LineText}
use Rattle.hippo_io.specs.Inputs.{exposed, left_in}
use Rattle.hippo_io.proofs.SeenLemmas.{NextLine-seen}
use Rattle.hippo_io.specs.HandingOut.{input_limit, bytes_handed_out}
use Rattle.hippo_io.specs.LineTexts.{line_text}
use Rattle.hippo_serve_jobs.proofs.RunLemmas.{within_limit, cut_off}
use Rattle.hippo_program_args.specs.declared.endings.Ending.TheVariants.{ReadFault, TooMuch}
use Rattle.hippo_program_args.specs.Endings.{status_of}
use Rattle.hippo_serve_jobs.proofs.TakenLemmas.{if_none, within_read, given_up, read_by_turn}
use Rattle.hippo_serve_jobs.proofs.TurnLemmas.{by_line, status_of_turn, no_read_fault, call_of_turn, at_work_after_turn, served_by_turn}
use Rattle.hippo_serve_jobs.proofs.serving.Serving.serve_line.Goals as goal

pub returns-in-Ok-clause-status : goal.returns-in-Ok-clause-status
returns-in-Ok-clause-status g c = status_of_turn c.args.job.now (line_text c.in-Ok.line) (line_text c.asked.result) c.carry_out.result c.args.self.now.engine c.carry_out.new.engine (g.P.Keeper.state c.args.keeper.now) (g.P.Keeper.state c.carry_out.new.keeper)
    (g.K.Sink.written c.args.sink.now) (g.K.Sink.written c.carry_out.new.sink) c.args.steps.now c.carry_out.new.steps c.asked.ensures c.carry_out.ensures.line
    (λ is. ((c.carry_out.ensures.end is).0, (c.carry_out.ensures.end is).1, ap g.K.Sink.written (c.carry_out.ensures.end is).3, (c.carry_out.ensures.end is).4)) (λ is. ap g.P.Keeper.state (c.carry_out.ensures.end is).2)

pub returns-in-Ok-clause-at_work : goal.returns-in-Ok-clause-at_work
returns-in-Ok-clause-at_work g c = at_work_after_turn c.args.job.now (line_text c.in-Ok.line) (line_text c.asked.result) c.carry_out.result c.args.self.now.engine c.carry_out.new.engine (g.P.Keeper.state c.args.keeper.now) (g.P.Keeper.state c.carry_out.new.keeper)
    (g.K.Sink.written c.args.sink.now) (g.K.Sink.written c.carry_out.new.sink) c.args.steps.now c.carry_out.new.steps c.asked.ensures c.carry_out.ensures.line
    (λ is. ((c.carry_out.ensures.end is).0, (c.carry_out.ensures.end is).1, ap g.K.Sink.written (c.carry_out.ensures.end is).3, (c.carry_out.ensures.end is).4)) (λ is. ap g.P.Keeper.state (c.carry_out.ensures.end is).2) c.requires.at_work

pub returns-in-Ok-clause-call : goal.returns-in-Ok-clause-call
returns-in-Ok-clause-call g c = call_of_turn c.args.job.now (line_text c.in-Ok.line) (line_text c.asked.result) c.carry_out.result c.args.self.now.engine c.carry_out.new.engine (g.P.Keeper.state c.args.keeper.now) (g.P.Keeper.state c.carry_out.new.keeper)
    (g.K.Sink.written c.args.sink.now) (g.K.Sink.written c.carry_out.new.sink) c.args.steps.now c.carry_out.new.steps c.asked.ensures c.carry_out.ensures.line
    (λ is. ((c.carry_out.ensures.end is).0, (c.carry_out.ensures.end is).1, ap g.K.Sink.written (c.carry_out.ensures.end is).3, (c.carry_out.ensures.end is).4)) (λ is. ap g.P.Keeper.state (c.carry_out.ensures.end is).2) c.requires.at_work.ready

pub returns-in-Ok-clause-read_fault : goal.returns-in-Ok-clause-read_fault
returns-in-Ok-clause-read_fault g c = λ is. absurd (no_read_fault c.args.job.now (line_text c.in-Ok.line) (line_text c.asked.result) c.carry_out.result c.args.self.now.engine c.carry_out.new.engine (g.P.Keeper.state c.args.keeper.now) (g.P.Keeper.state c.carry_out.new.keeper)
    (g.K.Sink.written c.args.sink.now) (g.K.Sink.written c.carry_out.new.sink) c.args.steps.now c.carry_out.new.steps c.asked.ensures c.carry_out.ensures.line
    (λ is. ((c.carry_out.ensures.end is).0, (c.carry_out.ensures.end is).1, ap g.K.Sink.written (c.carry_out.ensures.end is).3, (c.carry_out.ensures.end is).4)) (λ is. ap g.P.Keeper.state (c.carry_out.ensures.end is).2) is)

pub returns-in-Ok-clause-read : goal.returns-in-Ok-clause-read
returns-in-Ok-clause-read g c = λ view fits input reading.
    let all = rw (c.in-Ok.is) at c.next_line.follows.holds-at-none in
    let next = NextLine-seen view c.args.self.now.reader c.next_line.follows.lender-at-none _ _ _ _ _ all c.requires.reader (λ over. ap g.S.Source.reads (c.next_line.ensures.after_end over)) fits in
    read_by_turn c.args.job.now (line_text c.in-Ok.line) (line_text c.asked.result) c.carry_out.result c.args.self.now.engine c.carry_out.new.engine (g.P.Keeper.state c.args.keeper.now) (g.P.Keeper.state c.carry_out.new.keeper)
    (g.K.Sink.written c.args.sink.now) (g.K.Sink.written c.carry_out.new.sink) c.args.steps.now c.carry_out.new.steps c.asked.ensures c.carry_out.ensures.line
    (λ is. ((c.carry_out.ensures.end is).0, (c.carry_out.ensures.end is).1, ap g.K.Sink.written (c.carry_out.ensures.end is).3, (c.carry_out.ensures.end is).4)) (λ is. ap g.P.Keeper.state (c.carry_out.ensures.end is).2)
    input c.args.self.now.reader c.next_line.follows.lender-at-none (left_in view (g.S.Source.left c.args.source.now) (g.S.Source.reads c.args.source.now))
    (left_in view (g.S.Source.left c.next_line.new.source) (g.S.Source.reads c.next_line.new.source)) reading
    (within_limit c.in-Ok.line c.next_line.follows.lender-at-none.taken next.too_much) (next.line input reading.handed reading.handing)

pub returns-in-Ok-clause-served : goal.returns-in-Ok-clause-served
returns-in-Ok-clause-served g c = λ tells view fits setting history before served.
    let all = rw (c.in-Ok.is) at c.next_line.follows.holds-at-none in
    let next = NextLine-seen view c.args.self.now.reader c.next_line.follows.lender-at-none _ _ _ _ _ all c.requires.reader (λ over. ap g.S.Source.reads (c.next_line.ensures.after_end over)) fits in
    served_by_turn c.args.job.now (line_text c.in-Ok.line) (line_text c.asked.result) c.carry_out.result c.args.self.now.engine c.carry_out.new.engine (g.P.Keeper.state c.args.keeper.now) (g.P.Keeper.state c.carry_out.new.keeper)
    (g.K.Sink.written c.args.sink.now) (g.K.Sink.written c.carry_out.new.sink) c.args.steps.now c.carry_out.new.steps c.asked.ensures c.carry_out.ensures.line
    (λ is. ((c.carry_out.ensures.end is).0, (c.carry_out.ensures.end is).1, ap g.K.Sink.written (c.carry_out.ensures.end is).3, (c.carry_out.ensures.end is).4)) (λ is. ap g.P.Keeper.state (c.carry_out.ensures.end is).2)
    setting history before c.args.self.now.reader c.next_line.follows.lender-at-none (left_in view (g.S.Source.left c.args.source.now) (g.S.Source.reads c.args.source.now))
    (left_in view (g.S.Source.left c.next_line.new.source) (g.S.Source.reads c.next_line.new.source)) served
    (within_limit c.in-Ok.line c.next_line.follows.lender-at-none.taken next.too_much) tells (λ input is. next.line input served.handed (served.handing input is))

pub returns-in-Ok-clause-on : goal.returns-in-Ok-clause-on
returns-in-Ok-clause-on g c = let all = rw (c.in-Ok.is) at c.next_line.follows.holds-at-none in all.on

pub returns-in-Ok-clause-still : goal.returns-in-Ok-clause-still
returns-in-Ok-clause-still g c = λ over.
    let all = rw (c.in-Ok.is) at c.next_line.follows.holds-at-none in
    (ap g.S.Source.reads (c.next_line.ensures.after_end over), ((all.next exposed tt).over c.requires.reader over).1)

pub returns-in-Ok-clause-going : goal.returns-in-Ok-clause-going
returns-in-Ok-clause-going g c =
    let all = rw (c.in-Ok.is) at c.next_line.follows.holds-at-none in
    if_none c.carry_out.result (λ going. all.going going (all.next exposed tt).failure)

pub returns-in-Err-Read-clause-read : goal.returns-in-Err-Read-clause-read
returns-in-Err-Read-clause-read g c = λ view fits input reading.
    let all = rw (c.in-Err-Read.is, c.in-Err-Read.field-0-is) at c.next_line.follows.holds-at-none in
    let next = NextLine-seen view c.args.self.now.reader c.next_line.follows.lender-at-none _ _ _ _ _ all c.requires.reader (λ over. ap g.S.Source.reads (c.next_line.ensures.after_end over)) fits in
    let within : c.next_line.follows.lender-at-none.taken ≤ input_limit = within_read c.next_line.follows.lender-at-none.taken next.too_much in
    given_up input reading.handed c.next_line.follows.lender-at-none _ (next.gives_up input reading.handed reading.handing) (status_of ReadFault)
    (λ e. omega (arith, e)) (λ e. omega (arith, e), λ more. omega (arith, more, within))

pub returns-in-Err-Read-clause-served : goal.returns-in-Err-Read-clause-served
returns-in-Err-Read-clause-served g c = λ tells view fits setting history before served.
    let all = rw (c.in-Err-Read.is, c.in-Err-Read.field-0-is) at c.next_line.follows.holds-at-none in
    let next = NextLine-seen view c.args.self.now.reader c.next_line.follows.lender-at-none _ _ _ _ _ all c.requires.reader (λ over. ap g.S.Source.reads (c.next_line.ensures.after_end over)) fits in
    cut_off setting c.args.job.now history before c.args.self.now.reader c.next_line.follows.lender-at-none c.args.self.now.engine c.args.self.now.engine (left_in view (g.S.Source.left c.args.source.now) (g.S.Source.reads c.args.source.now))
    (left_in view (g.S.Source.left c.next_line.new.source) (g.S.Source.reads c.next_line.new.source))
    (g.K.Sink.written c.args.sink.now) (g.K.Sink.written c.args.sink.now) (g.P.Keeper.state c.args.keeper.now) (g.P.Keeper.state c.args.keeper.now) c.args.steps.now c.args.steps.now served
    (λ taken. taken ≤ input_limit) (within_read c.next_line.follows.lender-at-none.taken next.too_much) (λ input is. next.gives_up input served.handed (served.handing input is))

pub returns-in-Err-Read-clause-on : goal.returns-in-Err-Read-clause-on
returns-in-Err-Read-clause-on g c = let all = rw (c.in-Err-Read.is, c.in-Err-Read.field-0-is) at c.next_line.follows.holds-at-none in all.on

pub returns-in-Err-Read-clause-still : goal.returns-in-Err-Read-clause-still
returns-in-Err-Read-clause-still g c = λ over.
    let all = rw (c.in-Err-Read.is, c.in-Err-Read.field-0-is) at c.next_line.follows.holds-at-none in
    (ap g.S.Source.reads (c.next_line.ensures.after_end over), ((all.next exposed tt).over c.requires.reader over).1)

pub returns-in-Err-TooMuch-clause-read : goal.returns-in-Err-TooMuch-clause-read
returns-in-Err-TooMuch-clause-read g c = λ view fits input reading.
    let all = rw (c.in-Err-TooMuch.is, c.in-Err-TooMuch.field-0-is) at c.next_line.follows.holds-at-none in
    let next = NextLine-seen view c.args.self.now.reader c.next_line.follows.lender-at-none _ _ _ _ _ all c.requires.reader (λ over. ap g.S.Source.reads (c.next_line.ensures.after_end over)) fits in
    given_up input reading.handed c.next_line.follows.lender-at-none _ (next.gives_up input reading.handed reading.handing) (status_of TooMuch)
    (λ e. omega (arith, e)) (λ e. next.too_much.0 refl, λ more. refl)

pub returns-in-Err-TooMuch-clause-served : goal.returns-in-Err-TooMuch-clause-served
returns-in-Err-TooMuch-clause-served g c = λ tells view fits setting history before served.
    let all = rw (c.in-Err-TooMuch.is, c.in-Err-TooMuch.field-0-is) at c.next_line.follows.holds-at-none in
    let next = NextLine-seen view c.args.self.now.reader c.next_line.follows.lender-at-none _ _ _ _ _ all c.requires.reader (λ over. ap g.S.Source.reads (c.next_line.ensures.after_end over)) fits in
    cut_off setting c.args.job.now history before c.args.self.now.reader c.next_line.follows.lender-at-none c.args.self.now.engine c.args.self.now.engine (left_in view (g.S.Source.left c.args.source.now) (g.S.Source.reads c.args.source.now))
    (left_in view (g.S.Source.left c.next_line.new.source) (g.S.Source.reads c.next_line.new.source))
    (g.K.Sink.written c.args.sink.now) (g.K.Sink.written c.args.sink.now) (g.P.Keeper.state c.args.keeper.now) (g.P.Keeper.state c.args.keeper.now) c.args.steps.now c.args.steps.now served
    (λ taken. input_limit < taken) (next.too_much.0 refl) (λ input is. next.gives_up input served.handed (served.handing input is))

pub returns-in-Err-TooMuch-clause-on : goal.returns-in-Err-TooMuch-clause-on
returns-in-Err-TooMuch-clause-on g c = let all = rw (c.in-Err-TooMuch.is, c.in-Err-TooMuch.field-0-is) at c.next_line.follows.holds-at-none in all.on

pub returns-in-Err-TooMuch-clause-still : goal.returns-in-Err-TooMuch-clause-still
returns-in-Err-TooMuch-clause-still g c = λ over.
    let all = rw (c.in-Err-TooMuch.is, c.in-Err-TooMuch.field-0-is) at c.next_line.follows.holds-at-none in
    (ap g.S.Source.reads (c.next_line.ensures.after_end over), ((all.next exposed tt).over c.requires.reader over).1)

pub returns-in-Ok-clause-goes_on : goal.returns-in-Ok-clause-goes_on
returns-in-Ok-clause-goes_on g c =
    let all = rw (c.in-Ok.is) at c.next_line.follows.holds-at-none in
    let plain = all.next exposed tt in
    let old = c.args.self.now.reader in
    let new = c.next_line.follows.lender-at-none in
    by_line c.args.job.now (line_text c.in-Ok.line) (line_text c.asked.result) c.carry_out.result c.args.self.now.engine c.carry_out.new.engine (g.P.Keeper.state c.args.keeper.now) (g.P.Keeper.state c.carry_out.new.keeper)
    (g.K.Sink.written c.args.sink.now) (g.K.Sink.written c.carry_out.new.sink) c.args.steps.now c.carry_out.new.steps c.asked.ensures c.carry_out.ensures.line
    (λ is. ((c.carry_out.ensures.end is).0, (c.carry_out.ensures.end is).1, ap g.K.Sink.written (c.carry_out.ensures.end is).3, (c.carry_out.ensures.end is).4)) (λ is. ap g.P.Keeper.state (c.carry_out.ensures.end is).2)
    (λ r. IfNone r ((new.failure ≡ None) × (bytes_handed_out old < bytes_handed_out new) × (new.taken ≤ input_limit)))
    (λ is. tt)
    (λ text is carries writes. (
      plain.failure,
      subst (λ (l : Option LineText). IfSome l (λ t. bytes_handed_out old < bytes_handed_out new)) is plain.progress,
      within_limit c.in-Ok.line new.taken plain.too_much,
    ))
    (λ text is carries writes. tt)
    (λ text is carries writes. tt)
    (λ text is number carries. (tt, tt))
