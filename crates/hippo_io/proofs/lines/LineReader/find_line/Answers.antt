-- One read after the other, until a line's end waits.
use Rattle.std.proofs.Common.{rules, length, take, ap, sym, subst, ◌∙◌, arith}
use Rattle.hippo_io.specs.Inputs.{exposed}
use Rattle.hippo_io.specs.Lines.{feeds}
use Rattle.hippo_io.specs.Moves.{BeginsWithLine}
use Rattle.hippo_io.proofs.HandedLemmas.{HasHandedOut-refilled, HasGivenUp-failed, nothing_left, on_err}
use Rattle.hippo_io.proofs.InputLemmas.{ReadsMore-then, FitsInput-before, FitsInput-after}
use Rattle.hippo_io.proofs.lines.LineReader.find_line.Goals as goal

pub returns-in_err-refill-clause-gives_up : goal.returns-in_err-refill-clause-gives_up
returns-in_err-refill-clause-gives_up g c =
    on_err c.from_residual-in_err-refill.result (λ view fits input handed h.
    let so_far = FitsInput-before view _ _ _ c.loop-length.invariant.ended c.refill.ensures.on fits in
    let further = FitsInput-after view _ _ _ c.loop-length.invariant.ended fits in
    HasGivenUp-failed input handed c.loop-length.self c.refill.new.self _ _ _ c.loop-length.invariant.going
    (ap feeds (sym c.waiting-waiting.ensures.bytes) ∙ c.in_default.ensures) (c.in_err-refill.ensures.failed view further) (c.loop-length.invariant.kept view so_far input handed h))

pub returns-in_err-refill-clause-on : goal.returns-in_err-refill-clause-on
returns-in_err-refill-clause-on g c = ReadsMore-then _ _ _ c.loop-length.invariant.on c.refill.ensures.on

pub returns-in_err-refill-clause-failure : goal.returns-in_err-refill-clause-failure
returns-in_err-refill-clause-failure g c = let failed = c.in_err-refill.ensures.failed exposed tt in search rules

pub returns-then-branch-eq0-clause-found : goal.returns-then-branch-eq0-clause-found
returns-then-branch-eq0-clause-found g c = λ view fits.
    let so_far = FitsInput-before view _ _ _ c.loop-length.invariant.ended c.refill.ensures.on fits in
    let further = FitsInput-after view _ _ _ c.loop-length.invariant.ended fits in
    let more = c.in_ok-refill.ensures.more view further in
    let end = c.in_ok-refill.ensures.end c.if-branch-eq0.true in
    let bytes = c.waiting-waiting.ensures.bytes in
    record {
      going = more.going;
      kept = λ input handed h.
          HasHandedOut-refilled input handed c.loop-length.self c.refill.new.self _ _ c.in_ok-refill.field-0 c.loop-length.invariant.going more (c.loop-length.invariant.kept view so_far input handed h);
      end = λ input handed h.
          nothing_left input c.loop-length.self.taken c.refill.new.self.taken _ (end.1 view further) (c.loop-length.invariant.kept view so_far input handed h).told (ap (λ p. p.taken) end.0);
      unfed = ap (λ p. feeds p.waiting) end.0 ∙ ap feeds (sym bytes) ∙ c.in_default.ensures;
      short = omega (arith, ap (λ p. length p.waiting) end.0, ap length bytes);
      same = omega (arith, c.loop-length.invariant.same, more.count, more.taken);
    }

pub returns-then-branch-eq0-clause-on : goal.returns-then-branch-eq0-clause-on
returns-then-branch-eq0-clause-on g c = ReadsMore-then _ _ _ c.loop-length.invariant.on c.refill.ensures.on

pub loop-length-preserved : goal.loop-length-preserved
loop-length-preserved g c =
    let plain = c.in_ok-refill.ensures.more exposed tt in
    let bytes = c.waiting-waiting.ensures.bytes in
    record {
      going = plain.going;
      kept = λ view fits input handed h.
          let so_far = FitsInput-before view _ _ _ c.loop-length.invariant.ended c.refill.ensures.on fits in
          let further = FitsInput-after view _ _ _ c.loop-length.invariant.ended fits in
          HasHandedOut-refilled input handed c.loop-length.self c.refill.new.self _ _ c.in_ok-refill.field-0 c.loop-length.invariant.going (c.in_ok-refill.ensures.more view further)
          (c.loop-length.invariant.kept view so_far input handed h);
      on = ReadsMore-then _ _ _ c.loop-length.invariant.on c.refill.ensures.on;
      ended = c.in_ok-refill.ensures.going (omega (arith, c.if-branch-eq0.false)) ∙ c.loop-length.invariant.ended;
      same = omega (arith, c.loop-length.invariant.same, plain.count, plain.taken);
      within = omega (arith, plain.count, ap length bytes);
      clear = ap (λ l. feeds (take (length l) c.refill.new.self.waiting)) bytes ∙ ap feeds plain.front ∙ ap feeds (sym bytes) ∙ c.in_default.ensures;
      faults = c.in_ok-refill.ensures.unfailed (λ e. cc) ∙ c.loop-length.invariant.faults;
    }

pub returns-in-Some-clause-found : goal.returns-in-Some-clause-found
returns-in-Some-clause-found g c = λ view fits.
    let line : BeginsWithLine c.loop-length.self.waiting c.in-Some.length = subst (λ l. BeginsWithLine l c.in-Some.length) c.waiting-waiting.ensures.bytes c.in-Some.ensures in
    record {
      going = c.loop-length.invariant.going;
      kept = c.loop-length.invariant.kept view fits;
      line = line;
      short = omega (arith, line.inside, c.waiting-waiting.ensures.room);
      same = c.loop-length.invariant.same;
    }

pub returns-in_err-skip_line-clause-gives_up : goal.returns-in_err-skip_line-clause-gives_up
returns-in_err-skip_line-clause-gives_up g c =
    on_err c.from_residual.result (λ view fits input handed h.
    let so_far = FitsInput-before view _ _ _ c.loop-length.invariant.ended c.skip_line.ensures.on fits in
    let further = FitsInput-after view _ _ _ c.loop-length.invariant.ended fits in
    c.in_err-skip_line.ensures.gives_up view further input handed (c.loop-length.invariant.kept view so_far input handed h))

pub returns-in_err-skip_line-clause-on : goal.returns-in_err-skip_line-clause-on
returns-in_err-skip_line-clause-on g c = ReadsMore-then _ _ _ c.loop-length.invariant.on c.skip_line.ensures.on

pub returns-then-searched-gt-LINE_LIMIT-clause-found : goal.returns-then-searched-gt-LINE_LIMIT-clause-found
returns-then-searched-gt-LINE_LIMIT-clause-found g c = λ view fits.
    let so_far = FitsInput-before view _ _ _ c.loop-length.invariant.ended c.skip_line.ensures.on fits in
    let further = FitsInput-after view _ _ _ c.loop-length.invariant.ended fits in
    record {
      unfailed = c.in_ok-skip_line.ensures.failure;
      skipped = λ input handed h. c.in_ok-skip_line.ensures.skipped view further input handed (c.loop-length.invariant.kept view so_far input handed h);
      later = omega (arith, c.loop-length.invariant.same, c.in_ok-skip_line.ensures.later);
    }

pub returns-then-searched-gt-LINE_LIMIT-clause-on : goal.returns-then-searched-gt-LINE_LIMIT-clause-on
returns-then-searched-gt-LINE_LIMIT-clause-on g c = ReadsMore-then _ _ _ c.loop-length.invariant.on c.skip_line.ensures.on

pub returns-then-searched-gt-LINE_LIMIT-clause-going : goal.returns-then-searched-gt-LINE_LIMIT-clause-going
returns-then-searched-gt-LINE_LIMIT-clause-going g c = record {
  going = λ going. c.in_ok-skip_line.ensures.going.going going ∙ c.loop-length.invariant.ended;
  over = c.in_ok-skip_line.ensures.going.over;
}

pub loop-length-smaller : goal.loop-length-smaller
loop-length-smaller g c =
    let plain = c.in_ok-refill.ensures.more exposed tt in
    omega (arith, plain.count, c.if-branch-eq0.false, c.if-searched-gt-LINE_LIMIT.false, ap length c.waiting-waiting.ensures.bytes)
