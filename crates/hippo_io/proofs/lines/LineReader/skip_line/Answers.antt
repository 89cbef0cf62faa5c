-- A line that is too long, from its first bytes to its end.
use Rattle.std.proofs.Common.{rules, refl, ◌+◌, length, length-drop, ap, sym, subst, ◌∙◌, arith}
use Rattle.std.proofs.lemmas.Bool.{false≢true}
use Rattle.hippo_io.specs.Inputs.{exposed}
use Rattle.hippo_io.specs.Lines.{feeds}
use Rattle.hippo_io.specs.Moves.{BeginsWithLine}
use Rattle.hippo_io.proofs.HandedLemmas.{IsSkipping-begun, IsSkipping-emptied, IsSkipping-refilled, HasGivenUp-skipping, HasHandedOut-skipped, HasHandedOut-skipped_last, on_err}
use Rattle.hippo_io.proofs.InputLemmas.{ReadsMore-none, ReadsMore-then, FitsInput-before, FitsInput-after}
use Rattle.hippo_io.proofs.lines.LineReader.skip_line.Goals as goal

pub loop-self-init : goal.loop-self-init
loop-self-init g c = record {
  going = c.requires.going;
  clear = c.requires.clear;
  skipping = λ view fits input handed h. IsSkipping-begun input handed _ _ c.requires.going c.requires.clear c.requires.long h;
  later = omega arith;
  on = ReadsMore-none (g.S.Source.reads c.args.source.now);
  ended = refl;
  faults = refl;
}

pub returns-in_err-refill-clause-gives_up : goal.returns-in_err-refill-clause-gives_up
returns-in_err-refill-clause-gives_up g c =
    on_err c.from_residual.result (λ view fits input handed h.
    let so_far = FitsInput-before view _ _ _ c.loop-self.invariant.ended c.refill.ensures.on fits in
    let further = FitsInput-after view _ _ _ c.loop-self.invariant.ended fits in
    let inside = IsSkipping-emptied input handed c.loop-self.self c.skip_waiting.new.self _ c.loop-self.invariant.clear c.skip_waiting.ensures (c.loop-self.invariant.skipping view so_far input handed h) in
    HasGivenUp-skipping input handed c.skip_waiting.new.self c.refill.new.self _ _ _ (ap (λ p. feeds p.waiting) c.skip_waiting.ensures) (c.in_err-refill.ensures.failed view further) inside)

pub returns-in_err-refill-clause-on : goal.returns-in_err-refill-clause-on
returns-in_err-refill-clause-on g c = ReadsMore-then _ _ _ c.loop-self.invariant.on c.refill.ensures.on

pub returns-then-branch-eq0-clause-skipped : goal.returns-then-branch-eq0-clause-skipped
returns-then-branch-eq0-clause-skipped g c = λ view fits input handed h.
    let so_far = FitsInput-before view _ _ _ c.loop-self.invariant.ended c.refill.ensures.on fits in
    let further = FitsInput-after view _ _ _ c.loop-self.invariant.ended fits in
    let inside = IsSkipping-emptied input handed c.loop-self.self c.skip_waiting.new.self _ c.loop-self.invariant.clear c.skip_waiting.ensures (c.loop-self.invariant.skipping view so_far input handed h) in
    let end = c.in_ok-refill.ensures.end c.if-branch-eq0.true in
    HasHandedOut-skipped_last input handed c.skip_waiting.new.self c.refill.new.self c.end.new.self _ _ c.in_ok-refill.field-0 (c.in_ok-refill.ensures.more view further)
    (end.0, end.1 view further) (ap (λ p. p.waiting) c.skip_waiting.ensures) c.end.ensures inside

pub returns-then-branch-eq0-clause-on : goal.returns-then-branch-eq0-clause-on
returns-then-branch-eq0-clause-on g c = ReadsMore-then _ _ _ c.loop-self.invariant.on c.refill.ensures.on

pub returns-then-branch-eq0-clause-going : goal.returns-then-branch-eq0-clause-going
returns-then-branch-eq0-clause-going g c = record {
  going = λ going. absurd (false≢true (sym going ∙ ap (λ p. p.ended) c.end.ensures));
  over = λ over. c.in_ok-refill.ensures.ended c.if-branch-eq0.true;
}

pub returns-in-Some-clause-skipped : goal.returns-in-Some-clause-skipped
returns-in-Some-clause-skipped g c = λ view fits input handed h.
    let so_far = FitsInput-before view _ _ _ c.loop-self.invariant.ended c.refill.ensures.on fits in
    let further = FitsInput-after view _ _ _ c.loop-self.invariant.ended fits in
    let more = c.in_ok-refill.ensures.more view further in
    let inside = IsSkipping-emptied input handed c.loop-self.self c.skip_waiting.new.self _ c.loop-self.invariant.clear c.skip_waiting.ensures (c.loop-self.invariant.skipping view so_far input handed h) in
    let line : BeginsWithLine c.refill.new.self.waiting c.in-Some.place = subst (λ l. BeginsWithLine l c.in-Some.place) c.waiting.ensures.bytes c.in-Some.ensures in
    HasHandedOut-skipped input handed c.refill.new.self c.let_go.new.self _ c.in-Some.place more.going line c.let_go.ensures
    (IsSkipping-refilled input handed c.skip_waiting.new.self c.refill.new.self _ _ c.in_ok-refill.field-0 more inside)

pub returns-in-Some-clause-on : goal.returns-in-Some-clause-on
returns-in-Some-clause-on g c = ReadsMore-then _ _ _ c.loop-self.invariant.on c.refill.ensures.on

pub returns-in-Some-clause-going : goal.returns-in-Some-clause-going
returns-in-Some-clause-going g c =
    let more = c.in_ok-refill.ensures.more exposed tt in
    record {
      going = λ going. c.in_ok-refill.ensures.going (omega (arith, c.if-branch-eq0.false)) ∙ c.loop-self.invariant.ended;
      over = λ over. absurd (false≢true (sym more.going.unended ∙ sym (ap (λ p. p.ended) c.let_go.ensures) ∙ over));
    }

pub loop-self-preserved : goal.loop-self-preserved
loop-self-preserved g c =
    let more = c.in_ok-refill.ensures.more exposed tt in
    record {
      going = more.going;
      clear = ap feeds (sym c.waiting.ensures.bytes) ∙ c.in_default.ensures;
      skipping = λ view fits input handed h.
          let so_far = FitsInput-before view _ _ _ c.loop-self.invariant.ended c.refill.ensures.on fits in
          let further = FitsInput-after view _ _ _ c.loop-self.invariant.ended fits in
          let inside = IsSkipping-emptied input handed c.loop-self.self c.skip_waiting.new.self _ c.loop-self.invariant.clear c.skip_waiting.ensures (c.loop-self.invariant.skipping view so_far input handed h) in
          IsSkipping-refilled input handed c.skip_waiting.new.self c.refill.new.self _ _ c.in_ok-refill.field-0 (c.in_ok-refill.ensures.more view further) inside;
      later = omega (arith, c.loop-self.invariant.later, more.taken, ap (λ p. p.taken) c.skip_waiting.ensures);
      on = ReadsMore-then _ _ _ c.loop-self.invariant.on c.refill.ensures.on;
      ended = c.in_ok-refill.ensures.going (omega (arith, c.if-branch-eq0.false)) ∙ c.loop-self.invariant.ended;
      faults = c.in_ok-refill.ensures.unfailed (λ e. cc) ∙ c.loop-self.invariant.faults;
    }

pub returns-in_err-refill-clause-failure : goal.returns-in_err-refill-clause-failure
returns-in_err-refill-clause-failure g c = let failed = c.in_err-refill.ensures.failed exposed tt in search rules

pub returns-in-Some-clause-failure : goal.returns-in-Some-clause-failure
returns-in-Some-clause-failure g c = let more = c.in_ok-refill.ensures.more exposed tt in ap (λ p. p.failure) c.let_go.ensures ∙ more.going.unfailed

pub returns-in-Some-clause-later : goal.returns-in-Some-clause-later
returns-in-Some-clause-later g c =
    let more = c.in_ok-refill.ensures.more exposed tt in
    omega (
      arith,
      c.loop-self.invariant.later,
      more.taken,
      more.count,
      ap (λ p. length p.waiting) c.skip_waiting.ensures,
      ap (λ p. p.taken) c.skip_waiting.ensures,
      ap (λ p. length p.waiting) c.let_go.ensures,
      ap (λ p. p.taken) c.let_go.ensures,
      length-drop (c.in-Some.place + 1) c.refill.new.self.waiting,
    )

pub loop-self-smaller : goal.loop-self-smaller
loop-self-smaller g c =
    let more = c.in_ok-refill.ensures.more exposed tt in
    omega (arith, more.taken, more.limit, ap (λ p. p.taken) c.skip_waiting.ensures, c.if-branch-eq0.false)
