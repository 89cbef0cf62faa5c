-- The line that was found.
use Rattle.std.proofs.Common.{rules, ◌≡◌, ◌+◌, Some, None, Err, refl, ap, sym, ◌∙◌, IsFalse}
use Rattle.std.specs.Result.{result_err}
use Rattle.std.proofs.lemmas.Bool.{false≢true}
use Rattle.std.specs.Prelude.{slice_range}
use Rattle.hippo_io.specs.Inputs.{exposed}
use Rattle.hippo_io.specs.Lines.{line_of}
use Rattle.hippo_io.specs.Moves.{IsGoing}
use Rattle.hippo_io.proofs.NextLemmas.{NextLine-failed, NextLine-whole, NextLine-rest}
use Rattle.hippo_io.proofs.lines.LineReader.next_line.Goals as goal

pub returns-in-Whole : goal.returns-in-Whole
returns-in-Whole g c =
    let plain = rw c.in-Whole.is at (c.in_ok-length.ensures.found exposed tt) in
    let end = rw c.in-Whole.is at c.in_ok-length.ensures.going in
    let unfailed : c.args.self.now.failure ≡ None = sym (ap (λ p. p.failure) c.self.view_is) ∙ c.in_default.is in
    let unended : IsFalse c.args.self.now.ended = sym (ap (λ p. p.ended) c.self.view_is) ∙ c.if-self.false in
    let going : IsGoing c.args.self.now = record { unended = unended; unfailed = unfailed } in
    let from = c.self-2.inside.start in (
      (
        refl,
        λ _. tt,
        record {
          next = λ view fits.
              let finds = rw c.in-Whole.is at (c.in_ok-length.ensures.found view fits) in
              NextLine-whole c.self-2.inside c.self-2.invariant c.args.self.now c.find_line.new.self _ _ c.self-2.view_is going c.text_of.result c.in-Whole.length finds
              (c.text_of.ensures ∙ ap (λ l. Some (line_of (slice_range l from (from + c.in-Whole.length)))) c.deref.ensures.value);
          on = c.find_line.ensures.on;
          going = λ still fine. end;
          over = λ over fine before. absurd (false≢true (sym plain.going.unended ∙ sym (ap (λ p. p.ended) c.self-2.view_is) ∙ over));
        },
      ),
      record { next = tt; cause = λ e. cc; unfailed = λ _. c.in_ok-length.ensures.unfailed (λ e. cc); faults = c.find_line.ensures.faults; after_end = λ e. cc; after_fault = λ e. cc (rw unfailed at e) },
    )

pub returns-else-from-self : goal.returns-else-from-self
returns-else-from-self g c =
    let end = rw c.in-Rest.is at c.in_ok-length.ensures.going in
    let unfailed : c.args.self.now.failure ≡ None = sym (ap (λ p. p.failure) c.self.view_is) ∙ c.in_default.is in
    let unended : IsFalse c.args.self.now.ended = sym (ap (λ p. p.ended) c.self.view_is) ∙ c.if-self.false in
    let going : IsGoing c.args.self.now = record { unended = unended; unfailed = unfailed } in
    let from = c.self-2.inside.start in
    let to = c.self-2.inside.end in (
      (
        refl,
        λ _. tt,
        record {
          next = λ view fits.
              let finds = rw c.in-Rest.is at (c.in_ok-length.ensures.found view fits) in
              NextLine-rest c.self-2.inside c.self-2.invariant c.args.self.now c.find_line.new.self _ _ c.self-2.view_is going c.text_of-in-Rest.result finds c.if-from-self.false
              (c.text_of-in-Rest.ensures ∙ ap (λ l. Some (line_of (slice_range l from to))) c.deref-in-Rest.ensures.value);
          on = c.find_line.ensures.on;
          going = λ still fine. absurd (false≢true (sym still));
          over = λ over fine before. end;
        },
      ),
      record { next = tt; cause = λ e. cc; unfailed = λ _. c.in_ok-length.ensures.unfailed (λ e. cc); faults = c.find_line.ensures.faults; after_end = λ e. cc; after_fault = λ e. cc (rw unfailed at e) },
    )

pub returns-in_err-length : goal.returns-in_err-length
returns-in_err-length g c =
    let fault = c.in_err-length.field-0.0 in
    let is : c.from_residual.result ≡ Err fault = search rules in
    let failure : c.find_line.new.self.failure ≡ Some fault = c.find_line.ensures.failure ∙ ap result_err c.in_err-length.was in
    let unfailed : c.args.self.now.failure ≡ None = sym (ap (λ p. p.failure) c.self.view_is) ∙ c.in_default.is in
    let unended : IsFalse c.args.self.now.ended = sym (ap (λ p. p.ended) c.self.view_is) ∙ c.if-self.false in
    let going : IsGoing c.args.self.now = record { unended = unended; unfailed = unfailed } in (
      (
        refl,
        λ _. tt,
        record {
          next = λ view fits.
              NextLine-failed c.args.self.now c.find_line.new.self _ _ c.from_residual.result fault going is failure c.find_line.ensures.limit (c.in_err-length.ensures.gives_up view fits);
          on = c.find_line.ensures.on;
          going = λ still fine. absurd (let no : None ≡ Some fault = sym fine ∙ failure in cc);
          over = λ over fine before. absurd (let no : None ≡ Some fault = sym fine ∙ failure in cc);
        },
      ),
      record { next = tt; cause = search rules; unfailed = search rules; faults = c.find_line.ensures.faults; after_end = λ e. absurd (false≢true (sym unended ∙ e)); after_fault = λ e. absurd (false≢true (rw unfailed at e)) },
    )
