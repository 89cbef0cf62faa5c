-- The effect of a call for the next line, by what it found.
use Rattle.std.proofs.Common.{◌≡◌, ℕ, ◌+◌, ◌-◌, ◌<◌, ◌≤◌, ◌↔◌, List, [], ◌++◌, ◌∷◌, Some, None, length, take, drop, sym, ap, ◌∙◌, subst, arith, length-drop, length-take, Ok, true, MatchOption, IfSome, Result, Err}
use Rattle.std.proofs.lemmas.Bool.{false≢true}
use Rattle.std.specs.Prelude.{Option, slice_range}
use Rattle.hippo_io.specs.Lines.{LineText, line_of, lines}
use Rattle.hippo_io.specs.LineTexts.{line_text}
use Rattle.hippo_io.specs.Position.{Position}
use Rattle.hippo_io.specs.HandingOut.{input_limit, bytes_handed_out, HasHandedOut, NextLine}
use Rattle.hippo_io.specs.Moves.{IsGoing, GivesUp, FindsWhole, FindsRest}
use Rattle.hippo_io.specs.declared.lines.Line.{Line}
use Rattle.hippo_io.specs.declared.lines.LineFault.{LineFault}
use Rattle.hippo_io.specs.declared.lines.LineFault.TheVariants.{TooMuch}
use Rattle.hippo_io.specs.Window.{position_of, IsWindow}
use Rattle.hippo_io.specs.declared.lines.LineReader.TheInside.{Inside}
use Rattle.hippo_io.proofs.ReadLemmas.{window_later, window_front, window_none}
use Rattle.hippo_io.proofs.HandedLemmas.{HasHandedOut-whole, HasHandedOut-rest}

abbrev pub HasLimit : Position → Type 0
HasLimit reader = (reader.failure ≡ Some TooMuch) ↔ (input_limit < reader.taken)

-- a reader without a failure has not read too much
within_limit : (reader : Position) → reader.failure ≡ None → HasLimit reader → input_limit < reader.taken → ⊥
within_limit reader unfailed limit over = cc (limit.1 over)

-- a line was found
found : (before after : Position) (left_before left_after : Option (List ℕ)) (line : Line) (text : LineText) → IsGoing before → after.failure ≡ None → HasLimit after
    → line_text line ≡ Some text → bytes_handed_out before < bytes_handed_out after
    → ((input : List ℕ) (handed : List LineText) → HasHandedOut input handed before left_before → HasHandedOut input (handed ++ text ∷ []) after left_after)
    → NextLine before after left_before left_after (Ok line)
found before after left_before left_after line text going unfailed_after limit is later moved_on = record {
  line = λ input handed h.
      let P : Option LineText → Type 0 =
      λ o. MatchOption o (HasHandedOut input handed after left_after × (handed ≡ lines input) × (left_after ≡ Some [])) (λ t. HasHandedOut input (handed ++ t ∷ []) after left_after) in
      subst P (sym is) (moved_on input handed h);
  gives_up = tt;
  failure = unfailed_after;
  again = λ fault e. let unfailed = going.unfailed in cc;
  over = λ e ended. let unended = going.unended in cc;
  too_much = (λ e. cc, λ over. absurd (within_limit after unfailed_after limit over));
  progress = let P : Option LineText → Type 0 = λ o. IfSome o (λ t. bytes_handed_out before < bytes_handed_out after) in subst P (sym is) later;
}

-- no line was found, since a read failed or there was too much
pub NextLine-failed : (before after : Position) (left_before left_after : Option (List ℕ)) (result : Result Line LineFault) (fault : LineFault) → IsGoing before → result ≡ Err fault
    → after.failure ≡ Some fault → HasLimit after → GivesUp before after left_before left_after → NextLine before after left_before left_after result
NextLine-failed before after left_before left_after (Ok line) fault going is failure limit up = absurd cc
NextLine-failed before after left_before left_after (Err other) fault going is failure limit up =
    let same : other ≡ fault = cc in
    record {
      line = tt;
      gives_up = up;
      failure = failure ∙ ap Some (sym same);
      again = λ f e. let unfailed = going.unfailed in absurd (let no : Some f ≡ None = sym e ∙ unfailed in cc);
      over = λ e ended. absurd (false≢true (sym going.unended ∙ ended));
      too_much = (λ e. limit.0 (failure ∙ ap Some cc), λ over. let there = limit.1 over in cc);
      progress = tt;
    }

module _ (fields : Inside) (window : IsWindow fields) (before mid : Position) (left_before left_after : Option (List ℕ)) (is_mid : position_of fields ≡ mid) (going : IsGoing before) (line : Line) where
  -- a whole line waits, and is skipped with its line feed
  pub NextLine-whole : (n : ℕ) → FindsWhole before mid left_before left_after n → line_text line ≡ Some (line_of (slice_range fields.buffer.items fields.start (fields.start + n)))
      → NextLine before (position_of (record fields { start = fields.start + (n + 1) })) left_before left_after (Ok line)
  NextLine-whole n finds_mid is =
      let finds : FindsWhole before (position_of fields) left_before left_after n = subst (λ p. FindsWhole before p left_before left_after n) (sym is_mid) finds_mid in
      let bytes = fields.buffer.items in
      let waiting = slice_range bytes fields.start fields.end in
      let long : length waiting ≤ fields.end - fields.start = omega (arith, length-take (fields.end - fields.start) (drop fields.start bytes)) in
      let after : Position = record (position_of fields) { waiting = drop (n + 1) waiting } in
      let e : position_of (record fields { start = fields.start + (n + 1) }) ≡ after = ap (λ w. record after { waiting = w }) (window_later bytes fields.start (n + 1) fields.end) in
      subst (λ p. NextLine before p left_before left_after (Ok line)) (sym e)
      (found before after left_before left_after line (line_of (take n waiting)) going finds.going.unfailed window.limit
      (is ∙ ap (λ l. Some (line_of l)) (window_front bytes fields.start n fields.end (omega (arith, finds.line.inside))))
      (omega (arith, finds.same, finds.line.inside, length-drop (n + 1) waiting, window.taken))
      (λ input handed h. HasHandedOut-whole input handed (position_of fields) left_after finds.going (finds.kept input handed h) n finds.line))

  -- the input ends after the waiting bytes, and these are skipped
  pub NextLine-rest : FindsRest before mid left_before left_after → (fields.start ≡ fields.end → ⊥) → line_text line ≡ Some (line_of (slice_range fields.buffer.items fields.start fields.end))
      → NextLine before (position_of (record fields { start = fields.end; ended = true })) left_before left_after (Ok line)
  NextLine-rest finds_mid more is =
      let finds : FindsRest before (position_of fields) left_before left_after = subst (λ p. FindsRest before p left_before left_after) (sym is_mid) finds_mid in
      let bytes = fields.buffer.items in
      let waiting = slice_range bytes fields.start fields.end in
      let long : length waiting ≤ fields.end - fields.start = omega (arith, length-take (fields.end - fields.start) (drop fields.start bytes)) in
      let some : 0 < length waiting = omega (arith, length-take (fields.end - fields.start) (drop fields.start bytes), length-drop fields.start bytes, window.ordered, window.in_buffer, fields.buffer.ok.0) in
      let after : Position = record (position_of fields) { waiting = []; ended = true } in
      let e : position_of (record fields { start = fields.end; ended = true }) ≡ after = ap (λ w. record after { waiting = w }) (window_none bytes fields.end) in
      subst (λ p. NextLine before p left_before left_after (Ok line)) (sym e)
      (found before after left_before left_after line (line_of waiting) going finds.going.unfailed window.limit is
      (omega (arith, finds.same, window.taken))
      (λ input handed h. HasHandedOut-rest input handed (position_of fields) left_after finds.going (finds.kept input handed h) (finds.end input handed h) finds.unfed some))
