-- A call for the next line, by any view of the input.
use Rattle.std.proofs.Common.{◌≡◌, inl, inr, ℕ, List, [], ◌∷◌, ◌++◌, Some, None, drop, sym, ap, ◌∙◌, subst, append-nil, IsTrue, Result, Ok}
use Rattle.std.specs.Prelude.{Option}
use Rattle.hippo_io.specs.Lines.{LineText, lines}
use Rattle.hippo_io.specs.Position.{Position}
use Rattle.hippo_io.specs.Inputs.{ReadSoFar, InputView, exposed, assumed, left_in, FitsReading}
use Rattle.hippo_io.specs.HandingOut.{HasHandedOut, NextLine, ReadsNextLine}
use Rattle.hippo_io.specs.declared.lines.Line.{Line}
use Rattle.hippo_io.specs.declared.lines.Line.TheVariants.{End}
use Rattle.hippo_io.specs.declared.lines.LineFault.{LineFault}

no_front : (front rest : List ℕ) → front ++ rest ≡ [] → rest ≡ []
no_front [] rest none = none
no_front (x ∷ front) rest none = absurd cc

-- a reader that has ended has returned all lines
ended : (input : List ℕ) (handed : List LineText) (reader : Position) (left : Option (List ℕ)) → IsTrue reader.ended → HasHandedOut input handed reader left
    → HasHandedOut input handed reader left × (handed ≡ lines input) × (left ≡ Some [])
ended input handed reader left over h =
    let none = h.at_end over in (
      h,
      sym (h.others ∙ ap (λ l. handed ++ lines l) none ∙ append-nil handed),
      h.told ∙ ap Some (no_front reader.waiting (drop reader.taken input) none),
    )

-- the end is returned again, whatever is left
still : (reader : Position) (left left' other : Option (List ℕ)) → IsTrue reader.ended → NextLine reader reader left left' (Ok End) → NextLine reader reader other other (Ok End)
still reader left left' other over plain = record {
  line = λ input handed h. ended input handed reader other over h;
  gives_up = tt;
  failure = plain.failure;
  again = plain.again;
  over = plain.over;
  too_much = plain.too_much;
  progress = plain.progress;
}

pub NextLine-seen : (view : InputView) (before after : Position) (left left' : Option (List ℕ)) (reads reads' : ReadSoFar) (result : Result Line LineFault)
    → ReadsNextLine before after left reads left' reads' result → before.failure ≡ None → (IsTrue before.ended → reads' ≡ reads)
    → FitsReading view before.ended reads reads' → NextLine before after (left_in view left reads) (left_in view left' reads') result
NextLine-seen exposed before after left left' reads reads' result next unfailed same fits = next.next exposed tt
NextLine-seen (assumed whole) before after left left' reads reads' result next unfailed same (inl going, may) = next.next (assumed whole) (going, may)
NextLine-seen (assumed whole) before after left left' reads reads' result next unfailed same (inr over, may) =
    let plain = next.next exposed tt in
    let end = plain.over unfailed over in
    let there : NextLine before before left left' (Ok End) =
    subst (λ (r : Result Line LineFault). NextLine before before left left' r) end.0 (subst (λ (p : Position). NextLine before p left left' result) end.1 plain) in
    let other = left_in (assumed whole) left reads in
    subst (λ (r : ReadSoFar). NextLine before after other (left_in (assumed whole) left' r) result) (sym (same over))
    (subst (λ (p : Position). NextLine before p other other result) (sym end.1)
    (subst (λ (r : Result Line LineFault). NextLine before before other other r) (sym end.0) (still before left left' other over there)))
