-- The returned lines stay the same while the reader moves to the next line.
use Rattle.std.proofs.Common.{◌≡◌, ℕ, ◌+◌, ◌-◌, ◌<◌, ◌≤◌, Bool, true, List, [], ◌∷◌, ◌++◌, Some, length, take, drop, refl, sym, ap, ◌∙◌, arith, append_assoc, append-nil, length-append, length-drop, IsTrue, IsFalse, subst, Result, Ok, Err, OnErr}
use Rattle.std.proofs.Math.Seq.{take-add, take-append_seam}
use Rattle.std.proofs.lemmas.Bool.{false≢true}
use Rattle.std.proofs.lemmas.List.{take-append-drop, drop-drop}
use Rattle.std.specs.Prelude.{Option}
use Rattle.std.specs.Io.BufRead.{drop_through}
use Rattle.hippo_values.specs.Limits.{line_limit}
use Rattle.hippo_io.specs.Lines.{LineText, too_long_line, line_feed, lines, line_of, feeds}
use Rattle.hippo_io.specs.Position.{Position}
use Rattle.hippo_io.specs.HandingOut.{HasHandedOut, HasGivenUp}
use Rattle.hippo_io.specs.Moves.{BeginsWithLine, IsGoing, Refills, FailsToRefill}
use Rattle.hippo_io.specs.Told.{IsAtEnd}
use Rattle.hippo_io.specs.declared.lines.LineFault.{LineFault}
use Rattle.hippo_io.proofs.FeedLemmas.{feeds-append}
use Rattle.hippo_io.proofs.CutLemmas.{lines-whole, lines-long, lines-rest, feeds-whole, after_feed-whole, after_feed-clear}

clash : {X : Type 0} (b : Bool) → IsTrue b → IsFalse b → X
clash b p q = absurd (false≢true (sym q ∙ p))

-- the bytes that a read adds to the waiting ones are the first of those that were left
record Moved (input : List ℕ) (before after : Position) (left_after : Option (List ℕ)) : Type 0 where
  within : after.taken ≤ length input
  told : left_after ≡ Some (drop after.taken input)
  ahead : after.waiting ++ drop after.taken input ≡ before.waiting ++ drop before.taken input
  fed : feeds (take after.taken input) + feeds before.waiting ≡ feeds (take before.taken input) + feeds after.waiting

moved : (input : List ℕ) (before after : Position) (left_before left_after : Option (List ℕ)) (n : ℕ) → Refills before after left_before left_after n
    → before.taken ≤ length input → left_before ≡ Some (drop before.taken input) → Moved input before after left_after
moved input before after left_before left_after n more within told =
    let rest = drop before.taken input in
    let read = more.waiting rest told in
    let later : drop n rest ≡ drop after.taken input = drop-drop n before.taken input ∙ ap (λ m. drop m input) (sym more.taken) in
    let e1 : feeds (take after.taken input) ≡ feeds (take before.taken input) + feeds (take n rest) =
    ap (λ m. feeds (take m input)) more.taken ∙ ap feeds (take-add before.taken n input) ∙ feeds-append (take before.taken input) (take n rest) in
    let e2 : feeds after.waiting ≡ feeds before.waiting + feeds (take n rest) = ap feeds read.1 ∙ feeds-append before.waiting (take n rest) in
    record {
      within = omega (arith, read.0, length-drop before.taken input, more.taken);
      told = read.2 ∙ ap Some later;
      ahead =
          ap (λ l. l ++ drop after.taken input) read.1 ∙ append_assoc before.waiting (take n rest) (drop after.taken input)
          ∙ ap (λ l. before.waiting ++ l) (ap (λ l. take n rest ++ l) (sym later) ∙ take-append-drop n rest);
      fed = omega (arith, e1, e2);
    }

-- after a read
pub HasHandedOut-refilled : (input : List ℕ) (handed : List LineText) (before after : Position) (left_before left_after : Option (List ℕ)) (n : ℕ)
    → IsGoing before → Refills before after left_before left_after n → HasHandedOut input handed before left_before → HasHandedOut input handed after left_after
HasHandedOut-refilled input handed before after left_before left_after n going more h =
    let m = moved input before after left_before left_after n more h.within h.told in
    record {
      unfailed = more.going.unfailed;
      within = m.within;
      told = m.told;
      others = h.others ∙ ap (λ l. handed ++ lines l) (sym m.ahead);
      fed = λ e. omega (arith, m.fed, h.fed going.unended);
      at_end = λ e. clash after.ended e more.going.unended;
    }

gives_up : (input : List ℕ) (handed others : List LineText) (before after : Position) (left_before left_after : Option (List ℕ)) (fault : LineFault)
    → FailsToRefill before after left_before left_after fault → before.taken ≤ length input → left_before ≡ Some (drop before.taken input)
    → lines input ≡ handed ++ others → feeds (take before.taken input) ≡ length handed → HasGivenUp input handed after left_after
gives_up input handed others before after left_before left_after fault failed within told cut fed =
    let lost = failed.left (drop before.taken input) told in
    record {
      within = omega (arith, lost.0, length-drop before.taken input, failed.later);
      told = lost.1 ∙ ap Some (drop-drop (after.taken - before.taken) before.taken input ∙ ap (λ m. drop m input) (omega (arith, failed.later)));
      whole =
          sym (take-append_seam handed others) ∙ ap (λ l. take (length handed) l) (sym cut)
          ∙ ap (λ m. take m (lines input)) (sym fed ∙ ap (λ m. feeds (take m input)) (sym failed.limit));
    }

-- after a read that failed
pub HasGivenUp-failed : (input : List ℕ) (handed : List LineText) (before after : Position) (left_before left_after : Option (List ℕ)) (fault : LineFault)
    → IsGoing before → feeds before.waiting ≡ 0 → FailsToRefill before after left_before left_after fault → HasHandedOut input handed before left_before
    → HasGivenUp input handed after left_after
HasGivenUp-failed input handed before after left_before left_after fault going clear failed h =
    gives_up input handed _ before after left_before left_after fault failed h.within h.told h.others (omega (arith, h.fed going.unended))

module _ (input : List ℕ) (handed : List LineText) (reader : Position) (left : Option (List ℕ)) (going : IsGoing reader) (h : HasHandedOut input handed reader left) where
  -- after a whole line
  pub HasHandedOut-whole : (n : ℕ) → BeginsWithLine reader.waiting n
      → HasHandedOut input (handed ++ line_of (take n reader.waiting) ∷ []) (record reader { waiting = drop (n + 1) reader.waiting }) left
  HasHandedOut-whole n line =
      let rest = drop reader.taken input in
      record {
        unfailed = going.unfailed;
        within = h.within;
        told = h.told;
        others = h.others ∙ ap (λ l. handed ++ l) (lines-whole reader.waiting rest n line) ∙ sym (append_assoc handed (line_of (take n reader.waiting) ∷ []) (lines (drop (n + 1) reader.waiting ++ rest)));
        fed = λ e. omega (arith, h.fed going.unended, feeds-whole reader.waiting n line, length-append handed (line_of (take n reader.waiting) ∷ []));
        at_end = λ e. clash reader.ended e going.unended;
      }

  module _ (end : drop reader.taken input ≡ []) where
    -- after the bytes that follow the last line feed
    pub HasHandedOut-rest : feeds reader.waiting ≡ 0 → 0 < length reader.waiting
        → HasHandedOut input (handed ++ line_of reader.waiting ∷ []) (record reader { waiting = []; ended = true }) left
    HasHandedOut-rest clear some = record {
      unfailed = going.unfailed;
      within = h.within;
      told = h.told;
      others =
          h.others ∙ ap (λ l. handed ++ lines l) (ap (λ l. reader.waiting ++ l) end ∙ append-nil reader.waiting)
          ∙ ap (λ l. handed ++ l) (lines-rest reader.waiting clear some)
          ∙ sym (ap (λ l. (handed ++ line_of reader.waiting ∷ []) ++ lines l) end ∙ append-nil (handed ++ line_of reader.waiting ∷ []));
      fed = λ e. clash true refl e;
      at_end = λ e. end;
    }

    -- when none is left
    pub HasHandedOut-end : reader.waiting ≡ []
        → HasHandedOut input handed (record reader { waiting = []; ended = true }) left × (handed ≡ lines input) × (left ≡ Some [])
    HasHandedOut-end none =
        let all : lines input ≡ handed = h.others ∙ ap (λ l. handed ++ lines l) (ap (λ l. l ++ drop reader.taken input) none ∙ end) ∙ append-nil handed in (
          record {
            unfailed = going.unfailed;
            within = h.within;
            told = h.told;
            others = all ∙ sym (ap (λ l. handed ++ lines l) end ∙ append-nil handed);
            fed = λ e. clash true refl e;
            at_end = λ e. end;
          },
          sym all,
          h.told ∙ ap Some end,
        )

-- The reader is inside a line that is too long; these lines were returned before it.
pub record IsSkipping (input : List ℕ) (handed : List LineText) (reader : Position) (left : Option (List ℕ)) : Type 0 where
  pub within : reader.taken ≤ length input
  pub told : left ≡ Some (drop reader.taken input)
  pub others : lines input ≡ handed ++ too_long_line ∷ lines (drop_through line_feed (reader.waiting ++ drop reader.taken input))
  pub fed : feeds (take reader.taken input) ≡ length handed + feeds reader.waiting

-- more bytes wait than the longest line has
pub IsSkipping-begun : (input : List ℕ) (handed : List LineText) (reader : Position) (left : Option (List ℕ)) → IsGoing reader → feeds reader.waiting ≡ 0
    → line_limit < length reader.waiting → HasHandedOut input handed reader left → IsSkipping input handed reader left
IsSkipping-begun input handed reader left going clear long h = record {
  within = h.within;
  told = h.told;
  others = h.others ∙ ap (λ l. handed ++ l) (lines-long reader.waiting (drop reader.taken input) clear long);
  fed = h.fed going.unended;
}

-- the waiting bytes are skipped
pub IsSkipping-emptied : (input : List ℕ) (handed : List LineText) (before after : Position) (left : Option (List ℕ)) → feeds before.waiting ≡ 0
    → after ≡ record before { waiting = [] } → IsSkipping input handed before left → IsSkipping input handed after left
IsSkipping-emptied input handed before after left clear e h =
    let P : Position → Type 0 = λ p. IsSkipping input handed p left in
    subst P (sym e) (record {
      within = h.within;
      told = h.told;
      others = h.others ∙ ap (λ l. handed ++ too_long_line ∷ lines l) (after_feed-clear before.waiting (drop before.taken input) clear);
      fed = omega (arith, h.fed);
    })

pub IsSkipping-refilled : (input : List ℕ) (handed : List LineText) (before after : Position) (left_before left_after : Option (List ℕ)) (n : ℕ)
    → Refills before after left_before left_after n → IsSkipping input handed before left_before → IsSkipping input handed after left_after
IsSkipping-refilled input handed before after left_before left_after n more h =
    let m = moved input before after left_before left_after n more h.within h.told in
    record {
      within = m.within;
      told = m.told;
      others = h.others ∙ ap (λ l. handed ++ too_long_line ∷ lines (drop_through line_feed l)) (sym m.ahead);
      fed = omega (arith, m.fed, h.fed);
    }

pub HasGivenUp-skipping : (input : List ℕ) (handed : List LineText) (before after : Position) (left_before left_after : Option (List ℕ)) (fault : LineFault)
    → feeds before.waiting ≡ 0 → FailsToRefill before after left_before left_after fault → IsSkipping input handed before left_before → HasGivenUp input handed after left_after
HasGivenUp-skipping input handed before after left_before left_after fault clear failed h =
    gives_up input handed _ before after left_before left_after fault failed h.within h.told h.others (omega (arith, h.fed))

-- the line's end is found
pub HasHandedOut-skipped : (input : List ℕ) (handed : List LineText) (before after : Position) (left : Option (List ℕ)) (n : ℕ) → IsGoing before → BeginsWithLine before.waiting n
    → after ≡ record before { waiting = drop (n + 1) before.waiting } → IsSkipping input handed before left → HasHandedOut input (handed ++ too_long_line ∷ []) after left
HasHandedOut-skipped input handed before after left n going line e h =
    let rest = drop before.taken input in
    let P : Position → Type 0 = λ p. HasHandedOut input (handed ++ too_long_line ∷ []) p left in
    subst P (sym e) (record {
      unfailed = going.unfailed;
      within = h.within;
      told = h.told;
      others =
          h.others ∙ ap (λ l. handed ++ too_long_line ∷ lines l) (after_feed-whole before.waiting rest n line)
          ∙ sym (append_assoc handed (too_long_line ∷ []) (lines (drop (n + 1) before.waiting ++ rest)));
      fed = λ e. omega (arith, h.fed, feeds-whole before.waiting n line, length-append handed (too_long_line ∷ []));
      at_end = λ e. clash before.ended e going.unended;
    })

-- the input ends inside the line
pub HasHandedOut-skipped_end : (input : List ℕ) (handed : List LineText) (reader : Position) (left : Option (List ℕ)) → IsGoing reader → reader.waiting ≡ []
    → drop reader.taken input ≡ [] → IsSkipping input handed reader left → HasHandedOut input (handed ++ too_long_line ∷ []) (record reader { ended = true }) left
HasHandedOut-skipped_end input handed reader left going none end h =
    let ahead : reader.waiting ++ drop reader.taken input ≡ [] = ap (λ l. l ++ drop reader.taken input) none ∙ end in
    record {
      unfailed = going.unfailed;
      within = h.within;
      told = h.told;
      others =
          h.others ∙ ap (λ l. handed ++ too_long_line ∷ lines (drop_through line_feed l)) ahead
          ∙ sym (ap (λ l. (handed ++ too_long_line ∷ []) ++ lines l) ahead ∙ append-nil (handed ++ too_long_line ∷ []));
      fed = λ e. clash true refl e;
      at_end = λ e. ahead;
    }

pub on_err : {T E : Type 0} {P : Type 0} (r : Result T E) → P → OnErr r P
on_err (Ok x) p = tt
on_err (Err e) p = p

-- no bytes are left after those that were read
pub nothing_left : (input : List ℕ) (n m : ℕ) (left : Option (List ℕ)) → IsAtEnd left → left ≡ Some (drop n input) → m ≡ n → drop m input ≡ []
nothing_left input n m left end told same = ap (λ k. drop k input) same ∙ end (drop n input) told

pub HasHandedOut-skipped_last : (input : List ℕ) (handed : List LineText) (before after final : Position) (left_before left_after : Option (List ℕ)) (n : ℕ)
    → Refills before after left_before left_after n → (after ≡ before) × IsAtEnd left_before → before.waiting ≡ [] → final ≡ record after { ended = true }
    → IsSkipping input handed before left_before → HasHandedOut input (handed ++ too_long_line ∷ []) final left_after
HasHandedOut-skipped_last input handed before after final left_before left_after n more end none e h =
    let P : Position → Type 0 = λ p. HasHandedOut input (handed ++ too_long_line ∷ []) p left_after in
    subst P (sym e) (HasHandedOut-skipped_end input handed after left_after more.going (ap (λ p. p.waiting) end.0 ∙ none)
    (nothing_left input before.taken after.taken left_before end.1 h.told (ap (λ p. p.taken) end.0))
    (IsSkipping-refilled input handed before after left_before left_after n more h))
