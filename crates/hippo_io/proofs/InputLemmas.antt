-- Views of the input, from one read to the next.
use Rattle.std.proofs.Common.{◌≡◌, inl, inr, ℕ, zero, suc, ◌+◌, ◌<◌, ◌≤◌, Bool, true, false, List, [], ◌∷◌, ◌++◌, Some, length, take, drop, refl, sym, ap, ◌∙◌, arith, subst, append_assoc, append-nil, IsTrue, IsFalse, Result, Ok, Err, IfOk, OnErr}
use Rattle.std.specs.Prelude.{Option, ◌||◌, ◌&&◌, ◌==◌, nat_lt}
use Rattle.std.proofs.Math.Dec.{eqb-suc-zero}
use Rattle.std.proofs.lemmas.Bool.{false≢true, lt-ltb}
use Rattle.std.proofs.lemmas.List.{length-take-le}
use Rattle.std.proofs.lemmas.Option.{same_Some}
use Rattle.hippo_io.specs.Inputs.{ReadSoFar, after_read, MayBeWhole, InputView, exposed, assumed, left_in, FitsInput, FitsReading, ForEachInput, ReadsMore}
use borrow.Rule.Slice.PartMut.{put_mid}
use Rattle.hippo_io.specs.Told.{Keeps, Takes, IsAtEnd, TakesAfter}
use Rattle.hippo_io.proofs.ReadLemmas.{TakesAfter-from_read}

-- the bytes of a list after its front
pub drop_front : (front rest : List ℕ) → drop (length front) (front ++ rest) ≡ rest
drop_front [] rest = refl
drop_front (x ∷ front) rest = drop_front front rest

take_front : (front rest : List ℕ) → take (length front) (front ++ rest) ≡ front
take_front [] rest = refl
take_front (x ∷ front) rest = ap (λ l. x ∷ l) (take_front front rest)

or_false : (b : Bool) → (b || false) ≡ b
or_false true = refl
or_false false = refl

ended_true : (ended : Bool) (n : ℕ) → 0 < n → (ended || (0 == 0 && nat_lt 0 n)) ≡ true
ended_true true n some = refl
ended_true false n some = lt-ltb 0 n some

-- a source from which nothing was read
pub ReadsMore-none : (reads : ReadSoFar) → ReadsMore reads reads
ReadsMore-none reads = record { more = []; bytes = sym (append-nil reads.bytes) }

pub ReadsMore-same : (before after : ReadSoFar) → after ≡ before → ReadsMore before after
ReadsMore-same before after same = subst (λ (r : ReadSoFar). ReadsMore before r) (sym same) (ReadsMore-none before)

pub ReadsMore-then : (before mid after : ReadSoFar) → ReadsMore before mid → ReadsMore mid after → ReadsMore before after
ReadsMore-then before mid after one other = record {
  more = one.more ++ other.more;
  bytes = other.bytes ∙ ap (λ l. l ++ other.more) one.bytes ∙ append_assoc before.bytes one.more other.more;
}

-- a list that may be the whole input later may be it now, while the source has not ended
pub MayBeWhole-before : (whole : List ℕ) (before after : ReadSoFar) → IsFalse before.ended → ReadsMore before after → MayBeWhole whole after → MayBeWhole whole before
MayBeWhole-before whole before after going on may = record {
  rest = on.more ++ may.rest;
  begins = may.begins ∙ ap (λ l. l ++ may.rest) on.bytes ∙ append_assoc before.bytes on.more may.rest;
  at_end = λ ended. absurd (false≢true (sym going ∙ ended));
}

-- a view that fits up to some state fits up to an earlier one, if the source has not ended there
pub FitsInput-before : (input : InputView) (start mid after : ReadSoFar) → mid.ended ≡ start.ended → ReadsMore mid after → FitsInput input start after → FitsInput input start mid
FitsInput-before exposed start mid after same on fits = tt
FitsInput-before (assumed whole) start mid after same on fits = (fits.0, MayBeWhole-before whole mid after (same ∙ fits.0) on fits.1)

-- and from a later one on
pub FitsInput-after : (input : InputView) (start mid after : ReadSoFar) → mid.ended ≡ start.ended → FitsInput input start after → FitsInput input mid after
FitsInput-after exposed start mid after same fits = tt
FitsInput-after (assumed whole) start mid after same fits = (same ∙ fits.0, fits.1)

-- a view that fits up to the state after a line fits before it, where a line was read or the reader had ended
pub FitsInput-line : (input : InputView) (is_over : Bool) (start mid after : ReadSoFar) → (IsFalse is_over → mid.ended ≡ start.ended) → (IsTrue is_over → after ≡ mid) → ReadsMore mid after → FitsInput input start after
    → FitsInput input start mid × FitsReading input is_over mid after
FitsInput-line exposed is_over start mid after going same on fits = (tt, tt)
FitsInput-line (assumed whole) false start mid after going same on fits =
    (FitsInput-before (assumed whole) start mid after (going refl) on fits, (inl (going refl ∙ fits.0), fits.1))
FitsInput-line (assumed whole) true start mid after going same on fits = ((fits.0, subst (MayBeWhole whole) (same refl) fits.1), (inr refl, fits.1))

-- what a read takes from the input, by any view
pub Takes-seen : (input : InputView) (left left' : Option (List ℕ)) (reads reads' : ReadSoFar) (n : ℕ) (buffer : List ℕ) → n ≤ length buffer → reads' ≡ after_read reads n buffer
    → Takes left left' n buffer → FitsInput input reads reads' → Takes (left_in input left reads) (left_in input left' reads') n buffer
Takes-seen exposed left left' reads reads' n buffer short read takes fits = takes
Takes-seen (assumed whole) left left' reads reads' n buffer short read takes fits = λ told is.
    let may = fits.1 in
    let front = take n buffer in
    let size : length front ≡ n = length-take-le n buffer short in
    let bytes : reads'.bytes ≡ reads.bytes ++ front = ap (λ (r : ReadSoFar). r.bytes) read in
    let parts : whole ≡ reads.bytes ++ (front ++ may.rest) = may.begins ∙ ap (λ l. l ++ may.rest) bytes ∙ append_assoc reads.bytes front may.rest in
    let there : told ≡ front ++ may.rest = sym (same_Some _ _ is) ∙ ap (drop (length reads.bytes)) parts ∙ drop_front reads.bytes (front ++ may.rest) in
    let after : drop (length reads'.bytes) whole ≡ may.rest = ap (drop (length reads'.bytes)) may.begins ∙ drop_front reads'.bytes may.rest in
    let later : drop n told ≡ may.rest = ap (drop n) there ∙ ap (λ m. drop m (front ++ may.rest)) (sym size) ∙ drop_front front may.rest in (
      ap (take n) there ∙ ap (λ m. take m (front ++ may.rest)) (sym size) ∙ take_front front may.rest,
      ap Some (after ∙ sym later),
    )

-- a read of nothing into a buffer with room finds the end of the input, by any view
pub IsAtEnd-seen : (input : InputView) (left left' : Option (List ℕ)) (reads reads' : ReadSoFar) (buffer : List ℕ) → 0 < length buffer → reads' ≡ after_read reads 0 buffer
    → IsAtEnd left → FitsInput input reads reads' → IsAtEnd (left_in input left reads)
IsAtEnd-seen exposed left left' reads reads' buffer room read end fits = end
IsAtEnd-seen (assumed whole) left left' reads reads' buffer room read end fits = λ told is.
    let may = fits.1 in
    let none : may.rest ≡ [] = may.at_end (ap (λ (r : ReadSoFar). r.ended) read ∙ ended_true reads.ended (length buffer) room) in
    let bytes : reads'.bytes ≡ reads.bytes = ap (λ (r : ReadSoFar). r.bytes) read ∙ append-nil reads.bytes in
    sym (same_Some _ _ is) ∙ ap (drop (length reads.bytes)) (may.begins ∙ ap (λ l. l ++ may.rest) bytes) ∙ drop_front reads.bytes may.rest ∙ none

-- a read that failed leaves the input, by any view
pub Keeps-seen : (input : InputView) (left left' : Option (List ℕ)) (reads reads' : ReadSoFar) → reads' ≡ reads → Keeps left left' → Keeps (left_in input left reads) (left_in input left' reads')
Keeps-seen exposed left left' reads reads' same keeps = keeps
Keeps-seen (assumed whole) left left' reads reads' same keeps = λ told is. ap (λ (r : ReadSoFar). Some (drop (length r.bytes) whole)) same ∙ is

-- a read's effect on what its source has returned and on the input, by its result
module _ {E : Type 0} (left left' : Option (List ℕ)) (reads reads' : ReadSoFar) where
  pub TakesAfter-seen : (r : Result ℕ E) (a k : ℕ) (xs ys : List ℕ) → a ≤ length xs → IfOk r (λ n. n ≤ length ys) → IfOk r (λ n. reads' ≡ after_read reads n ys) → IfOk r (λ n. Takes left left' n ys)
      → IfOk r (λ n. ForEachInput left reads left' reads' (λ l l'. TakesAfter l l' n (take a xs) (take (a + n) (put_mid a k xs ys))))
  TakesAfter-seen (Ok n) a k xs ys inside short read takes = λ input fits.
      let r : Result ℕ E = Ok n in
      TakesAfter-from_read r (left_in input left reads) (left_in input left' reads') a k xs ys inside short (Takes-seen input left left' reads reads' n ys short read takes fits)
  TakesAfter-seen (Err e) a k xs ys inside short read takes = tt

  pub end_seen : (r : Result ℕ E) (room : ℕ) (ys : List ℕ) → 0 < room → length ys ≡ room → IfOk r (λ n. reads' ≡ after_read reads n ys) → IfOk r (λ n. n ≡ 0 → 0 < room → IsAtEnd left)
      → IfOk r (λ n. n ≡ 0 → ForEachInput left reads left' reads' (λ l l'. IsAtEnd l))
  end_seen (Ok n) room ys some size read end = λ none input fits.
      IsAtEnd-seen input left left' reads reads' ys (omega (arith, some, size)) (subst (λ (m : ℕ). reads' ≡ after_read reads m ys) none read) (end none some) fits
  end_seen (Err e) room ys some size read end = tt

  pub failed_seen : (r : Result ℕ E) → OnErr r (reads' ≡ reads) → OnErr r (Keeps left left') → OnErr r (ForEachInput left reads left' reads' (λ l l'. Keeps l l'))
  failed_seen (Ok n) same keeps = tt
  failed_seen (Err e) same keeps = λ input fits. Keeps-seen input left left' reads reads' same keeps

module _ {E : Type 0} (reads reads' : ReadSoFar) where
  pub ReadsMore-read : (r : Result ℕ E) (ys : List ℕ) → IfOk r (λ n. reads' ≡ after_read reads n ys) → OnErr r (reads' ≡ reads) → ReadsMore reads reads'
  ReadsMore-read (Ok n) ys read same = record { more = take n ys; bytes = ap (λ (r : ReadSoFar). r.bytes) read }
  ReadsMore-read (Err e) ys read same = ReadsMore-same reads reads' same

  pub going_read : (r : Result ℕ E) (ys : List ℕ) → IfOk r (λ n. reads' ≡ after_read reads n ys) → IfOk r (λ n. 0 < n → reads'.ended ≡ reads.ended)
  going_read (Ok zero) ys read = λ some. absurd (omega (arith, some))
  going_read (Ok (suc n)) ys read = λ some. ap (λ (r : ReadSoFar). r.ended) read ∙ rw (eqb-suc-zero n) (or_false reads.ended)
  going_read (Err e) ys read = tt

  pub ended_read : (r : Result ℕ E) (ys : List ℕ) → 0 < length ys → IfOk r (λ n. reads' ≡ after_read reads n ys) → IfOk r (λ n. n ≡ 0 → reads'.ended ≡ true)
  ended_read (Ok n) ys some read = λ none.
      ap (λ (r : ReadSoFar). r.ended) (subst (λ (m : ℕ). reads' ≡ after_read reads m ys) none read) ∙ ended_true reads.ended (length ys) some
  ended_read (Err e) ys some read = tt
