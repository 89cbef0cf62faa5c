-- A read into a part of a buffer.
use Rattle.std.proofs.Common.{◌≡◌, ℕ, ◌+◌, ◌-◌, ◌≤◌, List, [], ◌++◌, length, take, drop, ap, ◌∙◌, sym, arith, Result, Ok, Err, IfOk}
use Rattle.std.proofs.Math.Seq.{take-append-add, take-append_seam}
use Rattle.std.proofs.lemmas.List.{take-append-le, length-take, length-take-le, drop-drop, take-take}
use Rattle.std.proofs.lemmas.Slice.{between_is}
use Rattle.std.specs.Prelude.{Option, slice_range}
use borrow.Rule.Slice.PartMut.{put_mid}
use Rattle.hippo_io.specs.Told.{Takes, TakesAfter}

-- the n bytes from the place of a write on
take_after : (a k n : ℕ) (xs ys : List ℕ) → a ≤ length xs → n ≤ length ys → take (a + n) (put_mid a k xs ys) ≡ take a xs ++ take n ys
take_after a k n xs ys inside short =
    let e : length (take a xs) ≡ a = length-take-le a xs inside in
    ap (λ m. take (m + n) (put_mid a k xs ys)) (sym e) ∙ take-append-add (take a xs) _ n ∙ ap (λ l. take a xs ++ l) (take-append-le n ys _ short)

-- the source had as many bytes as were read
told_enough : (n : ℕ) (told buffer : List ℕ) → n ≤ length buffer → take n told ≡ take n buffer → n ≤ length told
told_enough n told buffer short same = omega (arith, ap length same, length-take n told, length-take n buffer)

pub TakesAfter-from_read : {E : Type 0} (r : Result ℕ E) (old new : Option (List ℕ)) (a k : ℕ) (xs ys : List ℕ) → a ≤ length xs
    → IfOk r (λ n. n ≤ length ys) → IfOk r (λ n. Takes old new n ys) → IfOk r (λ n. TakesAfter old new n (take a xs) (take (a + n) (put_mid a k xs ys)))
TakesAfter-from_read (Ok n) old new a k xs ys inside short taken = λ told is.
    let moved = taken told is in (
      told_enough n told ys short moved.0,
      take_after a k n xs ys inside short ∙ ap (λ l. take a xs ++ l) (sym moved.0),
      moved.1,
    )
TakesAfter-from_read (Err e) old new a k xs ys inside short taken = taken

-- the part that begins n bytes later
pub window_later : (xs : List ℕ) (from n to : ℕ) → slice_range xs (from + n) to ≡ drop n (slice_range xs from to)
window_later xs from n to = between_is xs (from + n) to ∙ sym (drop-drop n from (take to xs)) ∙ ap (drop n) (sym (between_is xs from to))

-- the first n of a part
pub window_front : (xs : List ℕ) (from n to : ℕ) → from + n ≤ to → slice_range xs from (from + n) ≡ take n (slice_range xs from to)
window_front xs from n to inside =
    let n_bytes : from + n - from ≡ n = omega arith in
    let short : n ≤ to - from = omega arith in
    ap (λ m. take m (drop from xs)) n_bytes ∙ sym (take-take n (to - from) (drop from xs) short)

pub window_none : (xs : List ℕ) (at : ℕ) → slice_range xs at at ≡ []
window_none xs at =
    let none : at - at ≡ 0 = omega arith in ap (λ m. take m (drop at xs)) none

-- the first k bytes of a buffer that was lent as a slice and came back as another list
pub take_over : (cap : ℕ) (over new : List ℕ) → length new ≡ cap → take cap (new ++ over) ≡ new
take_over cap over new size = ap (λ m. take m (new ++ over)) (sym size) ∙ take-append_seam new over

pub refilled_bytes : (cap k : ℕ) (over new : List ℕ) → length new ≡ cap → slice_range (take cap (new ++ over)) 0 k ≡ take k new
refilled_bytes cap k over new size =
    let all : k - 0 ≡ k = omega arith in ap (λ xs. slice_range xs 0 k) (take_over cap over new size) ∙ ap (λ m. take m new) all
