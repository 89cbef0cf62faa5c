-- Writes, one after another.
use Rattle.std.proofs.Common.{◌≡◌, ℕ, ◌+◌, ◌++◌, length, take, min, Option, Some, Result, Ok, Err, OnOk, OnErr, ap, sym, ◌∙◌, append_assoc, arith}
use Rattle.std.proofs.lemmas.List.{take_min, take-append-le}
use Rattle.std.proofs.Math.Seq.{take-append-add}
use Rattle.hippo_values.specs.Texts.{Txt}
use Rattle.hippo_io.specs.Told.{Appends, AppendsFront}

-- a prefix of some bytes is a prefix of more bytes
pub front_of_more : (old new : Option Txt) (first second : Txt) → AppendsFront old new first → AppendsFront old new (first ++ second)
front_of_more old new first second front =
    (min front.0 (length first), λ told is. front.1 told is ∙ ap (λ (piece : Txt). Some (told ++ piece)) (same_front front.0))
  where
    same_front : (n : ℕ) → take n first ≡ take (min n (length first)) (first ++ second)
    same_front n = sym (take_min n first) ∙ sym (take-append-le (min n (length first)) first second (omega arith))

-- bytes are written, and then a prefix of others
pub whole_and_front : (old mid new : Option Txt) (first second : Txt) → Appends old mid first → AppendsFront mid new second → AppendsFront old new (first ++ second)
whole_and_front old mid new first second whole front =
    (length first + front.0, λ told is. front.1 (told ++ first) (whole told is) ∙ ap Some (append_assoc told first (take front.0 second) ∙ ap (λ rest. told ++ rest) (sym (take-append-add first second front.0))))

pub both_whole : (old mid new : Option Txt) (first second : Txt) → Appends old mid first → Appends mid new second → Appends old new (first ++ second)
both_whole old mid new first second one other told is = other (told ++ first) (one told is) ∙ ap Some (append_assoc told first second)

-- two pieces are written, and then a third, or a prefix of it
pub three_written : {T E : Type 0} (result : Result T E) (old one two new : Option Txt) (first second third : Txt) → Appends old one first → Appends one two second
    → OnOk result (Appends two new third) → OnErr result (AppendsFront two new third)
    → OnOk result (Appends old new (first ++ (second ++ third))) × OnErr result (AppendsFront old new (first ++ (second ++ third)))
three_written (Ok value) old one two new first second third whole next ok failed =
    (both_whole old one new first (second ++ third) whole (both_whole one two new second third next ok), tt)
three_written (Err fault) old one two new first second third whole next ok failed =
    (tt, whole_and_front old one new first (second ++ third) whole (whole_and_front one two new second third next failed))

-- what always holds also holds on an error
pub err_so : {T E : Type 0} (result : Result T E) (P : Type 0) → P → OnErr result P
err_so (Ok value) P holds = tt
err_so (Err fault) P holds = holds
