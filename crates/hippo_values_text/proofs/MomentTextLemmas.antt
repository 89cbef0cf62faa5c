-- The text of a moment is the text of its day and then of its second of the day.
use borrow.Rule.Slice.PartMut.{put_mid}
use Rattle.std.proofs.Common.{sym, ◌≤◌, ◌≡◌, ◌≢◌, [], ◌∷◌, ℕ, ◌<◌, List, ◌++◌, length, take, drop, refl, ap, ◌∙◌, arith, ℤ, pos, ◌+ℤ◌, ◌*ℤ◌, unsigned_abs}
use Rattle.std.specs.Int.{int_div_euclid, int_rem_euclid}
use Rattle.std.specs.List.{IsSplitAt}
use Rattle.std.specs.Str.{IsAscii}
use Rattle.std.proofs.lemmas.Str.{IsAscii-append}
use Rattle.hippo_values_text.proofs.DateTextLemmas.{IsDayText-unique}
use Rattle.hippo_values_text.proofs.ClockTextLemmas.{time_text_injective}
use Rattle.hippo_values.proofs.AsciiLemmas.{IsAscii-same}
use Rattle.std.proofs.lemmas.List.{take-append-drop, length-append, length-take, length-drop}
use Rattle.std.proofs.Math.Seq.{take-append_seam, drop-append_seam}
use Rattle.jiff_core.proofs.SignedLemmas.{signed_arith}
use Rattle.hippo_values.specs.Moments.{IsDayNumber, IsMoment}
use Rattle.hippo_values_text.specs.Dates.{day_text, time_text, moment_text, IsDayText, IsMomentText}

-- the day that contains a moment, and how many of its seconds have passed
abbrev pub day_of : ℤ → ℤ
day_of moment = int_div_euclid moment (pos 86400)

abbrev pub second_of : ℤ → ℕ
second_of moment = unsigned_abs (int_rem_euclid moment (pos 86400))

pub IsDayNumber-of_moment : (moment : ℤ) → IsMoment moment → IsDayNumber (day_of moment)
IsDayNumber-of_moment moment h = (omega (arith, signed_arith, h), omega (arith, signed_arith, h))

second_of-lt : (moment : ℤ) → second_of moment < 86400
second_of-lt moment = omega (arith, signed_arith)

-- a day and a second of it make a moment
pub record IsAt (moment day : ℤ) (second : ℕ) : Type 0 where
  pub in_range : IsMoment moment
  pub day_is : day_of moment ≡ day
  pub second_is : second_of moment ≡ second

IsAt-sum : (day : ℤ) (second : ℕ) → IsDayNumber day → second < 86400 → IsAt (day *ℤ pos 86400 +ℤ pos second) day second
IsAt-sum day second h below = record {
  in_range = (omega (arith, signed_arith, h), omega (arith, signed_arith, h));
  day_is = omega (arith, signed_arith);
  second_is = omega (arith, signed_arith);
}

-- the text of a day and the text of a second make the text of the moment
pub IsMomentText-of_parts : (text date time : List ℕ) (day : ℤ) (second : ℕ) → IsSplitAt text 10 date time → IsDayText date day → (second < 86400) × (time ≡ time_text second) → IsMomentText text (day *ℤ pos 86400 +ℤ pos second)
unfolding moment_text
IsMomentText-of_parts text date time day second split h t =
    let is = IsAt-sum day second h.0 t.0 in
    let whole = take-append-drop 10 text in
    (is.in_range, rw (is.day_is, is.second_is) cc)

length-day_text : (day : ℤ) → length (day_text day) ≡ 10
unfolding day_text
length-day_text day = refl

-- a text of a moment has at least the length of its day
pub length-moment_text : (text : List ℕ) → length text < 10 → (moment : ℤ) → ¬ (IsMomentText text moment)
unfolding moment_text
length-moment_text text short moment h =
    omega (arith, ap length h.1, length-append (day_text (day_of moment)) (time_text (second_of moment)), length-day_text (day_of moment))

-- the text of a moment begins with its day
pub IsDayText-of_moment : (text date time : List ℕ) → IsSplitAt text 10 date time → (moment : ℤ) → IsMomentText text moment → IsDayText date (day_of moment)
unfolding moment_text
IsDayText-of_moment text date time split moment h =
    let front : take 10 (day_text (day_of moment) ++ time_text (second_of moment)) ≡ day_text (day_of moment) = rw (← length-day_text (day_of moment)) (take-append_seam (day_text (day_of moment)) _) in
    (IsDayNumber-of_moment moment h.0, split.1 ∙ ap (take 10) h.1 ∙ front)

time_text-of_moment : (text date time : List ℕ) → IsSplitAt text 10 date time → (moment : ℤ) → IsMomentText text moment → time ≡ time_text (second_of moment)
unfolding moment_text
time_text-of_moment text date time split moment h =
    let back : drop 10 (day_text (day_of moment) ++ time_text (second_of moment)) ≡ time_text (second_of moment) = rw (← length-day_text (day_of moment)) (drop-append_seam (day_text (day_of moment)) _) in
    split.2 ∙ ap (drop 10) h.1 ∙ back

-- a text that does not begin with a day is not a moment
pub no_moment-without_day : (text date time : List ℕ) → IsSplitAt text 10 date time → ((day : ℤ) → ¬ (IsDayText date day)) → (moment : ℤ) → ¬ (IsMomentText text moment)
no_moment-without_day text date time split none moment h = none _ (IsDayText-of_moment text date time split moment h)

-- nor is one that does not end with a time
pub no_moment-without_time : (text date time : List ℕ) → IsSplitAt text 10 date time → ((second : ℕ) → second < 86400 → time ≢ time_text second) → (moment : ℤ) → ¬ (IsMomentText text moment)
no_moment-without_time text date time split none moment h =
    none _ (second_of-lt moment) (time_text-of_moment text date time split moment h)

-- the bytes of a day and of a second, put into 20 bytes, are the moment's text
pub moment_text-joined : (front back : List ℕ) (moment day : ℤ) (second : ℕ) → day ≡ day_of moment → second ≡ second_of moment → front ≡ day_text day → back ≡ time_text second → put_mid 10 10 (front ++ 0 ∷ 0 ∷ 0 ∷ 0 ∷ 0 ∷ 0 ∷ 0 ∷ 0 ∷ 0 ∷ 0 ∷ []) back ≡ moment_text moment
unfolding day_text time_text moment_text
moment_text-joined front back moment day second ed es ef eb = rw (ef, eb, ed, es) refl

pub IsAscii-moment_text : (text : List ℕ) (moment day : ℤ) (second : ℕ) → day ≡ day_of moment → second ≡ second_of moment → IsAscii (day_text day) → IsAscii (time_text second) → text ≡ moment_text moment → IsAscii text
unfolding moment_text
IsAscii-moment_text text moment day second ed es front back e =
    let joined : text ≡ day_text day ++ time_text second = rw (ed, es) e in
    IsAscii-same text (day_text day ++ time_text second) joined (IsAscii-append (day_text day) (time_text second) front back)

same_moment : (moment other : ℤ) → day_of moment ≡ day_of other → second_of moment ≡ second_of other → moment ≡ other
same_moment moment other ed es = omega (arith, signed_arith)

-- a text of a moment can be split after its day
split_moment : (text : List ℕ) (moment : ℤ) → IsMomentText text moment → IsSplitAt text 10 (take 10 text) (drop 10 text)
unfolding moment_text
split_moment text moment h =
    let within : 10 ≤ length text = omega (arith, ap length h.1, length-append (day_text (day_of moment)) (time_text (second_of moment)), length-day_text (day_of moment)) in
    (within, refl, refl, omega (arith, length-take 10 text), omega (arith, length-drop 10 text))

-- a text is at most one moment
pub IsMomentText-unique : (text : List ℕ) (moment other : ℤ) → IsMomentText text moment → IsMomentText text other → moment ≡ other
IsMomentText-unique text moment other h k =
    let split = split_moment text moment h in
    let day = IsDayText-unique (take 10 text) _ _ (IsDayText-of_moment text _ _ split moment h) (IsDayText-of_moment text _ _ split other k) in
    let time = sym (time_text-of_moment text _ _ split moment h) ∙ time_text-of_moment text _ _ split other k in
    same_moment moment other day (time_text_injective _ _ (second_of-lt moment) (second_of-lt other) time)
