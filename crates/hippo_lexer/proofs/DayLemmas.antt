-- The day that a text writes, searched among all days.
use Rattle.std.proofs.Common.{◌≡◌, List, ℕ, Option, Some, None, IfSome, IfNone, refl, sym, ap, ℤ}
use Rattle.hippo_values.specs.Moments.{first_day, last_day, day_count}
use Rattle.hippo_values_text.specs.Dates.{day_text, IsDayText, written_among}
use Rattle.hippo_values_text.proofs.DateTextLemmas.{IsDayText-unique}
use Rattle.hippo_values_text.proofs.WrittenLemmas.{written-found, written-none}
use Rattle.hippo_lexer.specs.Cutting.{day_of}

-- if none is found, the text is not that of a day
no_day : (text : List ℕ) → written_among day_text first_day day_count text ≡ None → (day : ℤ) → ¬ (IsDayText text day)
no_day text none = written-none day_text first_day last_day day_count refl text none

if_none : (answer : Option ℤ) (P : Type 0) → (answer ≡ None → P) → IfNone answer P
if_none (Some day) P h = tt
if_none None P h = h refl

-- two exact results are equal
agree : (text : List ℕ) (a b : Option ℤ) → IfSome a (IsDayText text) → IfNone a ((day : ℤ) → ¬ (IsDayText text day)) → IfSome b (IsDayText text) → IfNone b ((day : ℤ) → ¬ (IsDayText text day)) → a ≡ b
agree text (Some a) (Some b) some_a none_a some_b none_b = ap Some (IsDayText-unique text a b some_a some_b)
agree text (Some a) None some_a none_a some_b none_b = absurd (none_b a some_a)
agree text None (Some b) some_a none_a some_b none_b = absurd (none_a b some_b)
agree text None None some_a none_a some_b none_b = refl

-- an exact result is this one
pub day_of-is : (text : List ℕ) (found : Option ℤ) → IfSome found (IsDayText text) → IfNone found ((day : ℤ) → ¬ (IsDayText text day)) → found ≡ day_of text
unfolding day_of
day_of-is text found some none =
    agree text found (written_among day_text first_day day_count text) some none (written-found day_text first_day last_day day_count refl text) (if_none _ _ (no_day text))

pub day_of-found : (text : List ℕ) → IfSome (day_of text) (IsDayText text)
unfolding day_of
day_of-found text = written-found day_text first_day last_day day_count refl text

pub day_of-none : (text : List ℕ) → IfNone (day_of text) ((day : ℤ) → ¬ (IsDayText text day))
unfolding day_of
day_of-none text = if_none _ _ (no_day text)

pub day_of-day : (text : List ℕ) (day : ℤ) → IsDayText text day → day_of text ≡ Some day
day_of-day text day h = sym (day_of-is text (Some day) h tt)

pub day_of-no_day : (text : List ℕ) → ((day : ℤ) → ¬ (IsDayText text day)) → day_of text ≡ None
day_of-no_day text none = sym (day_of-is text None tt none)
