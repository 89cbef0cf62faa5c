-- Which moment a text writes, found among all moments.
use Rattle.std.proofs.Common.{◌≡◌, List, ℕ, Option, Some, None, IfSome, refl, sym, ap, ℤ}
use Rattle.hippo_values.specs.Moments.{first_moment, last_moment}
use Rattle.hippo_values_text.specs.Dates.{moment_text, IsMomentText, written_among}
use Rattle.hippo_values_text.proofs.MomentTextLemmas.{IsMomentText-unique}
use Rattle.hippo_values_text.proofs.WrittenLemmas.{written-found, written-none}
use Rattle.hippo_stmt_lines.specs.CommandLaws.{MomentsAreRead}
use Rattle.hippo_stmt_lines.specs.Moments.{moment_in}

-- if no moment is found among all, the text writes none
no_moment : (text : List ℕ) → written_among moment_text first_moment 315537897600 text ≡ None → (second : ℤ) → ¬ (IsMomentText text second)
no_moment text none = written-none moment_text first_moment last_moment 315537897600 refl text none

found_moment : (text : List ℕ) → IfSome (written_among moment_text first_moment 315537897600 text) (IsMomentText text)
found_moment text = written-found moment_text first_moment last_moment 315537897600 refl text

-- an exact answer is the moment that is found
agree : (text : List ℕ) (answer found : Option ℤ) → IfSome answer (IsMomentText text) → ((second : ℤ) → IsMomentText text second → answer ≡ Some second) → IfSome found (IsMomentText text) → (found ≡ None → (second : ℤ) → ¬ (IsMomentText text second)) → answer ≡ found
agree text answer (Some second) some inverse is none = inverse second is
agree text (Some second) None some inverse is none = absurd (none refl second some)
agree text None None some inverse is none = refl

pub moment_in-is : (text : List ℕ) (answer : Option ℤ) → IfSome answer (IsMomentText text) → ((second : ℤ) → IsMomentText text second → answer ≡ Some second) → answer ≡ moment_in text
unfolding moment_in
moment_in-is text answer some inverse =
    agree text answer (written_among moment_text first_moment 315537897600 text) some inverse (found_moment text) (no_moment text)

some_found : (text : List ℕ) (found : Option ℤ) (second : ℤ) → IfSome found (IsMomentText text) → found ≡ Some second → IsMomentText text second
some_found text found second is e = rw e at is

pub moments_are_read : MomentsAreRead
unfolding moment_in
moments_are_read text second = (
  λ e. some_found text (written_among moment_text first_moment 315537897600 text) second (found_moment text) e,
  λ h. sym (moment_in-is text (Some second) h (λ other is. ap Some (IsMomentText-unique text second other h is))),
)
