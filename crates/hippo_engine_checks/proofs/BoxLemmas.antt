-- What holds of a found value also holds of its box, unless out of memory.
use Rattle.std.proofs.Common.{◌≡◌, ◌∙◌, Ok, Err, IfOk, ap, subst, sym, inr}
use Rattle.std.specs.Prelude.{MatchResult}
use Rattle.hippo_report.specs.declared.refusal.Refusal.{Refusal}
use Rattle.hippo_report.specs.declared.refusal.Refusal.TheVariants.{Memory}
use Rattle.hippo_engine_checks.specs.Checks.{Checked, Finds}

pub found_in_box : {A : Type 0} (checked : Checked A) (found : A) (boxed : Checked A) → checked ≡ Ok found → MatchResult boxed (λ held. held ≡ found) (λ refusal. refusal ≡ Memory) → Finds (λ held. held) checked boxed
found_in_box checked found (Ok held) is same = is ∙ sym (ap Ok same)
found_in_box checked found (Err refusal) is short = inr short

pub held_in_box : {A : Type 0} (P : A → Type 0) (found : A) (boxed : Checked A) → P found → MatchResult boxed (λ held. held ≡ found) (λ refusal. refusal ≡ Memory) → IfOk boxed P
held_in_box P found (Ok held) holds same = subst P (sym same) holds
held_in_box P found (Err refusal) holds short = tt
