-- Counts that rise and fall with the steps.
use Rattle.std.proofs.Common.{◌≡◌, refl, arith, ℕ, ◌+◌, ◌≤◌, Option, None, Some}
use Rattle.hippo_audit_job.specs.Examining.{RisesWith, FallsWith, RisesWithin, AreWithin}

pub RisesWith-none : (count : Option ℕ) (steps : ℕ) → RisesWith count count steps steps
RisesWith-none None steps = tt
RisesWith-none (Some count) steps = refl

pub RisesWith-then : (first second third : Option ℕ) (one two three : ℕ) → RisesWith first second one two → RisesWith second third two three → RisesWith first third one three
RisesWith-then (Some first) (Some second) (Some third) one two three before after = omega (arith, before, after)
RisesWith-then None None None one two three before after = tt
RisesWith-then (Some first) None third one two three before after = absurd before
RisesWith-then None (Some second) third one two three before after = absurd before
RisesWith-then (Some first) (Some second) None one two three before after = absurd after
RisesWith-then None None (Some third) one two three before after = absurd after

pub FallsWith-none : (count : Option ℕ) (steps : ℕ) → FallsWith count count steps steps
FallsWith-none None steps = tt
FallsWith-none (Some count) steps = omega arith

-- what was handed over and what is unread stay within the same number
pub AreWithin-then : (handed handed_now unread unread_now : Option ℕ) (old new number : ℕ) → RisesWith handed handed_now old new → FallsWith unread unread_now old new → AreWithin handed unread number → AreWithin handed_now unread_now number
AreWithin-then (Some h) (Some h_now) (Some u) (Some u_now) old new number rises falls within = omega (arith, rises, falls, within)
AreWithin-then None None None None old new number rises falls within = tt
AreWithin-then (Some h) None u u_now old new number rises falls within = absurd rises
AreWithin-then None (Some h_now) u u_now old new number rises falls within = absurd rises
AreWithin-then h h_now (Some u) None old new number rises falls within = absurd falls
AreWithin-then h h_now None (Some u_now) old new number rises falls within = absurd falls
AreWithin-then (Some h) (Some h_now) None None old new number rises falls within = absurd within
AreWithin-then None None (Some u) (Some u_now) old new number rises falls within = absurd within

pub AreWithin-more : (handed unread unread_now : Option ℕ) (number more : ℕ) → RisesWithin unread unread_now more → AreWithin handed unread number → AreWithin handed unread_now (number + more)
AreWithin-more (Some h) (Some u) (Some u_now) number more rises within = omega (arith, rises, within)
AreWithin-more None None None number more rises within = tt
AreWithin-more (Some h) None u_now number more rises within = absurd within
AreWithin-more None (Some u) u_now number more rises within = absurd within
AreWithin-more (Some h) (Some u) None number more rises within = absurd rises
AreWithin-more None None (Some u_now) number more rises within = absurd rises

-- what was handed over is within the number
pub handed_within : (handed unread : Option ℕ) (number count : ℕ) → AreWithin handed unread number → handed ≡ Some count → count ≤ number
handed_within (Some h) (Some u) number count within is =
    let same : h ≡ count = some_is h count is in
    omega (arith, within, same)
  where
    some_is : (x y : ℕ) → Some x ≡ Some y → x ≡ y
    some_is x y e = cc
handed_within None unread number count within is = absurd cc
handed_within (Some h) None number count within is = absurd within
