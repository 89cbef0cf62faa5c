-- Jobs and watches that fit a history: after an entry is added, if none is held, and after one is
-- put there.
use Rattle.std.proofs.Common.{◌≡◌, ◌∙◌, ◌<◌, sym, ap, subst, refl, arith, ℕ, zero, suc, List, [], ◌∷◌, ◌++◌, map, length, get_or, Option, None, Some, true, false}
use Rattle.std.specs.Prelude.{IfSome, option_map, slice_set}
use Rattle.std.specs.List.{All, AllByRecursion}
use Rattle.hippo_values.specs.Limits.{job_limit, watch_limit}
use Rattle.hippo_values.specs.declared.moments.Moment.{Moment}
use Rattle.hippo_model.specs.declared.audit.Audit.{Audit}
use Rattle.hippo_model.specs.declared.entry.Entry.{Entry}
use Rattle.hippo_model.specs.Terms.{History}
use Rattle.hippo_model.specs.Validity.{is_valid}
use Rattle.hippo_model.specs.Versions.{is_version}
use Rattle.hippo_report.specs.declared.format.Format.{Format}
use Rattle.hippo_typing.specs.Meanings.{meaning}
use Rattle.hippo_audit_job.specs.Examining.{IsAuditOf}
use Rattle.hippo_audit_job.specs.Jobs.{open_audit}
use Rattle.hippo_audit_job.proofs.JobLemmas.{IsSoundJob-new, IsSoundJob-marked, JobFits-new, JobFits-marked, JobFits-grown}
use Rattle.hippo_combine.specs.Combining.{combine_terms}
use Rattle.hippo_model.specs.declared.entry.Act.{Act}
use Rattle.hippo_tables.specs.declared.tables.Tables.{Tables}
use Rattle.hippo_watch_counts.specs.declared.counts.AuditHits.{AuditHits}
use Rattle.hippo_watch.specs.Watches.{IsWatchOf, WasWatchOf}
use Rattle.hippo_watch.proofs.WatchLemmas.{IsWatchOf-no_version}
use Rattle.hippo_engine_world.specs.declared.worlds.World.{World as HeldWorld}
use Rattle.hippo_engine_world.specs.Auditing.{HeldJob, taken_by_job, HasBegun, IsLooking, AreLooking, watched, AreWatching, AreAudits, job_tally, job_tallies, EachChanges}
use Rattle.hippo_engine_world.specs.declared.watches.Way.TheVariants.{In, Back}
use Rattle.hippo_engine_world.specs.Holding.{world_of, KeepsAudits, JobsFit, WatchesFit, WatchesFollow, WatchesGoBack, tallies_of}
use Rattle.hippo_engine_sessions.specs.Worlds.{World, with_at, empty_slots, opening}
use Rattle.hippo_engine_sessions.proofs.HeldLemmas.{StandsAt, seen-none}

module _ {A : Type 0} (P Q : A → Type 0) where
  -- a property of each one that is held implies what follows from it
  each_held : (follows : (one : A) → P one → Q one) (places : List (Option A)) → AllByRecursion (λ held. IfSome held P) places → AllByRecursion (λ held. IfSome held Q) places
  each_held follows [] all = tt
  each_held follows (None ∷ rest) all = (tt, each_held follows rest all.1)
  each_held follows (Some one ∷ rest) all = (follows one all.0, each_held follows rest all.1)

module _ {A : Type 0} (P : A → Type 0) where
  set_there : (places : List (Option A)) (place : ℕ) (held : Option A) → AllByRecursion (λ held. IfSome held P) places → IfSome held P → AllByRecursion (λ held. IfSome held P) (slice_set places place held)
  set_there [] place held all is = tt
  set_there (first ∷ rest) zero held all is = (is, all.1)
  set_there (first ∷ rest) (suc place) held all is = (all.0, set_there rest place held all.1 is)

  -- a property of each one that is held still holds after one with the property is put there, or
  -- none
  pub all_with : (places : List (Option A)) (number : ℕ) (held : Option A) → AllByRecursion (λ held. IfSome held P) places → IfSome held P → AllByRecursion (λ held. IfSome held P) (with_at places number held)
  all_with places zero held all is = all
  all_with places (suc place) held all is = set_there places place held all is

  one_of : (front remaining : List (Option A)) (held : Option A) → AllByRecursion (λ held. IfSome held P) (front ++ held ∷ remaining) → IfSome held P
  one_of [] remaining held all = all.0
  one_of (first ∷ front) remaining held all = one_of front remaining held all.1

  -- the one at a number has the property
  pub one_has : (places : List (Option A)) (number : ℕ) (held : Option A) → StandsAt places number held → AllByRecursion (λ held. IfSome held P) places → IfSome held P
  one_has places number held there all =
      one_of there.front there.remaining held (subst (AllByRecursion (λ (held : Option A). IfSome held P)) there.whole all)

module _ (history : History) (entry : Entry) (valid : is_valid meaning (history ++ entry ∷ []) ≡ true) where
  looks_on : (job : HeldJob) → IsLooking history job → IsLooking (history ++ entry ∷ []) job
  looks_on job looks = record { sound = looks.sound; fits = JobFits-grown combine_terms job history entry valid looks.sound looks.fits }

  -- jobs that fit a history fit it with one more entry
  pub JobsFit-more : (held : HeldWorld) → JobsFit history held → JobsFit (history ++ entry ∷ []) held
  JobsFit-more held fit = each_held (IsLooking history) (IsLooking (history ++ entry ∷ [])) looks_on held.jobs fit

  -- and so do watches, if the entry changes no row
  pub WatchesFit-more : (held : HeldWorld) → is_version entry.act ≡ false → WatchesFit history held → WatchesFit (history ++ entry ∷ []) held
  WatchesFit-more held none fit =
      each_held (IsWatchOf history) (IsWatchOf (history ++ entry ∷ [])) (λ watch is. IsWatchOf-no_version history entry valid watch none is) held.watches fit

module _ (history : History) (old new : HeldWorld) (keeps : KeepsAudits old new) where
  -- jobs and watches that are the same still fit
  pub JobsFit-same : JobsFit history old → JobsFit history new
  JobsFit-same fit = subst (AreLooking history) (sym keeps.jobs) fit

  pub WatchesFit-same : WatchesFit history old → WatchesFit history new
  WatchesFit-same fit = subst (AreWatching history) (sym keeps.watches) fit

-- jobs that are the same have the same tallies
pub tallies_of-same : (old new : HeldWorld) → KeepsAudits old new → tallies_of new ≡ tallies_of old
tallies_of-same old new keeps = ap job_tallies keeps.jobs

-- nothing is held if the mapped slots are empty
module _ {A B : Type 0} (f : A → B) where
  none_there : (places : List (Option A)) (count : ℕ) → map (option_map f) places ≡ empty_slots count → places ≡ empty_slots count
  none_there [] zero is = refl
  none_there [] (suc count) is = absurd cc
  none_there (first ∷ rest) zero is = absurd cc
  none_there (None ∷ rest) (suc count) is =
      let later : map (option_map f) rest ≡ empty_slots count = cc in
      ap (λ (places : List (Option A)). None ∷ places) (none_there rest count later)
  none_there (Some one ∷ rest) (suc count) is = absurd cc

none_look : (history : History) (count : ℕ) → AreLooking history (empty_slots count)
none_look history zero = tt
none_look history (suc count) = (tt, none_look history count)

none_watch : (history : History) (count : ℕ) → AreWatching history (empty_slots count)
none_watch history zero = tt
none_watch history (suc count) = (tt, none_watch history count)

module _ (held : HeldWorld) (clock : Moment) (limit : ℕ) (format : Format) (opens : world_of held ≡ opening clock limit format) where
  no_jobs : (count : ℕ) → (opening clock limit format).jobs ≡ empty_slots count → held.jobs ≡ empty_slots count
  no_jobs count is = none_there open_audit held.jobs count (ap (λ (world : World). world.jobs) opens ∙ is)

  -- no job is held when a run begins
  pub JobsFit-opening : (history : History) → JobsFit history held
  JobsFit-opening history = subst (AreLooking history) (sym (no_jobs job_limit refl)) (none_look history job_limit)

  pub tallies_of-opening : tallies_of held ≡ empty_slots job_limit
  tallies_of-opening = ap job_tallies (no_jobs job_limit refl) ∙ seen-none job_tally job_limit

  no_watches : (count : ℕ) → (opening clock limit format).watches ≡ empty_slots count → held.watches ≡ empty_slots count
  no_watches count is = none_there watched held.watches count (ap (λ (world : World). world.watches) opens ∙ is)

  -- nor any watch
  pub none_watched : held.watches ≡ empty_slots watch_limit
  none_watched = no_watches watch_limit refl

  pub WatchesFit-opening : (history : History) → WatchesFit history held
  WatchesFit-opening history = subst (AreWatching history) (sym none_watched) (none_watch history watch_limit)

-- a job that has just begun over a valid history fits it
pub IsLooking-begun : (history : History) (audit : Audit) (job : HeldJob) → is_valid meaning history ≡ true → IsAuditOf history audit → HasBegun audit (length history) job → IsLooking history job
IsLooking-begun history audit job valid is_audit begun = subst (IsLooking history) (sym begun.is) (record {
  sound = IsSoundJob-new combine_terms audit (length history) job.examiner is_audit.differ begun.unasked;
  fits = JobFits-new combine_terms history audit job.examiner valid is_audit begun.unasked;
})

-- it was given no versions, and no step of it failed
pub tally-begun : (audit : Audit) (number : ℕ) (job : HeldJob) → HasBegun audit number job → job_tally job ≡ record { taken = 0; unbroken = true }
tally-begun audit number job begun =
    let none : taken_by_job job ≡ 0 = begun.unasked.none_handed (taken_by_job job) refl in
    λ i. record { taken = none i; unbroken = (begun.is i).unbroken }

-- a job whose flags are written fits the same history
pub IsLooking-written : (history : History) (job : HeldJob) → IsLooking history job → IsLooking history (record job { waiting = [] })
IsLooking-written history job looks = record {
  sound = IsSoundJob-marked combine_terms [] job.unbroken job looks.sound;
  fits = JobFits-marked combine_terms [] job.unbroken job history looks.fits;
}

-- ---- watches when an entry is added, and removed again
module _ {A : Type 0} (P : A → Type 0) where
  all_here : (places : List A) → AllByRecursion P places → All P places
  all_here places all = λ k d within. there places k d all within
    where
      there : (places : List A) (k : ℕ) (d : A) → AllByRecursion P places → k < length places → P (get_or places k d)
      there [] k d all within = absurd (omega (arith, within))
      there (first ∷ rest) zero d all within = all.0
      there (first ∷ rest) (suc k) d all within = there rest k d all.1 (omega (arith, within))

  each_of_all : (places : List A) → All P places → AllByRecursion P places
  each_of_all [] all = tt
  each_of_all (first ∷ rest) all = (all 0 first (omega arith), each_of_all rest (λ k d within. all (suc k) d (omega (arith, within))))

-- watches that fit a history have audits that fit it
pub AreAudits-of : (history : History) (watches : List (Option AuditHits)) → AreWatching history watches → AreAudits history (map (option_map watched) watches)
AreAudits-of history [] all = tt
AreAudits-of history (None ∷ rest) all = (tt, AreAudits-of history rest all.1)
AreAudits-of history (Some watch ∷ rest) all = (all.0.audit_is, AreAudits-of history rest all.1)

both_held : (history : History) (entry : Entry) (watches : List (Option AuditHits)) → AreAudits history (map (option_map watched) watches) → AreWatching (history ++ entry ∷ []) watches
    → AllByRecursion (λ held. IfSome held (WasWatchOf history entry)) watches
both_held history entry [] audits all = tt
both_held history entry (None ∷ rest) audits all = (tt, both_held history entry rest audits.1 all.1)
both_held history entry (Some watch ∷ rest) audits all = (record { audit_is = audits.0; is_now = all.0 }, both_held history entry rest audits.1 all.1)

module _ (tables : Tables) (act : Act) (old new : HeldWorld) where
  pub WatchesFollow-each : EachChanges In tables act old.watches new.watches → WatchesFollow tables act old new
  WatchesFollow-each each = λ history entry is next fit.
      each_of_all (λ held. IfSome held (IsWatchOf (history ++ entry ∷ []))) new.watches
      (each history entry is next (all_here (λ held. IfSome held (IsWatchOf history)) old.watches fit))

  pub WatchesGoBack-each : EachChanges Back tables act old.watches new.watches → WatchesGoBack tables act old new
  WatchesGoBack-each each = λ history entry is next audits fit.
      each_of_all (λ held. IfSome held (IsWatchOf history)) new.watches
      (each history entry is next (all_here (λ held. IfSome held (WasWatchOf history entry)) old.watches (both_held history entry old.watches audits fit)))
