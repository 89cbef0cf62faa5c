-- The sum of a run's steps: at its beginning, after one more line, and at its end.
use Rattle.std.proofs.Common.{◌≡◌, ◌≤◌, ◌∙◌, ℕ, zero, suc, ◌+◌, ◌*◌, Bool, true, false, ◌||◌, if◌then◌else◌, List, [], ◌∷◌, ◌++◌, length, sum, All, Option, Some, None, refl, sym, ap, subst, arith, length-append}
use Rattle.std.specs.Prelude.{option_map}
use Rattle.std.proofs.Math.Nat.{mul-add, mul_comm, mul-le-mul_right}
use Rattle.std.proofs.lemmas.Bool.{false≢true}
use Rattle.std.proofs.lemmas.List.Elements.{All-nil, All-cons, All-head, All-tail, All-append, All-weaker, filter_map-append}
use Rattle.std.proofs.lemmas.List.Sums.{sum_by-cons, sum_by-append, sum_by-le}
use Rattle.hippo_stmt_lines.specs.Commands.{Command, make_request}
use Rattle.hippo_values.specs.Texts.{Txt}
use Rattle.hippo_engine_sessions.specs.Tallies.{JobTally}
use Rattle.hippo_engine_sessions.specs.Worlds.{with_at, empty_slots}
use Rattle.hippo_engine_sessions.proofs.HeldLemmas.{StandsAt, held_stands, free_stands}
use Rattle.hippo_engine_rules.specs.Ledgers.{looks_back, begins_job, stepped_job, dropped_job, audits_of, first_tally, Tallies, none_taken, at_once, job_begun, job_stepped, job_dropped, taken_by_each, RunSum}

-- a command that reads the whole history is an audit
looks_once : (looks begins : Bool) → looks ≡ true → ◌≡◌ {A = ℕ} (if looks || begins then 1 else 0) 1
looks_once true begins looks = refl
looks_once false begins looks = absurd (false≢true looks)

-- one that begins a job is an audit
begins_once : (looks begins : Bool) → begins ≡ true → ◌≡◌ {A = ℕ} (if looks || begins then 1 else 0) 1
begins_once true begins begun = refl
begins_once false true begun = refl
begins_once false false begun = absurd (false≢true begun)

-- one that steps or drops a job is none
stepped_none : (command : Command) (number : ℕ) → stepped_job command ≡ Some number → audits_of command ≡ 0
stepped_none (make_request who request) number stepped = refl
stepped_none command number stepped = absurd cc

dropped_none : (command : Command) (number : ℕ) → dropped_job command ≡ Some number → audits_of command ≡ 0
dropped_none (make_request who request) number dropped = refl
dropped_none command number dropped = absurd cc

module _ (jobs : List (Option JobTally)) (number : ℕ) (held : Option JobTally) (there : StandsAt jobs number held) where
  abbrev taken_by : Option JobTally → Option ℕ
  taken_by held = option_map (λ tally. tally.taken) held

  -- the steps of the jobs before a number, of the job at it, and of those after it
  taken-parted : taken_by_each jobs ≡ taken_by_each there.front ++ taken_by_each (held ∷ there.remaining)
  taken-parted = ap taken_by_each there.whole ∙ filter_map-append taken_by there.front (held ∷ there.remaining)

  taken-put : (jobs' : List (Option JobTally)) (other : Option JobTally) → jobs' ≡ with_at jobs number other
      → taken_by_each jobs' ≡ taken_by_each there.front ++ taken_by_each (other ∷ there.remaining)
  taken-put jobs' other put = ap taken_by_each (put ∙ there.put other) ∙ filter_map-append taken_by there.front (other ∷ there.remaining)

-- no steps are taken without jobs
none_taken_by : (count : ℕ) → taken_by_each (empty_slots count) ≡ []
none_taken_by zero = refl
none_taken_by (suc count) = none_taken_by count

-- a property of all members holds for a front and for the rest
parts_of : (P : ℕ → Type 0) (front rest : List ℕ) → All P (front ++ rest) → All P front × All P rest
parts_of P [] rest all = (All-nil P, all)
parts_of P (first ∷ front) rest all =
    let parts = parts_of P front rest (All-tail P first (front ++ rest) all) in
    (All-cons P first front (All-head P first (front ++ rest) all) parts.0, parts.1)

sum-around : (front rest : List ℕ) (one : ℕ) → sum (front ++ one ∷ rest) ≡ sum front + (one + sum rest)
sum-around front rest one =
    sum_by-append (λ x. x) front (one ∷ rest) ∙ ap (λ n. sum front + n) (sum_by-cons (λ x. x) one rest)

length-around : (front rest : List ℕ) (one : ℕ) → length (front ++ one ∷ rest) ≡ length front + (1 + length rest)
length-around front rest one = omega (arith, length-append front (one ∷ rest))

module _ (start steps steps' versions versions' audits : ℕ) (jobs jobs' : List (Option JobTally)) (more : versions ≤ versions')
    (so_far : RunSum start steps versions audits jobs) where
  abbrev taken : List ℕ
  taken = taken_by_each jobs

  abbrev taken' : List ℕ
  taken' = taken_by_each jobs'

  abbrev Within : ℕ → Type 0
  Within count = count ≤ versions'

  -- each open job has taken at most one step for each version, also of the longer history
  within_more : All Within taken
  within_more = All-weaker (λ count. count ≤ versions) Within (λ count within. omega (arith, within, more)) taken so_far.each

  -- audits, some of which may be over at once, that take this many steps
  summed : (asked counted over : ℕ) → over + length taken' ≡ so_far.over + asked + length taken
      → steps' ≤ start + versions' + versions' * over + sum taken' → asked ≡ counted → All Within taken'
      → RunSum start steps' versions' (audits + counted) jobs'
  summed asked counted over number within is each = record {
    over = over;
    number = omega (arith, number, is, so_far.number);
    within = within;
    each = each;
  }

  versions_more : versions * so_far.over ≤ versions' * so_far.over
  versions_more = mul-le-mul_right so_far.over more

  one_over : (over count : ℕ) → versions' * (over + count) ≡ versions' * over + versions' * count
  one_over over count = mul-add versions' over count

  none : (counted : ℕ) → steps' ≡ steps → taken' ≡ taken → RunSum start steps' versions' (audits + counted) jobs'
  none counted same kept =
      summed counted counted (so_far.over + counted)
      (omega (arith, ap (λ (l : List ℕ). length l) kept))
      (omega (arith, same, more, versions_more, one_over so_far.over counted, so_far.within, ap (λ (l : List ℕ). sum l) kept))
      refl (subst (λ (l : List ℕ). All Within l) (sym kept) within_more)

  once : (counted : ℕ) → 1 ≡ counted → steps' ≤ steps + versions → taken' ≡ taken → RunSum start steps' versions' (audits + counted) jobs'
  once counted is few kept =
      summed 1 counted (so_far.over + 1)
      (omega (arith, ap (λ (l : List ℕ). length l) kept))
      (omega (arith, few, more, versions_more, one_over so_far.over 1, so_far.within, ap (λ (l : List ℕ). sum l) kept))
      is (subst (λ (l : List ℕ). All Within l) (sym kept) within_more)

  module _ (front rest : List ℕ) where
    begun : (counted : ℕ) → 1 ≡ counted → steps' ≡ steps → taken ≡ front ++ rest → taken' ≡ front ++ 0 ∷ rest
        → RunSum start steps' versions' (audits + counted) jobs'
    begun counted is same before after =
        let parts = parts_of Within front rest (subst (λ (l : List ℕ). All Within l) before within_more) in
        summed 1 counted so_far.over
        (omega (arith, ap (λ (l : List ℕ). length l) before, ap (λ (l : List ℕ). length l) after, length-append front rest, length-around front rest 0))
        (omega (arith, same, more, versions_more, so_far.within, ap (λ (l : List ℕ). sum l) before, ap (λ (l : List ℕ). sum l) after, sum_by-append (λ x. x) front rest, sum-around front rest 0))
        is
        (subst (λ (l : List ℕ). All Within l) (sym after)
        (All-append Within front (0 ∷ rest) parts.0 (All-cons Within 0 rest (omega arith) parts.1)))

    module _ (had : ℕ) (before : taken ≡ front ++ had ∷ rest) where
      parts : All Within front × All Within (had ∷ rest)
      parts = parts_of Within front (had ∷ rest) (subst (λ (l : List ℕ). All Within l) before within_more)

      stepped : (counted has : ℕ) → 0 ≡ counted → steps' + had ≡ steps + has → has ≤ versions → taken' ≡ front ++ has ∷ rest
          → RunSum start steps' versions' (audits + counted) jobs'
      stepped counted has is takes few after =
          summed 0 counted so_far.over
          (omega (arith, ap (λ (l : List ℕ). length l) before, ap (λ (l : List ℕ). length l) after, length-around front rest had, length-around front rest has))
          (omega (arith, takes, more, versions_more, so_far.within, ap (λ (l : List ℕ). sum l) before, ap (λ (l : List ℕ). sum l) after, sum-around front rest had, sum-around front rest has))
          is
          (subst (λ (l : List ℕ). All Within l) (sym after)
          (All-append Within front (has ∷ rest) parts.0 (All-cons Within has rest (omega (arith, few, more)) (All-tail Within had rest parts.1))))

      dropped : (counted : ℕ) → 0 ≡ counted → steps' ≡ steps → taken' ≡ front ++ rest
          → RunSum start steps' versions' (audits + counted) jobs'
      dropped counted is same after =
          let few : had ≤ versions' = All-head Within had rest parts.1 in
          summed 0 counted (so_far.over + 1)
          (omega (arith, ap (λ (l : List ℕ). length l) before, ap (λ (l : List ℕ). length l) after, length-append front rest, length-around front rest had))
          (omega (arith, same, few, more, versions_more, one_over so_far.over 1, so_far.within, ap (λ (l : List ℕ). sum l) before, ap (λ (l : List ℕ). sum l) after, sum_by-append (λ x. x) front rest, sum-around front rest had))
          is
          (subst (λ (l : List ℕ). All Within l) (sym after)
          (All-append Within front rest parts.0 (All-tail Within had rest parts.1)))

-- one more line, after which the history may be longer
pub RunSum-line : (command : Command) (reply : Txt) (start steps steps' versions versions' audits : ℕ) (jobs jobs' : List (Option JobTally)) → versions ≤ versions'
    → RunSum start steps versions audits jobs → Tallies command reply versions steps steps' jobs jobs'
    → RunSum start steps' versions' (audits + audits_of command) jobs'
RunSum-line command reply start steps steps' versions versions' audits jobs jobs' more so_far (none_taken same kept) =
    none start steps steps' versions versions' audits jobs jobs' more so_far (audits_of command) same (ap taken_by_each kept)
RunSum-line command reply start steps steps' versions versions' audits jobs jobs' more so_far (at_once looks few kept) =
    once start steps steps' versions versions' audits jobs jobs' more so_far (audits_of command) (sym (looks_once (looks_back command) (begins_job command) looks)) few (ap taken_by_each kept)
RunSum-line command reply start steps steps' versions versions' audits jobs jobs' more so_far (job_begun number begins same free put) =
    let there : StandsAt jobs number None = free_stands jobs number free in
    begun start steps steps' versions versions' audits jobs jobs' more so_far (taken_by_each there.front) (taken_by_each there.remaining)
    (audits_of command) (sym (begins_once (looks_back command) (begins_job command) begins)) same
    (taken-parted jobs number None there) (taken-put jobs number None there jobs' (Some first_tally) put)
RunSum-line command reply start steps steps' versions versions' audits jobs jobs' more so_far (job_stepped number before after on console is put rises) =
    let there : StandsAt jobs number (Some before) = held_stands jobs number before is in
    stepped start steps steps' versions versions' audits jobs jobs' more so_far (taken_by_each there.front) (taken_by_each there.remaining)
    before.taken (taken-parted jobs number (Some before) there) (audits_of command) after.taken (sym (stepped_none command number on))
    rises.takes rises.few (taken-put jobs number (Some before) there jobs' (Some after) put)
RunSum-line command reply start steps steps' versions versions' audits jobs jobs' more so_far (job_dropped number before drops same is put) =
    let there : StandsAt jobs number (Some before) = held_stands jobs number before is in
    dropped start steps steps' versions versions' audits jobs jobs' more so_far (taken_by_each there.front) (taken_by_each there.remaining)
    before.taken (taken-parted jobs number (Some before) there) (audits_of command) (sym (dropped_none command number drops))
    same (taken-put jobs number (Some before) there jobs' None put)

-- loading takes one step for each version
pub RunSum-start : (start steps versions count : ℕ) → steps ≡ start + versions → RunSum start steps versions 0 (empty_slots count)
RunSum-start start steps versions count loaded = record {
  over = 0;
  number = ap (λ (taken : List ℕ). 0 + length taken) (sym (none_taken_by count));
  within = omega (arith, loaded);
  each = subst (λ (taken : List ℕ). All (λ one. one ≤ versions) taken) (sym (none_taken_by count)) (All-nil (λ one. one ≤ versions));
}

-- a run reads the history that is kept once, and once more for each audit that was asked for
pub RunSum-end : (start steps versions audits : ℕ) (jobs : List (Option JobTally)) → RunSum start steps versions audits jobs → steps ≤ start + versions * (1 + audits)
RunSum-end start steps versions audits jobs so_far =
    let taken : List ℕ = taken_by_each jobs in
    let open_ones : sum taken ≤ length taken * versions = sum_by-le (λ x. x) versions taken so_far.each in
    let asked : versions * audits ≡ versions * so_far.over + versions * length taken = ap (λ n. versions * n) so_far.number ∙ mul-add versions so_far.over (length taken) in
    omega (arith, so_far.within, open_ones, asked, mul_comm (length taken) versions, mul-add versions 1 audits)
