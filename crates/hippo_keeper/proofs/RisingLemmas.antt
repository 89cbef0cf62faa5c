-- Entries whose numbers rise.
use Rattle.std.proofs.Common.{◌≡◌, ℕ, zero, suc, ◌+◌, ◌<◌, ◌≤◌, Bool, true, false, List, [], ◌∷◌, ◌++◌, filter, take, nat_lt, refl, ap, arith, cond}
use Rattle.std.proofs.lemmas.Bool.Decides.{nat_tests}
use Rattle.hippo_model.specs.declared.stored.StoredEntry.{StoredEntry}
use Rattle.hippo_keeper.specs.Keeping.{RisesAbove, last_number, next_number}

-- an entry with a number above the last one
pub RisesAbove-append : (number : ℕ) (kept : List StoredEntry) (entry : StoredEntry) → RisesAbove number kept → last_number number kept < entry.seq → RisesAbove number (kept ++ entry ∷ [])
RisesAbove-append number [] entry rises above = (above, tt)
RisesAbove-append number (first ∷ rest) entry rises above = (rises.0, RisesAbove-append first.seq rest entry rises.1 above)

-- numbers that rise from above one rise from above a lower one
pub RisesAbove-lower : (low number : ℕ) (kept : List StoredEntry) → low ≤ number → RisesAbove number kept → RisesAbove low kept
RisesAbove-lower low number [] le rises = tt
RisesAbove-lower low number (entry ∷ rest) le rises = let below : number < entry.seq = rises.0 in (omega arith, rises.1)

filter-cases : (number : ℕ) (entry : StoredEntry) (rest : List StoredEntry) (pass : Bool) → number < entry.seq → RisesAbove entry.seq rest → RisesAbove number (cond pass (entry ∷ rest) rest)
filter-cases number entry rest true above rises = (above, rises)
filter-cases number entry rest false above rises = RisesAbove-lower number entry.seq rest (omega arith) rises

-- some of the entries
pub RisesAbove-filter : (test : StoredEntry → Bool) (number : ℕ) (kept : List StoredEntry) → RisesAbove number kept → RisesAbove number (filter test kept)
RisesAbove-filter test number [] rises = tt
RisesAbove-filter test number (entry ∷ rest) rises = filter-cases number entry (filter test rest) (test entry) rises.0 (RisesAbove-filter test entry.seq rest rises.1)

-- the first entries
pub RisesAbove-take : (max number : ℕ) (kept : List StoredEntry) → RisesAbove number kept → RisesAbove number (take max kept)
RisesAbove-take zero number kept rises = tt
RisesAbove-take (suc max) number [] rises = tt
RisesAbove-take (suc max) number (entry ∷ rest) rises = (rises.0, RisesAbove-take max entry.seq rest rises.1)

above-cases : (after : ℕ) (entry : StoredEntry) (rest : List StoredEntry) (pass : Bool) → nat_lt after entry.seq ≡ pass → RisesAbove entry.seq rest → RisesAbove after rest → RisesAbove after (cond pass (entry ∷ rest) rest)
above-cases after entry rest true is rises low = (grind (arith, nat_tests), rises)
above-cases after entry rest false is rises low = low

-- the entries above a number
pub RisesAbove-above : (after number : ℕ) (kept : List StoredEntry) → RisesAbove number kept → RisesAbove after (filter (λ entry. nat_lt after entry.seq) kept)
RisesAbove-above after number [] rises = tt
RisesAbove-above after number (entry ∷ rest) rises =
    above-cases after entry (filter (λ other. nat_lt after other.seq) rest) (nat_lt after entry.seq) refl
    (RisesAbove-filter (λ other. nat_lt after other.seq) entry.seq rest rises.1) (RisesAbove-above after entry.seq rest rises.1)

last_number-append : (number : ℕ) (kept : List StoredEntry) (entry : StoredEntry) → last_number number (kept ++ entry ∷ []) ≡ entry.seq
last_number-append number [] entry = refl
last_number-append number (first ∷ rest) entry = last_number-append first.seq rest entry

-- the last number is the highest
pub last_rises : (number : ℕ) (entries : List StoredEntry) → RisesAbove number entries → number ≤ last_number number entries
last_rises number [] rises = omega arith
last_rises number (entry ∷ rest) rises =
    let first : number < entry.seq = rises.0 in
    let later = last_rises entry.seq rest rises.1 in
    omega arith

-- the next number after one more entry
pub next_number-append : (kept : List StoredEntry) (entry : StoredEntry) → next_number (kept ++ entry ∷ []) ≡ entry.seq + 1
next_number-append kept entry = ap (λ number. number + 1) (last_number-append 0 kept entry)
