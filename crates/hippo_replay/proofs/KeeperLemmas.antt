-- What a keeper stores, from one call to the next.
use Rattle.std.proofs.Common.{◌≡◌, ◌∙◌, sym, ap, refl, arith, subst, ℕ, zero, suc, ◌+◌, ◌<◌, ◌≤◌, true, false, [], ◌∷◌, ◌++◌, map, length, take, filter, nat_lt, length-append}
use mathlib.Core.Logic.{∥∥₁_map}
use Rattle.std.proofs.lemmas.Bool.Decides.{nat_tests}
use Rattle.std.proofs.lemmas.List.{map-append}
use Rattle.hippo_model.specs.declared.entry.Entry.{Entry}
use Rattle.hippo_model.specs.Terms.{History, Meaning}
use Rattle.hippo_model.specs.StoredForms.{stored}
use Rattle.hippo_model.specs.Validity.{is_valid}
use Rattle.hippo_model_laws.proofs.ValidFronts.{holds_of_each_valid, next_number}
use Rattle.hippo_keeper.specs.Keeping.{Store, Survivors, RisesAbove, last_number, next_number as next_kept, KeeperState, HasFound, KeepsSame}
use Rattle.hippo_keeper.specs.Selecting.{is_any, selected_entries}
use Rattle.hippo_keeper.proofs.RisingLemmas.{next_number-append}
use Rattle.hippo_replay.specs.Loading.{KeepsFound}

-- the number of the next entry after the stored forms of a valid history
pub next_kept-stored : (meaning : Meaning) (history : History) → is_valid meaning history ≡ true → next_kept (map stored history) ≡ length history + 1
next_kept-stored meaning history valid =
    holds_of_each_valid meaning (λ h. next_kept (map stored h) ≡ length h + 1)
    (λ h entry good so_far may.
    ap next_kept (map-append stored h (entry ∷ [])) ∙ next_number-append (map stored h) (stored entry) ∙ ap (λ n. n + 1) (next_number meaning h entry may ∙ longer h entry))
    refl history valid
  where
    longer : (h : History) (entry : Entry) → length h + 1 ≡ length (h ++ entry ∷ [])
    longer h entry = omega (arith, length-append h (entry ∷ []))

below_is : (low number : ℕ) → low < number → nat_lt low number ≡ true
below_is low number below = grind (arith, nat_tests)

not_below : (last number : ℕ) → number ≤ last → nat_lt last number ≡ false
not_below last number within = grind (arith, nat_tests)

-- entries whose numbers rise from above a number are all above it
all_above : (number low : ℕ) (entries : Store) → low ≤ number → RisesAbove number entries → filter (λ e. nat_lt low e.seq) entries ≡ entries
all_above number low [] le rises = refl
all_above number low (entry ∷ rest) le rises =
    let above : number < entry.seq = rises.0 in
    let passes = below_is low entry.seq (omega arith) in
    rw passes (ap (λ later. entry ∷ later) (all_above entry.seq low rest (omega arith) rises.1))

-- no entry is above the last one
last_above : (number : ℕ) (entries rest : Store) → RisesAbove number (entries ++ rest) → number ≤ last_number number entries
last_above number [] rest rises = omega arith
last_above number (entry ∷ entries) rest rises =
    let above : number < entry.seq = rises.0 in
    let later = last_above entry.seq entries rest rises.1 in
    omega arith

-- the entries above the last number of a prefix are the entries after the prefix
pub entries_after : (number last : ℕ) (front rest : Store) → last_number number front ≡ last → RisesAbove number (front ++ rest) → filter (λ e. nat_lt last e.seq) (front ++ rest) ≡ rest
entries_after number last [] rest is rises = all_above number last rest (omega (arith, is)) rises
entries_after number last (entry ∷ front) rest is rises =
    let below = last_above entry.seq front rest rises.1 in
    let fails = not_below last entry.seq (omega arith) in
    rw fails (entries_after entry.seq last front rest is rises.1)

any : (entries : Store) → filter is_any entries ≡ entries
any [] = refl
any (entry ∷ rest) = ap (λ later. entry ∷ later) (any rest)

-- a read after a prefix returns the first entries of the rest
pub selected_entries-remaining : (max last : ℕ) (front rest : Store) → last_number 0 front ≡ last → RisesAbove 0 (front ++ rest) → selected_entries is_any last max (front ++ rest) ≡ take max rest
selected_entries-remaining max last front rest is rises = ap (take max) (any _ ∙ entries_after 0 last front rest is rises)

-- if nothing is returned, nothing is left
pub nothing_taken : (max : ℕ) (rest : Store) → 0 < max → take max rest ≡ [] → rest ≡ []
nothing_taken zero rest some none = absurd (omega arith)
nothing_taken (suc max) [] some none = refl
nothing_taken (suc max) (entry ∷ rest) some none = absurd cc

-- what a start found is stored, and only that survives
pub KeepsFound-after : (finds : Survivors) (started now : KeeperState) → HasFound finds started → KeepsSame started now → KeepsFound finds now
KeepsFound-after finds started now found keeps =
    let alone : (store : Store) → now.survives store → store ≡ now.kept = λ store survives. found.stop.alone store (keeps.stop store survives) ∙ sym keeps.same in
    record {
      found = subst finds (sym keeps.same) found.found;
      order = subst (λ (kept : Store). RisesAbove 0 kept) (sym keeps.same) found.order;
      alone = alone;
      survives_stop = still now alone (keeps.some ∣ (started.kept, found.stop.survives_stop) ∣₁);
    }
  where
    still : (now : KeeperState) → ((store : Store) → now.survives store → store ≡ now.kept) → ∥ ((store : Store) × now.survives store) ∥₁ → ∥ now.survives now.kept ∥₁
    still now alone some = ∥∥₁_map some (λ (store, survives). subst now.survives (alone store survives) survives)
