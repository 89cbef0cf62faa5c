-- What a keeper in memory is, and what each call does to it.
use Rattle.std.specs.Prelude.{◌≡◌, ℕ, ◌≤◌, Bool, true, not, ◌&&◌, ◌==◌, List, [], ◌∷◌, ◌++◌, find, Option, option_map, is_some, Result, IfOk, if◌then◌else◌, ⊤}
use Rattle.std.specs.Option.{option_map_or}
use Rattle.hippo_io.specs.Faults.{next_count}
use Rattle.hippo_model.specs.declared.stored.StoredEntry.{StoredEntry}
use Rattle.hippo_keeper.specs.Answering.{has_failed, is_out_of_memory}
use Rattle.hippo_keeper.specs.Keeping.{Store, Survivors, KeeperState}
use Rattle.hippo_keeper.specs.Selecting.{IsHandedOver}
use Rattle.hippo_keeper.specs.Standings.{new_standing, after_answer, after_start}
use Rattle.hippo_keeper.specs.declared.calls.KeeperCalls.{KeeperCalls}
use Rattle.hippo_keeper.specs.declared.faults.KeeperFail.{KeeperFail}
use Rattle.hippo_keeper.specs.declared.faults.KeeperFault.{KeeperFault}

pub record MemoryStore : Type 0 where
  pub kept : Store
  pub calls : KeeperCalls

-- no call was made, and the calls with these numbers, counted from 1, are to fail
abbrev pub no_calls : List KeeperFail → KeeperCalls
no_calls failing = record { failing = failing; made = 0; standing = new_standing }

-- a keeper with these entries on which no call was made
abbrev pub new_store : Store → List KeeperFail → MemoryStore
new_store kept failing = record { kept = kept; calls = no_calls failing }

-- whether the next call is to fail, and if so, whether a failing append keeps its entry
abbrev pub next_failure : KeeperCalls → Option Bool
next_failure calls = option_map (λ fail. fail.keeps) (find
    (λ fail. fail.call == next_count calls.made) calls.failing)

-- one more call is counted, before it is answered
abbrev pub one_more_call : KeeperCalls → KeeperCalls
one_more_call calls = record calls { made = next_count calls.made }

abbrev pub memory_after_call : MemoryStore → MemoryStore
memory_after_call store = record store { calls = one_more_call store.calls }

-- the keeper after a call with this answer
abbrev pub memory_after_answer : {A : Type 0} → Result A KeeperFault → MemoryStore → MemoryStore
memory_after_answer result store = record store {
  calls = record (one_more_call store.calls) {
    standing = after_answer result store.calls.standing;
  };
}

-- the keeper after a start with this answer
abbrev pub memory_after_start : {A : Type 0} → Result A KeeperFault → MemoryStore → MemoryStore
memory_after_start result store = record store {
  calls = record (one_more_call store.calls) {
    standing = after_start result store.calls.standing;
  };
}

-- the keeper with one more entry
abbrev pub with_entry : StoredEntry → MemoryStore → MemoryStore
with_entry entry store = record store { kept = store.kept ++ entry ∷ [] }

-- the stored list after an append: it has the new entry, unless the call was to fail without it or
-- ran out of memory for it
abbrev pub kept_after : {A : Type 0} → Result A KeeperFault → StoredEntry → MemoryStore → Store
kept_after result entry store =
    if option_map_or (λ keeps. keeps) (next_failure store.calls) true
    && not (is_out_of_memory result)
    then store.kept ++ entry ∷ [] else store.kept

-- the keeper after an append with this answer
abbrev pub memory_after_append : {A : Type 0} → Result A KeeperFault → StoredEntry → MemoryStore
    → MemoryStore
memory_after_append result entry store =
    record (memory_after_answer result store) { kept = kept_after result entry store }

-- what a read does: it fails exactly when the call is to fail, changes nothing that is stored, and
-- answers what was asked for
pub record ReadsInMemory (test : StoredEntry → Bool) (after max : ℕ)
    (result : Result Store KeeperFault)
    (old new : MemoryStore) : Type 0 where
  pub store : new ≡ memory_after_answer result old
  pub fails : has_failed result ≡ is_some (next_failure old.calls)
  pub faults : old.calls.standing.faults ≤ new.calls.standing.faults
  pub read : IfOk result (IsHandedOver ⊤ test after max old.kept)

-- what a start finds under any name, and what survives a stop: the stored list
abbrev pub FindsInMemory : MemoryStore → List ℕ → Store → Type 0
FindsInMemory keeper name store = store ≡ keeper.kept

abbrev pub SurvivesInMemory : MemoryStore → Survivors
SurvivesInMemory keeper store = store ≡ keeper.kept

-- the keeper as contracts see it
abbrev pub memory_keeper_state : MemoryStore → KeeperState
memory_keeper_state keeper = record {
  tells = ⊤;
  kept = keeper.kept;
  started = keeper.calls.standing.started;
  closed = keeper.calls.standing.closed;
  spent = keeper.calls.standing.spent;
  survives = SurvivesInMemory keeper;
  finds = FindsInMemory keeper;
  clean = ⊤;
  own = ⊤;
  in_memory = ⊤;
  finds_own = λ name. ⊤;
  faults = keeper.calls.standing.faults;
  sound = ⊤;
}
