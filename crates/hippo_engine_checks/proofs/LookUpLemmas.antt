-- From reading the entry with a number to looking up the question with it.
use Rattle.std.proofs.Common.{◌≡◌, ◌∙◌, ◌≤◌, ◌+◌, ℕ, ℤ, pos, refl, sym, ap, subst, arith, Bool, true, false, length, Option, None, Result, Ok, Err}
use Rattle.std.specs.Prelude.{◌-◌}
use Rattle.std.specs.Bool.{then_some}
use Rattle.hippo_model.specs.declared.entry.Entry.{Entry}
use Rattle.hippo_model.specs.Terms.{History}
use Rattle.hippo_model_laws.proofs.ValidFronts.{entry_has_its_number}
use Rattle.hippo_keeper.specs.Answering.{has_failed}
use Rattle.hippo_keeper.specs.Keeping.{KeeperState, IsReady}
use Rattle.hippo_keeper.proofs.CallLemmas.{KeepsSame-here, IsAfterCall-none, IsAfterCall-as}
use Rattle.hippo_typing.specs.Meanings.{meaning}
use Rattle.hippo_backlog.specs.Calls as reads
use Rattle.hippo_backlog.specs.declared.faults.ReadFault.{ReadFault}
use Rattle.hippo_backlog.specs.declared.faults.ReadFault.TheVariants.{Keeper, Damaged, Memory}
use Rattle.hippo_replay.specs.declared.state.State.{State}
use Rattle.hippo_replay.specs.Standing.{Represents}
use Rattle.hippo_engine_checks.specs.Checks.{question_at}
use Rattle.hippo_model.specs.HandedOver.{is_question}
use Rattle.hippo_engine_checks.specs.Entries.{number_within, HasReadEntry, ReadsEntry}
use Rattle.hippo_engine_checks.specs.Findings.{HasLookedUp, LooksUp}
use Rattle.hippo_engine_checks.proofs.EntryLemmas.{err_of, IsNumber, question_is, no_question}

abbrev found_as : Option Entry → Result (Option Entry) ReadFault
found_as entry = Ok entry

-- no entry has this number
pub missing_looks : (number : ℤ) (held : State) (keeper : KeeperState) (steps : ℕ) → IsReady true keeper → number_within number held.count ≡ None → LooksUp number (Ok None) held keeper keeper steps steps
missing_looks number held keeper steps ready none = record {
  call = IsAfterCall-none (reads.reading_as_call (found_as None)) keeper refl ready;
  stays = λ tells. KeepsSame-here keeper;
  told = λ tells history forms stands. record {
    is = no_question history number stands.valid (ap (number_within number) (sym stands.count) ∙ none);
    there = tt;
    undamaged = λ other e. absurd cc;
    few = omega arith;
    idle = tt;
  };
}

module _ (number : ℤ) (held : State) (place : ℕ) (in_range : IsNumber number held.count place) (before between : KeeperState) (steps steps' : ℕ) where
  at_most : (history : History) → Represents held history → place ≤ length history
  at_most history stands = omega (arith, in_range.to, stands.count)

  back : 1 ≤ place → (place - 1) + 1 ≡ place
  back from = omega (arith, from)

  -- the entry was read; it is a question or not
  by_asking : (history : History) (entry : Entry) → HasReadEntry history place (Ok entry) steps steps' → (asks : Bool) → is_question entry.act ≡ asks
      → question_at history number ≡ then_some asks entry → HasLookedUp history number (Ok (then_some asks entry)) steps steps'
  by_asking history entry was true asks is = record { is = is; there = (place - 1, was.entry_is); undamaged = λ other e. absurd cc; few = was.few; idle = was.idle asks }
  by_asking history entry was false asks is = record { is = is; there = tt; undamaged = λ other e. absurd cc; few = was.few; idle = tt }

  pub read_looks : (entry : Entry) → ReadsEntry place (Ok entry) before between steps steps' → LooksUp number (Ok (then_some (is_question entry.act) entry)) held before between steps steps'
  read_looks entry read = record {
    call = read.call;
    stays = read.stays;
    told = λ tells history forms stands.
        let was : HasReadEntry history place (Ok entry) steps steps' = read.told tells held history forms stands (at_most history stands) in
        let numbered : pos entry.seq ≡ number = ap pos (entry_has_its_number meaning history stands.valid (place - 1) entry was.entry_is ∙ back in_range.from) ∙ sym in_range.same in
        let is : question_at history number ≡ then_some (is_question entry.act) entry =
        subst (λ (n : ℤ). question_at history n ≡ then_some (is_question entry.act) entry) numbered (question_is history stands.valid (place - 1) entry was.entry_is) in
        by_asking history entry was (is_question entry.act) refl is;
  }

  -- the entry was not read
  pub unread_looks : (fault : ReadFault) → ReadsEntry place (Err fault) before between steps steps' → LooksUp number (Err fault) held before between steps steps'
  unread_looks fault read = record {
    call = IsAfterCall-as true false (reads.reading_as_call (err_of Entry fault)) (reads.reading_as_call (err_of (Option Entry) fault)) before between (same_call fault) read.call;
    stays = read.stays;
    told = λ tells history forms stands.
        let was = read.told tells held history forms stands (at_most history stands) in
        record { is = tt; there = tt; undamaged = still fault was.undamaged; few = was.few; idle = tt };
  }
    where
      same_call : (fault : ReadFault) → has_failed (reads.reading_as_call (err_of (Option Entry) fault)) ≡ has_failed (reads.reading_as_call (err_of Entry fault))
      same_call Keeper = refl
      same_call (Damaged number) = refl
      same_call Memory = refl

      still : (fault : ReadFault) → ((other : ℕ) → err_of Entry fault ≡ Err (Damaged other) → ⊥) → (other : ℕ) → err_of (Option Entry) fault ≡ Err (Damaged other) → ⊥
      still Keeper undamaged other e = absurd cc
      still (Damaged number) undamaged other e = undamaged number refl
      still Memory undamaged other e = absurd cc
