-- The result of storing an entry, and of taking it in.
use Rattle.std.proofs.Common.{◌≡◌, ◌∙◌, sym, ap, refl, subst, ◌+◌, Bool, true, false, ◌&&◌, [], ◌∷◌, ◌++◌, length, Result, Ok, Err, OnOk}
use Rattle.std.specs.Prelude.{◌==◌}
use Rattle.std.proofs.lemmas.Bool.{and_parts, false≢true}
use Rattle.std.proofs.lemmas.List.{map-append}
use Rattle.std.proofs.lemmas.Result.{on_ok_weaker}
use Rattle.hippo_model.specs.declared.entry.Act.{Act}
use Rattle.hippo_model.specs.declared.entry.Act.TheVariants.{Delete}
use Rattle.hippo_model.specs.declared.entry.Entry.{Entry}
use Rattle.hippo_model.specs.declared.stored.StoredEntry.{StoredEntry}
use Rattle.hippo_model.specs.Terms.{History}
use Rattle.hippo_model.specs.Keepable.{is_keepable}
use Rattle.hippo_model.specs.StoredForms.{stored}
use Rattle.hippo_model.specs.Validity.{keeps_order, is_acceptable, may_follow}
use Rattle.hippo_model_laws.proofs.ValidFronts.{next_number}
use Rattle.hippo_tables.specs.Standing.{is_delete}
use Rattle.hippo_keeper.specs.declared.faults.KeeperFault.{KeeperFault}
use Rattle.hippo_keeper.specs.declared.faults.KeeperFault.TheVariants.{Failed, Memory}
use Rattle.hippo_keeper.specs.Answering.{has_failed, is_out_of_memory}
use Rattle.hippo_keeper.specs.Keeping.{Store, next_number as next_kept, KeeperState, IsReady, AppendsEntry}
use Rattle.hippo_typing.specs.Meanings.{meaning}
use Rattle.hippo_replay.specs.declared.state.State.{State}
use Rattle.hippo_replay.specs.Standing.{Represents, IsSound, MayFollow, IsNext, takes_no_memory, Remembers}
use Rattle.hippo_replay.specs.TakingIn.{HasLoaded}
use Rattle.hippo_replay.specs.Recording.{MayKeep, MayAppend, KeepsEntry, Records}
use Rattle.hippo_replay.proofs.KeeperLemmas.{next_kept-stored}
use Rattle.hippo_keeper.proofs.CallLemmas.{KeepsSame-here, KeepsSame-Stays, IsAfterCall-as, IsAfterCall-none}
use Rattle.hippo_keeper.proofs.Results.{err_of, well}

-- an act that takes memory is not a Delete
pub is_delete-room : (act : Act) → takes_no_memory act ≡ false → is_delete act ≡ false
is_delete-room (Delete table key) is = is
is_delete-room act is = refl

-- the answer when out of memory
abbrev pub short : Result (Unit {0}) KeeperFault
short = Err Memory

module _ (entry : Entry) where
  -- an entry that may follow can be stored
  pub keepable_next : (state : State) → IsSound state → MayFollow state entry → is_keepable entry ≡ true
  keepable_next state sound follows =
      let numbered : Bool = is_keepable entry && entry.seq == length sound.history + 1 in
      let ordered = and_parts (numbered && keeps_order sound.history entry.moment) (is_acceptable meaning sound.history entry.act) (follows sound.history sound.stands) in
      let first = and_parts numbered (keeps_order sound.history entry.moment) ordered.0 in
      (and_parts (is_keepable entry) (entry.seq == length sound.history + 1) first.0).0

  -- it has the number that its keeper expects
  pub number_next : (state : State) (keeper : KeeperState) → MayFollow state entry → (keeper.tells → HasLoaded state keeper.kept) → keeper.tells → entry.seq ≡ next_kept keeper.kept
  number_next state keeper follows told tells =
      let loaded = told tells in
      next_number meaning loaded.history entry (follows loaded.history loaded.stands)
      ∙ sym (ap next_kept (sym loaded.forms) ∙ next_kept-stored meaning loaded.history loaded.stands.valid)

  pub IsNext-sound : (state : State) → IsSound state → MayFollow state entry → IsNext state entry
  IsNext-sound state sound follows = record { history = sound.history; stands = sound.stands; follows = follows sound.history sound.stands }

  -- what may be stored may be appended
  pub MayAppend-kept : (state : State) (keeper : KeeperState) → MayKeep entry state keeper → MayAppend entry keeper
  MayAppend-kept state keeper may = record {
    keepable = keepable_next state may.backed.sound may.follows;
    ready = may.backed.ready;
    number = may.number;
    next = number_next state keeper may.follows may.backed.told;
  }

  -- the entry was given to the keeper
  pub KeepsEntry-AppendsEntry : (kept : StoredEntry) (result : Result (Unit {0}) KeeperFault) (state : State) (before after : KeeperState) → kept ≡ stored entry → AppendsEntry kept result before after → MayFollow state entry → KeepsEntry entry result state before after
  KeepsEntry-AppendsEntry kept result state before after form appended follows =
      let appends : AppendsEntry (stored entry) result before after = subst (λ (k : StoredEntry). AppendsEntry k result before after) form appended in
      record {
        call = appends.call;
        follows = λ answered. follows;
        kept = on_ok_weaker result (λ more tells. ((more tells).longer, (more tells).stop)) appends.ok;
        failed = λ failed tells. appends.failed failed tells;
        same = λ memory tells. KeepsSame-Stays before after (appends.memory memory tells);
      }

  -- the entry was not given to the keeper, because memory ran out
  pub KeepsEntry-short : (state : State) (keeper : KeeperState) → IsReady true keeper → KeepsEntry entry short state keeper keeper
  KeepsEntry-short state keeper ready = record {
    call = IsAfterCall-as true false (well KeeperFault) short keeper keeper refl (IsAfterCall-none (well KeeperFault) keeper refl ready);
    follows = λ answered. absurd (false≢true (sym answered));
    kept = tt;
    failed = λ failed. absurd (false≢true failed);
    same = λ memory tells. KeepsSame-here keeper;
  }

  -- the entry was stored, and then taken in
  pub Records-added : (old new : State) (before after : KeeperState) → KeepsEntry entry (well KeeperFault) old before after → ((history : History) → Represents old history → may_follow meaning history entry ≡ true → Represents new (history ++ entry ∷ [])) → Records entry (well KeeperFault) old new before after
  Records-added old new before after keeps added = record {
    keeps = keeps;
    ok = λ history stands. added history stands (keeps.follows refl history stands);
    memory = λ memory. absurd (false≢true memory);
  }

  -- the entry was not stored, and is not taken in
  pub Records-unkept : (fault : KeeperFault) (state : State) (before after : KeeperState) → KeepsEntry entry (err_of (Unit {0}) fault) state before after → Records entry (err_of (Unit {0}) fault) state state before after
  Records-unkept fault state before after keeps = record { keeps = keeps; ok = tt; memory = λ memory history stands. stands }

  -- the entry was not taken in
  pub Records-short : (old new : State) (keeper : KeeperState) → IsReady true keeper → ((history : History) → Represents old history → Represents new history) → Records entry short old new keeper keeper
  Records-short old new keeper ready same = record { keeps = KeepsEntry-short old keeper ready; ok = tt; memory = λ memory. same }

  -- the entry was taken in, and then stored or taken back
  pub Records-kept : (result : Result (Unit {0}) KeeperFault) (old mid new : State) (before after : KeeperState) → KeepsEntry entry result old before after → ((history : History) → Represents old history → Remembers mid history entry) → OnOk result (new ≡ mid) → (is_out_of_memory result ≡ true → (history : History) → Remembers mid history entry → Represents new history) → Records entry result old new before after
  Records-kept result old mid new before after keeps remembers kept back = record {
    keeps = keeps;
    ok = on_ok_weaker result (λ same history stands. subst (λ (state : State). Represents state (history ++ entry ∷ [])) (sym same) (remembers history stands).stands) kept;
    memory = λ memory history stands. back memory history (remembers history stands);
  }

  -- the state is sound again, unless the keeper failed
  pub IsSound-after : (result : Result (Unit {0}) KeeperFault) (old new : State) (before after : KeeperState) → IsSound old → Records entry result old new before after → has_failed result ≡ false → IsSound new
  IsSound-after (Ok value) old new before after sound records good = record { history = sound.history ++ entry ∷ []; stands = records.ok sound.history sound.stands }
  IsSound-after (Err Failed) old new before after sound records good = absurd (false≢true (sym good))
  IsSound-after (Err Memory) old new before after sound records good = record { history = sound.history; stands = records.memory refl sound.history sound.stands }

  -- if the store's contents are known, the state has loaded them
  pub HasLoaded-after : (result : Result (Unit {0}) KeeperFault) (old new : State) (before after : KeeperState) → Records entry result old new before after → (before.tells → HasLoaded old before.kept) → has_failed result ≡ false → after.tells → HasLoaded new after.kept
  HasLoaded-after (Ok value) old new before after records told good tells =
      let loaded = told (records.keeps.call.told tells) in
      record {
        history = loaded.history ++ entry ∷ [];
        forms = map-append stored loaded.history (entry ∷ []) ∙ ap (λ (store : Store). store ++ stored entry ∷ []) loaded.forms ∙ sym (records.keeps.kept tells).0;
        stands = records.ok loaded.history loaded.stands;
      }
  HasLoaded-after (Err Failed) old new before after records told good tells = absurd (false≢true (sym good))
  HasLoaded-after (Err Memory) old new before after records told good tells =
      let loaded = told (records.keeps.call.told tells) in
      record {
        history = loaded.history;
        forms = loaded.forms ∙ sym (records.keeps.same refl tells).same;
        stands = records.memory refl loaded.history loaded.stands;
      }
