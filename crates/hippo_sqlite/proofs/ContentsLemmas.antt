-- What each statement does to the known contents of a connection.
use Rattle.std.proofs.Common.{◌≡◌, inl, inr, ℕ, ◌<◌, ◌^◌, List, [], map, false, cond, Ok, Err, Result, IfOk, IsTrue, refl, sym, ap, subst, ◌∙◌, arith}
use mathlib.Core.Logic.{∥∥₁_map}
use Rattle.sqlite_value.specs.Order.{Row}
use Rattle.sqlite_trees.specs.declared.store.Store as store
use Rattle.sqlite_trees.specs.Tree.{Trees}
use Rattle.sqlite_trees.specs.View.{IsClean}
use Rattle.sqlite_catalog.specs.Listing.{IsSound}
use Rattle.sqlite.specs.declared.error.Error.{Error}
use Rattle.sqlite.specs.Effect.{Database}
use Rattle.sqlite.specs.Listing.{understood}
use Rattle.sqlite.specs.State.{State, HasCleanDisk, Survives, Executes, CommitsBy, CommitsShowing, Opens, IsLive}
use Rattle.sqlite.specs.Held.{Held, state}
use Rattle.sqlite.proofs.Callers.{IsPlain, never_commits}
use Rattle.hippo_model.specs.declared.stored.StoredEntry.{StoredEntry}
use Rattle.hippo_keeper.specs.Answering.{has_failed}
use Rattle.hippo_keeper.specs.Keeping.{Store, RisesAbove, next_number}
use Rattle.hippo_keeper.specs.declared.faults.KeeperFault.{KeeperFault}
use Rattle.hippo_keeper.specs.declared.faults.KeeperFault.TheVariants.{Failed, Memory}
use Rattle.hippo_sqlite_table.specs.Tables.{values_of, row_of, stored_row, entries_in, history_schema}
use Rattle.hippo_sqlite.specs.Contents.{entries_of, HasHistory, StartsWell, Rests, Contents, connection_contents, OnlyKept, IsSame, MustTell, AppendsTo, LeavesContents}
use Rattle.hippo_sqlite.specs.Outcomes.{append_result, HasExecuted, HasLooked, IsLinked}
use Rattle.hippo_sqlite_table.specs.Queries.{create_sql, insert_sql}
use Rattle.hippo_sqlite_table.proofs.OrderLemmas.{entries_rise}
use Rattle.hippo_sqlite.proofs.StateLemmas.{IsLeft, IsNext, left_open, executes_left, executes_open, shown_open, shown_same, query_left, left_rests, appends, may_commit, may_append, prepares, kept_is, same_entries, starts_well}

abbrev ExecutesSome : List ℕ → Row → State → State → Result (Unit {0}) KeeperFault → Type 0
ExecutesSome text params old new result = (outcome : Result ℕ Error) × Executes text params old new outcome × (result ≡ append_result outcome)

abbrev done : Result (Unit {0}) KeeperFault
done = Ok tt

abbrev err_of : (A : Type 0) → KeeperFault → Result A KeeperFault
err_of A fault = Err fault

abbrev ok_of : {A : Type 0} → A → Result A KeeperFault
ok_of value = Ok value

ran_well : (text : List ℕ) (params : Row) (old new : State) (outcome : Result ℕ Error) → Executes text params old new outcome → ◌≡◌ {A = Result (Unit {0}) KeeperFault} (Ok tt) (append_result outcome) → (count : ℕ) × Executes text params old new (Ok count)
ran_well text params old new (Ok count) ran is = (count, ran)
ran_well text params old new (Err e) ran is = absurd cc

ran_badly : (text : List ℕ) (params : Row) (old new : State) (fault : KeeperFault) (outcome : Result ℕ Error) → Executes text params old new outcome → ◌≡◌ {A = Result (Unit {0}) KeeperFault} (Err fault) (append_result outcome) → IsLeft old new
ran_badly text params old new fault (Ok count) ran is = absurd cc
ran_badly text params old new fault (Err e) ran is = executes_left text params old new e ran

-- a connection on a clean disk tells, if what it opened started well
must_tell : {S : Type 0} (g : store.Ghosts S) (now told opened : Held S) → MustTell (connection_contents g now told opened)
must_tell g now told opened = record { over_disk = λ clean own. (clean.0, clean.1, own); over_memory = λ none. absurd none }

module _ {S : Type 0} (g : store.Ghosts S)
    (settled : (s : S) (trees : Trees) → IsTrue (g.view s).is_open → g.recovers s trees → trees ≡ (g.view s).committed)
    (stays : (s : S) → IsTrue (g.view s).is_open → g.recovers s (g.view s).committed)
    (something : (s : S) → IsClean (g.view s) → ∥ ((trees : Trees) × g.recovers s trees) ∥₁)
    (old new opened : Held S) where
  abbrev before : State
  before = state g old

  abbrev after : State
  after = state g new

  abbrev was : Contents
  was = connection_contents g old old opened

  -- the connection is at rest, if it is open and its contents are known
  abbrev RestsIf : State → Type 0
  RestsIf s = HasCleanDisk s → IsTrue s.is_open → StartsWell (state g opened).now → Rests s

  only_kept : IsTrue after.is_open → Rests after → OnlyKept (connection_contents g new new opened)
  only_kept is_open rests = record {
    survives_stop = (after.committed.trees, stays new.store is_open, (after.committed.schema, rests.sound, refl));
    alone = λ entries it.
        let same : it.0 ≡ after.committed.trees = settled new.store it.0 is_open it.1 in
        it.2.2 ∙ same_entries it.2.0 after.committed.schema it.0 it.2.1 (subst (IsSound after.committed.schema) (sym same) rests.sound) ∙ ap (entries_of after.committed.schema) same;
  }

  same_committed : IsTrue before.is_open → IsTrue after.is_open → Rests after → after.committed ≡ before.committed → IsSame was (connection_contents g new new opened)
  same_committed was_open is_open rests same = record {
    kept = ap (λ (db : Database). entries_of db.schema db.trees) same;
    stop = λ entries it.
        let there : it.0 ≡ before.committed.trees = settled new.store it.0 is_open it.1 ∙ ap (λ (db : Database). db.trees) same in
        (it.0, subst (g.recovers old.store) (sym there) (stays old.store was_open), it.2);
    some = ∣ (entries_of after.committed.schema after.committed.trees, (only_kept is_open rests).survives_stop) ∣₁;
  }

  -- after a read that failed, what was known before is still known
  same_as_told : IsTrue before.is_open → HasCleanDisk after → Rests before → ((trees : Trees) → after.may_leave trees → before.may_leave trees) → IsSame was (connection_contents g new old opened)
  same_as_told was_open clean rests crash = record {
    kept = refl;
    stop = λ entries it. (it.0, crash it.0 it.1, it.2);
    some = ∥∥₁_map (something new.store clean) (λ (trees, leaves).
        let there : trees ≡ before.committed.trees = settled old.store trees was_open (crash trees leaves) in
        (entries_of before.committed.schema trees, (trees, leaves, (before.committed.schema, subst (IsSound before.committed.schema) (sym there) rests.sound, refl))));
  }

  -- ---- an append

  module _ (entry : StoredEntry) (rests : RestsIf before) (next : was.tells → IsNext entry before.committed)
      (survives : Survives before after (CommitsBy insert_sql (values_of (row_of entry)) before)) where
    early : HasCleanDisk after → HasCleanDisk before
    early clean = let falls = survives.clean in omega (arith, clean)

    appends_well : (HasCleanDisk after → (count : ℕ) × Executes insert_sql (values_of (row_of entry)) before after (Ok count)) → AppendsTo entry done was (connection_contents g new new opened)
    appends_well ran =
        let was_open = λ (clean : HasCleanDisk after). executes_open insert_sql (values_of (row_of entry)) before after (Ok (ran clean).0) (ran clean).1 in
        let made = λ (clean : HasCleanDisk after) (is_open : IsTrue after.is_open) (well : StartsWell (state g opened).now).
        appends before after (ran clean).0 entry (rests (early clean) (was_open clean is_open) well) (next (early clean, was_open clean is_open, well)) (ran clean).1 in
        record {
          on = record {
            told = λ t. (early t.0, was_open t.0 t.1, t.2);
            rests = λ _. (refl, λ clean is_open well. (made clean is_open well).0);
            clean = λ t. (early t.0, was_open t.0 t.1);
            own = λ own. own;
            memory = λ memory. memory;
            must = must_tell g new new opened;
          };
          longer = λ t. (made t.0 t.1 t.2).1;
          only = λ t. only_kept t.1 (made t.0 t.1 t.2).0;
          kept = λ failed. absurd cc;
          stop = λ failed. absurd cc;
          some = λ failed. absurd cc;
          memory = λ short. absurd cc;
        }

    -- a stop during an append that failed leaves some list of entries
    left_by_stop : HasCleanDisk after × IsTrue before.is_open × StartsWell (state g opened).now → (trees : Trees) → after.may_leave trees
        → (entries : Store) × (connection_contents g new old opened).survives entries
    left_by_stop t trees leaves =
        let rested = rests (early t.0) t.1 t.2 in
        elim (survives.crash t.0 trees leaves) [
          | inl left ↦
              let there : trees ≡ before.committed.trees = settled old.store trees t.1 left in
              (entries_of before.committed.schema trees, (trees, leaves, (before.committed.schema, subst (IsSound before.committed.schema) (sym there) rested.sound, refl)))
          | inr commits ↦
              let made = may_commit before trees entry rested (next (early t.0, t.1, t.2)) commits in
              (entries_of made.0 trees, (trees, leaves, (made.0, made.1, refl)))
        ]

    appends_badly : AppendsTo entry (err_of (Unit {0}) Failed) was (connection_contents g new old opened)
    appends_badly = record {
      on = record {
        told = λ t. (early t.0, t.1, t.2);
        rests = λ other. absurd cc;
        clean = λ t. (early t.0, t.1);
        own = λ own. own;
        memory = λ memory. memory;
        must = must_tell g new old opened;
      };
      longer = tt;
      only = tt;
      kept = λ failed. refl;
      stop = λ failed t entries it. elim (survives.crash t.0 it.0 it.1) [
        | inl left ↦ inl (it.0, left, it.2)
        | inr commits ↦ inr (may_append before it.0 entry entries (rests (early t.0) t.1 t.2) (next (early t.0, t.1, t.2)) commits it.2)
      ];
      some = λ failed t. ∥∥₁_map (something new.store t.0) (λ (trees, leaves). left_by_stop t trees leaves);
      memory = λ short. absurd cc;
    }

    appends_nothing : (HasCleanDisk after → IsLeft before after) → AppendsTo entry (err_of (Unit {0}) Memory) was (connection_contents g new new opened)
    appends_nothing ran =
        let was_open = λ (clean : HasCleanDisk after). left_open before after (ran clean) in
        let made = λ (clean : HasCleanDisk after) (is_open : IsTrue after.is_open) (well : StartsWell (state g opened).now).
        left_rests before after (rests (early clean) (was_open clean is_open) well) (ran clean) is_open in
        record {
          on = record {
            told = λ t. (early t.0, was_open t.0 t.1, t.2);
            rests = λ _. (refl, λ clean is_open well. (made clean is_open well).0);
            clean = λ t. (early t.0, was_open t.0 t.1);
            own = λ own. own;
            memory = λ memory. memory;
            must = must_tell g new new opened;
          };
          longer = tt;
          only = tt;
          kept = λ failed. absurd cc;
          stop = λ failed. absurd cc;
          some = λ failed. absurd cc;
          memory = λ short t. same_committed (was_open t.0 t.1) t.1 (made t.0 t.1 t.2).0 (made t.0 t.1 t.2).1;
        }

    pub appends_to : (result : Result (Unit {0}) KeeperFault) (told : Held S) → (HasCleanDisk after → ExecutesSome insert_sql (values_of (row_of entry)) before after result)
        → told ≡ cond (has_failed result) old new → AppendsTo entry result was (connection_contents g new told opened)
    appends_to (Ok tt) told ran is = subst (λ t. AppendsTo entry done was (connection_contents g new t opened)) (sym is) (appends_well (λ clean. ran_well _ _ before after (ran clean).0 (ran clean).1 (ran clean).2))
    appends_to (Err Failed) told ran is = subst (λ t. AppendsTo entry (err_of (Unit {0}) Failed) was (connection_contents g new t opened)) (sym is) appends_badly
    appends_to (Err Memory) told ran is = subst (λ t. AppendsTo entry (err_of (Unit {0}) Memory) was (connection_contents g new t opened)) (sym is) (appends_nothing (λ clean. ran_badly _ _ before after Memory (ran clean).0 (ran clean).1 (ran clean).2))

  -- ---- a read

  module _ (text : List ℕ) (params : Row) (rests : RestsIf before) (plain : IsPlain (understood history_schema text))
      (survives : Survives before after (CommitsShowing text params before)) (looked : HasCleanDisk after → HasLooked text params before after) where
    looks_early : HasCleanDisk after → HasCleanDisk before
    looks_early clean = let falls = survives.clean in omega (arith, clean)

    plain_so : Rests before → IsPlain (understood before.now.schema text)
    plain_so it = subst (λ schema. IsPlain (understood schema text)) (sym (ap (λ (db : Database). db.schema) it.settled ∙ it.history.schema)) plain

    look_open : HasCleanDisk after → IsTrue after.is_open → IsTrue before.is_open
    look_open clean is_open = elim (looked clean) [
      | inl shown ↦ shown_open text params before after shown.0 shown.1 is_open
      | inr fails ↦ left_open before after (query_left text params before after fails.0 fails.1) is_open
    ]

    look_left : HasCleanDisk after → Rests before → IsLeft before after
    look_left clean it = elim (looked clean) [
      | inl shown ↦ inl (shown_same text params before after shown.0 (plain_so it) shown.1)
      | inr fails ↦ query_left text params before after fails.0 fails.1
    ]

    looks_on : {A : Type 0} (result : Result A KeeperFault) → has_failed result ≡ false → LeavesContents result was (connection_contents g new new opened)
    looks_on result other =
        let it = λ (clean : HasCleanDisk after) (is_open : IsTrue after.is_open) (well : StartsWell (state g opened).now). rests (looks_early clean) (look_open clean is_open) well in
        let made = λ (clean : HasCleanDisk after) (is_open : IsTrue after.is_open) (well : StartsWell (state g opened).now).
        left_rests before after (it clean is_open well) (look_left clean (it clean is_open well)) is_open in
        record {
          on = record {
            told = λ t. (looks_early t.0, look_open t.0 t.1, t.2);
            rests = λ _. (refl, λ clean is_open well. (made clean is_open well).0);
            clean = λ t. (looks_early t.0, look_open t.0 t.1);
            own = λ own. own;
            memory = λ memory. memory;
            must = must_tell g new new opened;
          };
          same = λ t. same_committed (look_open t.0 t.1) t.1 (made t.0 t.1 t.2).0 (made t.0 t.1 t.2).1;
        }

    looks_badly : (A : Type 0) → LeavesContents (err_of A Failed) was (connection_contents g new old opened)
    looks_badly A = record {
      on = record {
        told = λ t. (looks_early t.0, t.1, t.2);
        rests = λ other. absurd cc;
        clean = λ t. (looks_early t.0, t.1);
        own = λ own. own;
        memory = λ memory. memory;
        must = must_tell g new old opened;
      };
      same = λ t.
          let it = rests (looks_early t.0) t.1 t.2 in
          same_as_told t.1 t.0 it (λ trees leaves. elim (survives.crash t.0 trees leaves) [ inl left ↦ left | inr commits ↦ absurd (never_commits text params before trees (plain_so it) commits) ]);
    }

    pub looks_at : {A : Type 0} (result : Result A KeeperFault) (told : Held S) → told ≡ cond (has_failed result) old new → LeavesContents result was (connection_contents g new told opened)
    looks_at {A} (Ok value) told is = subst (λ t. LeavesContents (ok_of value) was (connection_contents g new t opened)) (sym is) (looks_on (ok_of value) refl)
    looks_at {A} (Err Failed) told is = subst (λ t. LeavesContents (err_of A Failed) was (connection_contents g new t opened)) (sym is) (looks_badly A)
    looks_at {A} (Err Memory) told is = subst (λ t. LeavesContents (err_of A Memory) was (connection_contents g new t opened)) (sym is) (looks_on (err_of A Memory) refl)

  -- ---- a start

  pub is_linked : Survives (state g opened) after (CommitsBy create_sql [] (state g opened)) → (HasCleanDisk (state g opened) → Opens (state g opened) × IsLive (state g opened))
      → (count : HasCleanDisk after → (n : ℕ) × Executes create_sql [] (state g opened) after (Ok n)) → IsLinked (state g opened) (connection_contents g new new opened)
  is_linked survives opens ran =
      let falls = λ (clean : HasCleanDisk after). (let low = survives.clean in let early : HasCleanDisk (state g opened) = omega (arith, clean) in early) in
      let made = λ (clean : HasCleanDisk after) (well : StartsWell (state g opened).now).
      let o = opens (falls clean) in
      prepares (state g opened) after (ran clean).0 well o.0.clean o.0.autocommit (o.1 o.0.is_open).1 (ran clean).1 in
      record {
        rests = (refl, λ clean is_open well. (made clean well).0);
        clean = λ t. falls t.0;
        found = λ t. let o = opens (falls t.0) in ((state g opened).committed.schema, (o.1 o.0.is_open).1, (made t.0 t.2).1);
        order = λ t. let it = (made t.0 t.2).0 in subst (RisesAbove 0) (sym (kept_is after.committed it.history)) (entries_rise it.history.rows it.history.order.rise);
        only = λ t. only_kept t.1 (made t.0 t.2).0;
        empty = λ t none. (made t.0 t.2).1 ∙ ap (λ schema. entries_of schema (state g opened).committed.trees) (ap (λ (db : Database). db.schema) (sym (opens (falls t.0)).0.clean) ∙ none);
        clean_disk = λ t. falls t.0;
        own = λ t held. let o = opens (falls t.0) in starts_well (state g opened).now (state g opened).committed o.0.clean (o.1 o.0.is_open).1 held;
        must = must_tell g new new opened;
      }

pub ok_weaker : {A E : Type 0} (result : Result A E) (P Q : A → Type 0) → ((value : A) → P value → Q value) → IfOk result P → IfOk result Q
ok_weaker (Ok value) P Q weaker it = weaker value it
ok_weaker (Err e) P Q weaker it = tt

-- ---- the same, from the last state that is known

module _ {S : Type 0} (g : store.Ghosts S)
    (settled : (s : S) (trees : Trees) → IsTrue (g.view s).is_open → g.recovers s trees → trees ≡ (g.view s).committed)
    (stays : (s : S) → IsTrue (g.view s).is_open → g.recovers s (g.view s).committed)
    (something : (s : S) → IsClean (g.view s) → ∥ ((trees : Trees) × g.recovers s trees) ∥₁)
    (old new opened told_before told : Held S) (rests : (connection_contents g old told_before opened).rests) where
  pub append_linked : (entry : StoredEntry) (result : Result (Unit {0}) KeeperFault)
      → ((connection_contents g old told_before opened).tells → entry.seq ≡ next_number (connection_contents g old told_before opened).kept) → entry.seq < 2 ^ 63 → entry.kind < 256
      → HasExecuted insert_sql (values_of (row_of entry)) result (state g old) (state g new) → told ≡ cond (has_failed result) told_before new
      → AppendsTo entry result (connection_contents g old told_before opened) (connection_contents g new told opened)
  append_linked entry result next low kind executed is =
      let next_is = subst (λ t. (connection_contents g old t opened).tells → entry.seq ≡ next_number (connection_contents g old t opened).kept) rests.0 next in
      subst (λ t. AppendsTo entry result (connection_contents g old t opened) (connection_contents g new told opened)) (sym rests.0)
      (appends_to g settled stays something old new opened entry rests.1 (λ tells. record { number = next_is tells; low = low; kind = kind }) executed.survives result told executed.ran
      (is ∙ ap (λ t. cond (has_failed result) t new) rests.0))

  pub look_linked : {A : Type 0} (text : List ℕ) (params : Row) (result : Result A KeeperFault) → IsPlain (understood history_schema text)
      → Survives (state g old) (state g new) (CommitsShowing text params (state g old)) → (HasCleanDisk (state g new) → HasLooked text params (state g old) (state g new))
      → told ≡ cond (has_failed result) told_before new → LeavesContents result (connection_contents g old told_before opened) (connection_contents g new told opened)
  look_linked text params result plain survives looked is =
      subst (λ t. LeavesContents result (connection_contents g old t opened) (connection_contents g new told opened)) (sym rests.0)
      (looks_at g settled stays something old new opened text params rests.1 plain survives looked result told (is ∙ ap (λ t. cond (has_failed result) t new) rests.0))

  -- the store is not queried at all
  pub look_away : {A : Type 0} (value : A) → LeavesContents (ok_of value) (connection_contents g old told_before opened) (connection_contents g old told_before opened)
  look_away value = record {
    on = record { told = λ t. t; rests = λ _. rests; clean = λ t. t; own = λ own. own; memory = λ memory. memory; must = must_tell g old told_before opened };
    same = λ t.
        let open_now = subst (λ (h : Held S). IsTrue (state g h).is_open) rests.0 t.1 in
        let only = only_kept g settled stays something old old opened open_now (rests.1 t.0 open_now t.2) in
        record { kept = refl; stop = λ entries it. it; some = ∣ ((connection_contents g old old opened).kept, only.survives_stop) ∣₁ };
  }

  -- the history that is read is the one that is known
  pub told_history : (connection_contents g old told_before opened).tells → (has : HasHistory (state g old).now) × ((connection_contents g old told_before opened).kept ≡ entries_in (map stored_row has.rows))
  told_history t =
      let open_now = subst (λ (h : Held S). IsTrue (state g h).is_open) rests.0 t.1 in
      let it = rests.1 t.0 open_now t.2 in
      let has = subst HasHistory (sym it.settled) it.history in
      (has, ap (λ (h : Held S). entries_of (state g h).committed.schema (state g h).committed.trees) rests.0 ∙ ap (λ (db : Database). entries_of db.schema db.trees) (sym it.settled) ∙ kept_is (state g old).now has)
