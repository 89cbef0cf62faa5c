-- Tables that are moved forward, call by call.
use Rattle.std.proofs.Common.{◌≡◌, ◌≢◌, ◌∙◌, sym, ap, refl, subst, arith, ℕ, zero, suc, ◌+◌, ◌<◌, ◌≤◌, Bool, true, false, cond, not, List, [], ◌∷◌, ◌++◌, map, length, Option, None, Some, option_map, Result, Ok, Err}
use Rattle.std.specs.Prelude.{slice_get, slice_set, slice_index_or, bytes_eq, is_some, OnOk, nat_eq}
use Rattle.std.specs.List.{IsDistinct, position_or_len}
use Rattle.std.proofs.lemmas.List.{map-append}
use Rattle.std.proofs.lemmas.List.Folds.{find_at, position_or_len_push}
use Rattle.std.proofs.lemmas.List.Sums.{passes_at_first, sum_by_push, prefix_len-le-length}
use Rattle.std.proofs.lemmas.Option.{slice_get-get_or, slice_get_past, get_or_from_slice_get, same_Some}
use Rattle.std.proofs.lemmas.Slice.Eq.{bytes_eq-Decides}
use Rattle.hippo_values.specs.declared.names.Name.{Name}
use Rattle.hippo_model.specs.declared.schema.Schema.{Schema}
use Rattle.hippo_model.specs.Terms.{History}
use Rattle.hippo_model.specs.Histories.{schema_at}
use Rattle.hippo_model.specs.Stores.{IsStoreOf}
use Rattle.hippo_model.specs.StoredForms.{stored}
use Rattle.hippo_keeper.specs.Answering.{has_failed}
use Rattle.hippo_keeper.specs.Keeping.{KeeperState, IsReady}
use Rattle.hippo_typing_catalog.specs.Catalogs.{KnownNames, table_of}
use Rattle.hippo_typing.specs.Meanings.{meaning}
use Rattle.hippo_typing.proofs.CatalogTheorem.{valid_names}
use Rattle.hippo_rewrite.proofs.FittingRows.{schema_named}
use Rattle.hippo_backlog.specs.declared.faults.ReadFault.{ReadFault}
use Rattle.hippo_backlog.specs.declared.faults.ReadFault.TheVariants.{Damaged}
use Rattle.hippo_backlog.specs.Calls.{reading_as_call}
use Rattle.hippo_keeper.proofs.CallLemmas.{KeepsSame-here, KeepsSame-then, IsAfterCall-none, IsAfterCall-then, IsAfterCall-as}
use Rattle.hippo_keeper.proofs.Results.{well}
use Rattle.hippo_intervals.specs.Living.{HeldLives, no_lives, taken_by, LivesFit, Advances}
use Rattle.hippo_intervals.proofs.LivesLemmas.{LivesFit-first}
use Rattle.hippo_audit_job.specs.declared.past.Past.{Past}
use Rattle.hippo_audit_job.specs.Examining.{IsPastOf}
use Rattle.hippo_combine.specs.Held.{lives_of, place_held, AreHeldAt, all_taken, TablesFit}
use Rattle.hippo_combine.specs.Bringing.{with_table, IsPlaceOf, AreHeldIfKnown, AdvancesTables}
use Rattle.hippo_combine.proofs.HeldLemmas.{all-set, all-push, all-at, sum-set, name_of, names-set, others-differ, apart-push, lives_of-set, held-set, held-push}

-- ---- the place of a table
module _ (table : Name) where
  abbrev has_name : HeldLives → Bool
  has_name lives = bytes_eq lives.schema.name table

  some_found : (found : Option HeldLives) (lives : HeldLives) → found ≡ Some lives → is_some found ≡ true
  some_found found lives is = ap is_some is

  none_found : (found : Option HeldLives) → found ≡ None → is_some found ≡ false
  none_found found is = ap is_some is

-- a table that stays the same
pub set_same : (tables : List HeldLives) (place : ℕ) (lives new : HeldLives) → slice_get tables place ≡ Some lives → new ≡ lives → slice_set tables place new ≡ tables
set_same [] zero lives new at same = absurd cc
set_same [] (suc place) lives new at same = absurd cc
set_same (first ∷ tables) zero lives new at same = ap (λ (l : HeldLives). l ∷ tables) (same ∙ sym (some_is at))
  where
    some_is : {a b : HeldLives} → Some a ≡ Some b → a ≡ b
    some_is e = cc
set_same (first ∷ tables) (suc place) lives new at same = ap (λ (l : List HeldLives). first ∷ l) (set_same tables place lives new at same)

module _ (schema : Schema) where
  abbrev first_place : List HeldLives → ℕ
  first_place tables = position_or_len (has_name schema.name) tables

  -- a table that is held
  pub IsPlaceOf-found : (tables : List HeldLives) (place : ℕ) → place ≡ first_place tables → place < length tables → (with_table schema tables ≡ tables) × IsPlaceOf schema.name place tables
  IsPlaceOf-found tables place is within =
      let any : HeldLives = no_lives schema in
      let found = find_at (has_name schema.name) tables ∙ ap (slice_get tables) (sym is) ∙ slice_get-get_or tables place any within in
      (ap (λ (there : Bool). cond there tables (tables ++ no_lives schema ∷ [])) (ap is_some found), record { first = is; within = within })

  -- a table that is not held is appended
  pub IsPlaceOf-new : (tables : List HeldLives) (place : ℕ) → place ≡ first_place tables → place ≡ length tables → (with_table schema tables ≡ tables ++ no_lives schema ∷ []) × IsPlaceOf schema.name place (tables ++ no_lives schema ∷ [])
  IsPlaceOf-new tables place is end =
      let missing = find_at (has_name schema.name) tables ∙ ap (slice_get tables) (sym is) ∙ slice_get_past tables place (omega (arith, end)) in
      let at_end : first_place tables ≡ length tables = sym is ∙ end in
      let named : bytes_eq schema.name schema.name ≡ true = (bytes_eq-Decides schema.name schema.name).1 refl in
      let longer = length-one_more tables in (
        ap (λ (there : Bool). cond there tables (tables ++ no_lives schema ∷ [])) (ap is_some missing),
        record {
          first = end ∙ sym (position_or_len_push (has_name schema.name) tables (no_lives schema) ∙ pushed (first_place tables) (length tables) at_end (bytes_eq schema.name schema.name) named);
          within = omega (arith, end, longer);
        },
      )
    where
      pushed : (first count : ℕ) → first ≡ count → (test : Bool) → test ≡ true → cond (nat_eq first count) (count + cond test 0 1) first ≡ count
      pushed first count is test passes = rw passes (elim (nat_eq first count) as (λ same. cond same (count + 0) first ≡ count) [
        | true ↦ omega arith
        | false ↦ is
      ])

      length-one_more : (xs : List HeldLives) → length (xs ++ no_lives schema ∷ []) ≡ length xs + 1
      length-one_more [] = refl
      length-one_more (x ∷ xs) = let rest = length-one_more xs in omega (arith, rest)

module _ (past : Past) (number : ℕ) where
  -- nothing is done
  pub AdvancesTables-none : {A : Type 0} (result : Result A ReadFault) (tables : List HeldLives) (keeper : KeeperState) (steps : ℕ) → has_failed (reading_as_call result) ≡ false → ((place : ℕ) → result ≢ Err (Damaged place)) → IsReady true keeper → AdvancesTables past number result tables tables keeper keeper steps steps
  AdvancesTables-none result tables keeper steps good whole ready = record {
    is_after = IsAfterCall-none (reading_as_call result) keeper good ready;
    stays = λ tells. KeepsSame-here keeper;
    up_to = λ within. within;
    held = λ names held. held;
    ledger = refl;
    told = λ tells history kept its fits. fits;
    undamaged = λ tells history kept its fits place. whole place;
  }

  -- a call after another that succeeded
  pub AdvancesTables-then : {A B : Type 0} (first : Result A ReadFault) (second : Result B ReadFault) (old mid new : List HeldLives) (before between after : KeeperState) (s0 s1 s2 : ℕ) → has_failed (reading_as_call first) ≡ false → AdvancesTables past number first old mid before between s0 s1 → AdvancesTables past number second mid new between after s1 s2 → AdvancesTables past number second old new before after s0 s2
  AdvancesTables-then first second old mid new before between after s0 s1 s2 good one other =
      let counted = one.ledger in
      let further = other.ledger in
      record {
        is_after = IsAfterCall-then false (reading_as_call first) (reading_as_call second) before between after good one.is_after other.is_after;
        stays = λ tells. KeepsSame-then before between after (one.stays (other.is_after.told tells)) (other.stays tells);
        up_to = λ within. other.up_to (one.up_to within);
        held = λ names held. other.held names (one.held names held);
        ledger = omega (arith, counted, further);
        told = λ tells history kept its fits.
            let first_told = other.is_after.told tells in
            other.told tells history (kept ∙ sym (one.stays first_told).same) its (one.told first_told history kept its fits);
        undamaged = λ tells history kept its fits.
            let first_told = other.is_after.told tells in
            other.undamaged tells history (kept ∙ sym (one.stays first_told).same) its (one.told first_told history kept its fits);
      }

  -- the same call with another result, which failed exactly when it did
  pub AdvancesTables-as : {A B : Type 0} (one : Result A ReadFault) (other : Result B ReadFault) (old new : List HeldLives) (before after : KeeperState) (s0 s1 : ℕ) → has_failed (reading_as_call other) ≡ has_failed (reading_as_call one) → ((place : ℕ) → other ≡ Err (Damaged place) → one ≡ Err (Damaged place)) → AdvancesTables past number one old new before after s0 s1 → AdvancesTables past number other old new before after s0 s1
  AdvancesTables-as one other old new before after s0 s1 same whole brings = record {
    is_after = IsAfterCall-as true false (reading_as_call one) (reading_as_call other) before after same brings.is_after;
    stays = brings.stays;
    up_to = brings.up_to;
    held = brings.held;
    ledger = brings.ledger;
    told = brings.told;
    undamaged = λ tells history kept its fits place is. brings.undamaged tells history kept its fits place (whole place is);
  }

  module _ (schema : Schema) (table : Name) (known : table_of past.catalog.now.names table ≡ Some schema) where
    created : (history : History) → IsPastOf past history → schema_at history schema.name ≡ Some schema
    created history its =
        let found : schema_at history table ≡ Some schema = sym ((valid_names meaning history its.valid).tables table) ∙ ap (λ (names : KnownNames). table_of names table) (sym its.names) ∙ known in
        ap (schema_at history) (schema_named history table schema found) ∙ found

    -- one more table
    AdvancesTables-push : (tables : List HeldLives) (keeper : KeeperState) (steps : ℕ) → lives_of tables schema.name ≡ None → IsReady true keeper → AdvancesTables past number (well ReadFault) tables (tables ++ no_lives schema ∷ []) keeper keeper steps steps
    AdvancesTables-push tables keeper steps none ready =
        let count : all_taken (tables ++ no_lives schema ∷ []) ≡ all_taken tables + 0 = sum_by_push taken_by tables (no_lives schema) in
        record {
          is_after = IsAfterCall-none (reading_as_call (well ReadFault)) keeper refl ready;
          stays = λ tells. KeepsSame-here keeper;
          up_to = λ within. all-push (λ (lives : HeldLives). lives.versions.place ≤ number) tables (no_lives schema) (omega arith) within;
          held = λ names held. held-push number names tables (no_lives schema) held;
          ledger = omega (arith, count);
          told = λ tells history kept its fits. record {
            apart = subst (IsDistinct bytes_eq) (sym (map-append name_of tables (no_lives schema ∷ []))) (apart-push (map name_of tables) schema.name (others-differ schema.name tables none) fits.apart);
            each = all-push (λ (lives : HeldLives). LivesFit lives history) tables (no_lives schema) (LivesFit-first meaning schema history its.valid (created history its)) fits.each;
          };
          undamaged = λ tells history kept its fits place is. absurd cc;
        }

    -- one more table, if it is not held
    pub AdvancesTables-with : (tables : List HeldLives) (keeper : KeeperState) (steps : ℕ) → IsReady true keeper → AdvancesTables past number (well ReadFault) tables (with_table schema tables) keeper keeper steps steps
    AdvancesTables-with tables keeper steps ready =
        elim (lives_of tables schema.name) as (λ found. lives_of tables schema.name ≡ found → AdvancesTables past number (well ReadFault) tables (cond (is_some found) tables (tables ++ no_lives schema ∷ [])) keeper keeper steps steps) [
          | None ↦ λ none. AdvancesTables-push tables keeper steps none ready
          | Some lives ↦ λ is. AdvancesTables-none (well ReadFault) tables keeper steps refl (λ place e. absurd cc) ready
        ] refl

  module _ {A : Type 0} (result : Result A ReadFault) (tables : List HeldLives) (place : ℕ) (old new : HeldLives) (before after : KeeperState) (s0 s1 : ℕ)
      (at : slice_get tables place ≡ Some old) (advances : Advances number past.count result old new before after s0 s1) where
    -- a table's rows are moved forward
    pub AdvancesTables-set : AdvancesTables past number result tables (slice_set tables place new) before after s0 s1
    AdvancesTables-set =
        let forward = advances.forward in
        let limit = advances.limit in
        let counted = advances.ledger in
        let sum = sum-set taken_by tables place old new at in
        record {
          is_after = advances.is_after;
          stays = advances.stays;
          up_to = all-set (λ (lives : HeldLives). lives.versions.place ≤ number) tables place new limit;
          held = λ names held. held-set number names tables place old new at advances.schema_is (λ e. omega (arith, e, forward, limit)) held;
          ledger = omega (arith, counted, sum);
          told = λ tells history kept its fits. record {
            apart = subst (IsDistinct bytes_eq) (sym (names-set tables place old new at advances.schema_is)) fits.apart;
            each = all-set (λ (lives : HeldLives). LivesFit lives history) tables place new (advances.told tells meaning history (store history kept its) (long history its) (fits_there history fits)).fits fits.each;
          };
          undamaged = λ tells history kept its fits. advances.undamaged tells meaning history (store history kept its) (long history its) (fits_there history fits);
        }
      where
        store : (history : History) → map stored history ≡ before.kept → IsPastOf past history → IsStoreOf meaning before.kept history
        store history kept its = record { forms = kept; valid = its.valid }

        long : (history : History) → IsPastOf past history → past.count ≤ length history
        long history its = let count = its.count in omega (arith, count)

        fits_there : (history : History) → TablesFit tables history → LivesFit old history
        fits_there history fits = all-at (λ (lives : HeldLives). LivesFit lives history) tables place old at fits.each

    -- and are at the number
    pub held_at : (table : Name) → place ≡ position_or_len (has_name table) tables → place < length tables → OnOk result (new.versions.place ≡ number) → OnOk result (AreHeldAt number (table ∷ []) (slice_set tables place new))
    held_at table first within there =
        let its : old ≡ slice_index_or tables place old = sym (get_or_from_slice_get tables place old old at) in
        let passes : has_name table (slice_index_or tables (position_or_len (has_name table) tables) old) ≡ true = passes_at_first (has_name table) tables old (subst (λ (n : ℕ). n < length tables) first within) in
        let named : has_name table new ≡ true = ap (λ (schema : Schema). bytes_eq schema.name table) advances.schema_is ∙ ap (has_name table) its ∙ ap (λ n. has_name table (slice_index_or tables n old)) first ∙ passes in
        let found : place_held (slice_set tables place new) table ≡ Some new.versions.place = ap (option_map (λ (lives : HeldLives). lives.versions.place)) (lives_of-set table tables place new first within named) in
        by_result result found there
      where
        by_result : (r : Result A ReadFault) → place_held (slice_set tables place new) table ≡ Some new.versions.place → OnOk r (new.versions.place ≡ number) → OnOk r (AreHeldAt number (table ∷ []) (slice_set tables place new))
        by_result (Ok value) found there = (found ∙ ap Some there, tt)
        by_result (Err fault) found there = tt

-- a place within the list
pub place_within : (schema : Schema) (tables : List HeldLives) (place : ℕ) → place ≡ position_or_len (λ (l : HeldLives). bytes_eq l.schema.name schema.name) tables → place ≢ length tables → place < length tables
place_within schema tables place is other =
    let most = prefix_len-le-length (λ (l : HeldLives). not (bytes_eq l.schema.name schema.name)) tables in
    lt_of_le_of_ne (subst (λ n. n ≤ length tables) (sym is) most) other
  where
    lt_of_le_of_ne : {a b : ℕ} → a ≤ b → a ≢ b → a < b
    lt_of_le_of_ne {a} {b} le ne = grind (arith, le, ne)

-- the table at a place
pub value_at : (tables : List HeldLives) (place : ℕ) (lives : HeldLives) → place < length tables → lives ≡ slice_index_or tables place lives → slice_get tables place ≡ Some lives
value_at tables place lives within is = slice_get-get_or tables place lives within ∙ ap Some (sym is)

-- the place of a table that is not held
pub new_place : (schema : Schema) (old new : List HeldLives) (place : ℕ) (lives : HeldLives) → place ≡ position_or_len (λ (l : HeldLives). bytes_eq l.schema.name schema.name) old → place ≡ length old → lives ≡ no_lives schema → new ≡ old ++ lives ∷ [] → (new ≡ with_table schema old) × IsPlaceOf schema.name place new
new_place schema old new place lives is end first longer =
    let both = IsPlaceOf-new schema old place is end in
    let same : new ≡ old ++ no_lives schema ∷ [] = longer ∙ ap (λ (l : HeldLives). old ++ l ∷ []) first in
    (same ∙ sym both.0, subst (IsPlaceOf schema.name place) (sym same) both.1)

module _ (past : Past) (number : ℕ) {A : Type 0} (result : Result A ReadFault) (schema : Schema) (tables mid : List HeldLives) (with : mid ≡ with_table schema tables) (place : ℕ) (is_place : IsPlaceOf schema.name place mid)
    (old new : HeldLives) (at : slice_get mid place ≡ Some old) (before after : KeeperState) (s0 s1 : ℕ) (advances : Advances number past.count result old new before after s0 s1) where
  -- a table is appended if it is not held, and moved forward
  pub brings_one : IsReady true before → (table : Name) → table_of past.catalog.now.names table ≡ Some schema → AdvancesTables past number result tables (slice_set mid place new) before after s0 s1
  brings_one ready table known =
      AdvancesTables-then past number (well ReadFault) result tables mid (slice_set mid place new) before before after s0 s0 s1 refl
      (subst (λ (m : List HeldLives). AdvancesTables past number (well ReadFault) tables m before before s0 s0) (sym with) (AdvancesTables-with past number schema table known tables before s0 ready))
      (AdvancesTables-set past number result mid place old new before after s0 s1 at advances)

  -- and is at the number then
  pub holds_one : OnOk result (AreHeldAt number (schema.name ∷ []) (slice_set mid place new))
  holds_one = held_at past number result mid place old new before after s0 s1 at advances schema.name is_place.first is_place.within advances.place_is

-- a table that is known is held under its own name
pub held_if_known : (past : Past) (number : ℕ) (table : Name) (schema : Schema) (tables : List HeldLives) → table_of past.catalog.now.names table ≡ Some schema
    → AreHeldAt number (schema.name ∷ []) tables → AreHeldIfKnown past number (table ∷ []) tables
held_if_known past number table schema tables known held names =
    let named : Some schema.name ≡ Some table = sym (ap (option_map (λ (found : Schema). found.name)) known) ∙ names.0 in
    subst (λ (name : Name). AreHeldAt number (name ∷ []) tables) (same_Some schema.name table named) held
