-- From reading and listing to the denied cells of tables.
use Rattle.std.proofs.Common.{◌≡◌, ◌≤◌, ◌<◌, ◌∙◌, ℕ, zero, suc, ◌+◌, Bool, true, false, List, [], ◌∷◌, ◌++◌, length, take, drop, Option, Some, None, Result, Ok, Err, refl, sym, ap, subst, arith, append_assoc, append-nil, length-append}
use Rattle.std.specs.Prelude.{◌≢◌, ◌&&◌, unwrap_or, is_some, slice_get, flat_map}
use Rattle.std.specs.List.{list_all}
use Rattle.std.specs.Option.{option_map_or}
use Rattle.std.proofs.lemmas.Bool.{and_parts}
use Rattle.std.proofs.lemmas.Grind.{flat_map-append}
use Rattle.std.proofs.lemmas.List.{take-append-drop}
use Rattle.std.proofs.lemmas.List.Folds.{list_all-append}
use Rattle.std.proofs.lemmas.List.Sums.{sum_by-append}
use Rattle.hippo_values.specs.declared.names.Name.{Name}
use Rattle.hippo_model.specs.declared.query.Query.{Query}
use Rattle.hippo_model.specs.declared.schema.Schema.{Schema}
use Rattle.hippo_model.specs.Denials.{Denial}
use Rattle.hippo_model.specs.Histories.{schema_at}
use Rattle.hippo_tables_keyed.specs.RowSets.{KeyedRows, kept_at}
use Rattle.hippo_model.specs.Stores.{IsStoreOf}
use Rattle.hippo_model.specs.Terms.{History}
use Rattle.hippo_model.specs.Validity.{is_valid}
use Rattle.hippo_keeper.specs.Answering.{has_failed}
use Rattle.hippo_keeper.specs.Keeping.{KeeperState, IsReady, KeepsSame}
use Rattle.hippo_typing_catalog.specs.Catalogs.{KnownNames, known_at, table_of}
use Rattle.hippo_typing_catalog.proofs.ListLemmas.{drop_at_item}
use Rattle.hippo_typing.specs.Meanings.{meaning}
use Rattle.hippo_rewrite.proofs.FittingRows.{schema_named}
use Rattle.hippo_backlog.specs.Backlogs.{versions_of, IsSnapshot, Snapshots}
use Rattle.hippo_backlog.specs.Calls as reads
use Rattle.hippo_backlog.specs.declared.faults.ReadFault.{ReadFault}
use Rattle.hippo_backlog.specs.declared.faults.ReadFault.TheVariants.{Keeper, Damaged, Memory}
use Rattle.hippo_keeper.proofs.CallLemmas.{KeepsSame-here, KeepsSame-then, IsAfterCall-then, IsAfterCall-as, IsAfterCall-none}
use Rattle.hippo_backlog.proofs.VersionsTheorem.{schemas_last}
use Rattle.hippo_audit_explain.specs.declared.faults.DenialsFault.{DenialsFault}
use Rattle.hippo_audit_explain.specs.declared.faults.DenialsFault.TheVariants.{Read, TooMany}
use Rattle.hippo_audit_explain.specs.declared.faults.ListFault.{ListFault}
use Rattle.hippo_audit_explain.specs.declared.faults.ListFault.TheVariants as lists
use Rattle.hippo_audit_explain.specs.declared.rows.RulesThen.{RulesThen}
use Rattle.hippo_audit_explain.specs.Listing.{rules_context, denial_columns, rows_denials, listing_fault, Lists, ListsRows}
use Rattle.hippo_audit_explain.specs.Denying.{listing_as_call, FitsTable, FitsQuery, one_table, tables_denials, one_count, tables_versions, AddsDenials, ReadsDenials}
use Rattle.hippo_audit_explain.proofs.ListingLemmas.{table_is}
use Rattle.hippo_audit_explain.proofs.QuestionLemmas.{schema_then, not_unknown}

take_more : {A : Type 0} (members : List A) (place : ℕ) (member : A) → slice_get members place ≡ Some member → take (place + 1) members ≡ take place members ++ member ∷ []
take_more [] place member is = absurd cc
take_more (first ∷ rest) zero member is = λ i. unwrap_or (is i) first ∷ []
take_more (first ∷ rest) (suc place) member is =
    let shift : suc place + 1 ≡ suc (place + 1) = omega arith in
    ap (λ n. take n (first ∷ rest)) shift ∙ ap (λ l. first ∷ l) (take_more rest place member is)

abbrev pub err_of : (T : Type 0) → {E : Type 0} → E → Result T E
err_of T fault = Err fault

abbrev pub ok : Result (Unit {0}) DenialsFault
ok = Ok tt

same_store : (before after : KeeperState) (history : History) → KeepsSame before after → IsStoreOf meaning before.kept history → IsStoreOf meaning after.kept history
same_store before after history keeps store = record { forms = store.forms ∙ sym keeps.same; valid = store.valid }

module _ {fits : History → Type 0} {wanted : History → List Denial} {count : History → ℕ} {limit : ℕ} where
  -- nothing was read
  pub ReadsDenials-none : (result : Result (Unit {0}) DenialsFault) (old new : List Denial) (keeper : KeeperState) (steps : ℕ) → IsReady true keeper → has_failed (listing_as_call result) ≡ false
      → ((history : History) → IsStoreOf meaning keeper.kept history → fits history → AddsDenials limit (wanted history) result old new)
      → ReadsDenials fits wanted count limit result old new keeper keeper steps steps
  ReadsDenials-none result old new keeper steps ready good adds = record {
    call = IsAfterCall-none (listing_as_call result) keeper good ready;
    stays = λ tells. KeepsSame-here keeper;
    told = λ tells history store fit. record { adds = adds history store fit; few = omega arith };
  }

  -- a condition on histories that implies another, with the same wanted cells and no smaller count
  pub ReadsDenials-weaker : {fits' : History → Type 0} {wanted' : History → List Denial} {count' : History → ℕ} (result : Result (Unit {0}) DenialsFault) (old new : List Denial) (before after : KeeperState) (steps steps' : ℕ)
      → ((history : History) → IsStoreOf meaning before.kept history → fits' history → fits history × (wanted history ≡ wanted' history) × (count history ≤ count' history))
      → ReadsDenials fits wanted count limit result old new before after steps steps' → ReadsDenials fits' wanted' count' limit result old new before after steps steps'
  ReadsDenials-weaker result old new before after steps steps' same reads = record {
    call = reads.call;
    stays = reads.stays;
    told = λ tells history store fit.
        let parts = same history store fit in
        let added = reads.told tells history store parts.0 in
        record {
          adds = subst (λ (w : List Denial). AddsDenials limit w result old new) parts.1 added.adds;
          few = omega (arith, added.few, parts.2);
        };
  }

-- cells added after others
adds_then : (limit : ℕ) (first second : List Denial) (result : Result (Unit {0}) DenialsFault) (old mid new : List Denial) → mid ≡ old ++ first → AddsDenials limit second result mid new → AddsDenials limit (first ++ second) result old new
adds_then limit first second (Ok tt) old mid new is adds = adds ∙ ap (λ l. l ++ second) is ∙ append_assoc old first second
adds_then limit first second (Err TooMany) old mid new is adds = subst (λ (l : List Denial). limit < length l) (ap (λ l. l ++ second) is ∙ append_assoc old first second) adds
adds_then limit first second (Err (Read Keeper)) old mid new is adds = tt
adds_then limit first second (Err (Read (Damaged number))) old mid new is adds = adds
adds_then limit first second (Err (Read Memory)) old mid new is adds = tt

-- a fault remains a fault if more cells are wanted
adds_fault : (limit : ℕ) (first second : List Denial) (fault : DenialsFault) (old new : List Denial) → AddsDenials limit first (Err fault) old new → AddsDenials limit (first ++ second) (Err fault) old new
adds_fault limit first second TooMany old new adds = omega (arith, adds, length-append old first, length-append old (first ++ second), length-append first second)
adds_fault limit first second (Read Keeper) old new adds = tt
adds_fault limit first second (Read (Damaged number)) old new adds = adds
adds_fault limit first second (Read Memory) old new adds = tt

module _ {fits : History → Type 0} {first second : History → List Denial} {one other : History → ℕ} {limit : ℕ} where
  -- one read, and then another
  pub ReadsDenials-then : (result : Result (Unit {0}) DenialsFault) (old mid new : List Denial) (before between after : KeeperState) (steps steps' steps'' : ℕ)
      → ReadsDenials fits first one limit ok old mid before between steps steps' → ReadsDenials fits second other limit result mid new between after steps' steps''
      → ReadsDenials fits (λ history. first history ++ second history) (λ history. one history + other history) limit result old new before after steps steps''
  ReadsDenials-then result old mid new before between after steps steps' steps'' here there = record {
    call = IsAfterCall-then false (listing_as_call ok) (listing_as_call result) before between after refl here.call there.call;
    stays = λ tells. KeepsSame-then before between after (here.stays (there.call.told tells)) (there.stays tells);
    told = λ tells history store fit.
        let earlier = here.told (there.call.told tells) history store fit in
        let later = there.told tells history (same_store before between history (here.stays (there.call.told tells)) store) fit in
        record { adds = adds_then limit (first history) (second history) result old mid new earlier.adds later.adds; few = omega (arith, earlier.few, later.few) };
  }

module _ {fits : History → Type 0} {first : History → List Denial} {one : History → ℕ} {limit : ℕ} (second : History → List Denial) (other : History → ℕ) where
  -- a read that failed
  pub ReadsDenials-fault : (fault : DenialsFault) (old new : List Denial) (before after : KeeperState) (steps steps' : ℕ)
      → ReadsDenials fits first one limit (Err fault) old new before after steps steps'
      → ReadsDenials fits (λ history. first history ++ second history) (λ history. one history + other history) limit (Err fault) old new before after steps steps'
  ReadsDenials-fault fault old new before after steps steps' here = record {
    call = here.call;
    stays = here.stays;
    told = λ tells history store fit.
        let earlier = here.told tells history store fit in
        record { adds = adds_fault limit (first history) (second history) fault old new earlier.adds; few = omega (arith, earlier.few) };
  }

-- the result of listing, as that of reading
abbrev pub listed_as : Result (Unit {0}) ListFault → Result (Unit {0}) DenialsFault
listed_as (Ok tt) = Ok tt
listed_as (Err fault) = Err (listing_fault fault)

adds_listed : (limit : ℕ) (wanted : List Denial) (listed : Result (Unit {0}) ListFault) (old new : List Denial) → Lists limit wanted listed old new → AddsDenials limit wanted (listed_as listed) old new
adds_listed limit wanted (Ok tt) old new lists = lists
adds_listed limit wanted (Err lists.TooMany) old new lists = lists
adds_listed limit wanted (Err lists.Memory) old new lists = tt

listed_good : (listed : Result (Unit {0}) ListFault) → has_failed (listing_as_call (listed_as listed)) ≡ false
listed_good (Ok tt) = refl
listed_good (Err lists.TooMany) = refl
listed_good (Err lists.Memory) = refl

adds_unread : (limit : ℕ) (wanted : List Denial) (fault : ReadFault) (old new : List Denial) → ((place : ℕ) → err_of KeyedRows fault ≢ Err (Damaged place)) → AddsDenials limit wanted (Err (Read fault)) old new
adds_unread limit wanted Keeper old new undamaged = tt
adds_unread limit wanted (Damaged number) old new undamaged = undamaged number refl
adds_unread limit wanted Memory old new undamaged = tt

unread_same : (fault : ReadFault) → has_failed (listing_as_call (err_of (Unit {0}) (Read fault))) ≡ has_failed (reads.reading_as_call (err_of KeyedRows fault))
unread_same Keeper = refl
unread_same (Damaged number) = refl
unread_same Memory = refl

module _ (schema : Schema) (rules : RulesThen) (query : Query) (limit : ℕ) (before after : KeeperState) (steps steps' : ℕ) where
  abbrev Fits : History → Type 0
  Fits = FitsTable schema rules.count rules.book.now

  snapshot_of : {result : Result KeyedRows ReadFault} → Snapshots schema rules.count result before after steps steps' → after.tells → (history : History) → IsStoreOf meaning before.kept history → Fits history
      → IsSnapshot schema rules.count result history steps steps'
  snapshot_of snapshots tells history store fit =
      snapshots.told tells meaning history store
      (subst (λ (h : History). schema_at h schema.name ≡ Some schema) (take-append-drop rules.count history)
      (schemas_last meaning (take rules.count history) (drop rules.count history) schema.name schema
      (ap (is_valid meaning) (take-append-drop rules.count history) ∙ store.valid) fit.created))
      fit.within

  -- a table's rows were read, and its denied cells listed
  pub table_read : (rows : KeyedRows) (listed : Result (Unit {0}) ListFault) (old new : List Denial) → Snapshots schema rules.count (Ok rows) before after steps steps'
      → ListsRows limit rules schema (denial_columns query schema) rows.rows listed old new
      → ReadsDenials Fits (one_table rules query schema) (one_count schema) limit (listed_as listed) old new before after steps steps'
  table_read rows listed old new snapshots lists = record {
    call = IsAfterCall-as true false (reads.reading_as_call {A = KeyedRows} (Ok rows)) (listing_as_call (listed_as listed)) before after (listed_good listed) snapshots.hands.call;
    stays = snapshots.hands.stays;
    told = λ tells history store fit.
        let snapshot = snapshot_of snapshots tells history store fit in
        let rows_are : rows ≡ kept_at schema (take rules.count history) = snapshot.rows in
        record {
          adds = adds_listed limit (one_table rules query schema history) listed old new
              (subst (λ (w : List Denial). Lists limit w listed old new)
              (ap (λ (r : KeyedRows). rows_denials (take rules.count history) (rules_context rules) schema (denial_columns query schema) r.rows) rows_are ∙ table_is (take rules.count history) (rules_context rules) query schema)
              (lists history fit.rules));
          few = snapshot.steps;
        };
  }

  -- a table's rows were not read
  pub table_unread : (fault : ReadFault) (cells : List Denial) → Snapshots schema rules.count (Err fault) before after steps steps'
      → ReadsDenials Fits (one_table rules query schema) (one_count schema) limit (Err (Read fault)) cells cells before after steps steps'
  table_unread fault cells snapshots = record {
    call = IsAfterCall-as true false (reads.reading_as_call (err_of KeyedRows fault)) (listing_as_call (err_of (Unit {0}) (Read fault))) before after (unread_same fault) snapshots.hands.call;
    stays = snapshots.hands.stays;
    told = λ tells history store fit.
        let snapshot = snapshot_of snapshots tells history store fit in
        record { adds = adds_unread limit (one_table rules query schema history) fault cells cells snapshot.undamaged; few = snapshot.steps };
  }

module _ (names : KnownNames) (rules : RulesThen) (query : Query) (limit : ℕ) where
  abbrev FitsAll : List Name → History → Type 0
  FitsAll tables = FitsQuery tables names rules.count rules.book.now

  created_one : (table : Name) (history : History) → FitsAll (table ∷ []) history → is_some (table_of (known_at (take rules.count history)) table) ≡ true
  created_one table history fit = (and_parts (is_some (table_of (known_at (take rules.count history)) table)) true fit.created).0

  -- a table, given by its name
  pub named_read : (table : Name) (schema : Schema) (result : Result (Unit {0}) DenialsFault) (old new : List Denial) (before after : KeeperState) (steps steps' : ℕ) → table_of names table ≡ Some schema
      → ReadsDenials (FitsTable schema rules.count rules.book.now) (one_table rules query schema) (one_count schema) limit result old new before after steps steps'
      → ReadsDenials (FitsAll (table ∷ [])) (tables_denials rules query (table ∷ [])) (tables_versions (table ∷ [])) limit result old new before after steps steps'
  named_read table schema result old new before after steps steps' known reads =
      ReadsDenials-weaker result old new before after steps steps' (λ history store fit.
      let created : schema_at (take rules.count history) table ≡ Some schema =
      schema_then rules.count history table schema store.valid (created_one table history fit) (ap (λ (k : KnownNames). table_of k table) (sym fit.known) ∙ known) in
      let named : schema.name ≡ table = schema_named (take rules.count history) table schema created in (
        record { rules = fit.rules; created = ap (schema_at (take rules.count history)) named ∙ created; within = fit.within },
        sym (ap (λ (found : Option Schema). option_map_or (λ s. one_table rules query s history) found [] ++ []) created ∙ append-nil (one_table rules query schema history)),
        omega (arith, ap (λ (t : Name). length (versions_of t history)) named),
      )) reads

  -- an unknown table is not one of the query's
  pub unknown_read : (table : Name) (number : ℕ) (cells : List Denial) (keeper : KeeperState) (steps : ℕ) → IsReady true keeper → table_of names table ≡ None
      → ReadsDenials (FitsAll (table ∷ [])) (tables_denials rules query (table ∷ [])) (tables_versions (table ∷ [])) limit (Err (Read (Damaged number))) cells cells keeper keeper steps steps
  unknown_read table number cells keeper steps ready unknown =
      ReadsDenials-none (Err (Read (Damaged number))) cells cells keeper steps ready refl
      (λ history store fit. not_unknown rules.count history table (created_one table history fit) (ap (λ (k : KnownNames). table_of k table) (sym fit.known) ∙ unknown))

  module _ (tables : List Name) where
    abbrev pub ReadsFront : ℕ → Result (Unit {0}) DenialsFault → List Denial → List Denial → KeeperState → KeeperState → ℕ → ℕ → Type 0
    ReadsFront place result old new before after steps steps' =
        ReadsDenials (FitsAll tables) (tables_denials rules query (take place tables)) (tables_versions (take place tables)) limit result old new before after steps steps'

    -- no table was read yet
    pub front_none : (cells : List Denial) (keeper : KeeperState) (steps : ℕ) → IsReady true keeper → ReadsFront 0 ok cells cells keeper keeper steps steps
    front_none cells keeper steps ready = ReadsDenials-none ok cells cells keeper steps ready refl (λ history store fit. sym (append-nil cells))

    module _ (place : ℕ) (table : Name) (is : slice_get tables place ≡ Some table) where
      whole : take place tables ++ table ∷ drop (place + 1) tables ≡ tables
      whole = ap (λ rest. take place tables ++ rest) (sym (drop_at_item tables place table is)) ∙ take-append-drop place tables

      created_at : (history : History) → FitsAll tables history → FitsAll (table ∷ []) history
      created_at history fit =
          let test : Name → Bool = λ t. is_some (table_of (known_at (take rules.count history)) t) in
          let all : list_all test (take place tables ++ table ∷ drop (place + 1) tables) ≡ true = ap (list_all test) whole ∙ fit.created in
          let later = (and_parts (list_all test (take place tables)) (list_all test (table ∷ drop (place + 1) tables)) (sym (list_all-append test (take place tables) (table ∷ drop (place + 1) tables)) ∙ all)).1 in
          let here : test table ≡ true = (and_parts (test table) (list_all test (drop (place + 1) tables)) later).0 in
          record { rules = fit.rules; known = fit.known; created = ap (λ (b : Bool). b && true) here; within = fit.within }

      one_more : take (place + 1) tables ≡ take place tables ++ table ∷ []
      one_more = take_more tables place table is

      denials_front : (history : History) (later : List Name) → tables_denials rules query (take place tables ++ table ∷ later) history ≡ (tables_denials rules query (take place tables) history ++ tables_denials rules query (table ∷ []) history) ++ tables_denials rules query later history
      denials_front history later =
          let each : Name → List Denial = λ t. option_map_or (λ s. one_table rules query s history) (schema_at (take rules.count history) t) [] in
          flat_map-append each (take place tables) (table ∷ later)
          ∙ ap (λ l. flat_map each (take place tables) ++ (l ++ flat_map each later)) (sym (append-nil (each table)))
          ∙ sym (append_assoc (flat_map each (take place tables)) (each table ++ []) (flat_map each later))

      counts_front : (history : History) (later : List Name) → tables_versions (take place tables ++ table ∷ later) history ≡ (tables_versions (take place tables) history + tables_versions (table ∷ []) history) + tables_versions later history
      counts_front history later =
          let each : Name → ℕ = λ t. length (versions_of t history) in
          omega (arith, sum_by-append each (take place tables) (table ∷ later), sum_by-append each (table ∷ []) later)

      module _ (result : Result (Unit {0}) DenialsFault) (old mid new : List Denial) (before between after : KeeperState) (steps steps' steps'' : ℕ)
          (so_far : ReadsFront place ok old mid before between steps steps')
          (next : ReadsDenials (FitsAll (table ∷ [])) (tables_denials rules query (table ∷ [])) (tables_versions (table ∷ [])) limit result mid new between after steps' steps'') where
        together : ReadsDenials (FitsAll tables) (λ history. tables_denials rules query (take place tables) history ++ tables_denials rules query (table ∷ []) history)
            (λ history. tables_versions (take place tables) history + tables_versions (table ∷ []) history) limit result old new before after steps steps''
        together = ReadsDenials-then result old mid new before between after steps steps' steps'' so_far
            (ReadsDenials-weaker result mid new between after steps' steps'' (λ history store fit. (created_at history fit, refl, omega arith)) next)

        -- one more table
        pub front_more : ReadsFront (place + 1) result old new before after steps steps''
        front_more =
            ReadsDenials-weaker result old new before after steps steps'' (λ history store fit. (
              fit,
              sym (ap (λ (ts : List Name). tables_denials rules query ts history) one_more ∙ denials_front history [] ∙ append-nil _),
              omega (arith, ap (λ (ts : List Name). tables_versions ts history) one_more, counts_front history []),
            )) together

      -- a table could not be read
      pub front_fault : (fault : DenialsFault) (old mid new : List Denial) (before between after : KeeperState) (steps steps' steps'' : ℕ)
          → ReadsFront place ok old mid before between steps steps'
          → ReadsDenials (FitsAll (table ∷ [])) (tables_denials rules query (table ∷ [])) (tables_versions (table ∷ [])) limit (Err fault) mid new between after steps' steps''
          → ReadsDenials (FitsAll tables) (tables_denials rules query tables) (tables_versions tables) limit (Err fault) old new before after steps steps''
      front_fault fault old mid new before between after steps steps' steps'' so_far next =
          let later : List Name = drop (place + 1) tables in
          ReadsDenials-weaker (Err fault) old new before after steps steps'' (λ history store fit. (
            fit,
            sym (ap (λ (ts : List Name). tables_denials rules query ts history) (sym whole) ∙ denials_front history later),
            omega (arith, ap (λ (ts : List Name). tables_versions ts history) whole, counts_front history later),
          ))
          (ReadsDenials-fault (tables_denials rules query later) (tables_versions later) fault old new before after steps steps''
          (together (Err fault) old mid new before between after steps steps' steps'' so_far next))
