-- Counts that are those of an audit's hits still are after an entry is taken in, and again after it
-- is taken back.
use Rattle.std.proofs.Common.{◌≡◌, ◌∙◌, ◌≤◌, ◌<◌, ℕ, zero, suc, ◌+◌, ◌-◌, Bool, true, false, not, cond, List, [], ◌∷◌, ◌++◌, length, get_or, Option, Some, None, is_some, refl, sym, ap, arith, if◌then◌else◌}
use Rattle.std.specs.Prelude.{min, nat_lt, bytes_eq, position, slice_set}
use Rattle.std.specs.List.{AllByRecursion, IsDistinct, position_or_len}
use Rattle.std.specs.Option.{option_map_or}
use Rattle.std.proofs.lemmas.Bool.{false≢true, lt-ltb}
use Rattle.std.proofs.lemmas.List.{length-append, length-set, get_or-set_same, get_or-set_other}
use Rattle.std.proofs.lemmas.List.Quantifiers.{position-Some}
use Rattle.std.proofs.lemmas.Slice.Eq.{bytes_eq-Decides}
use Rattle.hippo_values.specs.declared.names.Name.{Name}
use Rattle.hippo_model.specs.declared.audit.Audit.{Audit}
use Rattle.hippo_model.specs.declared.entry.Act.{Act}
use Rattle.hippo_model.specs.declared.entry.Act.TheVariants.{Insert, Update, Delete}
use Rattle.hippo_model.specs.declared.entry.Entry.{Entry}
use Rattle.hippo_model.specs.declared.schema.Schema.{Schema}
use Rattle.hippo_model.specs.Terms.{History, Row, Place}
use Rattle.hippo_model.specs.Histories.{schema_at}
use Rattle.hippo_model.specs.Hits.{own_conditions, hits}
use Rattle.hippo_model.specs.Rows.{row_left}
use Rattle.hippo_tables_keyed.specs.RowSets.{KeyedRows, kept_at}
use Rattle.hippo_model.specs.StoredForms.{table_changed}
use Rattle.hippo_model.specs.Versions.{is_version}
use Rattle.hippo_tables_keyed.proofs.ChangesOfRows.{kept_at-no_version, kept_at-other_table}
use Rattle.hippo_tables.proofs.StandingLemmas.{schema_at-named}
use Rattle.hippo_watch_counts.specs.declared.counts.AuditHits.{AuditHits}
use Rattle.hippo_watch_counts.specs.Rows.{hit_of, hits_among}
use Rattle.hippo_watch_counts.specs.Counts.{AreHits, changed_count, audit_place, changed_counts, changed_hits, row_before, taken_in, taken_back}
use Rattle.hippo_watch_counts.proofs.ChangedRows.{row_there, there_counted, version_counted, hits_few}

-- ---- the place of a table, if none is named twice
all_at : {A : Type 0} (P : A → Type 0) (xs : List A) (i : ℕ) (d : A) → AllByRecursion P xs → i < length xs → P (get_or xs i d)
all_at P [] i d all within = absurd (omega (arith, within))
all_at P (x ∷ xs) zero d all within = all.0
all_at P (x ∷ xs) (suc i) d all within = all_at P xs i d all.1 (omega (arith, within))

first_with : (table : Name) (tables : List Name) (place : ℕ) → IsDistinct bytes_eq tables → place < length tables → bytes_eq (get_or tables place []) table ≡ true → position_or_len (λ name. bytes_eq name table) tables ≡ place
unfolding IsDistinct
first_with table [] place differ within is = absurd (omega (arith, within))
first_with table (first ∷ rest) zero differ within is = ap (λ same. cond (not same) (1 + position_or_len (λ name. bytes_eq name table) rest) 0) is
first_with table (first ∷ rest) (suc place) differ within is =
    let here : place < length rest = omega (arith, within) in
    let apart : bytes_eq first (get_or rest place []) ≡ false = all_at (λ name. bytes_eq first name ≡ false) rest place [] differ.0 here in
    let named : get_or rest place [] ≡ table = (bytes_eq-Decides (get_or rest place []) table).0 is in
    let other : bytes_eq first table ≡ false = ap (bytes_eq first) (sym named) ∙ apart in
    let later = first_with table rest place differ.1 here is in
    let up : 1 + position_or_len (λ name. bytes_eq name table) rest ≡ suc place = omega (arith, later) in
    ap (λ same. cond (not same) (1 + position_or_len (λ name. bytes_eq name table) rest) 0) other ∙ up

place_there : (table : Name) (tables : List Name) (place : ℕ) → IsDistinct bytes_eq tables → place < length tables → bytes_eq (get_or tables place []) table ≡ true → audit_place tables table ≡ Some place
place_there table tables place differ within is =
    let first = first_with table tables place differ within is in
    (λ i. cond (nat_lt (first i) (length tables)) (Some (first i)) None) ∙ ap (λ there. cond there (Some place) None) (lt-ltb place (length tables) within)

-- ---- the change at a place
module _ (audit : Audit) (table : Name) (old new : Option Row) (counts : List ℕ) where
  abbrev changed_at : Option Place → List ℕ
  changed_at found = option_map_or (λ place. slice_set counts place (changed_count (own_conditions audit place) old new (get_or counts place 0))) found counts

  as_many_changed : (found : Option Place) → length (changed_at found) ≡ length counts
  as_many_changed None = refl
  as_many_changed (Some place) = length-set counts place _

  changed_there : (place : ℕ) → audit_place audit.tables table ≡ Some place → place < length counts → get_or (changed_counts audit table old new counts) place 0 ≡ changed_count (own_conditions audit place) old new (get_or counts place 0)
  changed_there place at within = ap (λ found. get_or (changed_at found) place 0) at ∙ get_or-set_same counts place _ 0 within

  kept_elsewhere : (place : ℕ) → bytes_eq (get_or audit.tables place []) table ≡ false → get_or (changed_counts audit table old new counts) place 0 ≡ get_or counts place 0
  kept_elsewhere place other =
      elim (audit_place audit.tables table) as (λ found. audit_place audit.tables table ≡ found → get_or (changed_at found) place 0 ≡ get_or counts place 0) [
        | None ↦ λ at. refl
        | Some there ↦ λ at. get_or-set_other counts there place _ 0 (λ same. false≢true (sym other ∙ ap (λ n. bytes_eq (get_or audit.tables n []) table) same ∙ (position-Some (λ name. bytes_eq name table) audit.tables there [] at).1))
      ] refl

-- a count falls and rises by at most one row each
risen : (count before after old new : ℕ) → count ≡ before → after + old ≡ before + new → after ≤ 18446744073709551615 → old ≤ before → min (count - old + new) 18446744073709551615 ≡ after
risen count before after old new is sum few one = omega (arith, is, sum, few, one)

-- a history, and the same with an entry that keeps each schema
module _ (history : History) (audit : Audit) (entry : Entry)
    (lasts : (table : Name) (schema : Schema) → schema_at history table ≡ Some schema → schema_at (history ++ entry ∷ []) table ≡ Some schema)
    (created : AllByRecursion (λ table. is_some (schema_at history table) ≡ true) audit.tables) where
  abbrev later : History
  later = history ++ entry ∷ []

  abbrev name_at : Place → Name
  name_at place = get_or audit.tables place []

  schema_there : (place : Place) → place < length audit.tables → (schema : Schema) × (schema_at history (name_at place) ≡ Some schema)
  schema_there place within = made (schema_at history (name_at place)) refl (all_at (λ table. is_some (schema_at history table) ≡ true) audit.tables place [] created within)
    where
      made : (found : Option Schema) → schema_at history (name_at place) ≡ found → is_some found ≡ true → (schema : Schema) × (schema_at history (name_at place) ≡ Some schema)
      made None is some = absurd (false≢true some)
      made (Some schema) is some = (schema, is)

  abbrev among : Place → KeyedRows → ℕ
  among place set = hits_among (own_conditions audit place) set

  hits_before : (place : Place) (schema : Schema) → schema_at history (name_at place) ≡ Some schema → hits history audit place ≡ among place (kept_at schema history)
  hits_before place schema at = ap (λ found. option_map_or (λ made. among place (kept_at made history)) found 0) at

  hits_later : (place : Place) (schema : Schema) → schema_at history (name_at place) ≡ Some schema → hits later audit place ≡ among place (kept_at schema later)
  hits_later place schema at = ap (λ found. option_map_or (λ made. among place (kept_at made later)) found 0) (lasts (name_at place) schema at)

  -- an entry that is no version of a table leaves its hits unchanged
  hits_stay : (place : Place) → place < length audit.tables → ((schema : Schema) → schema_at history (name_at place) ≡ Some schema → kept_at schema later ≡ kept_at schema history) → hits later audit place ≡ hits history audit place
  hits_stay place within stay =
      let there = schema_there place within in
      hits_later place there.0 there.1 ∙ ap (among place) (stay there.0 there.1) ∙ sym (hits_before place there.0 there.1)

  -- the counts, if the entry is no version
  pub AreHits-no_version : (counts : List ℕ) → is_version entry.act ≡ false → AreHits history audit counts → AreHits later audit counts
  AreHits-no_version counts none are = record {
    as_many = are.as_many;
    each = λ place within. are.each place within ∙ sym (hits_stay place within (λ schema at. kept_at-no_version schema history entry none));
  }

  row_is : (act : Act) (table : Name) (schema : Schema) → table_changed act ≡ table → schema_at history table ≡ Some schema → row_before history act ≡ row_there schema history act
  row_is act table schema is at = by act (ap (schema_at history) is ∙ at)
    where
      by : (act : Act) → schema_at history (table_changed act) ≡ Some schema → row_before history act ≡ row_there schema history act
      by (Insert named row) at = rw at
      by (Update named row) at = rw at
      by (Delete named key) at = rw at
      by act at = refl

  module _ (differ : IsDistinct bytes_eq audit.tables) (few : length history < 9223372036854775808) (version : is_version entry.act ≡ true) where
    abbrev table : Name
    table = table_changed entry.act

    -- the hits of the table that is changed
    hits_move : (place : Place) → place < length audit.tables → bytes_eq (name_at place) table ≡ true
        → (hits later audit place + hit_of (own_conditions audit place) (row_before history entry.act) ≡ hits history audit place + hit_of (own_conditions audit place) (row_left entry.act))
        × (hit_of (own_conditions audit place) (row_before history entry.act) ≤ hits history audit place)
    hits_move place within is =
        let there = schema_there place within in
        let schema = there.0 in
        let named : table ≡ name_at place = sym ((bytes_eq-Decides (name_at place) table).0 is) in
        let own_name : bytes_eq table schema.name ≡ true = (bytes_eq-Decides table schema.name).1 (named ∙ sym ((bytes_eq-Decides schema.name (name_at place)).0 (schema_at-named history (name_at place) schema there.1))) in
        let row = ap (hit_of (own_conditions audit place)) (row_is entry.act (name_at place) schema named there.1) in
        let sum = version_counted (own_conditions audit place) schema history entry entry.act refl version own_name in
        let before = hits_before place schema there.1 in
        let after = hits_later place schema there.1 in
        let low = there_counted (own_conditions audit place) schema history entry.act in
        (omega (arith, row, sum, before, after), omega (arith, row, before, low))

    new_low : (place : Place) → place < length audit.tables → bytes_eq (name_at place) table ≡ true → hit_of (own_conditions audit place) (row_left entry.act) ≤ hits later audit place
    new_low place within is =
        let moved = hits_move place within is in
        let sum = moved.0 in
        let low = moved.1 in
        omega (arith, sum, low)

    hits_small : (place : Place) → place < length audit.tables → (hits later audit place ≤ 18446744073709551615) × (hits history audit place ≤ 18446744073709551615)
    hits_small place within =
        let there = schema_there place within in
        let before = hits_before place there.0 there.1 in
        let after = hits_later place there.0 there.1 in
        let low = hits_few (own_conditions audit place) there.0 history in
        let high = hits_few (own_conditions audit place) there.0 later in
        let longer = length-append history (entry ∷ []) in
        (omega (arith, few, after, high, longer), omega (arith, few, before, low))

    other_rows : (place : Place) → place < length audit.tables → bytes_eq (name_at place) table ≡ false → hits later audit place ≡ hits history audit place
    other_rows place within other =
        hits_stay place within (λ schema at.
        kept_at-other_table schema history entry (elim (bytes_eq table schema.name) as (λ same. bytes_eq table schema.name ≡ same → same ≡ false) [
          | true ↦ λ same.
              let named : table ≡ name_at place = (bytes_eq-Decides table schema.name).0 same ∙ (bytes_eq-Decides schema.name (name_at place)).0 (schema_at-named history (name_at place) schema at) in
              absurd (false≢true (sym other ∙ (bytes_eq-Decides (name_at place) table).1 (sym named)))
          | false ↦ λ same. refl
        ] refl))

    abbrev one_in : List ℕ → List ℕ
    one_in counts = changed_counts audit table (row_before history entry.act) (row_left entry.act) counts

    abbrev one_back : List ℕ → List ℕ
    one_back counts = changed_counts audit table (row_left entry.act) (row_before history entry.act) counts

    -- the counts, if a version is taken in
    AreHits-in : (counts : List ℕ) → AreHits history audit counts → AreHits later audit (one_in counts)
    AreHits-in counts are = record {
      as_many = as_many_changed audit table (row_before history entry.act) (row_left entry.act) counts (audit_place audit.tables table) ∙ are.as_many;
      each = λ place within. by place within (bytes_eq (name_at place) table) refl;
    }
      where
        by : (place : Place) → place < length audit.tables → (same : Bool) → bytes_eq (name_at place) table ≡ same → get_or (one_in counts) place 0 ≡ hits later audit place
        by place within true is =
            let many = are.as_many in
            changed_there audit table (row_before history entry.act) (row_left entry.act) counts place (place_there table audit.tables place differ within is) (omega (arith, many, within))
            ∙ risen (get_or counts place 0) (hits history audit place) (hits later audit place) (hit_of (own_conditions audit place) (row_before history entry.act)) (hit_of (own_conditions audit place) (row_left entry.act))
            (are.each place within) (hits_move place within is).0 (hits_small place within).0 (hits_move place within is).1
        by place within false other =
            kept_elsewhere audit table (row_before history entry.act) (row_left entry.act) counts place other ∙ are.each place within ∙ sym (other_rows place within other)

    -- and if it is taken back
    AreHits-back : (counts : List ℕ) → AreHits later audit counts → AreHits history audit (one_back counts)
    AreHits-back counts are = record {
      as_many = as_many_changed audit table (row_left entry.act) (row_before history entry.act) counts (audit_place audit.tables table) ∙ are.as_many;
      each = λ place within. by place within (bytes_eq (name_at place) table) refl;
    }
      where
        by : (place : Place) → place < length audit.tables → (same : Bool) → bytes_eq (name_at place) table ≡ same → get_or (one_back counts) place 0 ≡ hits history audit place
        by place within true is =
            let many = are.as_many in
            changed_there audit table (row_left entry.act) (row_before history entry.act) counts place (place_there table audit.tables place differ within is) (omega (arith, many, within))
            ∙ risen (get_or counts place 0) (hits later audit place) (hits history audit place) (hit_of (own_conditions audit place) (row_left entry.act)) (hit_of (own_conditions audit place) (row_before history entry.act))
            (are.each place within) (sym (hits_move place within is).0) (hits_small place within).1 (new_low place within is)
        by place within false other =
            kept_elsewhere audit table (row_left entry.act) (row_before history entry.act) counts place other ∙ are.each place within ∙ other_rows place within other

  module _ (differ : IsDistinct bytes_eq audit.tables) (few : length history < 9223372036854775808) (counts : List ℕ) where
    abbrev held : AuditHits
    held = record { audit = audit; hits = counts }

    -- the counts after an entry is taken in
    pub AreHits-taken_in : AreHits history audit counts → AreHits later audit (taken_in history entry.act held).hits
    AreHits-taken_in are =
        elim (is_version entry.act) as (λ version. is_version entry.act ≡ version → AreHits later audit (if version then record held { hits = changed_counts audit (table_changed entry.act) (row_before history entry.act) (row_left entry.act) counts } else held).hits) [
          | true ↦ λ version. AreHits-in differ few version counts are
          | false ↦ λ none. AreHits-no_version counts none are
        ] refl

    -- and as they were, after it is taken back
    pub AreHits-taken_back : AreHits later audit counts → AreHits history audit (taken_back history entry.act held).hits
    AreHits-taken_back are =
        elim (is_version entry.act) as (λ version. is_version entry.act ≡ version → AreHits history audit (if version then record held { hits = changed_counts audit (table_changed entry.act) (row_left entry.act) (row_before history entry.act) counts } else held).hits) [
          | true ↦ λ version. AreHits-back differ few version counts are
          | false ↦ λ none. record {
            as_many = are.as_many;
            each = λ place within. are.each place within ∙ hits_stay place within (λ schema at. kept_at-no_version schema history entry none);
          }
        ] refl

-- taking in and taking back leave the audit unchanged
pub audit_stays : (history : History) (act : Act) (held : AuditHits) → ((taken_in history act held).audit ≡ held.audit) × ((taken_back history act held).audit ≡ held.audit)
audit_stays history act held =
    elim (is_version act) as (λ version. ((if version then changed_hits (table_changed act) (row_before history act) (row_left act) held else held).audit ≡ held.audit) × ((if version then changed_hits (table_changed act) (row_left act) (row_before history act) held else held).audit ≡ held.audit)) [
      | true ↦ (refl, refl)
      | false ↦ (refl, refl)
    ]
