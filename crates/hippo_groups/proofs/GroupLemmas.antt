-- The groups of some members, and one more member.
use Rattle.std.proofs.Common.{◌≡◌, Bool, true, false, not, cond, ◌&&◌, ◌||◌, List, [], ◌∷◌, ◌++◌, map, take, refl, sym, ap, ◌∙◌}
use Rattle.std.specs.Prelude.{filter}
use Rattle.std.specs.List.{list_all}
use Rattle.std.proofs.lemmas.Bool.{and_parts, and_from, or_parts, or_left, or_right}
use Rattle.std.proofs.lemmas.List.{append-nil, map-append}
use Rattle.std.proofs.lemmas.List.Elements.{filter-append}
use Rattle.hippo_model.specs.Terms.{ShownRow, Place}
use Rattle.hippo_model.specs.Bags.{same_row}
use Rattle.hippo_model.specs.Forms.{distinct_rows}
use Rattle.hippo_model.proofs.SameRows.{same_row-refl}
use Rattle.hippo_distinct.specs.DistinctRows.{stands_in}
use Rattle.hippo_distinct.proofs.DifferentLemmas.{if_new, distinct_rows-push}
use Rattle.hippo_distinct.proofs.KeptLemmas.{same_row-sym, stands-distinct_rows}
use Rattle.hippo_groups.specs.KeptGroups.{members_of, keys_of}

pub stands-there : (row : ShownRow) (front back : List ShownRow) → stands_in row (front ++ row ∷ back) ≡ true
stands-there row [] back = or_left (same_row row row) (stands_in row back) (same_row-refl row)
stands-there row (first ∷ front) back = or_right (same_row first row) (stands_in row (front ++ row ∷ back)) (stands-there row front back)

-- whether no row occurs twice
abbrev are_apart : List ShownRow → Bool
are_apart [] = true
are_apart (first ∷ rest) = list_all (λ row. not (same_row first row)) rest && are_apart rest

all-filter : (p q : ShownRow → Bool) (rows : List ShownRow) → list_all p rows ≡ true → list_all p (filter q rows) ≡ true
all-filter p q [] all = refl
all-filter p q (row ∷ rows) all =
    let both = and_parts (p row) (list_all p rows) all in
    by (q row) both.0 (all-filter p q rows both.1)
  where
    by : (kept : Bool) → p row ≡ true → list_all p (filter q rows) ≡ true → list_all p (cond kept (row ∷ filter q rows) (filter q rows)) ≡ true
    by true here later = and_from (p row) (list_all p (filter q rows)) here later
    by false here later = later

filter-passes : (p : ShownRow → Bool) (rows : List ShownRow) → list_all p (filter p rows) ≡ true
filter-passes p [] = refl
filter-passes p (row ∷ rows) = by (p row) refl (filter-passes p rows)
  where
    by : (kept : Bool) → p row ≡ kept → list_all p (filter p rows) ≡ true → list_all p (cond kept (row ∷ filter p rows) (filter p rows)) ≡ true
    by true here later = and_from (p row) (list_all p (filter p rows)) here later
    by false here later = later

apart-filter : (p : ShownRow → Bool) (rows : List ShownRow) → are_apart rows ≡ true → are_apart (filter p rows) ≡ true
apart-filter p [] apart = refl
apart-filter p (row ∷ rows) apart =
    let both = and_parts (list_all (λ other. not (same_row row other)) rows) (are_apart rows) apart in
    by (p row) (all-filter (λ other. not (same_row row other)) p rows both.0) (apart-filter p rows both.1)
  where
    by : (kept : Bool) → list_all (λ other. not (same_row row other)) (filter p rows) ≡ true → are_apart (filter p rows) ≡ true → are_apart (cond kept (row ∷ filter p rows) (filter p rows)) ≡ true
    by true here later = and_from (list_all (λ other. not (same_row row other)) (filter p rows)) (are_apart (filter p rows)) here later
    by false here later = later

distinct_rows-apart : (rows : List ShownRow) → are_apart (distinct_rows rows) ≡ true
distinct_rows-apart [] = refl
distinct_rows-apart (first ∷ rows) =
    let passes : ShownRow → Bool = λ row. not (same_row first row) in
    and_from (list_all passes (filter passes (distinct_rows rows))) (are_apart (filter passes (distinct_rows rows)))
    (filter-passes passes (distinct_rows rows)) (apart-filter passes (distinct_rows rows) (distinct_rows-apart rows))

false-from_not : (test : Bool) → not test ≡ true → test ≡ false
false-from_not true e = absurd cc
false-from_not false e = refl

no-others : (row : ShownRow) (rows : List ShownRow) → list_all (λ other. not (same_row row other)) rows ≡ true → stands_in row rows ≡ false
no-others row [] all = refl
no-others row (first ∷ rows) all =
    let both = and_parts (not (same_row row first)) (list_all (λ other. not (same_row row other)) rows) all in
    (λ i. (same_row-sym first row ∙ false-from_not (same_row row first) both.0) i || no-others row rows both.1 i)

not-at : (first row : ShownRow) (front back : List ShownRow) → list_all (λ other. not (same_row first other)) (front ++ row ∷ back) ≡ true → same_row first row ≡ false
not-at first row [] back all = false-from_not (same_row first row) (and_parts (not (same_row first row)) (list_all (λ other. not (same_row first other)) back) all).0
not-at first row (one ∷ front) back all = not-at first row front back (and_parts (not (same_row first one)) (list_all (λ other. not (same_row first other)) (front ++ row ∷ back)) all).1

-- a row of distinct rows is neither before nor after its place
apart-at : (row : ShownRow) (front back : List ShownRow) → are_apart (front ++ row ∷ back) ≡ true → (stands_in row front ≡ false) × (stands_in row back ≡ false)
apart-at row [] back apart = (refl, no-others row back (and_parts (list_all (λ other. not (same_row row other)) back) (are_apart back) apart).0)
apart-at row (first ∷ front) back apart =
    let both = and_parts (list_all (λ other. not (same_row first other)) (front ++ row ∷ back)) (are_apart (front ++ row ∷ back)) apart in
    let later = apart-at row front back both.1 in
    ((λ i. not-at first row front back both.0 i || later.0 i), later.1)

module _ {M K : Type 0} (row_of : M → ShownRow) (keys : Place) (kept_of : ShownRow → List M → K) where
  -- what is stored for the group with a key
  abbrev pub kept_at : List M → ShownRow → K
  kept_at found key = kept_of key (members_of row_of keys found key)

  abbrev key_of : M → ShownRow
  key_of member = take keys (row_of member)

  module _ (found : List M) (member : M) where
    abbrev its_key : ShownRow
    its_key = key_of member

    abbrev more : List M
    more = found ++ member ∷ []

    abbrev keys_found : List ShownRow
    keys_found = keys_of row_of keys found

    members-push : (key : ShownRow) → members_of row_of keys more key ≡ members_of row_of keys found key ++ cond (same_row key its_key) (member ∷ []) []
    members-push key = filter-append (λ one. same_row key (key_of one)) found (member ∷ [])

    -- a group with another key stays the same
    other_stays : (other : ShownRow) → same_row other its_key ≡ false → kept_at more other ≡ kept_at found other
    other_stays other apart = ap (kept_of other)
        (members-push other ∙ ap (λ (same : Bool). members_of row_of keys found other ++ cond same (member ∷ []) []) apart ∙ append-nil (members_of row_of keys found other))

    others_stay : (others : List ShownRow) → stands_in its_key others ≡ false → map (kept_at more) others ≡ map (kept_at found) others
    others_stay [] none = refl
    others_stay (other ∷ rest) none =
        let both = or_parts (same_row other its_key) (stands_in its_key rest) none in
        λ i. other_stays other both.0 i ∷ others_stay rest both.1 i

    its_members : members_of row_of keys more its_key ≡ members_of row_of keys found its_key ++ member ∷ []
    its_members = members-push its_key ∙ ap (λ (same : Bool). members_of row_of keys found its_key ++ cond same (member ∷ []) []) (same_row-refl its_key)

    -- a new key has no members yet
    none_yet : (some : List M) → stands_in its_key (map key_of some) ≡ false → members_of row_of keys some its_key ≡ []
    none_yet [] none = refl
    none_yet (one ∷ some) none =
        let both = or_parts (same_row (key_of one) its_key) (stands_in its_key (map key_of some)) none in
        ap (λ (same : Bool). cond same (one ∷ members_of row_of keys some its_key) (members_of row_of keys some its_key)) (same_row-sym its_key (key_of one) ∙ both.0)
        ∙ none_yet some both.1

    keys-push : keys_of row_of keys more ≡ keys_found ++ if_new (stands_in its_key keys_found) its_key
    keys-push =
        ap distinct_rows (map-append key_of found (member ∷ []))
        ∙ distinct_rows-push (map key_of found) its_key
        ∙ ap (λ (stands : Bool). keys_found ++ if_new stands its_key) (sym (stands-distinct_rows its_key (map key_of found)))

    -- a member with a new key is a group of its own, after the others
    pub keys-new : stands_in its_key keys_found ≡ false → keys_of row_of keys more ≡ keys_found ++ its_key ∷ []
    keys-new none = keys-push ∙ ap (λ (stands : Bool). keys_found ++ if_new stands its_key) none

    pub kept-new : stands_in its_key keys_found ≡ false → map (kept_at more) (keys_of row_of keys more) ≡ map (kept_at found) keys_found ++ kept_of its_key (member ∷ []) ∷ []
    kept-new none =
        let alone : members_of row_of keys more its_key ≡ member ∷ [] =
        its_members ∙ ap (λ (before : List M). before ++ member ∷ []) (none_yet found (sym (stands-distinct_rows its_key (map key_of found)) ∙ none)) in
        ap (map (kept_at more)) (keys-new none)
        ∙ map-append (kept_at more) keys_found (its_key ∷ [])
        ∙ λ i. others_stay keys_found none i ++ kept_of its_key (alone i) ∷ []

    -- a member with a known key joins that group
    module _ (front back : List ShownRow) (split : keys_found ≡ front ++ its_key ∷ back) where
      pub keys-same : keys_of row_of keys more ≡ keys_found
      keys-same =
          keys-push
          ∙ ap (λ (stands : Bool). keys_found ++ if_new stands its_key) (ap (stands_in its_key) split ∙ stands-there its_key front back)
          ∙ append-nil keys_found

      pub kept-before : map (kept_at found) keys_found ≡ map (kept_at found) front ++ kept_of its_key (members_of row_of keys found its_key) ∷ map (kept_at found) back
      kept-before = ap (map (kept_at found)) split ∙ map-append (kept_at found) front (its_key ∷ back)

      pub kept-joined : map (kept_at found) front ++ kept_of its_key (members_of row_of keys found its_key ++ member ∷ []) ∷ map (kept_at found) back ≡ map (kept_at more) (keys_of row_of keys more)
      kept-joined =
          let apart = apart-at its_key front back (ap are_apart (sym split) ∙ distinct_rows-apart (map key_of found)) in
          sym (
          ap (map (kept_at more)) (keys-same ∙ split)
          ∙ map-append (kept_at more) front (its_key ∷ back)
          ∙ λ i. others_stay front apart.0 i ++ kept_of its_key (its_members i) ∷ others_stay back apart.1 i
          )
