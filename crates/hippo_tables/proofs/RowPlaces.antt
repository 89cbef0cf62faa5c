-- The place of a row that is inserted or removed, and the numbers beside the rows.
use Rattle.std.proofs.Common.{◌≡◌, ℕ, suc, ◌+◌, ◌<◌, ◌≤◌, Bool, true, false, if◌then◌else◌, List, [], ◌∷◌, map, length, set, Option, Some, None, option_map, slice_get, sym, ap, ◌∙◌, refl, subst, arith}
use Rattle.std.specs.Prelude.{not, nat_lt}
use Rattle.std.specs.List.{position_or_len, insert, remove}
use Rattle.std.specs.Ordering.{is_eq, match_ordering, ordering_reverse}
use Rattle.std.specs.declared.cmp.Ordering.{Ordering}
use Rattle.std.specs.declared.cmp.Ordering.TheVariants.{Less, Equal, Greater}
use Rattle.std.proofs.lemmas.Cmp.{tied_itself}
use Rattle.std.proofs.lemmas.Bool.Decides.{nat_tests}
use Rattle.hippo_values.specs.Order.{cells_cmp, same_cells}
use Rattle.hippo_model.specs.declared.born_row.BornRow.{BornRow}
use Rattle.hippo_model.specs.Terms.{Key, Place}
use Rattle.hippo_tables_keyed.specs.RowSets.{key_in, IsBelowAll, IsAscending, put_row, take_row, find_row}
use Rattle.hippo_tables_keyed.proofs.Orders.{cells_total, cells_exact, same_exact}
use Rattle.hippo_tables_keyed.proofs.KeptRows.{flipped, IsBelowAll-from_below}

pub same_itself : (key : Key) → same_cells key key ≡ true
same_itself key = ap is_eq (tied_itself cells_total key)

same_reversed : (o : Ordering) → is_eq (ordering_reverse o) ≡ is_eq o
same_reversed Less = refl
same_reversed Equal = refl
same_reversed Greater = refl

pub same_turned : (a b : Key) → same_cells a b ≡ same_cells b a
same_turned a b = ap is_eq (cells_total.antisymm a b) ∙ same_reversed (cells_cmp b a)

one_place_on : (place size : ℕ) → (if nat_lt (1 + place) (suc size) then Some (1 + place) else None) ≡ option_map suc (if nat_lt place size then Some place else None)
one_place_on place size =
    let bounds : nat_lt (1 + place) (suc size) ≡ nat_lt place size = grind (arith, nat_tests) in
    let next : 1 + place ≡ suc place = omega arith in
    rw (bounds, next) (elim (nat_lt place size) as (λ within. (if within then Some (suc place) else None) ≡ option_map suc (if within then Some place else None)) [ true ↦ refl | false ↦ refl ])

first_place : (size : ℕ) → ◌≡◌ {A = Option ℕ} (if nat_lt 0 (suc size) then Some 0 else None) (Some 0)
first_place size = let within : nat_lt 0 (suc size) ≡ true = grind (arith, nat_tests) in rw within

-- the row with a key is the first one, or among the rest
find_row-first : (places : List Place) (key : Key) (first : BornRow) (rest : List BornRow) → find_row places key (first ∷ rest) ≡ (if same_cells (key_in places first) key then Some 0 else option_map suc (find_row places key rest))
find_row-first places key first rest =
    let test : BornRow → Bool = λ kept. same_cells (key_in places kept) key in
    elim (same_cells (key_in places first) key) as (λ passes. (if nat_lt (if not passes then 1 + position_or_len test rest else 0) (length (first ∷ rest)) then Some (if not passes then 1 + position_or_len test rest else 0) else None) ≡ (if passes then Some 0 else option_map suc (find_row places key rest))) [
      | true ↦ first_place (length rest)
      | false ↦ one_place_on (position_or_len test rest) (length rest)
    ]

some_same : (a b : ℕ) → Some a ≡ Some b → a ≡ b
some_same a b e = cc

not_found : (test : Bool) (found : Option ℕ) → (if test then Some 0 else option_map suc found) ≡ None → (test ≡ false) × (found ≡ None)
not_found true found none = absurd cc
not_found false None none = (refl, refl)
not_found false (Some place) none = absurd cc

module _ (places : List Place) (key : Key) where
  missing_parts : (first : BornRow) (rest : List BornRow) → find_row places key (first ∷ rest) ≡ None → (same_cells (key_in places first) key ≡ false) × (find_row places key rest ≡ None)
  missing_parts first rest missing = not_found (same_cells (key_in places first) key) (find_row places key rest) (sym (find_row-first places key first rest) ∙ missing)

  found_first : (first : BornRow) (rest : List BornRow) → same_cells (key_in places first) key ≡ true → find_row places key (first ∷ rest) ≡ Some 0
  found_first first rest same = find_row-first places key first rest ∙ rw same

  found_later : (first : BornRow) (rest : List BornRow) → same_cells (key_in places first) key ≡ false → find_row places key (first ∷ rest) ≡ option_map suc (find_row places key rest)
  found_later first rest other = find_row-first places key first rest ∙ rw other

  -- no row has a key below all
  missing_below : (rows : List BornRow) → IsBelowAll key (map (key_in places) rows) → find_row places key rows ≡ None
  missing_below [] below = refl
  missing_below (first ∷ rest) below = found_later first rest (ap is_eq (flipped key (key_in places first) Less below.0)) ∙ ap (option_map suc) (missing_below rest below.1)

  pub take_missing : (rows : List BornRow) → find_row places key rows ≡ None → take_row places key rows ≡ rows
  take_missing [] missing = refl
  take_missing (first ∷ rest) missing =
      let parts = missing_parts first rest missing in
      rw parts.0 (ap (λ rest. first ∷ rest) (take_missing rest parts.1))

  -- numbers beside the rows, the same for other keys
  module _ (old new : BornRow → ℕ) (same : (other : BornRow) → same_cells (key_in places other) key ≡ false → new other ≡ old other) where
    map_missing : (rows : List BornRow) → find_row places key rows ≡ None → map new rows ≡ map old rows
    map_missing [] missing = refl
    map_missing (first ∷ rest) missing =
        let parts = missing_parts first rest missing in
        rw (same first parts.0, map_missing rest parts.1)

    pub map_taken : (rows : List BornRow) (place : ℕ) → IsAscending (map (key_in places) rows) → find_row places key rows ≡ Some place → map new (take_row places key rows) ≡ remove (map old rows) place
    map_taken [] place ascends found = absurd cc
    map_taken (first ∷ rest) place ascends found =
        elim (same_cells (key_in places first) key) as (λ test. same_cells (key_in places first) key ≡ test → map new (if test then rest else first ∷ take_row places key rest) ≡ remove (map old (first ∷ rest)) place) [
          | true ↦ λ e.
              let at : place ≡ 0 = some_same place 0 (sym found ∙ found_first first rest e) in
              let below : IsBelowAll key (map (key_in places) rest) = subst (λ (low : Key). IsBelowAll low (map (key_in places) rest)) (same_exact (key_in places first) key e) ascends.0 in
              rw at (map_missing rest (missing_below rest below))
          | false ↦ λ e. later (find_row places key rest) e (sym (found_later first rest e) ∙ found) (λ i there. map_taken rest i ascends.1 there) refl
        ] refl
      where
        later : (there : Option ℕ) → same_cells (key_in places first) key ≡ false → option_map suc there ≡ Some place → ((i : ℕ) → find_row places key rest ≡ Some i → map new (take_row places key rest) ≡ remove (map old rest) i) → find_row places key rest ≡ there → map new (first ∷ take_row places key rest) ≡ remove (map old (first ∷ rest)) place
        later None other at induction e = absurd cc
        later (Some i) other at induction e =
            let here : place ≡ suc i = some_same place (suc i) (sym at) in
            rw (here, same first other) (ap (λ rest. old first ∷ rest) (induction i e))

  pub length-taken : (rows : List BornRow) (place : ℕ) → find_row places key rows ≡ Some place → (place < length rows) × (length (take_row places key rows) + 1 ≡ length rows)
  length-taken [] place found = absurd cc
  length-taken (first ∷ rest) place found =
      elim (same_cells (key_in places first) key) as (λ test. same_cells (key_in places first) key ≡ test → (place < suc (length rest)) × (length (if test then rest else first ∷ take_row places key rest) + 1 ≡ suc (length rest))) [
        | true ↦ λ e. let at : place ≡ 0 = some_same place 0 (sym found ∙ found_first first rest e) in (omega arith, omega arith)
        | false ↦ λ e. later (find_row places key rest) (sym (found_later first rest e) ∙ found) (λ i there. length-taken rest i there) refl
      ] refl
    where
      later : (there : Option ℕ) → option_map suc there ≡ Some place → ((i : ℕ) → find_row places key rest ≡ Some i → (i < length rest) × (length (take_row places key rest) + 1 ≡ length rest)) → find_row places key rest ≡ there → (place < suc (length rest)) × (suc (length (take_row places key rest)) + 1 ≡ suc (length rest))
      later None at induction e = absurd cc
      later (Some i) at induction e =
          let here : place ≡ suc i = some_same place (suc i) (sym at) in
          let parts = induction i e in
          (omega (arith, parts.0), omega (arith, parts.1))

module _ (places : List Place) (kept : BornRow) where
  abbrev key : Key
  key = key_in places kept

  -- a row with a new key is inserted at a place
  pub record PutAt (rows put : List BornRow) (place : ℕ) : Type 0 where
    pub found : find_row places key put ≡ Some place
    pub within : place ≤ length rows
    pub long : length put ≡ length rows + 1
    pub taken : take_row places key put ≡ rows
    pub mapped : (number : ℕ) (old new : BornRow → ℕ) → new kept ≡ number → ((other : BornRow) → same_cells (key_in places other) key ≡ false → new other ≡ old other) → map new put ≡ insert (map old rows) place number

  put_first : (rows : List BornRow) → find_row places key rows ≡ None → PutAt rows (kept ∷ rows) 0
  put_first rows missing = record {
    found = found_first places key kept rows (same_itself key);
    within = omega arith;
    long = omega arith;
    taken = rw same_itself;
    mapped = λ number old new here same. rw (here, map_missing places key old new same rows missing);
  }

  put_later : (first : BornRow) (rest put : List BornRow) (place : ℕ) → same_cells (key_in places first) key ≡ false → PutAt rest put place → PutAt (first ∷ rest) (first ∷ put) (suc place)
  put_later first rest put place other at = record {
    found = found_later places key first put other ∙ ap (option_map suc) at.found;
    within = omega (arith, at.within);
    long = omega (arith, at.long);
    taken = rw other (ap (λ rest. first ∷ rest) at.taken);
    mapped = λ number old new here same. rw (same first other) (ap (λ rest. old first ∷ rest) (at.mapped number old new here same));
  }

  pub put_missing : (rows : List BornRow) → find_row places key rows ≡ None → (place : ℕ) × PutAt rows (put_row places kept rows) place
  put_missing [] missing = (0, put_first [] refl)
  put_missing (first ∷ rest) missing =
      let parts = missing_parts places key first rest missing in
      elim (cells_cmp key (key_in places first)) as (λ o. cells_cmp key (key_in places first) ≡ o → (place : ℕ) × PutAt (first ∷ rest) (match_ordering o (kept ∷ first ∷ rest) (kept ∷ rest) (first ∷ put_row places kept rest)) place) [
        | Less ↦ λ e. (0, put_first (first ∷ rest) missing)
        | Equal ↦ λ e. absurd (let there : same_cells (key_in places first) key ≡ true = ap is_eq (flipped key (key_in places first) Equal e) in let wrong = sym there ∙ parts.0 in cc)
        | Greater ↦ λ e. let later = put_missing rest parts.1 in (suc later.0, put_later first rest (put_row places kept rest) later.0 parts.0 later.1)
      ] refl

  -- a row replaces the one with its key
  pub record PutOver (rows put : List BornRow) (place : ℕ) : Type 0 where
    pub found : find_row places key put ≡ Some place
    pub within : place < length rows
    pub long : length put ≡ length rows
    pub restored : (old : BornRow) → slice_get rows place ≡ Some old → key_in places old ≡ key → put_row places old put ≡ rows
    pub mapped : (number : ℕ) (old new : BornRow → ℕ) → new kept ≡ number → ((other : BornRow) → same_cells (key_in places other) key ≡ false → new other ≡ old other) → map new put ≡ set (map old rows) place number

  over_first : (first : BornRow) (rest : List BornRow) → cells_cmp key (key_in places first) ≡ Equal → IsBelowAll (key_in places first) (map (key_in places) rest) → PutOver (first ∷ rest) (kept ∷ rest) 0
  over_first first rest equal below =
      let same_key : key ≡ key_in places first = cells_exact key (key_in places first) equal in
      let under : IsBelowAll key (map (key_in places) rest) = subst (λ (low : Key). IsBelowAll low (map (key_in places) rest)) (sym same_key) below in
      record {
        found = found_first places key kept rest (same_itself key);
        within = omega arith;
        long = refl;
        restored = λ old at has_key. let is : first ≡ old = cc in ap (λ o. match_ordering o (old ∷ kept ∷ rest) (old ∷ rest) (kept ∷ put_row places old rest)) (ap (λ (low : Key). cells_cmp low key) has_key ∙ tied_itself cells_total key) ∙ ap (λ first. first ∷ rest) (sym is);
        mapped = λ number old new here same. rw (here, map_missing places key old new same rest (missing_below places key rest under));
      }

  over_later : (first : BornRow) (rest put : List BornRow) (place : ℕ) → cells_cmp key (key_in places first) ≡ Greater → PutOver rest put place → PutOver (first ∷ rest) (first ∷ put) (suc place)
  over_later first rest put place greater at =
      let other : same_cells (key_in places first) key ≡ false = ap is_eq (flipped key (key_in places first) Greater greater) in
      record {
        found = found_later places key first put other ∙ ap (option_map suc) at.found;
        within = omega (arith, at.within);
        long = ap suc at.long;
        restored = λ old there has_key. ap (λ o. match_ordering o (old ∷ first ∷ put) (old ∷ put) (first ∷ put_row places old put)) (ap (λ (low : Key). cells_cmp low (key_in places first)) has_key ∙ greater) ∙ ap (λ rest. first ∷ rest) (at.restored old there has_key);
        mapped = λ number old new here same. rw (same first other) (ap (λ rest. old first ∷ rest) (at.mapped number old new here same));
      }

  pub put_found : (rows : List BornRow) (place : ℕ) → IsAscending (map (key_in places) rows) → find_row places key rows ≡ Some place → PutOver rows (put_row places kept rows) place
  put_found [] place ascends found = absurd cc
  put_found (first ∷ rest) place ascends found =
      elim (cells_cmp key (key_in places first)) as (λ o. cells_cmp key (key_in places first) ≡ o → PutOver (first ∷ rest) (match_ordering o (kept ∷ first ∷ rest) (kept ∷ rest) (first ∷ put_row places kept rest)) place) [
        | Less ↦ λ e. absurd (let none = missing_below places key (first ∷ rest) (e, below_rest e) in let wrong = sym none ∙ found in cc)
        | Equal ↦ λ e.
            let at : place ≡ 0 = some_same place 0 (sym found ∙ found_first places key first rest (ap is_eq (flipped key (key_in places first) Equal e))) in
            subst (λ (place : ℕ). PutOver (first ∷ rest) (kept ∷ rest) place) (sym at) (over_first first rest e ascends.0)
        | Greater ↦ λ e. later (find_row places key rest) e (sym (found_later places key first rest (ap is_eq (flipped key (key_in places first) Greater e))) ∙ found) (λ i there. put_found rest i ascends.1 there) refl
      ] refl
    where
      below_rest : cells_cmp key (key_in places first) ≡ Less → IsBelowAll key (map (key_in places) rest)
      below_rest less = IsBelowAll-from_below key (key_in places first) (map (key_in places) rest) less ascends.0

      later : (there : Option ℕ) → cells_cmp key (key_in places first) ≡ Greater → option_map suc there ≡ Some place → ((i : ℕ) → find_row places key rest ≡ Some i → PutOver rest (put_row places kept rest) i) → find_row places key rest ≡ there → PutOver (first ∷ rest) (first ∷ put_row places kept rest) place
      later None greater at induction e = absurd cc
      later (Some i) greater at induction e =
          let here : place ≡ suc i = some_same place (suc i) (sym at) in
          subst (λ (place : ℕ). PutOver (first ∷ rest) (first ∷ put_row places kept rest) place) (sym here) (over_later first rest (put_row places kept rest) i greater (induction i e))
