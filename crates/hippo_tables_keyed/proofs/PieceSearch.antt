-- A search in a list held in pieces: first for the piece, then in it.
use Rattle.std.proofs.Common.{◌≡◌, ℕ, suc, ◌+◌, ◌-◌, ◌<◌, ◌≤◌, true, false, List, [], ◌∷◌, length, get_or, Result, Ok, Err, inl, inr, sym, ap, ◌∙◌, refl, subst, arith, add-zero}
use Rattle.std.specs.Option.{option_map_or}
use Rattle.std.specs.Ordering.{is_le, is_lt, ordering_index}
use Rattle.std.specs.declared.cmp.Ordering.{Ordering}
use Rattle.std.specs.declared.cmp.Ordering.TheVariants.{Less, Equal, Greater}
use Rattle.std.specs.List.{AllWithin, HoldsAt}
use Rattle.std.specs.List.Sorted.{IsNonDecreasingBy, IsPartitionPoint, IsSearchInRange, IsBinarySearchResult}
use Rattle.std.proofs.lemmas.Bool.{cases_lt, false≢true}
use Rattle.std.proofs.lemmas.List.{length-map}
use Rattle.std.proofs.lemmas.List.Concat.{get_or-flat_map}
use Rattle.std.proofs.lemmas.Option.{slice_get-get_or}
use Rattle.hippo_tables_keyed.specs.declared.pieces.Piece.{Piece}
use Rattle.hippo_tables_keyed.specs.Pieces.{contents, all_members, start_of, AreFull, begins_low, ends_below, PartsLow}
use Rattle.hippo_tables_keyed.specs.Searches.{place_from}
use Rattle.hippo_tables_keyed.proofs.PiecesLemmas.{some_member, full_at, piece_at, start_of-next, start_of-rises, start_of-end, start_of-within}

greater_from : (o : Ordering) → 2 ≤ ordering_index o → o ≡ Greater
greater_from Less high = absurd (omega arith)
greater_from Equal high = absurd (omega arith)
greater_from Greater high = refl

less_from : (o : Ordering) → ordering_index o ≤ 0 → o ≡ Less
less_from Less low = refl
less_from Equal low = absurd (omega arith)
less_from Greater low = absurd (omega arith)

least_from_test : (o : Ordering) → is_lt o ≡ true → ordering_index o ≤ 0
least_from_test Less test = omega arith
least_from_test Equal test = absurd (false≢true test)
least_from_test Greater test = absurd (false≢true test)

high_from_test : (o : Ordering) → is_le o ≡ false → 2 ≤ ordering_index o
high_from_test Less test = absurd (false≢true (sym test))
high_from_test Equal test = absurd (false≢true (sym test))
high_from_test Greater test = omega arith

low_from_test : (o : Ordering) → is_le o ≡ true → ordering_index o ≤ 1
low_from_test Less test = omega arith
low_from_test Equal test = omega arith
low_from_test Greater test = absurd (false≢true test)

test_from_low : (o : Ordering) → ordering_index o ≤ 1 → is_le o ≡ true
test_from_low Less low = refl
test_from_low Equal low = refl
test_from_low Greater low = absurd (omega arith)

module _ {A : Type 0} (order : A → Ordering) where
  begins_low-first : (members : List A) (d : A) → 0 < length members → begins_low order members ≡ is_le (order (get_or members 0 d))
  begins_low-first [] d some = absurd (omega arith)
  begins_low-first (first ∷ rest) d some = refl

  module _ (contents : List (List A)) (full : AreFull contents) where
    first_at : (i : ℕ) (d : A) → i < length contents → get_or (get_or contents i []) 0 d ≡ get_or (all_members contents) (start_of contents i) d
    first_at i d within = sym (get_or-flat_map (λ members. members) contents i 0 [] d within (full_at contents full i within)) ∙ ap (λ place. get_or (all_members contents) place d) (add-zero (start_of contents i))

    low_at : (i : ℕ) (d : A) → i < length contents → begins_low order (get_or contents i []) ≡ is_le (order (get_or (all_members contents) (start_of contents i) d))
    low_at i d within = begins_low-first (get_or contents i []) d (full_at contents full i within) ∙ ap (λ member. is_le (order member)) (first_at i d within)

    start_within : (i : ℕ) → i < length contents → start_of contents i < length (all_members contents)
    start_within i within = omega (arith, full_at contents full i within, start_of-next contents i within, start_of-within contents (suc i))

    module _ (rises : IsNonDecreasingBy (λ member. ordering_index (order member)) (all_members contents)) where
      lows_first : (i j : ℕ) → i ≤ j → j < length contents → begins_low order (get_or contents j []) ≡ true → begins_low order (get_or contents i []) ≡ true
      lows_first i j before within low =
          let d : A = some_member (get_or contents j []) (full_at contents full j within) in
          let at_j = low_from_test (order (get_or (all_members contents) (start_of contents j) d)) (sym (low_at j d within) ∙ low) in
          let up = rises (start_of contents i) (start_of contents j) d (start_of-rises contents i j before) (start_within j within) in
          low_at i d (omega arith) ∙ test_from_low (order (get_or (all_members contents) (start_of contents i) d)) (omega arith)

      -- after a piece that does not begin low, all members are above
      above_from : (i : ℕ) → i < length contents → begins_low order (get_or contents i []) ≡ false → AllWithin (λ member. order member ≡ Greater) (all_members contents) (start_of contents i) (length (all_members contents))
      above_from i within high k d low inside =
          let at_i = high_from_test (order (get_or (all_members contents) (start_of contents i) d)) (sym (low_at i d within) ∙ high) in
          let up = rises (start_of contents i) k d low inside in
          greater_from (order (get_or (all_members contents) k d)) (omega arith)

      module _ (i : ℕ) (within : i < length contents) (low : begins_low order (get_or contents i []) ≡ true) (next : suc i < length contents → begins_low order (get_or contents (suc i) []) ≡ false) where
        here : (k : ℕ) (d : A) → start_of contents i ≤ k → k < start_of contents i + length (get_or contents i []) → get_or (get_or contents i []) (k - start_of contents i) d ≡ get_or (all_members contents) k d
        here k d after before =
            let place : start_of contents i + (k - start_of contents i) ≡ k = omega arith in
            sym (get_or-flat_map (λ members. members) contents i (k - start_of contents i) [] d within (omega arith)) ∙ ap (λ place. get_or (all_members contents) place d) place

        there : (k : ℕ) (d : A) → k < length (get_or contents i []) → get_or (all_members contents) (start_of contents i + k) d ≡ get_or (get_or contents i []) k d
        there k d inside = get_or-flat_map (λ members. members) contents i k [] d within inside

        end_here : start_of contents i + length (get_or contents i []) ≤ length (all_members contents)
        end_here = omega (arith, start_of-next contents i within, start_of-within contents (suc i))

        rises_here : IsNonDecreasingBy (λ member. ordering_index (order member)) (get_or contents i [])
        rises_here a b d before inside = rw (← there a d (omega arith), ← there b d inside) (rises (start_of contents i + a) (start_of contents i + b) d (omega arith) (omega (arith, end_here)))

        module _ (j : ℕ) (range : j ≤ length (get_or contents i [])) (parted : IsPartitionPoint (λ member. order member ≡ Less) (λ member. order member ≡ Greater) (get_or contents i []) j) where
          not_first : 0 < j
          not_first = elim (cases_lt 0 j) [
            | inl some ↦ some
            | inr none ↦
                let d : A = some_member (get_or contents i []) (full_at contents full i within) in
                let greater = parted.1 0 d (omega arith) (full_at contents full i within) in
                absurd (false≢true (sym (ap is_le greater) ∙ sym (begins_low-first (get_or contents i []) d (full_at contents full i within)) ∙ low))
          ]

          below : AllWithin (λ member. order member ≡ Less) (all_members contents) 0 (start_of contents i + j)
          below k d from inside = elim (cases_lt k (start_of contents i)) [
            | inl before ↦
                let least = parted.0 0 d (omega arith) not_first in
                let up = rises k (start_of contents i) d (omega arith) (start_within i within) in
                less_from (order (get_or (all_members contents) k d)) (subst (λ (o : Ordering). ordering_index (order (get_or (all_members contents) k d)) ≤ ordering_index o) (ap order (sym (first_at i d within)) ∙ least) up)
            | inr after ↦ ap order (sym (here k d after (omega arith))) ∙ parted.0 (k - start_of contents i) d (omega arith) (omega arith)
          ]

          above : AllWithin (λ member. order member ≡ Greater) (all_members contents) (start_of contents i + j) (length (all_members contents))
          above k d after inside = elim (cases_lt k (start_of contents i + length (get_or contents i []))) [
            | inl before ↦ ap order (sym (here k d (omega arith) before)) ∙ parted.1 (k - start_of contents i) d (omega arith) (omega arith)
            | inr past ↦ elim (cases_lt (suc i) (length contents)) [
              | inl more ↦ above_from (suc i) more (next more) k d (omega (arith, start_of-next contents i within)) inside
              | inr last ↦ absurd (omega (arith, start_of-next contents i within, start_of-end contents (suc i) last))
            ]
          ]

  abbrev pub IsFound : List A → ℕ → Type 0
  IsFound = HoldsAt (λ member. order member ≡ Equal)

  abbrev pub Parts : List A → ℕ → Type 0
  Parts members place = IsNonDecreasingBy (λ member. ordering_index (order member)) members
      → IsPartitionPoint (λ member. order member ≡ Less) (λ member. order member ≡ Greater) members place

  -- if the last member is below the wanted one, all are
  pub missing_after : (members : List A) → ends_below order members ≡ true → Parts members (length members)
  missing_after members below rises = (all_less, λ k d low inside. absurd (omega arith))
    where
      all_less : AllWithin (λ member. order member ≡ Less) members 0 (length members)
      all_less k d from inside =
          let last = length members - 1 in
          let end = sym (ap (λ found. option_map_or (λ member. is_lt (order member)) found true) (slice_get-get_or members last d (omega arith))) ∙ below in
          let least = least_from_test (order (get_or members last d)) end in
          less_from (order (get_or members k d)) (omega (arith, least, rises k last d (omega arith) (omega arith)))

  -- The pieces are those of these rows, and this many of them begin low.
  module _ (rows : List A) {value : List (Piece A)} (pieces : List (Piece A)) (same : pieces ≡ value) (invariant : AreFull (contents value)) (view : all_members (contents value) ≡ rows)
      (split : ℕ) (range : split ≤ length pieces) (clause : PartsLow order pieces split) where
    full : AreFull (contents pieces)
    full = subst (λ (held : List (Piece A)). AreFull (contents held)) (sym same) invariant

    whole : all_members (contents pieces) ≡ rows
    whole = ap (λ (held : List (Piece A)). all_members (contents held)) same ∙ view

    size : length (contents pieces) ≡ length pieces
    size = length-map pieces (λ (piece : Piece A). piece.members.items)

    parted : IsNonDecreasingBy (λ member. ordering_index (order member)) (all_members (contents pieces)) → IsPartitionPoint (λ (piece : Piece A). begins_low order piece.members.items ≡ true) (λ (piece : Piece A). begins_low order piece.members.items ≡ false) pieces split
    parted rises = clause (λ i j d before within low.
        rw (← piece_at pieces i d (omega arith)) (lows_first (contents pieces) full rises i j before (omega (arith, size)) (rw (piece_at pieces j d within) low)))

    -- no piece begins low
    pub missing_before : split ≡ 0 → Parts rows 0
    missing_before none = subst (λ (rows : List A). Parts rows 0) whole (λ rises. (λ k d from inside. absurd (omega arith), above rises))
      where
        some_piece : (ps : List (Piece A)) → 0 < length (all_members (contents ps)) → Piece A
        some_piece [] some = absurd (omega arith)
        some_piece (first ∷ rest) some = first

        some_left : (ps : List (Piece A)) → 0 < length (all_members (contents ps)) → 0 < length ps
        some_left [] some = absurd (omega arith)
        some_left (first ∷ rest) some = omega arith

        above : IsNonDecreasingBy (λ member. ordering_index (order member)) (all_members (contents pieces)) → AllWithin (λ member. order member ≡ Greater) (all_members (contents pieces)) 0 (length (all_members (contents pieces)))
        above rises k d low inside =
            let some : 0 < length pieces = some_left pieces (omega arith) in
            let p : Piece A = some_piece pieces (omega arith) in
            let high = (parted rises).1 0 p (omega arith) some in
            above_from (contents pieces) full rises 0 (omega (arith, size)) (ap (begins_low order) (piece_at pieces 0 p some) ∙ high) k d (omega arith) inside

    module _ (i : ℕ) (piece : Piece A) (at : split ≡ i + 1) (read : piece ≡ get_or pieces i piece) where
      in_pieces : i < length pieces
      in_pieces = omega (arith, range)

      in_range : i < length (contents pieces)
      in_range = omega (arith, size, in_pieces)

      held : get_or (contents pieces) i [] ≡ piece.members.items
      held = piece_at pieces i piece in_pieces ∙ ap (λ (piece : Piece A). piece.members.items) (sym read)

      ends_inside : start_of (contents pieces) i + length piece.members.items ≤ length rows
      ends_inside = omega (arith, ap length whole, ap length held, start_of-next (contents pieces) i in_range, start_of-within (contents pieces) (suc i))

      -- the member is found in the last piece that begins low
      found_in : (place : ℕ) → place < length piece.members.items → IsFound piece.members.items place → IsFound rows (start_of (contents pieces) i + place)
      found_in place range equal = subst (λ (rows : List A). IsFound rows (start_of (contents pieces) i + place)) whole (λ d.
          ap order (get_or-flat_map (λ members. members) (contents pieces) i place [] d in_range (rw held range) ∙ ap (λ members. get_or members place d) held) ∙ equal d)

      -- or would be inserted there
      missing_in : (place : ℕ) → place ≤ length piece.members.items → Parts piece.members.items place → Parts rows (start_of (contents pieces) i + place)
      missing_in place range missing = subst (λ (rows : List A). Parts rows (start_of (contents pieces) i + place)) whole (λ rises.
          let low : begins_low order (get_or (contents pieces) i []) ≡ true = ap (begins_low order) (piece_at pieces i piece in_pieces) ∙ (parted rises).0 i piece (omega arith) (omega arith) in
          let next : suc i < length (contents pieces) → begins_low order (get_or (contents pieces) (suc i) []) ≡ false = λ more. ap (begins_low order) (piece_at pieces (suc i) piece (omega (arith, size))) ∙ (parted rises).1 (suc i) piece (omega arith) (omega (arith, size)) in
          let parts = subst (λ (members : List A). Parts members place) (sym held) missing (rises_here (contents pieces) full rises i in_range low next) in
          (below (contents pieces) full rises i in_range low next place (rw held range) parts, above (contents pieces) full rises i in_range low next place (rw held range) parts))

      -- the result in the piece is the result among all rows, after those before the piece
      pub range_after : (found : Result ℕ ℕ) → IsSearchInRange found (length piece.members.items) → IsSearchInRange (place_from (start_of (contents pieces) i) found) (length rows)
      range_after (Ok place) range = omega (arith, ends_inside, range)
      range_after (Err place) range = omega (arith, ends_inside, range)

      pub few_after : (limit : ℕ) → length rows ≤ limit → (found : Result ℕ ℕ) → IsSearchInRange found (length piece.members.items) → IsSearchInRange found (limit - start_of (contents pieces) i)
      few_after limit few (Ok place) range = omega (arith, ends_inside, range, few)
      few_after limit few (Err place) range = omega (arith, ends_inside, range, few)

      pub found_from : (found : Result ℕ ℕ) → IsSearchInRange found (length piece.members.items) → IsBinarySearchResult order piece.members.items found → IsBinarySearchResult order rows (place_from (start_of (contents pieces) i) found)
      found_from (Ok place) range equal = found_in place range equal
      found_from (Err place) range missing = missing_in place range missing
