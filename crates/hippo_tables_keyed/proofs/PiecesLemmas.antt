-- A list held in pieces: where each piece begins, and the effect of an edit of one piece on the
-- list.
use Rattle.std.proofs.Common.{◌≡◌, ℕ, zero, suc, ◌+◌, ◌-◌, ◌<◌, ◌≤◌, true, false, List, [], ◌∷◌, ◌++◌, map, length, get_or, set, take, drop, inl, inr, Some, sym, ap, ◌∙◌, refl, subst, arith, add-one, zero-add, slice_get, nat_le}
use Rattle.std.specs.Prelude.{◌==◌}
use Rattle.std.specs.List.{insert, remove}
use Rattle.std.specs.List.Sorted.{IsNonDecreasingBy, IsPartitionPoint}
use Rattle.std.proofs.lemmas.List.{get_or_default, length-append, length-map, length-set, map-append, map-set, get_or-map, set_split, set-get_or, set-append_left, set-append_right, append_assoc, take-map, take_more_set, drop-set-lt}
use Rattle.std.proofs.lemmas.List.Concat.{flat_map-append, get_or-flat_map}
use Rattle.std.proofs.lemmas.List.Edits.{length-insert, insert-append_left, insert-append_right, remove-append_left, remove-append_right}
use Rattle.std.proofs.lemmas.Option.{slice_get-get_or, slice_get_within, get_or_from_slice_get}
use Rattle.std.proofs.lemmas.Bool.{cases_lt}
use Rattle.std.proofs.lemmas.Bool.Decides.{nat_tests}
use Rattle.hippo_tables_keyed.specs.declared.pieces.Piece.{Piece}
use Rattle.hippo_tables_keyed.specs.Pieces.{contents, all_members, start_of, ends_of, IsMarked, AreFull, IsReached, IsWhole, IsCutInTwo}

le_from_test : (a b : ℕ) → nat_le a b ≡ true → a ≤ b
le_from_test a b passes = grind (arith, nat_tests)

lt_from_test : (a b : ℕ) → nat_le a b ≡ false → b < a
lt_from_test a b fails = grind (arith, nat_tests)

remove-set : {X : Type 0} (xs : List X) (i : ℕ) (x : X) → remove (set xs i x) i ≡ remove xs i
remove-set [] zero x = refl
remove-set [] (suc i) x = refl
remove-set (first ∷ rest) zero x = refl
remove-set (first ∷ rest) (suc i) x = ap (λ rest. first ∷ rest) (remove-set rest i x)

pub zero_from_test : (n : ℕ) → true ≡ (n == 0) → n ≡ 0
zero_from_test n test = grind (arith, nat_tests)

pub some_from_test : (n : ℕ) → false ≡ (n == 0) → 0 < n
some_from_test n test = grind (arith, nat_tests)

pub some_member : {A : Type 0} (members : List A) → 0 < length members → A
some_member [] some = absurd (omega arith)
some_member (first ∷ rest) some = first

pub full_at : {A : Type 0} (contents : List (List A)) → AreFull contents → (i : ℕ) → i < length contents → 0 < length (get_or contents i [])
full_at [] full i within = absurd (omega arith)
full_at (first ∷ rest) full zero within = full.0
full_at (first ∷ rest) full (suc i) within = full_at rest full.1 i (omega arith)

plus_less : (n m : ℕ) → n + m - n ≡ m
plus_less n m = omega arith

module _ {A : Type 0} where
  pub all_members-set : (contents : List (List A)) (i : ℕ) (members : List A) → i < length contents → all_members (set contents i members) ≡ all_members (take i contents) ++ (members ++ all_members (drop (suc i) contents))
  all_members-set contents i members within = rw (set_split contents i members within) (flat_map-append (λ members. members) (take i contents) (members ∷ drop (suc i) contents))

  pub joined_around : (contents : List (List A)) (i : ℕ) → i < length contents → all_members contents ≡ all_members (take i contents) ++ (get_or contents i [] ++ all_members (drop (suc i) contents))
  joined_around contents i within = ap all_members (sym (set-get_or contents i [])) ∙ all_members-set contents i (get_or contents i []) within

  -- an edit at a place skips the members before it and leaves those after it
  module _ (edit : List A → ℕ → List A) (right : (xs ys : List A) (n i : ℕ) → length xs ≡ n → n ≤ i → edit (xs ++ ys) i ≡ xs ++ edit ys (i - n)) (contents : List (List A)) (i j : ℕ) (within : i < length contents) (left : (ys : List A) → edit (get_or contents i [] ++ ys) j ≡ edit (get_or contents i []) j ++ ys) where
    pub joined_edit : all_members (set contents i (edit (get_or contents i []) j)) ≡ edit (all_members contents) (start_of contents i + j)
    joined_edit =
        let start = start_of contents i in
        let here = get_or contents i [] in
        let remaining = all_members (drop (suc i) contents) in
        all_members-set contents i (edit here j) within
        ∙ sym (ap (λ all. edit all (start + j)) (joined_around contents i within)
        ∙ right (all_members (take i contents)) (here ++ remaining) start (start + j) refl (omega arith)
        ∙ ap (λ place. all_members (take i contents) ++ edit (here ++ remaining) place) (plus_less start j)
        ∙ ap (λ rest. all_members (take i contents) ++ rest) (left remaining))

  module _ (contents : List (List A)) (i j : ℕ) (within : i < length contents) where
    pub all_members-set_in : (member : A) → j < length (get_or contents i []) → all_members (set contents i (set (get_or contents i []) j member)) ≡ set (all_members contents) (start_of contents i + j) member
    all_members-set_in member inside = joined_edit (λ all place. set all place member) (λ xs ys n i. set-append_right xs ys n i member) contents i j within (λ ys. set-append_left (get_or contents i []) ys j member inside)

    pub all_members-insert_in : (member : A) → j ≤ length (get_or contents i []) → all_members (set contents i (insert (get_or contents i []) j member)) ≡ insert (all_members contents) (start_of contents i + j) member
    all_members-insert_in member inside = joined_edit (λ all place. insert all place member) (λ xs ys n i. insert-append_right xs ys n i member) contents i j within (λ ys. insert-append_left (get_or contents i []) ys j member inside)

    pub all_members-remove_in : j < length (get_or contents i []) → all_members (set contents i (remove (get_or contents i []) j)) ≡ remove (all_members contents) (start_of contents i + j)
    all_members-remove_in inside = joined_edit remove remove-append_right contents i j within (λ ys. remove-append_left (get_or contents i []) ys j inside)

    -- the member at a place of a piece
    pub slice_get-all_members : (member : A) → j < length (get_or contents i []) → member ≡ get_or (get_or contents i []) j member → slice_get (all_members contents) (start_of contents i + j) ≡ Some member
    slice_get-all_members member inside read =
        slice_get-get_or (all_members contents) (start_of contents i + j) member (omega (arith, ap length (joined_around contents i within), length-append (all_members (take i contents)) (get_or contents i [] ++ all_members (drop (suc i) contents)), length-append (get_or contents i []) (all_members (drop (suc i) contents))))
        ∙ ap Some (get_or-flat_map (λ members. members) contents i j [] member within inside ∙ sym read)

  -- the ends of the pieces
  pub get_or-ends_of : (start : ℕ) (contents : List (List A)) (i : ℕ) → i < length contents → get_or (ends_of start contents) i 0 ≡ start + start_of contents (suc i)
  get_or-ends_of start [] i within = absurd (omega arith)
  get_or-ends_of start (members ∷ rest) zero within = omega (arith, length-append members [])
  get_or-ends_of start (members ∷ rest) (suc i) within = omega (arith, get_or-ends_of (start + length members) rest i (omega arith), length-append members (all_members (take (suc i) rest)))

  pub length-ends_of : (start : ℕ) (contents : List (List A)) → length (ends_of start contents) ≡ length contents
  length-ends_of start [] = refl
  length-ends_of start (members ∷ rest) = ap suc (length-ends_of (start + length members) rest)

  pub ends_of-append : (start : ℕ) (contents : List (List A)) (members : List A) → ends_of start (contents ++ members ∷ []) ≡ ends_of start contents ++ (start + length (all_members contents) + length members) ∷ []
  ends_of-append start [] members = let same : start + length members ≡ start + 0 + length members = omega arith in ap (λ end. end ∷ []) same
  ends_of-append start (first ∷ rest) members =
      let same : start + length first + length (all_members rest) + length members ≡ start + length (first ++ all_members rest) + length members = omega (arith, length-append first (all_members rest)) in
      ap (λ ends. (start + length first) ∷ ends) (ends_of-append (start + length first) rest members ∙ ap (λ end. ends_of (start + length first) rest ++ end ∷ []) same)

  -- the starts ascend
  pub start_of-next : (contents : List (List A)) (i : ℕ) → i < length contents → start_of contents (suc i) ≡ start_of contents i + length (get_or contents i [])
  start_of-next [] i within = absurd (omega arith)
  start_of-next (members ∷ rest) zero within = omega (arith, length-append members [])
  start_of-next (members ∷ rest) (suc i) within = omega (arith, start_of-next rest i (omega arith), length-append members (all_members (take i rest)), length-append members (all_members (take (suc i) rest)))

  pub start_of-rises : (contents : List (List A)) (i j : ℕ) → i ≤ j → start_of contents i ≤ start_of contents j
  start_of-rises contents zero j order = omega arith
  start_of-rises contents (suc i) zero order = absurd (omega arith)
  start_of-rises [] (suc i) (suc j) order = omega arith
  start_of-rises (members ∷ rest) (suc i) (suc j) order = omega (arith, start_of-rises rest i j (omega arith), length-append members (all_members (take i rest)), length-append members (all_members (take j rest)))

  pub start_of-end : (contents : List (List A)) (i : ℕ) → length contents ≤ i → start_of contents i ≡ length (all_members contents)
  start_of-end [] zero past = refl
  start_of-end [] (suc i) past = refl
  start_of-end (members ∷ rest) zero past = absurd (omega arith)
  start_of-end (members ∷ rest) (suc i) past = omega (arith, start_of-end rest i (omega arith), length-append members (all_members (take i rest)), length-append members (all_members rest))

  pub start_of-within : (contents : List (List A)) (i : ℕ) → start_of contents i ≤ length (all_members contents)
  start_of-within [] zero = omega arith
  start_of-within [] (suc i) = omega arith
  start_of-within (members ∷ rest) zero = omega arith
  start_of-within (members ∷ rest) (suc i) = omega (arith, start_of-within rest i, length-append members (all_members (take i rest)), length-append members (all_members rest))

  within_from : (contents : List (List A)) (i place : ℕ) → start_of contents i ≤ place → place < length (all_members contents) → i < length contents
  within_from contents i place low within = elim (cases_lt i (length contents)) [ inl less ↦ less | inr past ↦ absurd (omega (arith, start_of-end contents i past)) ]

  module _ (pieces : List (Piece A)) (marked : IsMarked pieces) where
    -- a marked piece ends where the next one begins
    pub end_of_piece : (i : ℕ) (d : Piece A) → i < length pieces → (get_or pieces i d).end ≡ start_of (contents pieces) (suc i)
    end_of_piece i d within =
        let inside : i < length (contents pieces) = omega (arith, length-map pieces (λ (piece : Piece A). piece.members.items)) in
        sym (get_or-map (λ (piece : Piece A). piece.end) pieces i d 0 within)
        ∙ ap (λ ends. get_or ends i 0) marked
        ∙ get_or-ends_of 0 (contents pieces) i inside ∙ zero-add (start_of (contents pieces) (suc i))

    pub ends_rise : IsNonDecreasingBy (λ (piece : Piece A). piece.end) pieces
    ends_rise i j d order within = rw (end_of_piece i d (omega arith), end_of_piece j d within) (start_of-rises (contents pieces) (suc i) (suc j) (omega arith))

    module _ (place : ℕ) (d : Piece A) where
      parted_low : (index : ℕ) → index ≤ length pieces → IsPartitionPoint (λ (piece : Piece A). nat_le piece.end place ≡ true) (λ (piece : Piece A). nat_le piece.end place ≡ false) pieces index → start_of (contents pieces) index ≤ place
      parted_low zero range parted = omega arith
      parted_low (suc i) range parted = omega (arith, end_of_piece i d (omega arith), le_from_test (get_or pieces i d).end place (parted.0 i d (omega arith) (omega arith)))

      parted_reached : (index : ℕ) → index ≤ length pieces → IsPartitionPoint (λ (piece : Piece A). nat_le piece.end place ≡ true) (λ (piece : Piece A). nat_le piece.end place ≡ false) pieces index → place < length (all_members (contents pieces)) → (index < length (contents pieces)) × (place < start_of (contents pieces) index + length (get_or (contents pieces) index []))
      parted_reached index range parted within =
          let size : length (contents pieces) ≡ length pieces = length-map pieces (λ (piece : Piece A). piece.members.items) in
          let inside : index < length (contents pieces) = within_from (contents pieces) index place (parted_low index range parted) within in
          let above = lt_from_test (get_or pieces index d).end place (parted.1 index d (omega arith) (omega arith)) in
          (inside, omega (arith, above, end_of_piece index d (omega arith), start_of-next (contents pieces) index inside))

  -- a piece that begins at or before a place and ends after it
  pub IsReached-held : (pieces : List (Piece A)) → IsMarked pieces → (place index start : ℕ) (piece : Piece A) → index < length pieces → piece ≡ get_or pieces index piece → start ≡ start_of (contents pieces) index → start ≤ place → place < piece.end → IsReached (contents pieces) place index start
  IsReached-held pieces marked place index start piece inside here begins low below =
      let within : index < length (contents pieces) = omega (arith, inside, length-map pieces (λ (piece : Piece A). piece.members.items)) in
      record { begins = begins; low = low; reached = λ bound. (within, omega (arith, begins, below, ap (λ (piece : Piece A). piece.end) here, end_of_piece pieces marked index piece inside, start_of-next (contents pieces) index within)) }

  -- the piece that a search for a place finds
  pub IsReached-parted : (pieces : List (Piece A)) → IsMarked pieces → (place index start : ℕ) → index ≤ length pieces → IsPartitionPoint (λ (piece : Piece A). nat_le piece.end place ≡ true) (λ (piece : Piece A). nat_le piece.end place ≡ false) pieces index → start ≡ start_of (contents pieces) index → IsReached (contents pieces) place index start
  IsReached-parted [] marked place zero start range parted begins = record { begins = begins; low = omega arith; reached = λ within. absurd (omega arith) }
  IsReached-parted [] marked place (suc index) start range parted begins = absurd (omega arith)
  IsReached-parted (first ∷ rest) marked place index start range parted begins =
      let pieces : List (Piece A) = first ∷ rest in
      record {
        begins = begins;
        low = rw begins (parted_low pieces marked place first index range parted);
        reached = λ within. rw begins (parted_reached pieces marked place first index range parted within);
      }

  -- a piece as it is read
  pub piece_read : (pieces : List (Piece A)) (i : ℕ) (piece : Piece A) → i < length pieces → piece ≡ get_or pieces i piece → get_or (contents pieces) i [] ≡ piece.members.items
  piece_read pieces i piece within read = get_or-map (λ (piece : Piece A). piece.members.items) pieces i piece [] within ∙ ap (λ (piece : Piece A). piece.members.items) (sym read)

  pub contents-set : (pieces : List (Piece A)) (i : ℕ) (piece : Piece A) → contents (set pieces i piece) ≡ set (contents pieces) i piece.members.items
  contents-set pieces i piece = map-set (λ (piece : Piece A). piece.members.items) pieces i piece

  pub piece_at : (pieces : List (Piece A)) (i : ℕ) (d : Piece A) → i < length pieces → get_or (contents pieces) i [] ≡ (get_or pieces i d).members.items
  piece_at pieces i d within = get_or-map (λ (piece : Piece A). piece.members.items) pieces i d [] within

  -- a piece replaced by one with the same members
  pub contents-kept : (pieces : List (Piece A)) (i : ℕ) (d piece : Piece A) → i < length pieces → piece.members.items ≡ (get_or pieces i d).members.items → contents (set pieces i piece) ≡ contents pieces
  contents-kept pieces i d piece within same = contents-set pieces i piece ∙ ap (set (contents pieces) i) (same ∙ sym (piece_at pieces i d within)) ∙ set-get_or (contents pieces) i []

  pub contents-take : (pieces : List (Piece A)) (i : ℕ) → contents (take i pieces) ≡ take i (contents pieces)
  contents-take pieces i = sym (take-map (λ (piece : Piece A). piece.members.items) i pieces)

  -- one more piece has its end stored
  pub IsMarked-more : (pieces : List (Piece A)) (i : ℕ) (piece : Piece A) → i < length pieces → IsMarked (take i pieces) → piece.end ≡ start_of (contents pieces) i + length piece.members.items → IsMarked (take (i + 1) (set pieces i piece))
  IsMarked-more pieces i piece within marked ends =
      let shorter : length (all_members (contents (take i pieces))) ≡ start_of (contents pieces) i = ap (λ (lists : List (List A)). length (all_members lists)) (contents-take pieces i) in
      let end : piece.end ≡ 0 + length (all_members (contents (take i pieces))) + length piece.members.items = omega arith in
      rw (take_more_set pieces i piece within)
      (map-append (λ (piece : Piece A). piece.end) (take i pieces) (piece ∷ [])
      ∙ ap (λ ends. ends ++ piece.end ∷ []) marked
      ∙ ap (λ end. ends_of 0 (contents (take i pieces)) ++ end ∷ []) end
      ∙ sym (ends_of-append 0 (contents (take i pieces)) piece.members.items)
      ∙ ap (ends_of 0) (sym (map-append (λ (piece : Piece A). piece.members.items) (take i pieces) (piece ∷ []))))

  take-ends_of : (start : ℕ) (i : ℕ) (contents : List (List A)) → take i (ends_of start contents) ≡ ends_of start (take i contents)
  take-ends_of start zero contents = refl
  take-ends_of start (suc i) [] = refl
  take-ends_of start (suc i) (members ∷ rest) = ap (λ ends. (start + length members) ∷ ends) (take-ends_of (start + length members) i rest)

  -- if all pieces have correct ends, so do the first ones
  pub IsMarked-take : (pieces : List (Piece A)) (i : ℕ) → IsMarked pieces → IsMarked (take i pieces)
  IsMarked-take pieces i marked =
      sym (take-map (λ (piece : Piece A). piece.end) i pieces) ∙ ap (take i) marked
      ∙ take-ends_of 0 i (contents pieces) ∙ ap (ends_of 0) (sym (contents-take pieces i))

  ends_of-set : (start : ℕ) (contents : List (List A)) (i : ℕ) (members : List A) → length members ≡ length (get_or contents i []) → ends_of start (set contents i members) ≡ ends_of start contents
  ends_of-set start [] i members same = refl
  ends_of-set start (first ∷ rest) zero members same = rw same
  ends_of-set start (first ∷ rest) (suc i) members same = ap (λ ends. (start + length first) ∷ ends) (ends_of-set (start + length first) rest i members same)

  pub ends-kept : (pieces : List (Piece A)) (i : ℕ) (old piece : Piece A) → i < length pieces → old ≡ get_or pieces i old → piece.end ≡ old.end → map (λ (piece : Piece A). piece.end) (set pieces i piece) ≡ map (λ (piece : Piece A). piece.end) pieces
  ends-kept pieces i old piece within read same =
      map-set (λ (piece : Piece A). piece.end) pieces i piece
      ∙ ap (set (map (λ (piece : Piece A). piece.end) pieces) i) (same ∙ ap (λ (piece : Piece A). piece.end) read ∙ sym (get_or-map (λ (piece : Piece A). piece.end) pieces i old 0 within))
      ∙ set-get_or (map (λ (piece : Piece A). piece.end) pieces) i 0

  -- a piece replaced by one with the same length and end
  pub IsMarked-set : (pieces : List (Piece A)) (i : ℕ) (old piece : Piece A) → i < length pieces → old ≡ get_or pieces i old → piece.end ≡ old.end → length piece.members.items ≡ length old.members.items → IsMarked pieces → IsMarked (set pieces i piece)
  IsMarked-set pieces i old piece within read same long marked =
      let e = piece_read pieces i old within read in
      let size : length piece.members.items ≡ length (get_or (contents pieces) i []) = long ∙ ap length (sym e) in
      ends-kept pieces i old piece within read same
      ∙ marked ∙ sym (ends_of-set 0 (contents pieces) i piece.members.items size) ∙ ap (ends_of 0) (sym (contents-set pieces i piece))

  pub AreFull-set : (contents : List (List A)) (i : ℕ) (members : List A) → 0 < length members → AreFull contents → AreFull (set contents i members)
  AreFull-set [] i members some full = tt
  AreFull-set (first ∷ rest) zero members some full = (some, full.1)
  AreFull-set (first ∷ rest) (suc i) members some full = (full.0, AreFull-set rest i members some full.1)

  module _ (pieces : List (Piece A)) (place index start : ℕ) (reached : IsReached (contents pieces) place index start) (within : place < length (all_members (contents pieces))) (piece : Piece A) (read : piece ≡ get_or pieces index piece) where
    index_in : index < length (contents pieces)
    index_in = (reached.reached within).0

    pub index_of_reached : index < length pieces
    index_of_reached = omega (arith, index_in, length-map pieces (λ (piece : Piece A). piece.members.items))

    here : get_or (contents pieces) index [] ≡ piece.members.items
    here = piece_read pieces index piece index_of_reached read

    pub place_of_reached : place - start < length piece.members.items
    place_of_reached = omega (arith, (reached.reached within).1, reached.low, ap length here)

    whole_place : start_of (contents pieces) index + (place - start) ≡ place
    whole_place = omega (arith, reached.begins, reached.low)

    -- the member at a place
    pub member_reached : (member : A) → member ≡ get_or piece.members.items (place - start) member → slice_get (all_members (contents pieces)) place ≡ Some member
    member_reached member found =
        ap (slice_get (all_members (contents pieces))) (sym whole_place)
        ∙ slice_get-all_members (contents pieces) index (place - start) index_in member (rw here place_of_reached) (rw here found)

    -- and the list after it is overwritten
    pub joined_written : (new : Piece A) (member : A) → new.members.items ≡ set piece.members.items (place - start) member → all_members (contents (set pieces index new)) ≡ set (all_members (contents pieces)) place member
    joined_written new member written =
        ap all_members (contents-set pieces index new ∙ ap (set (contents pieces) index) (written ∙ ap (λ members. set members (place - start) member) (sym here)))
        ∙ all_members-set_in (contents pieces) index (place - start) index_in member (rw here place_of_reached)
        ∙ ap (λ at. set (all_members (contents pieces)) at member) whole_place

    pub IsWhole-written : (count : ℕ) → IsWhole pieces count → (new : Piece A) (member : A) → new.end ≡ piece.end → new.members.items ≡ set piece.members.items (place - start) member → IsWhole (set pieces index new) count
    IsWhole-written count whole new member same written =
        let size : length new.members.items ≡ length piece.members.items = ap length written ∙ length-set piece.members.items (place - start) member in
        record {
          marked = IsMarked-set pieces index piece new index_of_reached read same size whole.marked;
          full = rw (contents-set pieces index new) (AreFull-set (contents pieces) index new.members.items (omega (arith, size, place_of_reached)) whole.full);
          counted = whole.counted ∙ sym (ap length (joined_written new member written) ∙ length-set (all_members (contents pieces)) place member);
        }

  pub size_below_end : (pieces : List (Piece A)) → IsMarked pieces → (i : ℕ) (d : Piece A) → i < length pieces → length (get_or pieces i d).members.items ≤ (get_or pieces i d).end
  size_below_end pieces marked i d within =
      let inside : i < length (contents pieces) = omega (arith, length-map pieces (λ (piece : Piece A). piece.members.items)) in
      omega (arith, end_of_piece pieces marked i d within, start_of-next (contents pieces) i inside, ap length (piece_at pieces i d within))

  pub AreFull-remove : (contents : List (List A)) (i : ℕ) → AreFull contents → AreFull (remove contents i)
  AreFull-remove [] zero full = tt
  AreFull-remove [] (suc i) full = tt
  AreFull-remove (first ∷ rest) zero full = full.1
  AreFull-remove (first ∷ rest) (suc i) full = (full.0, AreFull-remove rest i full.1)

  contents-remove : (pieces : List (Piece A)) (i : ℕ) → contents (remove pieces i) ≡ remove (contents pieces) i
  contents-remove [] zero = refl
  contents-remove [] (suc i) = refl
  contents-remove (first ∷ rest) zero = refl
  contents-remove (first ∷ rest) (suc i) = ap (λ rest. first.members.items ∷ rest) (contents-remove rest i)

  module _ (pieces : List (Piece A)) (i j : ℕ) (old new : Piece A) (within : i < length pieces) (read : old ≡ get_or pieces i old) where
    inside : i < length (contents pieces)
    inside = omega (arith, length-map pieces (λ (piece : Piece A). piece.members.items))

    there : get_or (contents pieces) i [] ≡ old.members.items
    there = piece_read pieces i old within read

    -- a piece with one more member
    pub joined_put : (member : A) → j ≤ length (get_or (contents pieces) i []) → new.members.items ≡ insert old.members.items j member → all_members (contents (set pieces i new)) ≡ insert (all_members (contents pieces)) (start_of (contents pieces) i + j) member
    joined_put member range is =
        ap all_members (contents-set pieces i new ∙ ap (set (contents pieces) i) (is ∙ ap (λ members. insert members j member) (sym there)))
        ∙ all_members-insert_in (contents pieces) i j inside member range

    pub AreFull-put : (member : A) → j ≤ length (get_or (contents pieces) i []) → new.members.items ≡ insert old.members.items j member → AreFull (contents pieces) → AreFull (contents (set pieces i new))
    AreFull-put member range is full = rw (contents-set pieces i new) (AreFull-set (contents pieces) i new.members.items (omega (arith, ap length is, length-insert old.members.items j member (omega (arith, ap length there)))) full)

    -- one with a member removed
    pub joined_taken : j < length (get_or (contents pieces) i []) → new.members.items ≡ remove old.members.items j → all_members (contents (set pieces i new)) ≡ remove (all_members (contents pieces)) (start_of (contents pieces) i + j)
    joined_taken range is =
        ap all_members (contents-set pieces i new ∙ ap (set (contents pieces) i) (is ∙ ap (λ members. remove members j) (sym there)))
        ∙ all_members-remove_in (contents pieces) i j inside range

    pub AreFull-taken : 0 < length new.members.items → AreFull (contents pieces) → AreFull (contents (set pieces i new))
    AreFull-taken some full = rw (contents-set pieces i new) (AreFull-set (contents pieces) i new.members.items some full)

    -- and one that is removed because it is empty
    pub joined_gone : new.members.items ≡ [] → all_members (contents (remove (set pieces i new) i)) ≡ all_members (contents (set pieces i new))
    joined_gone empty =
        ap (λ (pieces : List (Piece A)). all_members (contents pieces)) (remove-set pieces i new)
        ∙ ap all_members (contents-remove pieces i)
        ∙ flat_map-append (λ members. members) (take i (contents pieces)) (drop (suc i) (contents pieces))
        ∙ sym (ap all_members (contents-set pieces i new ∙ ap (set (contents pieces) i) empty) ∙ all_members-set (contents pieces) i [] inside)

    pub AreFull-gone : AreFull (contents pieces) → AreFull (contents (remove (set pieces i new) i))
    AreFull-gone full = rw (remove-set pieces i new, contents-remove pieces i) (AreFull-remove (contents pieces) i full)

  pub start_of-front : (old new : List (Piece A)) (i : ℕ) → take i new ≡ take i old → start_of (contents new) i ≡ start_of (contents old) i
  start_of-front old new i same =
      ap (λ (lists : List (List A)). length (all_members lists)) (sym (contents-take new i) ∙ ap contents same ∙ contents-take old i)

  -- a list of pieces that contains a piece is not empty
  pub length-from_full : (contents : List (List A)) → AreFull contents → 0 < length contents → 0 < length (all_members contents)
  length-from_full [] full some = absurd (omega arith)
  length-from_full (first ∷ rest) full some = omega (arith, full.0, length-append first (all_members rest))

  -- the last member of all is that of the last piece
  last_of_all : (contents : List (List A)) (i : ℕ) (d : A) → suc i ≡ length contents → 0 < length (get_or contents i []) → slice_get (get_or contents i []) (length (get_or contents i []) - 1) ≡ slice_get (all_members contents) (length (all_members contents) - 1)
  last_of_all contents i d last some =
      let members = get_or contents i [] in
      let j = length members - 1 in
      let member = get_or members j d in
      let end : length (all_members contents) - 1 ≡ start_of contents i + j = omega (arith, start_of-next contents i (omega arith), start_of-end contents (suc i) (omega arith)) in
      slice_get-get_or members j d (omega arith)
      ∙ sym (ap (slice_get (all_members contents)) end
      ∙ slice_get-all_members contents i j (omega arith) member (omega arith) (get_or_default members j d member (omega arith)))

  pub last_member : (pieces : List (Piece A)) → AreFull (contents pieces) → (piece : Piece A) → Some piece ≡ slice_get pieces (length pieces - 1) → slice_get piece.members.items (length piece.members.items - 1) ≡ slice_get (all_members (contents pieces)) (length (all_members (contents pieces)) - 1)
  last_member pieces full piece found =
      let i = length pieces - 1 in
      let within : i < length pieces = slice_get_within pieces i piece (sym found) in
      let held : get_or (contents pieces) i [] ≡ piece.members.items = piece_read pieces i piece within (sym (get_or_from_slice_get pieces i piece piece (sym found))) in
      let size : length (contents pieces) ≡ length pieces = length-map pieces (λ (piece : Piece A). piece.members.items) in
      let some : 0 < length (get_or (contents pieces) i []) = full_at (contents pieces) full i (omega (arith, size)) in
      subst (λ (members : List A). slice_get members (length members - 1) ≡ slice_get (all_members (contents pieces)) (length (all_members (contents pieces)) - 1)) held
      (last_of_all (contents pieces) i (some_member (get_or (contents pieces) i []) some) (omega (arith, size)) some)

  -- a piece split in two, between the pieces before and after it
  module _ (old lower upper : Piece A) (is : IsCutInTwo old lower upper) (back : List (Piece A)) where
    longer : length lower.members.items + length upper.members.items ≡ length old.members.items
    longer = sym (length-append lower.members.items upper.members.items) ∙ ap length is.members

    marked_from : (start : ℕ) (front : List (Piece A)) → map (λ (piece : Piece A). piece.end) (front ++ old ∷ back) ≡ ends_of start (contents (front ++ old ∷ back)) → map (λ (piece : Piece A). piece.end) (front ++ lower ∷ upper ∷ back) ≡ ends_of start (contents (front ++ lower ∷ upper ∷ back))
    marked_from start [] marked =
        let here : old.end ≡ start + length old.members.items = cc in
        let rest : map (λ (piece : Piece A). piece.end) back ≡ ends_of (start + length old.members.items) (contents back) = cc in
        let low : lower.end ≡ start + length lower.members.items = omega (arith, longer, is.ends.0) in
        let high : upper.end ≡ start + length lower.members.items + length upper.members.items = omega (arith, longer, is.ends.1) in
        let same : start + length old.members.items ≡ start + length lower.members.items + length upper.members.items = omega (arith, longer) in
        rw (low, high, rest, same)
    marked_from start (first ∷ front) marked =
        let here : first.end ≡ start + length first.members.items = cc in
        let rest : map (λ (piece : Piece A). piece.end) (front ++ old ∷ back) ≡ ends_of (start + length first.members.items) (contents (front ++ old ∷ back)) = cc in
        rw (here, marked_from (start + length first.members.items) front rest)

    full_from : (front : List (Piece A)) → AreFull (contents (front ++ old ∷ back)) → AreFull (contents (front ++ lower ∷ upper ∷ back))
    full_from [] full = (is.full.0, (is.full.1, full.1))
    full_from (first ∷ front) full = (full.0, full_from front full.1)

    joined_from : (front : List (Piece A)) → all_members (contents (front ++ lower ∷ upper ∷ back)) ≡ all_members (contents (front ++ old ∷ back))
    joined_from [] = sym (append_assoc lower.members.items upper.members.items (all_members (contents back))) ∙ ap (λ members. members ++ all_members (contents back)) is.members
    joined_from (first ∷ front) = ap (λ rest. first.members.items ++ rest) (joined_from front)

  module _ (pieces : List (Piece A)) (i : ℕ) (old lower upper : Piece A) (within : i < length pieces) (read : old ≡ get_or pieces i old) (is : IsCutInTwo old lower upper) where
    as_before : pieces ≡ take i pieces ++ old ∷ drop (suc i) pieces
    as_before = sym (set-get_or pieces i old) ∙ ap (set pieces i) (sym read) ∙ set_split pieces i old within

    as_after : insert (set pieces i lower) (i + 1) upper ≡ take i pieces ++ lower ∷ upper ∷ drop (suc i) pieces
    as_after =
        ap (λ front. front ++ upper ∷ drop (i + 1) (set pieces i lower)) (take_more_set pieces i lower within)
        ∙ append_assoc (take i pieces) (lower ∷ []) (upper ∷ drop (i + 1) (set pieces i lower))
        ∙ ap (λ back. take i pieces ++ lower ∷ upper ∷ back) (drop-set-lt (i + 1) pieces i lower (omega arith) ∙ ap (λ n. drop n pieces) (add-one i))

    pub IsMarked-cut : IsMarked pieces → IsMarked (insert (set pieces i lower) (i + 1) upper)
    IsMarked-cut marked = subst (λ (pieces : List (Piece A)). IsMarked pieces) (sym as_after) (marked_from old lower upper is (drop (suc i) pieces) 0 (take i pieces) (subst (λ (pieces : List (Piece A)). IsMarked pieces) as_before marked))

    pub AreFull-cut : AreFull (contents pieces) → AreFull (contents (insert (set pieces i lower) (i + 1) upper))
    AreFull-cut full = subst (λ (pieces : List (Piece A)). AreFull (contents pieces)) (sym as_after) (full_from old lower upper is (drop (suc i) pieces) (take i pieces) (subst (λ (pieces : List (Piece A)). AreFull (contents pieces)) as_before full))

    pub all_members-cut : all_members (contents (insert (set pieces i lower) (i + 1) upper)) ≡ all_members (contents pieces)
    all_members-cut = ap (λ (pieces : List (Piece A)). all_members (contents pieces)) as_after ∙ joined_from old lower upper is (drop (suc i) pieces) (take i pieces) ∙ ap (λ (pieces : List (Piece A)). all_members (contents pieces)) (sym as_before)
