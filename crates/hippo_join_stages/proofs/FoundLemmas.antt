-- What is found in ascending order is the qualifying part of the product.
use Rattle.std.proofs.Common.{◌≡◌, ℕ, zero, ◌+◌, ◌-◌, ◌≤◌, suc, Bool, true, false, ◌&&◌, ◌||◌, cond, List, [], ◌∷◌, ◌++◌, map, length, refl, sym, ap, ◌∙◌, inl, inr, ◌⊎◌, arith}
use Rattle.std.specs.Prelude.{filter}
use Rattle.std.specs.List.{range_with_len}
use Rattle.std.specs.List.Sorted.{IsStrictlySortedBy}
use Rattle.std.specs.Ordering.{is_eq, nat_cmp, ordering_reverse}
use Rattle.std.specs.declared.cmp.Ordering.{Ordering}
use Rattle.std.specs.declared.cmp.Ordering.TheVariants.{Less, Equal, Greater}
use Rattle.std.specs.Cmp.Lexicographic.{slice_cmp}
use Rattle.std.specs.Cmp.{IsTotalOrder, eq_by_cmp_equiv}
use Rattle.std.proofs.lemmas.Bool.{false≢true, or_left}
use Rattle.std.proofs.lemmas.Cmp.{nat_list_cmp_total}
use Rattle.std.proofs.lemmas.List.Folds.{list_any-append}
use Rattle.std.proofs.lemmas.List.Kept.{IsStrictlySortedBy-filter}
use Rattle.std.proofs.lemmas.Map.Lookups.{exact_bytes}
use Rattle.std.proofs.lemmas.Map.Keys.{IsDistinct-from_sorted}
use Rattle.std.proofs.lemmas.Map.Made.{length-le_from_is_member}
use Rattle.hippo_model.specs.declared.query.Masked.{Masked}
use Rattle.hippo_model.specs.Terms.{Place}
use Rattle.hippo_tables_keyed.specs.RowSets.{KeyedRows}
use Rattle.hippo_model.specs.Answers.{product}
use Rattle.hippo_model.specs.Masking.{Choices, masked_items, masked_answer}
use Rattle.hippo_eval.specs.Walks.{rows_of}
use Rattle.hippo_join_stages.specs.Finding.{has_places, IsRising}
use Rattle.hippo_join_lookups.specs.Places.{chosen_rows, places_of, stays, stands}
use Rattle.hippo_join_stages.specs.Visiting.{AreAll}
use Rattle.hippo_join_stages.proofs.ProductLemmas.{Below, product-rows, has-places_of, rising-places_of, filter-map, map-map}

total : IsTotalOrder (slice_cmp nat_cmp)
total = nat_list_cmp_total

by_order : {P : Type 0} (o : Ordering) → (o ≡ Less → P) → (o ≡ Equal → P) → (o ≡ Greater → P) → P
by_order Less a b c = a refl
by_order Equal a b c = b refl
by_order Greater a b c = c refl

same_as_itself : (c : List Place) → is_eq (slice_cmp nat_cmp c c) ≡ true
same_as_itself c = (eq_by_cmp_equiv total).refl c

pub same_places : (c d : List Place) → is_eq (slice_cmp nat_cmp c d) ≡ true → c ≡ d
same_places c d same = by_order (slice_cmp nat_cmp c d) (λ e. absurd (false≢true (sym (ap is_eq e) ∙ same))) (λ e. exact_bytes c d e) (λ e. absurd (false≢true (sym (ap is_eq e) ∙ same)))

pub or-cases : (x y : Bool) → (x || y) ≡ true → (x ≡ true) ⊎ (y ≡ true)
or-cases true y e = inl refl
or-cases false y e = inr e

-- whether one of two concatenated lists contains places
pub has-both : (c : List Place) (some more : List (List Place)) → has_places c (some ++ more) ≡ (has_places c some || has_places c more)
has-both c some more = list_any-append (λ other. is_eq (slice_cmp nat_cmp c other)) some more

-- the first of ascending combinations, and any below it, is not in the rest
absent : (c : List Place) (rest : List (List Place)) → Below c rest → has_places c rest ≡ false
absent c [] below = refl
absent c (other ∷ rest) below = rw (below.0, absent c rest below.1) refl

lower : (c d : List Place) (rest : List (List Place)) → slice_cmp nat_cmp c d ≡ Less → Below d rest → Below c rest
lower c d [] less below = tt
lower c d (other ∷ rest) less below = (total.trans c d other less below.0, lower c d rest less below.1)

pub has-first : (c : List Place) (rest : List (List Place)) → has_places c (c ∷ rest) ≡ true
has-first c rest = or_left (is_eq (slice_cmp nat_cmp c c)) (has_places c rest) (same_as_itself c)

not_here : (c d : List Place) (rest : List (List Place)) → slice_cmp nat_cmp c d ≡ Less → Below d rest → has_places c (d ∷ rest) ≡ false
not_here c d rest less below = absent c (d ∷ rest) (less, lower c d rest less below)

other_way : (c d : List Place) → slice_cmp nat_cmp c d ≡ Greater → slice_cmp nat_cmp d c ≡ Less
other_way c d greater = total.antisymm d c ∙ ap ordering_reverse greater

after_both : (test a b : Bool) → (test ≡ true → a ≡ false) → (test ≡ true → b ≡ false) → (test || a) ≡ (test || b) → a ≡ b
after_both true a b left right e = left refl ∙ sym (right refl)
after_both false a b left right e = e

-- ascending lists with the same combinations are equal
pub same_rising : (some others : List (List Place)) → IsRising some → IsRising others → ((c : List Place) → has_places c some ≡ has_places c others) → some ≡ others
unfolding IsStrictlySortedBy
same_rising [] [] a b same = refl
same_rising [] (d ∷ others) a b same = absurd (false≢true (same d ∙ has-first d others))
same_rising (c ∷ some) [] a b same = absurd (false≢true (sym (same c) ∙ has-first c some))
same_rising (c ∷ some) (d ∷ others) a b same =
    by_order (slice_cmp nat_cmp c d)
    (λ less. absurd (false≢true (sym (not_here c d others less b.0) ∙ sym (same c) ∙ has-first c some)))
    (λ equal. let one : c ≡ d = exact_bytes c d equal in
    let remaining : (q : List Place) → has_places q some ≡ has_places q others = λ q.
    after_both (is_eq (slice_cmp nat_cmp q c)) (has_places q some) (has_places q others)
    (λ e. ap (λ (k : List Place). has_places k some) (same_places q c e) ∙ absent c some a.0)
    (λ e. ap (λ (k : List Place). has_places k others) (same_places q c e ∙ one) ∙ absent d others b.0)
    (same q ∙ ap (λ (k : List Place). is_eq (slice_cmp nat_cmp q k) || has_places q others) (sym one)) in
    λ i. one i ∷ same_rising some others a.1 b.1 remaining i)
    (λ greater. absurd (false≢true (sym (not_here d c some (other_way c d greater) a.0) ∙ same d ∙ has-first d others)))

-- an ascending list contained in another one is no longer than it
pub length-rising : (some others : List (List Place)) → IsRising some → ((c : List Place) → has_places c some ≡ true → has_places c others ≡ true) → length some ≤ length others
length-rising some others rising within =
    length-le_from_is_member (eq_by_cmp_equiv total) some others (IsDistinct-from_sorted (slice_cmp nat_cmp) some rising) within

kept_here : (first test rest p : Bool) → (first ≡ true → test ≡ p) → (cond test (first || (rest && p)) (rest && p)) ≡ ((first || rest) && p)
kept_here true true rest true e = refl
kept_here true true rest false e = absurd (false≢true (sym (e refl)))
kept_here true false rest true e = absurd (false≢true (e refl))
kept_here true false true false e = refl
kept_here true false false false e = refl
kept_here false true rest p e = refl
kept_here false false rest p e = refl

has_either : (c first : List Place) (test : Bool) (rest : List (List Place)) → has_places c (cond test (first ∷ rest) rest) ≡ cond test (is_eq (slice_cmp nat_cmp c first) || has_places c rest) (has_places c rest)
has_either c first true rest = refl
has_either c first false rest = refl

pub has-filter : (p : List Place → Bool) (c : List Place) (some : List (List Place)) → has_places c (filter p some) ≡ (has_places c some && p c)
has-filter p c [] = refl
has-filter p c (first ∷ some) =
    has_either c first (p first) (filter p some)
    ∙ rw (has-filter p c some) (kept_here (is_eq (slice_cmp nat_cmp c first)) (p first) (has_places c some) (p c) (λ e. ap p (sym (same_places c first e))))

pub same_tests : (a b : Bool) → (a ≡ true → b ≡ true) → (b ≡ true → a ≡ true) → a ≡ b
same_tests true b there back = sym (there refl)
same_tests false true there back = back refl
same_tests false false there back = refl

module _ (choices : Choices) (query : Masked) (sets : List KeyedRows) where
  abbrev counting : List (List Place)
  counting = filter (λ c. stays choices query (chosen_rows sets c)) (places_of sets)

  has-counting : (c : List Place) → has_places c counting ≡ stands choices query sets c
  has-counting c = has-filter (λ c. stays choices query (chosen_rows sets c)) c (places_of sets) ∙ ap (λ b. b && stays choices query (chosen_rows sets c)) (has-places_of sets c)

  rising-counting : IsRising counting
  rising-counting = IsStrictlySortedBy-filter (slice_cmp nat_cmp) (λ c. stays choices query (chosen_rows sets c)) (places_of sets) (rising-places_of sets)

  rows-counting : filter (stays choices query) (product (rows_of sets)) ≡ map (chosen_rows sets) counting
  rows-counting = ap (filter (stays choices query)) (product-rows sets) ∙ filter-map (stays choices query) (chosen_rows sets) (places_of sets)

  answer-counting : masked_answer choices query (rows_of sets) ≡ map (λ c. masked_items choices query (chosen_rows sets c)) counting
  unfolding stays
  answer-counting = ap (map (masked_items choices query)) rows-counting ∙ map-map (masked_items choices query) (chosen_rows sets) counting

  -- all qualifying combinations, in the order of the product
  pub rows-in-order : (all : List (List Place)) → AreAll (λ c. stands choices query sets c ≡ true) true all → map (chosen_rows sets) all ≡ filter (stays choices query) (product (rows_of sets))
  rows-in-order all are =
      ap (map (chosen_rows sets)) (same_rising all counting (are.rising refl) rising-counting (λ c. same_tests (has_places c all) (stands choices query sets c) (are.sound c) (are.whole c) ∙ sym (has-counting c)))
      ∙ sym rows-counting

  -- if what is found is in order and complete, it gives the answer
  pub answer-found : (found : List (List Place)) → IsRising found → ((c : List Place) → has_places c found ≡ stands choices query sets c) → map (λ c. masked_items choices query (chosen_rows sets c)) found ≡ masked_answer choices query (rows_of sets)
  answer-found found rising same =
      ap (map (λ c. masked_items choices query (chosen_rows sets c))) (same_rising found counting rising rising-counting (λ c. same c ∙ sym (has-counting c)))
      ∙ sym answer-counting

  length-map : {A B : Type 0} (f : A → B) (xs : List A) → length (map f xs) ≡ length xs
  length-map f [] = refl
  length-map f (x ∷ xs) = ap suc (length-map f xs)

  -- the answer is no shorter than what was found
  pub length-found : (found : List (List Place)) → IsRising found → ((c : List Place) → has_places c found ≡ true → stands choices query sets c ≡ true) → length found ≤ length (masked_answer choices query (rows_of sets))
  length-found found rising sound =
      let within : length found ≤ length counting = length-rising found counting rising (λ c has. has-counting c ∙ sound c has) in
      rw (answer-counting, length-map (λ c. masked_items choices query (chosen_rows sets c)) counting) within

range_from : (a n : ℕ) → range_with_len a (suc n) ≡ range_with_len a n ++ (a + n) ∷ []
range_from a zero = let e : a ≡ a + 0 = omega arith in ap (λ k. k ∷ []) e
range_from a (suc n) = let e : (a + 1) + n ≡ a + suc n = omega arith in ap (λ l. a ∷ l) (range_from (a + 1) n ∙ ap (λ k. range_with_len (a + 1) n ++ k ∷ []) e)

-- a run of places with the next one
pub range-next : (start place : ℕ) → start ≤ place → range_with_len start (place - start) ++ place ∷ [] ≡ range_with_len start (place + 1 - start)
range-next start place after =
    let count : place + 1 - start ≡ suc (place - start) = omega (arith, after) in
    let last : start + (place - start) ≡ place = omega (arith, after) in
    ap (λ (p : ℕ). range_with_len start (place - start) ++ p ∷ []) (sym last) ∙ sym (range_from start (place - start)) ∙ ap (range_with_len start) (sym count)
