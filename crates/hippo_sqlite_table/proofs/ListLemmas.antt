-- Adding one more entry after the ones so far.
use Rattle.std.proofs.Common.{◌≡◌, ◌∙◌, ℕ, zero, suc, ◌+◌, ◌<◌, ◌≤◌, pos, List, [], ◌∷◌, ◌++◌, length, map, take, drop, get_or, refl, sym, ap, ap₂, subst, arith, add-one, Less, int_cmp}
use Rattle.std.proofs.Math.Seq.{take-length}
use Rattle.std.proofs.lemmas.List.{length-map, length-take, map-append}
use Rattle.std.specs.List.{AllByRecursion}
use Rattle.sqlite_value.specs.declared.value.Value.TheVariants.{Int}
use Rattle.sqlite_value.specs.Order.{Row}
use Rattle.sqlite_trees.specs.Objects.{number_in}
use Rattle.hippo_model.specs.declared.stored.StoredEntry.{StoredEntry}
use Rattle.hippo_keeper.specs.Keeping.{RisesAbove, last_number}
use Rattle.hippo_keeper.proofs.RisingLemmas.{RisesAbove-append}
use Rattle.hippo_sqlite_table.specs.Tables.{HistoryRow, shown_row, stored_row, entry_in, AreAbove}
use Rattle.hippo_sqlite_table.proofs.OrderLemmas.{high_number, positive}

pub last_of_more : (number : ℕ) (list : List StoredEntry) (entry : StoredEntry) → last_number number (list ++ entry ∷ []) ≡ entry.seq
last_of_more number [] entry = refl
last_of_more number (first ∷ rest) entry = last_of_more first.seq rest entry

-- an entry above the last one may be added after it
pub rises_with : (after last number : ℕ) (list longer : List StoredEntry) (entry : StoredEntry) → RisesAbove after list → last ≡ last_number after list → last < number → entry.seq ≡ number → longer ≡ list ++ entry ∷ []
    → RisesAbove after longer × (number ≡ last_number after longer)
rises_with after last number list longer entry rises is above seq more =
    (rw more (RisesAbove-append after list entry rises (omega (arith, is, seq))), rw more (sym seq ∙ sym (last_of_more after list entry)))

abbrev pub entry_of : HistoryRow → StoredEntry
entry_of row = entry_in (stored_row row)

abbrev pub IsTold : ℕ → ℕ → List Row → List StoredEntry → Type 0
IsTold after max rows list = (written : List HistoryRow) → rows ≡ map shown_row written → AreAbove (pos after) written → length written ≤ max → list ≡ map entry_of written

-- the entries of the rows so far, if these are rows of the table
abbrev pub IsSoFar : ℕ → ℕ → List Row → List StoredEntry → ℕ → ℕ → Type 0
IsSoFar after max rows list last place =
    (written : List HistoryRow) → rows ≡ map shown_row written → AreAbove (pos after) written → length written ≤ max
    → (list ≡ map entry_of (take place written)) × AreAbove (pos last) (drop place written)

-- the row at an index, between the rows before it and after it
record AtRow (written : List HistoryRow) (row : Row) (place : ℕ) : Type 0 where
  w : HistoryRow
  is : row ≡ shown_row w
  taken : take (suc place) written ≡ take place written ++ w ∷ []
  left : drop place written ≡ w ∷ drop (suc place) written

at_row : (written : List HistoryRow) (place : ℕ) (row : Row) → place < length written → row ≡ get_or (map shown_row written) place row → AtRow written row place
at_row [] place row inside is = absurd (omega arith)
at_row (w ∷ written) zero row inside is = record { w = w; is = is; taken = refl; left = refl }
at_row (w ∷ written) (suc place) row inside is =
    let it = at_row written place row (omega arith) is in
    record { w = it.w; is = it.is; taken = ap (λ list. w ∷ list) it.taken; left = it.left }

row_at : (rows : List Row) (row : Row) (place : ℕ) (written : List HistoryRow) → place < length rows → row ≡ get_or rows place row → rows ≡ map shown_row written → AtRow written row place
row_at rows row place written inside is are =
    at_row written place row (omega (arith, ap length are, length-map written shown_row)) (is ∙ ap (λ list. get_or list place row) are)

pub one_more_row : (after max place last number : ℕ) (rows : List Row) (row : Row) (list longer : List StoredEntry) (entry : StoredEntry) → place < length rows → row ≡ get_or rows place row → IsSoFar after max rows list last place
    → ((w : HistoryRow) → row ≡ shown_row w → int_cmp (pos last) w.number ≡ Less → number ≡ number_in (Int w.number))
    → ((w : HistoryRow) → row ≡ shown_row w → number ≡ number_in (Int w.number) → entry ≡ entry_of w)
    → longer ≡ list ++ entry ∷ [] → IsSoFar after max rows longer number (place + 1)
one_more_row after max place last number rows row list longer entry inside is so_far numbered read more written are above few =
    let was = so_far written are above few in
    let it = row_at rows row place written inside is are in
    let here : AreAbove (pos last) (it.w ∷ drop (suc place) written) = subst (AreAbove (pos last)) it.left was.1 in
    let number_is = numbered it.w it.is here.high.0 in
    let higher = high_number it.w.number last here.high.0 in
    let same : pos number ≡ it.w.number = ap pos number_is ∙ positive it.w.number (omega (arith, higher)) in
    let next : AreAbove (pos number) (drop (suc place) written) = record { rise = here.rise.1; high = subst (λ n. AllByRecursion (λ (other : HistoryRow). int_cmp n other.number ≡ Less) (drop (suc place) written)) (sym same) here.rise.0 } in
    rw add-one (more ∙ ap₂ (λ front last. front ++ last ∷ []) was.0 (read it.w it.is number_is) ∙ sym (map-append entry_of (take place written) (it.w ∷ [])) ∙ ap (map entry_of) (sym it.taken), next)

-- no more rows are taken because there are no more
pub full_is_told : (after max place last : ℕ) (rows : List Row) (list : List StoredEntry) → place < length rows → length list ≡ max → IsSoFar after max rows list last place → IsTold after max rows list
full_is_told after max place last rows list inside full so_far written are above few =
    let was = so_far written are above few in
    absurd (omega (arith, ap length was.0, length-map (take place written) entry_of, length-take place written, ap length are, length-map written shown_row))

-- each row of the table has a number
pub numbered_is_told : (after max place last : ℕ) (rows : List Row) (row : Row) (list : List StoredEntry) → place < length rows → row ≡ get_or rows place row → IsSoFar after max rows list last place
    → ((w : HistoryRow) → row ≡ shown_row w → int_cmp (pos last) w.number ≡ Less → ⊥) → IsTold after max rows list
numbered_is_told after max place last rows row list inside is so_far never written are above few =
    let was = so_far written are above few in
    let it = row_at rows row place written inside is are in
    let here : AreAbove (pos last) (it.w ∷ drop (suc place) written) = subst (AreAbove (pos last)) it.left was.1 in
    absurd (never it.w it.is here.high.0)

pub all_is_told : (after max last place : ℕ) (rows : List Row) (list : List StoredEntry) → place ≡ length rows → IsSoFar after max rows list last place → IsTold after max rows list
all_is_told after max last place rows list all so_far written are above few =
    let whole : place ≡ length written = all ∙ ap length are ∙ length-map written shown_row in
    (so_far written are above few).0 ∙ ap (λ n. map entry_of (take n written)) whole ∙ ap (map entry_of) (take-length written)
