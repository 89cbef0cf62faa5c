-- The order of the rows, and the entries in them.
use Rattle.std.proofs.Common.{◌≡◌, ◌∙◌, ℕ, zero, suc, ◌+◌, ◌<◌, ◌≤◌, ◌^◌, ℤ, pos, negsuc, List, [], ◌∷◌, ◌++◌, map, filter, take, nat_lt, Bool, true, false, cond, ◌&&◌, refl, sym, ap, subst, Less, int_cmp, arith}
use Rattle.std.proofs.lemmas.Bool.Decides.{nat_tests}
use Rattle.std.proofs.lemmas.List.{take-map}
use Rattle.std.specs.List.{AllByRecursion}
use Rattle.sqlite_value.specs.declared.value.Value.TheVariants.{Int}
use Rattle.sqlite_trees.specs.Tree.{IsAscending}
use Rattle.sqlite_trees.specs.Objects.{number_in}
use Rattle.sqlite_keyed.proofs.ListLemmas.{map-map, filter-map, filter-filter}
use Rattle.hippo_model.specs.declared.stored.StoredEntry.{StoredEntry}
use Rattle.hippo_keeper.specs.Keeping.{Store, RisesAbove, last_number, next_number}
use Rattle.hippo_keeper.specs.Selecting.{selected_entries}
use Rattle.hippo_sqlite_table.specs.Tables.{HistoryRow, stored_row, row_of, entry_in, entries_in, AreInOrder}

abbrev pub Below : ℤ → List HistoryRow → Type 0
Below number rows = AllByRecursion (λ row. int_cmp row.number number ≡ Less) rows

abbrev pub Above : ℤ → List HistoryRow → Type 0
Above number rows = AllByRecursion (λ row. int_cmp number row.number ≡ Less) rows

abbrev pub Rising : List HistoryRow → Type 0
Rising rows = IsAscending (λ a b. int_cmp a.number b.number ≡ Less) rows

-- ---- numbers

low_number : (n : ℤ) (number : ℕ) → number_in (Int n) < number → int_cmp n (pos number) ≡ Less
low_number (pos n) number low = grind (arith, nat_tests)
low_number (negsuc n) number low = refl

pub high_number : (n : ℤ) (number : ℕ) → int_cmp (pos number) n ≡ Less → number < number_in (Int n)
high_number (pos n) number less = grind (arith, nat_tests)
high_number (negsuc n) number less = absurd cc

pub positive : (n : ℤ) → 0 < number_in (Int n) → pos (number_in (Int n)) ≡ n
positive (pos n) some = refl
positive (negsuc n) some = absurd (omega arith)

is_above : (a b : ℕ) → a < b → nat_lt a b ≡ true
is_above a b less = grind (arith, nat_tests)

above_is : (a b : ℕ) → nat_lt a b ≡ true → a < b
above_is a b test = grind (arith, nat_tests)

not_above : (a b : ℕ) → nat_lt a b ≡ false → b ≤ a
not_above a b test = grind (arith, nat_tests)

-- ---- the last number

rise_on : (number : ℕ) (kept : Store) → RisesAbove number kept → number ≤ last_number number kept
rise_on number [] rises = omega arith
rise_on number (entry ∷ rest) rises = let low : number < entry.seq = rises.0 in omega (arith, rise_on entry.seq rest rises.1)

at_most_last : (number : ℕ) (kept : Store) → RisesAbove number kept → AllByRecursion (λ entry. entry.seq < last_number number kept + 1) kept
at_most_last number [] rises = tt
at_most_last number (entry ∷ rest) rises = (omega (arith, rise_on entry.seq rest rises.1), at_most_last entry.seq rest rises.1)

below_case : (pass : Bool) (entry : StoredEntry) (row : HistoryRow) (rest : Store) (rows : List HistoryRow) (number : ℕ) → 0 < number → nat_lt 0 entry.seq ≡ pass → entry.seq ≡ number_in (Int row.number)
    → AllByRecursion (λ kept. kept.seq < number) (cond pass (entry ∷ rest) rest) → (AllByRecursion (λ kept. kept.seq < number) rest → Below (pos number) rows) → Below (pos number) (row ∷ rows)
below_case true entry row rest rows number some is same below on = (low_number row.number number (subst (λ n. n < number) same below.0), on below.1)
below_case false entry row rest rows number some is same below on =
    let none : entry.seq ≤ 0 = not_above 0 entry.seq is in
    (low_number row.number number (omega (arith, same)), on below)

-- rows whose entries have lower numbers have lower numbers
rows_below : (rows : List HistoryRow) (number : ℕ) → 0 < number → AllByRecursion (λ kept. kept.seq < number) (entries_in (map stored_row rows)) → Below (pos number) rows
rows_below [] number some below = tt
rows_below (row ∷ rows) number some below =
    below_case (nat_lt 0 (number_in (Int row.number))) (entry_in (stored_row row)) row (entries_in (map stored_row rows)) rows number some refl refl below (rows_below rows number some)

-- ---- the entries rise

rises_case : (low : ℕ) (row : HistoryRow) (rest : Store) → low < number_in (Int row.number) → RisesAbove (number_in (Int row.number)) rest
    → RisesAbove low (cond (nat_lt 0 (number_in (Int row.number))) (entry_in (stored_row row) ∷ rest) rest)
rises_case low row rest less rises = rw (is_above 0 (number_in (Int row.number)) (omega arith)) (less, rises)

rises_from : (low : ℕ) (rows : List HistoryRow) → Above (pos low) rows → Rising rows → RisesAbove low (entries_in (map stored_row rows))
rises_from low [] above rising = tt
rises_from low (row ∷ rows) above rising =
    let less = high_number row.number low above.0 in
    let next = subst (λ n. Above n rows) (sym (positive row.number (omega (arith, less)))) rising.0 in
    rises_case low row (entries_in (map stored_row rows)) less (rises_from (number_in (Int row.number)) rows next rising.1)

starts_case : (pass : Bool) (row : HistoryRow) (rows : List HistoryRow) → nat_lt 0 (number_in (Int row.number)) ≡ pass → Above row.number rows → Rising rows → RisesAbove 0 (entries_in (map stored_row rows))
    → RisesAbove 0 (cond pass (entry_in (stored_row row) ∷ entries_in (map stored_row rows)) (entries_in (map stored_row rows)))
starts_case true row rows is above rising rises =
    let some = above_is 0 (number_in (Int row.number)) is in
    (some, rises_from (number_in (Int row.number)) rows (subst (λ n. Above n rows) (sym (positive row.number some)) above) rising)
starts_case false row rows is above rising rises = rises

-- the numbers of the entries of ordered rows rise from above 0
pub entries_rise : (rows : List HistoryRow) → Rising rows → RisesAbove 0 (entries_in (map stored_row rows))
entries_rise [] rising = tt
entries_rise (row ∷ rows) rising = starts_case (nat_lt 0 (number_in (Int row.number))) row rows refl rising.0 rising.1 (entries_rise rows rising.1)

-- the row of the next entry is above all others
pub next_above : (rows : List HistoryRow) (number : ℕ) → Rising rows → number ≡ next_number (entries_in (map stored_row rows)) → Below (pos number) rows
next_above rows number rising is =
    subst (λ n. Below (pos n) rows) (sym is) (rows_below rows _ (omega arith) (at_most_last 0 (entries_in (map stored_row rows)) (entries_rise rows rising)))

-- ---- one more row

all_more : (number : ℤ) (rows : List HistoryRow) (new : HistoryRow) → Below number rows → int_cmp new.number number ≡ Less → Below number (rows ++ new ∷ [])
all_more number [] new below less = (less, tt)
all_more number (row ∷ rows) new below less = (below.0, all_more number rows new below.1 less)

above_more : (number : ℤ) (rows : List HistoryRow) (new : HistoryRow) → Above number rows → int_cmp number new.number ≡ Less → Above number (rows ++ new ∷ [])
above_more number [] new above less = (less, tt)
above_more number (row ∷ rows) new above less = (above.0, above_more number rows new above.1 less)

rising_more : (rows : List HistoryRow) (new : HistoryRow) → Rising rows → Below new.number rows → Rising (rows ++ new ∷ [])
rising_more [] new rising below = (tt, tt)
rising_more (row ∷ rows) new rising below = (above_more row.number rows new rising.0 below.0, rising_more rows new rising.1 below.1)

pub in_order_more : (rows : List HistoryRow) (new : HistoryRow) → AreInOrder rows → Below new.number rows → int_cmp new.number (pos (2 ^ 63)) ≡ Less → AreInOrder (rows ++ new ∷ [])
in_order_more rows new order below low = record { rise = rising_more rows new order.rise below; low = all_more (pos (2 ^ 63)) rows new order.low low }

-- the entry that was written is the one that is read back
pub read_again : (entry : StoredEntry) → entry.kind < 256 → entry_in (stored_row (row_of entry)) ≡ entry
read_again entry fits = λ i. record { seq = entry.seq; moment = entry.moment; kind = again i; table = entry.table; body = entry.body }
  where
    again : cond (nat_lt entry.kind 256) entry.kind 0 ≡ entry.kind
    again = let low : nat_lt entry.kind 256 ≡ true = is_above entry.kind 256 fits in rw low refl

entries_case : (pass : Bool) (entry new : StoredEntry) (rest more : Store) → more ≡ rest ++ new ∷ [] → cond pass (entry ∷ more) more ≡ cond pass (entry ∷ rest) rest ++ new ∷ []
entries_case true entry new rest more same = ap (λ list. entry ∷ list) same
entries_case false entry new rest more same = same

pub entries_more : (rows : List HistoryRow) (entry : StoredEntry) → entry.kind < 256 → 0 < entry.seq
    → entries_in (map stored_row (rows ++ row_of entry ∷ [])) ≡ entries_in (map stored_row rows) ++ entry ∷ []
entries_more [] entry fits some = rw (is_above 0 entry.seq some) (ap (λ e. e ∷ []) (read_again entry fits))
entries_more (row ∷ rows) entry fits some = entries_case (nat_lt 0 (number_in (Int row.number))) (entry_in (stored_row row)) entry _ _ (entries_more rows entry fits some)

-- ---- what is returned

filter_both : {A : Type 0} (first second : A → Bool) (xs : List A) → filter second (filter first xs) ≡ filter (λ x. first x && second x) xs
filter_both first second [] = refl
filter_both {A} first second (x ∷ xs) = go (first x) refl (filter_both first second xs)
  where
    go : (b : Bool) → first x ≡ b → filter second (filter first xs) ≡ filter (λ y. first y && second y) xs
        → filter second (cond (first x) (x ∷ filter first xs) (filter first xs)) ≡ cond (first x && second x) (x ∷ filter (λ y. first y && second y) xs) (filter (λ y. first y && second y) xs)
    go true is same = rw is (ap (λ list. cond (second x) (x ∷ list) list) same)
    go false is same = rw is same

above_zero : (after : ℕ) (entry : StoredEntry) → nat_lt after entry.seq ≡ true → nat_lt 0 entry.seq ≡ true
above_zero after entry test = is_above 0 entry.seq (let up = above_is after entry.seq test in omega (arith, up))

-- rows that pass have the entries that are asked for
pub handed : (test : StoredEntry → Bool) (after max : ℕ) (pass : HistoryRow → Bool) (rows : List HistoryRow)
    → ((row : HistoryRow) → (nat_lt after (entry_in (stored_row row)).seq && test (entry_in (stored_row row))) ≡ pass row)
    → map (λ row. entry_in (stored_row row)) (take max (filter pass rows)) ≡ selected_entries test after max (entries_in (map stored_row rows))
handed test after max pass rows agrees =
    let entry = λ (row : HistoryRow). entry_in (stored_row row) in
    let all = map entry rows in
    let above = λ (kept : StoredEntry). nat_lt after kept.seq in
    let one : filter test (filter above (filter (λ kept. nat_lt 0 kept.seq) all)) ≡ filter (λ kept. above kept && test kept) all =
    ap (filter test) (filter-filter above (λ kept. nat_lt 0 kept.seq) (above_zero after) all) ∙ filter_both above test all in
    let two : filter (λ kept. above kept && test kept) all ≡ map entry (filter pass rows) =
    filter-map (λ kept. above kept && test kept) entry rows ∙ ap (map entry) (same_filter rows) in
    sym (ap (take max) (ap (λ list. filter test (filter above (filter (λ kept. nat_lt 0 kept.seq) list))) (map-map entry_in stored_row rows) ∙ one ∙ two) ∙ take-map entry max (filter pass rows))
  where
    same_filter : (list : List HistoryRow) → filter (λ row. nat_lt after (entry_in (stored_row row)).seq && test (entry_in (stored_row row))) list ≡ filter pass list
    same_filter [] = refl
    same_filter (row ∷ list) = λ i. cond (agrees row i) (row ∷ same_filter list i) (same_filter list i)

-- ---- no number is 2 ^ 63 or above

none_case : (pass : Bool) (after : ℕ) (entry : StoredEntry) (rest : Store) → entry.seq ≤ after → filter (λ kept. nat_lt after kept.seq) rest ≡ [] → filter (λ kept. nat_lt after kept.seq) (cond pass (entry ∷ rest) rest) ≡ []
none_case true after entry rest low none = let no : nat_lt after entry.seq ≡ false = grind (arith, nat_tests) in rw no none
none_case false after entry rest low none = none

low_seq : (n : ℤ) (number : ℕ) → 0 < number → int_cmp n (pos number) ≡ Less → number_in (Int n) < number
low_seq (pos n) number some less = grind (arith, nat_tests)
low_seq (negsuc n) number some less = some

none_above : (limit after : ℕ) (rows : List HistoryRow) → 0 < limit → limit ≤ after → Below (pos limit) rows → filter (λ kept. nat_lt after kept.seq) (entries_in (map stored_row rows)) ≡ []
none_above limit after [] some high below = refl
none_above limit after (row ∷ rows) some high below =
    let low = low_seq row.number limit some below.0 in
    none_case (nat_lt 0 (number_in (Int row.number))) after (entry_in (stored_row row)) (entries_in (map stored_row rows)) (omega (arith, low)) (none_above limit after rows some high below.1)

pub none_handed : (test : StoredEntry → Bool) (after max : ℕ) (rows : List HistoryRow) → 2 ^ 63 ≤ after → AreInOrder rows → [] ≡ selected_entries test after max (entries_in (map stored_row rows))
none_handed test after max rows high order = go max (none_above (2 ^ 63) after rows (omega arith) high order.low)
  where
    go : (count : ℕ) → filter (λ kept. nat_lt after kept.seq) (entries_in (map stored_row rows)) ≡ [] → [] ≡ selected_entries test after count (entries_in (map stored_row rows))
    go zero none = refl
    go (suc count) none = rw none refl
