-- A query returns what a read asks for.
use Rattle.std.proofs.Common.{◌≡◌, ◌∙◌, ℕ, zero, suc, ◌≤◌, ℤ, pos, negsuc, List, [], ◌∷◌, map, filter, take, length, Bool, true, false, cond, nat_lt, ◌&&◌, refl, sym, Less, int_cmp, arith}
use Rattle.std.proofs.lemmas.Bool.Decides.{nat_tests}
use Rattle.std.proofs.lemmas.List.{take-map, length-take}
use Rattle.std.specs.List.{AllByRecursion}
use Rattle.sqlite_value.specs.declared.value.Value.TheVariants.{Null, Int}
use Rattle.sqlite_value.specs.Order.{Row}
use Rattle.sqlite_trees.specs.Tree.{IsAscending}
use Rattle.sqlite_trees.specs.Objects.{number_in}
use Rattle.sqlite_keyed.proofs.ListLemmas.{ascending-filter}
use Rattle.sqlite.specs.State.{State, Shown}
use Rattle.sqlite.proofs.Callers.{reads_as}
use Rattle.hippo_model.specs.declared.stored.StoredEntry.{StoredEntry}
use Rattle.hippo_keeper.specs.Selecting.{is_selected, selected_entries}
use Rattle.hippo_keeper.specs.declared.selection.Selection.{Selection}
use Rattle.hippo_sqlite_table.specs.Queries.{read_sql, params_of}
use Rattle.hippo_sqlite_table.specs.Tables.{HistoryRow, stored_row, shown_row, entry_in, entries_in, AreInOrder, AreAbove, history_schema}
use Rattle.hippo_sqlite_table.proofs.TextLemmas.{query, select, terms_of, limit_of, read_is, read_plain, no_listing}
use Rattle.hippo_sqlite_table.proofs.OrderLemmas.{handed}
use Rattle.hippo_sqlite_table.proofs.SelectLemmas.{shows}
use Rattle.hippo_sqlite_table.proofs.TestLemmas.{passes, passes_terms, limit_is}

pub shown_is : (selection : Selection) (old new : State) (after max : ℕ) (rows : List HistoryRow) (found : List Row) → old.now.schema ≡ history_schema → old.now.trees 0 ≡ map stored_row rows → AreInOrder rows
    → Shown (read_sql selection) (params_of selection after max) old new found → found ≡ take max (map shown_row (filter (passes selection after) rows))
shown_is selection old new after max rows found schema are order shown =
    let params = params_of selection after max in
    let read = reads_as (read_sql selection) params old new history_schema schema (select (query (terms_of selection) (limit_of selection))) (read_is selection) (read_plain selection) (no_listing selection) found shown in
    shows (terms_of selection) (limit_of selection) params old.now.trees max (passes selection after) rows found are order.rise (passes_terms selection after max) (limit_is selection after max) (read.answer Null)

-- ---- the rows that are returned are above the number, in order

above_number : (n : ℤ) (after : ℕ) → nat_lt after (number_in (Int n)) ≡ true → int_cmp (pos after) n ≡ Less
above_number (pos n) after test = grind (arith, nat_tests)
above_number (negsuc n) after test = absurd (let low : nat_lt after 0 ≡ false = grind (arith, nat_tests) in let both = sym low ∙ test in cc)

first_passes : (selection : Selection) (after : ℕ) (row : HistoryRow) → passes selection after row ≡ true → nat_lt after (number_in (Int row.number)) ≡ true
first_passes selection after row test = go (nat_lt after (number_in (Int row.number))) (is_selected selection (entry_in (stored_row row))) test
  where
    go : (a b : Bool) → (a && b) ≡ true → a ≡ true
    go true b both = refl
    go false b both = both

all_above : (selection : Selection) (after : ℕ) (rows : List HistoryRow) → AllByRecursion (λ row. int_cmp (pos after) row.number ≡ Less) (filter (passes selection after) rows)
all_above selection after [] = tt
all_above selection after (row ∷ rows) = go (passes selection after row) refl (all_above selection after rows)
  where
    go : (b : Bool) → passes selection after row ≡ b → AllByRecursion (λ other. int_cmp (pos after) other.number ≡ Less) (filter (passes selection after) rows)
        → AllByRecursion (λ other. int_cmp (pos after) other.number ≡ Less) (cond (passes selection after row) (row ∷ filter (passes selection after) rows) (filter (passes selection after) rows))
    go true is rest = rw is (above_number row.number after (first_passes selection after row is), rest)
    go false is rest = rw is rest

all_taken : (P : HistoryRow → Type 0) (max : ℕ) (rows : List HistoryRow) → AllByRecursion P rows → AllByRecursion P (take max rows)
all_taken P zero rows all = tt
all_taken P (suc max) [] all = tt
all_taken P (suc max) (row ∷ rows) all = (all.0, all_taken P max rows all.1)

rising_taken : (max : ℕ) (rows : List HistoryRow) → IsAscending (λ a b. int_cmp a.number b.number ≡ Less) rows → IsAscending (λ a b. int_cmp a.number b.number ≡ Less) (take max rows)
rising_taken zero rows rising = tt
rising_taken (suc max) [] rising = tt
rising_taken (suc max) (row ∷ rows) rising = (all_taken (λ other. int_cmp row.number other.number ≡ Less) max rows rising.0, rising_taken max rows rising.1)

-- the entries of the returned rows are those that were asked for
pub told_by : (selection : Selection) (old new : State) (after max : ℕ) (rows : List HistoryRow) (found : List Row) (list : List StoredEntry) → old.now.schema ≡ history_schema → old.now.trees 0 ≡ map stored_row rows → AreInOrder rows
    → Shown (read_sql selection) (params_of selection after max) old new found
    → ((written : List HistoryRow) → found ≡ map shown_row written → AreAbove (pos after) written → length written ≤ max → list ≡ map (λ row. entry_in (stored_row row)) written)
    → list ≡ selected_entries (is_selected selection) after max (entries_in (map stored_row rows))
told_by selection old new after max rows found list schema are order shown read =
    let passing = filter (passes selection after) rows in
    let is = shown_is selection old new after max rows found schema are order shown ∙ take-map shown_row max passing in
    let above : AreAbove (pos after) (take max passing) = record {
      rise = rising_taken max passing (ascending-filter (λ a b. int_cmp a.number b.number ≡ Less) (passes selection after) rows order.rise);
      high = all_taken (λ row. int_cmp (pos after) row.number ≡ Less) max passing (all_above selection after rows);
    } in
    read (take max passing) is above (omega (arith, length-take max passing)) ∙ handed (is_selected selection) after max (passes selection after) rows (λ row. refl)
