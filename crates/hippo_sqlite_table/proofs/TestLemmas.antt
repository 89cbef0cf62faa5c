-- The conditions of the queries on a row agree with the tests on its entry.
use Rattle.std.proofs.Common.{◌≡◌, ◌∙◌, ℕ, ℤ, pos, negsuc, List, [], ◌∷◌, nat_lt, ◌==◌, int_le, bytes_eq, Bool, true, false, ◌&&◌, ◌||◌, refl, ap, int_cmp, arith}
use Rattle.std.proofs.lemmas.Bool.Decides.{nat_tests}
use Rattle.std.proofs.lemmas.Map.Text.{is_eq-slice_cmp}
use Rattle.std.specs.List.{list_all}
use Rattle.std.specs.Ordering.{is_eq, is_gt, is_ge, is_le}
use Rattle.sqlite_value.specs.declared.keys.Collation.TheVariants.{Binary}
use Rattle.sqlite_value.specs.declared.value.Value.TheVariants.{Int, Text}
use Rattle.sqlite_value.proofs.OrderLemmas.{value_cmp-Int, value_cmp-Text}
use Rattle.sqlite_trees.specs.Objects.{number_in}
use Rattle.sqlite_sql.specs.declared.ops.BinaryOp.TheVariants.{Compare}
use Rattle.sqlite_sql.specs.declared.ops.CompareOp.{CompareOp}
use Rattle.sqlite_sql.specs.declared.ops.CompareOp.TheVariants.{Eq, Ge, Gt, Le}
use Rattle.sqlite_sql.specs.Ops.{binary, is_true, from_truth, test}
use Rattle.sqlite_sql.specs.Term.{eval, holds}
use Rattle.hippo_sqlite_table.specs.Tables.{HistoryRow, stored_row, kind_in, entry_in}
use Rattle.hippo_keeper.specs.Selecting.{is_selected}
use Rattle.hippo_keeper.specs.declared.selection.Selection.{Selection}
use Rattle.hippo_keeper.specs.declared.selection.Selection.TheVariants.{All, VersionsOf, AskedIn}
use Rattle.hippo_sqlite_table.specs.Queries.{params_of}
use Rattle.hippo_sqlite_table.proofs.TextLemmas.{terms_of, limit_of}

truth_of : (b : Bool) → is_true (from_truth (Rattle.std.proofs.Common.Some b)) ≡ b
truth_of true = refl
truth_of false = refl

compare_int : (op : CompareOp) (m n : ℤ) → is_true (binary (Compare op Binary) (Int m) (Int n)) ≡ test op (int_cmp m n)
unfolding binary
compare_int op m n = truth_of _ ∙ ap (test op) (value_cmp-Int m n)

compare_text : (s t : List ℕ) → is_true (binary (Compare Eq Binary) (Text s) (Text t)) ≡ bytes_eq s t
unfolding binary
compare_text s t = truth_of _ ∙ ap is_eq (value_cmp-Text s t) ∙ is_eq-slice_cmp s t

is_above : (n : ℤ) (after : ℕ) → is_gt (int_cmp n (pos after)) ≡ nat_lt after (number_in (Int n))
is_above (pos n) after = grind (arith, nat_tests)
is_above (negsuc n) after = let none : nat_lt after 0 ≡ false = grind (arith, nat_tests) in rw none refl

reaches : (m n : ℤ) → is_ge (int_cmp m n) ≡ int_le n m
reaches (pos m) (pos n) = grind (arith, nat_tests)
reaches (pos m) (negsuc n) = refl
reaches (negsuc m) (pos n) = refl
reaches (negsuc m) (negsuc n) = grind (arith, nat_tests)

within : (m n : ℤ) → is_le (int_cmp m n) ≡ int_le m n
within (pos m) (pos n) = grind (arith, nat_tests)
within (pos m) (negsuc n) = refl
within (negsuc m) (pos n) = refl
within (negsuc m) (negsuc n) = grind (arith, nat_tests)

is_question : (k : ℤ) → is_eq (int_cmp k (pos 13)) ≡ (kind_in (Int k) == 13)
is_question (pos k) = grind (arith, nat_tests)
is_question (negsuc k) = refl

is_version : (k : ℤ) → (is_ge (int_cmp k (pos 2)) && is_le (int_cmp k (pos 4))) ≡ (kind_in (Int k) == 2 || kind_in (Int k) == 3 || kind_in (Int k) == 4)
is_version (pos k) = grind (arith, nat_tests)
is_version (negsuc k) = refl

with_true : (a : Bool) → (a && true) ≡ a
with_true true = refl
with_true false = refl

-- four tests, in another order
turned : (a b c d : Bool) → (a && (b && (c && (d && true)))) ≡ (d && ((b && c) && a))
turned true true true true = refl
turned true true true false = refl
turned true true false true = refl
turned true true false false = refl
turned true false c true = refl
turned true false c false = refl
turned false true true true = refl
turned false true true false = refl
turned false true false true = refl
turned false true false false = refl
turned false false c true = refl
turned false false c false = refl

moved : (a b c d : Bool) → (a && (b && (c && (d && true)))) ≡ (d && ((a && b) && c))
moved true true true true = refl
moved true true true false = refl
moved true true false true = refl
moved true true false false = refl
moved true false c true = refl
moved true false c false = refl
moved false b c true = refl
moved false b c false = refl

-- the rows that a read selects
abbrev pub passes : Selection → ℕ → HistoryRow → Bool
passes selection after row = nat_lt after (entry_in (stored_row row)).seq && is_selected selection (entry_in (stored_row row))

pub passes_terms : (selection : Selection) (after max : ℕ) (row : HistoryRow) → list_all (holds (params_of selection after max ∷ stored_row row ∷ [])) (terms_of selection) ≡ passes selection after row
passes_terms All after max row = λ i. (compare_int Gt row.number (pos after) ∙ is_above row.number after) i && true
passes_terms (VersionsOf table) after max row =
    (λ i. compare_text row.table table.now i && (compare_int Ge row.kind (pos 2) i && (compare_int Le row.kind (pos 4) i && ((compare_int Gt row.number (pos after) ∙ is_above row.number after) i && true))))
    ∙ turned (bytes_eq row.table table.now) (is_ge (int_cmp row.kind (pos 2))) (is_le (int_cmp row.kind (pos 4))) (nat_lt after (number_in (Int row.number)))
    ∙ ap (λ version. nat_lt after (number_in (Int row.number)) && (version && bytes_eq row.table table.now)) (is_version row.kind)
passes_terms (AskedIn from to) after max row =
    (λ i. (compare_int Eq row.kind (pos 13) ∙ is_question row.kind) i && ((compare_int Ge row.moment from ∙ reaches row.moment from) i && ((compare_int Le row.moment to ∙ within row.moment to) i && ((compare_int Gt row.number (pos after) ∙ is_above row.number after) i && true))))
    ∙ moved (kind_in (Int row.kind) == 13) (int_le from row.moment) (int_le row.moment to) (nat_lt after (number_in (Int row.number)))

-- how many rows it may return
pub limit_is : (selection : Selection) (after max : ℕ) → eval (limit_of selection) (params_of selection after max ∷ []) ≡ Int (pos max)
limit_is All after max = refl
limit_is (VersionsOf table) after max = refl
limit_is (AskedIn from to) after max = refl
