-- What the queries return from the table.
use Rattle.std.proofs.Common.{◌≡◌, ◌∙◌, ℕ, pos, List, [], ◌∷◌, ◌++◌, map, filter, take, flat_map, Bool, true, false, cond, refl, ap, subst, Less, int_cmp, IsPermutation}
use Rattle.std.specs.List.{list_all}
use Rattle.sqlite_value.specs.declared.value.Value.TheVariants.{Int}
use Rattle.sqlite_value.specs.Order.{Row}
use Rattle.sqlite_value.proofs.OrderLemmas.{value_cmp-Int, then-Equal}
use Rattle.sqlite_trees.specs.Tree.{Trees, IsAscending}
use Rattle.sqlite_sql.specs.Term.{Term, Env, eval, holds}
use Rattle.sqlite_sql.specs.Query.{IsAnswer, Output, output, output_cmp, page}
use Rattle.sqlite_sql.specs.Program.{overlay}
use Rattle.sqlite_sql.proofs.QueryLemmas.{output_cmp_total}
use Rattle.sqlite_keyed.proofs.SortLemmas.{sorted_unique}
use Rattle.sqlite_keyed.proofs.ListLemmas.{map-map, ascending-map, ascending-filter, ascending_weaker}
use Rattle.hippo_sqlite_table.specs.Tables.{HistoryRow, stored_row, shown_row}
use Rattle.hippo_sqlite_table.proofs.TextLemmas.{query}

abbrev env_of : Row → HistoryRow → Env
env_of params row = params ∷ stored_row row ∷ []

abbrev out : HistoryRow → Output
out row = (Int row.number ∷ [], shown_row row)

one : (b c : Bool) (params : Row) (row : HistoryRow) (rest : List HistoryRow) (more : List Env) → b ≡ c → more ≡ map (env_of params) rest
    → cond b (env_of params row ∷ []) [] ++ more ≡ map (env_of params) (cond c (row ∷ rest) rest)
one b true params row rest more is same = rw is (ap (λ list. env_of params row ∷ list) same)
one b false params row rest more is same = rw is same

matched : (terms : List Term) (params : Row) (test : HistoryRow → Bool) (rows : List HistoryRow) → ((row : HistoryRow) → list_all (holds (env_of params row)) terms ≡ test row)
    → flat_map (λ r. cond (list_all (holds (params ∷ r ∷ [])) terms) ((params ∷ r ∷ []) ∷ []) []) (map stored_row rows) ≡ map (env_of params) (filter test rows)
matched terms params test [] tests = refl
matched terms params test (row ∷ rows) tests = one _ (test row) params row (filter test rows) _ (tests row) (matched terms params test rows tests)

above : (terms : List Term) (limit : Term) (a b : HistoryRow) → int_cmp a.number b.number ≡ Less → output_cmp (query terms limit) (out a) (out b) ≡ Less
above terms limit a b less = then-Equal _ ∙ value_cmp-Int a.number b.number ∙ less

-- the rows that pass, ordered by number, up to the limit
pub shows : (terms : List Term) (limit : Term) (params : Row) (trees : Trees) (max : ℕ) (test : HistoryRow → Bool) (rows : List HistoryRow) (found : List Row)
    → trees 0 ≡ map stored_row rows → IsAscending (λ a b. int_cmp a.number b.number ≡ Less) rows
    → ((row : HistoryRow) → list_all (holds (env_of params row)) terms ≡ test row)
    → eval limit (params ∷ []) ≡ Int (pos max)
    → IsAnswer (query terms limit) (overlay trees []) params found → found ≡ take max (map shown_row (filter test rows))
shows terms limit params trees max test rows found are rise tests many a =
    let q = query terms limit in
    let staged : a.staged ≡ map (env_of params) (filter test rows) =
    a.grouped ∙ ap (λ there. flat_map (λ r. cond (list_all (holds (params ∷ r ∷ [])) terms) ((params ∷ r ∷ []) ∷ []) []) there) are ∙ matched terms params test rows tests in
    let kept : a.kept ≡ map out (filter test rows) = a.distinct ∙ ap (map (output q)) staged ∙ map-map (output q) (env_of params) (filter test rows) in
    let strict = ascending-map (λ x y. output_cmp q x y ≡ Less) out (filter test rows)
    (ascending_weaker _ _ (above terms limit) (filter test rows) (ascending-filter _ test rows rise)) in
    let ordered = sorted_unique (output_cmp q) (output_cmp_total q) (map out (filter test rows)) a.ordered strict (subst (λ k. IsPermutation k a.ordered) kept a.same) a.sorted in
    let shown : map (λ (o : Output). o.1) a.ordered ≡ map shown_row (filter test rows) =
    ap (map (λ (o : Output). o.1)) ordered ∙ map-map (λ (o : Output). o.1) out (filter test rows) in
    a.shown ∙ ap (λ list. page q params list) shown ∙ rw many refl
