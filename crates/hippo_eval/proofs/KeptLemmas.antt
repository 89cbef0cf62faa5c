-- What is kept of combinations, from what is kept of those that begin with one more row.
use Rattle.std.proofs.Common.{◌≡◌, ℕ, ◌+◌, List, [], ◌∷◌, ◌++◌, take, drop, sym, ap, subst, ◌∙◌, append_assoc, Option, Some, None, option_map, Ok, slice_get}
use Rattle.std.specs.List.{flat_map}
use Rattle.std.proofs.lemmas.List.{append-nil, map-id}
use Rattle.std.proofs.lemmas.Option.{same_Some}
use Rattle.hippo_values.specs.declared.moments.Moment.{Moment}
use Rattle.hippo_model.specs.declared.born_row.BornRow.{BornRow}
use Rattle.hippo_model.specs.Terms.{Row, Combination}
use Rattle.hippo_tables_keyed.specs.RowSets.{KeyedRows}
use Rattle.hippo_model.specs.Answers.{product}
use Rattle.hippo_eval.specs.declared.walks.Onward.{Onward}
use Rattle.hippo_eval.specs.declared.walks.Onward.TheVariants.{More, Enough}
use Rattle.hippo_eval.specs.Walks.{rows_of, combinations_after, KeptAfter}
use Rattle.hippo_eval.proofs.WalkLemmas.{beginning, drop_at, one_row_more, all_rows}

module _ {S : Type 0} (keeps : List Combination → S → Type 0) where
  pub kept_whole : (onward : Onward) (before these : List Combination) (state : S) → KeptAfter keeps (Ok onward) before these state → keeps (before ++ these) state
  kept_whole More before these state kept = kept
  kept_whole Enough before these state kept = subst (λ (all : List Combination). keeps all state) (append-nil (before ++ these)) (kept [])

  pub from_the_start : (before these : List Combination) (state : S) → keeps (before ++ combinations_after [] these) state → keeps (before ++ these) state
  from_the_start before these state kept = subst (λ (all : List Combination). keeps (before ++ all) state) (map-id these) kept

  module _ (front : Combination) (rest : List Combination) (rows : List BornRow) (i : ℕ) (row : BornRow) (e : slice_get rows i ≡ Some row) (before : List Combination) (state : S) where
    abbrev up_to : ℕ → List Combination
    up_to n = combinations_after front (flat_map (beginning rest) (take n rows))

    abbrev those_after : List Combination
    those_after = combinations_after front (flat_map (beginning rest) (drop (i + 1) rows))

    abbrev with_row : List Combination
    with_row = combinations_after (front ++ row ∷ []) rest

    -- all that begin with a row have been visited
    pub kept_more : (onward : Onward) → KeptAfter keeps (Ok onward) (before ++ up_to i) with_row state → keeps (before ++ up_to (i + 1)) state
    kept_more onward kept =
        let all : before ++ up_to i ++ with_row ≡ before ++ up_to (i + 1) = append_assoc before (up_to i) with_row ∙ ap (λ (some : List Combination). before ++ some) (sym (one_row_more front rest rows i row e)) in
        subst (λ (some : List Combination). keeps some state) all (kept_whole onward (before ++ up_to i) with_row state kept)

    -- the state holds, whatever follows
    pub kept_enough : KeptAfter keeps (Ok Enough) (before ++ up_to i) with_row state → (later : List Combination) → keeps (before ++ combinations_after front (flat_map (beginning rest) rows) ++ later) state
    kept_enough kept later =
        let joined : before ++ up_to i ++ with_row ++ (those_after ++ later) ≡ before ++ (up_to i ++ with_row ++ those_after) ++ later = simp append_assoc in
        let all : before ++ up_to i ++ with_row ++ (those_after ++ later) ≡ before ++ combinations_after front (flat_map (beginning rest) rows) ++ later =
        joined ∙ ap (λ (some : List Combination). before ++ some ++ later) (sym (all_rows front rest rows i row e)) in
        subst (λ (some : List Combination). keeps some state) all (kept (those_after ++ later))

-- a row with its birth
pub born_row : (kept : Option BornRow) (row : Row) (born : Moment) → option_map (λ k. k.row) kept ≡ Some row → option_map (λ k. k.born) kept ≡ Some born → kept ≡ Some (record { row = row; born = born })
born_row None row born a b = absurd cc
born_row (Some kept) row born a b = λ i. Some (record { row = same_Some kept.row row a i; born = same_Some kept.born born b i })

-- the combinations of a table's rows with those of the tables that follow
pub product_at : (sets : List KeyedRows) (place : ℕ) (set : KeyedRows) → slice_get sets place ≡ Some set
    → product (rows_of (drop place sets)) ≡ flat_map (beginning (product (rows_of (drop (place + 1) sets)))) set.rows
product_at sets place set e = ap (λ (some : List KeyedRows). product (rows_of some)) (drop_at sets place set e)
