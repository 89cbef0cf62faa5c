-- Keys inserted in order.
use Rattle.std.proofs.Common.{◌≡◌, Bool, false, true, ◌||◌, List, [], ◌∷◌, sym, ap, refl}
use Rattle.std.specs.List.{list_any}
use Rattle.std.specs.Ordering.{match_ordering}
use Rattle.std.specs.declared.cmp.Ordering.{Ordering}
use Rattle.std.specs.declared.cmp.Ordering.TheVariants.{Less, Equal, Greater}
use Rattle.hippo_values.specs.declared.values.Value.{Value}
use Rattle.hippo_values.specs.Order.{cells_cmp, same_cells}
use Rattle.hippo_model.specs.Rows.{insert_key}
use Rattle.hippo_tables_keyed.specs.RowSets.{IsBelowAll, IsAscending}
use Rattle.hippo_tables_keyed.proofs.Orders.{cells_total, cells_exact}
use Rattle.hippo_tables_keyed.proofs.KeptRows.{flipped, IsBelowAll-from_below}

IsBelowAll-insert_key : (low key : List Value) (keys : List (List Value)) → cells_cmp low key ≡ Less → IsBelowAll low keys → IsBelowAll low (insert_key key keys)
IsBelowAll-insert_key low key [] less below = (less, tt)
IsBelowAll-insert_key low key (first ∷ rest) less below =
    elim (cells_cmp key first) as (λ o. IsBelowAll low (match_ordering o (key ∷ first ∷ rest) (first ∷ rest) (first ∷ insert_key key rest))) [
      | Less ↦ (less, below)
      | Equal ↦ below
      | Greater ↦ (below.0, IsBelowAll-insert_key low key rest less below.1)
    ]

pub IsAscending-insert_key : (key : List Value) (keys : List (List Value)) → IsAscending keys → IsAscending (insert_key key keys)
IsAscending-insert_key key [] ascends = (tt, tt)
IsAscending-insert_key key (first ∷ rest) ascends =
    elim (cells_cmp key first) as (λ o. cells_cmp key first ≡ o → IsAscending (match_ordering o (key ∷ first ∷ rest) (first ∷ rest) (first ∷ insert_key key rest))) [
      | Less ↦ λ e. ((e, IsBelowAll-from_below key first rest e ascends.0), ascends)
      | Equal ↦ λ e. ascends
      | Greater ↦ λ e. (IsBelowAll-insert_key first key rest (flipped key first Greater e) ascends.0, IsAscending-insert_key key rest ascends.1)
    ] refl

-- whether a key is in a list with one more key inserted
pub list_any-insert_key : (target key : List Value) (keys : List (List Value)) → list_any (λ other. same_cells other target) (insert_key key keys) ≡ (same_cells key target || list_any (λ other. same_cells other target) keys)
list_any-insert_key target key [] = refl
list_any-insert_key target key (first ∷ rest) =
    let has : List (List Value) → Bool = λ keys. list_any (λ other. same_cells other target) keys in
    elim (cells_cmp key first) as (λ o. cells_cmp key first ≡ o → has (match_ordering o (key ∷ first ∷ rest) (first ∷ rest) (first ∷ insert_key key rest)) ≡ (same_cells key target || has (first ∷ rest))) [
      | Less ↦ λ e. refl
      | Equal ↦ λ e. rw (cells_exact key first e) (both_or (same_cells first target) (has rest))
      | Greater ↦ λ e. rw (list_any-insert_key target key rest) (swapped_or (same_cells first target) (same_cells key target) (has rest))
    ] refl
  where
    both_or : (a b : Bool) → (a || b) ≡ (a || (a || b))
    both_or true b = refl
    both_or false b = refl

    swapped_or : (a b c : Bool) → (a || (b || c)) ≡ (b || (a || c))
    swapped_or true true c = refl
    swapped_or true false c = refl
    swapped_or false true c = refl
    swapped_or false false c = refl

comm_from_less : (a b : List Value) (keys : List (List Value)) → cells_cmp a b ≡ Less → insert_key a (insert_key b keys) ≡ insert_key b (insert_key a keys)
comm_from_less a b [] less = rw (less, flipped a b Less less)
comm_from_less a b (first ∷ rest) less =
    let greater = flipped a b Less less in
    let Goal : Ordering → Ordering → Type 0 = λ o p. insert_key a (match_ordering o (b ∷ first ∷ rest) (first ∷ rest) (first ∷ insert_key b rest)) ≡ insert_key b (match_ordering p (a ∷ first ∷ rest) (first ∷ rest) (first ∷ insert_key a rest)) in
    elim (cells_cmp b first) as (λ o. cells_cmp b first ≡ o → Goal o (cells_cmp a first)) [
      | Less ↦ λ e. rw (less, cells_total.trans a b first less e, greater, e)
      | Equal ↦ λ e. let below : cells_cmp a first ≡ Less = rw (← cells_exact b first e) less in rw (below, greater, e)
      | Greater ↦ λ e. elim (cells_cmp a first) as (λ p. cells_cmp a first ≡ p → Goal Greater p) [
        | Less ↦ λ d. rw (d, greater, e)
        | Equal ↦ λ d. rw (d, e)
        | Greater ↦ λ d. rw (d, e) (ap (λ others. first ∷ others) (comm_from_less a b rest less))
      ] refl
    ] refl

-- the order in which keys are inserted does not matter
pub insert_key-comm : (a b : List Value) (keys : List (List Value)) → insert_key a (insert_key b keys) ≡ insert_key b (insert_key a keys)
insert_key-comm a b keys =
    elim (cells_cmp a b) as (λ o. cells_cmp a b ≡ o → insert_key a (insert_key b keys) ≡ insert_key b (insert_key a keys)) [
      | Less ↦ λ e. comm_from_less a b keys e
      | Equal ↦ λ e. rw (cells_exact a b e)
      | Greater ↦ λ e. sym (comm_from_less b a keys (flipped a b Greater e))
    ] refl
