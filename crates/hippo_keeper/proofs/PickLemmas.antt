-- What a read picks, one entry after another.
use Rattle.std.proofs.Common.{◌≡◌, ◌∙◌, ℕ, zero, suc, ◌-◌, [], ◌∷◌, ◌++◌, length, take, filter, ap, sym, refl, append_assoc, length-append, arith, nat_lt}
use Rattle.std.proofs.lemmas.List.Elements.{filter-append}
use Rattle.hippo_model.specs.declared.stored.StoredEntry.{StoredEntry}
use Rattle.hippo_keeper.specs.Keeping.{Store}
use Rattle.hippo_keeper.specs.Selecting.{is_selected}
use Rattle.hippo_keeper.specs.Paging.{picked, with_picked}
use Rattle.hippo_keeper.specs.declared.selection.ReadQuery.{ReadQuery}

-- taking from two lists is taking from the first, and then from the second
take_of_both : (max : ℕ) (xs ys : Store) → take max xs ++ take (max - length (take max xs)) ys ≡ take max (xs ++ ys)
take_of_both zero xs ys = refl
take_of_both (suc max) [] ys = let all : suc max - 0 ≡ suc max = omega arith in ap (λ count. take count ys) all
take_of_both (suc max) (x ∷ xs) ys =
    let less : suc max - suc (length (take max xs)) ≡ max - length (take max xs) = omega arith in
    ap (λ rest. x ∷ rest) (ap (λ count. take max xs ++ take count ys) less ∙ take_of_both max xs ys)

pub picked-append : (read_query : ReadQuery) (xs ys : Store) → picked read_query (xs ++ ys) ≡ picked read_query xs ++ picked read_query ys
picked-append read_query xs ys =
    ap (filter (is_selected read_query.selection)) (filter-append (λ entry. nat_lt read_query.after entry.seq) xs ys)
    ∙ filter-append (is_selected read_query.selection) (filter (λ entry. nat_lt read_query.after entry.seq) xs) (filter (λ entry. nat_lt read_query.after entry.seq) ys)

-- picking from some entries, and then from the entries that follow them
pub with_picked-append : (read_query : ReadQuery) (list xs ys : Store) → with_picked read_query (with_picked read_query list xs) ys ≡ with_picked read_query list (xs ++ ys)
with_picked-append read_query list xs ys =
    let max = read_query.max - length list in
    let first = take max (picked read_query xs) in
    let room : read_query.max - length (list ++ first) ≡ max - length first = omega (arith, length-append list first) in
    ap (λ count. (list ++ first) ++ take count (picked read_query ys)) room
    ∙ append_assoc list first (take (max - length first) (picked read_query ys))
    ∙ ap (λ rest. list ++ rest) (take_of_both max (picked read_query xs) (picked read_query ys)
    ∙ ap (take max) (sym (picked-append read_query xs ys)))

-- one more entry was examined, or some more
pub with_picked-next : (read_query : ReadQuery) (list later entries first rest whole : Store) → later ≡ with_picked read_query list first → entries ≡ first ++ rest → with_picked read_query list entries ≡ whole → with_picked read_query later rest ≡ whole
with_picked-next read_query list later entries first rest whole picked next so_far =
    ap (λ list. with_picked read_query list rest) picked
    ∙ with_picked-append read_query list first rest
    ∙ ap (with_picked read_query list) (sym next) ∙ so_far

pub with_picked-one : (read_query : ReadQuery) (list later entries rest whole : Store) (entry : StoredEntry) → later ≡ with_picked read_query list (entry ∷ []) → entries ≡ entry ∷ rest → with_picked read_query list entries ≡ whole → with_picked read_query later rest ≡ whole
with_picked-one read_query list later entries rest whole entry picked next so_far = with_picked-next read_query list later entries (entry ∷ []) rest whole picked next so_far
