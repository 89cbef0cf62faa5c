-- Lists read by place.
use Rattle.std.proofs.Common.{◌≡◌, ℕ, suc, ◌+◌, ◌-◌, ◌<◌, Bool, List, [], ◌∷◌, ◌++◌, map, drop, length, get_or, Option, None, Some, Bor, filter_map, refl, sym, ap, ◌∙◌, append_assoc, add-one, arith}
use Rattle.std.proofs.Common.{slice_get}
use Rattle.std.specs.Prelude.{◌||◌, option_to_list}
use Rattle.std.specs.List.{list_any, flat_map, enumerate_from, cons_option, range_with_len}
use Rattle.std.proofs.Math.Seq.{drop-cons}
use Rattle.std.proofs.lemmas.Option.{slice_get_within, get_or_from_slice_get}

-- the member at a place, then those after it
pub drop_at_item : {A : Type 0} (items : List A) (i : ℕ) (item : A) → slice_get items i ≡ Some item → drop i items ≡ item ∷ drop (i + 1) items
drop_at_item items i item e =
    let within = slice_get_within items i item e in
    let read = get_or_from_slice_get items i item item e in
    rw (add-one) (drop-cons items i item within ∙ ap (λ first. first ∷ drop (suc i) items) read)

pub drop_at_get_or : {A : Type 0} (items : List A) (i : ℕ) (item : A) → i < length items → item ≡ get_or items i item → drop i items ≡ item ∷ drop (i + 1) items
drop_at_get_or items i item within read =
    rw (add-one) (drop-cons items i item within ∙ ap (λ first. first ∷ drop (suc i) items) (sym read))

-- a test holds for some member of a list of loans
pub list_any-lent : {A : Type 0} (test : A → Bool) (loans : List (Bor A)) → list_any test (map (λ (loan : Bor A). loan.now) loans) ≡ list_any (λ (loan : Bor A). test loan.now) loans
list_any-lent test [] = refl
list_any-lent test (first ∷ rest) = ap (λ t. test first.now || t) (list_any-lent test rest)

pub lent-push : {A : Type 0} (loans : List (Bor A)) (last : Bor A) → map (λ (loan : Bor A). loan.now) (loans ++ last ∷ []) ≡ map (λ (loan : Bor A). loan.now) loans ++ last.now ∷ []
lent-push [] last = refl
lent-push (first ∷ rest) last = ap (λ l. first.now ∷ l) (lent-push rest last)

-- what a filter keeps of the member at a place, then of those after it
pub filter_map_at_item : {A B : Type 0} (keep : ℕ × A → Option B) (items : List A) (i : ℕ) (item : A) → slice_get items i ≡ Some item → filter_map keep (enumerate_from i (drop i items)) ≡ option_to_list (keep (i, item)) ++ filter_map keep (enumerate_from (i + 1) (drop (i + 1) items))
filter_map_at_item keep items i item e =
    ap (λ l. filter_map keep (enumerate_from i l)) (drop_at_item items i item e) ∙ one (keep (i, item)) (filter_map keep (enumerate_from (i + 1) (drop (i + 1) items)))
  where
    one : {B : Type 0} (kept : Option B) (rest : List B) → cons_option kept rest ≡ option_to_list kept ++ rest
    one None rest = refl
    one (Some first) rest = refl

-- the results for the member at a place, then for those after it
pub flat_map_at_item : {A B : Type 0} (f : ℕ × A → List B) (items : List A) (i : ℕ) (item : A) → slice_get items i ≡ Some item → flat_map f (enumerate_from i (drop i items)) ≡ f (i, item) ++ flat_map f (enumerate_from (i + 1) (drop (i + 1) items))
flat_map_at_item f items i item e = ap (λ l. flat_map f (enumerate_from i l)) (drop_at_item items i item e)

pub any_at_item : {A : Type 0} (test : A → Bool) (items : List A) (i : ℕ) (item : A) → slice_get items i ≡ Some item → list_any test (drop i items) ≡ (test item || list_any test (drop (i + 1) items))
any_at_item test items i item e = ap (list_any test) (drop_at_item items i item e)

-- a range begins with its first number
pub range_at : (i end : ℕ) → i < end → range_with_len i (end - i) ≡ i ∷ range_with_len (i + 1) (end - (i + 1))
range_at i end within =
    let e : end - i ≡ suc (end - (i + 1)) = omega arith in
    ap (range_with_len i) e

-- what is kept with one more piece, and the rest, make up the whole list
pub one_more : {A : Type 0} (kept new piece rest all : List A) → new ≡ kept ++ piece → kept ++ (piece ++ rest) ≡ all → new ++ rest ≡ all
one_more kept new piece rest all e f = rw e (append_assoc kept piece rest ∙ f)
