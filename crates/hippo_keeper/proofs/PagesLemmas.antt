-- Pages whose numbers rise, and where the entries above a number begin.
use Rattle.std.proofs.Common.{◌≡◌, ◌∙◌, ℕ, zero, suc, ◌+◌, ◌-◌, ◌<◌, ◌≤◌, true, false, List, [], ◌∷◌, ◌++◌, length, get_or, take, drop, filter, nat_lt, leb, length-take, Bool, ap, sym, refl, subst, add-one, arith}
use Rattle.std.proofs.Math.Seq.{drop-cons}
use Rattle.std.proofs.lemmas.Bool.Decides.{nat_tests}
use Rattle.std.proofs.lemmas.List.Elements.{filter-append}
use Rattle.std.specs.List.Sorted.{IsPartitionPoint}
use Rattle.std.specs.Prelude.{⊤}
use Rattle.hippo_model.specs.declared.stored.StoredEntry.{StoredEntry}
use Rattle.hippo_keeper.specs.Keeping.{Store, RisesAbove, last_number}
use Rattle.hippo_keeper.specs.Selecting.{is_any, is_selected, selected_entries, IsHandedOver}
use Rattle.hippo_keeper.specs.Paging.{paged, AreFilled, picked, with_picked}
use Rattle.hippo_keeper.specs.declared.selection.ReadQuery.{ReadQuery}
use Rattle.hippo_keeper.proofs.RisingLemmas.{last_rises, RisesAbove-filter, RisesAbove-take, RisesAbove-above}
use Rattle.hippo_keeper.proofs.PickLemmas.{picked-append, with_picked-append}

-- one more page
pub AreFilled-append : (pages : List Store) (page : Store) → AreFilled pages → 0 < length page → AreFilled (pages ++ page ∷ [])
AreFilled-append [] page filled some = (some, tt)
AreFilled-append (first ∷ rest) page filled some = (filled.0, AreFilled-append rest page filled.1 some)

-- the next page, and the pages after it
pub paged-next : (pages : List Store) (i : ℕ) (page : Store) → i < length pages → page ≡ get_or pages i page → paged (drop i pages) ≡ page ++ paged (drop (i + 1) pages)
paged-next pages i page inside is =
    rw add-one (ap paged (drop-cons pages i page inside) ∙ ap (λ first. first ++ paged (drop (suc i) pages)) (sym is))

-- the numbers of the first entries rise, and those of the rest rise from the last of the first
pub RisesAbove-front : (number : ℕ) (front back : Store) → RisesAbove number (front ++ back) → RisesAbove number front
RisesAbove-front number [] back rises = tt
RisesAbove-front number (entry ∷ rest) back rises = (rises.0, RisesAbove-front entry.seq rest back rises.1)

RisesAbove-back : (number : ℕ) (front back : Store) → RisesAbove number (front ++ back) → RisesAbove (last_number number front) back
RisesAbove-back number [] back rises = rises
RisesAbove-back number (entry ∷ rest) back rises = RisesAbove-back entry.seq rest back rises.1

last_above : (number : ℕ) (page : Store) → 0 < length page → RisesAbove number page → number < last_number 0 page
last_above number [] some rises = absurd (omega arith)
last_above number (entry ∷ rest) some rises =
    let first : number < entry.seq = rises.0 in
    let later = last_rises entry.seq rest rises.1 in
    omega arith

last_of_some : (number : ℕ) (page : Store) → 0 < length page → last_number number page ≡ last_number 0 page
last_of_some number [] some = absurd (omega arith)
last_of_some number (entry ∷ rest) some = refl

-- the last numbers of pages do not decrease
each_last_above : (number : ℕ) (pages : List Store) → AreFilled pages → RisesAbove number (paged pages) → (k : ℕ) (d : Store) → k < length pages → number < last_number 0 (get_or pages k d)
each_last_above number [] filled rises k d inside = absurd (omega arith)
each_last_above number (page ∷ rest) filled rises zero d inside = last_above number page filled.0 (RisesAbove-front number page (paged rest) rises)
each_last_above number (page ∷ rest) filled rises (suc k) d inside =
    let first = last_rises number page (RisesAbove-front number page (paged rest) rises) in
    let later = each_last_above (last_number number page) rest filled.1 (RisesAbove-back number page (paged rest) rises) k d (omega arith) in
    omega arith

pub lasts_in_order : (number : ℕ) (pages : List Store) → AreFilled pages → RisesAbove number (paged pages) → (i j : ℕ) (d : Store) → i ≤ j → j < length pages → last_number 0 (get_or pages i d) ≤ last_number 0 (get_or pages j d)
lasts_in_order number [] filled rises i j d le inside = absurd (omega arith)
lasts_in_order number (page ∷ rest) filled rises zero zero d le inside = omega arith
lasts_in_order number (page ∷ rest) filled rises zero (suc j) d le inside =
    let later = each_last_above (last_number number page) rest filled.1 (RisesAbove-back number page (paged rest) rises) j d (omega arith) in
    omega (arith, last_of_some number page filled.0)
lasts_in_order number (page ∷ rest) filled rises (suc i) zero d le inside = absurd (omega arith)
lasts_in_order number (page ∷ rest) filled rises (suc i) (suc j) d le inside =
    lasts_in_order (last_number number page) rest filled.1 (RisesAbove-back number page (paged rest) rises) i j d (omega arith) (omega arith)

-- if the last number is not above a number, no entry is
none_above : (after number : ℕ) (page : Store) → RisesAbove number page → last_number number page ≤ after → filter (λ entry. nat_lt after entry.seq) page ≡ []
none_above after number [] rises low = refl
none_above after number (entry ∷ rest) rises low =
    let first = last_rises entry.seq rest rises.1 in
    let fails : nat_lt after entry.seq ≡ false = grind (arith, nat_tests) in
    rw fails (none_above after entry.seq rest rises.1 low)

pub pages_from : (after number : ℕ) (pages : List Store) (place : ℕ) → AreFilled pages → RisesAbove number (paged pages) → IsPartitionPoint (λ page. leb (last_number 0 page) after ≡ true) (λ page. leb (last_number 0 page) after ≡ false) pages place → filter (λ entry. nat_lt after entry.seq) (paged (drop place pages)) ≡ filter (λ entry. nat_lt after entry.seq) (paged pages)
pages_from after number pages zero filled rises split = refl
pages_from after number [] (suc place) filled rises split = refl
pages_from after number (page ∷ rest) (suc place) filled rises split =
    let low : leb (last_number 0 page) after ≡ true = split.0 0 page (omega arith) (omega arith) in
    let below : last_number number page ≤ after = rw (last_of_some number page filled.0) (grind (arith, nat_tests)) in
    let none = none_above after number page (RisesAbove-front number page (paged rest) rises) below in
    pages_from after (last_number number page) rest place filled.1 (RisesAbove-back number page (paged rest) rises) ((λ k d inside low. split.0 (suc k) d (omega arith) (omega arith)), (λ k d inside low. split.1 (suc k) d (omega arith) (omega arith)))
    ∙ sym (filter-append (λ entry. nat_lt after entry.seq) page (paged rest) ∙ ap (λ front. front ++ filter (λ entry. nat_lt after entry.seq) (paged rest)) none)

-- what is picked from the later pages, and then from the last entries
pub picked_of_all : (read_query : ReadQuery) (above full last first list : Store) → first ≡ with_picked read_query [] above → list ≡ with_picked read_query first last → filter (λ entry. nat_lt read_query.after entry.seq) above ≡ filter (λ entry. nat_lt read_query.after entry.seq) full → list ≡ selected_entries (is_selected read_query.selection) read_query.after read_query.max (full ++ last)
picked_of_all read_query above full last first list before remaining same =
    let all : read_query.max - 0 ≡ read_query.max = omega arith in
    remaining
    ∙ ap (λ list. with_picked read_query list last) before
    ∙ with_picked-append read_query [] above last
    ∙ (λ i. take (all i) (picked-append read_query above last i))
    ∙ ap (λ entries. take read_query.max (filter (is_selected read_query.selection) entries ++ picked read_query last)) same
    ∙ ap (take read_query.max) (sym (picked-append read_query full last))

-- what is picked this way is what a read returns
pub IsHandedOver-of : (test : StoredEntry → Bool) (after max : ℕ) (kept list : Store) → list ≡ selected_entries test after max kept → RisesAbove 0 kept → IsHandedOver ⊤ test after max kept list
IsHandedOver-of test after max kept list is rises =
    let above = filter (λ entry. nat_lt after entry.seq) kept in
    record {
      told = λ told. is;
      few = omega (arith, ap length is, length-take max (filter test above));
      order = subst (λ (list : Store). RisesAbove after list) (sym is) (RisesAbove-take max after (filter test above) (RisesAbove-filter test after above (RisesAbove-above after 0 kept rises)));
    }

-- a list shorter than the limit is the whole list
take_short : (max : ℕ) (entries : Store) → length (take max entries) < max → take max entries ≡ entries
take_short zero entries short = absurd (omega arith)
take_short (suc max) [] short = refl
take_short (suc max) (entry ∷ rest) short = ap (λ rest. entry ∷ rest) (take_short max rest (omega arith))

any_pass : (entries : Store) → filter is_any entries ≡ entries
any_pass [] = refl
any_pass (entry ∷ rest) = ap (λ rest. entry ∷ rest) (any_pass rest)

above_zero : (number : ℕ) (entries : Store) → RisesAbove number entries → filter (λ entry. nat_lt 0 entry.seq) entries ≡ entries
above_zero number [] rises = refl
above_zero number (entry ∷ rest) rises =
    let first : number < entry.seq = rises.0 in
    let passes : nat_lt 0 entry.seq ≡ true = grind (arith, nat_tests) in
    rw passes (ap (λ rest. entry ∷ rest) (above_zero entry.seq rest rises.1))

pub all_handed_over : (max : ℕ) (kept list : Store) → list ≡ selected_entries is_any 0 max kept → RisesAbove 0 kept → length list < max → list ≡ kept
all_handed_over max kept list is rises short =
    let whole = any_pass (filter (λ entry. nat_lt 0 entry.seq) kept) ∙ above_zero 0 kept rises in
    let taken : list ≡ take max kept = is ∙ ap (take max) whole in
    taken ∙ take_short max kept (omega (arith, ap length taken))
