-- The numbers of entries, in a valid history and in parts of it.
use Rattle.std.proofs.Common.{◌≡◌, ◌∙◌, sym, ap, refl, subst, arith, ℕ, zero, suc, ◌+◌, ◌<◌, ◌≤◌, Bool, true, false, [], ◌∷◌, ◌++◌, map, filter, length, take, drop, cond}
use Rattle.std.specs.Prelude.{⊤, ◌-◌, Some, slice_get}
use Rattle.std.proofs.lemmas.List.{take-append-drop}
use Rattle.std.proofs.lemmas.List.Elements.{filter-append}
use Rattle.hippo_model.specs.declared.entry.Entry.{Entry}
use Rattle.hippo_model.specs.declared.stored.StoredEntry.{StoredEntry}
use Rattle.hippo_model.specs.Terms.{History, Meaning}
use Rattle.hippo_model.specs.StoredForms.{stored}
use Rattle.hippo_model.specs.Validity.{is_valid}
use Rattle.hippo_model_laws.proofs.ValidFronts.{holds_of_each_valid, next_number}
use Rattle.hippo_keeper.specs.Keeping.{Store, RisesAbove, last_number}
use Rattle.hippo_keeper.proofs.RisingLemmas.{RisesAbove-lower}
use Rattle.hippo_backlog.specs.ReadingAhead.{AreUpTo}

-- each entry has the next number
abbrev pub IsNumbered : ℕ → History → Type 0
IsNumbered number [] = ⊤
IsNumbered number (entry ∷ rest) = (entry.seq ≡ number + 1) × IsNumbered (number + 1) rest

IsNumbered-append : (number : ℕ) (history : History) (entry : Entry) → IsNumbered number history → entry.seq ≡ number + length history + 1 → IsNumbered number (history ++ entry ∷ [])
IsNumbered-append number [] entry so_far next = (omega arith, tt)
IsNumbered-append number (first ∷ rest) entry so_far next = (so_far.0, IsNumbered-append (number + 1) rest entry so_far.1 (omega arith))

-- the entries of a valid history are numbered so
pub valid-IsNumbered : (meaning : Meaning) (history : History) → is_valid meaning history ≡ true → IsNumbered 0 history
valid-IsNumbered meaning history valid =
    holds_of_each_valid meaning (λ h. IsNumbered 0 h) (λ h entry good so_far may. let next = next_number meaning h entry may in IsNumbered-append 0 h entry so_far (omega arith)) tt history valid

pub IsNumbered-rises : (number : ℕ) (history : History) → IsNumbered number history → RisesAbove number (map stored history)
IsNumbered-rises number [] numbered = tt
IsNumbered-rises number (first ∷ rest) numbered =
    let seq : first.seq ≡ number + 1 = numbered.0 in
    (omega arith, subst (λ (n : ℕ). RisesAbove n (map stored rest)) (sym seq) (IsNumbered-rises (number + 1) rest numbered.1))

-- numbers that are at most one number are at most each higher one
pub AreUpTo-higher : (low high : ℕ) (history : History) → low ≤ high → AreUpTo low history → AreUpTo high history
AreUpTo-higher low high [] le up_to = tt
AreUpTo-higher low high (entry ∷ rest) le up_to = let first : entry.seq ≤ low = up_to.0 in (omega arith, AreUpTo-higher low high rest le up_to.1)

pub AreUpTo-append : (number : ℕ) (history : History) (entry : Entry) → AreUpTo number history → entry.seq ≤ number → AreUpTo number (history ++ entry ∷ [])
AreUpTo-append number [] entry up_to last = (last, tt)
AreUpTo-append number (first ∷ rest) entry up_to last = (up_to.0, AreUpTo-append number rest entry up_to.1 last)

pub filter-AreUpTo : (test : Entry → Bool) (number : ℕ) (history : History) → AreUpTo number history → AreUpTo number (filter test history)
filter-AreUpTo test number [] up_to = tt
filter-AreUpTo test number (entry ∷ rest) up_to =
    elim (test entry) as (λ passes. AreUpTo number (cond passes (entry ∷ filter test rest) (filter test rest))) [
      | true ↦ (up_to.0, filter-AreUpTo test number rest up_to.1)
      | false ↦ filter-AreUpTo test number rest up_to.1
    ]

-- a filtered list of rising numbers rises
pub filter-rises : (test : Entry → Bool) (number : ℕ) (history : History) → RisesAbove number (map stored history) → RisesAbove number (map stored (filter test history))
filter-rises test number [] rises = tt
filter-rises test number (entry ∷ rest) rises =
    let above : number < entry.seq = rises.0 in
    let later = filter-rises test entry.seq rest rises.1 in
    elim (test entry) as (λ passes. RisesAbove number (map stored (cond passes (entry ∷ filter test rest) (filter test rest)))) [
      | true ↦ (above, later)
      | false ↦ RisesAbove-lower number entry.seq (map stored (filter test rest)) (omega arith) later
    ]

-- the last of rising numbers is the highest
pub last-above : (number : ℕ) (entries : Store) → RisesAbove number entries → number + length entries ≤ last_number number entries
last-above number [] rises = omega arith
last-above number (entry ∷ rest) rises =
    let above : number < entry.seq = rises.0 in
    let later = last-above entry.seq rest rises.1 in
    omega arith

pub last-higher : (low high : ℕ) (entries : Store) → low ≤ high → last_number low entries ≤ last_number high entries
last-higher low high [] le = le
last-higher low high (entry ∷ rest) le = omega arith

-- each number is at most the last
pub last-AreUpTo : (number : ℕ) (history : History) → RisesAbove number (map stored history) → AreUpTo (last_number number (map stored history)) history
last-AreUpTo number [] rises = tt
last-AreUpTo number (entry ∷ rest) rises =
    let above = last-above entry.seq (map stored rest) rises.1 in
    (omega arith, last-AreUpTo entry.seq rest rises.1)

-- if each number is at most another, so is the last
pub AreUpTo-last : (number high : ℕ) (history : History) → number ≤ high → AreUpTo high history → last_number number (map stored history) ≤ high
AreUpTo-last number high [] le up_to = le
AreUpTo-last number high (entry ∷ rest) le up_to = AreUpTo-last entry.seq high rest up_to.0 up_to.1

IsNumbered-AreUpTo : (number : ℕ) (history : History) → IsNumbered number history → AreUpTo (number + length history) history
IsNumbered-AreUpTo number [] numbered = tt
IsNumbered-AreUpTo number (entry ∷ rest) numbered =
    let seq : entry.seq ≡ number + 1 = numbered.0 in
    (omega arith, AreUpTo-higher (number + 1 + length rest) (number + length (entry ∷ rest)) rest (omega arith) (IsNumbered-AreUpTo (number + 1) rest numbered.1))

-- the numbers of a valid history are at most its length
pub valid-AreUpTo : (meaning : Meaning) (history : History) → is_valid meaning history ≡ true → AreUpTo (length history) history
valid-AreUpTo meaning history valid = AreUpTo-higher (0 + length history) (length history) history (omega arith) (IsNumbered-AreUpTo 0 history (valid-IsNumbered meaning history valid))

pub valid-rises : (meaning : Meaning) (history : History) → is_valid meaning history ≡ true → RisesAbove 0 (map stored history)
valid-rises meaning history valid = IsNumbered-rises 0 history (valid-IsNumbered meaning history valid)

-- the first entries and those after them
first_up_to : (number place : ℕ) (history : History) → IsNumbered number history → AreUpTo (number + place) (take place history)
first_up_to number zero history numbered = tt
first_up_to number (suc place) [] numbered = tt
first_up_to number (suc place) (entry ∷ rest) numbered =
    let seq : entry.seq ≡ number + 1 = numbered.0 in
    (omega arith, AreUpTo-higher (number + 1 + place) (number + suc place) (take place rest) (omega arith) (first_up_to (number + 1) place rest numbered.1))

others_above : (number place : ℕ) (history : History) → IsNumbered number history → RisesAbove (number + place) (map stored (drop place history))
others_above number zero history numbered = RisesAbove-lower (number + zero) number (map stored history) (omega arith) (IsNumbered-rises number history numbered)
others_above number (suc place) [] numbered = tt
others_above number (suc place) (entry ∷ rest) numbered =
    RisesAbove-lower (number + suc place) (number + 1 + place) (map stored (drop place rest)) (omega arith) (others_above (number + 1) place rest numbered.1)

cons_same : (first : Entry) (xs ys : History) → xs ≡ ys → first ∷ xs ≡ first ∷ ys
cons_same first xs ys same = ap (λ rest. first ∷ rest) same

-- rising numbers have one place at which they pass a number
split_same : (place : ℕ) (low high front rest : History) → low ++ high ≡ front ++ rest → AreUpTo place low → AreUpTo place front → RisesAbove place (map stored high) → RisesAbove place (map stored rest) → low ≡ front
split_same place [] high [] rest same up_to front_up_to above rest_above = refl
split_same place [] [] (entry ∷ front) rest same up_to front_up_to above rest_above = absurd cc
split_same place [] (first ∷ high) (entry ∷ front) rest same up_to front_up_to above rest_above =
    let one : first ≡ entry = cc in
    let number = ap (λ (e : Entry). e.seq) one in
    let over : place < first.seq = above.0 in
    let under : entry.seq ≤ place = front_up_to.0 in
    absurd (omega arith)
split_same place (entry ∷ low) high [] [] same up_to front_up_to above rest_above = absurd cc
split_same place (entry ∷ low) high [] (first ∷ rest) same up_to front_up_to above rest_above =
    let one : entry ≡ first = cc in
    let number = ap (λ (e : Entry). e.seq) one in
    let over : place < first.seq = rest_above.0 in
    let under : entry.seq ≤ place = up_to.0 in
    absurd (omega arith)
split_same place (entry ∷ low) high (other ∷ front) rest same up_to front_up_to above rest_above =
    let one : entry ≡ other = cc in
    let others : low ++ high ≡ front ++ rest = cc in
    let rest_is = split_same place low high front rest others up_to.1 front_up_to.1 above rest_above in
    λ i. one i ∷ rest_is i

-- of the entries that pass a test, those up to a place are those among the first entries
pub passed_at : (meaning : Meaning) (history : History) (test : Entry → Bool) (place : ℕ) (used left : History) → is_valid meaning history ≡ true → filter test history ≡ used ++ left → AreUpTo place used → RisesAbove place (map stored left) → used ≡ filter test (take place history)
passed_at meaning history test place used left valid parts up_to above =
    let numbered = valid-IsNumbered meaning history valid in
    let cut : filter test history ≡ filter test (take place history) ++ filter test (drop place history) = ap (filter test) (sym (take-append-drop place history)) ∙ filter-append test (take place history) (drop place history) in
    split_same place used left (filter test (take place history)) (filter test (drop place history)) (sym parts ∙ cut) up_to
    (filter-AreUpTo test place (take place history) (AreUpTo-higher (0 + place) place (take place history) (omega arith) (first_up_to 0 place history numbered))) above
    (filter-rises test place (drop place history) (RisesAbove-lower place (0 + place) (map stored (drop place history)) (omega arith) (others_above 0 place history numbered)))

last_at : (number : ℕ) (entries : Store) (i : ℕ) (kept : StoredEntry) → i + 1 ≡ length entries → Some kept ≡ slice_get entries i → kept.seq ≡ last_number number entries
last_at number [] i kept at_end is = absurd (omega arith)
last_at number (first ∷ []) zero kept at_end is = let same : kept ≡ first = cc in ap (λ (e : StoredEntry). e.seq) same
last_at number (first ∷ []) (suc i) kept at_end is = absurd (omega arith)
last_at number (first ∷ second ∷ rest) zero kept at_end is = absurd (omega arith)
last_at number (first ∷ second ∷ rest) (suc i) kept at_end is = last_at first.seq (second ∷ rest) i kept (omega arith) is

-- the last entry has the last number
pub last_there : (number : ℕ) (entries : Store) (kept : StoredEntry) → Some kept ≡ slice_get entries (length entries - 1) → kept.seq ≡ last_number number entries
last_there number [] kept is = absurd cc
last_there number (first ∷ rest) kept is = last_at number (first ∷ rest) (length (first ∷ rest) - 1) kept (omega arith) is
