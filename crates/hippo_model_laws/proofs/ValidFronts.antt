-- Valid histories, entry by entry.
use Rattle.std.proofs.Common.{◌≡◌, ℕ, zero, suc, ◌+◌, ◌-◌, ◌<◌, Bool, true, false, ◌&&◌, [], ◌∷◌, ◌++◌, length, take, Option, Some, None, refl, sym, ap, subst, ◌∙◌, append_assoc, arith}
use Rattle.std.specs.Prelude.{is_none, slice_get, if◌then◌else◌, ◌==◌}
use Rattle.std.specs.Option.{option_or}
use Rattle.std.proofs.lemmas.Bool.{and_parts, eqb-true}
use Rattle.std.proofs.lemmas.List.{append-nil, length-append, take-append-le, take_at}
use Rattle.std.proofs.lemmas.Option.{slice_get_within}
use Rattle.hippo_model.specs.declared.entry.Entry.{Entry}
use Rattle.hippo_model.specs.Terms.{History, Meaning, Place}
use Rattle.hippo_model.specs.Histories.{before_entry}
use Rattle.hippo_model.specs.Keepable.{is_keepable}
use Rattle.hippo_model.specs.Validity.{keeps_order, is_acceptable, may_follow, damage_after, damage, is_valid}
use Rattle.hippo_model_laws.specs.Audits.{StandsIn}

if_or : (test : Bool) (found place later : Option ℕ) → (if test then option_or found later else option_or place later) ≡ option_or (if test then found else place) later
if_or true found place later = refl
if_or false found place later = refl

-- damage is found in the first entries or after them
pub damage_after-append : (meaning : Meaning) (front first rest : History) → damage_after meaning front (first ++ rest) ≡ option_or (damage_after meaning front first) (damage_after meaning (front ++ first) rest)
damage_after-append meaning front [] rest = rw (append-nil front) refl
damage_after-append meaning front (entry ∷ first) rest =
    let place : Option ℕ = Some (length front + 1) in
    let so_far : History = front ++ entry ∷ [] in
    let remaining : Option ℕ = damage_after meaning (front ++ entry ∷ first) rest in
    let regrouped : damage_after meaning (so_far ++ first) rest ≡ remaining = ap (λ (h : History). damage_after meaning h rest) (append_assoc front (entry ∷ []) first) in
    let below : damage_after meaning so_far (first ++ rest) ≡ option_or (damage_after meaning so_far first) remaining =
    damage_after-append meaning so_far first rest ∙ ap (option_or (damage_after meaning so_far first)) regrouped in
    ap (λ (d : Option ℕ). if may_follow meaning front entry then d else place) below ∙ if_or (may_follow meaning front entry) (damage_after meaning so_far first) place remaining

none_of_or : (x y : Option ℕ) → is_none (option_or x y) ≡ true → is_none x ≡ true
none_of_or None y e = refl
none_of_or (Some n) y e = e

-- a prefix of a valid history is valid
pub front_is_valid : (meaning : Meaning) (front rest : History) → is_valid meaning (front ++ rest) ≡ true → is_valid meaning front ≡ true
front_is_valid meaning front rest valid =
    none_of_or (damage meaning front) (damage_after meaning front rest) (sym (ap is_none (damage_after-append meaning [] front rest)) ∙ valid)

none_of_one : (d : Option ℕ) (test : Bool) (place : ℕ) → is_none (option_or d (if test then None else Some place)) ≡ (is_none d && test)
none_of_one None true place = refl
none_of_one None false place = refl
none_of_one (Some n) test place = refl

-- a history with one more entry is valid exactly when the history is valid and the entry may follow
-- it
pub is_valid-append : (meaning : Meaning) (history : History) (entry : Entry) → is_valid meaning (history ++ entry ∷ []) ≡ (is_valid meaning history && may_follow meaning history entry)
is_valid-append meaning history entry =
    ap is_none (damage_after-append meaning [] history (entry ∷ [])) ∙ none_of_one (damage meaning history) (may_follow meaning history entry) (length history + 1)

follows : (test : Bool) (found : Option ℕ) (place : ℕ) → (if test then found else Some place) ≡ None → (test ≡ true) × (found ≡ None)
follows true found place e = (refl, e)
follows false found place e = absurd cc

none : (d : Option ℕ) → is_none d ≡ true → d ≡ None
none None e = refl
none (Some n) e = absurd cc

module _ (meaning : Meaning) (holds : History → Type 0)
    (kept : (history : History) (entry : Entry) → is_valid meaning history ≡ true → holds history → may_follow meaning history entry ≡ true → holds (history ++ entry ∷ [])) where
  kept_after : (front later : History) → is_valid meaning front ≡ true → holds front → damage_after meaning front later ≡ None → holds (front ++ later)
  kept_after front [] valid so_far sound = subst holds (sym (append-nil front)) so_far
  kept_after front (entry ∷ later) valid so_far sound =
      let both = follows (may_follow meaning front entry) (damage_after meaning (front ++ entry ∷ []) later) (length front + 1) sound in
      let still : is_valid meaning (front ++ entry ∷ []) ≡ true = rw (is_valid-append meaning front entry, valid) both.0 in
      subst holds (append_assoc front (entry ∷ []) later) (kept_after (front ++ entry ∷ []) later still (kept front entry valid so_far both.0) both.1)

  -- a property that holds for the empty history, and that each entry that may follow preserves,
  -- holds for each valid history
  pub holds_of_each_valid : holds [] → (history : History) → is_valid meaning history ≡ true → holds history
  holds_of_each_valid at_first history valid = kept_after [] history refl at_first (none (damage meaning history) valid)

-- an entry that may follow has the next number
pub next_number : (meaning : Meaning) (history : History) (entry : Entry) → may_follow meaning history entry ≡ true → entry.seq ≡ length history + 1
next_number meaning history entry may =
    let numbered : Bool = is_keepable entry && entry.seq == length history + 1 in
    let ordered = and_parts (numbered && keeps_order history entry.moment) (is_acceptable meaning history entry.act) may in
    let first = and_parts numbered (keeps_order history entry.moment) ordered.0 in
    eqb-true _ _ (and_parts (is_keepable entry) (entry.seq == length history + 1) first.0).1

abbrev numbered_after : History → History → Type 0
numbered_after front later = (place : Place) (entry : Entry) → slice_get later place ≡ Some entry → entry.seq ≡ length front + place + 1

some_is : (x y : Entry) → Some x ≡ Some y → x ≡ y
some_is x y e = cc

numbers : (meaning : Meaning) (front later : History) → damage_after meaning front later ≡ None → numbered_after front later
numbers meaning front [] sound place entry e = absurd cc
numbers meaning front (first ∷ later) sound zero entry e =
    let both = follows (may_follow meaning front first) (damage_after meaning (front ++ first ∷ []) later) (length front + 1) sound in
    let number : first.seq ≡ length front + 1 = next_number meaning front first both.0 in
    let same : first.seq ≡ entry.seq = ap (λ (x : Entry). x.seq) (some_is first entry e) in
    omega arith
numbers meaning front (first ∷ later) sound (suc place) entry e =
    let both = follows (may_follow meaning front first) (damage_after meaning (front ++ first ∷ []) later) (length front + 1) sound in
    let number = numbers meaning (front ++ first ∷ []) later both.1 place entry e in
    omega (arith, length-append front (first ∷ []))

-- in a valid history the entry at an index has the index plus 1 as its number
pub entry_has_its_number : (meaning : Meaning) (history : History) → is_valid meaning history ≡ true → (place : Place) (entry : Entry) → slice_get history place ≡ Some entry → entry.seq ≡ place + 1
entry_has_its_number meaning history valid place entry e =
    let number = numbers meaning [] history (none (damage meaning history) valid) place entry e in
    omega arith

-- the entries before one in a valid history stay the same when entries are added
pub before-append : (meaning : Meaning) (history : History) (entry : Entry) → StandsIn meaning history entry → (later : History) → before_entry entry (history ++ later) ≡ before_entry entry history
before-append meaning history entry s later =
    let number : entry.seq ≡ s.place + 1 = entry_has_its_number meaning history s.valid s.place entry s.stands in
    let within : s.place < length history = slice_get_within history s.place entry s.stands in
    take-append-le (entry.seq - 1) history later (omega arith)

pub entries_before : (meaning : Meaning) (history : History) (entry : Entry) → may_follow meaning history entry ≡ true → (later : History) → before_entry entry (history ++ entry ∷ later) ≡ history
entries_before meaning history entry may later =
    let number : entry.seq ≡ length history + 1 = next_number meaning history entry may in
    let place : entry.seq - 1 ≡ length history = omega arith in
    ap (λ (n : ℕ). take n (history ++ entry ∷ later)) place ∙ take_at history (entry ∷ later) (length history) refl
