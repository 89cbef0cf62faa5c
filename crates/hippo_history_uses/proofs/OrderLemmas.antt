-- Accesses are in the order of entries.
use Rattle.std.proofs.Common.{◌≡◌, refl, subst, ℕ, ◌+◌, ◌≤◌, ℤ, suc, Bool, true, false, cond, List, [], ◌∷◌, ◌++◌, filter, Some, arith}
use Rattle.std.specs.Prelude.{slice_get, flat_map}
use Rattle.std.specs.List.{AllByRecursion, AllPairs}
use Rattle.std.proofs.lemmas.List.Kept.{AllPairs-cons}
use Rattle.std.proofs.lemmas.List.Elements.{All-from_recursion}
use Rattle.hippo_model.specs.declared.entry.Entry.{Entry}
use Rattle.hippo_model.specs.Histories.{before_entry}
use Rattle.hippo_model.specs.Terms.{History, Place}
use Rattle.hippo_model_laws.proofs.ValidFronts.{entry_has_its_number}
use Rattle.hippo_typing.specs.Meanings.{meaning}
use Rattle.hippo_history_formats.specs.declared.access.Access.{Access}
use Rattle.hippo_history_uses.specs.Accesses.{entry_accesses, accesses_in}
use Rattle.hippo_history_uses.specs.UseLaws.{AccessesAreInEntryOrder}
use Rattle.hippo_history_uses.proofs.AuditLemmas.{HasNumber, number_act}
use Rattle.hippo_history_uses.proofs.QuestionLemmas.{all_append}

abbrev NotBefore : ℕ → Access → Type 0
NotBefore number access = number ≤ access.entry

abbrev InOrder : List Access → Type 0
InOrder accesses = AllPairs (λ first later. first.entry ≤ later.entry) accesses

more : (from to : ℕ) → from ≤ to → (accesses : List Access) → AllByRecursion (NotBefore to) accesses → AllByRecursion (NotBefore from) accesses
more from to less [] all = tt
more from to less (access ∷ accesses) all =
    let first : to ≤ access.entry = all.0 in
    let here : from ≤ access.entry = omega (arith, less, first) in
    (here, more from to less accesses all.1)

equal_all : (number : ℕ) (accesses : List Access) → AllByRecursion (HasNumber number) accesses → AllByRecursion (NotBefore number) accesses
equal_all number [] all = tt
equal_all number (access ∷ accesses) all =
    let is : access.entry ≡ number = all.0 in
    let here : number ≤ access.entry = omega (arith, is) in
    (here, equal_all number accesses all.1)

joined : (number : ℕ) (first later : List Access) → AllByRecursion (HasNumber number) first → AllByRecursion (NotBefore number) later → InOrder later → InOrder (first ++ later)
joined number [] later same all ordered = ordered
joined number (access ∷ first) later same all ordered =
    let is : access.entry ≡ number = same.0 in
    let less : access.entry ≤ number = omega (arith, is) in
    let after : AllByRecursion (NotBefore number) (first ++ later) = all_append (NotBefore number) first later (equal_all number first same.1) all in
    AllPairs-cons (λ one other. one.entry ≤ other.entry) access (first ++ later)
    (All-from_recursion (λ other. access.entry ≤ other.entry) (first ++ later) (more access.entry number less (first ++ later) after))
    (joined number first later same.1 all ordered)

module _ (patient : ℤ) (test : Entry → Bool) (history : History) where
  record Ordered (from : ℕ) (accesses : List Access) : Type 0 where
    after : AllByRecursion (NotBefore from) accesses
    ordered : InOrder accesses

  ordered_in : (count : ℕ) (part : History) → ((place : Place) (entry : Entry) → slice_get part place ≡ Some entry → entry.seq ≡ count + place + 1) → Ordered (count + 1) (accesses_in patient test history part)
  ordered_in count [] numbered = record { after = tt; ordered = λ i j d before within. absurd (omega arith) }
  ordered_in count (entry ∷ part) numbered =
      let number : entry.seq ≡ count + 0 + 1 = numbered 0 entry refl in
      let next : (place : Place) (other : Entry) → slice_get part place ≡ Some other → other.seq ≡ count + 1 + place + 1 =
      λ place other there. let is : other.seq ≡ count + suc place + 1 = numbered (suc place) other there in omega (arith, is) in
      let rest = ordered_in (count + 1) part next in
      let less : count + 1 ≤ count + 1 + 1 = omega arith in
      let same : entry.seq ≡ count + 1 = omega (arith, number) in
      let own : AllByRecursion (HasNumber (count + 1)) (entry_accesses history patient entry) =
      subst (λ (n : ℕ). AllByRecursion (HasNumber n) (entry_accesses history patient entry)) same (number_act (before_entry entry history) entry.seq entry.moment patient entry.act) in
      let later : AllByRecursion (NotBefore (count + 1)) (accesses_in patient test history part) = more (count + 1) (count + 1 + 1) less (accesses_in patient test history part) rest.after in
      elim (test entry) as (λ b. Ordered (count + 1) (flat_map (entry_accesses history patient) (cond b (entry ∷ filter test part) (filter test part)))) [
        | true ↦ record {
          after = all_append (NotBefore (count + 1)) (entry_accesses history patient entry) (accesses_in patient test history part) (equal_all (count + 1) (entry_accesses history patient entry) own) later;
          ordered = joined (count + 1) (entry_accesses history patient entry) (accesses_in patient test history part) own later rest.ordered;
        }
        | false ↦ record { after = later; ordered = rest.ordered }
      ]

pub in_entry_order : AccessesAreInEntryOrder
in_entry_order patient test history valid =
    let numbered : (place : Place) (entry : Entry) → slice_get history place ≡ Some entry → entry.seq ≡ 0 + place + 1 =
    λ place entry there. let is : entry.seq ≡ place + 1 = entry_has_its_number meaning history valid place entry there in omega (arith, is) in
    (ordered_in patient test history 0 history numbered).ordered
