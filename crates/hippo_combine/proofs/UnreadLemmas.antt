-- The versions that were taken and those that are not read yet are all versions of a history.
use Rattle.std.proofs.Common.{◌≡◌, ◌∙◌, sym, ap, refl, arith, ℕ, zero, suc, ◌+◌, ◌≤◌, Bool, true, false, cond, not, ◌&&◌, ◌||◌, List, [], ◌∷◌, map, filter, length, take, zero-add}
use Rattle.std.specs.Prelude.{count_by, nat_le, bytes_eq}
use Rattle.std.specs.List.{AllByRecursion, IsDistinct}
use Rattle.std.proofs.lemmas.Bool.{and_parts, false≢true}
use Rattle.std.proofs.lemmas.List.Sums.{sum_by-cons}
use Rattle.std.proofs.lemmas.Slice.Eq.{bytes_eq-Decides}
use Rattle.std.proofs.Math.Bool.{and-true, and-false}
use Rattle.hippo_values.specs.declared.names.Name.{Name}
use Rattle.hippo_model.specs.declared.entry.Entry.{Entry}
use Rattle.hippo_model.specs.Terms.{History, Meaning}
use Rattle.hippo_model.specs.StoredForms.{table_changed}
use Rattle.hippo_model.specs.Validity.{is_valid}
use Rattle.hippo_model.specs.Versions.{is_version, versions}
use Rattle.hippo_backlog.specs.Backlogs.{is_version_of}
use Rattle.hippo_backlog.proofs.NumberLemmas.{IsNumbered, valid-IsNumbered}
use Rattle.hippo_intervals.specs.Living.{HeldLives, taken_by, LivesFit}
use Rattle.hippo_intervals.proofs.LivesLemmas.{LivesAreThoseOf-fits}
use Rattle.hippo_combine.specs.Held.{all_taken, is_reached, unread_count, TablesFit}
use Rattle.hippo_combine.proofs.HeldLemmas.{name_of}

-- ---- counting
abbrev one_if : Bool → ℕ
one_if test = cond test 1 0

counts : (test : Entry → Bool) (entry : Entry) (history : History) → count_by test (entry ∷ history) ≡ one_if (test entry) + count_by test history
counts test entry history = sum_by-cons (λ e. one_if (test e)) entry history

count_same : (one other : Entry → Bool) → ((entry : Entry) → one entry ≡ other entry) → (history : History) → count_by one history ≡ count_by other history
count_same one other same history = ap (λ (test : Entry → Bool). count_by test history) (λ i entry. same entry i)

-- if each entry passes at most one of two tests, and passes a third exactly when it passes one of
-- them
count_both : (one other either : Entry → Bool) → ((entry : Entry) → one_if (one entry) + one_if (other entry) ≡ one_if (either entry)) → (history : History) → count_by one history + count_by other history ≡ count_by either history
count_both one other either split [] = refl
count_both one other either split (entry ∷ later) =
    let rest = count_both one other either split later in
    let here = split entry in
    let first = counts one entry later in
    let second = counts other entry later in
    let third = counts either entry later in
    omega (arith, rest, here, first, second, third)

-- ---- the versions of a table that were reached
module _ (test : Entry → Bool) where
  abbrev up_to : ℕ → Entry → Bool
  up_to limit entry = test entry && nat_le entry.seq limit

  above_is : (limit seq : ℕ) → limit + 1 ≤ seq → nat_le seq limit ≡ false
  above_is limit seq above = grind (arith, above)

  within_is : (limit seq : ℕ) → seq ≤ limit → nat_le seq limit ≡ true
  within_is limit seq within = grind (arith, within)

  none_above : (limit number : ℕ) (history : History) → limit ≤ number → IsNumbered number history → count_by (up_to limit) history ≡ 0
  none_above limit number [] above numbered = refl
  none_above limit number (entry ∷ later) above numbered =
      let seq : entry.seq ≡ number + 1 = numbered.0 in
      let beyond : nat_le entry.seq limit ≡ false = above_is limit entry.seq (omega (arith, seq, above)) in
      let fails : up_to limit entry ≡ false = ap (λ b. test entry && b) beyond ∙ and-false (test entry) in
      let rest = none_above limit (number + 1) later (omega (arith, above)) numbered.1 in
      counts (up_to limit) entry later ∙ (λ i. one_if (fails i) + rest i)

  filtered : (passes : Bool) (entry : Entry) (later : History) → one_if passes + length later ≡ length (cond passes (entry ∷ later) later)
  filtered true entry later = omega arith
  filtered false entry later = omega arith

  reached_are : (place number : ℕ) (history : History) → IsNumbered number history → count_by (up_to (number + place)) history ≡ length (filter test (take place history))
  reached_are zero number history numbered = ap (λ n. count_by (up_to n) history) (the_sum number) ∙ none_above number number history (omega arith) numbered
    where
      the_sum : (n : ℕ) → n + 0 ≡ n
      the_sum n = omega arith
  reached_are (suc place) number [] numbered = refl
  reached_are (suc place) number (entry ∷ later) numbered =
      let seq : entry.seq ≡ number + 1 = numbered.0 in
      let within : nat_le entry.seq (number + suc place) ≡ true = within_is (number + suc place) entry.seq (omega (arith, seq)) in
      let passes : up_to (number + suc place) entry ≡ test entry = ap (λ b. test entry && b) within ∙ and-true (test entry) in
      let moved : number + suc place ≡ number + 1 + place = omega arith in
      let rest : count_by (up_to (number + suc place)) later ≡ length (filter test (take place later)) = ap (λ n. count_by (up_to n) later) moved ∙ reached_are place (number + 1) later numbered.1 in
      counts (up_to (number + suc place)) entry later ∙ (λ i. one_if (passes i) + rest i) ∙ filtered (test entry) entry (filter test (take place later))

-- ---- one table after another
abbrev is_reached_by : HeldLives → Entry → Bool
is_reached_by lives entry = is_version_of lives.schema.name entry && nat_le entry.seq lives.versions.ahead.reached

reached_by : (meaning : Meaning) (history : History) (lives : HeldLives) → is_valid meaning history ≡ true → LivesFit lives history → count_by (is_reached_by lives) history ≡ taken_by lives
reached_by meaning history lives valid fits =
    ap (λ limit. count_by (up_to (is_version_of lives.schema.name) limit) history) (sym (zero-add lives.versions.ahead.reached))
    ∙ reached_are (is_version_of lives.schema.name) lives.versions.ahead.reached 0 history (valid-IsNumbered meaning history valid)
    ∙ sym (LivesAreThoseOf-fits meaning lives history valid fits).taken_is

-- a version of a table is not one of tables with other names
not_theirs : (table : Name) (entry : Entry) (tables : List HeldLives) → AllByRecursion (λ (name : Name). bytes_eq table name ≡ false) (map name_of tables) → is_version_of table entry ≡ true → is_reached tables entry ≡ false
not_theirs table entry [] apart is = refl
not_theirs table entry (first ∷ rest) apart is =
    let its : table_changed entry.act ≡ table = (bytes_eq-Decides (table_changed entry.act) table).0 (and_parts (is_version entry.act) (bytes_eq (table_changed entry.act) table) is).1 in
    let another : bytes_eq (table_changed entry.act) first.schema.name ≡ false = ap (λ (name : Name). bytes_eq name first.schema.name) its ∙ apart.0 in
    let no_version : is_version_of first.schema.name entry ≡ false = ap (λ b. is_version entry.act && b) another ∙ and-false (is_version entry.act) in
    let later = not_theirs table entry rest apart.1 is in
    λ i. (no_version i && nat_le entry.seq first.versions.ahead.reached) || later i

-- an entry that is unread without the first table is unread with it, or that table has reached it
split : (version mine others : Bool) → (mine ≡ true → version ≡ true) → (mine ≡ true → others ≡ false) → one_if (version && not (mine || others)) + one_if mine ≡ one_if (version && not others)
split true true true is apart = absurd (false≢true (sym (apart refl)))
split true true false is apart = refl
split true false others is apart = ap (λ n. n) (plus_none (one_if (true && not others)))
  where
    plus_none : (n : ℕ) → n + 0 ≡ n
    plus_none n = omega arith
split false true others is apart = absurd (false≢true (is refl))
split false false others is apart = refl

module _ (meaning : Meaning) (history : History) (valid : is_valid meaning history ≡ true) where
  by_tables : (tables : List HeldLives) → IsDistinct bytes_eq (map name_of tables) → AllByRecursion (λ (lives : HeldLives). LivesFit lives history) tables → all_taken tables + unread_count tables history ≡ versions history
  unfolding IsDistinct
  by_tables [] apart fits = zero-add (unread_count [] history) ∙ count_same (λ entry. is_version entry.act && true) (λ entry. is_version entry.act) (λ entry. and-true (is_version entry.act)) history
  by_tables (lives ∷ rest) apart fits =
      let mine : Entry → Bool = is_reached_by lives in
      let each : (entry : Entry) → one_if (is_version entry.act && not (mine entry || is_reached rest entry)) + one_if (mine entry) ≡ one_if (is_version entry.act && not (is_reached rest entry)) = λ entry.
      split (is_version entry.act) (mine entry) (is_reached rest entry)
      (λ is. (and_parts (is_version entry.act) (bytes_eq (table_changed entry.act) lives.schema.name) (and_parts (is_version_of lives.schema.name entry) (nat_le entry.seq lives.versions.ahead.reached) is).0).0)
      (λ is. not_theirs lives.schema.name entry rest apart.0 (and_parts (is_version_of lives.schema.name entry) (nat_le entry.seq lives.versions.ahead.reached) is).0) in
      let both = count_both (λ entry. is_version entry.act && not (mine entry || is_reached rest entry)) mine (λ entry. is_version entry.act && not (is_reached rest entry)) each history in
      let own = reached_by meaning history lives valid fits.0 in
      let others = by_tables rest apart.1 fits.1 in
      let sum = sum_by-cons taken_by lives rest in
      omega (arith, both, own, others, sum)

  -- the versions that were taken and those that are not read yet are all versions
  pub taken_and_unread : (tables : List HeldLives) → TablesFit tables history → all_taken tables + unread_count tables history ≡ versions history
  taken_and_unread tables fit = by_tables tables fit.apart fit.each
