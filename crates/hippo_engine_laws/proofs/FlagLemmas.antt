-- The flags of a range of a valid history, whatever follows it; the flag of an entry in any longer
-- history.
use Rattle.std.proofs.Common.{◌≡◌, ◌∙◌, sym, ap, refl, arith, ℕ, zero, suc, ◌+◌, ◌-◌, ◌≤◌, true, [], ◌∷◌, ◌++◌, length, take, drop, Option, None, Some, length-drop, append-nil}
use Rattle.std.specs.Prelude.{filter_map, option_and_then, slice_get, option_to_list}
use Rattle.std.specs.List.{cons_option}
use Rattle.std.proofs.lemmas.List.{take-append-le, drop-append-le}
use Rattle.std.proofs.Math.Seq.{take-append_seam, drop-append_seam}
use Rattle.hippo_model.specs.declared.audit.Audit.{Audit}
use Rattle.hippo_model.specs.declared.entry.Entry.{Entry}
use Rattle.hippo_model.specs.Terms.{History, Meaning}
use Rattle.hippo_model.specs.Histories.{before_entry}
use Rattle.hippo_model.specs.Validity.{is_valid}
use Rattle.hippo_model.specs.Audits.{shared_tuple, shared_in, flag_by, flag_of, flags_between}
use Rattle.hippo_model_laws.proofs.ValidFronts.{before-append}
use Rattle.hippo_audit_job.proofs.StretchLemmas.{first_there}

module _ (meaning : Meaning) (audit : Audit) (start later : History) (valid : is_valid meaning start ≡ true) where
  entry_lasts : (place : ℕ) (entry : Entry) → slice_get start place ≡ Some entry → flag_of meaning (start ++ later) audit entry ≡ flag_of meaning start audit entry
  entry_lasts place entry stands =
      ap (λ (h : History). option_and_then (flag_by entry entry.act) (shared_in meaning h audit entry.moment entry.act))
      (before-append meaning start entry (record { valid = valid; place = place; stands = stands }) later)

  entries_last : (place : ℕ) (rest : History) (number : ℕ) → drop place start ≡ rest → filter_map (flag_of meaning (start ++ later) audit) (take number rest) ≡ filter_map (flag_of meaning start audit) (take number rest)
  entries_last place rest zero is = refl
  entries_last place [] (suc number) is = refl
  entries_last place (entry ∷ rest) (suc number) is =
      let first = first_there place start entry rest is in
      λ i. cons_option (entry_lasts place entry first.0 i) (entries_last (suc place) rest number first.1 i)

  stretch : (above upto : ℕ) → above ≤ upto → upto ≤ length start → take (upto - above) (drop above (start ++ later)) ≡ take (upto - above) (drop above start)
  stretch above upto low high =
      let inside : above ≤ length start = omega (arith, low, high) in
      let enough : upto - above ≤ length (drop above start) = rw (length-drop above start) (omega (arith, low, high)) in
      ap (take (upto - above)) (drop-append-le above start later inside) ∙ take-append-le (upto - above) (drop above start) later enough

  -- the flags of a range of a valid history stay the same, whatever follows it
  pub stretch_lasts : (above upto : ℕ) → above ≤ upto → upto ≤ length start → flags_between meaning (start ++ later) audit above upto ≡ flags_between meaning start audit above upto
  stretch_lasts above upto low high =
      ap (filter_map (flag_of meaning (start ++ later) audit)) (stretch above upto low high)
      ∙ entries_last above (drop above start) (upto - above) refl

-- the entries before an entry that is appended to some entries are those
pub before_next : (history later : History) (entry : Entry) → entry.seq ≡ length history + 1 → before_entry entry (history ++ later) ≡ history
before_next history later entry number =
    let before : entry.seq - 1 ≡ length history = omega (arith, number) in
    ap (λ (n : ℕ). take n (history ++ later)) before ∙ take-append_seam history later

-- what an audit shares with an entry is the same in any longer history
pub shared_there : (meaning : Meaning) (history later : History) (audit : Audit) (entry : Entry) → entry.seq ≡ length history + 1 → shared_tuple meaning (history ++ later) audit entry ≡ shared_tuple meaning history audit entry
shared_there meaning history later audit entry number =
    let all : before_entry entry history ≡ history = sym (ap (before_entry entry) (append-nil history)) ∙ before_next history [] entry number in
    ap (λ (h : History). shared_in meaning h audit entry.moment entry.act) (before_next history later entry number ∙ sym all)

one_option : {A : Type 0} (found : Option A) → cons_option found [] ≡ option_to_list found
one_option None = refl
one_option (Some one) = refl

-- if an entry follows some entries in a history, the flags at its number are its own flag
pub flags_there : (meaning : Meaning) (history later : History) (audit : Audit) (entry : Entry) → entry.seq ≡ length history + 1
    → flags_between meaning (history ++ entry ∷ later) audit (entry.seq - 1) entry.seq
    ≡ option_to_list (flag_of meaning (history ++ entry ∷ later) audit entry)
flags_there meaning history later audit entry number =
    let whole : History = history ++ entry ∷ later in
    let before : entry.seq - 1 ≡ length history = omega (arith, number) in
    let one : entry.seq - length history ≡ 1 = omega (arith, number) in
    let entries : take (entry.seq - (entry.seq - 1)) (drop (entry.seq - 1) whole) ≡ entry ∷ [] =
    ap (λ (n : ℕ). take (entry.seq - n) (drop n whole)) before
    ∙ ap (take (entry.seq - length history)) (drop-append_seam history (entry ∷ later))
    ∙ ap (λ (n : ℕ). take n (entry ∷ later)) one in
    ap (filter_map (flag_of meaning whole audit)) entries ∙ one_option (flag_of meaning whole audit entry)
