-- Reading parts one after the other, as a loop does.
use Rattle.std.proofs.Common.{◌≡◌, ℕ, suc, ◌-◌, ◌+◌, ◌≤◌, ◌<◌, List, [], ◌∷◌, ◌++◌, Option, Some, None, refl, sym, ap}
use Rattle.std.proofs.Common.{◌∙◌, append_assoc, arith}
use Rattle.std.proofs.lemmas.List.{append-nil}
use Rattle.hippo_values.specs.Options.{◌>>=◌}
use Rattle.hippo_entry_codec.specs.declared.fault.Fault.{Fault}
use Rattle.hippo_entry_codec.specs.declared.fault.Fault.TheVariants as fault
use Rattle.hippo_entry_codec.specs.Readings.{FailsReading, leading_parts}

module _ {A : Type 0} (reading : List ℕ → Option (A × List ℕ)) where
  -- what was read before, and what is read next
  abbrev pub with_front : List A → Option (List A × List ℕ) → Option (List A × List ℕ)
  with_front front found = found >>= λ x. Some (front ++ x.0, x.1)

  regroup : (front : List A) (n : A) (found : Option (List A × List ℕ))
      → with_front front (found >>= λ x. Some (n ∷ x.0, x.1)) ≡ with_front (front ++ n ∷ []) found
  regroup front n (Some x) = ap (λ (ns : List A). Some (ns, x.1)) (sym (append_assoc front (n ∷ []) x.0))
  regroup front n None = refl

  pub goes_on : (front longer : List A) (count i : ℕ) (bytes : List ℕ) (n : A) (after : List ℕ)
      (total : Option (List A × List ℕ)) → i < count → reading bytes ≡ Some (n, after)
      → longer ≡ front ++ n ∷ [] → with_front front (leading_parts reading (count - i) bytes) ≡ total
      → with_front longer (leading_parts reading (count - (i + 1)) after) ≡ total
  goes_on front longer count i bytes n after total lt h pushed so_far =
      let k : count - i ≡ suc (count - (i + 1)) = omega arith in
      let one : with_front front (leading_parts reading (count - i) bytes)
      ≡ with_front (front ++ n ∷ []) (leading_parts reading (count - (i + 1)) after) =
      rw (k, h) (regroup front n (leading_parts reading (count - (i + 1)) after)) in
      rw pushed (sym one ∙ so_far)

  pub ends : (e : Fault) (front : List A) (count i : ℕ) (bytes : List ℕ) (total : Option (List A × List ℕ)) → i < count
      → FailsReading e (reading bytes)
      → with_front front (leading_parts reading (count - i) bytes) ≡ total → FailsReading e total
  ends fault.Memory front count i bytes total lt h so_far = tt
  ends fault.NoPart front count i bytes total lt h so_far =
      let k : count - i ≡ suc (count - (i + 1)) = omega arith in
      let one : with_front front (leading_parts reading (count - i) bytes) ≡ None = rw (k, h) refl in
      sym so_far ∙ one

  pub is_done : (front : List A) (count i : ℕ) (bytes : List ℕ) (total : Option (List A × List ℕ)) → count ≤ i
      → with_front front (leading_parts reading (count - i) bytes) ≡ total → total ≡ Some (front, bytes)
  is_done front count i bytes total le so_far =
      let k : count - i ≡ 0 = omega arith in
      let one : with_front front (leading_parts reading (count - i) bytes) ≡ Some (front, bytes) =
      rw k (ap (λ (ns : List A). Some (ns, bytes)) (append-nil front)) in
      sym so_far ∙ one
