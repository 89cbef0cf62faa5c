-- The first members of a list that pass a test, and what is added to a list up to a limit.
use Rattle.std.proofs.Common.{◌≡◌, ℕ, suc, ◌+◌, ◌-◌, ◌<◌, Bool, true, cond, List, [], ◌∷◌, ◌++◌, filter, take, length, sym, ap, ◌∙◌, append_assoc, length-append, add-one, drop, arith}
use Rattle.std.specs.Prelude.{slice_get, Some}
use Rattle.std.proofs.Math.Seq.{drop-cons}
use Rattle.std.proofs.lemmas.Option.{slice_get_within, get_or_from_slice_get}

-- the member at a place, then those after it
pub member-then : {A : Type 0} (members : List A) (place : ℕ) (member : A) → slice_get members place ≡ Some member → drop place members ≡ member ∷ drop (place + 1) members
member-then members place member e =
    rw (add-one) (drop-cons members place member (slice_get_within members place member e) ∙ ap (λ first. first ∷ drop (suc place) members) (get_or_from_slice_get members place member member e))

-- one more member passes
pub take-more : {A : Type 0} (limit : ℕ) (test : A → Bool) (found rest : List A) (member : A) → length found < limit → test member ≡ true
    → (found ++ member ∷ []) ++ take (limit - length (found ++ member ∷ [])) (filter test rest) ≡ found ++ take (limit - length found) (filter test (member ∷ rest))
take-more limit test found rest member below passes =
    let fewer : ℕ = limit - length (found ++ member ∷ []) in
    let one_more : length (found ++ member ∷ []) ≡ length found + 1 = length-append found (member ∷ []) in
    let count : limit - length found ≡ suc fewer = omega (arith, one_more, below) in
    append_assoc found (member ∷ []) (take fewer (filter test rest))
    ∙ sym (λ i. found ++ take (count i) (cond (passes i) (member ∷ filter test rest) (filter test rest)))
