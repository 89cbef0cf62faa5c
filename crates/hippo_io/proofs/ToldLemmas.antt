-- The combined effect of calls in a row.
use Rattle.std.proofs.Common.{ℕ, ◌+◌, ◌-◌, List, Some, ◌++◌, length, take, drop, append_assoc, ap, ◌∙◌, sym}
use Rattle.std.proofs.Math.Seq.{take-add}
use Rattle.std.proofs.lemmas.List.{take_rest}
use Rattle.std.specs.Prelude.{Option}
use Rattle.hippo_io.specs.Told.{Appends}

-- the first bytes of a piece, and then the first of the rest
pub Appends-more : (old mid new : Option (List ℕ)) (bytes : List ℕ) (done n : ℕ)
    → Appends old mid (take done bytes) → Appends mid new (take n (take (length bytes - done) (drop done bytes))) → Appends old new (take (done + n) bytes)
Appends-more old mid new bytes done n first second told is =
    second (told ++ take done bytes) (first told is)
    ∙ ap Some (append_assoc told _ _ ∙ ap (λ l. told ++ l) (ap (λ l. take done bytes ++ take n l) (take_rest bytes done) ∙ sym (take-add done n bytes)))
