-- Optional parts that are found or not, and what follows them.
use Rattle.std.proofs.Common.{◌≡◌, List, true, false, Option, Some, None, refl, ◌∙◌, ◌-◌, length, take, drop, ap, sym}
use Rattle.std.proofs.Math.Seq.{take-length}
use Rattle.std.proofs.lemmas.List.{length-drop}
use Rattle.std.specs.Prelude.{is_some}
use Rattle.hippo_values.specs.Options.{◌>>=◌}
use Rattle.hippo_lexer.specs.declared.faults.SyntaxFault.{SyntaxFault}
use Rattle.hippo_lexer.specs.declared.faults.SyntaxFault.TheVariants as fault
use Rattle.hippo_spj_reader.specs.Promises.{Fails}

-- a part that a test says is absent was not found
pub absent : {A : Type 0} (found : Option A) → false ≡ is_some found → found ≡ None
absent None e = refl
absent (Some x) e = absurd cc

pub present : {A P : Type 0} (found : Option A) → true ≡ is_some found → ((x : A) → found ≡ Some x → P) → P
present None e then = absurd cc
present (Some x) e then = then x refl

-- everything after the first member
pub all_after : {A : Type 0} (l : List A) → take (length l - 1) (drop 1 l) ≡ drop 1 l
all_after l = ap (λ n. take n (drop 1 l)) (sym (length-drop 1 l)) ∙ take-length (drop 1 l)

-- if the first part is not found, the whole is not found
pub fails_first : {A B : Type 0} (e : SyntaxFault) (found : Option A) (next : A → Option B) → Fails e found → Fails e (found >>= next)
fails_first fault.TooDeep found next fails = fails
fails_first (fault.Unsupported place) found next fails = fails
fails_first fault.BadSyntax found next fails = rw fails refl
fails_first fault.Memory found next fails = tt
