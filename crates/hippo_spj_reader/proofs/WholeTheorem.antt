-- A reader of all its tokens gives the only reading that the grammar has for them.
use Rattle.std.proofs.Common.{◌≡◌, List, [], ◌∷◌, Option, Some, Result, Ok, Err, refl, sym, ◌∙◌, ap}
use Rattle.std.specs.Result.{IfOk, IfErr}
use Rattle.std.proofs.lemmas.Option.{none-some, same_Some}
use Rattle.hippo_lexer.specs.declared.kinds.TokenKind.{TokenKind}
use Rattle.hippo_lexer.specs.declared.faults.SyntaxFault.{SyntaxFault}
use Rattle.hippo_lexer.specs.declared.faults.SyntaxFault.TheVariants as fault
use Rattle.hippo_spj_reader.specs.Promises.{Gives, part_at_end, whole_of, IsFaultOnlyWhere, ReadsAll}
use Rattle.hippo_spj_reader.proofs.FrontTheorem.{found_then}

module _ {X : Type 0} (leading_part : List TokenKind → Option (X × List TokenKind)) (IsPart : List TokenKind → X → List TokenKind → Type 0) (tokens : List TokenKind)
    (found : (x : X) (rest : List TokenKind) → leading_part tokens ≡ Some (x, rest) → IsPart tokens x rest)
    (complete : (x : X) → IsPart tokens x [] → leading_part tokens ≡ Some (x, [])) where
  ended_found : (x : X) (one : X × List TokenKind) → part_at_end one ≡ Some x → one ≡ (x, [])
  ended_found x (y, []) e = ap (λ (z : X). (z, [])) (same_Some y x e)
  ended_found x (y, first ∷ rest) e = absurd (none-some x e)

  whole_complete : (x : X) → IsPart tokens x [] → (whole_of (leading_part tokens)) ≡ Some x
  whole_complete x is_part = rw (complete x is_part) refl

  whole_found : (result : Result X SyntaxFault) → Gives (λ x. x) result (whole_of (leading_part tokens)) → IfOk result (λ x. IsPart tokens x [])
  whole_found (Ok x) gives = found_then (leading_part tokens) part_at_end x gives (λ one is e. found x [] (is ∙ ap Some (ended_found x one e)))
  whole_found (Err e) gives = tt

  whole_only : (result : Result X SyntaxFault) → Gives (λ x. x) result (whole_of (leading_part tokens)) → IfOk result (λ x. (other : X) → IsPart tokens other [] → other ≡ x)
  whole_only (Ok x) gives = λ other is_part. same_Some other x (sym (whole_complete other is_part) ∙ gives)
  whole_only (Err e) gives = tt

  whole_errors : (result : Result X SyntaxFault) → Gives (λ x. x) result (whole_of (leading_part tokens)) → IfErr result (IsFaultOnlyWhere ((x : X) → ¬ IsPart tokens x []))
  whole_errors (Ok x) gives = tt
  whole_errors (Err fault.TooDeep) gives = gives
  whole_errors (Err (fault.Unsupported place)) gives = gives
  whole_errors (Err fault.BadSyntax) gives = λ x is_part. none-some x (sym gives ∙ whole_complete x is_part)
  whole_errors (Err fault.Memory) gives = tt

  pub reads_all : (result : Result X SyntaxFault) → Gives (λ x. x) result (whole_of (leading_part tokens)) → ReadsAll IsPart tokens result
  reads_all result gives = record {
    found = whole_found result gives;
    only = whole_only result gives;
    errors = whole_errors result gives;
  }
