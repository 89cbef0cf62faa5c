-- The list that is found is the relation's.
use Rattle.std.proofs.Common.{◌≡◌, ℕ, zero, suc, ◌<◌, List, [], ◌∷◌, length, Option, Some, None, refl, arith}
use Rattle.std.proofs.lemmas.Option.{none-some, some_pair_parts}
use Rattle.hippo_lexer.specs.declared.kinds.TokenKind.{TokenKind}
use Rattle.hippo_spj_reader.specs.Promises.{either}
use Rattle.hippo_spj_reader.specs.ListGrammar.{IsListOf, last_part, more_parts}
use Rattle.hippo_spj_reader.specs.ListFinder.{leading_parts, leading_list}
use Rattle.hippo_spj_reader.proofs.FrontTheorem.{found_then, choice, read_as}

module _ {X : Type 0} (leading_part : List TokenKind → Option (X × List TokenKind)) (after_part : List TokenKind → Option (List TokenKind))
    (IsPart : List TokenKind → X → List TokenKind → Type 0) (separator : TokenKind) where
  -- what is found is a list, for any relation that has the two rules
  module _ (AreParts : List TokenKind → List X → List TokenKind → Type 0)
      (part_found : (tokens : List TokenKind) (part : X) (rest : List TokenKind) → leading_part tokens ≡ Some (part, rest) → IsPart tokens part rest)
      (next_found : (tokens remaining : List TokenKind) → after_part tokens ≡ Some remaining → tokens ≡ separator ∷ remaining)
      (last : (tokens : List TokenKind) (part : X) (rest : List TokenKind) → IsPart tokens part rest → AreParts tokens (part ∷ []) rest)
      (more : (tokens others : List TokenKind) (part : X) (parts : List X) (rest : List TokenKind) → IsPart tokens part (separator ∷ others) → AreParts others parts rest → AreParts tokens (part ∷ parts) rest) where
    pub parts_found : (n : ℕ) (tokens : List TokenKind) (parts : List X) (rest : List TokenKind) → leading_parts leading_part after_part n tokens ≡ Some (parts, rest) → AreParts tokens parts rest
    parts_found zero tokens parts rest e = absurd (none-some _ e)
    parts_found (suc n) tokens parts rest e =
        found_then (leading_part tokens) _ _ e (λ first found e'.
        found_then (either (after_part first.1) (λ remaining. leading_parts leading_part after_part n remaining) (Some ([], first.1))) _ _ e' (λ others rest_found e''.
        read_as AreParts tokens others.1 rest (first.0 ∷ others.0) parts e''
        (let is_part : IsPart tokens first.0 first.1 = part_found tokens first.0 first.1 found in
        choice (after_part first.1) (λ remaining. leading_parts leading_part after_part n remaining) (Some ([], first.1)) _ rest_found
        (λ remaining next others_found.
        let at_separator : IsPart tokens first.0 (separator ∷ remaining) = rw (next_found first.1 remaining next) at is_part in
        more tokens remaining first.0 others.0 others.1 at_separator (parts_found n remaining others.0 others.1 others_found))
        (λ none end.
        let ended = some_pair_parts [] others.0 first.1 others.1 end in
        rw (← ended.0, ← ended.1) (last tokens first.0 first.1 is_part)))))

  -- the whole list is found if nothing after it leads to a further part
  module _ (CanFollow : List TokenKind → Type 0)
      (part_complete : (tokens : List TokenKind) (part : X) (rest : List TokenKind) → IsPart tokens part rest → CanFollow rest → leading_part tokens ≡ Some (part, rest))
      (separator_follows : (others : List TokenKind) → CanFollow (separator ∷ others))
      (next_complete : (tokens : List TokenKind) (part : X) (rest : List TokenKind) → IsPart tokens part rest → after_part (separator ∷ tokens) ≡ Some tokens)
      (shorter : (tokens : List TokenKind) (part : X) (rest : List TokenKind) → IsPart tokens part rest → length rest < length tokens) where
    next_of : (tokens : List TokenKind) (parts : List X) (rest : List TokenKind) → IsListOf IsPart separator tokens parts rest → after_part (separator ∷ tokens) ≡ Some tokens
    next_of tokens parts rest (last_part is_part) = next_complete tokens _ rest is_part
    next_of tokens parts rest (more_parts is_part others) = next_complete tokens _ _ is_part

    pub list_shorter : (tokens : List TokenKind) (parts : List X) (rest : List TokenKind) → IsListOf IsPart separator tokens parts rest → length rest < length tokens
    list_shorter tokens parts rest (last_part is_part) = shorter tokens _ rest is_part
    list_shorter tokens parts rest (more_parts {others = others} is_part is_list) =
        let first : length (separator ∷ others) < length tokens = shorter tokens _ _ is_part in
        omega (arith, first, list_shorter others _ rest is_list)

    parts_complete : (n : ℕ) (tokens : List TokenKind) (parts : List X) (rest : List TokenKind) → IsListOf IsPart separator tokens parts rest → CanFollow rest → after_part rest ≡ None →
        length tokens < n → leading_parts leading_part after_part n tokens ≡ Some (parts, rest)
    parts_complete zero tokens parts rest is_list follows ended enough = absurd (omega arith)
    parts_complete (suc n) tokens parts rest (last_part {part = part} is_part) follows ended enough = rw (part_complete tokens part rest is_part follows, ended) refl
    parts_complete (suc n) tokens parts rest (more_parts {part = part} {parts = others_parts} {others = others} is_part is_list) follows ended enough =
        let first : length (separator ∷ others) < length tokens = shorter tokens part _ is_part in
        rw (part_complete tokens part (separator ∷ others) is_part (separator_follows others), next_of others others_parts rest is_list, parts_complete n others others_parts rest is_list follows ended (omega (arith, first))) refl

    pub list_complete : (tokens : List TokenKind) (parts : List X) (rest : List TokenKind) → IsListOf IsPart separator tokens parts rest → CanFollow rest → after_part rest ≡ None →
        leading_list leading_part after_part tokens ≡ Some (parts, rest)
    list_complete tokens parts rest is_list follows ended = parts_complete (suc (length tokens)) tokens parts rest is_list follows ended (omega arith)
