-- The outcome of the code is that of the grammar, for each text.
use Rattle.std.proofs.Common.{◌≡◌, ℕ, zero, suc, ◌+◌, ◌-◌, ◌<◌, ◌≤◌, false, List, [], ◌∷◌, ◌++◌, length, Result, Ok, Err, refl, sym, ap, ◌∙◌, inl, inr, arith}
use Rattle.std.proofs.lemmas.Bool.{cases_Bool}
use Rattle.std.proofs.lemmas.List.{length-append}
use Rattle.hippo_lexer.specs.declared.kinds.TokenKind.{TokenKind}
use Rattle.hippo_lexer.specs.declared.kinds.Token.{Token}
use Rattle.hippo_lexer.specs.declared.faults.LexFault.{LexFault}
use Rattle.hippo_lexer.specs.Spelling.{is_blank}
use Rattle.hippo_lexer.specs.Cutting.{token_first, tokens_from, with_front_tokens}
use Rattle.hippo_lexer.specs.Grammar.{IsCut, at_end, at_blank, at_token, at_fault, with_first_token, IsOutcome}
use Rattle.hippo_lexer.proofs.EdgeLemmas.{BeginsPlain, token_begins, fault_begins}
use Rattle.hippo_lexer.proofs.FirstLemmas.{token_or_fault}
use Rattle.hippo_lexer.proofs.TokenLemmas.{token-is, fault-is}

-- the bytes of a token are skipped
pub tokens_from-skip : (place : ℕ) (text rest : List ℕ) → tokens_from place (length text) (text ++ rest) ≡ tokens_from (place + length text) 0 rest
unfolding tokens_from
tokens_from-skip place [] rest = let here : place + 0 ≡ place = omega arith in rw here refl
tokens_from-skip place (byte ∷ text) rest =
    let there : place + 1 + length text ≡ place + suc (length text) = omega arith in
    tokens_from-skip (place + 1) text rest ∙ ap (λ p. tokens_from p 0 rest) there

one_front : (token : Token) (outcome : Result (List Token) LexFault) → with_front_tokens (token ∷ []) outcome ≡ with_first_token token outcome
one_front token (Ok tokens) = refl
one_front token (Err fault) = refl

token_step : (place byte : ℕ) (tail rest : List ℕ) (kind : TokenKind) → is_blank byte ≡ false → token_first place (byte ∷ (tail ++ rest)) ≡ Ok (kind, suc (length tail)) → tokens_from place 0 (byte ∷ (tail ++ rest)) ≡ with_first_token (record { kind = kind; start = place; end = place + suc (length tail) }) (tokens_from (place + suc (length tail)) 0 rest)
unfolding tokens_from
token_step place byte tail rest kind blank first =
    let count : suc (length tail) - 1 ≡ length tail = omega arith in
    let there : place + 1 + length tail ≡ place + suc (length tail) = omega arith in
    rw (blank, first, count, tokens_from-skip (place + 1) tail rest, there) (one_front _ _)

-- a token at the front
pub tokens_from-token : (place : ℕ) (bytes text rest : List ℕ) (kind : TokenKind) → BeginsPlain text → bytes ≡ text ++ rest → token_first place bytes ≡ Ok (kind, length text) → tokens_from place 0 bytes ≡ with_first_token (record { kind = kind; start = place; end = place + length text }) (tokens_from (place + length text) 0 rest)
tokens_from-token place bytes text rest kind begins cut first =
    let here = rw (cut, begins.parts) at first in
    rw (cut, begins.parts) (token_step place begins.first begins.tail rest kind begins.blank here)

-- a fault at the front
pub tokens_from-fault : (place byte : ℕ) (rest : List ℕ) (fault : LexFault) → is_blank byte ≡ false → token_first place (byte ∷ rest) ≡ Err fault → tokens_from place 0 (byte ∷ rest) ≡ Err fault
unfolding tokens_from
tokens_from-fault place byte rest fault blank first = rw (blank, first) refl

-- the outcome by the grammar is that of the code
pub cut-is : (place : ℕ) (bytes : List ℕ) (outcome : Result (List Token) LexFault) → IsCut place bytes outcome → tokens_from place 0 bytes ≡ outcome
unfolding tokens_from
cut-is place bytes outcome (at_end _) = refl
cut-is place bytes outcome (at_blank _ byte rest _ h later) = rw h (cut-is (place + 1) rest outcome later)
cut-is place bytes outcome (at_token _ _ text rest kind later _ h is_cut cut first) =
    tokens_from-token place bytes text rest kind (token_begins text rest kind h) cut (ap (token_first place) cut ∙ token-is place text rest kind h)
    ∙ (ap (with_first_token _) (cut-is (place + length text) rest later is_cut) ∙ sym first)
cut-is place bytes outcome (at_fault _ _ fault h) =
    let begins = fault_begins place bytes fault h in
    let here = rw begins.2 at (fault-is place bytes fault h) in
    rw begins.2 (tokens_from-fault place begins.0 begins.1 fault begins.3 here)

-- each text has an outcome
abbrev HasCut : ℕ → List ℕ → Type 0
HasCut place bytes = (outcome : Result (List Token) LexFault) × IsCut place bytes outcome

cut_within : (n place : ℕ) (bytes : List ℕ) → length bytes ≤ n → HasCut place bytes
cut_within n place [] small = (Ok [], at_end place)
cut_within zero place (byte ∷ rest) small = absurd (omega arith)
cut_within (suc n) place (byte ∷ rest) small = elim (cases_Bool (is_blank byte)) [
  | inl h ↦ let later = cut_within n (place + 1) rest (omega arith) in (later.0, at_blank place byte rest later.0 h later.1)
  | inr h ↦ elim (token_or_fault place byte rest h) [
    | inl found ↦
        let begins = token_begins found.0 found.1 found.2 found.4 in
        let cut : suc (length rest) ≡ length found.0 + length found.1 = simp length-append at (ap length found.3) in
        let some : 0 < length found.0 = rw begins.parts (omega arith) in
        let later = cut_within n (place + length found.0) found.1 (omega arith) in
        (_, at_token place (byte ∷ rest) found.0 found.1 found.2 later.0 _ found.4 later.1 found.3 refl)
    | inr found ↦ (Err found.0, at_fault place (byte ∷ rest) found.0 found.1)
  ]
]

-- the outcome of a text, which is its only one
pub outcome_is : (text : List ℕ) → IsOutcome text (tokens_from 0 0 text)
outcome_is text = let is_cut = cut_within (length text) 0 text (omega arith) in rw (cut-is 0 text is_cut.0 is_cut.1) is_cut.1
