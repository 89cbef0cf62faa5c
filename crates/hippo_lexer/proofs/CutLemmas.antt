-- The steps that split a text into tokens.
use Rattle.std.proofs.Common.{◌≡◌, ℕ, suc, ◌+◌, ◌-◌, ◌<◌, ◌≤◌, false, List, [], ◌∷◌, ◌++◌, length, drop, Result, Ok, Err, refl, sym, ap, ◌∙◌, inl, inr, arith, one-add}
use Rattle.std.specs.Prelude.{IsUtf8, IsCharBoundary}
use Rattle.std.proofs.lemmas.Bool.{cases_Bool}
use Rattle.std.proofs.lemmas.List.{length-append, append_assoc, append-nil, drop_at, length-drop, get_or_append_left, nil_from_length}
use Rattle.std.proofs.lemmas.List.Sums.{prefix_len-le-length}
use Rattle.hippo_lexer.specs.declared.kinds.TokenKind.{TokenKind}
use Rattle.hippo_lexer.specs.declared.kinds.Token.{Token}
use Rattle.hippo_lexer.specs.declared.faults.LexFault.{LexFault}
use Rattle.hippo_lexer.specs.declared.faults.LexFault.TheVariants as faults
use Rattle.hippo_lexer.specs.Spelling.{is_blank, begins_with}
use Rattle.hippo_lexer.specs.Cutting.{FailsOutcome, blanks_len, token_first, tokens_from, with_front_tokens, outcome_of}
use Rattle.hippo_lexer.specs.Grammar.{with_first_token}
use Rattle.hippo_lexer.proofs.EdgeLemmas.{BeginsPlain, EndsPlain, token_begins, token_ends}
use Rattle.hippo_lexer.proofs.FirstLemmas.{token_or_fault}
use Rattle.hippo_lexer.proofs.FrontLemmas.{boundary-ascii}
use Rattle.hippo_lexer.proofs.RunLemmas.{tokens_from-token, tokens_from-fault}
use Rattle.hippo_lexer.proofs.TokenLemmas.{token-is, fault-is}

-- blanks are skipped
pub tokens_from-blanks : (place : ℕ) (bytes : List ℕ) → tokens_from place 0 bytes ≡ tokens_from (place + blanks_len bytes) 0 (drop (blanks_len bytes) bytes)
unfolding tokens_from
tokens_from-blanks place [] = refl
tokens_from-blanks place (byte ∷ rest) = elim (cases_Bool (is_blank byte)) [
  | inl blank ↦
      let there : place + 1 + blanks_len rest ≡ place + suc (blanks_len rest) = omega arith in
      rw (blank, one-add) (tokens_from-blanks (place + 1) rest ∙ ap (λ p. tokens_from p 0 (drop (blanks_len rest) rest)) there)
  | inr other ↦ let here : place + 0 ≡ place = omega arith in rw (other, here, other) refl
]

front_nothing : (outcome : Result (List Token) LexFault) → with_front_tokens [] outcome ≡ outcome
front_nothing (Ok tokens) = refl
front_nothing (Err fault) = refl

front_more : (front : List Token) (token : Token) (outcome : Result (List Token) LexFault) → with_front_tokens front (with_first_token token outcome) ≡ with_front_tokens (front ++ token ∷ []) outcome
front_more front token (Ok tokens) = ap Ok (sym (append_assoc front (token ∷ []) tokens))
front_more front token (Err fault) = refl

-- the text begins with what was found first, and may be split after it
pub record IsCutOff (bytes : List ℕ) (n : ℕ) : Type 0 where
  pub text : List ℕ
  pub rest : List ℕ
  pub parts : bytes ≡ text ++ rest
  pub size : length text ≡ n
  pub some : 0 < n
  pub begins : BeginsPlain text
  pub bound : IsCharBoundary bytes n

cut_after : (bytes text rest : List ℕ) → IsUtf8 bytes → bytes ≡ text ++ rest → BeginsPlain text → EndsPlain text → IsCharBoundary bytes (length text)
cut_after bytes text rest utf8 parts begins ends =
    let size : length bytes ≡ length text + length rest = simp length-append at (ap length parts) in
    let some : 0 < length text = rw begins.parts (omega arith) in
    boundary-ascii bytes (length text) utf8 (omega arith)
    (λ _. let last : length text - 1 < length text = omega arith in rw (parts, get_or_append_left text rest 0 (length text - 1) last) ends)

same_len : (a b : TokenKind) (m n : ℕ) → ◌≡◌ {A = Result (TokenKind × ℕ) LexFault} (Ok (a, m)) (Ok (b, n)) → m ≡ n
same_len a b m n h = let same : ◌≡◌ {A = TokenKind × ℕ} (a, m) (b, n) = cc in ap (λ p. p.1) same

ok_is_no_fault : (a : TokenKind) (n : ℕ) (fault : LexFault) → ◌≡◌ {A = Result (TokenKind × ℕ) LexFault} (Ok (a, n)) (Err fault) → ⊥
ok_is_no_fault a n fault h = cc

pub cut_token : (place : ℕ) (bytes : List ℕ) (kind : TokenKind) (n : ℕ) → IsUtf8 bytes → 0 < length bytes → begins_with is_blank bytes ≡ false → token_first place bytes ≡ Ok (kind, n) → IsCutOff bytes n
cut_token place [] kind n utf8 some filled first = absurd (omega arith)
cut_token place (byte ∷ rest) kind n utf8 some filled first = elim (token_or_fault place byte rest filled) [
  | inl found ↦
      let size : length found.0 ≡ n = same_len found.2 kind (length found.0) n (sym (token-is place found.0 found.1 found.2 found.4) ∙ (ap (token_first place) (sym found.3) ∙ first)) in
      let begins = token_begins found.0 found.1 found.2 found.4 in
      record {
        text = found.0;
        rest = found.1;
        parts = found.3;
        size = size;
        some = rw (← size, begins.parts) (omega arith);
        begins = begins;
        bound = rw (← size) (cut_after (byte ∷ rest) found.0 found.1 utf8 found.3 begins (token_ends found.0 found.1 found.2 found.4));
      }
  | inr found ↦ absurd (ok_is_no_fault kind n found.0 (sym first ∙ fault-is place (byte ∷ rest) found.0 found.1))
]

-- Before the first token.
pub cuts_start : (text : List ℕ) → with_front_tokens [] (tokens_from (length text - length (drop (blanks_len text) text)) 0 (drop (blanks_len text) text)) ≡ outcome_of text
unfolding outcome_of
cuts_start text =
    let there : length text - length (drop (blanks_len text) text) ≡ 0 + blanks_len text = simp length-drop (omega (arith, prefix_len-le-length is_blank text)) in
    rw there (front_nothing _ ∙ sym (tokens_from-blanks 0 text))

first_token : (place : ℕ) (bytes text rest : List ℕ) (kind : TokenKind) (n : ℕ) → BeginsPlain text → bytes ≡ text ++ rest → length text ≡ n → token_first place bytes ≡ Ok (kind, n) → tokens_from place 0 bytes ≡ with_first_token (record { kind = kind; start = place; end = place + n }) (tokens_from (place + n) 0 rest)
first_token place bytes text rest kind n begins parts size first =
    let same : ◌≡◌ {A = Result (TokenKind × ℕ) LexFault} (Ok (kind, n)) (Ok (kind, length text)) = ap (λ k. Ok (kind, k)) (sym size) in
    tokens_from-token place bytes text rest kind begins parts (first ∙ same)
    ∙ ap (λ k. with_first_token (record { kind = kind; start = place; end = place + k }) (tokens_from (place + k) 0 rest)) size

-- A token was found.
pub cuts_token : (text rest : List ℕ) (found : List Token) (kind : TokenKind) (n : ℕ) → length rest ≤ length text → IsCutOff rest n → token_first (length text - length rest) rest ≡ Ok (kind, n) → with_front_tokens found (tokens_from (length text - length rest) 0 rest) ≡ outcome_of text
    → with_front_tokens (found ++ record { kind = kind; start = length text - length rest; end = length text - length rest + n } ∷ []) (tokens_from (length text - length (drop (blanks_len (drop n rest)) (drop n rest))) 0 (drop (blanks_len (drop n rest)) (drop n rest))) ≡ outcome_of text
cuts_token text rest found kind n within cut first told =
    let start = length text - length rest in
    let dropped : drop n rest ≡ cut.rest = rw cut.parts (drop_at cut.text cut.rest n cut.size) in
    let remaining = drop (blanks_len cut.rest) cut.rest in
    let size : length rest ≡ length cut.text + length cut.rest = simp length-append at (ap length cut.parts) in
    let place : start + n + blanks_len cut.rest ≡ length text - length remaining =
    simp length-drop (omega (arith, cut.size, size, within, prefix_len-le-length is_blank cut.rest)) in
    rw dropped (sym (sym told
    ∙ ap (with_front_tokens found) (first_token start rest cut.text cut.rest kind n cut.begins cut.parts cut.size first)
    ∙ front_more found _ _
    ∙ ap (with_front_tokens (found ++ record { kind = kind; start = start; end = start + n } ∷ [])) (tokens_from-blanks (start + n) cut.rest ∙ ap (λ p. tokens_from p 0 remaining) place)))

-- A fault was found.
cuts_this : (place : ℕ) (rest text : List ℕ) (found : List Token) (fault : LexFault) → 0 < length rest → begins_with is_blank rest ≡ false → with_front_tokens found (tokens_from place 0 rest) ≡ outcome_of text → token_first place rest ≡ Err fault → outcome_of text ≡ Err fault
cuts_this place [] text found fault some filled told first = absurd (omega arith)
cuts_this place (byte ∷ rest) text found fault some filled told first =
    sym told ∙ ap (with_front_tokens found) (tokens_from-fault place byte rest fault filled first)

pub cuts_fault : (place : ℕ) (rest text : List ℕ) (found : List Token) (fault : LexFault) → 0 < length rest → begins_with is_blank rest ≡ false → with_front_tokens found (tokens_from place 0 rest) ≡ outcome_of text → FailsOutcome fault (token_first place rest) → FailsOutcome fault (outcome_of text)
cuts_fault place rest text found faults.Memory some filled told first = tt
cuts_fault place rest text found (faults.BadToken at) some filled told first = cuts_this place rest text found (faults.BadToken at) some filled told first
cuts_fault place rest text found (faults.NumberTooLarge at) some filled told first = cuts_this place rest text found (faults.NumberTooLarge at) some filled told first
cuts_fault place rest text found (faults.BadDate at) some filled told first = cuts_this place rest text found (faults.BadDate at) some filled told first

-- Nothing is left.
pub cuts_end : (place : ℕ) (rest text : List ℕ) (found : List Token) → length rest ≡ 0 → with_front_tokens found (tokens_from place 0 rest) ≡ outcome_of text → outcome_of text ≡ Ok found
unfolding tokens_from
cuts_end place rest text found none told =
    let empty = nil_from_length rest none in
    sym told ∙ (rw empty (ap Ok (append-nil found)))
