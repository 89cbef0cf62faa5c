-- The tokens of a text fit their types.
use Rattle.std.proofs.Common.{◌≡◌, ℕ, zero, suc, ◌+◌, ◌-◌, ◌<◌, ◌≤◌, true, false, List, [], ◌∷◌, ◌++◌, length, get_or, Result, Ok, Err, IfOk, refl, sym, subst, append_assoc, length-append, arith, ℤ}
use Rattle.std.specs.Prelude.{IsUtf8, IsCharBoundary, if◌then◌else◌}
use Rattle.std.specs.List.{list_all}
use Rattle.std.specs.Str.{is_utf8}
use Rattle.std.proofs.lemmas.Bool.{and_from, eqb-true}
use Rattle.std.proofs.lemmas.Int.{ints}
use Rattle.std.proofs.lemmas.List.{take_at, drop_at, get_or_at, get_or_append_left}
use Rattle.std.proofs.lemmas.Str.{IsUtf8-take, IsUtf8-drop, IsUtf8-append, IsUtf8-from_ascii, is_utf8-from_IsUtf8, IsCharBoundary-before_ascii, IsCharBoundary-after_ascii}
use Rattle.hippo_values.specs.Moments.{is_day, IsDayNumber}
use Rattle.hippo_lexer.specs.Grammar.{IsToken, a_keyword, a_refused_word, a_name, a_number, a_quoted_text, a_day, a_sign, IsCut, at_end, at_blank, at_token, at_fault, with_first_token, IsOutcome, quoted_text}
use Rattle.hippo_lexer.specs.Spelling.{is_quote, doubled_quotes}
use Rattle.hippo_lexer.specs.declared.faults.LexFault.{LexFault}
use Rattle.hippo_lexer.specs.declared.kinds.Token.{Token}
use Rattle.hippo_lexer.specs.declared.kinds.TokenKind.{TokenKind}
use Rattle.hippo_lexer.proofs.EdgeLemmas.{token_ends}
use Rattle.hippo_lexer.proofs.FrontLemmas.{boundary-ascii, small_blank}
use Rattle.hippo_lexer.proofs.NumberLemmas.{signed-fits}
use Rattle.hippo_lexer.proofs.OutcomeLemmas.{outcome-one}
use Rattle.hippo_spj_reader.specs.Front.{kinds}
use Rattle.hippo_typing_laws.specs.Written.{kind_is_typed}
use Rattle.hippo_typing_laws.specs.WrittenLaws.{TokensAreTyped}
use Rattle.hippo_typing_laws.proofs.FoldedNames.{folded_so}

-- both parts of a text that is cut at a character boundary
two_parts : (front rest : List ℕ) → IsUtf8 (front ++ rest) → IsCharBoundary (front ++ rest) (length front) → IsUtf8 front × IsUtf8 rest
two_parts front rest utf8 bound = (
  subst (λ (bytes : List ℕ). IsUtf8 bytes) (take_at front rest (length front) refl) (IsUtf8-take (front ++ rest) (length front) utf8 bound),
  subst (λ (bytes : List ℕ). IsUtf8 bytes) (drop_at front rest (length front) refl) (IsUtf8-drop (front ++ rest) (length front) utf8 bound),
)

-- a text may be cut before an ASCII byte
pub before_ascii : (front : List ℕ) (byte : ℕ) (rest : List ℕ) → byte < 128 → IsUtf8 (front ++ byte ∷ rest) → IsUtf8 front × IsUtf8 (byte ∷ rest)
before_ascii front byte rest small utf8 =
    let within : length front < length (front ++ byte ∷ rest) = simp length-append (omega arith) in
    let there : get_or (front ++ byte ∷ rest) (length front) 0 < 128 = rw (get_or_at front byte rest 0 (length front) refl) small in
    two_parts front (byte ∷ rest) utf8 (IsCharBoundary-before_ascii (front ++ byte ∷ rest) (length front) within there)

-- and after one
pub after_ascii : (byte : ℕ) (rest : List ℕ) → byte < 128 → IsUtf8 (byte ∷ rest) → IsUtf8 rest
after_ascii byte rest small utf8 =
    let within : 0 < length (byte ∷ rest) = omega arith in
    IsUtf8-drop (byte ∷ rest) 1 utf8 (IsCharBoundary-after_ascii (byte ∷ rest) 0 utf8 within small)

pub a_quote : IsUtf8 (39 ∷ [])
a_quote = IsUtf8-from_ascii (39 ∷ []) small
  where
    small : (i : ℕ) → get_or (39 ∷ []) i 0 < 128
    small zero = omega arith
    small (suc i) = omega arith

-- if a text with doubled quotes is UTF-8, the text itself is UTF-8
undoubled : (front text : List ℕ) → IsUtf8 (front ++ doubled_quotes text) → IsUtf8 (front ++ text)
undoubled front [] utf8 = utf8
undoubled front (byte ∷ text) utf8 =
    elim (is_quote byte) as (λ quote. is_quote byte ≡ quote → IsUtf8 (front ++ (if quote then 39 ∷ 39 ∷ doubled_quotes text else byte ∷ doubled_quotes text)) → IsUtf8 (front ++ byte ∷ text)) [
      | true ↦ λ e utf8.
          let is : byte ≡ 39 = eqb-true byte 39 e in
          let first = before_ascii front 39 (39 ∷ doubled_quotes text) (omega arith) utf8 in
          let rest = undoubled [] text (after_ascii 39 (doubled_quotes text) (omega arith) (after_ascii 39 (39 ∷ doubled_quotes text) (omega arith) first.1)) in
          subst (λ (byte : ℕ). IsUtf8 (front ++ byte ∷ text)) (sym is) (IsUtf8-append front (39 ∷ text) first.0 (IsUtf8-append (39 ∷ []) text a_quote rest))
      | false ↦ λ e utf8.
          let longer : IsUtf8 ((front ++ byte ∷ []) ++ doubled_quotes text) = subst (λ (bytes : List ℕ). IsUtf8 bytes) (sym (append_assoc front (byte ∷ []) (doubled_quotes text))) utf8 in
          subst (λ (bytes : List ℕ). IsUtf8 bytes) (append_assoc front (byte ∷ []) text) (undoubled (front ++ byte ∷ []) text longer)
    ] refl utf8

unquoted : (text : List ℕ) → IsUtf8 (quoted_text text) → is_utf8 text ≡ true
unquoted text utf8 =
    let inner = after_ascii 39 (doubled_quotes text ++ 39 ∷ []) (omega arith) utf8 in
    let closed = before_ascii (doubled_quotes text) 39 [] (omega arith) inner in
    is_utf8-from_IsUtf8 text (undoubled [] text closed.0)

day_so : (day : ℤ) → IsDayNumber day → is_day day ≡ true
day_so day within = grind (arith, ints)

-- what a token says
kind_typed : (text rest : List ℕ) (kind : TokenKind) → IsUtf8 text → IsToken text kind rest → kind_is_typed kind ≡ true
kind_typed text rest _ utf8 (a_keyword _ _ keyword whole found alone) = refl
kind_typed text rest _ utf8 (a_refused_word _ _ whole among) = refl
kind_typed text rest _ utf8 (a_name _ _ whole form) = folded_so text form
kind_typed text rest _ utf8 (a_number _ _ number h fits ends) = signed-fits number fits
kind_typed text rest _ utf8 (a_quoted_text _ said _ spelled ends) = unquoted said (subst (λ (bytes : List ℕ). IsUtf8 bytes) spelled utf8)
kind_typed text rest _ utf8 (a_day _ word remaining blanks said _ day opens is_day spelled) = day_so day is_day.0
kind_typed text rest _ utf8 (a_sign _ _ sign h longest) = refl

abbrev AreTyped : List Token → Type 0
AreTyped tokens = list_all kind_is_typed (kinds tokens) ≡ true

one_more : (token : Token) (later outcome : Result (List Token) LexFault) → kind_is_typed token.kind ≡ true → IfOk later AreTyped → outcome ≡ with_first_token token later → IfOk outcome AreTyped
one_more token (Ok tokens) outcome typed remaining first = rw first (and_from _ _ typed remaining)
one_more token (Err fault) outcome typed remaining first = rw first tt

cut_typed : (place : ℕ) (bytes : List ℕ) (outcome : Result (List Token) LexFault) → IsUtf8 bytes → IsCut place bytes outcome → IfOk outcome AreTyped
cut_typed place bytes outcome utf8 (at_end _) = refl
cut_typed place bytes outcome utf8 (at_blank _ byte rest _ h later) = cut_typed (place + 1) rest outcome (after_ascii byte rest (small_blank byte h) utf8) later
cut_typed place bytes outcome utf8 (at_token _ _ said rest kind later _ h is_cut cut first) =
    let whole : IsUtf8 (said ++ rest) = subst (λ (bytes : List ℕ). IsUtf8 bytes) cut utf8 in
    let within : length said ≤ length (said ++ rest) = simp length-append (omega arith) in
    let ends : (0 < length said → get_or (said ++ rest) (length said - 1) 0 < 128) = λ some. rw (get_or_append_left said rest 0 (length said - 1) (omega arith)) (token_ends said rest kind h) in
    let parts = two_parts said rest whole (boundary-ascii (said ++ rest) (length said) whole within ends) in
    one_more (record { kind = kind; start = place; end = place + length said }) later outcome (kind_typed said rest kind parts.0 h) (cut_typed (place + length said) rest later parts.1 is_cut) first
cut_typed place bytes outcome utf8 (at_fault _ _ fault h) = tt

-- the tokens of a text fit their types
pub tokens_are_typed : TokensAreTyped
tokens_are_typed text tokens utf8 found =
    let is_cut : IsOutcome text (Ok tokens) = rw found at (outcome-one text).0 in
    cut_typed 0 text (Ok tokens) utf8 is_cut
