-- The places of a text's tokens.
use Rattle.std.proofs.Common.{◌≡◌, ℕ, ◌+◌, ◌-◌, ◌<◌, ◌≤◌, List, [], ◌∷◌, ◌++◌, length, get_or, Result, Ok, Err, IfOk, All, refl, sym, ap, ◌∙◌, arith}
use Rattle.std.specs.Prelude.{IsUtf8}
use Rattle.std.specs.List.{AllPairs}
use Rattle.std.specs.List.{AllByRecursion}
use Rattle.std.proofs.lemmas.List.{length-append, append_assoc, get_or_at, get_or-append-add, get_or_append_left}
use Rattle.std.proofs.lemmas.List.Elements.{All-from_recursion}
use Rattle.std.proofs.lemmas.List.Kept.{AllPairs-cons}
use Rattle.std.proofs.lemmas.Str.{IsCharBoundary-before_ascii}
use Rattle.hippo_lexer.specs.declared.kinds.TokenKind.{TokenKind}
use Rattle.hippo_lexer.specs.declared.kinds.Token.{Token}
use Rattle.hippo_lexer.specs.declared.faults.LexFault.{LexFault}
use Rattle.hippo_lexer.specs.Grammar.{IsCut, at_end, at_blank, at_token, at_fault, with_first_token, IsOutcome, IsSpan}
use Rattle.hippo_lexer.proofs.EdgeLemmas.{BeginsPlain, EndsPlain, token_begins, token_ends}
use Rattle.hippo_lexer.proofs.FrontLemmas.{boundary-ascii}

-- the tokens follow each other, from the place on
abbrev InOrder : List ℕ → ℕ → List Token → Type 0
InOrder text place [] = Unit {0}
InOrder text place (token ∷ tokens) = (place ≤ token.start) × IsSpan text token × InOrder text token.end tokens

span_there : (text front said rest : List ℕ) (place : ℕ) (kind : TokenKind) → IsUtf8 text → text ≡ front ++ (said ++ rest) → length front ≡ place → BeginsPlain said → EndsPlain said → IsSpan text (record { kind = kind; start = place; end = place + length said })
span_there text front said rest place kind utf8 parts size begins ends =
    let whole : length text ≡ length front + (length said + length rest) = simp length-append at (ap length parts) in
    let some : 0 < length said = rw begins.parts (omega arith) in
    let small_start : get_or text place 0 < 128 = rw (parts, begins.parts, get_or_at front begins.first (begins.tail ++ rest) 0 place size) begins.small in
    let last : place + length said - 1 ≡ length front + (length said - 1) = omega arith in
    let inside : length said - 1 < length said = omega arith in
    let small_end : get_or text (place + length said - 1) 0 < 128 =
    rw (last, parts, get_or-append-add front (said ++ rest) (length said - 1) 0, get_or_append_left said rest 0 (length said - 1) inside) ends in
    record {
      some = omega arith;
      from = IsCharBoundary-before_ascii text place (omega arith) small_start;
      to = boundary-ascii text (place + length said) utf8 (omega arith) (λ _. small_end);
    }

more_tokens : (text : List ℕ) (place : ℕ) (token : Token) (later outcome : Result (List Token) LexFault) → place ≤ token.start → IsSpan text token → IfOk later (InOrder text token.end) → outcome ≡ with_first_token token later → IfOk outcome (InOrder text place)
more_tokens text place token (Ok tokens) outcome from span remaining first = rw first (from, span, remaining)
more_tokens text place token (Err fault) outcome from span remaining first = rw first tt

earlier : (text : List ℕ) (place : ℕ) (tokens : List Token) → InOrder text (place + 1) tokens → InOrder text place tokens
earlier text place [] h = tt
earlier text place (token ∷ tokens) h = (omega (arith, h.0), h.1, h.2)

earlier_outcome : (text : List ℕ) (place : ℕ) (outcome : Result (List Token) LexFault) → IfOk outcome (InOrder text (place + 1)) → IfOk outcome (InOrder text place)
earlier_outcome text place (Ok tokens) h = earlier text place tokens h
earlier_outcome text place (Err fault) h = tt

in_order : (text front : List ℕ) (place : ℕ) (bytes : List ℕ) (outcome : Result (List Token) LexFault) → IsUtf8 text → text ≡ front ++ bytes → length front ≡ place → IsCut place bytes outcome → IfOk outcome (InOrder text place)
in_order text front place bytes outcome utf8 parts size (at_end _) = tt
in_order text front place bytes outcome utf8 parts size (at_blank _ byte rest _ h later) =
    earlier_outcome text place outcome (in_order text (front ++ byte ∷ []) (place + 1) rest outcome utf8 (parts ∙ sym (append_assoc front (byte ∷ []) rest)) (simp length-append (omega arith)) later)
in_order text front place bytes outcome utf8 parts size (at_token _ _ said rest kind later _ h is_cut cut first) =
    let there = parts ∙ ap (λ b. front ++ b) cut in
    let span = span_there text front said rest place kind utf8 there size (token_begins said rest kind h) (token_ends said rest kind h) in
    let remaining = in_order text (front ++ said) (place + length said) rest later utf8 (there ∙ sym (append_assoc front said rest)) (simp length-append (omega arith)) is_cut in
    more_tokens text place _ later outcome (omega arith) span remaining first
in_order text front place bytes outcome utf8 parts size (at_fault _ _ fault h) = tt

-- From this order: each token is a span, and each later one comes after it.
spans_by_recursion : (text : List ℕ) (place : ℕ) (tokens : List Token) → InOrder text place tokens → AllByRecursion (IsSpan text) tokens
spans_by_recursion text place [] h = tt
spans_by_recursion text place (token ∷ tokens) h = (h.1, spans_by_recursion text token.end tokens h.2)

starts_after : (text : List ℕ) (low place : ℕ) (tokens : List Token) → low ≤ place → InOrder text place tokens → AllByRecursion (λ token. low ≤ token.start) tokens
starts_after text low place [] h order = tt
starts_after text low place (token ∷ tokens) h order = (omega (arith, order.0), starts_after text low token.end tokens (omega (arith, order.0, order.1.some)) order.2)

pairs_in_order : (text : List ℕ) (place : ℕ) (tokens : List Token) → InOrder text place tokens → AllPairs (λ a b. a.end ≤ b.start) tokens
pairs_in_order text place [] h = λ i j d before small. absurd (omega arith)
pairs_in_order text place (token ∷ tokens) h =
    AllPairs-cons (λ a b. a.end ≤ b.start) token tokens (All-from_recursion (λ b. token.end ≤ b.start) tokens (starts_after text token.end token.end tokens (omega arith) h.2)) (pairs_in_order text token.end tokens h.2)

pub spans-of : (text : List ℕ) (tokens : List Token) → IsUtf8 text → IsOutcome text (Ok tokens) → All (IsSpan text) tokens
spans-of text tokens utf8 is_cut = All-from_recursion (IsSpan text) tokens (spans_by_recursion text 0 tokens (in_order text [] 0 text (Ok tokens) utf8 refl refl is_cut))

pub order-of : (text : List ℕ) (tokens : List Token) → IsUtf8 text → IsOutcome text (Ok tokens) → AllPairs (λ a b. a.end ≤ b.start) tokens
order-of text tokens utf8 is_cut = pairs_in_order text 0 tokens (in_order text [] 0 text (Ok tokens) utf8 refl refl is_cut)
