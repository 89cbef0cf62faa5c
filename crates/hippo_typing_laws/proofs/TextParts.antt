-- The tokens of a part of a text.
use Rattle.std.proofs.Common.{◌≡◌, ℕ, ◌+◌, true, false, Bool, List, [], ◌∷◌, ◌++◌, length, Result, Ok, Err, refl, sym, ap, subst, ◌∙◌, inl, inr, arith}
use Rattle.std.specs.List.{list_all}
use Rattle.std.proofs.lemmas.Bool.{and_parts, and_from, both_ways}
use Rattle.std.proofs.lemmas.List.{append_assoc, length-append}
use Rattle.hippo_lexer.specs.declared.kinds.TokenKind.{TokenKind}
use Rattle.hippo_lexer.specs.declared.kinds.Token.{Token}
use Rattle.hippo_lexer.specs.declared.faults.LexFault.{LexFault}
use Rattle.hippo_lexer.specs.declared.faults.LexFault.TheVariants as faults
use Rattle.hippo_lexer.specs.Spelling.{is_blank, begins_with, doubled_quotes}
use Rattle.hippo_lexer.specs.Cutting.{token_first}
use Rattle.hippo_lexer.specs.Grammar.{IsToken, a_keyword, a_refused_word, a_name, a_number, a_quoted_text, a_day, a_sign, unclosed, IsWholeWord, IsQuotedAfter, OpensDay, IsLongestSign, IsCut, at_end, at_blank, at_token, at_fault, with_first_token, quoted_text}
use Rattle.hippo_lexer.proofs.EdgeLemmas.{BeginsPlain, token_begins}
use Rattle.hippo_lexer.proofs.QuotedLemmas.{quoted_or_open}
use Rattle.hippo_lexer.proofs.TokenLemmas.{token-is, fault-is}
use Rattle.hippo_spj_reader.specs.Front.{kinds}

abbrev Outcome : Type 0
Outcome = Result (List Token) LexFault

-- Bytes that do not begin in some way still do not when fewer bytes follow.
begins-less : (test : ℕ → Bool) (front remaining : List ℕ) → begins_with test (front ++ remaining) ≡ false → begins_with test front ≡ false
begins-less test [] remaining ends = refl
begins-less test (byte ∷ front) remaining ends = ends

whole-less : (word front remaining : List ℕ) → IsWholeWord word (front ++ remaining) → IsWholeWord word front
whole-less word front remaining whole = record { form = whole.form; ends = begins-less _ front remaining whole.ends }

longest-less : (text front remaining : List ℕ) → IsLongestSign text (front ++ remaining) → IsLongestSign text front
longest-less text front remaining longest = λ byte more is. longest byte (more ++ remaining) (ap (λ (b : List ℕ). b ++ remaining) is)

-- A quoted text after blanks.
abbrev QuotedThere : List ℕ → List ℕ → Type 0
QuotedThere bytes blanks = (text : List ℕ) × (rest : List ℕ) × IsQuotedAfter bytes blanks text rest

ok_is_no_fault : (a : TokenKind) (n : ℕ) (fault : LexFault) → ◌≡◌ {A = Result (TokenKind × ℕ) LexFault} (Ok (a, n)) (Err fault) → ⊥
ok_is_no_fault a n fault h = cc

-- a token that begins with a quote is a quoted text
quoted_token : (place : ℕ) (bytes text rest : List ℕ) (kind : TokenKind) (more : List ℕ) → IsToken text kind rest → bytes ≡ text ++ rest → bytes ≡ 39 ∷ more → QuotedThere bytes []
quoted_token place bytes text rest kind more h cut quote = elim (quoted_or_open more) [
  | inl found ↦ (found.0, found.1, record { gap = refl; parts = quote ∙ found.2; ends = found.3 })
  | inr stays ↦
      absurd (ok_is_no_fault kind (length text) (faults.BadToken place)
      (sym (token-is place text rest kind h) ∙ (ap (token_first place) (sym cut) ∙ fault-is place bytes (faults.BadToken place) (unclosed place bytes stays.0 (quote ∙ stays.1)))))
]

blank_more : (byte : ℕ) (bytes rest blanks : List ℕ) → bytes ≡ byte ∷ rest → is_blank byte ≡ true → QuotedThere rest blanks → QuotedThere bytes (byte ∷ blanks)
blank_more byte bytes rest blanks parts blank there = (
  there.0,
  there.1,
  record {
    gap = and_from _ _ blank there.2.gap;
    parts = parts ∙ ap (λ (b : List ℕ). byte ∷ b) there.2.parts;
    ends = there.2.ends;
  },
)

first_is : (one other : ℕ) (rest more : List ℕ) → ◌≡◌ {A = List ℕ} (one ∷ rest) (other ∷ more) → one ≡ other
first_is one other rest more e = cc

rest_is : (one other : ℕ) (rest more : List ℕ) → ◌≡◌ {A = List ℕ} (one ∷ rest) (other ∷ more) → rest ≡ more
rest_is one other rest more e = cc

-- a token does not begin with a blank
no_blank : (bytes text rest : List ℕ) (kind : TokenKind) (byte : ℕ) (more : List ℕ) → IsToken text kind rest → bytes ≡ text ++ rest → bytes ≡ byte ∷ more → is_blank byte ≡ true → ⊥
no_blank bytes text rest kind byte more h cut parts blank =
    let begins : BeginsPlain text = token_begins text rest kind h in
    let same : begins.first ≡ byte = first_is begins.first byte (begins.tail ++ rest) more (ap (λ (b : List ℕ). b ++ rest) (sym begins.parts) ∙ (sym cut ∙ parts)) in
    both_ways _ begins.blank (ap is_blank same ∙ blank)

-- if a quote comes first after the blanks of a text that has tokens, a quoted text is there
quote_opens : (place : ℕ) (bytes : List ℕ) (outcome : Outcome) (tokens : List Token) (blanks more : List ℕ) → IsCut place bytes outcome → outcome ≡ Ok tokens → list_all is_blank blanks ≡ true → bytes ≡ blanks ++ 39 ∷ more → QuotedThere bytes blanks
quote_opens place bytes outcome tokens [] more (at_end _) ok gap parts = absurd cc
quote_opens place bytes outcome tokens (blank ∷ blanks) more (at_end _) ok gap parts = absurd cc
quote_opens place bytes outcome tokens [] more (at_blank _ byte rest _ h later) ok gap parts =
    absurd (both_ways _ (ap is_blank (first_is byte 39 rest more parts)) h)
quote_opens place bytes outcome tokens (blank ∷ blanks) more (at_blank _ byte rest _ h later) ok gap parts =
    let remaining : rest ≡ blanks ++ 39 ∷ more = rest_is byte blank rest (blanks ++ 39 ∷ more) parts in
    let same : byte ≡ blank = first_is byte blank rest (blanks ++ 39 ∷ more) parts in
    let passed = and_parts (is_blank blank) (list_all is_blank blanks) gap in
    blank_more blank (byte ∷ rest) rest blanks (ap (λ (b : ℕ). b ∷ rest) same) passed.0 (quote_opens (place + 1) rest outcome tokens blanks more later ok passed.1 remaining)
quote_opens place bytes outcome tokens [] more (at_token _ _ text rest kind later _ h is_cut cut first) ok gap parts = quoted_token place bytes text rest kind more h cut parts
quote_opens place bytes outcome tokens (blank ∷ blanks) more (at_token _ _ text rest kind later _ h is_cut cut first) ok gap parts =
    absurd (no_blank bytes text rest kind blank (blanks ++ 39 ∷ more) h cut parts (and_parts (is_blank blank) (list_all is_blank blanks) gap).0)
quote_opens place bytes outcome tokens blanks more (at_fault _ _ fault h) ok gap parts = absurd cc

-- if the word DATE has no quoted text after it, it has none when fewer bytes follow
alone-less : (place : ℕ) (tokens : List Token) (front remaining : List ℕ) → IsCut place (front ++ remaining) (Ok tokens) → ((blanks text more : List ℕ) → ¬ (IsQuotedAfter (front ++ remaining) blanks text more)) → (blanks text more : List ℕ) → ¬ (IsQuotedAfter front blanks text more)
alone-less place tokens front remaining is_cut alone = λ blanks text more there.
    let rest : List ℕ = doubled_quotes text ++ 39 ∷ [] ++ more ++ remaining in
    let parts : front ++ remaining ≡ blanks ++ 39 ∷ rest = ap (λ (b : List ℕ). b ++ remaining) there.parts ∙ append_assoc blanks (quoted_text text ++ more) remaining in
    let opens = quote_opens place (front ++ remaining) (Ok tokens) tokens blanks rest is_cut refl there.gap parts in
    alone blanks opens.0 opens.1 opens.2

-- A token stays a token when fewer bytes follow, if those have tokens.
day_less : (word remaining blanks text front rest : List ℕ) → OpensDay word remaining blanks text (front ++ rest) → OpensDay word (blanks ++ (quoted_text text ++ front)) blanks text front
day_less word remaining blanks text front rest opens =
    let quotation = opens.quotation in
    let parts : remaining ≡ (blanks ++ (quoted_text text ++ front)) ++ rest =
    quotation.parts ∙ sym (append_assoc blanks (quoted_text text ++ front) rest ∙ ap (λ (b : List ℕ). blanks ++ b) (append_assoc (quoted_text text) front rest)) in
    let whole : IsWholeWord word ((blanks ++ (quoted_text text ++ front)) ++ rest) = rw (← parts) opens.whole in
    record {
      whole = whole-less word (blanks ++ (quoted_text text ++ front)) rest whole;
      date = opens.date;
      quotation = record { gap = quotation.gap; parts = refl; ends = begins-less _ front rest quotation.ends };
    }

token-less : (place : ℕ) (tokens : List Token) (text remaining front rest : List ℕ) (kind : TokenKind) → IsToken text kind remaining → remaining ≡ front ++ rest → IsCut place (front ++ rest) (Ok tokens) → IsToken text kind front
token-less place tokens text remaining front rest kind (a_keyword _ _ keyword whole found alone) parts is_cut =
    a_keyword text front keyword (whole-less text front rest (rw (← parts) whole)) found (λ date. alone-less place tokens front rest is_cut (rw (← parts) (alone date)))
token-less place tokens text remaining front rest kind (a_refused_word _ _ whole among) parts is_cut = a_refused_word text front (whole-less text front rest (rw (← parts) whole)) among
token-less place tokens text remaining front rest kind (a_name _ _ whole form) parts is_cut = a_name text front (whole-less text front rest (rw (← parts) whole)) form
token-less place tokens text remaining front rest kind (a_number _ _ number h fits ends) parts is_cut = a_number text front number h fits (begins-less _ front rest (rw (← parts) ends))
token-less place tokens text remaining front rest kind (a_quoted_text _ said _ spelled ends) parts is_cut = a_quoted_text text said front spelled (begins-less _ front rest (rw (← parts) ends))
token-less place tokens text remaining front rest kind (a_day _ word after blanks said _ day opens is_day spelled) parts is_cut =
    let opens_there : OpensDay word after blanks said (front ++ rest) = rw (← parts) opens in
    a_day text word (blanks ++ (quoted_text said ++ front)) blanks said front day (day_less word after blanks said front rest opens_there) is_day spelled
token-less place tokens text remaining front rest kind (a_sign _ _ sign h longest) parts is_cut = a_sign text front sign h (longest-less text front rest (rw (← parts) longest))

-- where the last of some tokens ends; the place itself if there are none
abbrev pub end_from : ℕ → List Token → ℕ
end_from place [] = place
end_from place (token ∷ tokens) = end_from token.end tokens

-- a text has a front that has exactly the first tokens and ends with them
pub record HasFront (place : ℕ) (bytes : List ℕ) (tokens : List Token) : Type 0 where
  pub front : List ℕ
  pub rest : List ℕ
  pub parts : bytes ≡ front ++ rest
  pub size : place + length front ≡ end_from place tokens
  pub cut : IsCut place front (Ok tokens)

-- a text has an end that begins with a token and has the tokens from there on
pub record HasEnd (place : ℕ) (bytes : List ℕ) (first : Token) (tokens : List Token) : Type 0 where
  pub front : List ℕ
  pub rest : List ℕ
  pub parts : bytes ≡ front ++ rest
  pub size : place + length front ≡ first.start
  pub cut : IsCut first.start rest (Ok (first ∷ tokens))

-- The first of the tokens, and the other tokens.
abbrev Later : Token → Outcome → List Token → Type 0
Later token later tokens = (others : List Token) × (later ≡ Ok others) × (tokens ≡ token ∷ others)

later_tokens : (token : Token) (later : Outcome) (tokens : List Token) → with_first_token token later ≡ Ok tokens → Later token later tokens
later_tokens token (Ok others) tokens e = (others, refl, cc)
later_tokens token (Err fault) tokens e = absurd cc

token_is : (token : Token) (first : Token) (tokens others : List Token) → ◌≡◌ {A = List Token} (first ∷ tokens) (token ∷ others) → first ≡ token
token_is token first tokens others e = cc

tokens_are : (token : Token) (first : Token) (tokens others : List Token) → ◌≡◌ {A = List Token} (first ∷ tokens) (token ∷ others) → others ≡ tokens
tokens_are token first tokens others e = cc

none_is : (token : Token) (others : List Token) → ◌≡◌ {A = List Token} [] (token ∷ others) → ⊥
none_is token others e = cc

regrouped : (bytes text remaining front rest : List ℕ) → bytes ≡ text ++ remaining → remaining ≡ front ++ rest → bytes ≡ text ++ front ++ rest
regrouped bytes text remaining front rest parts more = parts ∙ (ap (λ (b : List ℕ). text ++ b) more ∙ sym (append_assoc text front rest))

longer : (place : ℕ) (text front : List ℕ) (at : ℕ) → place + length text + length front ≡ at → place + length (text ++ front) ≡ at
longer place text front at size = simp length-append (omega arith)

-- The first tokens of a text are those of its front.
pub front_of : (place : ℕ) (bytes : List ℕ) (outcome : Outcome) (tokens others : List Token) → IsCut place bytes outcome → outcome ≡ Ok (tokens ++ others) → HasFront place bytes tokens
front_of place bytes outcome [] others is_cut ok = record { front = []; rest = bytes; parts = refl; size = omega arith; cut = at_end place }
front_of place bytes outcome (first ∷ tokens) others (at_end _) ok = absurd cc
front_of place bytes outcome (first ∷ tokens) others (at_blank _ byte rest _ h later) ok =
    let there = front_of (place + 1) rest outcome (first ∷ tokens) others later ok in
    record {
      front = byte ∷ there.front;
      rest = there.rest;
      parts = ap (λ (b : List ℕ). byte ∷ b) there.parts;
      size = omega (arith, there.size);
      cut = at_blank place byte there.front (Ok (first ∷ tokens)) h there.cut;
    }
front_of place bytes outcome (first ∷ tokens) others (at_token _ _ text rest kind later _ h is_cut cut is_first) ok =
    let token : Token = record { kind = kind; start = place; end = place + length text } in
    let remaining = later_tokens token later (first ∷ (tokens ++ others)) (sym is_first ∙ ok) in
    let same : first ≡ token = token_is token first (tokens ++ others) remaining.0 remaining.2 in
    let told : later ≡ Ok (tokens ++ others) = remaining.1 ∙ ap Ok (tokens_are token first (tokens ++ others) remaining.0 remaining.2) in
    let there = front_of (place + length text) rest later tokens others is_cut told in
    let rest_cut : IsCut (place + length text) (there.front ++ there.rest) (Ok (tokens ++ others)) = rw (← there.parts, ← told) is_cut in
    let ends : end_from (place + length text) tokens ≡ end_from first.end tokens = ap (λ (t : Token). end_from t.end tokens) (sym same) in
    record {
      front = text ++ there.front;
      rest = there.rest;
      parts = regrouped bytes text rest there.front there.rest cut there.parts;
      size = longer place text there.front (end_from first.end tokens) (there.size ∙ ends);
      cut = at_token place (text ++ there.front) text there.front kind (Ok tokens) (Ok (first ∷ tokens))
          (token-less (place + length text) (tokens ++ others) text rest there.front there.rest kind h there.parts rest_cut) there.cut refl
          (ap (λ (t : Token). Ok (t ∷ tokens)) same);
    }
front_of place bytes outcome (first ∷ tokens) others (at_fault _ _ fault h) ok = absurd cc

-- The tokens from one of them on are those of an end.
pub end_of : (place : ℕ) (bytes : List ℕ) (outcome : Outcome) (skipped : List Token) (first : Token) (tokens : List Token) → IsCut place bytes outcome → outcome ≡ Ok (skipped ++ first ∷ tokens) → HasEnd place bytes first tokens
end_of place bytes outcome [] first tokens (at_end _) ok = absurd cc
end_of place bytes outcome (one ∷ skipped) first tokens (at_end _) ok = absurd cc
end_of place bytes outcome skipped first tokens (at_blank _ byte rest _ h later) ok =
    let there = end_of (place + 1) rest outcome skipped first tokens later ok in
    record {
      front = byte ∷ there.front;
      rest = there.rest;
      parts = ap (λ (b : List ℕ). byte ∷ b) there.parts;
      size = omega (arith, there.size);
      cut = there.cut;
    }
end_of place bytes outcome [] first tokens (at_token _ _ text rest kind later _ h is_cut cut is_first) ok =
    let token : Token = record { kind = kind; start = place; end = place + length text } in
    let remaining = later_tokens token later (first ∷ tokens) (sym is_first ∙ ok) in
    let same : first ≡ token = token_is token first tokens remaining.0 remaining.2 in
    let start : first.start ≡ place = ap (λ (t : Token). t.start) same in
    let whole : IsCut place bytes (Ok (first ∷ tokens)) = at_token place bytes text rest kind later (Ok (first ∷ tokens)) h is_cut cut (sym ok ∙ is_first) in
    record { front = []; rest = bytes; parts = refl; size = omega arith; cut = subst (λ (p : ℕ). IsCut p bytes (Ok (first ∷ tokens))) (sym start) whole }
end_of place bytes outcome (one ∷ skipped) first tokens (at_token _ _ text rest kind later _ h is_cut cut is_first) ok =
    let token : Token = record { kind = kind; start = place; end = place + length text } in
    let remaining = later_tokens token later (one ∷ (skipped ++ first ∷ tokens)) (sym is_first ∙ ok) in
    let told : later ≡ Ok (skipped ++ first ∷ tokens) = remaining.1 ∙ ap Ok (tokens_are token one (skipped ++ first ∷ tokens) remaining.0 remaining.2) in
    let there = end_of (place + length text) rest later skipped first tokens is_cut told in
    record {
      front = text ++ there.front;
      rest = there.rest;
      parts = regrouped bytes text rest there.front there.rest cut there.parts;
      size = longer place text there.front first.start there.size;
      cut = there.cut;
    }
end_of place bytes outcome [] first tokens (at_fault _ _ fault h) ok = absurd cc
end_of place bytes outcome (one ∷ skipped) first tokens (at_fault _ _ fault h) ok = absurd cc

-- The tokens of a text say the same wherever the text begins.
abbrev CutAt : ℕ → List ℕ → List Token → Type 0
CutAt place bytes tokens = (others : List Token) × IsCut place bytes (Ok others) × (kinds others ≡ kinds tokens)

pub moved : (place other : ℕ) (bytes : List ℕ) (outcome : Outcome) (tokens : List Token) → IsCut place bytes outcome → outcome ≡ Ok tokens → CutAt other bytes tokens
moved place other bytes outcome [] (at_end _) ok = ([], at_end other, refl)
moved place other bytes outcome (one ∷ tokens) (at_end _) ok = absurd cc
moved place other bytes outcome tokens (at_blank _ byte rest _ h later) ok =
    let there = moved (place + 1) (other + 1) rest outcome tokens later ok in
    (there.0, at_blank other byte rest (Ok there.0) h there.1, there.2)
moved place other bytes outcome [] (at_token _ _ text rest kind later _ h is_cut cut is_first) ok =
    let token : Token = record { kind = kind; start = place; end = place + length text } in
    let remaining = later_tokens token later [] (sym is_first ∙ ok) in
    absurd (none_is token remaining.0 remaining.2)
moved place other bytes outcome (one ∷ tokens) (at_token _ _ text rest kind later _ h is_cut cut is_first) ok =
    let token : Token = record { kind = kind; start = place; end = place + length text } in
    let remaining = later_tokens token later (one ∷ tokens) (sym is_first ∙ ok) in
    let same : one ≡ token = token_is token one tokens remaining.0 remaining.2 in
    let told : later ≡ Ok tokens = remaining.1 ∙ ap Ok (tokens_are token one tokens remaining.0 remaining.2) in
    let there = moved (place + length text) (other + length text) rest later tokens is_cut told in
    let said : kind ≡ one.kind = ap (λ (t : Token). t.kind) (sym same) in (
      record { kind = kind; start = other; end = other + length text } ∷ there.0,
      at_token other bytes text rest kind (Ok there.0) _ h there.1 cut refl,
      λ i. said i ∷ there.2 i,
    )
moved place other bytes outcome [] (at_fault _ _ fault h) ok = absurd cc
moved place other bytes outcome (one ∷ tokens) (at_fault _ _ fault h) ok = absurd cc
