-- What a reader promises, in terms of what can be found at the front of its tokens.
use Rattle.std.specs.Prelude.{◌≡◌, ℕ, ◌<◌, ◌≤◌, List, [], ◌∷◌, ◌++◌, length, slice_range, Option, Some, None, option_map, IfSome, IfOk, IfErr, Result, Ok, Err}
use Rattle.hippo_values.specs.Options.{◌>>=◌}
use denote.Ref.{Bor}
use Rattle.hippo_lexer.specs.declared.faults.SyntaxFault.{SyntaxFault}
use Rattle.hippo_lexer.specs.declared.faults.SyntaxFault.TheVariants as fault
use Rattle.hippo_lexer.specs.declared.kinds.Token.{Token}
use Rattle.hippo_lexer.specs.Words.{words_check}
use Rattle.hippo_spj_reader.specs.Front.{Kinds, Finder, kinds}

-- the first if it finds something, otherwise the other
abbrev pub either : {A B : Type 0} → Option A → (A → B) → B → B
either (Some x) one other = one x
either None one other = other

-- there is nothing to find, or out of memory; readers fail for no other reason
abbrev pub Fails : {Y : Type 0} → SyntaxFault → Option Y → Type 0
Fails fault.TooDeep found = ⊥
Fails (fault.Unsupported place) found = ⊥
Fails fault.BadSyntax found = found ≡ None
Fails fault.Memory found = Unit {0}

-- the result, seen through `view`, is what can be found
abbrev pub Gives : {X Y : Type 0} → (X → Y) → Result X SyntaxFault → Option Y → Type 0
Gives view (Ok x) found = found ≡ Some (view x)
Gives view (Err e) found = Fails e found

-- the remaining tokens
abbrev Left : Type 0
Left = Bor (List Token)

-- the part that was read, and the tokens after it
abbrev Read : Type 0 → Type 0
Read X = Result (X × Left) SyntaxFault

-- the part that was read is the one that can be found, and the tokens after it remain
abbrev pub GivesPart : {X : Type 0} → Read X → Option (X × Kinds) → Type 0
GivesPart result found = Gives (λ x. (x.0, kinds x.1.now)) result found

-- no more tokens remain than there were
abbrev pub LeavesNoMore : {X : Type 0} → List Token → Read X → Type 0
LeavesNoMore tokens result = IfOk result (λ x. length x.1.now ≤ length tokens)

-- the parts so far with the part that was found, and what follows it
abbrev pub with_last_part : {X : Type 0} → List X → Option (X × Kinds) → Option (List X × Kinds)
with_last_part before found = found >>= λ part. Some (before ++ part.0 ∷ [], part.1)

-- the part that was read is appended to the parts so far, and the tokens after it remain
abbrev pub AddsPart : {X : Type 0} → List X → List X → Result Left SyntaxFault → Option (X × Kinds)
    → Type 0
AddsPart before parts result found =
    Gives (λ rest. (parts, kinds rest.now)) result (with_last_part before found)

-- the part at the front is read, and the tokens after it remain
pub record Reads {X : Type 0} (leading : Finder X) (tokens : List Token) (result : Read X)
    : Type 0 where
  pub found : GivesPart result (leading (kinds tokens))
  pub no_longer : LeavesNoMore tokens result

-- the token or two that come first are passed, if they come first
pub record Passes (after : Kinds → Option Kinds) (tokens : List Token) (result : Option Left)
    : Type 0 where
  pub rest : option_map (λ rest. kinds rest.now) result ≡ after (kinds tokens)
  pub shorter : IfSome result (λ rest. length rest.now < length tokens)

-- the token or two must come first: they are passed, or the read fails
pub record Expects (after : Kinds → Option Kinds) (tokens : List Token)
    (result : Result Left SyntaxFault) : Type 0 where
  pub rest : Gives (λ rest. kinds rest.now) result (after (kinds tokens))
  pub shorter : IfOk result (λ rest. length rest.now < length tokens)

abbrev pub part_at_end : {X : Type 0} → X × Kinds → Option X
part_at_end (x, []) = Some x
part_at_end (x, first ∷ rest) = None

-- what was found, if nothing follows it
abbrev pub whole_of : {X : Type 0} → Option (X × Kinds) → Option X
whole_of found = found >>= part_at_end

-- BadSyntax comes only if `P` holds; out of memory may always come; no other fault comes
abbrev pub IsFaultOnlyWhere : Type 0 → SyntaxFault → Type 0
IsFaultOnlyWhere P fault.TooDeep = ⊥
IsFaultOnlyWhere P (fault.Unsupported place) = ⊥
IsFaultOnlyWhere P fault.BadSyntax = P
IsFaultOnlyWhere P fault.Memory = Unit {0}

-- the tokens from place `first` up to, but not including, place `last` exist, and pass the checks
-- of depth and of words
pub record CanBeRead (tokens : List Token) (first last : ℕ) : Type 0 where
  pub order : first ≤ last
  pub within : last ≤ length tokens
  pub words : words_check (slice_range tokens first last) ≡ Ok tt

-- all tokens are read, as the only reading that the grammar has for them; BadSyntax only if it has
-- none
pub record ReadsAll {X : Type 0} (IsPart : Kinds → X → Kinds → Type 0) (tokens : Kinds)
    (result : Result X SyntaxFault) : Type 0 where
  pub found : IfOk result (λ x. IsPart tokens x [])
  pub only : IfOk result (λ x. (other : X) → IsPart tokens other [] → other ≡ x)
  pub errors : IfErr result (IsFaultOnlyWhere ((x : X) → ¬ IsPart tokens x []))
