-- A loop over the parts of a list.
use Rattle.std.proofs.Common.{◌≡◌, ℕ, zero, suc, ◌<◌, ◌≤◌, List, [], ◌∷◌, ◌++◌, length, Option, Some, None, refl, sym, ◌∙◌, ap, arith, append_assoc}
use Rattle.std.proofs.lemmas.List.{length-map}
use Rattle.hippo_values.specs.Options.{◌>>=◌}
use Rattle.hippo_lexer.specs.declared.kinds.Token.{Token}
use Rattle.hippo_lexer.specs.declared.kinds.TokenKind.{TokenKind}
use Rattle.hippo_lexer.specs.declared.faults.SyntaxFault.{SyntaxFault}
use Rattle.hippo_lexer.specs.declared.faults.SyntaxFault.TheVariants as fault
use Rattle.hippo_spj_reader.specs.Promises.{Fails, with_last_part}
use Rattle.hippo_spj_reader.specs.Front.{kinds}
use Rattle.hippo_spj_reader.specs.ListFinder.{further_parts, leading_list, with_front_parts}

pub append-nil : {X : Type 0} (xs : List X) → xs ++ [] ≡ xs
append-nil [] = refl
append-nil (x ∷ xs) = ap (λ ys. x ∷ ys) (append-nil xs)

pushed : {X : Type 0} (front : List X) (part : X) (found : Option (List X × List TokenKind)) →
    with_front_parts front (found >>= λ others. Some (part ∷ others.0, others.1)) ≡ with_front_parts (front ++ part ∷ []) found
pushed front part None = refl
pushed front part (Some others) =
    ap (λ (parts : List _). Some (parts, others.1)) (sym (append_assoc front (part ∷ []) others.0))

same_value : {X : Type 0} (one other : X) → Some one ≡ Some other → one ≡ other
same_value one other same = cc

module _ {X : Type 0} (leading_part : List TokenKind → Option (X × List TokenKind)) (after_part : List TokenKind → Option (List TokenKind)) where
  -- the parts so far and the rest of the list make up the whole list
  pub record Continues (whole : Option (List X × List TokenKind)) (front : List X) (rest : List Token) : Type 0 where
    pub fuel : ℕ
    pub enough : length rest ≤ fuel
    pub same : with_front_parts front (further_parts leading_part after_part fuel (kinds rest)) ≡ whole

  pub begins : (tokens rest : List Token) (first : X) (empty front : List X) →
      leading_part (kinds tokens) ≡ Some (first, kinds rest) → length rest ≤ length tokens → empty ≡ [] → front ≡ empty ++ first ∷ [] →
      Continues (leading_list leading_part after_part (kinds tokens)) front rest
  begins tokens rest first empty front found no_longer none pushed = record {
    fuel = length (kinds tokens);
    enough = omega (arith, length-map tokens (λ (token : Token). token.kind));
    same = rw (pushed, none, found) (elim (further_parts leading_part after_part (length (kinds tokens)) (kinds rest)) as (λ m. with_front_parts (first ∷ []) m ≡ m >>= λ others. Some (first ∷ others.0, others.1)) [ None ↦ refl | Some others ↦ refl ]);
  }

  found_then : (front : List X) (fuel : ℕ) (rest remaining left : List TokenKind) (part : X) → after_part rest ≡ Some remaining → leading_part remaining ≡ Some (part, left) →
      with_front_parts front (further_parts leading_part after_part (suc fuel) rest) ≡ with_front_parts (front ++ part ∷ []) (further_parts leading_part after_part fuel left)
  found_then front fuel rest remaining left part next found = rw (next, found) (pushed front part (further_parts leading_part after_part fuel left))

  goes_on_from : {whole : Option (List X × List TokenKind)} (front : List X) (fuel : ℕ) (rest left : List Token) (remaining : List TokenKind) (part : X) →
      length rest ≤ fuel → with_front_parts front (further_parts leading_part after_part fuel (kinds rest)) ≡ whole →
      after_part (kinds rest) ≡ Some remaining → leading_part remaining ≡ Some (part, kinds left) → length left < length rest →
      Continues whole (front ++ part ∷ []) left
  goes_on_from front zero rest left remaining part enough same next found shorter = absurd (omega arith)
  goes_on_from front (suc fuel) rest left remaining part enough same next found shorter = record {
    fuel = fuel;
    enough = omega arith;
    same = sym (found_then front fuel (kinds rest) remaining (kinds left) part next found) ∙ same;
  }

  pub goes_on : {whole : Option (List X × List TokenKind)} (front longer : List X) (rest remaining left : List Token) (part : X) →
      Continues whole front rest →
      Some (kinds remaining) ≡ after_part (kinds rest) → leading_part (kinds remaining) ≡ Some (part, kinds left) →
      length left ≤ length remaining → length remaining < length rest →
      longer ≡ front ++ part ∷ [] →
      Continues whole longer left
  goes_on front longer rest remaining left part so_far next found no_longer after_shorter pushed =
      rw pushed (goes_on_from front so_far.fuel rest left (kinds remaining) part so_far.enough so_far.same (sym next) found (omega arith))

  added_from : {whole : Option (List X × List TokenKind)} (front longer : List X) (rest remaining left : List Token) (found : Option (X × List TokenKind)) → leading_part (kinds remaining) ≡ found →
      Continues whole front rest → Some (kinds remaining) ≡ after_part (kinds rest) →
      with_last_part front found ≡ Some (longer, kinds left) →
      length left ≤ length remaining → length remaining < length rest →
      Continues whole longer left
  added_from front longer rest remaining left None is so_far next added no_longer shorter = absurd cc
  added_from front longer rest remaining left (Some part) is so_far next added no_longer shorter =
      let same = same_value _ _ added in
      goes_on front longer rest remaining left part.0 so_far next (is ∙ ap (λ (parts : List X × List TokenKind). Some (part.0, parts.1)) same) no_longer shorter (sym (ap (λ (parts : List X × List TokenKind). parts.0) same))

  -- the next part is added to the parts so far
  pub adds : {whole : Option (List X × List TokenKind)} (front longer : List X) (rest remaining left : List Token) →
      Continues whole front rest → Some (kinds remaining) ≡ after_part (kinds rest) →
      with_last_part front (leading_part (kinds remaining)) ≡ Some (longer, kinds left) →
      length left ≤ length remaining → length remaining < length rest →
      Continues whole longer left
  adds front longer rest remaining left so_far next added no_longer shorter =
      added_from front longer rest remaining left (leading_part (kinds remaining)) refl so_far next added no_longer shorter

  breaks_from : {whole : Option (List X × List TokenKind)} (front : List X) (fuel : ℕ) (rest remaining : List Token) →
      length rest ≤ fuel → length remaining < length rest → with_front_parts front (further_parts leading_part after_part fuel (kinds rest)) ≡ whole →
      after_part (kinds rest) ≡ Some (kinds remaining) → leading_part (kinds remaining) ≡ None → whole ≡ None
  breaks_from front zero rest remaining enough shorter same next found = absurd (omega arith)
  breaks_from front (suc fuel) rest remaining enough shorter same next found = sym same ∙ rw (next, found) refl

  -- if no part follows a separator, there is no list
  pub breaks : {Y : Type 0} {whole : Option (List X × List TokenKind)} (made : List X × List TokenKind → Option Y) (e : SyntaxFault) (front : List X) (rest remaining : List Token) →
      Continues whole front rest → Some (kinds remaining) ≡ after_part (kinds rest) → length remaining < length rest → Fails e (leading_part (kinds remaining)) → Fails e (whole >>= made)
  breaks made fault.TooDeep front rest remaining so_far next shorter found = found
  breaks made (fault.Unsupported place) front rest remaining so_far next shorter found = found
  breaks made fault.BadSyntax front rest remaining so_far next shorter found =
      rw (breaks_from front so_far.fuel rest remaining so_far.enough shorter so_far.same (sym next) found) refl
  breaks made fault.Memory front rest remaining so_far next shorter found = tt

-- what cannot be added was not found
pub no_part : {X : Type 0} (e : SyntaxFault) (front : List X) (found : Option (X × List TokenKind)) →
    Fails e (with_last_part front found) → Fails e found
no_part fault.TooDeep front found fails = fails
no_part (fault.Unsupported place) front found fails = fails
no_part fault.BadSyntax front None fails = refl
no_part fault.BadSyntax front (Some part) fails = absurd cc
no_part fault.Memory front found fails = tt
