-- The tokens of lists whose members are joined.
use Rattle.std.proofs.Common.{◌≡◌, ◌∙◌, Bool, true, List, [], ◌∷◌, ◌++◌, map, flat_map, sym, subst}
use Rattle.std.specs.List.{list_all}
use Rattle.std.proofs.lemmas.Bool.{and_parts}
use Rattle.std.proofs.lemmas.List.{append_assoc}
use Rattle.hippo_values.specs.Texts.{Txt}
use Rattle.hippo_lexer.specs.declared.kinds.TokenKind.{TokenKind}
use Rattle.hippo_report.specs.Cells.{separated_text}
use Rattle.hippo_spj_reader.specs.Front.{Kinds}
use Rattle.hippo_spj_reader.specs.ListGrammar.{IsListOf, last_part, more_parts}
use Rattle.hippo_history_laws.proofs.SayingLemmas.{Says}

-- How members are spelled, their tokens and meaning, and the separator between them.
module _ {A X : Type 0} (text : A → Txt) (said_by : A → Kinds) (meant : A → X) (fits : A → Bool)
    (Ends : Txt → Type 0) (separator : Txt) (kind : TokenKind) where
  abbrev pub SaysPart : Type 0
  SaysPart = (part : A) (rest : Txt) (said : Kinds) → fits part ≡ true → Ends rest → Says rest said
      → Says (text part ++ rest) (said_by part ++ said)

  abbrev pub SaysSeparator : Type 0
  SaysSeparator =
      (rest : Txt) (said : Kinds) → Says rest said → Says (separator ++ rest) (kind ∷ said)

  -- the tokens of members that follow others
  abbrev pub later_said : List A → Kinds → Kinds
  later_said [] said = said
  later_said (part ∷ parts) said = kind ∷ (said_by part ++ later_said parts said)

  abbrev later_text : List A → Txt
  later_text parts = flat_map (λ member. separator ++ text member) parts

  regrouped : (part : A) (parts : List A) (rest : Txt) → later_text (part ∷ parts) ++ rest
      ≡ separator ++ (text part ++ (later_text parts ++ rest))
  regrouped part parts rest =
      append_assoc (separator ++ text part) (later_text parts) rest
      ∙ append_assoc separator (text part) (later_text parts ++ rest)

  -- the tokens of members, one after another
  abbrev pub SaysList : Type 0
  SaysList = (part : A) (parts : List A) (rest : Txt) (said : Kinds)
      → list_all fits (part ∷ parts) ≡ true → Ends rest → Says rest said
      → Says (separated_text text separator (part ∷ parts) ++ rest)
      (said_by part ++ later_said parts said)

  module _ (says-part : SaysPart) (says-separator : SaysSeparator)
      (ends-separator : (rest : Txt) → Ends (separator ++ rest)) where
    ends-later : (parts : List A) (rest : Txt) → Ends rest → Ends (later_text parts ++ rest)
    ends-later [] rest ends = ends
    ends-later (part ∷ parts) rest ends =
        subst Ends (sym (regrouped part parts rest))
        (ends-separator (text part ++ (later_text parts ++ rest)))

    says-later : (parts : List A) (rest : Txt) (said : Kinds) → list_all fits parts ≡ true
        → Ends rest → Says rest said → Says (later_text parts ++ rest) (later_said parts said)
    says-later [] rest said fit ends more = more
    says-later (part ∷ parts) rest said fit ends more =
        let each = and_parts (fits part) (list_all fits parts) fit in
        let later = says-later parts rest said each.1 ends more in
        let first =
        says-part part (later_text parts ++ rest) (later_said parts said) each.0
        (ends-later parts rest ends) later in
        subst (λ (t : Txt). Says t (later_said (part ∷ parts) said))
        (sym (regrouped part parts rest))
        (says-separator (text part ++ (later_text parts ++ rest))
        (said_by part ++ later_said parts said) first)

    pub says-separated_text : SaysList
    says-separated_text part parts rest said fit ends more =
        let each = and_parts (fits part) (list_all fits parts) fit in
        let later = says-later parts rest said each.1 ends more in
        subst (λ (t : Txt). Says t (said_by part ++ later_said parts said))
        (sym (append_assoc (text part) (later_text parts) rest))
        (says-part part (later_text parts ++ rest) (later_said parts said) each.0
        (ends-later parts rest ends) later)

  -- the list that the grammar finds
  pub list-read : (IsPart : Kinds → X → Kinds → Type 0)
      → ((part : A) (rest : Kinds) → IsPart (said_by part ++ rest) (meant part) rest)
      → (part : A) (parts : List A) (rest : Kinds) →
      IsListOf IsPart kind (said_by part ++ later_said parts rest) (map meant (part ∷ parts)) rest
  list-read IsPart is part [] rest = last_part (is part rest)
  list-read IsPart is part (next ∷ parts) rest =
      more_parts (is part (kind ∷ (said_by next ++ later_said parts rest)))
      (list-read IsPart is next parts rest)
