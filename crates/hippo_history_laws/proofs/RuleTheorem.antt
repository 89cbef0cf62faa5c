-- The text of a rule reads back.
use Rattle.std.proofs.Common.{◌≡◌, ◌∙◌, ℕ, ◌<◌, pos, Bool, true, ◌&&◌, List, [], ◌∷◌, ◌++◌, length, map, Option, Some, None, refl, sym, ap, subst, arith, codes, decimal}
use Rattle.std.specs.Prelude.{nat_le}
use Rattle.std.specs.List.{list_all}
use Rattle.std.proofs.lemmas.Bool.{and_parts, leb-true}
use Rattle.std.proofs.lemmas.Int.{ints}
use Rattle.std.proofs.lemmas.List.{append-nil, append_assoc}
use Rattle.hippo_values.specs.Limits.{retention_limit}
use Rattle.hippo_values.specs.Moments.{is_signed_number}
use Rattle.hippo_values.specs.Names.{keywords, unsupported_words}
use Rattle.hippo_values.specs.Texts.{Txt}
use Rattle.hippo_values.specs.declared.names.Name.{Name}
use Rattle.hippo_values.specs.declared.keywords.Keyword.TheVariants.{KAllow, KOn, KRevoke, KTo, KWith}
use Rattle.hippo_lexer.specs.declared.kinds.Symbol.TheVariants.{Comma, LeftParen, RightParen}
use Rattle.hippo_lexer.specs.declared.kinds.TokenKind.TheVariants.{Word, Keyword, Number, Symbol}
use Rattle.hippo_lexer.proofs.NumberLemmas.{signed-fits}
use Rattle.hippo_model.specs.declared.entry.Act.TheVariants as acts
use Rattle.hippo_model.specs.declared.schema.Column.{Column}
use Rattle.hippo_stmt_ast.specs.declared.statement.Stmt.TheVariants as stmt
use Rattle.hippo_model.specs.declared.wanted.Wanted.TheVariants.{Ready}
use Rattle.hippo_model.specs.Keepable.{is_folded_name, item_is_keepable}
use Rattle.hippo_model.specs.Terms.{Place}
use Rattle.hippo_model.specs.Validity.{days_fit}
use Rattle.hippo_spj_reader.specs.Front.{Kinds}
use Rattle.hippo_spj_reader.specs.ListGrammar.{IsName}
use Rattle.hippo_spj_reader.specs.ListGrammar as lists
use Rattle.hippo_stmt_reader.specs.StatementGrammar.{AreNames, IsWith, IsRetention, no_item, with_item, no_retention, retain, allow, revoke}
use Rattle.hippo_report.specs.Cells.{comma}
use Rattle.hippo_history_statements.specs.Telling.{name_at, names_text, rule_text, with_text, retention_text, allow_text}
use Rattle.hippo_history_laws.specs.TellingLaws.{ReadsAs, RevokesReadBack, AllowsReadBack}
use Rattle.hippo_history_laws.proofs.SayingLemmas.{Says, EndsWord, says-blank, says-word, says-name, says-name_first, says-plain_word, says-nothing}
use Rattle.hippo_history_laws.proofs.SpellingLemmas.{says-number_first, says-comma, says-opening, says-closing, allow-word, on-word, revoke-word, to-word, with-word}
use Rattle.hippo_history_laws.proofs.ListLemmas.{SaysList, later_said, says-separated_text, list-read}
use Rattle.hippo_history_laws.proofs.FitLemmas.{is_calm, front-fit}
use Rattle.hippo_history_laws.proofs.NamePlaces.{places_again, names_folded}
use Rattle.hippo_history_laws.proofs.ReadingTheorem.{console-reads, three-names}

-- names of columns, one after another
module _ (columns : List Column) where
  abbrev pub name_said : Place → Kinds
  name_said place = Word (name_at columns place) ∷ []

  abbrev pub is_named : Place → Bool
  is_named place = is_folded_name (name_at columns place)

  abbrev pub names_later : List Place → Kinds → Kinds
  names_later places said =
      later_said (name_at columns) name_said (name_at columns) is_named EndsWord comma
      (Symbol Comma) places said

  pub names-say : SaysList (name_at columns) name_said (name_at columns) is_named EndsWord comma
      (Symbol Comma)
  names-say place places rest said fit ends more =
      says-separated_text (name_at columns) name_said (name_at columns) is_named EndsWord comma
      (Symbol Comma)
      (λ part remaining said is ends more. says-name (name_at columns part) remaining said is ends more)
      (λ remaining said more. says-comma (32 ∷ remaining) said (says-blank remaining said more))
      (λ remaining. refl)
      place places rest said fit ends more

  pub names-read : (place : Place) (places : List Place) (rest : Kinds)
      → AreNames (name_said place ++ names_later places rest)
      (map (name_at columns) (place ∷ places)) rest
  names-read place places rest =
      list-read (name_at columns) name_said (name_at columns) is_named EndsWord comma
      (Symbol Comma) IsName (λ part remaining. lists.name) place places rest

  pub names-calm : (places : List Place) (said : Kinds) → list_all is_calm said ≡ true
      → list_all is_calm (names_later places said) ≡ true
  names-calm [] said calm = calm
  names-calm (place ∷ places) said calm = names-calm places said calm

  -- a rule, and what follows it
  rule-remaining : (purpose recipient table : Name) (places : List Place) (rest : Txt)
      → rule_text columns purpose recipient table places ++ rest
      ≡ purpose ++ (codes
      " TO " ++ (recipient
      ++ (codes " ON "
      ++ (table ++ (codes " (" ++ (names_text columns places ++ (codes ")" ++ rest)))))))
  rule-remaining purpose recipient table places rest =
      append_assoc purpose _ rest ∙ ap (λ (t : Txt). purpose ++ (codes " TO " ++ t))
      (append_assoc recipient _ rest ∙ ap (λ (t : Txt). recipient ++ (codes " ON " ++ t))
      (append_assoc table _ rest ∙ ap (λ (t : Txt). table ++ (codes " (" ++ t))
      (append_assoc (names_text columns places) (codes ")") rest)))

  abbrev pub rule_front : Name → Name → Name → Kinds
  rule_front purpose recipient table =
      Word purpose ∷ Keyword KTo ∷ Word recipient ∷ Keyword KOn ∷ Word table ∷ Symbol LeftParen ∷ []

  pub rule-says : (purpose recipient table : Name) (place : Place) (places : List Place)
      (rest : Txt) (said : Kinds)
      → (is_folded_name purpose && is_folded_name recipient && is_folded_name table) ≡ true →
      list_all is_named (place ∷ places) ≡ true → Says rest said →
      Says (rule_text columns purpose recipient table (place ∷ places) ++ rest)
      (rule_front purpose recipient
      table ++ (name_said place ++ names_later places (Symbol RightParen ∷ said)))
  rule-says purpose recipient table place places rest said are fit more =
      let named = three-names purpose recipient table are in
      let inside : Txt = names_text columns (place ∷ places) ++ (codes ")" ++ rest) in
      let tail : Kinds = name_said place ++ names_later places (Symbol RightParen ∷ said) in
      subst (λ (t : Txt). Says t (rule_front purpose recipient table ++ tail))
      (sym (rule-remaining purpose recipient table (place ∷ places) rest))
      (says-name_first purpose
      (codes "TO " ++ (recipient ++ (codes " ON " ++ (table ++ (codes " (" ++ inside))))) _ named.0
      (says-word (codes "TO") (recipient ++ (codes " ON " ++ (table ++ (codes " (" ++ inside)))) KTo
      _ to-word
      (says-name_first recipient (codes "ON " ++ (table ++ (codes " (" ++ inside))) _ named.1
      (says-word (codes "ON") (table ++ (codes " (" ++ inside)) KOn _ on-word
      (says-name_first table (codes "(" ++ inside) _ named.2
      (says-opening inside tail
      (names-say place places (codes ")" ++ rest) (Symbol RightParen ∷ said) fit refl
      (says-closing rest said more))))))))

pub revoke-reads : (columns : List Column) (purpose recipient table : Name) (places : List Place)
    → 0 < length places
    → (is_folded_name purpose && is_folded_name recipient && is_folded_name table) ≡ true
    → list_all (is_named columns) places ≡ true
    → ReadsAs (codes "REVOKE " ++ rule_text columns purpose recipient table places)
    (stmt.Revoke purpose recipient table (map (name_at columns) places))
revoke-reads columns purpose recipient table [] some are fit = absurd (omega (arith, some))
revoke-reads columns purpose recipient table (place ∷ places) some are fit =
    let rule : Txt = rule_text columns purpose recipient table (place ∷ places) in
    let front : Kinds = Keyword KRevoke ∷ rule_front columns purpose recipient table in
    let tail : Kinds =
    name_said columns place ++ names_later columns places (Symbol RightParen ∷ []) in
    let says : Says (codes "REVOKE " ++ rule) (front ++ tail) =
    says-word (codes "REVOKE") rule KRevoke _ revoke-word
    (subst (λ (t : Txt). Says t (rule_front columns purpose recipient table ++ tail))
    (append-nil rule)
    (rule-says columns purpose recipient table place places [] [] are fit says-nothing)) in
    let calm : list_all is_calm tail ≡ true =
    names-calm columns places (Symbol RightParen ∷ []) refl in
    console-reads _ (front ++ tail) _ says
    (front-fit front tail 1 refl (omega arith) refl refl calm)
    (revoke (names-read columns place places (Symbol RightParen ∷ [])))

-- the text after a rule that allows
abbrev retention_said : Option ℕ → Kinds
retention_said None = []
retention_said (Some days) = Word (codes "retain") ∷ Number (pos days) ∷ Word (codes "days") ∷ []

abbrev with_said : Option Name → Kinds → Kinds
with_said None said = said
with_said (Some item) said = Keyword KWith ∷ Word item ∷ said

days-signed : (days : ℕ) → days_fit (Some days) ≡ true → is_signed_number (pos days) ≡ true
days-signed days fit =
    let parts = and_parts (nat_le 1 days) (nat_le days retention_limit) fit in
    let small = leb-true days retention_limit parts.1 in
    signed-fits (pos days) (grind (arith, ints))

retention-says : (days : Option ℕ) → days_fit days ≡ true
    → Says (retention_text days) (retention_said days)
unfolding keywords unsupported_words
retention-says None fit = says-nothing
retention-says (Some days) fit =
    says-blank (codes "RETAIN " ++ (decimal days ++ codes " DAYS")) _
    (says-plain_word (codes "RETAIN") (codes " " ++ (decimal days ++ codes " DAYS")) _ refl refl
    (says-blank (decimal days ++ codes " DAYS") _
    (says-number_first (pos days) (codes "DAYS") _ (days-signed days fit)
    (says-plain_word (codes "DAYS") [] [] refl refl says-nothing))))

ends-retention : (days : Option ℕ) → EndsWord (retention_text days)
ends-retention None = refl
ends-retention (Some days) = refl

with-says : (item : Option Name) (rest : Txt) (said : Kinds) → item_is_keepable item ≡ true
    → EndsWord rest → Says rest said → Says (with_text item ++ rest) (with_said item said)
with-says None rest said fit ends more = more
with-says (Some item) rest said fit ends more =
    says-blank (codes "WITH " ++ (item ++ rest)) _
    (says-word (codes "WITH") (item ++ rest) KWith _ with-word
    (says-name item rest said fit ends more))

with-read : (item : Option Name) (rest : Kinds) → (item ≡ None → IsWith rest None rest)
    → IsWith (with_said item rest) item rest
with-read None rest none = none refl
with-read (Some item) rest none = with_item

retention-read : (days : Option ℕ) → days_fit days ≡ true
    → IsRetention (retention_said days) days []
retention-read None fit = no_retention
retention-read (Some days) fit =
    let parts = and_parts (nat_le 1 days) (nat_le days retention_limit) fit in
    retain (leb-true 1 days parts.0) (leb-true days retention_limit parts.1)

remaining-calm : (item : Option Name) (days : Option ℕ)
    → list_all is_calm (Symbol RightParen ∷ with_said item (retention_said days)) ≡ true
remaining-calm None None = refl
remaining-calm None (Some days) = refl
remaining-calm (Some item) None = refl
remaining-calm (Some item) (Some days) = refl

pub allow-reads : (columns : List Column) (purpose recipient table : Name) (places : List Place)
    (item : Option Name) (days : Option ℕ) → 0 < length places
    → (is_folded_name purpose && is_folded_name recipient && is_folded_name table) ≡ true
    → list_all (is_named columns) places ≡ true → item_is_keepable item ≡ true → days_fit days
    ≡ true
    → ReadsAs (allow_text columns purpose recipient table places item days)
    (stmt.Allow purpose recipient table (map (name_at columns) places) item days)
allow-reads columns purpose recipient table [] item days some are fit item_fits days_fits =
    absurd (omega (arith, some))
allow-reads columns purpose recipient table (place ∷ places) item days some are fit item_fits
    days_fits =
    let rule : Txt = rule_text columns purpose recipient table (place ∷ places) in
    let remaining : Txt = with_text item ++ retention_text days in
    let after_said : Kinds = with_said item (retention_said days) in
    let front : Kinds = Keyword KAllow ∷ rule_front columns purpose recipient table in
    let tail : Kinds =
    name_said columns place ++ names_later columns places (Symbol RightParen ∷ after_said) in
    let says_after : Says remaining after_said =
    with-says item (retention_text days) (retention_said days) item_fits (ends-retention days)
    (retention-says days days_fits) in
    let says : Says (allow_text columns purpose recipient table (place ∷ places) item days)
    (front ++ tail) =
    says-word (codes "ALLOW") (rule ++ remaining) KAllow _ allow-word
    (rule-says columns purpose recipient table place places remaining after_said are fit
    says_after) in
    let calm : list_all is_calm tail ≡ true =
    names-calm columns places (Symbol RightParen ∷ after_said) (remaining-calm item days) in
    console-reads _ (front ++ tail) _ says
    (front-fit front tail 1 refl (omega arith) refl refl calm)
    (allow (names-read columns place places (Symbol RightParen ∷ after_said))
    (with-read item (retention_said days) (λ none. no_item)) (retention-read days days_fits))

abbrev pub revokes_read_back : RevokesReadBack
revokes_read_back history schema purpose recipient table places rule names =
    let fit = names_folded schema.columns places rule.columns_named rule.within in
    let again = places_again schema places rule.differ rule.within in
    record {
      statement = stmt.Revoke purpose recipient table (map (name_at schema.columns) places);
      reads = revoke-reads schema.columns purpose recipient table places rule.some names fit;
      wanted = Ready (acts.Revoke purpose recipient table places);
      wants = rw rule.known
          (ap (λ (found : List Place). Some (Ready (acts.Revoke purpose recipient table found)))
          again);
      comes = refl;
    }

abbrev pub allows_read_back : AllowsReadBack
allows_read_back history schema purpose recipient table places item days rule names item_fits
    days_fits =
    let fit = names_folded schema.columns places rule.columns_named rule.within in
    let again = places_again schema places rule.differ rule.within in
    record {
      statement =
          stmt.Allow purpose recipient table (map (name_at schema.columns) places) item days;
      reads = allow-reads schema.columns purpose recipient table places item days rule.some names
          fit item_fits days_fits;
      wanted = Ready (acts.Allow purpose recipient table places item days);
      wants = rw rule.known
          (ap (λ (found : List Place). Some
          (Ready (acts.Allow purpose recipient table found item days))) again);
      comes = refl;
    }
