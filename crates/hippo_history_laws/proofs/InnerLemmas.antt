-- Texts within which no line ends.
use Rattle.std.proofs.Common.{◌≡◌, ◌∙◌, ℕ, zero, suc, ◌+◌, ◌/◌, ◌%◌, ◌<◌, ◌^◌, Bool, true, false, not, ◌&&◌, List, [], ◌∷◌, ◌++◌, flat_map, get_or, length, refl, sym, subst, inl, inr, arith, ℤ, pos, negsuc, codes, decimal}
use Rattle.std.specs.Prelude.{◌==◌, IsUtf8, int_le, nat_le, nat_lt}
use Rattle.std.specs.Fmt.{signed_decimal}
use Rattle.std.specs.List.{list_all}
use Rattle.std.specs.Char.{is_ascii_digit}
use Rattle.std.proofs.lemmas.Bool.{and_from, and_parts, both_ways, cases_Bool, eqb-true, lt-ltb, ltb-true, ne_eqb, not_from_false}
use Rattle.std.proofs.lemmas.Int.{ints}
use Rattle.std.proofs.lemmas.List.{append_assoc}
use Rattle.std.proofs.lemmas.List.Folds.{list_all-append}
use Rattle.std.proofs.lemmas.Str.{IsUtf8-append, IsUtf8-from_ascii, IsUtf8-from_is_utf8}
use Rattle.hippo_values_text.specs.Dates.{date_text, day_of_month, day_text, month_of, year_of}
use Rattle.hippo_values.specs.Limits.{text_limit}
use Rattle.hippo_values.specs.Moments.{IsDayNumber, first_day, is_day, is_signed_number, last_day}
use Rattle.hippo_values.specs.Names.{is_name, is_word_byte}
use Rattle.hippo_values_text.specs.Quoting.{doubled_quotes, is_quote}
use Rattle.hippo_values.specs.Texts.{Txt, is_plain}
use Rattle.hippo_values.specs.declared.names.Name.{Name}
use Rattle.hippo_values.specs.declared.values.Value.{Value}
use Rattle.hippo_values.specs.declared.values.Value.TheVariants as values
use Rattle.hippo_values_text.proofs.DateTextLemmas.{IsAscii-date_text, date_text-of_day}
use Rattle.hippo_lexer.proofs.FrontLemmas.{small_digit, small_word_byte}
use Rattle.hippo_lexer.proofs.NumberLemmas.{fits-signed}
use Rattle.hippo_model.specs.Keepable.{is_folded_name, value_is_keepable}
use Rattle.hippo_report.specs.Cells.{separated_text}
use Rattle.hippo_typing_laws.proofs.TokenTheorem.{a_quote, after_ascii, before_ascii}
use Rattle.hippo_history_statements.specs.Telling.{literal_text}
use Rattle.hippo_history_laws.proofs.SpellingLemmas.{decimal_digits}

-- neither a line feed nor a carriage return
abbrev pub is_inner : ℕ → Bool
is_inner byte = not (byte == 10) && not (byte == 13)

-- a text of such bytes that is UTF-8
pub record AreInner (text : Txt) : Type 0 where
  pub all : list_all is_inner text ≡ true
  pub utf8 : IsUtf8 text

-- also an ASCII byte
abbrev pub is_simple : ℕ → Bool
is_simple byte = is_inner byte && nat_lt byte 128

simple_inner : (text : Txt) → list_all is_simple text ≡ true → list_all is_inner text ≡ true
simple_inner [] simple = refl
simple_inner (byte ∷ text) simple =
    let parts = and_parts (is_simple byte) (list_all is_simple text) simple in
    let first = and_parts (is_inner byte) (nat_lt byte 128) parts.0 in
    and_from _ _ first.0 (simple_inner text parts.1)

simple_small : (text : Txt) → list_all is_simple text ≡ true → (i : ℕ) → get_or text i 0 < 128
simple_small [] simple i = omega arith
simple_small (byte ∷ text) simple zero =
    let parts = and_parts (is_simple byte) (list_all is_simple text) simple in
    ltb-true byte 128 (and_parts (is_inner byte) (nat_lt byte 128) parts.0).1
simple_small (byte ∷ text) simple (suc i) =
    simple_small text (and_parts (is_simple byte) (list_all is_simple text) simple).1 i

pub said : {text : Txt} → list_all is_simple text ≡ true → AreInner text
said {text} simple = record {
  all = simple_inner text simple;
  utf8 = IsUtf8-from_ascii text (simple_small text simple);
}

pub both : (first second : Txt) → AreInner first → AreInner second → AreInner (first ++ second)
both first second one other = record {
  all = list_all-append is_inner first second ∙ and_from _ _ one.all other.all;
  utf8 = IsUtf8-append first second one.utf8 other.utf8;
}

inner_from : (byte : ℕ) → (byte ≡ 10 → ⊥) → (byte ≡ 13 → ⊥) → is_inner byte ≡ true
inner_from byte feed back =
    and_from _ _ (not_from_false _ (ne_eqb byte 10 feed)) (not_from_false _ (ne_eqb byte 13 back))

-- bytes that pass a test that a line feed and a carriage return fail
module _ (test : ℕ → Bool) (feed : test 10 ≡ false) (back : test 13 ≡ false) where
  inner_by : (byte : ℕ) → test byte ≡ true → is_inner byte ≡ true
  inner_by byte is = inner_from byte
      (λ same. both_ways (test 10) feed (subst (λ (b : ℕ). test b ≡ true) same is))
      (λ same. both_ways (test 13) back (subst (λ (b : ℕ). test b ≡ true) same is))

  pub all_inner : (text : Txt) → list_all test text ≡ true → list_all is_inner text ≡ true
  all_inner [] passed = refl
  all_inner (byte ∷ text) passed =
      let parts = and_parts (test byte) (list_all test text) passed in
      and_from _ _ (inner_by byte parts.0) (all_inner text parts.1)

  all_simple : ((byte : ℕ) → test byte ≡ true → byte < 128) → (text : Txt)
      → list_all test text ≡ true → list_all is_simple text ≡ true
  all_simple small [] passed = refl
  all_simple small (byte ∷ text) passed =
      let parts = and_parts (test byte) (list_all test text) passed in
      and_from _ _ (and_from _ _ (inner_by byte parts.0) (lt-ltb byte 128 (small byte parts.0)))
      (all_simple small text parts.1)

  pub inner-all : ((byte : ℕ) → test byte ≡ true → byte < 128) → (text : Txt)
      → list_all test text ≡ true → AreInner text
  inner-all small text passed = said (all_simple small text passed)

pub inner-name : (name : Name) → is_folded_name name ≡ true → AreInner name
inner-name name is =
    let form = (and_parts _ _ (and_parts _ _ (and_parts (is_name name) _ is).0).0).0 in
    inner-all is_word_byte refl refl small_word_byte name
    (and_parts _ (list_all is_word_byte name) form).1

inner_doubled : (text : Txt) → list_all is_inner text ≡ true → list_all is_inner (doubled_quotes text)
    ≡ true
inner_doubled [] inner = refl
inner_doubled (byte ∷ text) inner =
    let parts = and_parts (is_inner byte) (list_all is_inner text) inner in
    let later = inner_doubled text parts.1 in
    elim (cases_Bool (is_quote byte)) [
      | inl is ↦ rw is later
      | inr is ↦ rw is (and_from _ _ parts.0 later)
    ]

doubled_utf8 : (front text : Txt) → IsUtf8 (front ++ text) → IsUtf8 (front ++ doubled_quotes text)
doubled_utf8 front [] utf8 = utf8
doubled_utf8 front (byte ∷ text) utf8 =
    elim (cases_Bool (is_quote byte)) [
      | inl is ↦
          let same : byte ≡ 39 = eqb-true byte 39 is in
          let quoted_text : IsUtf8 (front ++ 39 ∷ text) =
          subst (λ (b : ℕ). IsUtf8 (front ++ b ∷ text)) same utf8 in
          let first = before_ascii front 39 text (omega arith) quoted_text in
          let rest = doubled_utf8 [] text (after_ascii 39 text (omega arith) first.1) in
          let remaining : IsUtf8 (39 ∷ 39 ∷ doubled_quotes text) =
          IsUtf8-append (39 ∷ []) (39 ∷ doubled_quotes text) a_quote
          (IsUtf8-append (39 ∷ []) (doubled_quotes text) a_quote rest) in
          rw is (IsUtf8-append front (39 ∷ 39 ∷ doubled_quotes text) first.0 remaining)
      | inr is ↦
          let longer : IsUtf8 ((front ++ byte ∷ []) ++ text) =
          subst (λ (bytes : Txt). IsUtf8 bytes) (sym (append_assoc front (byte ∷ []) text)) utf8 in
          let doubled_rest = doubled_utf8 (front ++ byte ∷ []) text longer in
          rw is
          (subst (λ (bytes : Txt). IsUtf8 bytes) (append_assoc front (byte ∷ []) (doubled_quotes text))
          doubled_rest)
    ]

pub inner-decimal : (n : ℕ) → n < 2 ^ 64 → AreInner (decimal n)
inner-decimal n small =
    inner-all is_ascii_digit refl refl small_digit (decimal n) (decimal_digits n small).1

pub inner-number : (number : ℤ) → is_signed_number number ≡ true → AreInner (signed_decimal number)
inner-number (pos n) is =
    let fits = fits-signed (pos n) is in inner-decimal n (omega (arith, ints, fits.0, fits.1))
inner-number (negsuc n) is =
    let fits = fits-signed (negsuc n) is in
    both (45 ∷ []) (decimal (suc n)) (said refl)
    (inner-decimal (suc n) (omega (arith, ints, fits.0, fits.1)))

pub inner-digit : (n : ℕ) → is_inner (48 + n) ≡ true
inner-digit n =
    inner_from (48 + n) (λ same. absurd (omega (arith, same)))
    (λ same. absurd (omega (arith, same)))

inner_date : (y m d : ℕ) → list_all is_inner (date_text y m d) ≡ true
inner_date y m d =
    rw (
      inner-digit (y / 100 / 10),
      inner-digit (y / 100 % 10),
      inner-digit (y % 100 / 10),
      inner-digit (y % 100 % 10),
      inner-digit (m / 10),
      inner-digit (m % 10),
      inner-digit (d / 10),
      inner-digit (d % 10),
    ) refl

inner_day : (day : ℤ) → list_all is_inner (day_text day) ≡ true
unfolding day_text
inner_day day = inner_date (year_of day) (month_of day) (day_of_month day)

pub inner-day : (day : ℤ) → IsDayNumber day → AreInner (day_text day)
inner-day day within =
    let date = date_text-of_day (day_text day) day (within, refl) in
    record {
      all = inner_day day;
      utf8 = IsUtf8-from_ascii (day_text day)
          (IsAscii-date_text (day_text day) _ _ _ date.0 date.1);
    }

day-fits : (day : ℤ) → is_day day ≡ true → IsDayNumber day
day-fits day fits =
    let parts = and_parts (int_le first_day day) (int_le day last_day) fits in grind (arith, ints)

-- a value that is not a text with a control character
abbrev pub is_plain_value : Value → Bool
is_plain_value (values.Text text) = list_all is_plain text
is_plain_value value = true

pub inner-literal : (value : Value) → value_is_keepable value ≡ true → is_plain_value value ≡ true
    → AreInner (literal_text value)
inner-literal values.Null kept plain = said refl
inner-literal (values.Int number) kept plain = inner-number number kept
inner-literal (values.Text text) kept plain =
    let inner = all_inner is_plain refl refl text plain in
    let utf8 = IsUtf8-from_is_utf8 text (and_parts (nat_le (length text) text_limit) _ kept).1 in
    let within : AreInner (doubled_quotes text) =
    record { all = inner_doubled text inner; utf8 = doubled_utf8 [] text utf8 } in
    both (39 ∷ []) (doubled_quotes text ++ 39 ∷ []) (said refl)
    (both (doubled_quotes text) (39 ∷ []) within (said refl))
inner-literal (values.Day day) kept plain =
    both (codes "DATE '") _ (said refl)
    (both (day_text day) (codes "'") (inner-day day (day-fits day kept)) (said refl))

-- joined members
module _ {A : Type 0} (text : A → Txt) (separator : Txt) (between : AreInner separator) where
  later-inner : (fits : A → Bool) → ((member : A) → fits member ≡ true → AreInner (text member))
      → (members : List A) → list_all fits members ≡ true
      → AreInner (flat_map (λ (member : A). separator ++ text member) members)
  later-inner fits each [] all = said refl
  later-inner fits each (member ∷ members) all =
      let parts = and_parts (fits member) (list_all fits members) all in
      both (separator ++ text member) _ (both separator (text member) between (each member parts.0))
      (later-inner fits each members parts.1)

  pub inner-separated_text : (fits : A → Bool)
      → ((member : A) → fits member ≡ true → AreInner (text member))
      → (members : List A) → list_all fits members ≡ true → AreInner (separated_text text separator members)
  inner-separated_text fits each [] all = said refl
  inner-separated_text fits each (member ∷ members) all =
      let parts = and_parts (fits member) (list_all fits members) all in
      both (text member) _ (each member parts.0) (later-inner fits each members parts.1)
