-- The tokens of numbers, days and literals, and of the words of statements.
use Rattle.std.proofs.Common.{◌≡◌, ◌∙◌, ℕ, suc, ◌+◌, ◌/◌, ◌%◌, ◌<◌, ◌^◌, int_le, true, false, List, [], ◌∷◌, ◌++◌, refl, sym, ap, arith, ℤ, pos, negsuc, neg_ℤ, codes, decimal}
use Rattle.std.specs.Fmt.{signed_decimal}
use Rattle.std.specs.Char.{is_ascii_digit}
use Rattle.std.specs.List.{list_all}
use Rattle.std.specs.Str.Parse.{AllDigits}
use Rattle.std.proofs.lemmas.Bool.{and_from, and_parts, ne_eqb}
use Rattle.std.proofs.lemmas.Bool.Decides.{nat_tests}
use Rattle.std.proofs.lemmas.Fmt.{decimal_is_IsNumeral}
use Rattle.std.proofs.lemmas.Int.{ints}
use Rattle.std.proofs.lemmas.Str.Parse.{digit_at}
use Rattle.hippo_values_text.specs.Dates.{year_of, month_of, day_of_month, two_digits, date_text, day_text}
use Rattle.hippo_values.specs.Moments.{first_day, last_day, is_day, is_signed_number, IsSignedNumber, IsDayNumber}
use Rattle.hippo_values.specs.Names.{keywords}
use Rattle.hippo_values_text.specs.Quoting.{is_quote, doubled_quotes, quoted_text}
use Rattle.hippo_values.specs.Texts.{Txt}
use Rattle.hippo_values.specs.declared.values.Value.{Value}
use Rattle.hippo_values.specs.declared.values.Value.TheVariants as values
use Rattle.hippo_values.specs.declared.keywords.Keyword.TheVariants.{KAllow, KAnd, KAuthorize, KChoice, KCreate, KDeauthorize, KDelete, KFor, KFrom, KIn, KInsert, KInteger, KInto, KIs, KItem, KKey, KNo, KNot, KNull, KOn, KOpt, KOut, KPrimary, KPurpose, KRecipient, KRevoke, KSet, KSubject, KTable, KText, KTo, KUpdate, KValues, KWhere, KWith, KYes}
use Rattle.hippo_lexer.specs.Grammar.{IsNumber, AreDigits, OpensDay, plain, negative, a_number, a_day}
use Rattle.hippo_lexer.specs.Spelling.{begins_with, sign_table, sign_of}
use Rattle.hippo_lexer.specs.declared.kinds.Symbol.TheVariants.{Comma, Equal, LeftParen, RightParen}
use Rattle.hippo_lexer.specs.declared.kinds.TokenKind.TheVariants.{Keyword, Number, Quoted, Day, Symbol}
use Rattle.hippo_lexer.proofs.NumberLemmas.{fits-signed}
use Rattle.hippo_model.specs.Keepable.{value_is_keepable}
use Rattle.hippo_spj_reader.specs.ConditionGrammar.{IsLiteral}
use Rattle.hippo_spj_reader.specs.ConditionGrammar as literals
use Rattle.hippo_spj_reader.specs.Front.{Kinds}
use Rattle.hippo_history_statements.specs.Telling.{literal_text}
use Rattle.hippo_history_laws.proofs.SayingLemmas.{Says, EndsWord, Spells, says-token, says-keyword, says-quoted_text, says-sign, says-blank}

digits_pass : (digits : List ℕ) → AllDigits 10 digits → list_all is_ascii_digit digits ≡ true
digits_pass [] are = refl
digits_pass (digit ∷ digits) are =
    let range = digit_at (digit ∷ digits) 0 are (omega arith) in
    let first : is_ascii_digit digit ≡ true = grind (arith, nat_tests) in
    and_from _ _ first (digits_pass digits are.1)

pub decimal_digits : (n : ℕ) → n < 2 ^ 64 → AreDigits (decimal n)
decimal_digits n small = let numeral = (decimal_is_IsNumeral n small).0 in
    (numeral.0, digits_pass (decimal n) numeral.1)

written_number : (number : ℤ) → IsSignedNumber number → IsNumber (signed_decimal number) number
written_number (pos n) fits =
    let small : n < 2 ^ 64 = omega (arith, ints, fits.0, fits.1) in
    plain (decimal n) (pos n) (decimal_digits n small)
    (ap pos (sym (decimal_is_IsNumeral n small).1))
written_number (negsuc n) fits =
    let small : suc n < 2 ^ 64 = omega (arith, ints, fits.0, fits.1) in
    negative (45 ∷ decimal (suc n)) (decimal (suc n)) (negsuc n) (decimal_digits (suc n) small) refl
    (ap (λ (m : ℕ). neg_ℤ (pos m)) (sym (decimal_is_IsNumeral (suc n) small).1))

pub says-number : (number : ℤ) (rest : Txt) (said : Kinds) → is_signed_number number ≡ true
    → EndsWord rest → Says rest said → Says (signed_decimal number ++ rest) (Number number ∷ said)
says-number number rest said is ends more =
    let fits = fits-signed number is in
    says-token (signed_decimal number) rest (Number number) said
    (a_number (signed_decimal number) rest number (written_number number fits) fits ends) more

pub says-number_first : (number : ℤ) (rest : Txt) (said : Kinds) → is_signed_number number ≡ true
    → Says rest said → Says (signed_decimal number ++ 32 ∷ rest) (Number number ∷ said)
says-number_first number rest said is more =
    says-number number (32 ∷ rest) said is refl (says-blank rest said more)

-- the symbols
pub says-comma : (rest : Txt) (said : Kinds) → Says rest said
    → Says (44 ∷ rest) (Symbol Comma ∷ said)
unfolding sign_table sign_of
says-comma rest said more = says-sign (44 ∷ []) rest Comma said refl (λ byte remaining is. refl) more

pub says-equal : (rest : Txt) (said : Kinds) → Says rest said
    → Says (61 ∷ rest) (Symbol Equal ∷ said)
unfolding sign_table sign_of
says-equal rest said more = says-sign (61 ∷ []) rest Equal said refl (λ byte remaining is. refl) more

pub says-opening : (rest : Txt) (said : Kinds) → Says rest said
    → Says (40 ∷ rest) (Symbol LeftParen ∷ said)
unfolding sign_table sign_of
says-opening rest said more =
    says-sign (40 ∷ []) rest LeftParen said refl (λ byte remaining is. refl) more

pub says-closing : (rest : Txt) (said : Kinds) → Says rest said
    → Says (41 ∷ rest) (Symbol RightParen ∷ said)
unfolding sign_table sign_of
says-closing rest said more =
    says-sign (41 ∷ []) rest RightParen said refl (λ byte remaining is. refl) more

-- digits are not quotes
unquoted : (n : ℕ) → is_quote (48 + n) ≡ false
unquoted n = ne_eqb (48 + n) 39 (λ same. absurd (omega arith))

two-plain : (n : ℕ) (rest : Txt) → doubled_quotes (two_digits n ++ rest)
    ≡ two_digits n ++ doubled_quotes rest
two-plain n rest = rw (unquoted (n / 10), unquoted (n % 10)) refl

date-plain : (y m d : ℕ) → doubled_quotes (date_text y m d) ≡ date_text y m d
date-plain y m d =
    let after_month : doubled_quotes (two_digits d) ≡ two_digits d = two-plain d [] in
    let after_year : doubled_quotes (two_digits m ++ 45 ∷ two_digits d)
    ≡ two_digits m ++ 45 ∷ two_digits d =
    two-plain m (45 ∷ two_digits d) ∙ ap (λ (t : Txt). two_digits m ++ 45 ∷ t) after_month in
    two-plain (y / 100) (two_digits (y % 100) ++ 45 ∷ (two_digits m ++ 45 ∷ two_digits d))
    ∙ ap (λ (t : Txt). two_digits (y / 100) ++ t)
    (two-plain (y % 100) (45 ∷ (two_digits m ++ 45 ∷ two_digits d))
    ∙ ap (λ (t : Txt). two_digits (y % 100) ++ 45 ∷ t) after_year)

day-plain : (day : ℤ) → doubled_quotes (day_text day) ≡ day_text day
unfolding day_text
day-plain day = date-plain (year_of day) (month_of day) (day_of_month day)

day-fits : (day : ℤ) → is_day day ≡ true → IsDayNumber day
day-fits day fits = let parts = and_parts (int_le first_day day) (int_le day last_day) fits in
    grind (arith, ints)

pub says-day : (day : ℤ) (rest : Txt) (said : Kinds) → is_day day ≡ true → begins_with is_quote rest
    ≡ false → Says rest said → Says ((codes "DATE '" ++ (day_text day ++ codes "'")) ++ rest)
    (Day day ∷ said)
unfolding keywords
says-day day rest said fits ends more =
    let text : Txt = day_text day in
    let written : Txt = codes "DATE '" ++ (text ++ codes "'") in
    let remaining : Txt = 32 ∷ (quoted_text text ++ rest) in
    let opens : OpensDay (codes "DATE") remaining (32 ∷ []) text rest = record {
      whole = record { form = refl; ends = refl };
      date = refl;
      quotation = record { gap = refl; parts = refl; ends = ends };
    } in
    let spelled : written ≡ codes "DATE" ++ (32 ∷ quoted_text text) =
    ap (λ (t : Txt). codes "DATE '" ++ (t ++ codes "'")) (sym (day-plain day)) in
    says-token written rest (Day day) said
    (a_day written (codes "DATE") remaining (32 ∷ []) text rest day opens (day-fits day fits, refl)
    spelled) more

-- the words
pub allow-word : Spells (codes "ALLOW") KAllow
unfolding keywords
allow-word = record { form = refl; written = refl; other = refl }

pub and-word : Spells (codes "AND") KAnd
unfolding keywords
and-word = record { form = refl; written = refl; other = refl }

pub authorize-word : Spells (codes "AUTHORIZE") KAuthorize
unfolding keywords
authorize-word = record { form = refl; written = refl; other = refl }

pub choice-word : Spells (codes "CHOICE") KChoice
unfolding keywords
choice-word = record { form = refl; written = refl; other = refl }

pub create-word : Spells (codes "CREATE") KCreate
unfolding keywords
create-word = record { form = refl; written = refl; other = refl }

pub deauthorize-word : Spells (codes "DEAUTHORIZE") KDeauthorize
unfolding keywords
deauthorize-word = record { form = refl; written = refl; other = refl }

pub delete-word : Spells (codes "DELETE") KDelete
unfolding keywords
delete-word = record { form = refl; written = refl; other = refl }

pub for-word : Spells (codes "FOR") KFor
unfolding keywords
for-word = record { form = refl; written = refl; other = refl }

pub from-word : Spells (codes "FROM") KFrom
unfolding keywords
from-word = record { form = refl; written = refl; other = refl }

pub in-word : Spells (codes "IN") KIn
unfolding keywords
in-word = record { form = refl; written = refl; other = refl }

pub insert-word : Spells (codes "INSERT") KInsert
unfolding keywords
insert-word = record { form = refl; written = refl; other = refl }

pub integer-word : Spells (codes "INTEGER") KInteger
unfolding keywords
integer-word = record { form = refl; written = refl; other = refl }

pub into-word : Spells (codes "INTO") KInto
unfolding keywords
into-word = record { form = refl; written = refl; other = refl }

pub is-word : Spells (codes "IS") KIs
unfolding keywords
is-word = record { form = refl; written = refl; other = refl }

pub item-word : Spells (codes "ITEM") KItem
unfolding keywords
item-word = record { form = refl; written = refl; other = refl }

pub key-word : Spells (codes "KEY") KKey
unfolding keywords
key-word = record { form = refl; written = refl; other = refl }

pub no-word : Spells (codes "NO") KNo
unfolding keywords
no-word = record { form = refl; written = refl; other = refl }

pub not-word : Spells (codes "NOT") KNot
unfolding keywords
not-word = record { form = refl; written = refl; other = refl }

pub null-word : Spells (codes "NULL") KNull
unfolding keywords
null-word = record { form = refl; written = refl; other = refl }

pub on-word : Spells (codes "ON") KOn
unfolding keywords
on-word = record { form = refl; written = refl; other = refl }

pub opt-word : Spells (codes "OPT") KOpt
unfolding keywords
opt-word = record { form = refl; written = refl; other = refl }

pub out-word : Spells (codes "OUT") KOut
unfolding keywords
out-word = record { form = refl; written = refl; other = refl }

pub primary-word : Spells (codes "PRIMARY") KPrimary
unfolding keywords
primary-word = record { form = refl; written = refl; other = refl }

pub purpose-word : Spells (codes "PURPOSE") KPurpose
unfolding keywords
purpose-word = record { form = refl; written = refl; other = refl }

pub recipient-word : Spells (codes "RECIPIENT") KRecipient
unfolding keywords
recipient-word = record { form = refl; written = refl; other = refl }

pub revoke-word : Spells (codes "REVOKE") KRevoke
unfolding keywords
revoke-word = record { form = refl; written = refl; other = refl }

pub set-word : Spells (codes "SET") KSet
unfolding keywords
set-word = record { form = refl; written = refl; other = refl }

pub subject-word : Spells (codes "SUBJECT") KSubject
unfolding keywords
subject-word = record { form = refl; written = refl; other = refl }

pub table-word : Spells (codes "TABLE") KTable
unfolding keywords
table-word = record { form = refl; written = refl; other = refl }

pub text-word : Spells (codes "TEXT") KText
unfolding keywords
text-word = record { form = refl; written = refl; other = refl }

pub to-word : Spells (codes "TO") KTo
unfolding keywords
to-word = record { form = refl; written = refl; other = refl }

pub update-word : Spells (codes "UPDATE") KUpdate
unfolding keywords
update-word = record { form = refl; written = refl; other = refl }

pub values-word : Spells (codes "VALUES") KValues
unfolding keywords
values-word = record { form = refl; written = refl; other = refl }

pub where-word : Spells (codes "WHERE") KWhere
unfolding keywords
where-word = record { form = refl; written = refl; other = refl }

pub with-word : Spells (codes "WITH") KWith
unfolding keywords
with-word = record { form = refl; written = refl; other = refl }

pub yes-word : Spells (codes "YES") KYes
unfolding keywords
yes-word = record { form = refl; written = refl; other = refl }

-- the tokens of a literal, and what may follow it
abbrev pub literal_said : Value → Kinds
literal_said values.Null = Keyword KNull ∷ []
literal_said (values.Int number) = Number number ∷ []
literal_said (values.Text text) = Quoted text ∷ []
literal_said (values.Day day) = Day day ∷ []

abbrev pub EndsLiteral : Txt → Type 0
EndsLiteral rest = EndsWord rest × (begins_with is_quote rest ≡ false)

pub says-literal : (value : Value) (rest : Txt) (said : Kinds) → value_is_keepable value ≡ true
    → EndsLiteral rest → Says rest said
    → Says (literal_text value ++ rest) (literal_said value ++ said)
says-literal values.Null rest said fits ends more =
    says-keyword (codes "NULL") rest KNull said null-word ends.0 more
says-literal (values.Int number) rest said fits ends more =
    says-number number rest said fits ends.0 more
says-literal (values.Text text) rest said fits ends more = says-quoted_text text rest said ends.1 more
says-literal (values.Day day) rest said fits ends more = says-day day rest said fits ends.1 more

pub literal-is : (value : Value) (rest : Kinds) → IsLiteral (literal_said value ++ rest) value rest
literal-is values.Null rest = literals.null
literal-is (values.Int number) rest = literals.number
literal-is (values.Text text) rest = literals.quoted_literal
literal-is (values.Day day) rest = literals.day
