-- A text means what `meaning_in` finds, and nothing else.
use Rattle.std.proofs.Common.{◌≡◌, ◌≢◌, true, false, List, [], ◌∷◌, length, Option, Some, None, Result, Ok, Err, refl, sym, ◌∙◌, ap, subst}
use Rattle.std.specs.Prelude.{is_ok, is_err, slice_get, option_and_then, if◌then◌else◌, IfSome, IfNone}
use Rattle.std.proofs.Math.Nat.{sub-zero}
use Rattle.std.proofs.Math.Seq.{take-length}
use Rattle.std.proofs.lemmas.Result.{MatchResult-at_ok, MatchResult-at_err}
use Rattle.std.proofs.lemmas.Option.{none-some, same_Some}
use Rattle.hippo_values.specs.Texts.{Txt}
use Rattle.hippo_lexer.specs.declared.faults.LexFault.{LexFault}
use Rattle.hippo_lexer.specs.declared.faults.SyntaxFault.{SyntaxFault}
use Rattle.hippo_lexer.specs.declared.faults.SyntaxFault.TheVariants as syntax
use Rattle.hippo_lexer.specs.declared.kinds.Token.{Token}
use Rattle.hippo_lexer.specs.Grammar.{IsOutcome}
use Rattle.hippo_lexer.specs.Words.{words_check}
use Rattle.hippo_lexer.specs.Cutting.{outcome_of}
use Rattle.hippo_lexer.proofs.OutcomeLemmas.{outcome-one}
use Rattle.hippo_model.specs.declared.name_fault.NameFault.{NameFault}
use Rattle.hippo_model.specs.declared.query.Query.{Query}
use Rattle.hippo_stmt_ast.specs.declared.statement.RawSelect.{RawSelect}
use Rattle.hippo_spj_reader.specs.Front.{Kinds, kinds, kinds_between}
use Rattle.hippo_spj_reader.specs.Promises.{whole_of, part_at_end, ReadsAll, IsFaultOnlyWhere}
use Rattle.hippo_spj_reader.specs.SelectFinder.{leading_select}
use Rattle.hippo_spj_reader.specs.SelectGrammar.{IsSelect}
use Rattle.hippo_spj_reader.proofs.SelectTheorem.{found, complete, ends-nothing}
use Rattle.hippo_typing_catalog.specs.Catalogs.{KnownNames, known_at}
use Rattle.hippo_typing_catalog.specs.Selects.{select_refused, query_of}
use Rattle.hippo_typing.specs.Meanings.{IsSelectText, Means, select_in, query_unless_refused, query_in, meaning_in, meaning}
use Rattle.hippo_typing.specs.MeaningLaws.{SaysWhatTextsMean, AtMostOneMeaning}

-- the select that all tokens form is found
pub whole-IsSelect : (tokens : Kinds) (select : RawSelect) → IsSelect tokens select [] → whole_of (leading_select tokens) ≡ Some select
whole-IsSelect tokens select reading = rw (complete tokens select [] reading ends-nothing) refl

whole_ended : (tokens : Kinds) (one : RawSelect × Kinds) (select : RawSelect) → leading_select tokens ≡ Some one → part_at_end one ≡ Some select → IsSelect tokens select []
whole_ended tokens (first, []) select is e = found tokens select [] (is ∙ ap (λ (s : RawSelect). Some (s, [])) (same_Some first select e))
whole_ended tokens (first, token ∷ rest) select is e = absurd (none-some select e)

whole_opened : (tokens : Kinds) (one : Option (RawSelect × Kinds)) (select : RawSelect) → leading_select tokens ≡ one → whole_of one ≡ Some select → IsSelect tokens select []
whole_opened tokens None select is e = absurd (none-some select e)
whole_opened tokens (Some one) select is e = whole_ended tokens one select is e

-- the select that is found is the one that all tokens form
pub IsSelect-whole : (tokens : Kinds) (select : RawSelect) → whole_of (leading_select tokens) ≡ Some select → IsSelect tokens select []
IsSelect-whole tokens select e = whole_opened tokens (leading_select tokens) select refl e

passing : (checked : Result (Unit {0}) SyntaxFault) → is_ok checked ≡ true → checked ≡ Ok tt
passing (Ok tt) e = refl
passing (Err fault) e = absurd cc

-- the words pass the check, and the whole select is found
both : (checked : Result (Unit {0}) SyntaxFault) (whole : Option RawSelect) (select : RawSelect) → (if is_ok checked then whole else None) ≡ Some select → (checked ≡ Ok tt) × (whole ≡ Some select)
both (Ok tt) whole select e = (refl, e)
both (Err fault) whole select e = absurd (none-some select e)

text_read : (text : Txt) (outcome : Result (List Token) LexFault) (select : RawSelect) → IsOutcome text outcome → select_in outcome ≡ Some select → IsSelectText text select
text_read text (Ok tokens) select cut e =
    let parts = both (words_check tokens) (whole_of (leading_select (kinds tokens))) select e in
    record { tokens = tokens; cut = cut; words = parts.0; reading = IsSelect-whole (kinds tokens) select parts.1 }
text_read text (Err fault) select cut e = absurd (none-some select e)

-- the select that is found is the one that the text is
pub IsSelectText-found : (text : Txt) (select : RawSelect) → select_in (outcome_of text) ≡ Some select → IsSelectText text select
IsSelectText-found text select e = text_read text (outcome_of text) select (outcome-one text).0 e

-- the select of a text is found
pub found-IsSelectText : (text : Txt) (select : RawSelect) → IsSelectText text select → select_in (outcome_of text) ≡ Some select
found-IsSelectText text select read =
    let cut : Ok read.tokens ≡ outcome_of text = (outcome-one text).1 (Ok read.tokens) read.cut in
    let found_in : select_in (Ok read.tokens) ≡ Some select = rw (read.words, whole-IsSelect (kinds read.tokens) select read.reading) refl in
    subst (λ (outcome : Result (List Token) LexFault). select_in outcome ≡ Some select) cut found_in

none_refused : (refusals : List NameFault) (right query : Query) → query_unless_refused refusals right ≡ Some query → (refusals ≡ []) × (query ≡ right)
none_refused [] right query e = (refl, sym (same_Some right query e))
none_refused (refusal ∷ more) right query e = absurd (none-some query e)

means_opened : (known : KnownNames) (text : Txt) (one : Option RawSelect) (query : Query) → select_in (outcome_of text) ≡ one → option_and_then (query_in known) one ≡ Some query → Means known text query
means_opened known text None query is e = absurd (none-some query e)
means_opened known text (Some select) query is e =
    let parts = none_refused (select_refused known select) (query_of known select) query e in
    record { select = select; read = IsSelectText-found text select is; right = parts.0; meant = parts.1 }

-- the query that is found is what the text means
pub Means-found : (known : KnownNames) (text : Txt) (query : Query) → meaning_in known text ≡ Some query → Means known text query
unfolding meaning_in
Means-found known text query e = means_opened known text (select_in (outcome_of text)) query refl e

-- the query that a text means is found
pub found-Means : (known : KnownNames) (text : Txt) (query : Query) → Means known text query → meaning_in known text ≡ Some query
unfolding meaning_in
found-Means known text query means =
    rw (found-IsSelectText text means.select means.read, means.right) (ap Some (sym means.meant))

pub says_what_texts_mean : SaysWhatTextsMean meaning
says_what_texts_mean history text query = (Means-found (known_at history) text query, found-Means (known_at history) text query)

pub one_meaning : AtMostOneMeaning
one_meaning known text one other means also =
    same_Some one other (sym (found-Means known text one means) ∙ found-Means known text other also)

-- the query that is found is what the text means
pub means_what_is_found : (known : KnownNames) (text : Txt) (found : Option Query) → found ≡ meaning_in known text → IfSome found (λ query. Means known text query)
means_what_is_found known text None is = tt
means_what_is_found known text (Some query) is = Means-found known text query (sym is)

-- if no query is found, the text means none
pub means_nothing : (known : KnownNames) (text : Txt) (found : Option Query) → found ≡ meaning_in known text → IfNone found ((query : Query) → ¬ Means known text query)
means_nothing known text None is = λ query means. none-some query (is ∙ found-Means known text query means)
means_nothing known text (Some query) is = tt

-- all tokens of a list
all_between : (tokens : List Token) → kinds_between tokens 0 (length tokens) ≡ kinds tokens
all_between tokens = ap kinds (rw (sub-zero (length tokens)) (take-length tokens))

nothing_found : (tokens : Kinds) (whole : Option RawSelect) → whole_of (leading_select tokens) ≡ whole → ((select : RawSelect) → ¬ IsSelect tokens select []) → whole ≡ None
nothing_found tokens None is none = refl
nothing_found tokens (Some select) is none = absurd (none select (IsSelect-whole tokens select is))

only_where : (P : Type 0) (fault : SyntaxFault) → fault ≢ syntax.Memory → IsFaultOnlyWhere P fault → P
only_where P syntax.TooDeep other only = absurd only
only_where P (syntax.Unsupported place) other only = absurd only
only_where P syntax.BadSyntax other only = only
only_where P syntax.Memory other only = absurd (other refl)

module _ (tokens : List Token) (words : words_check tokens ≡ Ok tt) (result : Result RawSelect SyntaxFault) (reads : ReadsAll IsSelect (kinds_between tokens 0 (length tokens)) result) where
  -- the select that is read is the one that the tokens form
  pub select-read : (select : RawSelect) → result ≡ Ok select → select_in (Ok tokens) ≡ Some select
  select-read select is =
      let reading : IsSelect (kinds_between tokens 0 (length tokens)) select [] = MatchResult-at_ok (λ x. IsSelect (kinds_between tokens 0 (length tokens)) x []) (λ fault. Unit {0}) select is reads.found in
      rw (words, whole-IsSelect (kinds tokens) select (rw all_between at reading)) refl

  -- if nothing is read though there was memory, the tokens form no select
  pub none-read : (fault : SyntaxFault) → result ≡ Err fault → fault ≢ syntax.Memory → select_in (Ok tokens) ≡ None
  none-read fault is other =
      let between : Kinds = kinds_between tokens 0 (length tokens) in
      let only : IsFaultOnlyWhere ((select : RawSelect) → ¬ IsSelect between select []) fault = MatchResult-at_err (λ select. Unit {0}) (IsFaultOnlyWhere ((select : RawSelect) → ¬ IsSelect between select [])) fault is reads.errors in
      let none : (select : RawSelect) → ¬ IsSelect between select [] = only_where ((select : RawSelect) → ¬ IsSelect between select []) fault other only in
      rw words (nothing_found (kinds tokens) (whole_of (leading_select (kinds tokens))) refl (rw all_between at none))

pub passed : (checked : Result (Unit {0}) SyntaxFault) → is_err checked ≡ false → checked ≡ Ok tt
passed (Ok tt) e = refl
passed (Err fault) e = absurd cc

-- a refused select means no query
pub query_unless_refused-first : (refusals : List NameFault) (query : Query) (fault : NameFault) → slice_get refusals 0 ≡ Some fault → query_unless_refused refusals query ≡ None
query_unless_refused-first [] query fault e = absurd (none-some fault e)
query_unless_refused-first (refusal ∷ more) query fault e = refl
