-- What a text means after some entries. The relation `Means` defines it by the grammar; `meaning`
-- is the function that agrees with it.
use Rattle.std.specs.Prelude.{◌≡◌, List, [], ◌∷◌, Option, Some, None, Result, Ok, Err, is_ok, option_and_then, if◌then◌else◌}
use Rattle.hippo_values.specs.Texts.{Txt}
use Rattle.hippo_lexer.specs.declared.faults.LexFault.{LexFault}
use Rattle.hippo_lexer.specs.declared.kinds.Token.{Token}
use Rattle.hippo_lexer.specs.Grammar.{IsOutcome}
use Rattle.hippo_lexer.specs.Words.{words_check}
use Rattle.hippo_lexer.specs.Cutting.{outcome_of}
use Rattle.hippo_model.specs.declared.name_fault.NameFault.{NameFault}
use Rattle.hippo_model.specs.declared.query.Query.{Query}
use Rattle.hippo_stmt_ast.specs.declared.statement.RawSelect.{RawSelect}
use Rattle.hippo_model.specs.Terms.{Meaning}
use Rattle.hippo_spj_reader.specs.Front.{kinds}
use Rattle.hippo_spj_reader.specs.Promises.{whole_of}
use Rattle.hippo_spj_reader.specs.SelectFinder.{leading_select}
use Rattle.hippo_spj_reader.specs.SelectGrammar.{IsSelect}
use Rattle.hippo_typing_catalog.specs.Catalogs.{KnownNames, known_at}
use Rattle.hippo_typing_catalog.specs.Selects.{select_refused, query_of}

-- a text is a select: it has tokens, which pass the checks of depth and of words, and by the
-- grammar all of them form this select
pub record IsSelectText (text : Txt) (select : RawSelect) : Type 0 where
  pub tokens : List Token
  pub cut : IsOutcome text (Ok tokens)
  pub words : words_check tokens ≡ Ok tt
  pub reading : IsSelect (kinds tokens) select []

-- a text means a query: it is a select that is not refused with these names, and this is its query
pub record Means (known : KnownNames) (text : Txt) (query : Query) : Type 0 where
  pub select : RawSelect
  pub read : IsSelectText text select
  pub right : select_refused known select ≡ []
  pub meant : query ≡ query_of known select

-- the select that the tokens form, if they pass the check of words
abbrev pub select_in : Result (List Token) LexFault → Option RawSelect
select_in (Ok tokens) =
    if is_ok (words_check tokens) then whole_of (leading_select (kinds tokens)) else None
select_in (Err fault) = None

-- the query, if nothing is refused
abbrev pub query_unless_refused : List NameFault → Query → Option Query
query_unless_refused [] query = Some query
query_unless_refused (refusal ∷ more) query = None

abbrev pub query_in : KnownNames → RawSelect → Option Query
query_in known select = query_unless_refused (select_refused known select) (query_of known select)

-- the query that a text means with these names
unfoldable pub meaning_in : KnownNames → Txt → Option Query
meaning_in known text = option_and_then (query_in known) (select_in (outcome_of text))

-- the query that a text means after some entries
abbrev pub meaning : Meaning
meaning history text = meaning_in (known_at history) text
