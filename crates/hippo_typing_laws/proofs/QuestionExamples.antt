-- Examples of questions, by their texts.
use Rattle.std.proofs.Common.{◌≡◌, ℕ, List, [], ◌∷◌, codes, Option, Some, None, Result, Ok, Err, refl}
use Rattle.std.specs.Prelude.{⊤, slice_range, option_and_then}
use Rattle.hippo_values.specs.Names.{keywords, unsupported_words}
use Rattle.hippo_values.specs.declared.truths.CompareOp.TheVariants.{Ne}
use Rattle.hippo_values.specs.declared.values.Value.TheVariants.{Text}
use Rattle.hippo_values.specs.Words.{word_of}
use Rattle.hippo_model.specs.declared.query.CondOf.{All, Compare}
use Rattle.hippo_stmt_ast.specs.declared.statement.RawForm.TheVariants.{Plain}
use Rattle.hippo_stmt_ast.specs.declared.statement.RawItem.{RawItem}
use Rattle.hippo_stmt_ast.specs.declared.statement.RawItem.TheVariants as item
use Rattle.hippo_stmt_ast.specs.declared.statement.RawOperand.TheVariants.{Column, Literal}
use Rattle.hippo_stmt_ast.specs.declared.statement.RawSelect.{RawSelect}
use Rattle.hippo_model.proofs.OuterParts.{outer_parts_of}
use Rattle.hippo_lexer.specs.declared.kinds.Token.{Token}
use Rattle.hippo_lexer.specs.declared.faults.LexFault.{LexFault}
use Rattle.hippo_lexer.specs.Spelling.{sign_table, sign_of}
use Rattle.hippo_lexer.specs.Cutting.{number_of, number_first, closing, quoted_first, date_first, word_first, sign_first, token_first, tokens_from, outcome_of}
use Rattle.hippo_lexer.specs.Words.{words_check}
use Rattle.hippo_spj_reader.specs.ConditionFinder.{leading_comparison, leading_test, leading_condition}
use Rattle.hippo_spj_reader.specs.SelectFinder.{leading_item, leading_member, leading_members, leading_joined, leading_sources, leading_where, leading_scope, leading_draft_of, leading_draft, ungrouped_select, leading_select}
use Rattle.hippo_stmt_reader.specs.StatementFinder.{placed_select_of, open_of, extract_of, select_of, statement_of}
use Rattle.hippo_typing.specs.Meanings.{select_in}
use Rattle.hippo_typing_laws.specs.ReadingLaws.{select_place}

-- the question that a text asks
abbrev asked_in : Result (List Token) LexFault → Option (RawSelect × ℕ × ℕ)
asked_in (Ok tokens) = option_and_then select_place (statement_of tokens)
asked_in (Err fault) = None

-- what must be unfolded to read a text
unfoldable reading : ⊤
unfolding keywords unsupported_words sign_table sign_of number_of number_first closing quoted_first date_first word_first sign_first token_first tokens_from outcome_of words_check leading_comparison leading_test leading_condition leading_item leading_member leading_members leading_joined leading_sources leading_where leading_scope leading_draft_of leading_draft ungrouped_select leading_select placed_select_of open_of extract_of select_of statement_of word_of
reading = tt

abbrev name : RawItem
name = item.One (record { table = None; column = codes "name" })

-- SELECT name FROM patient
abbrev names : RawSelect
names = record { items = name ∷ []; tables = codes "patient" ∷ []; cond = All []; form = Plain }

opened_question : asked_in (outcome_of (codes "OPEN Select name from patient ;")) ≡ Some (names, 5, 29)
unfolding reading
opened_question = refl

opened_text : slice_range (codes "OPEN Select name from patient ;") 5 29 ≡ codes "Select name from patient"
opened_text = refl

opened_text_alone : select_in (outcome_of (codes "Select name from patient")) ≡ Some names
unfolding reading
opened_text_alone = refl

-- SELECT name FROM patient WHERE ward <> 'St. Mary''s'
abbrev elsewhere : RawSelect
elsewhere = record {
  items = name ∷ [];
  tables = codes "patient" ∷ [];
  cond = All (Compare Ne (Column (record { table = None; column = codes "ward" })) (Literal (Text (codes "St. Mary's"))) ∷ []);
  form = Plain;
}

extracted_question : asked_in (outcome_of (codes "extract select name from patient where ward<>'St. Mary''s'")) ≡ Some (elsewhere, 8, 58)
unfolding reading
extracted_question = simp outer_parts_of

extracted_text : slice_range (codes "extract select name from patient where ward<>'St. Mary''s'") 8 58 ≡ codes "select name from patient where ward<>'St. Mary''s'"
extracted_text = refl

extracted_text_alone : select_in (outcome_of (codes "select name from patient where ward<>'St. Mary''s'")) ≡ Some elsewhere
unfolding reading
extracted_text_alone = simp outer_parts_of
