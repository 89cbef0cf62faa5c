-- The rows of the qualifying combinations.
use Rattle.std.proofs.Common.{◌≡◌, map, length, refl, sym, ap, ◌∙◌}
use Rattle.std.proofs.lemmas.List.{length-map}
use Rattle.hippo_model.specs.declared.query.Masked.{Masked}
use Rattle.hippo_model.specs.Answers.{product}
use Rattle.hippo_model.specs.Masking.{Choices, masked_items, masked_answer}
use Rattle.hippo_tables_keyed.specs.RowSets.{KeyedRows}
use Rattle.hippo_eval.specs.Walks.{rows_of}
use Rattle.hippo_join_lookups.specs.Places.{stays}
use Rattle.hippo_join_stages.specs.Visiting.{counting}
use Rattle.std.specs.Prelude.{List}

-- the rows of the qualifying combinations are the answer
pub counted-answer : (choices : Choices) (query : Masked) (sets : List KeyedRows) → map (masked_items choices query) (counting choices query (product (rows_of sets))) ≡ masked_answer choices query (rows_of sets)
unfolding stays
counted-answer choices query sets = refl

pub length-counted : (choices : Choices) (query : Masked) (sets : List KeyedRows) → length (counting choices query (product (rows_of sets))) ≡ length (masked_answer choices query (rows_of sets))
length-counted choices query sets = sym (length-map (counting choices query (product (rows_of sets))) (masked_items choices query)) ∙ ap length (counted-answer choices query sets)
