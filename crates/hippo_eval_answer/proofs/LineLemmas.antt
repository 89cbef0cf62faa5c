-- Lines of an answer: after one more row, and of all rows.
use Rattle.std.proofs.Common.{◌≡◌, ℕ, ◌+◌, ◌<◌, ◌≤◌, List, [], ◌∷◌, ◌++◌, map, length, decimal, codes, append_assoc, refl, sym, ap, subst, ◌∙◌, arith, Err}
use Rattle.std.proofs.lemmas.List.{append-nil, length-append}
use Rattle.std.proofs.lemmas.List.Folds.{flat_map-map}
use Rattle.std.proofs.lemmas.Grind.{flat_map-append}
use Rattle.hippo_values.specs.Texts.{Txt}
use Rattle.hippo_model.specs.declared.query.Masked.{Masked}
use Rattle.hippo_model.specs.Terms.{Combination, ShownRow}
use Rattle.hippo_model.specs.Answers.{product}
use Rattle.hippo_model.specs.Masking.{Choices, masked_answer, masked_cell, masked_items}
use Rattle.hippo_tables_keyed.specs.RowSets.{KeyedRows}
use Rattle.hippo_eval.specs.declared.answers.EvalFault.{EvalFault}
use Rattle.hippo_eval.specs.declared.answers.EvalFault.TheVariants.{TooManyRows, Memory}
use Rattle.hippo_eval.specs.Walks.{rows_of}
use Rattle.hippo_join_stages.specs.Visiting.{counting}
use Rattle.hippo_join.specs.Plans.{IsUnvisited}
use Rattle.hippo_join.proofs.GatheringLemmas.{length-counted}
use Rattle.hippo_report.specs.Cells.{answer_line, cell_text, comma, separated_text}
use Rattle.hippo_eval.specs.Gathering.{IsGathered}
use Rattle.hippo_eval_answer.specs.declared.lines.Lines.{Lines}
use Rattle.hippo_eval_answer.specs.Lines.{AreLinesOf, IsSaid, line_front}

-- members are printed from what they are made of
pub separated_text_map : {A B : Type 0} (text : B → Txt) (separator : Txt) (made : A → B) (members : List A)
    → separated_text text separator (map made members) ≡ separated_text (λ member. text (made member)) separator members
separated_text_map text separator made [] = refl
separated_text_map text separator made (first ∷ rest) = ap (λ (later : Txt). text (made first) ++ later) (flat_map-map (λ member. separator ++ text member) made rest)

-- the pieces of a line, concatenated
pub line_printed : (session : ℕ) (cells out front one two three : Txt) → front ≡ line_front session → one ≡ out ++ front → two ≡ one ++ cells → three ≡ two ++ codes "\n"
    → three ≡ out ++ (decimal session ++ (codes " row " ++ (cells ++ codes "\n")))
line_printed session cells out front one two three front_is one_is two_is three_is =
    three_is
    ∙ ap (λ (text : Txt). text ++ codes "\n") (two_is ∙ (λ i. one_is i ++ cells) ∙ (λ i. (out ++ front_is i) ++ cells))
    ∙ append_assoc (out ++ line_front session) cells (codes "\n")
    ∙ append_assoc out (line_front session) (cells ++ codes "\n")
    ∙ ap (λ (line : Txt). out ++ line) (append_assoc (decimal session) (codes " row ") (cells ++ codes "\n"))

-- the line of a combination's row
pub row_printed : (session : ℕ) (choices : Choices) (query : Masked) (rows : Combination) (out front one two three : Txt) → front ≡ line_front session → one ≡ out ++ front
    → two ≡ one ++ separated_text (λ item. cell_text (masked_cell choices rows item)) comma query.items → three ≡ two ++ codes "\n"
    → three ≡ out ++ answer_line session (masked_items choices query rows)
row_printed session choices query rows out front one two three front_is one_is two_is three_is =
    let same = sym (separated_text_map cell_text comma (masked_cell choices rows) query.items) in
    line_printed session (separated_text cell_text comma (masked_items choices query rows)) out front one two three front_is one_is (two_is ∙ ap (λ (cells : Txt). one ++ cells) same) three_is

-- the line of one more row
pub one_line_more : (session : ℕ) (rows : List ShownRow) (row : ShownRow) (old new : Lines) → AreLinesOf session rows old
    → new.text ≡ old.text ++ answer_line session row → new.count ≡ old.count + 1 → AreLinesOf session (rows ++ row ∷ []) new
one_line_more session rows row old new are text count = record {
  text = text ∙ (λ i. are.text i ++ sym (append-nil (answer_line session row)) i) ∙ sym (flat_map-append (answer_line session) rows (row ∷ []));
  count = count ∙ ap (λ (n : ℕ). n + 1) are.count ∙ sym (length-append rows (row ∷ []));
}

module _ (session limit : ℕ) (rows : List ShownRow) (lines : Lines) (are : IsGathered (AreLinesOf session) (λ found. found) limit rows lines) where
  -- lines within the limit are those of all rows
  pub are_whole : lines.count ≤ limit → AreLinesOf session rows lines × (length rows ≤ limit)
  are_whole few =
      let within : length are.front ≤ limit = subst (λ (n : ℕ). n ≤ limit) are.holds.count few in
      let all : rows ≡ are.front = are.is ∙ ap (λ (later : List ShownRow). are.front ++ later) (are.whole within) ∙ append-nil are.front in
      (subst (λ (some : List ShownRow). AreLinesOf session some lines) (sym all) are.holds, subst (λ (some : List ShownRow). length some ≤ limit) (sym all) within)

  -- more lines than the limit mean more rows than the limit
  pub go_beyond : limit < lines.count → limit < length rows
  go_beyond many =
      let front : limit < length are.front = subst (λ (n : ℕ). limit < n) are.holds.count many in
      let long : length rows ≡ length are.front + length are.later = ap length are.is ∙ length-append are.front are.later in
      omega (arith, front, long)

-- rows that are not visited are not printed
pub not_said : (choices : Choices) (query : Masked) (sets : List KeyedRows) (limit session : ℕ) (fault : EvalFault) → IsUnvisited limit (counting choices query (product (rows_of sets))) fault → IsSaid limit session (masked_answer choices query (rows_of sets)) (Err fault)
not_said choices query sets limit session TooManyRows more = omega (arith, more, length-counted choices query sets)
not_said choices query sets limit session Memory wanted = tt
