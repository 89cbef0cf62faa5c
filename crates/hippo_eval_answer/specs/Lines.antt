-- An answer as the printed lines of its rows for a session.
use Rattle.std.specs.Prelude.{◌≡◌, ℕ, ◌<◌, ◌≤◌, List, ◌++◌, flat_map, length, codes, decimal, Result, Ok, Err}
use Rattle.hippo_values.specs.Texts.{Txt}
use Rattle.hippo_model.specs.Terms.{ShownRow}
use Rattle.hippo_report.specs.Cells.{answer_line}
use Rattle.hippo_eval.specs.declared.answers.EvalFault.{EvalFault}
use Rattle.hippo_eval.specs.declared.answers.EvalFault.TheVariants.{TooManyRows, Memory}
use Rattle.hippo_eval_answer.specs.declared.lines.Lines.{Lines}

-- the front of each line of an answer for a session
abbrev pub line_front : ℕ → Txt
line_front session = decimal session ++ codes " row "

-- a line for each row, and the number of lines
pub record AreLinesOf (session : ℕ) (rows : List ShownRow) (lines : Lines) : Type 0 where
  pub text : lines.text ≡ flat_map (answer_line session) rows
  pub count : lines.count ≡ length rows

-- the result is the lines of these rows, or that they are too many, or memory ran out
abbrev pub IsSaid : ℕ → ℕ → List ShownRow → Result Lines EvalFault → Type 0
IsSaid limit session rows (Ok lines) = AreLinesOf session rows lines × (length rows ≤ limit)
IsSaid limit session rows (Err TooManyRows) = limit < length rows
IsSaid limit session rows (Err Memory) = Unit {0}
