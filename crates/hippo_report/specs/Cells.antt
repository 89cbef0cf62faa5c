-- How replies print cells, rows and keys.
use Rattle.std.specs.Prelude.{ℕ, List, [], ◌∷◌, ◌++◌, flat_map, codes, decimal}
use Rattle.std.specs.List.{concat}
use Rattle.hippo_values.specs.Texts.{Txt}
use Rattle.hippo_values.specs.declared.names.Name.{Name}
use Rattle.hippo_values_text.specs.Printing.{value_text}
use Rattle.hippo_model.specs.declared.audit.SharedRow.{SharedRow}
use Rattle.hippo_model.specs.declared.cells.Cell.{Cell}
use Rattle.hippo_model.specs.declared.cells.Cell.TheVariants.{Shown, Denied}
use Rattle.hippo_model.specs.Terms.{ShownRow, Key}

-- the text of each member, with a separator between members
abbrev pub separated_text : {A : Type 0} → (A → Txt) → Txt → List A → Txt
separated_text text separator [] = []
separated_text text separator (first ∷ rest) =
    text first ++ flat_map (λ member. separator ++ text member) rest

-- a cell as it is printed; a denied cell names its rule
abbrev pub cell_text : Cell → Txt
cell_text (Shown value) = value_text value
cell_text (Denied rule) = codes "DENIED(" ++ (decimal rule ++ codes ")")

abbrev pub comma : Txt
comma = codes ", "

-- a row of a table as the table's name, and the key's values in parentheses
abbrev pub keyed_text : Name → Key → Txt
keyed_text table key = table ++ (codes "(" ++ (separated_text value_text comma key ++ codes ")"))

-- a row that an audit and a query share
abbrev pub shared_text : SharedRow → Txt
shared_text shared = keyed_text shared.table shared.key

-- the rows of a shared tuple, each after a space
abbrev pub tuple_text : List SharedRow → Txt
tuple_text tuple = flat_map (λ shared. codes " " ++ shared_text shared) tuple

-- one row of an answer
abbrev pub answer_line : ℕ → ShownRow → Txt
answer_line session row =
    decimal session ++ (codes " row " ++ (separated_text cell_text comma row ++ codes "\n"))

-- one denied cell
abbrev pub denied_line : Name → Key → Name → ℕ → Txt
denied_line table key column rule =
    codes "0 denied " ++ (keyed_text table key
    ++ concat (codes " " ∷ column ∷ codes " " ∷ decimal rule ∷ codes "\n" ∷ []))
