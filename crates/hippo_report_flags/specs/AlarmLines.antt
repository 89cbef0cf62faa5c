-- The line by which a watch reports a flag.
use Rattle.std.specs.Prelude.{ℕ, List, ◌++◌, codes, decimal}
use Rattle.hippo_values.specs.Texts.{Txt}
use Rattle.hippo_model.specs.declared.audit.SharedRow.{SharedRow}
use Rattle.hippo_report.specs.Cells.{tuple_text}

-- the watch's number, the query's number, and the rows that they share
abbrev pub alarm_text : ℕ → ℕ → List SharedRow → Txt
alarm_text watch question shared =
    codes "0 alarm " ++ (decimal watch ++ (codes " " ++ decimal question)
    ++ (tuple_text shared ++ codes "\n"))
