-- Replies that confirm a line, or give the number of rows or flags.
use Rattle.std.specs.Prelude.{ℕ, ◌++◌, codes, decimal}
use Rattle.hippo_values.specs.Texts.{Txt}
use Rattle.hippo_report.specs.declared.speaker.Speaker.{Speaker}
use Rattle.hippo_report.specs.Speakers.{who_text}

-- a line was carried out
abbrev pub done_line : Speaker → Txt
done_line who = who_text who ++ codes " ok\n"

-- a word and a number, to a session or to the console
abbrev pub number_line : ℕ → Txt → ℕ → Txt
number_line session word number =
    decimal session ++ (codes " " ++ (word ++ (codes " " ++ (decimal number ++ codes "\n"))))
