-- What was disclosed of a patient, as an HTML page.
use Rattle.std.specs.Prelude.{ℕ, ℤ, ◌==◌, List, [], ◌∷◌, ◌++◌, length, flat_map, if◌then◌else◌, codes, decimal}
use Rattle.std.specs.Fmt.{signed_decimal}
use Rattle.hippo_values_text.specs.Dates.{day_text, moment_text}
use Rattle.hippo_values.specs.Texts.{Txt}
use Rattle.hippo_history_formats.specs.declared.access.Access.{Access}
use Rattle.hippo_history_formats.specs.Accesses.{access_fields}
use Rattle.hippo_history_page.specs.Counts.{DayCount, asker_count, firsts, days}
use Rattle.hippo_history_page.specs.Escapes.{escaped}
use Rattle.hippo_history_page.specs.Words.{title_start, heading_start, period_start, period_middle, period_end, askers_start, days_start, records_start, page_close, bar_start, bar_middle, bar_end, row_start, row_end, cell_start, cell_end}

-- a cell with a text, and cells one after another
abbrev pub text_cell : Txt → Txt
text_cell text = cell_start ++ (escaped text ++ cell_end)

abbrev pub text_cells : List Txt → Txt
text_cells texts = flat_map text_cell texts

-- a row of texts
abbrev pub text_row : List Txt → Txt
text_row texts = row_start ++ (text_cells texts ++ row_end)

-- a cell with a bar that fills a part of it: `count` of `total`
abbrev pub bar_cell : ℕ → ℕ → Txt
bar_cell total count =
    bar_start ++ (decimal total ++ (bar_middle ++ (decimal count ++ bar_end)))

-- a row of texts, and how many accesses of all it stands for, as a number and as a bar
abbrev pub count_row : List Txt → ℕ → ℕ → Txt
count_row texts total count =
    row_start ++ (text_cells texts ++ (text_cells (decimal count ∷ [])
    ++ (bar_cell total count ++ row_end)))

-- the row of a user and a purpose, by one of their accesses
unfoldable pub asker_row : List Access → Access → Txt
asker_row accesses access =
    count_row (access.user ∷ access.purpose ∷ []) (length accesses) (asker_count accesses access)

unfoldable pub day_row : List Access → DayCount → Txt
day_row accesses (day, count) = count_row (day_text day ∷ []) (length accesses) count

unfoldable pub access_row : Access → Txt
access_row access = text_row (access_fields access (moment_text access.moment))

-- an end of the stretch of entries by its number, in words; entries have numbers up to 4000000
abbrev pub entry_words : ℕ → Txt
entry_words number =
    if number == 4000000 then codes "the last entry" else codes "entry " ++ decimal number

-- who asks; and then the ends of the stretch of entries, and the number of accesses
abbrev pub page_title : ℤ → Txt
page_title patient =
    title_start ++ (signed_decimal patient ++ (heading_start ++ signed_decimal patient))

abbrev pub page_period : Txt → Txt → ℕ → Txt
page_period first last count =
    period_start ++ (escaped first ++ (period_middle ++ (escaped last
    ++ (period_end ++ decimal count))))

abbrev pub page_head : ℤ → Txt → Txt → ℕ → Txt
page_head patient first last count = page_title patient ++ page_period first last count

-- a row for each user and purpose, a row for each day, and a row for each access
abbrev pub askers_part : List Access → Txt
askers_part accesses = askers_start ++ flat_map (asker_row accesses) (firsts accesses)

abbrev pub days_part : List Access → Txt
days_part accesses = days_start ++ flat_map (day_row accesses) (days accesses)

abbrev pub records_part : List Access → Txt
records_part accesses = records_start ++ flat_map access_row accesses

-- the page
abbrev pub page : ℤ → Txt → Txt → List Access → Txt
page patient first last accesses =
    page_head patient first last (length accesses) ++ (askers_part accesses
    ++ (days_part accesses ++ (records_part accesses ++ page_close)))
