-- The lines of replies, counted by their second words, and the drill's summary.
use Rattle.std.specs.Prelude.{ℕ, Bool, ◌==◌, List, [], ◌++◌, length, codes, decimal, bytes_eq}
use Rattle.std.specs.List.{count_by, sum_by, slice_split, before_first, after_first}
use Rattle.hippo_values.specs.Texts.{Txt, is_space}

abbrev pub is_feed : ℕ → Bool
is_feed byte = byte == 10

-- the text between the first space of a line and the next; empty if there is no space
abbrev pub second_word : Txt → Txt
second_word line = before_first is_space (after_first is_space line)

-- how many lines of a reply have this second word
abbrev pub lines_with : Txt → Txt → ℕ
lines_with word reply =
    count_by (λ line. bytes_eq (second_word line) word) (slice_split is_feed reply)

-- how many lines of these replies have this second word
abbrev pub reply_count : Txt → List Txt → ℕ
reply_count word replies = sum_by (lines_with word) replies

-- a line of words and a number, followed by the rest
abbrev pub count_line : Txt → ℕ → Txt → Txt
count_line words number rest = words ++ (decimal number ++ (codes "\n" ++ rest))

-- what the drill writes about the replies to a script's lines and the entries after them
abbrev pub summary_of : List Txt → ℕ → Txt
summary_of replies entries =
    count_line (codes "lines ") (length replies)
    (count_line (codes "entries ") entries
    (count_line (codes "rows ") (reply_count (codes "row") replies)
    (count_line (codes "flags ") (reply_count (codes "flag") replies)
    (count_line (codes "refusals ") (reply_count (codes "no") replies) []))))
