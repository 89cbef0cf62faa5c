-- The limits of the language: the longest lengths, in bytes, the largest counts, the deepest
-- nesting of a statement, and the largest numbers that a line may name.
use Rattle.std.specs.Prelude.{ℕ}

-- the most bytes in a text cell
abbrev pub text_limit : ℕ
text_limit = 4096

-- the most bytes in a text cell that is stored inline
abbrev pub short_text_limit : ℕ
short_text_limit = 22

-- the most bytes in a name
abbrev pub name_limit : ℕ
name_limit = 63

-- the most bytes in an input line, before its line feed, and in the text of a query
abbrev pub line_limit : ℕ
line_limit = 65536

-- the most days after a row's birth for which a rule may show its cells: a hundred years
abbrev pub retention_limit : ℕ
retention_limit = 36500

-- the most tables in a database
abbrev pub table_limit : ℕ
table_limit = 64

-- the most columns in a table
abbrev pub column_limit : ℕ
column_limit = 64

-- the most by which `(` may outnumber `)` in any prefix of a statement, and the most NOTs in it
abbrev pub depth_limit : ℕ
depth_limit = 64

-- the most tables in a FROM list
abbrev pub from_limit : ℕ
from_limit = 4

-- the most items of a select, columns of its GROUP BY, and columns of an audit
abbrev pub item_limit : ℕ
item_limit = 128

-- the most exempt pairs of an audit
abbrev pub pair_limit : ℕ
pair_limit = 64

-- the largest session number; sessions are counted from 0, which is the console
abbrev pub session_limit : ℕ
session_limit = 64

abbrev pub cursor_limit : ℕ
cursor_limit = 4

abbrev pub job_limit : ℕ
job_limit = 8

abbrev pub watch_limit : ℕ
watch_limit = 8

-- the most rows that one line may fetch
abbrev pub fetch_limit : ℕ
fetch_limit = 100000

-- the most entries that one step of a job may read
abbrev pub step_limit : ℕ
step_limit = 1000000
