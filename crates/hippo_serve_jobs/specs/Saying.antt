-- The lines that the program writes besides its replies.
use Rattle.std.specs.Prelude.{ℕ, ◌++◌, codes}
use Rattle.hippo_values.specs.Texts.{Txt}
use Rattle.hippo_program_args.specs.Lines.{numbered_line}

-- how to call the program
unfoldable pub usage : Txt
usage =
    codes "usage: hippo run|check|drill|load [--store NAME] [--history N] [--size N] [--number N]"
    ++ codes " [--format text|json|csv] [--table NAME] [--moment MOMENT]\n"

-- how many entries are stored
abbrev pub entries_line : ℕ → Txt
entries_line count = numbered_line (codes "entries ") count
