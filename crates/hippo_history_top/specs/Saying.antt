-- The lines that the program writes besides what it shows, and the result of a write.
use Rattle.std.specs.Prelude.{◌≡◌, ◌≢◌, ℕ, ◌++◌, Option, Some, None, codes}
use Rattle.hippo_values.specs.Texts.{Txt}
use Rattle.hippo_io.specs.Faults.{HasRisen}
use Rattle.hippo_io.specs.Told.{Appends, AppendsFront}
use Rattle.hippo_program_args.specs.declared.endings.Ending.{Ending}
use Rattle.hippo_program_args.specs.declared.endings.Ending.TheVariants.{WriteFault, NoMemory}

-- how to call the program
unfoldable pub showing_usage : Txt
showing_usage =
    codes "usage: hippo_history --store NAME [--entry N | --at N|MOMENT | [--from N|MOMENT] [--to N|MOMENT]] [--table NAME]"
    ++ codes " [--rules | --users | --digest | --patient N | --carry | [--tables] [--script]]"
    ++ codes " [--format text|json|csv|html]\n"

-- there is no store with the name in the words
unfoldable pub missing_line : Txt
missing_line = codes "there is no store with this name\n"

-- a text is written; or the sink failed, and a prefix of it is written; or memory ran out, and
-- nothing is written
abbrev pub Writes : Txt → Option Ending → Option Txt → Option Txt → ℕ → ℕ → Type 0
Writes text None before after faults faults' = Appends before after text × (faults' ≡ faults)
Writes text (Some WriteFault) before after faults faults' =
    AppendsFront before after text × HasRisen faults faults'
Writes text (Some NoMemory) before after faults faults' = (after ≡ before) × (faults' ≡ faults)
Writes text (Some ending) before after faults faults' = ⊥

-- the sink's count of faults rose exactly if the program ends by its fault
pub record CountsWrites (result : Option Ending) (faults faults' : ℕ) : Type 0 where
  pub cause : result ≡ Some WriteFault → HasRisen faults faults'
  pub unfailed : result ≢ Some WriteFault → faults' ≡ faults
