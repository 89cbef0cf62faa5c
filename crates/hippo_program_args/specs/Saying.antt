-- What a program writes as it ends.
use Rattle.std.specs.Prelude.{◌≡◌, ◌⊎◌, ℕ, Option}
use Rattle.hippo_values.specs.Texts.{Txt}
use Rattle.hippo_io.specs.Faults.{HasRisen}
use Rattle.hippo_io.specs.Told.{Appends, AppendsFront}

-- a line is written, and the program ends this way; or the sink failed, a prefix of the line is
-- written, and the program is cut off
abbrev pub Says : {Ending : Type 0} → Ending → Txt → Ending → Ending → Option Txt → Option Txt
    → ℕ → ℕ → Type 0
Says ending line cut result before after faults faults' =
    ((result ≡ ending) × Appends before after line × (faults' ≡ faults))
    ⊎ ((result ≡ cut) × AppendsFront before after line × HasRisen faults faults')
