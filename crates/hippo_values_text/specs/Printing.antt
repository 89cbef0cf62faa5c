-- The printed form of a value, and the effect of a printer on a text.
use Rattle.std.specs.Prelude.{◌≡◌, ℕ, ◌++◌, List, length, take, codes, Result, OnOk, OnErr}
use Rattle.std.specs.Fmt.{signed_decimal}
use Rattle.hippo_values_text.specs.Dates.{day_text}
use Rattle.hippo_values_text.specs.Quoting.{quoted_text}
use Rattle.hippo_values.specs.declared.values.Value.{Value}
use Rattle.hippo_values.specs.declared.values.Value.TheVariants.{Null, Int, Text, Day}

-- the printed form of a value
abbrev pub value_text : Value → List ℕ
value_text Null = codes "NULL"
value_text (Int number) = signed_decimal number
value_text (Text text) = quoted_text text
value_text (Day day) = day_text day

-- the old text is a prefix of the new one
abbrev pub KeepsFront : List ℕ → List ℕ → Type 0
KeepsFront old new = take (length old) new ≡ old

-- a text is appended to the old one; the old text stays a prefix even if the call fails
pub record AppendsText {A E : Type 0} (text : List ℕ) (result : Result A E) (old new : List ℕ)
    : Type 0 where
  pub ok : OnOk result (new ≡ old ++ text)
  pub err : OnErr result (KeepsFront old new)
