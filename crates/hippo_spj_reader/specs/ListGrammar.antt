-- The grammar of lists of parts with a separator between them.
use Rattle.std.specs.Prelude.{List, [], ◌∷◌}
use Rattle.hippo_values.specs.declared.names.Name.{Name}
use Rattle.hippo_lexer.specs.declared.kinds.TokenKind.{TokenKind}
use Rattle.hippo_lexer.specs.declared.kinds.TokenKind.TheVariants.{Word}
use Rattle.hippo_spj_reader.specs.Front.{Kinds}

-- a name
pub data IsName : Kinds → Name → Kinds → Type 0 where
  name : {n : Name} {rest : Kinds} → IsName (Word n ∷ rest) n rest

-- part {separator part}: the tokens begin with such a list, with these parts, and this follows it
pub data IsListOf {X : Type 0} (IsPart : Kinds → X → Kinds → Type 0) (separator : TokenKind) :
    Kinds → List X → Kinds → Type 0 where
  last_part : {part : X} {tokens rest : Kinds} →
      IsPart tokens part rest → IsListOf IsPart separator tokens (part ∷ []) rest
  more_parts : {part : X} {parts : List X} {tokens others rest : Kinds} →
      IsPart tokens part (separator ∷ others) → IsListOf IsPart separator others parts rest →
      IsListOf IsPart separator tokens (part ∷ parts) rest
