-- What can be found at the front of a list of tokens.
use Rattle.std.specs.Prelude.{ℕ, Bool, List, ◌∷◌, map, Option, Some, None, if◌then◌else◌, slice_range, bytes_eq}
use denote.Enum.Bare.{sameb}
use Rattle.hippo_values.specs.declared.names.Name.{Name}
use Rattle.hippo_values.specs.Texts.{Txt}
use Rattle.hippo_values.specs.declared.values.Value.{Value}
use Rattle.hippo_values.specs.declared.values.Value.TheVariants as value
use Rattle.hippo_values.specs.contracts.keywords.Keyword as keywords
use Rattle.hippo_values.specs.declared.keywords.Keyword as words
use Rattle.hippo_values.specs.declared.keywords.Keyword.TheVariants.{KNull}
use Rattle.hippo_lexer.specs.declared.kinds.Symbol as signs
use Rattle.hippo_lexer.specs.declared.kinds.Token.{Token}
use Rattle.hippo_lexer.specs.declared.kinds.TokenKind.{TokenKind}
use Rattle.hippo_lexer.specs.declared.kinds.TokenKind.TheVariants.{Word, Keyword, Number, Quoted, Day, Symbol}
pub use Rattle.hippo_lexer.specs.Words.{same_symbol}

-- what tokens say, in order
abbrev pub Kinds : Type 0
Kinds = List TokenKind

-- a function that finds a part at the front of the tokens, and what follows it
abbrev pub Finder : Type 0 → Type 0
Finder X = Kinds → Option (X × Kinds)

-- what the tokens say, without their places
abbrev pub kinds : List Token → Kinds
kinds tokens = map (λ token. token.kind) tokens

-- what the tokens say from place `first` up to, but not including, place `last`
abbrev pub kinds_between : List Token → ℕ → ℕ → Kinds
kinds_between tokens first last = kinds (slice_range tokens first last)

abbrev pub same_keyword : words.Keyword → words.Keyword → Bool
same_keyword one other = sameb keywords.the_type one other

-- what follows the keyword, if it comes first
abbrev pub after_keyword : words.Keyword → Kinds → Option Kinds
after_keyword keyword (Keyword first ∷ rest) =
    if same_keyword first keyword then Some rest else None
after_keyword keyword tokens = None

-- what follows the symbol, if it comes first
abbrev pub after_symbol : signs.Symbol → Kinds → Option Kinds
after_symbol symbol (Symbol first ∷ rest) = if same_symbol first symbol then Some rest else None
after_symbol symbol tokens = None

-- what follows the word, a name, if it comes first
abbrev pub after_word : Txt → Kinds → Option Kinds
after_word word (Word first ∷ rest) = if bytes_eq first word then Some rest else None
after_word word tokens = None

-- the name at the front, and what follows it
abbrev pub leading_name : Finder Name
leading_name (Word name ∷ rest) = Some (name, rest)
leading_name tokens = None

-- literal = number | quoted | day | NULL
abbrev pub leading_literal : Finder Value
leading_literal (Number number ∷ rest) = Some (value.Int number, rest)
leading_literal (Quoted text ∷ rest) = Some (value.Text text, rest)
leading_literal (Day day ∷ rest) = Some (value.Day day, rest)
leading_literal (Keyword keyword ∷ rest) =
    if same_keyword keyword KNull then Some (value.Null, rest) else None
leading_literal tokens = None
