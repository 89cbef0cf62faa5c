-- What is refused before parsing: tokens that nest too deep, and unsupported words of SQL.
use Rattle.std.specs.Prelude.{ℕ, ◌+◌, Bool, true, false, ◌||◌, List, length, take, count_by, position, nat_lt, Option, Some, None, Result, Ok, Err, if◌then◌else◌}
use Rattle.std.specs.List.{list_any, range_with_len}
use denote.Enum.Bare.{sameb}
use Rattle.hippo_values.specs.Limits.{depth_limit}
use Rattle.hippo_values.specs.declared.keywords.Keyword.TheVariants.{KNot}
use Rattle.hippo_lexer.specs.contracts.kinds.Symbol as symbols
use Rattle.hippo_lexer.specs.declared.kinds.Symbol.{Symbol}
use Rattle.hippo_lexer.specs.declared.kinds.Symbol.TheVariants.{LeftParen, RightParen}
use Rattle.hippo_lexer.specs.declared.kinds.TokenKind.TheVariants as kinds
use Rattle.hippo_lexer.specs.declared.kinds.TokenKind.{TokenKind}
use Rattle.hippo_lexer.specs.declared.kinds.Token.{Token}
use Rattle.hippo_lexer.specs.declared.faults.SyntaxFault.{SyntaxFault}
use Rattle.hippo_lexer.specs.declared.faults.SyntaxFault.TheVariants.{TooDeep, Unsupported}

abbrev pub same_symbol : Symbol → Symbol → Bool
same_symbol one other = sameb symbols.the_type one other

-- whether a token is this symbol
abbrev pub is_symbol : Symbol → TokenKind → Bool
is_symbol symbol (kinds.Symbol other) = same_symbol other symbol
is_symbol symbol _ = false

-- whether a token is `(`
abbrev pub is_left_paren : TokenKind → Bool
is_left_paren kind = is_symbol LeftParen kind

-- whether a token is `)`
abbrev pub is_right_paren : TokenKind → Bool
is_right_paren kind = is_symbol RightParen kind

-- whether a token is NOT
abbrev pub negates : TokenKind → Bool
negates (kinds.Keyword KNot) = true
negates _ = false

-- whether a token is a word of SQL that hippo refuses
abbrev pub is_unsupported : TokenKind → Bool
is_unsupported (kinds.Unsupported _) = true
is_unsupported _ = false

-- how many tokens pass a test
abbrev pub token_count : (TokenKind → Bool) → List Token → ℕ
token_count test tokens = count_by (λ token. test token.kind) tokens

-- whether `(` outnumbers `)` by more than the limit
abbrev pub is_steep : List Token → Bool
is_steep tokens =
    nat_lt (token_count is_right_paren tokens + depth_limit) (token_count is_left_paren tokens)

-- whether `(` outnumbers `)` by more than the limit in some prefix of the tokens, or more tokens
-- than the limit are NOT
abbrev pub is_too_deep : List Token → Bool
is_too_deep tokens =
    list_any (λ n. is_steep (take n tokens)) (range_with_len 0 (length tokens + 1))
    || nat_lt depth_limit (token_count negates tokens)

-- the fault for the first refused word, if there is one
abbrev pub support_of : Option ℕ → Result (Unit {0}) SyntaxFault
support_of None = Ok tt
support_of (Some place) = Err (Unsupported place)

-- the check of a statement's words: first the depth, then the first refused word
unfoldable pub words_check : List Token → Result (Unit {0}) SyntaxFault
words_check tokens =
    if is_too_deep tokens then Err TooDeep
    else support_of (position (λ token. is_unsupported token.kind) tokens)
