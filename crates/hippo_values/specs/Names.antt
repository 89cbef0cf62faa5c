-- Which words are names, and which words are reserved.
use Rattle.std.specs.Prelude.{ℕ, ◌-◌, ◌==◌, Bool, false, not, ◌&&◌, ◌||◌, List, [], ◌∷◌, map, length, nat_le, Option, Some, None, is_some, option_map, if◌then◌else◌, codes, bytes_eq}
use Rattle.std.specs.Option.{option_or}
use Rattle.std.specs.List.{list_any, list_all}
use Rattle.std.specs.Map.{lookup}
use Rattle.std.specs.Char.{is_ascii_alphabetic, is_ascii_digit, to_ascii_lowercase}
use Rattle.hippo_values.specs.Limits.{name_limit}
use Rattle.hippo_values.specs.declared.keywords.Keyword.{Keyword}
use Rattle.hippo_values.specs.declared.keywords.Keyword.TheVariants.{KAnd, KAllow, KAudit, KAuthorize, KBegin, KBetween, KChoice, KCreate, KDate, KDeauthorize, KDelete, KDistinct, KDuring, KExplain, KFor, KFrom, KGroup, KIn, KInner, KInsert, KInteger, KInto, KIs, KItem, KJoin, KKey, KMax, KMin, KNo, KNot, KNull, KOn, KOpen, KOpt, KOtherthan, KOut, KPrimary, KPurpose, KRecipient, KRevoke, KSelect, KSet, KShown, KSubject, KTable, KText, KTo, KUpdate, KValues, KWhere, KWith, KYes, KOr}
use Rattle.hippo_values.specs.declared.keywords.Reserved.{Reserved}
use Rattle.hippo_values.specs.declared.keywords.Reserved.TheVariants as reserved

-- a word in lower case
abbrev pub lower_case : List ℕ → List ℕ
lower_case word = map to_ascii_lowercase word

-- the keywords of the grammar
unfoldable pub keywords : List (List ℕ × Keyword)
keywords =
    (codes "and", KAnd) ∷ (codes "allow", KAllow) ∷ (codes "audit", KAudit)
    ∷ (codes "authorize", KAuthorize) ∷ (codes "begin", KBegin) ∷ (codes "between", KBetween)
    ∷ (codes "choice", KChoice) ∷ (codes "create", KCreate) ∷ (codes "date", KDate)
    ∷ (codes "deauthorize", KDeauthorize) ∷ (codes "delete", KDelete)
    ∷ (codes "distinct", KDistinct) ∷ (codes "during", KDuring) ∷ (codes "explain", KExplain)
    ∷ (codes "for", KFor) ∷ (codes "from", KFrom) ∷ (codes "group", KGroup) ∷ (codes "in", KIn)
    ∷ (codes "inner", KInner) ∷ (codes "insert", KInsert) ∷ (codes "integer", KInteger)
    ∷ (codes "into", KInto) ∷ (codes "is", KIs) ∷ (codes "item", KItem) ∷ (codes "join", KJoin)
    ∷ (codes "key", KKey) ∷ (codes "max", KMax) ∷ (codes "min", KMin) ∷ (codes "no", KNo)
    ∷ (codes "not", KNot) ∷ (codes "null", KNull) ∷ (codes "on", KOn) ∷ (codes "open", KOpen)
    ∷ (codes "opt", KOpt) ∷ (codes "otherthan", KOtherthan) ∷ (codes "out", KOut)
    ∷ (codes "primary", KPrimary) ∷ (codes "purpose", KPurpose) ∷ (codes "recipient", KRecipient)
    ∷ (codes "revoke", KRevoke) ∷ (codes "select", KSelect) ∷ (codes "set", KSet)
    ∷ (codes "shown", KShown) ∷ (codes "subject", KSubject) ∷ (codes "table", KTable)
    ∷ (codes "text", KText) ∷ (codes "to", KTo) ∷ (codes "update", KUpdate)
    ∷ (codes "values", KValues) ∷ (codes "where", KWhere) ∷ (codes "with", KWith)
    ∷ (codes "yes", KYes) ∷ (codes "or", KOr) ∷ []

-- the words of SQL that hippo refuses everywhere
unfoldable pub unsupported_words : List (List ℕ)
unsupported_words =
    codes "all" ∷ codes "alter" ∷ codes "any" ∷ codes "as" ∷ codes "avg" ∷ codes "case"
    ∷ codes "cast" ∷ codes "count" ∷ codes "cross" ∷ codes "drop" ∷ codes "except" ∷ codes "exists"
    ∷ codes "full" ∷ codes "having" ∷ codes "intersect" ∷ codes "left" ∷ codes "like"
    ∷ codes "limit" ∷ codes "natural" ∷ codes "offset" ∷ codes "order" ∷ codes "outer"
    ∷ codes "right" ∷ codes "sum" ∷ codes "union" ∷ codes "using" ∷ codes "window" ∷ []

-- the keyword that a word spells, in any case
abbrev pub keyword_of : List ℕ → Option Keyword
keyword_of word = lookup (λ known. bytes_eq known (lower_case word)) keywords

-- whether a word, in any case, is one of these
abbrev pub is_among : List (List ℕ) → List ℕ → Bool
is_among words word = list_any (λ known. bytes_eq known (lower_case word)) words

-- why a word cannot be a name, if it is reserved
abbrev pub reserved_of : List ℕ → Option Reserved
reserved_of word =
    option_or (option_map reserved.Keyword (keyword_of word))
    (if is_among unsupported_words word then Some reserved.Unsupported else None)

abbrev pub is_reserved : List ℕ → Bool
is_reserved word = is_some (reserved_of word)

-- a letter, a digit or `_`
abbrev pub is_word_byte : ℕ → Bool
is_word_byte byte = is_ascii_alphabetic byte || is_ascii_digit byte || byte == 95

abbrev pub begins_with_letter : List ℕ → Bool
begins_with_letter [] = false
begins_with_letter (first ∷ rest) = is_ascii_alphabetic first

-- the index of the first letter in the alphabet, from 0
abbrev pub letter_of : List ℕ → Option ℕ
letter_of [] = None
letter_of (first ∷ rest) =
    if is_ascii_alphabetic first then Some (to_ascii_lowercase first - 97) else None

-- a letter, and then letters, digits and `_`
abbrev pub is_word : List ℕ → Bool
is_word word = begins_with_letter word && list_all is_word_byte word

-- a word of at most 63 bytes that is not reserved
abbrev pub is_name : List ℕ → Bool
is_name word = is_word word && nat_le (length word) name_limit && not (is_reserved word)

-- the name that a word spells: the word in lower case, if it is a name
abbrev pub name_of : List ℕ → Option (List ℕ)
name_of word = if is_name word then Some (lower_case word) else None
