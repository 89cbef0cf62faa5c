-- Classifies a word: keyword, unsupported word, or name.
use Rattle.std.specs.Prelude.{ℕ, List, Option, Some, None, option_map}
use Rattle.hippo_values.specs.Names.{lower_case, reserved_of, name_of}
use Rattle.hippo_values.specs.declared.keywords.Reserved.{Reserved}
use Rattle.hippo_values.specs.declared.keywords.Reserved.TheVariants as reserved
use Rattle.hippo_values.specs.declared.words.Word.{Word}
use Rattle.hippo_values.specs.declared.words.Word.TheVariants as words

-- the meaning of a word, given why it is reserved; an unreserved word is a name, or nothing if it
-- is not a valid name
abbrev pub said_by : List ℕ → Option Reserved → Option Word
said_by word (Some (reserved.Keyword keyword)) = Some (words.Keyword keyword)
said_by word (Some reserved.Unsupported) = Some (words.Unsupported (lower_case word))
said_by word None = option_map words.Name (name_of word)

-- the meaning of a word: a keyword, a word that hippo refuses, or a name
unfoldable pub word_of : List ℕ → Option Word
word_of word = said_by word (reserved_of word)
