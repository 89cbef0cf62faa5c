-- Laws on the meanings of texts.
use Rattle.std.specs.Prelude.{◌≡◌, ◌↔◌, Some}
use Rattle.hippo_values.specs.Texts.{Txt}
use Rattle.hippo_model.specs.declared.query.Query.{Query}
use Rattle.hippo_model.specs.Terms.{History, Meaning}
use Rattle.hippo_typing_catalog.specs.Catalogs.{KnownNames, known_at}
use Rattle.hippo_typing.specs.Meanings.{Means, meaning}

-- a function gives each text the query that it means, and gives no query to any other text
abbrev pub SaysWhatTextsMean : Meaning → Type 0
SaysWhatTextsMean meaning =
    (history : History) (text : Txt) (query : Query) →
    (meaning history text ≡ Some query) ↔ Means (known_at history) text query

abbrev pub MeaningIsThatOfTexts : Type 0
MeaningIsThatOfTexts = SaysWhatTextsMean meaning

-- a text has at most one meaning
abbrev pub AtMostOneMeaning : Type 0
AtMostOneMeaning =
    (known : KnownNames) (text : Txt) (one other : Query) → Means known text one
    → Means known text other → one ≡ other
