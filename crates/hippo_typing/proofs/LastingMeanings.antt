-- A text keeps its meaning when entries are added to the history.
use Rattle.std.proofs.Common.{◌≡◌, ◌∙◌, sym, ◌++◌, Some}
use Rattle.hippo_values.specs.Texts.{Txt}
use Rattle.hippo_model.specs.declared.query.Query.{Query}
use Rattle.hippo_model.specs.Terms.{History}
use Rattle.hippo_typing_catalog.specs.Catalogs.{known_at}
use Rattle.hippo_typing.specs.Meanings.{meaning}
use Rattle.hippo_typing.proofs.LastingNames.{extends_later, select_lasts}
use Rattle.hippo_typing.proofs.MeaningTheorem.{Means-found, found-Means}

-- a text keeps its meaning
pub meaning_lasts : (front later : History) (text : Txt) (query : Query) → meaning front text ≡ Some query → meaning (front ++ later) text ≡ Some query
meaning_lasts front later text query is =
    let means = Means-found (known_at front) text query is in
    let lasts = select_lasts (known_at front) (known_at (front ++ later)) (extends_later front later) means.select means.right in
    found-Means (known_at (front ++ later)) text query (record {
      select = means.select;
      read = means.read;
      right = lasts.0;
      meant = means.meant ∙ sym lasts.1;
    })
