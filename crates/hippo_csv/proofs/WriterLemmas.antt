-- The text of a record does not depend on whether records may differ in length.
use Rattle.std.proofs.Common.{◌≡◌, ℕ, List, [], ◌∷◌, ◌++◌, ◌∙◌, true, refl, sym, ap}
use Rattle.std.proofs.lemmas.List.{append-nil}
use Rattle.csv.specs.Writing.{default_writer, with_flexible, escaped, field_text, fields_text, is_blank, row_text}

escaped-flexible : (field : List ℕ) → escaped (with_flexible default_writer true) field ≡ escaped default_writer field
unfolding escaped
escaped-flexible [] = refl
escaped-flexible (byte ∷ rest) = rw (escaped-flexible rest) refl

field-flexible : (field : List ℕ) → field_text (with_flexible default_writer true) field ≡ field_text default_writer field
field-flexible field = rw (escaped-flexible field) refl

fields-flexible : (fields : List (List ℕ)) → fields_text (with_flexible default_writer true) fields ≡ fields_text default_writer fields
unfolding fields_text
fields-flexible [] = refl
fields-flexible (field ∷ rest) = rw (escaped-flexible field, fields-flexible rest) refl

pub row-flexible : (fields : List (List ℕ)) → row_text (with_flexible default_writer true) fields ≡ row_text default_writer fields
unfolding is_blank fields_text
row-flexible [] = refl
row-flexible (field ∷ []) = rw (escaped-flexible field) refl
row-flexible (field ∷ next ∷ rest) = rw (escaped-flexible field, escaped-flexible next, fields-flexible rest) refl

-- if nothing is left to write out before and after, the output grows by what was written
pub handed_on : (old left all new rest row same : List ℕ) → new ++ rest ≡ all → rest ≡ [] → all ≡ (old ++ left) ++ row → left ≡ []
    → row ≡ same → new ≡ old ++ same
handed_on old left all new rest row same flushed done wrote none alike =
    sym (append-nil new) ∙ ap (λ remaining. new ++ remaining) (sym done) ∙ flushed ∙ wrote
    ∙ ap (λ remaining. (old ++ remaining) ++ row) none ∙ ap (λ front. front ++ row) (append-nil old) ∙ ap (λ text. old ++ text) alike
