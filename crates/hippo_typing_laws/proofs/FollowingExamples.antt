-- What may follow, in small histories.
use Rattle.std.proofs.Common.{◌≡◌, [], ◌∷◌, codes, Some, None, true, false, refl, pos}
use Rattle.std.specs.Prelude.{⊤}
use Rattle.hippo_values.specs.Names.{keywords, unsupported_words}
use Rattle.hippo_values.specs.declared.names.Name.{Name}
use Rattle.hippo_model.specs.declared.entry.Act.TheVariants as acts
use Rattle.hippo_model.specs.declared.schema.ColumnKind.TheVariants.{Integer, Text}
use Rattle.hippo_model.specs.declared.schema.Schema.{Schema}
use Rattle.hippo_stmt_ast.specs.declared.statement.Stmt.{Stmt}
use Rattle.hippo_stmt_ast.specs.declared.statement.Stmt.TheVariants as stmt
use Rattle.hippo_model.specs.declared.wanted.Wanted.TheVariants.{Ready}
use Rattle.hippo_model.specs.Terms.{Meaning}
use Rattle.hippo_model.specs.Validity.{may_follow}
use Rattle.hippo_typing_laws.specs.FollowingLaws.{following_entry, HasRoomAt, ComesTo}
use Rattle.hippo_typing_laws.specs.Written.{is_written}
use Rattle.hippo_typing_laws.proofs.FollowingTheorem.{changes_may_follow}

-- unfolds the list of reserved words
unfoldable reading : ⊤
unfolding keywords unsupported_words
reading = tt

abbrev id : Name
id = codes "id"

-- CREATE TABLE patient (id INTEGER, name TEXT, PRIMARY KEY (id), SUBJECT id)
abbrev patients : Stmt
patients = stmt.CreateTable (codes "patient") (record { name = id; kind = Integer; not_null = false } ∷ record { name = codes "name"; kind = Text; not_null = false } ∷ []) (id ∷ []) (Some id)

-- the key's column is NOT NULL
abbrev patient : Schema
patient = record {
  name = codes "patient";
  columns = record { name = id; kind = Integer; not_null = true } ∷ record { name = codes "name"; kind = Text; not_null = false } ∷ [];
  key = 0 ∷ [];
  subject = Some 0;
}

at_first : HasRoomAt [] (pos 0)
at_first = record { number = refl; moment_fits = refl; order = refl }

makes_patients : ComesTo [] patients (acts.Create patient)
unfolding reading
makes_patients = record { written = refl; unrefused = refl; wanted = Ready (acts.Create patient); wants = refl; comes = refl }

-- so its entry may be the first
patients_may_follow : (meaning : Meaning) → may_follow meaning [] (following_entry [] (pos 0) (acts.Create patient)) ≡ true
patients_may_follow meaning = changes_may_follow meaning [] (pos 0) patients (acts.Create patient) refl at_first makes_patients

-- a rule without columns, or for no day, is not well formed
without_columns : is_written (stmt.Revoke (codes "treatment") (codes "nurse") (codes "patient") []) ≡ false
unfolding reading
without_columns = refl

for_no_day : is_written (stmt.Allow (codes "treatment") (codes "nurse") (codes "patient") (id ∷ []) None (Some 0)) ≡ false
unfolding reading
for_no_day = refl

for_a_hundred_years : is_written (stmt.Allow (codes "treatment") (codes "nurse") (codes "patient") (id ∷ []) None (Some 36500)) ≡ true
unfolding reading
for_a_hundred_years = refl
