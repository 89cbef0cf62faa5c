-- Which stored entries a keeper may return for a read.
use Rattle.std.specs.Prelude.{◌≡◌, ℕ, Bool, true, false, ◌&&◌, nat_lt, int_le}
use Rattle.hippo_values.specs.declared.moments.Moment.{Moment}
use Rattle.hippo_model.specs.declared.entry.Act.{Act}
use Rattle.hippo_model.specs.declared.entry.Act.TheVariants.{Asked}
use Rattle.hippo_model.specs.declared.entry.Entry.{Entry}
use Rattle.hippo_model.specs.declared.schema.Schema.{Schema}
use Rattle.hippo_model.specs.declared.stored.StoredEntry.{StoredEntry}
use Rattle.hippo_model.specs.Terms.{History, Meaning}
use Rattle.hippo_model.specs.StoredForms.{stored}
use Rattle.hippo_model.specs.Keepable.{is_keepable}
use Rattle.hippo_model.specs.Versions.{version_fits}
use Rattle.hippo_model.specs.Validity.{is_acceptable}

abbrev pub is_question : Act → Bool
is_question (Asked user purpose recipient text) = true
is_question act = false

-- whether an act is a query that may follow the entries so far
abbrev pub question_fits : Meaning → History → Act → Bool
question_fits meaning history act = is_question act && is_acceptable meaning history act

-- whether an entry may be returned when a table's versions with numbers above `after` are read; the
-- versions before it are `earlier`
abbrev pub is_wanted_version : Schema → ℕ → History → Entry → Bool
is_wanted_version schema after earlier entry =
    nat_lt after entry.seq && version_fits schema earlier entry.act

-- whether an entry may be returned when the queries of a period with numbers above `after` are
-- read; `history` are the entries so far
abbrev pub is_wanted_question : Meaning → Moment → Moment → ℕ → History → Entry → Bool
is_wanted_question meaning from to after history entry =
    nat_lt after entry.seq && int_le from entry.moment && int_le entry.moment to
    && question_fits meaning history entry.act

-- a stored entry fits a read if it is the stored form of an entry that can be stored and that the
-- read asks for; any other is unfit
pub record IsFit (was_asked : Entry → Bool) (kept : StoredEntry) : Type 0 where
  pub entry : Entry
  pub form : stored entry ≡ kept
  pub keepable : is_keepable entry ≡ true
  pub asked : was_asked entry ≡ true
