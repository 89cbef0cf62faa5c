-- What a state says of a history.
use Rattle.std.specs.Prelude.{◌≡◌, Bool, true, false, [], ◌∷◌, ◌++◌, length, int_le, Some, unwrap_or}
use Rattle.hippo_values.specs.Moments.{first_moment}
use Rattle.hippo_values.specs.declared.moments.Moment.{Moment}
use Rattle.hippo_model.specs.declared.entry.Act.{Act}
use Rattle.hippo_model.specs.declared.entry.Act.TheVariants.{Delete, Asked}
use Rattle.hippo_model.specs.declared.entry.Entry.{Entry}
use Rattle.hippo_model.specs.Terms.{History}
use Rattle.hippo_model.specs.Histories.{last_word}
use Rattle.hippo_model.specs.Validity.{may_follow, is_valid}
use Rattle.hippo_typing_catalog.specs.Catalogs.{known_at, known_after}
use Rattle.hippo_typing_catalog.specs.NewestNames.{RemembersNames}
use Rattle.hippo_policy.specs.Books.{BookRepresents, RemembersMatter, BookAdds}
use Rattle.hippo_tables.specs.Standing.{TablesStandFor, RemembersTables as RemembersRows, TablesAdd}
use Rattle.hippo_typing.specs.Meanings.{meaning}
use Rattle.hippo_replay.specs.declared.state.State.{State}

-- the moment of the last entry, or the earliest moment if there is none
abbrev pub latest_moment : History → Moment
latest_moment history = unwrap_or (last_word (λ entry. Some entry.moment) history) first_moment

-- the history is valid, and the state holds its contents: names, rules, rows, the number of
-- entries, and the moment of the last one
pub record Represents (state : State) (history : History) : Type 0 where
  pub valid : is_valid meaning history ≡ true
  pub names : state.catalog.names ≡ known_at history
  pub book : BookRepresents state.book history
  pub tables : TablesStandFor state.tables history
  pub count : state.count ≡ length history
  pub last : state.last ≡ latest_moment history

-- there is a history for which the state stands
pub record IsSound (state : State) : Type 0 where
  pub history : History
  pub stands : Represents state history

-- an entry may follow each history for which the state stands
abbrev pub MayFollow : State → Entry → Type 0
MayFollow state entry =
    (history : History) → Represents state history → may_follow meaning history entry ≡ true

-- a moment is not earlier than that of the last entry
abbrev pub IsTimely : State → Moment → Type 0
IsTimely state moment = int_le state.last moment ≡ true

-- there is a history for which the state stands, and this entry may follow it
pub record IsNext (state : State) (entry : Entry) : Type 0 where
  pub history : History
  pub stands : Represents state history
  pub follows : may_follow meaning history entry ≡ true

-- whether a state takes in an act without allocating memory: a Delete, or a question
abbrev pub takes_no_memory : Act → Bool
takes_no_memory (Delete table key) = true
takes_no_memory (Asked user purpose recipient text) = true
takes_no_memory act = false

-- the catalog, the book and the tables have taken in an entry
pub record PartsAdd (old new : State) (entry : Entry) : Type 0 where
  pub names : new.catalog.names ≡ known_after old.catalog.names entry.act
  pub newest : RemembersNames new.catalog.newest entry.act
  pub book : BookAdds old.book new.book entry.seq entry.act
  pub tables : TablesAdd old.tables new.tables entry

-- the state stands for a history with this entry at its end, and remembers what it was before that
-- entry
pub record Remembers (state : State) (history : History) (entry : Entry) : Type 0 where
  pub stands : Represents state (history ++ entry ∷ [])
  pub names : RemembersNames state.catalog.newest entry.act
  pub matter : RemembersMatter state.book entry.act
  pub rows : RemembersRows state.tables history
  pub moment : state.earlier ≡ latest_moment history
