-- The keeper's SQL statements, and what its reads ask for.
use Rattle.std.specs.Prelude.{ℕ, ℤ, pos, List, [], ◌∷◌, codes, Result, IfOk, IfErr, Vec}
use Rattle.std.specs.declared.alloc.Global.{Global}
use Rattle.sqlite_value.specs.declared.value.Value.TheVariants.{Int, Text}
use Rattle.sqlite_value.specs.Order.{Row}
use Rattle.sqlite.specs.declared.error.Error.{Error}
use Rattle.sqlite.specs.State.{State, HasCleanDisk, Survives, Shown, FailsToQuery, CommitsShowing}
use Rattle.hippo_keeper.specs.declared.selection.Selection.{Selection}
use Rattle.hippo_keeper.specs.declared.selection.Selection.TheVariants.{All, VersionsOf, AskedIn}

abbrev pub create_sql : List ℕ
create_sql =
    codes "CREATE TABLE IF NOT EXISTS history (seq INTEGER PRIMARY KEY, moment INTEGER NOT NULL, kind INTEGER NOT NULL, tbl TEXT NOT NULL, body BLOB NOT NULL) STRICT"

abbrev pub insert_sql : List ℕ
insert_sql = codes "INSERT INTO history (seq, moment, kind, tbl, body) VALUES (?1, ?2, ?3, ?4, ?5)"

abbrev pub all_sql : List ℕ
all_sql =
    codes "SELECT seq, moment, kind, tbl, body FROM history WHERE seq > ?1 ORDER BY seq LIMIT ?2"

abbrev pub versions_sql : List ℕ
versions_sql =
    codes "SELECT seq, moment, kind, tbl, body FROM history WHERE tbl = ?1 AND kind >= 2 AND kind <= 4 AND seq > ?2 ORDER BY seq LIMIT ?3"

abbrev pub questions_sql : List ℕ
questions_sql =
    codes "SELECT seq, moment, kind, tbl, body FROM history WHERE kind = 13 AND moment >= ?1 AND moment <= ?2 AND seq > ?3 ORDER BY seq LIMIT ?4"

-- the SQL text of a read
abbrev pub read_sql : Selection → List ℕ
read_sql All = all_sql
read_sql (VersionsOf table) = versions_sql
read_sql (AskedIn from to) = questions_sql

-- the parameters of a read of versions, and then of questions, for up to `max` rows with a number
-- above `after`
abbrev pub versions_params : List ℕ → ℕ → ℕ → Row
versions_params table after max = Text table ∷ Int (pos after) ∷ Int (pos max) ∷ []

abbrev pub asked_params : ℤ → ℤ → ℕ → ℕ → Row
asked_params from to after max = Int from ∷ Int to ∷ Int (pos after) ∷ Int (pos max) ∷ []

abbrev pub params_of : Selection → ℕ → ℕ → Row
params_of All after max = Int (pos after) ∷ Int (pos max) ∷ []
params_of (VersionsOf table) after max = versions_params table.now after max
params_of (AskedIn from to) after max = asked_params from to after max

-- what a query did: it returned rows or failed, and a stop leaves only what the query may commit
pub record HasQueried (text : List ℕ) (params : Row) (result : Result (Vec Row Global) Error)
    (old new : State) : Type 0 where
  pub ok : HasCleanDisk new → IfOk result (λ rows. Shown text params old new rows.items)
  pub err : HasCleanDisk new → IfErr result (FailsToQuery text params old new)
  pub survives : Survives old new (CommitsShowing text params old)
