-- How a watch fits a history: before and after one more entry; and the tuple that it shares with a
-- question.
use Rattle.std.specs.Prelude.{◌≡◌, ◌<◌, true, List, [], ◌∷◌, ◌++◌, length, Option}
use Rattle.hippo_model.specs.declared.audit.SharedRow.{SharedRow}
use Rattle.hippo_model.specs.declared.entry.Act.{Act}
use Rattle.hippo_model.specs.declared.entry.Entry.{Entry}
use Rattle.hippo_model.specs.Terms.{History}
use Rattle.hippo_model.specs.Audits.{shared_tuple}
use Rattle.hippo_model.specs.Validity.{is_valid}
use Rattle.hippo_tables.specs.declared.tables.Tables.{Tables}
use Rattle.hippo_tables.specs.Standing.{TablesStandFor}
use Rattle.hippo_typing.specs.Meanings.{meaning}
use Rattle.hippo_audit_job.specs.Examining.{IsAuditOf}
use Rattle.hippo_watch_counts.specs.declared.counts.AuditHits.{AuditHits}
use Rattle.hippo_watch_counts.specs.Counts.{AreHits}
use Rattle.hippo_watch.specs.declared.alarms.AskedNow.{AskedNow}
use Rattle.hippo_watch.specs.Alarms.{IsAskedNext}

-- the watch's audit fits the history, and its counts are those of the audit's hits
pub record IsWatchOf (history : History) (watch : AuditHits) : Type 0 where
  pub audit_is : IsAuditOf history watch.audit
  pub hits_are : AreHits history watch.audit watch.hits

-- an entry may come next in a history with these tables
pub record ComesNext (tables : Tables) (history : History) (entry : Entry) : Type 0 where
  pub stands : TablesStandFor tables history
  pub valid : is_valid meaning (history ++ entry ∷ []) ≡ true
  pub few : length history < 9223372036854775808

-- the watch's audit fits the history, and its counts are those of the audit's hits after one more
-- entry
pub record WasWatchOf (history : History) (entry : Entry) (watch : AuditHits) : Type 0 where
  pub audit_is : IsAuditOf history watch.audit
  pub is_now : IsWatchOf (history ++ entry ∷ []) watch

-- `Before` holds before an act that comes next over these tables, and `After` holds after it
abbrev pub ComesOn : {W : Type 0} → Tables → Act → (History → Entry → W → Type 0)
    → (History → Entry → W → Type 0) → W → W → Type 0
ComesOn tables act Before After old new =
    (history : History) (entry : Entry) → entry.act ≡ act → ComesNext tables history entry
    → Before history entry old → After history entry new

-- a watch that fits a history, and below, one that fits it with one more entry
abbrev pub IsWatchBefore : History → Entry → AuditHits → Type 0
IsWatchBefore history entry watch = IsWatchOf history watch

abbrev pub IsWatchAfter : History → Entry → AuditHits → Type 0
IsWatchAfter history entry watch = IsWatchOf (history ++ entry ∷ []) watch

-- a watch that fits a history is changed to fit it with one more entry
abbrev pub WatchFollows : Tables → Act → AuditHits → AuditHits → Type 0
WatchFollows tables act old new = ComesOn tables act IsWatchBefore IsWatchAfter old new

-- a watch that fits it with one more entry is changed to fit it without the entry
abbrev pub WatchGoesBack : Tables → Act → AuditHits → AuditHits → Type 0
WatchGoesBack tables act old new = ComesOn tables act WasWatchOf IsWatchBefore old new

-- the tuple that a watch shares with a question that is asked next
abbrev pub SharesWatched : AskedNow → AuditHits → Option (List SharedRow) → Type 0
SharesWatched asked watch found =
    (history : History) (entry : Entry) → IsAskedNext asked history entry
    → IsWatchOf history watch → found ≡ shared_tuple meaning history watch.audit entry
