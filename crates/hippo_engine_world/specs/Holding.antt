-- The state that the code holds, as the record of the definitions, and how the rest of it fits a
-- history.
use Rattle.std.specs.Prelude.{◌≡◌, List, [], ◌∷◌, ◌++◌, map, Option, option_map}
use Rattle.hippo_model.specs.declared.entry.Act.{Act}
use Rattle.hippo_model.specs.declared.entry.Entry.{Entry}
use Rattle.hippo_model.specs.Terms.{History}
use Rattle.hippo_tables.specs.declared.tables.Tables.{Tables}
use Rattle.hippo_watch.specs.Watches.{ComesNext}
use Rattle.hippo_audit_job.specs.Jobs.{open_audit}
use Rattle.hippo_engine_world.specs.declared.worlds.World.{World as HeldWorld}
use Rattle.hippo_engine_sessions.specs.Tallies.{JobTally}
use Rattle.hippo_engine_world.specs.Auditing.{AreLooking, watched, AreWatching, AreAudits, job_tallies}
use Rattle.hippo_engine_sessions.specs.Worlds.{World}

abbrev pub world_of : HeldWorld → World
world_of held = record {
  clock = held.clock;
  limit = held.limit;
  format = held.format;
  sessions = held.sessions;
  jobs = map (option_map open_audit) held.jobs;
  watches = map (option_map watched) held.watches;
}

-- the jobs and watches are the same
pub record KeepsAudits (old new : HeldWorld) : Type 0 where
  pub jobs : new.jobs ≡ old.jobs
  pub watches : new.watches ≡ old.watches

-- the open jobs fit a history
abbrev pub JobsFit : History → HeldWorld → Type 0
JobsFit history held = AreLooking history held.jobs

-- the watches fit a history
abbrev pub WatchesFit : History → HeldWorld → Type 0
WatchesFit history held = AreWatching history held.watches

-- watches that fit a history are changed to fit it with one more entry
abbrev pub WatchesFollow : Tables → Act → HeldWorld → HeldWorld → Type 0
WatchesFollow tables act old new =
    (history : History) (entry : Entry) → entry.act ≡ act → ComesNext tables history entry
    → WatchesFit history old → WatchesFit (history ++ entry ∷ []) new

-- watches that fit it with one more entry, and whose audits fit it without the entry, are changed
-- to fit it without the entry
abbrev pub WatchesGoBack : Tables → Act → HeldWorld → HeldWorld → Type 0
WatchesGoBack tables act old new =
    (history : History) (entry : Entry) → entry.act ≡ act → ComesNext tables history entry
    → AreAudits history (world_of old).watches → WatchesFit (history ++ entry ∷ []) old
    → WatchesFit history new

-- the tallies of the open jobs, by their numbers
abbrev pub tallies_of : HeldWorld → List (Option JobTally)
tallies_of held = job_tallies held.jobs
