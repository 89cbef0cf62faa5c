-- What a keeper's link holds, as contracts see it.
use Rattle.std.specs.Prelude.{◌≡◌, true, false, [], ⊤}
use Rattle.sqlite_trees.specs.declared.store.Store.{Ghosts}
use Rattle.hippo_keeper.specs.MemoryKeeping.{MemoryStore, SurvivesInMemory}
use Rattle.hippo_sqlite.specs.declared.link.Linked.{Linked}
use Rattle.hippo_sqlite.specs.declared.link.Link.{Link}
use Rattle.hippo_sqlite.specs.declared.link.Link.TheVariants.{Absent, InMemory, Opened}
use Rattle.hippo_sqlite.specs.Contents.{Contents, connection_contents, no_contents}

abbrev pub linked_contents : {S : Type 0} → Ghosts S → Linked S → Contents
linked_contents g it = connection_contents g it.connection it.told.value it.opened.value

-- the contents of a keeper in memory are known, and it is at rest while none of its calls is to
-- fail
abbrev pub memory_contents : MemoryStore → Contents
memory_contents it = record {
  tells = ⊤;
  kept = it.kept;
  survives = SurvivesInMemory it;
  rests = (it.calls.standing.started ≡ true) × (it.calls.standing.closed ≡ false)
      × (it.calls.standing.spent ≡ false) × (it.calls.failing ≡ []);
  clean = ⊤;
  own = ⊤;
  in_memory = ⊤;
}

abbrev pub link_contents : {S : Type 0} → Ghosts S → Link S → Contents
link_contents g Absent = no_contents
link_contents g (InMemory it) = memory_contents it
link_contents g (Opened it) = linked_contents g it
