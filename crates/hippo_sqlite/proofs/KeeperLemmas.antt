-- What a start finds, by what was opened.
use Rattle.std.proofs.Common.{◌≡◌, ℕ, List, [], ◌∷◌, refl}
use Rattle.sqlite_disk.specs.declared.Disk.{Ghosts}
use Rattle.sqlite_disk.specs.declared.Files.{Files}
use Rattle.sqlite_wal.specs.Recovery.{Image}
use Rattle.sqlite_trees.specs.Tree.{Trees}
use Rattle.sqlite_store.specs.declared.store.FileStore.{FileStore}
use Rattle.sqlite.specs.Files.{image_of, file_state, Finds}
use Rattle.sqlite.specs.Start.{FindsIn}
use Rattle.sqlite.specs.State.{State, HasCleanDisk}
use Rattle.sqlite.specs.Held.{Held}
use Rattle.hippo_sqlite.specs.Contents.{Contents}
use Rattle.hippo_sqlite.specs.Openings.{IsFoundIn}
use Rattle.hippo_sqlite.specs.Outcomes.{IsLinked}
use Rattle.hippo_sqlite.specs.Standings.{finds_by, finds_own_by, IsStarted}

pub linked_started : (Finds : List ℕ → Trees → Type 0) (name : List ℕ) (opened : State) (it : Contents) → (name ≡ [] → ⊥) → IsLinked opened it → (HasCleanDisk opened → Finds name opened.committed.trees) → IsStarted (finds_by Finds name) (finds_own_by Finds name) (name ≡ []) it
linked_started Finds [] opened it some linked found = absurd (some refl)
linked_started Finds (byte ∷ name) opened it some linked found = record {
  rests = linked.rests;
  found = λ t. (opened.committed.trees, found (linked.clean t), linked.found t);
  order = linked.order;
  only = linked.only;
  own = λ clean own. linked.own clean (own opened.committed.trees (found (linked.clean_disk clean)));
  unnamed = λ none. absurd (some none);
  must = linked.must;
}

pub found_by_files : {D : Type 0} {g : Ghosts D} (files : Files D) (c : Held (FileStore D g)) → Finds files c → IsFoundIn (image_of g files) (file_state c).committed.trees
found_by_files files c finds = record { found = finds.reads; same = finds.holds }

pub found_in_image : (image : Image) (s : State) → FindsIn image s → IsFoundIn image s.committed.trees
found_in_image image s finds = record { found = finds.reads; same = finds.holds }
