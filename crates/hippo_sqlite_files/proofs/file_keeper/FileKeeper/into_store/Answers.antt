-- A later start finds what the store may hold after a stop.
use Rattle.hippo_sqlite.proofs.LeavingLemmas.{left_survivors}
use Rattle.hippo_sqlite_files.proofs.file_keeper.FileKeeper.into_store.Goals as goal

pub returns : goal.returns
returns g c = left_survivors _ c.into_store.result c.into_store.ensures
