-- The opener finds what the file held, as the start describes it.
use Rattle.sqlite.specs.Files.{file_state}
use Rattle.hippo_sqlite.proofs.KeeperLemmas.{found_in_image}
use Rattle.hippo_sqlite.proofs.opener.FileOpenerOpener.connect.Goals as goal

pub returns-in-Ok-clause-found : goal.returns-in-Ok-clause-found
returns-in-Ok-clause-found g c clean = found_in_image _ (file_state c.in-Ok.connection) (c.in-Ok.ensures.found clean)
