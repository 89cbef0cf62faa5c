-- The opener finds what the disks held.
use Rattle.std.proofs.Common.{IfSome, subst}
use Rattle.sqlite.specs.Files.{image_of, file_state}
use Rattle.hippo_sqlite.specs.Openings.{IsFoundIn}
use Rattle.hippo_sqlite.proofs.KeeperLemmas.{found_by_files}
use Rattle.hippo_sqlite.proofs.opener.DisksOpenerFilesOpener.connect.Goals as goal

pub returns-in-Ok-clause-found : goal.returns-in-Ok-clause-found
returns-in-Ok-clause-found g c clean =
    subst (λ taken. IfSome taken (λ files. IsFoundIn (image_of g.D.Disk files) (file_state c.in-Ok.connection).committed.trees)) c.in-Some.ensures.value
    (found_by_files c.in-Some.files c.in-Ok.connection (c.in-Ok.ensures.found clean))
