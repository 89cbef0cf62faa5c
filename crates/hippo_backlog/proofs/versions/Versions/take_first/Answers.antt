-- The first version that waits is applied, or it does not fit.
use Rattle.std.proofs.Common.{sym}
use Rattle.hippo_backlog.specs.Backlogs.{HeldVersions}
use Rattle.hippo_backlog.proofs.VersionLemmas.{first_taken, first_untaken}
use Rattle.hippo_backlog.proofs.versions.Versions.take_first.Goals as goal

pub returns-in-Ok-clause-takes : goal.returns-in-Ok-clause-takes
returns-in-Ok-clause-takes c =
    let inside : HeldVersions = record { rows = c.self.inside.rows; ahead = c.self.inside.ahead; place = c.self.inside.place } in
    first_taken c.args.schema.now inside c.args.self.now c.self.view_is c.args.number c.in-Some.kept.now c.take.new.rows c.pass.new.self c.raised-self-inside.result (sym c.in-Some.ensures) c.if-number-place.false c.in-Ok.ensures.takes.ok c.pass.ensures c.raised-self-inside.ensures

pub returns-in-Err-clause-takes : goal.returns-in-Err-clause-takes
returns-in-Err-clause-takes c =
    let inside : HeldVersions = record { rows = c.self.inside.rows; ahead = c.self.inside.ahead; place = c.self.inside.place } in
    first_untaken c.args.schema.now inside c.args.self.now c.self.view_is c.args.number c.in-Some.kept.now c.in-Err.fault c.take.new.rows (sym c.in-Some.ensures) c.in-Err.ensures.takes
