-- A batch is read, or the read fails.
use Rattle.std.proofs.Common.{◌∙◌, ap, arith}
use Rattle.hippo_backlog.specs.Backlogs.{HeldVersions}
use Rattle.hippo_backlog.proofs.CallLemmas.{undamaged_by}
use Rattle.hippo_backlog.proofs.VersionLemmas.{read_ok, read_further, read_err}
use Rattle.hippo_backlog.proofs.versions.Versions.read_piece.Goals as goal

pub returns-in-Ok : goal.returns-in-Ok
returns-in-Ok g c =
    let before = g.P.Keeper.state c.args.keeper.now in
    let after = g.P.Keeper.state c.read_backlog.new.self in
    let inside : HeldVersions = record { rows = c.self.inside.rows; ahead = c.self.inside.ahead; place = c.self.inside.place } in
    let reached_is = c.reached.ensures ∙ ap (λ (held : HeldVersions). held.ahead.reached) c.self.view_is in
    record {
      reads = read_ok c.args.schema.now 1000 c.args.end c.args.self.now before after c.args.steps.now c.read_backlog.new.steps c.reached.result c.requires.used reached_is inside c.self.view_is c.in-Ok.piece c.put.new.self c.put.ensures c.in-Ok.ensures.reads c.in-Ok.ensures.steps;
      undamaged = λ number is. absurd cc;
      further = read_further c.args.schema.now 1000 c.args.end c.args.self.now before after c.args.steps.now c.read_backlog.new.steps c.reached.result c.requires.used reached_is inside c.self.view_is c.in-Ok.piece c.put.new.self c.put.ensures c.in-Ok.ensures.reads (omega arith);
    }

pub returns-in-Err : goal.returns-in-Err
returns-in-Err g c =
    let reached_is = c.reached.ensures ∙ ap (λ (held : HeldVersions). held.ahead.reached) c.self.view_is in
    rw c.fault_of.ensures (record {
      reads = read_err c.args.schema.now 1000 c.args.end c.args.self.now (g.P.Keeper.state c.args.keeper.now) (g.P.Keeper.state c.read_backlog.new.self) c.args.steps.now c.read_backlog.new.steps c.reached.result c.requires.used reached_is c.in-Err.fault c.in-Err.ensures.reads c.in-Err.ensures.steps;
      undamaged = undamaged_by c.in-Err.fault;
      further = tt;
    })
