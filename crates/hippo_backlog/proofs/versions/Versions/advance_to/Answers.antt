-- Batches are read and applied until the number is reached, or until a fault.
use Rattle.std.proofs.Common.{◌≡◌, true, ◌∙◌, sym, subst, Ok}
use Rattle.hippo_backlog.specs.declared.faults.ReadFault.{ReadFault}
use Rattle.hippo_backlog.specs.ReadingAhead.{has_read}
use Rattle.hippo_backlog.specs.Backlogs.{HeldVersions, AdvancesTo}
use Rattle.hippo_keeper.proofs.Results.{well}
use Rattle.hippo_backlog.proofs.VersionLemmas.{placed, ReadsOn-first, ReadsOn-waiting, ReadsOn-piece, AdvancesTo-waiting, AdvancesTo-unread, AdvancesTo-end}
use Rattle.hippo_backlog.proofs.versions.Versions.advance_to.Goals as goal

pub loop-fault-init : goal.loop-fault-init
loop-fault-init g c = ReadsOn-first c.args.schema.now c.args.number c.args.end c.args.self.now (g.P.Keeper.state c.args.keeper.now) c.args.steps.now c.requires.ready

pub loop-fault-preserved : goal.loop-fault-preserved
loop-fault-preserved g c =
    ReadsOn-piece c.args.schema.now c.args.number c.args.end c.args.self.now c.loop-fault.self c.take_waiting.new.self c.read_piece.new.self (g.P.Keeper.state c.args.keeper.now) (g.P.Keeper.state c.loop-fault.keeper) (g.P.Keeper.state c.read_piece.new.keeper)
    c.args.steps.now c.loop-fault.steps c.read_piece.new.steps c.loop-fault.invariant c.in-Ok.ensures.takes (c.in-Ok-read_piece.ensures.reads c.args.number)

pub returns-in-Err : goal.returns-in-Err
returns-in-Err g c = record {
  brings = AdvancesTo-waiting c.args.schema.now c.args.number c.args.end c.args.self.now c.loop-fault.self c.take_waiting.new.self (g.P.Keeper.state c.args.keeper.now) (g.P.Keeper.state c.loop-fault.keeper) c.args.steps.now c.loop-fault.steps c.loop-fault.invariant c.in-Err.fault c.in-Err.ensures.takes;
}

pub returns-then-has_read : goal.returns-then-has_read
returns-then-has_read g c =
    let before = g.P.Keeper.state c.args.keeper.now in
    let now = g.P.Keeper.state c.loop-fault.keeper in
    let mid = c.take_waiting.new.self in
    let so_far = ReadsOn-waiting c.args.schema.now c.args.number c.args.end c.args.self.now c.loop-fault.self mid before now c.args.steps.now c.loop-fault.steps c.loop-fault.invariant (well ReadFault) c.in-Ok.ensures.takes in
    let read : has_read c.args.number mid.ahead ≡ true = sym c.has_read.ensures ∙ c.if-has_read.true in
    let ends = AdvancesTo-end c.args.schema.now c.args.number c.args.end c.args.self.now mid before now c.args.steps.now c.loop-fault.steps so_far (so_far.taken.limit c.requires.forward) c.in-Ok.ensures.past read in
    record {
      brings = subst (λ (held : HeldVersions). AdvancesTo {A = Unit {0}} c.args.schema.now c.args.number c.args.end (Ok tt) c.args.self.now (placed c.args.number held) before now c.args.steps.now c.loop-fault.steps) (sym c.self.view_is) ends;
    }

pub returns-in-Err-read_piece : goal.returns-in-Err-read_piece
returns-in-Err-read_piece g c = record {
  brings = AdvancesTo-unread c.args.schema.now c.args.number c.args.end c.args.self.now c.loop-fault.self c.take_waiting.new.self c.read_piece.new.self (g.P.Keeper.state c.args.keeper.now) (g.P.Keeper.state c.loop-fault.keeper) (g.P.Keeper.state c.read_piece.new.keeper)
      c.args.steps.now c.loop-fault.steps c.read_piece.new.steps c.loop-fault.invariant c.in-Ok.ensures.takes c.in-Err-read_piece.fault (c.in-Err-read_piece.ensures.reads c.args.number) c.in-Err-read_piece.ensures.undamaged;
}
