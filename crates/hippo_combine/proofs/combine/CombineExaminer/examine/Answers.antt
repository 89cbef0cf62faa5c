-- The tables are moved forward, and what is shared over them is found.
use Rattle.std.proofs.Common.{rules, arith, List, refl, sym, subst}
use Rattle.hippo_intervals.specs.Living.{HeldLives}
use Rattle.hippo_combine.specs.Bringing.{AdvancesTables}
use Rattle.hippo_combine.specs.Held.{AreHeldUpTo}
use Rattle.hippo_combine.specs.declared.combine.Combine.{Combine}
use Rattle.hippo_combine.proofs.ExaminerLemmas.{as_read-holds}
use Rattle.hippo_combine.proofs.ExaminingLemmas.{up_to_number, examines_nothing, examines_fault, examines_shared}
use Rattle.hippo_combine.proofs.combine.CombineExaminer.examine.Goals as goal

pub returns-in_default : goal.returns-in_default
returns-in_default g c =
    let new : Combine = record { tables = c.args.self.now.tables; asked = c.args.entry.now.seq } in
    record { examines = examines_nothing c.args.past.now c.args.audit.now c.args.entry.now c.args.query.now c.args.self.now new (g.P.Keeper.state c.args.keeper.now) c.args.steps.now refl c.requires.may.is_sound c.requires.may.order refl c.requires.may.ready c.in_default.ensures }

pub bring_both-requires : goal.bring_both-requires
bring_both-requires g c =
    let next = c.in-Some.ensures.0 in
    let last = c.in-Some.ensures.1 in
    record {
      may = record {
        ready = c.requires.may.ready;
        up_to = subst (λ (held : List HeldLives). AreHeldUpTo c.in-Some.number held) (sym c.order_for.ensures)
            (up_to_number c.args.self.now c.args.entry.now.seq c.in-Some.number c.requires.may.is_sound c.requires.may.order c.in-Some.ensures.0);
        within = omega (arith, next, last);
      };
    }

pub returns-in_err-bring_both : goal.returns-in_err-bring_both
returns-in_err-bring_both g c =
    let new : Combine = record { tables = c.bring_both.new.tables; asked = c.args.entry.now.seq } in
    record {
      examines = examines_fault c.args.past.now c.args.audit.now c.args.entry.now c.args.query.now c.args.self.now new (g.P.Keeper.state c.args.keeper.now) c.args.steps.now refl c.requires.may.is_sound c.requires.may.order
          c.in-Some.number c.in-Some.ensures.0 c.bring_both.result (g.P.Keeper.state c.bring_both.new.keeper) c.bring_both.new.steps (subst (λ (held : List HeldLives). AdvancesTables c.args.past.now c.in-Some.number c.bring_both.result held c.bring_both.new.tables.items
          (g.P.Keeper.state c.args.keeper.now) (g.P.Keeper.state c.bring_both.new.keeper) c.args.steps.now c.bring_both.new.steps) c.order_for.ensures c.bring_both.ensures.brings) c.in_err-bring_both.field-0.0 c.from_residual.result (search rules) (search rules);
    }

pub returns : goal.returns
returns g c =
    let new : Combine = record { tables = c.bring_both.new.tables; asked = c.args.entry.now.seq } in
    record {
      examines = examines_shared c.args.past.now c.args.audit.now c.args.entry.now c.args.query.now c.args.self.now new (g.P.Keeper.state c.args.keeper.now) c.args.steps.now refl c.requires.may.is_sound c.requires.may.order
          c.in-Some.number c.in-Some.ensures.0 c.bring_both.result (g.P.Keeper.state c.bring_both.new.keeper) c.bring_both.new.steps (subst (λ (held : List HeldLives). AdvancesTables c.args.past.now c.in-Some.number c.bring_both.result held c.bring_both.new.tables.items
          (g.P.Keeper.state c.args.keeper.now) (g.P.Keeper.state c.bring_both.new.keeper) c.args.steps.now c.bring_both.new.steps) c.order_for.ensures c.bring_both.ensures.brings) c.in_ok-bring_both.field-0 (search rules)
          c.as_slice.result.now c.as_slice.ensures.value c.requires.names c.in_ok-bring_both.ensures.audit c.in_ok-bring_both.ensures.query c.as_read.result c.as_read.ensures.memory
          (as_read-holds _ c.shared_with.result c.as_read.result c.as_read.ensures.same c.shared_with.ensures);
    }
