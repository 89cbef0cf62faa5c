-- Piece by piece, until enough is copied or a call fails.
use Rattle.std.proofs.Common.{◌∙◌, ap, Ok, arith}
use Rattle.hippo_history_top.proofs.FrontLemmas.{IsCopying-first, copying_ready, IsCopying-on, copies_more, CopiesFront-end, CopiesFront-fault}
use Rattle.hippo_history_top.proofs.front.copy_front.Goals as goal

pub loop-front-init : goal.loop-front-init
loop-front-init g c = IsCopying-first c.args.count (g.P.Keeper.state c.args.keeper.now) c.new-front.result c.args.steps.now c.new-front.ensures.none c.new-front.ensures.number c.requires.readable.ready

pub copy_next-requires : goal.copy_next-requires
copy_next-requires g c = record {
  ready = copying_ready c.args.count (g.P.Keeper.state c.args.keeper.now) (g.P.Keeper.state c.loop-front.keeper) c.loop-front.front c.args.steps.now c.loop-front.steps c.loop-front.invariant;
  within = c.loop-front.invariant.within;
}

pub loop-front-preserved : goal.loop-front-preserved
loop-front-preserved g c =
    IsCopying-on c.args.count (g.P.Keeper.state c.args.keeper.now) (g.P.Keeper.state c.loop-front.keeper) c.loop-front.front c.args.steps.now c.loop-front.steps c.loop-front.invariant
    c.requires.readable.order (g.P.Keeper.state c.copy_next.new.keeper) c.copy_next.new.front c.copy_next.new.steps c.copy_next.result c.copy_next.ensures.copies (c.in-Ok-true.is ∙ ap Ok c.in-Ok-true.field-0-test)

pub loop-front-smaller : goal.loop-front-smaller
loop-front-smaller g c =
    let more = copies_more c.args.count (g.P.Keeper.state c.args.keeper.now) (g.P.Keeper.state c.loop-front.keeper) c.loop-front.front c.args.steps.now c.loop-front.steps c.loop-front.invariant
    c.requires.readable.order (g.P.Keeper.state c.copy_next.new.keeper) c.copy_next.new.front c.copy_next.new.steps c.copy_next.result c.copy_next.ensures.copies (c.in-Ok-true.is ∙ ap Ok c.in-Ok-true.field-0-test) in
    let longer = more.0 in
    let within = more.1 in
    omega (arith, longer, within)

pub returns-in-Ok-false : goal.returns-in-Ok-false
returns-in-Ok-false g c = rw c.into_list.ensures (record {
  copies = CopiesFront-end c.args.count (g.P.Keeper.state c.args.keeper.now) (g.P.Keeper.state c.loop-front.keeper) c.loop-front.front c.args.steps.now c.loop-front.steps c.loop-front.invariant
      c.requires.readable.order (g.P.Keeper.state c.copy_next.new.keeper) c.copy_next.new.front c.copy_next.new.steps c.copy_next.result c.copy_next.ensures.copies (c.in-Ok-false.is ∙ ap Ok c.in-Ok-false.field-0-test);
})

pub returns-in-Err : goal.returns-in-Err
returns-in-Err g c = record {
  copies = CopiesFront-fault c.args.count (g.P.Keeper.state c.args.keeper.now) (g.P.Keeper.state c.loop-front.keeper) c.loop-front.front c.args.steps.now c.loop-front.steps c.loop-front.invariant
      c.requires.readable.order (g.P.Keeper.state c.copy_next.new.keeper) c.copy_next.new.front c.copy_next.new.steps c.copy_next.result c.copy_next.ensures.copies c.in-Err.fault c.in-Err.is;
}
