-- One entry after another, up to one for which memory runs out.
use Rattle.std.proofs.Common.{◌≡◌, refl, subst, take}
use Rattle.std.proofs.lemmas.List.{take_all}
use Rattle.hippo_keeper.specs.Keeping.{Store, last_number}
use Rattle.hippo_history_top.specs.Gathering.{Gathers}
use Rattle.hippo_history_top.proofs.GatherLemmas.{Gathers-none, Gathers-on}
use Rattle.hippo_history_top.proofs.KeptLemmas.{last_there}
use Rattle.hippo_history_top.proofs.gathering.cover_piece.Goals as goal

pub loop-kept-init : goal.loop-kept-init
loop-kept-init g c = record { gathers = Gathers-none (g.G.Gather.Covers c.args.gathered.now c.args.asked.now); last = refl }

pub loop-kept-preserved : goal.loop-kept-preserved
loop-kept-preserved g c = record {
  gathers = Gathers-on (g.G.Gather.Covers c.args.gathered.now c.args.asked.now) (g.G.Gather.Covers c.loop-kept.gathered c.args.asked.now) (g.G.Gather.Covers c.cover_kept.new.gathered c.args.asked.now) c.args.piece.now c.loop-kept.kept-index c.kept-item.result
      c.loop-kept-test.true c.kept-item.is c.loop-kept.invariant.gathers c.in-Ok.ensures.gathers;
  last = last_there c.args.number.now c.args.piece.now c.loop-kept.kept-index c.kept-item.result c.loop-kept-test.true c.kept-item.is;
}

pub returns : goal.returns
returns g c =
    let whole : take c.loop-kept.kept-index c.args.piece.now ≡ c.args.piece.now = take_all c.loop-kept.kept-index c.args.piece.now c.loop-kept-test.false in
    record {
      gathers = subst (Gathers (g.G.Gather.Covers c.args.gathered.now c.args.asked.now) (g.G.Gather.Covers c.loop-kept.gathered c.args.asked.now)) whole c.loop-kept.invariant.gathers;
      last = subst (λ (s : Store). c.loop-kept.number ≡ last_number c.args.number.now s) whole c.loop-kept.invariant.last;
    }
