-- The table is moved forward at its place.
use Rattle.std.proofs.Common.{rules, sym}
use Rattle.std.proofs.lemmas.Result.{on_ok_weaker}
use Rattle.hippo_combine.proofs.BringingLemmas.{value_at, brings_one, holds_one, held_if_known}
use Rattle.hippo_combine.proofs.bringing.Forward.bring.Goals as goal

pub returns : goal.returns
returns g c = record {
  brings = brings_one c.args.self.now.past.now c.args.self.now.number c.advance.result c.in-Some.schema.now c.args.tables.now.items c.place_for.new.tables.items c.in-Ok.ensures.with c.in-Ok.place c.in-Ok.ensures.place
      c.index_mut.result.now c.advance.new.self (value_at c.place_for.new.tables.items c.in-Ok.place c.index_mut.result.now c.in-Ok.ensures.place.within (search rules)) (g.P.Keeper.state c.args.keeper.now) (g.P.Keeper.state c.advance.new.keeper) c.args.steps.now c.advance.new.steps c.advance.ensures.advances c.requires.may.ready c.args.table.now (sym c.in-Some.ensures);
  held = on_ok_weaker c.advance.result (held_if_known c.args.self.now.past.now c.args.self.now.number c.args.table.now c.in-Some.schema.now _ (sym c.in-Some.ensures))
      (holds_one c.args.self.now.past.now c.args.self.now.number c.advance.result c.in-Some.schema.now c.args.tables.now.items c.place_for.new.tables.items c.in-Ok.ensures.with c.in-Ok.place c.in-Ok.ensures.place
      c.index_mut.result.now c.advance.new.self (value_at c.place_for.new.tables.items c.in-Ok.place c.index_mut.result.now c.in-Ok.ensures.place.within (search rules)) (g.P.Keeper.state c.args.keeper.now) (g.P.Keeper.state c.advance.new.keeper) c.args.steps.now c.advance.new.steps c.advance.ensures.advances);
}
