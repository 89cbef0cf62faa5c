-- The versions are read up to the number.
use Rattle.std.proofs.Common.{◌∙◌, ◌≤◌, sym, subst}
use Rattle.hippo_intervals.specs.Living.{HeldLives}
use Rattle.hippo_intervals.proofs.LivesLemmas.{advances_by}
use Rattle.hippo_intervals.proofs.lives.LiveRows.advance.Goals as goal

pub advance_to-requires : goal.advance_to-requires
advance_to-requires g c = record {
  ready = c.requires.ready;
  key = c.self.invariant;
  forward = subst (λ (held : HeldLives). held.versions.place ≤ c.args.number) (sym c.self.view_is) c.requires.forward;
  end = c.requires.end;
}

pub returns : goal.returns
returns g c =
    let inside : HeldLives = record { schema = c.self.inside.schema; versions = c.self.inside.versions } in
    record { advances = advances_by inside c.args.self.now c.self.view_is c.args.number c.args.end c.advance_to.result c.advance_to.new.self (g.P.Keeper.state c.args.keeper.now) (g.P.Keeper.state c.advance_to.new.keeper) c.args.steps.now c.advance_to.new.steps c.requires.forward c.advance_to.ensures.brings }

pub invariant_of-self : goal.invariant_of-self
invariant_of-self g c = c.advance_to.ensures.brings.reads.taken.key ∙ c.self.invariant
