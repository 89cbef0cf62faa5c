use Rattle.std.proofs.Common.{◌∙◌, ap, sym, ◌&&◌}
use Rattle.hippo_model.specs.Validity.{is_well_formed}
use Rattle.hippo_replay.proofs.AcceptanceLemmas.{create_is}
use Rattle.hippo_replay.proofs.state.State.may_create.Goals as goal

pub returns-then-may_make : goal.returns-then-may_make
returns-then-may_make c history stands =
    c.is_well_formed.ensures ∙ ap (λ made. made && is_well_formed c.args.schema.now) (sym c.if-may_make.true ∙ c.may_make.ensures)
    ∙ create_is c.args.self.now history stands c.args.schema.now

pub returns-else-may_make : goal.returns-else-may_make
returns-else-may_make c history stands =
    c.if-may_make.false ∙ ap (λ made. made && is_well_formed c.args.schema.now) (sym c.if-may_make.false ∙ c.may_make.ensures)
    ∙ create_is c.args.self.now history stands c.args.schema.now
