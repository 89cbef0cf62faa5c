use Rattle.std.proofs.Common.{sym, ◌∙◌}
use Rattle.hippo_audit_explain.proofs.TextLemmas.{text_read, text_means_nothing}
use Rattle.hippo_audit_explain.proofs.denials.read_text.Goals as goal

pub returns-in-Ok-Some-clause-reads : goal.returns-in-Ok-Some-clause-reads
returns-in-Ok-Some-clause-reads g c =
    text_read c.args.wanted.now.text.now c.args.wanted.now.catalog.now.names c.args.wanted.now.rules c.args.wanted.now.limit c.in-Ok-Some.query c.read_tables-result.result c.args.cells.now c.read_tables-result.new.cells
    (g.P.Keeper.state c.args.keeper.now) (g.P.Keeper.state c.read_tables-result.new.keeper) c.args.steps.now c.read_tables-result.new.steps (sym c.in-Ok-Some.ensures.meaning ∙ c.in-Ok-Some.field-0-is) c.read_tables-result.ensures.reads

pub returns-in-Ok-None-clause-reads : goal.returns-in-Ok-None-clause-reads
returns-in-Ok-None-clause-reads g c =
    text_means_nothing c.args.wanted.now.text.now c.args.wanted.now.catalog.now.names c.args.wanted.now.rules c.args.wanted.now.limit c.args.wanted.now.rules.number c.args.cells.now (g.P.Keeper.state c.args.keeper.now) c.args.steps.now c.requires.may.ready (sym c.in-Ok-None.ensures.meaning ∙ c.in-Ok-None.field-0-is)
