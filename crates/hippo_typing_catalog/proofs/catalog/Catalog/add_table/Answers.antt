use Rattle.std.proofs.Common.{ap}
use Rattle.hippo_model.specs.declared.entry.Act.TheVariants.{Create}
use Rattle.hippo_typing_catalog.specs.Catalogs.{known_after}
use Rattle.hippo_typing_catalog.specs.declared.catalog.Catalog.{Catalog}
use Rattle.hippo_typing_catalog.proofs.catalog.Catalog.add_table.Goals as goal

pub returns-clause-names : goal.returns-clause-names
returns-clause-names c =
    rw (c.in_ok-put.ensures.ok, c.in_ok-table.ensures, c.in_ok-name.ensures)
    (ap (λ (kept : Catalog). known_after kept.names (Create c.args.schema.now)) c.self.view_is)
