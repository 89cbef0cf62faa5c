-- The rows are those at the places.
use Rattle.std.proofs.Common.{◌++◌, map}
use Rattle.hippo_join_lookups.specs.Places.{chosen_rows}
use Rattle.hippo_join.proofs.VisitingLemmas.{rows-kept}
use Rattle.hippo_join.proofs.visiting.RowTellerPlaceVisitor.visit.Goals as goal

pub returns : goal.returns
returns g c sets front before places whole are kept =
    rows-kept (g.V.Visitor.Keeps c.args.self.now.visitor.now) sets front before places c.args.rows.now c.visit.new.state are c.visit.result (c.visit.ensures (front ++ map (chosen_rows sets) before) kept)
