-- What is found is the grammar's select, and each select of the grammar is found.
use Rattle.std.proofs.Common.{[]}
use Rattle.hippo_spj_reader.specs.SelectGrammar.{IsSelect}
use Rattle.hippo_spj_reader.specs.SelectFinder.{leading_select}
use Rattle.hippo_spj_reader.specs.Front.{kinds_between}
use Rattle.hippo_spj_reader.proofs.SelectTheorem.{found, complete, ends-nothing}
use Rattle.hippo_spj_reader.proofs.WholeTheorem.{reads_all}
use Rattle.hippo_spj_reader.proofs.selects.read_select.Goals as goal

pub returns : goal.returns
returns c =
    let tokens = kinds_between c.args.t.now c.args.first c.args.last in
    reads_all leading_select IsSelect tokens (found tokens) (λ select is. complete tokens select [] is ends-nothing) c.whole.result (rw c.as_slice.ensures at c.whole.ensures)
