use Rattle.hippo_history_page.proofs.EscapeLemmas.{read_back}
use Rattle.hippo_history_page.proofs.laws.reads_back.Goals as goal

pub returns : goal.returns
returns c = read_back
