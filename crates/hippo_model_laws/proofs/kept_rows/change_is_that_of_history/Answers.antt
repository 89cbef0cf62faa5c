use Rattle.hippo_tables_keyed.proofs.ChangesOfRows.{changed-kept_at}
use Rattle.hippo_model_laws.proofs.kept_rows.change_is_that_of_history.Goals as goal

pub returns : goal.returns
returns c = changed-kept_at
