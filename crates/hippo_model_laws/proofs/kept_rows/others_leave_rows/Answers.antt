use Rattle.hippo_tables_keyed.proofs.ChangesOfRows as changes
use Rattle.hippo_model_laws.proofs.kept_rows.others_leave_rows.Goals as goal

pub returns : goal.returns
returns c = record { no_version = changes.kept_at-no_version; other_table = changes.kept_at-other_table }
