use Rattle.hippo_model.specs.Answers.{selected_cells, passes, unmasked_combinations}
use Rattle.hippo_model.specs.Audits.{has_tuple}
use Rattle.hippo_model_laws.proofs.NeededTuples.{needs_what_is_lost}
use Rattle.hippo_model_laws.proofs.audits.audit_needs.Goals as goal

pub returns : goal.returns
returns c = λ history audit tuple. needs_what_is_lost (selected_cells audit.columns) (passes audit.cond) (has_tuple history audit.tables tuple) (unmasked_combinations history audit)
