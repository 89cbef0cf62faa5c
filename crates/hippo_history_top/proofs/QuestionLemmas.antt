-- An act that is not a question is repeated by its statement.
use Rattle.std.proofs.Common.{◌≡◌, refl, false, Option}
use Rattle.hippo_model.specs.declared.entry.Act.{Act}
use Rattle.hippo_model.specs.declared.entry.Act.TheVariants.{Asked}
use Rattle.hippo_model.specs.declared.schema.Schema.{Schema}
use Rattle.hippo_history_statements.specs.Telling.{act_statement}
use Rattle.hippo_model.specs.HandedOver.{is_question}
use Rattle.hippo_history_top.specs.Showing.{console_lines, act_lines}

pub statement_as_lines : (schema : Option Schema) (act : Act) → is_question act ≡ false → act_lines schema act ≡ console_lines (act_statement schema act)
statement_as_lines schema (Asked user purpose recipient text) other = absurd cc
statement_as_lines schema act other = refl
