-- The moment that a text writes.
use Rattle.std.specs.Prelude.{Option}
use Rattle.hippo_values.specs.Texts.{Txt}
use Rattle.hippo_values.specs.declared.moments.Moment.{Moment}
use Rattle.hippo_values_text.specs.Dates.{moment_text, written_among}
use Rattle.hippo_values.specs.Moments.{first_moment}
use Rattle.hippo_stmt_ast.specs.declared.statement.RawAudit.{RawAudit}
use Rattle.hippo_typing_catalog.specs.declared.period.Period.{Period}

-- the moment that a text writes, in the years 0001 to 9999
unfoldable pub moment_in : Txt → Option Moment
moment_in text = written_among moment_text first_moment 315537897600 text

-- the period that an audit's texts write
abbrev pub period_in : RawAudit → Period
period_in audit = record { from = moment_in audit.from; to = moment_in audit.to }
