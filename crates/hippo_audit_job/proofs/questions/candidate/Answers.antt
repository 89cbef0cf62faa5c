-- The query that the text means is returned if it names every audited column.
use Rattle.std.proofs.Common.{◌∙◌, sym, ap}
use Rattle.hippo_typing.specs.Meanings.{meaning_in}
use Rattle.hippo_audit_job.proofs.questions.candidate.Goals as goal

pub returns-in-Ok-Some : goal.returns-in-Ok-Some
returns-in-Ok-Some c =
    (c.in-Ok-Some.query, ap (meaning_in c.args.past.now.catalog.now.names) (sym c.as_str.ensures) ∙ sym c.in-Ok-Some.ensures.meaning ∙ c.in-Ok-Some.field-0-is, c.naming.ensures)
