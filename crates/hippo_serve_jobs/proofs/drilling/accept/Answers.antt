-- A reply that reports that memory ran out ends with exactly these words.
use Rattle.hippo_report.specs.Refusals.{said_of}
use Rattle.hippo_report.specs.Speakers.{who_text}
use Rattle.hippo_serve_jobs.proofs.drilling.accept.Goals as goal

pub returns : goal.returns
unfolding said_of
returns c who is = c.if-ends_with.ensures.cases (who_text who) is
