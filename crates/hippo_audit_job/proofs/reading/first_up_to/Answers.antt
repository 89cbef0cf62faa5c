-- None waits up to the number; or the first is decoded, or decoding it fails.
use Rattle.std.proofs.Common.{sym, ap, ◌∙◌, arith}
use Rattle.std.specs.Option.{option_copied}
use Rattle.hippo_audit_job.proofs.FirstLemmas.{begins_before}
use Rattle.hippo_audit_job.proofs.LoopLemmas.{begins_none, form_number}
use Rattle.hippo_audit_job.proofs.reading.first_up_to.Goals as goal

pub returns-in_default : goal.returns-in_default
returns-in_default c = begins_none c.args.questions.now.waiting c.args.number (sym c.first.ensures ∙ ap option_copied c.in_default.is)

pub returns-then-number-kept : goal.returns-then-number-kept
returns-then-number-kept c = begins_before c.args.questions.now.waiting c.in-Some.kept.now c.args.number (sym c.in-Some.ensures) c.if-number-kept.true

pub returns-in-Ok : goal.returns-in-Ok
returns-in-Ok c =
    let same = form_number c.in-Some.kept.now c.in-Ok.entry c.in-Ok.ensures in
    let up = c.if-number-kept.false in
    (record { kept = c.in-Some.kept.now; stands = sym c.in-Some.ensures; form = c.in-Ok.ensures }, omega (arith, same, up))

pub returns-in-Err : goal.returns-in-Err
returns-in-Err c = record { kept = c.in-Some.kept.now; stands = sym c.in-Some.ensures; undecoded = c.in-Err.ensures }
