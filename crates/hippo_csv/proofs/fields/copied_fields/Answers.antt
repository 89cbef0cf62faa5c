use Rattle.std.proofs.Common.{◌∙◌, sym, refl, ap}
use Rattle.csv.specs.Records.{fields_of}
use Rattle.hippo_csv.proofs.RecordLemmas.{one_field_more, no_field_more}
use Rattle.hippo_csv.proofs.fields.copied_fields.Goals as goal

pub loop-field-preserved : goal.loop-field-preserved
loop-field-preserved c =
    let inv = c.loop-field.invariant in
    let (same, found, next) = rw c.in-Some.is at c.next.ensures.steps in
    let there = rw inv.0 at found in
    let more = one_field_more (fields_of c.args.read.now) c.loop-field.field-iterator.at c.in-Some.field.now (sym there) in
    (ap (λ row. row.now) same ∙ inv.0, c.in_ok-push.ensures.ok ∙ rw (inv.1, c.in_ok-from_str.ensures, next, more) refl)

pub returns : goal.returns
returns c =
    let inv = c.loop-field.invariant in
    let (same, none, next) = rw c.in-None.is at c.next.ensures.steps in
    let past = rw inv.0 at none in
    inv.1 ∙ no_field_more (fields_of c.args.read.now) c.loop-field.field-iterator.at (sym past)
