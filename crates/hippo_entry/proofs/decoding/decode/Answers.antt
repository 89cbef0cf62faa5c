use Rattle.hippo_entry.proofs.FormLemmas.{no_entry, is_entry_of}
use Rattle.hippo_entry.proofs.decoding.decode.Goals as goal

pub returns-in-Ok : goal.returns-in-Ok
returns-in-Ok c = record {
  found = is_entry_of c.args.kept.now c.in-Ok.entry c.in-Ok.field-0-1.now
      (rw c.as_slice.ensures at c.in-Ok.ensures) c.has_form.result c.has_form.ensures c.only_if.result
      c.only_if.ensures;
}

pub returns-in-Err-NoPart : goal.returns-in-Err-NoPart
returns-in-Err-NoPart c = record {
  found = no_entry c.args.kept.now (rw (c.in-Err-NoPart.field-0-is, c.as_slice.ensures) at c.in-Err-NoPart.ensures);
}
