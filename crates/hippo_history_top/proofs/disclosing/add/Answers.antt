-- The entry is taken in, whatever entries follow.
use Rattle.hippo_history_top.proofs.GatherLemmas.{ok_so}
use Rattle.hippo_history_top.proofs.InquiryLemmas.{found-more}
use Rattle.hippo_history_top.proofs.disclosing.add.Goals as goal

pub returns : goal.returns
returns c = record {
  covers = ok_so c.take_in.result
      (found-more c.args.sought.now c.args.entry.now c.is_inquired-within.result c.args.found.now c.take_in.new.self c.is_inquired-within.ensures)
      c.take_in.ensures;
}
