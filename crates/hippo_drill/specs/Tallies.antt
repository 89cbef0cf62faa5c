-- The code's counts for some replies.
use Rattle.std.specs.Prelude.{List, length, codes}
use Rattle.hippo_values.specs.Texts.{Txt}
use Rattle.hippo_drill.specs.Counting.{reply_count}
use Rattle.hippo_drill.specs.declared.counts.Counts.{Counts}

abbrev pub counts_of : List Txt → Counts
counts_of replies = record {
  replies = length replies;
  rows = reply_count (codes "row") replies;
  flags = reply_count (codes "flag") replies;
  refusals = reply_count (codes "no") replies;
}
