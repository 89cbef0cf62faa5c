-- The pieces of the reply, those of them that pass, and how many these are.
use Rattle.std.proofs.Common.{rules, tests, ◌∙◌, lit<, bytes_eq}
use Rattle.std.specs.List.{slice_split}
use Rattle.std.proofs.lemmas.Iterator.Splits.{YieldsList-from_str_split}
use Rattle.std.proofs.lemmas.Iterator.Consumers.{count_from_yields_List, YieldsList-at, YieldsList-from_filter}
use Rattle.std.proofs.lemmas.List.Sums.{length-filter}
use Rattle.hippo_drill.specs.Counting.{is_feed, second_word}
use Rattle.hippo_drill.proofs.counts.lines_with.Goals as goal

pub returns : goal.returns
returns c =
    count_from_yields_List c.filter.result _ c.count.ensures.ran
    (YieldsList-from_filter _ (λ line. bytes_eq (second_word line) c.args.word.now)
    (YieldsList-at c.filter.ensures.source (YieldsList-from_str_split 10 c.args.reply.now (lit< tt) c.split.ensures.text c.split.ensures.has_more c.split.ensures.pattern))
    c.filter.ensures.closure (λ x r q k. search (rules, tests)))
    ∙ length-filter (λ line. bytes_eq (second_word line) c.args.word.now) (slice_split is_feed c.args.reply.now)
