-- The rest is searched.
use Rattle.std.proofs.Common.{◌∙◌, sym}
use Rattle.hippo_io.proofs.FeedLemmas.{feeds-searched, BeginsWithLine-searched}
use Rattle.hippo_io.proofs.lines.find_feed.Goals as goal

pub returns-in_err-place : goal.returns-in_err-place
returns-in_err-place c =
    rw c.from_residual.ensures (feeds-searched c.args.bytes.now c.args.searched c.requires.none (sym c.feed_place.ensures ∙ c.in_err-place.was))

pub returns : goal.returns
returns c =
    BeginsWithLine-searched c.args.bytes.now c.args.searched c.in_ok-place.place c.requires.searched c.requires.none (sym c.feed_place.ensures ∙ c.in_ok-place.was)
