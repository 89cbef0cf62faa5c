use Rattle.memchr.specs.Find.{is_byte}
use Rattle.hippo_io.proofs.ByteLemmas.{first_byte}
use Rattle.hippo_io.proofs.lines.feed_place.Goals as goal

pub returns : goal.returns
returns c = first_byte (is_byte 10) c.args.bytes.now c.memchr.result c.memchr.ensures
