-- A name's bytes are valid text.
use Rattle.std.proofs.lemmas.Str.{IsUtf8-from_ascii}
use Rattle.hippo_values.proofs.NamesLemmas.{name-ascii}
use Rattle.hippo_values.proofs.names.Name.as_str.Goals as goal

pub from_utf8_unchecked-requires : goal.from_utf8_unchecked-requires
from_utf8_unchecked-requires c = (IsUtf8-from_ascii c.as_bytes.result.now (name-ascii c.args.self.now c.as_bytes.result.now c.as_bytes.ensures.bytes c.as_bytes.ensures.form))
