use Rattle.hippo_entry_codec.proofs.TextLemmas.{is_text-of}
use Rattle.hippo_entry_codec.proofs.keeping.is_text.Goals as goal

pub returns : goal.returns
returns c = is_text-of _ _ c.utf8.text
