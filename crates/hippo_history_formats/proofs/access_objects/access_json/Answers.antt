-- What is written of the object is its compact text.
use Rattle.std.proofs.Common.{string_bytes}
use Rattle.serde_json.specs.View.{view}
use Rattle.hippo_history_formats.proofs.JsonLemmas.{access_written}
use Rattle.hippo_history_formats.proofs.access_objects.access_json.Goals as goal

pub returns : goal.returns
returns c = access_written c.args.access.now c.args.moment.now (view c.in_ok-object.object) string_bytes c.to_string.result c.in_ok-object.ensures c.to_string.ensures.text
