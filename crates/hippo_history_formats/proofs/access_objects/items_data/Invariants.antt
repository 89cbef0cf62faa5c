-- The values made so far and those that remain are all.
use Rattle.std.proofs.Common.{◌≡◌, ◌++◌, map, drop}
use Rattle.serde_json.specs.View.{view}
use Rattle.hippo_history_formats.proofs.access_objects.items_data.Given as goal

abbrev pub invariant-loop-member : goal.invariant-loop-member
invariant-loop-member g l = map view l.items.items ++ map g.T.JsonForm.form (drop l.member-index l.members) ≡ map g.T.JsonForm.form l.members
