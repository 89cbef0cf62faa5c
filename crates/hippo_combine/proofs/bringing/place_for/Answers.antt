-- The place of a held table, or of one more.
use Rattle.std.proofs.Common.{rules, ◌∙◌, sym}
use Rattle.hippo_combine.proofs.BringingLemmas.{IsPlaceOf-found, place_within, new_place}
use Rattle.hippo_combine.proofs.bringing.place_for.Goals as goal

pub returns-in_ok-push-clause-with : goal.returns-in_ok-push-clause-with
returns-in_ok-push-clause-with c = (new_place c.args.schema.now c.args.tables.now.items c.push.new.self.items c.place_of-place.result c.in_ok-new.field-0 (search rules) (search rules) c.in_ok-new.ensures c.in_ok-push.ensures.items).0

pub returns-in_ok-push-clause-place : goal.returns-in_ok-push-clause-place
returns-in_ok-push-clause-place c = (new_place c.args.schema.now c.args.tables.now.items c.push.new.self.items c.place_of-place.result c.in_ok-new.field-0 (search rules) (search rules) c.in_ok-new.ensures c.in_ok-push.ensures.items).1

pub returns-else-place-len-clause-with : goal.returns-else-place-len-clause-with
returns-else-place-len-clause-with c = sym (IsPlaceOf-found c.args.schema.now c.args.tables.now.items c.place_of-place.result (search rules) (place_within c.args.schema.now c.args.tables.now.items c.place_of-place.result (search rules) (λ e. c.if-place-len.false (e ∙ search rules)))).0

pub returns-else-place-len-clause-place : goal.returns-else-place-len-clause-place
returns-else-place-len-clause-place c = (IsPlaceOf-found c.args.schema.now c.args.tables.now.items c.place_of-place.result (search rules) (place_within c.args.schema.now c.args.tables.now.items c.place_of-place.result (search rules) (λ e. c.if-place-len.false (e ∙ search rules)))).1
