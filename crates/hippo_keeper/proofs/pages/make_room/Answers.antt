-- A page that is full is not empty.
use Rattle.std.proofs.Common.{◌≡◌, ◌++◌, ◌∷◌, []}
use Rattle.hippo_keeper.proofs.PagesLemmas.{AreFilled-append}
use Rattle.hippo_keeper.proofs.pages.make_room.Goals as goal

pub returns-in_ok-push-clause-filled : goal.returns-in_ok-push-clause-filled
returns-in_ok-push-clause-filled c =
    let longer : c.push.new.self ≡ c.args.full.now ++ c.args.last.now ∷ [] = cc (c.in_ok-push.ensures.ok, c.in_ok-copy.ensures) in
    rw longer (AreFilled-append c.args.full.now c.args.last.now c.requires (c.is_full.ensures c.if-is_full.true))
