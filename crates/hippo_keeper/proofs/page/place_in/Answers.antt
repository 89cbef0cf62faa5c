-- The name is at the index where it is found, or otherwise at the end.
use Rattle.std.proofs.Common.{◌≡◌, [], ◌∷◌, ◌++◌, length, position, bytes_eq, Some}
use Rattle.hippo_keeper.proofs.PageLemmas.{stands_at, stands_after}
use Rattle.hippo_keeper.proofs.page.place_in.Goals as goal

pub returns-in-Some-clause-place : goal.returns-in-Some-clause-place
returns-in-Some-clause-place c =
    let found : position (λ table. bytes_eq table c.args.name.now) c.args.tables.now ≡ Some c.in-Some.place = cc (c.as_slice.ensures, c.place_of.ensures, c.in-Some.is) in
    stands_at c.args.tables.now c.args.name.now c.in-Some.place found

pub returns-clause-place : goal.returns-clause-place
returns-clause-place c =
    let longer : c.push.new.self ≡ c.args.tables.now ++ c.args.name.now ∷ [] = cc (c.in_ok-push.ensures.ok, c.in_ok-from_str.ensures) in
    let last : c.len-place.result ≡ length c.args.tables.now = c.len-place.ensures in
    rw (longer, last) (stands_after c.args.tables.now c.args.name.now)
