-- One more combination, or enough of them.
use Rattle.std.proofs.Common.{◌≡◌, ◌<◌, ◌≤◌, true, length, List, ◌++◌, [], ◌∷◌, map, unwrap_or, Option, subst, ap, ◌∙◌, arith}
use Rattle.hippo_model.specs.Terms.{Place}
use Rattle.hippo_join_stages.specs.Finding.{AreFound, has_places}
use Rattle.hippo_join_stages.proofs.FindingLemmas.{found-enough, found-more, places-back}
use Rattle.hippo_join.proofs.finding.PlaceFinderPlaceVisitor.visit.Goals as goal

pub returns-then-len-self : goal.returns-then-len-self
returns-then-len-self c sets front before places whole rows are later =
    let limit = c.args.self.now.limit in
    let found = c.args.state.now.keys in
    let count : c.len.result ≡ length found = c.len.ensures.len in
    let above : limit < length found = omega (arith, c.if-len-self.true, count) in
    found-enough limit (before ++ places ∷ []) found (found-enough limit before found are (places ∷ []) above) later above

pub returns : goal.returns
returns c sets front before places whole rows are =
    let count : c.len.result ≡ length c.args.state.now.keys = c.len.ensures.len in
    let few : length c.args.state.now.keys ≤ c.args.self.now.limit = omega (arith, c.if-len-self.false, count) in
    let made : c.in_ok-places.places ≡ places = c.in_ok-places.ensures ∙ ap (map (λ (slot : Option Place). unwrap_or slot 0)) whole ∙ places-back places in
    subst (λ (one : List Place). AreFound (λ other. has_places other (before ++ one ∷ []) ≡ true) c.args.self.now.limit c.insert.new.found.keys) made
    (found-more c.args.self.now.limit before c.args.state.now.keys are c.in_ok-places.places c.insert.new.found.keys few c.in_ok-insert.ensures.ok)
