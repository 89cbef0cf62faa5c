-- One side after the other.
use Rattle.std.proofs.Common.{◌<◌, List, Option, None, [], length, replicate, sym, ap, subst, arith}
use Rattle.std.specs.List.{All}
use Rattle.hippo_model.specs.Terms.{Place}
use Rattle.hippo_audit_search.specs.FirstPlaces.{with_rows}
use Rattle.hippo_audit_search.specs.Searching.{HasOneOf}
use Rattle.hippo_audit_search.proofs.SideLemmas.{not-long, not-there, both-decided}
use Rattle.hippo_audit_search.proofs.told.share_at.Goals as goal

pub returns-then-places-len : goal.returns-then-places-len
returns-then-places-len g c =
    not-long (HasOneOf g.C.ChoiceView.choices c.args.sides.now.query c.args.sides.now.seen.now) (HasOneOf g.C.ChoiceView.choices c.args.sides.now.audit []) c.args.sides.now.common.now.query.items c.args.sides.now.common.now.audit.items
    (replicate (length c.args.sides.now.query.sets.now) None) (replicate (length c.args.sides.now.audit.sets.now) None) c.args.places.now
    (λ same. absurd (omega (arith, same, c.if-places-len.true, c.len.ensures, c.args.sides.now.common.now.query.ok.0)))

pub has_at-requires-clause-below : goal.has_at-requires-clause-below
has_at-requires-clause-below g c =
    subst (λ (tables : List Place). All (λ (table : Place). table < length c.args.sides.now.audit.sets.now) tables) (sym c.deref.ensures.value) c.requires.audit_below

pub has_at-requires-clause-long : goal.has_at-requires-clause-long
has_at-requires-clause-long g c =
    let same = c.requires.same in
    omega (arith, c.if-places-len.false, c.len.ensures, c.args.sides.now.common.now.query.ok.0, same, ap length c.deref.ensures.value)

pub has_at-requires-then-branch-clause-below : goal.has_at-requires-then-branch-clause-below
has_at-requires-then-branch-clause-below g c =
    subst (λ (tables : List Place). All (λ (table : Place). table < length c.args.sides.now.query.sets.now) tables) (sym c.deref-then-branch.ensures.value) c.requires.query_below

pub has_at-requires-then-branch-clause-long : goal.has_at-requires-then-branch-clause-long
has_at-requires-then-branch-clause-long g c = omega (arith, c.if-places-len.false, c.len.ensures, c.args.sides.now.common.now.query.ok.0, ap length c.deref-then-branch.ensures.value)

pub returns-then-branch : goal.returns-then-branch
returns-then-branch g c =
    let query : List (Option Place) = replicate (length c.args.sides.now.query.sets.now) None in
    let audit : List (Option Place) = replicate (length c.args.sides.now.audit.sets.now) None in
    both-decided (HasOneOf g.C.ChoiceView.choices c.args.sides.now.query c.args.sides.now.seen.now) (HasOneOf g.C.ChoiceView.choices c.args.sides.now.audit []) c.args.sides.now.common.now.query.items c.args.sides.now.common.now.audit.items query audit c.args.places.now
    (omega (arith, c.if-places-len.false, c.len.ensures, c.args.sides.now.common.now.query.ok.0)) (omega (arith, c.if-places-len.false, c.len.ensures, c.args.sides.now.common.now.query.ok.0, c.requires.same))
    (with_rows c.deref-then-branch.result.now c.args.places.now query) (with_rows c.deref.result.now c.args.places.now audit)
    (λ i. with_rows (c.deref-then-branch.ensures.value i) c.args.places.now query) (λ i. with_rows (c.deref.ensures.value i) c.args.places.now audit)
    c.in_ok-has_at.field-0 c.if-branch.true c.in_ok-has_at.ensures c.has_at-then-branch.result c.has_at-then-branch.ensures

pub returns : goal.returns
returns g c =
    let query : List (Option Place) = replicate (length c.args.sides.now.query.sets.now) None in
    let audit : List (Option Place) = replicate (length c.args.sides.now.audit.sets.now) None in
    not-there (HasOneOf g.C.ChoiceView.choices c.args.sides.now.query c.args.sides.now.seen.now) (HasOneOf g.C.ChoiceView.choices c.args.sides.now.audit []) c.args.sides.now.common.now.query.items c.args.sides.now.common.now.audit.items query audit c.args.places.now
    (with_rows c.deref.result.now c.args.places.now audit) (λ i. with_rows (c.deref.ensures.value i) c.args.places.now audit) c.in_ok-has_at.field-0 c.if-branch.false c.in_ok-has_at.ensures
