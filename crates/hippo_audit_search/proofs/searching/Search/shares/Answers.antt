-- Each side has stages of all its tables, and the rows at the places are chosen.
use Rattle.std.proofs.Common.{ℕ, ◌≡◌, ◌<◌, length, ap, subst, ◌∙◌, arith, inr, Option, None, [], replicate}
use Rattle.std.proofs.lemmas.List.{length-replicate}
use Rattle.hippo_audit_search.specs.FirstPlaces.{with_rows}
use Rattle.hippo_audit_search.specs.Searching.{HasOneOf}
use Rattle.hippo_audit_search.proofs.SideLemmas.{not-long, not-there, both-decided, length-with_rows}
use Rattle.hippo_audit_search.proofs.searching.Search.shares.Goals as goal

pub returns-then-places-len : goal.returns-then-places-len
returns-then-places-len g c =
    not-long (HasOneOf g.C.ChoiceView.choices c.args.self.now.query.now c.args.self.now.seen.now) (HasOneOf g.C.ChoiceView.choices c.args.self.now.audit.now []) c.args.common.now.query.items c.args.common.now.audit.items
    (replicate (length c.args.self.now.query.now.sets.now) None) (replicate (length c.args.self.now.audit.now.sets.now) None) c.args.places.now
    (λ same. absurd (omega (arith, same, c.if-places-len.true, c.len.ensures, c.args.common.now.query.ok.0)))

pub has-requires-clause-long : goal.has-requires-clause-long
has-requires-clause-long g c =
    ap (length {A = Option ℕ}) (c.deref_mut.ensures.value ∙ c.in_ok-audit.ensures) ∙ length-with_rows c.deref-2.result.now c.args.places.now (replicate c.len-3.result None) ∙ length-replicate c.len-3.result None ∙ c.len-3.ensures

pub has-requires-clause-covers : goal.has-requires-clause-covers
has-requires-clause-covers g c = λ table within.
    let long : length c.deref_mut.result.now ≡ length c.args.self.now.audit.now.sets.now =
    ap (length {A = Option ℕ}) (c.deref_mut.ensures.value ∙ c.in_ok-audit.ensures) ∙ length-with_rows c.deref-2.result.now c.args.places.now (replicate c.len-3.result None) ∙ length-replicate c.len-3.result None ∙ c.len-3.ensures in
    inr (c.requires.audit.all table (subst (λ (n : ℕ). table < n) long within))

pub has-requires-then-branch-clause-long : goal.has-requires-then-branch-clause-long
has-requires-then-branch-clause-long g c =
    ap (length {A = Option ℕ}) (c.deref_mut-then-branch.ensures.value ∙ c.in_ok-query.ensures) ∙ length-with_rows c.deref.result.now c.args.places.now (replicate c.len-2.result None) ∙ length-replicate c.len-2.result None ∙ c.len-2.ensures

pub has-requires-then-branch-clause-covers : goal.has-requires-then-branch-clause-covers
has-requires-then-branch-clause-covers g c = λ table within.
    let long : length c.deref_mut-then-branch.result.now ≡ length c.args.self.now.query.now.sets.now =
    ap (length {A = Option ℕ}) (c.deref_mut-then-branch.ensures.value ∙ c.in_ok-query.ensures) ∙ length-with_rows c.deref.result.now c.args.places.now (replicate c.len-2.result None) ∙ length-replicate c.len-2.result None ∙ c.len-2.ensures in
    inr (c.requires.query.all table (subst (λ (n : ℕ). table < n) long within))

pub returns-then-branch : goal.returns-then-branch
returns-then-branch g c =
    both-decided (HasOneOf g.C.ChoiceView.choices c.args.self.now.query.now c.args.self.now.seen.now) (HasOneOf g.C.ChoiceView.choices c.args.self.now.audit.now []) c.args.common.now.query.items c.args.common.now.audit.items
    (replicate (length c.args.self.now.query.now.sets.now) None) (replicate (length c.args.self.now.audit.now.sets.now) None) c.args.places.now
    (omega (arith, c.if-places-len.false, c.len.ensures, c.args.common.now.query.ok.0)) (omega (arith, c.if-places-len.false, c.len.ensures, c.args.common.now.query.ok.0, c.requires.common.same))
    c.deref_mut-then-branch.result.now c.deref_mut.result.now
    (c.deref_mut-then-branch.ensures.value ∙ c.in_ok-query.ensures ∙ (λ i. with_rows (c.deref.ensures.value i) c.args.places.now (replicate {A = Option ℕ} (c.len-2.ensures i) None)))
    (c.deref_mut.ensures.value ∙ c.in_ok-audit.ensures ∙ (λ i. with_rows (c.deref-2.ensures.value i) c.args.places.now (replicate {A = Option ℕ} (c.len-3.ensures i) None)))
    c.in_ok-has.field-0 c.if-branch.true c.in_ok-has.ensures.one c.has-then-branch.result c.has-then-branch.ensures.one

pub returns : goal.returns
returns g c =
    not-there (HasOneOf g.C.ChoiceView.choices c.args.self.now.query.now c.args.self.now.seen.now) (HasOneOf g.C.ChoiceView.choices c.args.self.now.audit.now []) c.args.common.now.query.items c.args.common.now.audit.items
    (replicate (length c.args.self.now.query.now.sets.now) None) (replicate (length c.args.self.now.audit.now.sets.now) None) c.args.places.now
    c.deref_mut.result.now
    (c.deref_mut.ensures.value ∙ c.in_ok-audit.ensures ∙ (λ i. with_rows (c.deref-2.ensures.value i) c.args.places.now (replicate {A = Option ℕ} (c.len-3.ensures i) None)))
    c.in_ok-has.field-0 c.if-branch.false c.in_ok-has.ensures.one
