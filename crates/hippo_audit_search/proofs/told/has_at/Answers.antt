-- The order has all tables, and the rows at the places are chosen.
use Rattle.std.proofs.Common.{◌<◌, ℕ, List, Option, None, length, replicate, sym, ap, subst, ◌∙◌}
use Rattle.std.specs.List.{All, Contains}
use Rattle.std.proofs.lemmas.List.{length-replicate}
use Rattle.hippo_model.specs.Terms.{Place}
use Rattle.hippo_join.specs.Existence.{Decides}
use Rattle.hippo_audit_search.specs.FirstPlaces.{with_rows}
use Rattle.hippo_audit_search.specs.Searching.{HasOneOf}
use Rattle.hippo_audit_search.proofs.SideLemmas.{length-with_rows}
use Rattle.hippo_audit_search.proofs.told.has_at.Goals as goal

pub has_joined-requires-clause-long : goal.has_joined-requires-clause-long
has_joined-requires-clause-long g c =
    ap (length {A = Option Place}) (c.deref_mut.ensures.value ∙ c.in_ok-slots.ensures) ∙ length-with_rows c.args.tables.now c.args.places.now (replicate c.len.result None) ∙ length-replicate c.len.result None ∙ c.len.ensures

pub has_joined-requires-clause-below : goal.has_joined-requires-clause-below
has_joined-requires-clause-below g c =
    subst (λ (order : List Place). All (λ (table : Place). table < length c.args.side.now.sets.now) order) (sym c.deref.ensures.value) c.in_ok-order.ensures.below

pub has_joined-requires-clause-whole : goal.has_joined-requires-clause-whole
has_joined-requires-clause-whole g c = λ table within.
    subst (λ (order : List Place). Contains order table) (sym c.deref.ensures.value) (c.in_ok-order.ensures.whole table within)

pub returns : goal.returns
returns g c =
    subst (λ (slots : List (Option Place)). Decides (HasOneOf g.C.ChoiceView.choices c.args.side.now c.args.seen.now slots) c.has_joined.result)
    (c.deref_mut.ensures.value ∙ c.in_ok-slots.ensures ∙ ap (λ (n : ℕ). with_rows c.args.tables.now c.args.places.now (replicate {A = Option Place} n None)) c.len.ensures) c.has_joined.ensures.one
