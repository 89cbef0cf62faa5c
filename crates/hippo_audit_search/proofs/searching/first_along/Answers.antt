-- The stages of the common tables come first on each side, and no row is chosen.
use Rattle.std.proofs.Common.{◌≡◌, ℕ, [], List, refl, ap, ◌∙◌, length, map, take, None, Option, option_map, replicate, Vec, Global, rules}
use Rattle.std.specs.Prelude.{IfOk}
use Rattle.std.proofs.lemmas.List.{length-replicate}
use Rattle.hippo_model.specs.Terms.{Place}
use Rattle.hippo_join_stages.specs.Stages.{IsStage}
use Rattle.hippo_join_stages.specs.declared.stages.Stage.{Stage}
use Rattle.hippo_audit_common.specs.declared.commons.CommonStages.{CommonStages}
use Rattle.hippo_audit_search.specs.FirstPlaces.{ShareAt, IsFirst}
use Rattle.hippo_audit_search.specs.Searching.{HasOneOf, BeginWith, query_tables, audit_tables}
use Rattle.hippo_audit_search.proofs.SearchLemmas.{common-are-stages, common-tables-are, four, open-by}
use Rattle.hippo_audit_search.proofs.searching.first_along.Goals as goal

-- the first stages are those of the tables that the list begins with
first-tables : (h : CommonStages → Stage) (common listed : List CommonStages) (stages : List Stage) (n : ℕ) (given : List Place) → common ≡ listed → map h listed ≡ take n stages → BeginWith stages given → n ≡ length given → map (λ x. (h x).table) common ≡ given
first-tables h common listed stages n given same taken front long =
    common-tables-are h common listed stages stages n same taken refl
    (map (λ (s : Stage). s.table) stages) (map (λ (s : Stage). s.table) stages) given given refl refl front refl long

pub first-requires : goal.first-requires
first-requires g c =
    let query = c.args.sides.now.query in
    let audit = c.args.sides.now.audit in
    let few : c.len.result ≡ length c.args.sides.now.common.now.query.items = search rules in
    record {
      query_stages = c.requires.query;
      audit_stages = c.requires.audit;
      query_left =
          common-are-stages (λ (stages : CommonStages). stages.query.now) c.deref.result.now c.in_ok-stages.stages.items c.args.query_stages.now c.args.query_stages.now c.len.result
          c.deref.ensures.value c.in_ok-stages.ensures.query refl
          (IsStage (g.C.ChoiceView.choices query.choices.now) query.query.now query.sets.now) c.requires.query.each;
      audit_left =
          common-are-stages (λ (stages : CommonStages). stages.audit.now) c.deref.result.now c.in_ok-stages.stages.items c.args.audit_stages.now c.args.audit_stages.now c.len.result
          c.deref.ensures.value c.in_ok-stages.ensures.audit refl
          (IsStage (g.C.ChoiceView.choices audit.choices.now) audit.query.now audit.sets.now) c.requires.audit.each;
      query_long = ap (length {A = Option Place}) (c.deref_mut.ensures.value ∙ c.in_ok-query_slots.ensures) ∙ length-replicate c.len-2.result None ∙ c.len-2.ensures;
      audit_long = ap (length {A = Option Place}) (c.deref_mut-2.ensures.value ∙ c.in_ok-audit_slots.ensures) ∙ length-replicate c.len-3.result None ∙ c.len-3.ensures;
      query_open =
          open-by (length query.sets.now) c.len-2.result (query_tables c.deref.result.now) c.args.sides.now.common.now.query.items c.deref_mut.result.now
          (first-tables (λ (stages : CommonStages). stages.query.now) c.deref.result.now c.in_ok-stages.stages.items c.args.query_stages.now c.len.result c.args.sides.now.common.now.query.items
          c.deref.ensures.value c.in_ok-stages.ensures.query c.requires.query_front few)
          (c.deref_mut.ensures.value ∙ c.in_ok-query_slots.ensures) c.len-2.ensures c.requires.common.query_open;
      audit_open =
          open-by (length audit.sets.now) c.len-3.result (audit_tables c.deref.result.now) c.args.sides.now.common.now.audit.items c.deref_mut-2.result.now
          (first-tables (λ (stages : CommonStages). stages.audit.now) c.deref.result.now c.in_ok-stages.stages.items c.args.audit_stages.now c.len.result c.args.sides.now.common.now.audit.items
          c.deref.ensures.value c.in_ok-stages.ensures.audit c.requires.audit_front (few ∙ c.requires.common.same))
          (c.deref_mut-2.ensures.value ∙ c.in_ok-audit_slots.ensures) c.len-3.ensures c.requires.common.audit_open;
    }

pub returns : goal.returns
returns g c =
    let few : c.len.result ≡ length c.args.sides.now.common.now.query.items = search rules in
    four (λ tables others slots other. IfOk c.first.result (λ (found : Option (Vec ℕ Global)). IsFirst
    (ShareAt (HasOneOf g.C.ChoiceView.choices c.args.sides.now.query c.args.sides.now.seen.now) (HasOneOf g.C.ChoiceView.choices c.args.sides.now.audit []) tables others slots other) (option_map (λ (places : Vec ℕ Global). places.items) found)))
    (query_tables c.deref.result.now) c.args.sides.now.common.now.query.items (audit_tables c.deref.result.now) c.args.sides.now.common.now.audit.items
    c.deref_mut.result.now (replicate (length c.args.sides.now.query.sets.now) None) c.deref_mut-2.result.now (replicate (length c.args.sides.now.audit.sets.now) None)
    (first-tables (λ (stages : CommonStages). stages.query.now) c.deref.result.now c.in_ok-stages.stages.items c.args.query_stages.now c.len.result c.args.sides.now.common.now.query.items
    c.deref.ensures.value c.in_ok-stages.ensures.query c.requires.query_front few)
    (first-tables (λ (stages : CommonStages). stages.audit.now) c.deref.result.now c.in_ok-stages.stages.items c.args.audit_stages.now c.len.result c.args.sides.now.common.now.audit.items
    c.deref.ensures.value c.in_ok-stages.ensures.audit c.requires.audit_front (few ∙ c.requires.common.same))
    (c.deref_mut.ensures.value ∙ c.in_ok-query_slots.ensures ∙ ap (λ (n : ℕ). replicate {A = Option Place} n None) c.len-2.ensures)
    (c.deref_mut-2.ensures.value ∙ c.in_ok-audit_slots.ensures ∙ ap (λ (n : ℕ). replicate {A = Option Place} n None) c.len-3.ensures)
    c.first.ensures.first
