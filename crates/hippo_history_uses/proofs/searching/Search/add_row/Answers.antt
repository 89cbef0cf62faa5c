-- The row is about the patient, and the query used it.
use Rattle.std.proofs.Common.{◌≡◌, ◌∙◌, sym, ap, subst}
use Rattle.std.proofs.lemmas.Bool.{and_from}
use Rattle.std.proofs.lemmas.Option.{same_Some}
use Rattle.hippo_model.specs.declared.schema.Schema.{Schema}
use Rattle.hippo_policy.specs.Books.{BookRepresents}
use Rattle.hippo_history_uses.specs.declared.asked.AskedThen.{AskedThen}
use Rattle.hippo_history_uses.specs.Accesses.{access_to}
use Rattle.hippo_history_uses.specs.Asking.{asker_of, front_of}
use Rattle.hippo_history_uses.specs.Uses.{is_patients_row}
use Rattle.hippo_history_uses.proofs.SearchLemmas.{one_added}
use Rattle.hippo_history_uses.proofs.searching.Search.add_row.Goals as goal

pub returns : goal.returns
returns c = λ history schema its at there.
    let asked = c.args.self.now.asked.now in
    let kept = c.args.kept.now in
    let same : schema ≡ c.get-schema.result.now = same_Some schema c.get-schema.result.now (sym its.schema_is ∙ c.get-schema.ensures) in
    let about = ap (λ (s : Schema). is_patients_row asked.patient s kept) same ∙ sym c.is_patients_row.ensures ∙ c.if-not-is_patients_row.false in
    let used = sym (c.in_ok-uses_row.ensures history schema its at there) ∙ c.if-not-branch.false in
    let asked_is = c.used_row.ensures.asked in
    let made = c.in_ok-access.ensures history (subst (λ (a : AskedThen). BookRepresents a.book.now history) (sym asked_is) its.search_is.book)
    ∙ (λ i. access_to (front_of (asked_is i) history) (asker_of (asked_is i)) (asked_is i).query.now ((c.used_row.ensures.schema ∙ sym same) i) (c.used_row.ensures.kept i)) in
    one_added c.args.self.now (front_of asked history) schema kept c.args.accesses.now c.push.new.self c.in_ok-access.access
    (and_from _ _ about used) made c.in_ok-push.ensures.ok
