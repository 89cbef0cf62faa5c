-- The held rows are those of the history, and the same on both sides. If a table has none, nothing
-- serves.
use Rattle.std.proofs.Common.{rules, ◌≡◌, ◌&&◌, true, ◌∙◌, List, Option, take, sym}
use Rattle.std.proofs.lemmas.Option.{none-some, same_Some}
use Rattle.std.proofs.lemmas.Result.{IfOk-weaker}
use Rattle.hippo_model.specs.declared.audit.SharedRow.{SharedRow}
use Rattle.hippo_model.specs.Terms.{History}
use Rattle.hippo_model.specs.Verdicts.{Context}
use Rattle.hippo_typing.specs.Meanings.{meaning}
use Rattle.hippo_audit_job.specs.Examining.{IsServing}
use Rattle.hippo_audit_needs.specs.Examining.{ServesFirst}
use Rattle.hippo_combine.specs.Held.{are_held}
use Rattle.hippo_combine.specs.Sharing.{HoldsBoth}
use Rattle.hippo_combine.proofs.ExaminingLemmas.{query_many, audit_many, rows_same, those_of}
use Rattle.hippo_combine.proofs.SharingLemmas.{nothing_serves}
use Rattle.hippo_combine.proofs.sharing.shared_with.Goals as goal

pub returns-then-not-have_all_rows : goal.returns-then-not-have_all_rows
returns-then-not-have_all_rows c = λ history holds user purpose recipient text is.
    let context : Context = record { purpose = purpose; recipient = recipient; moment = c.args.entry.now.moment } in
    sym (nothing_serves c.args.tables.now c.args.number history holds.valid holds.fits context c.args.query.now c.args.audit.now holds.audit_held holds.query_held (search rules))

pub returns-in_default : goal.returns-in_default
returns-in_default c = λ history holds user purpose recipient text is.
    absurd (none-some _ (sym c.in_default.is ∙ c.in_ok-found.ensures history holds.book_is user purpose recipient text is))

pub shared_of-requires : goal.shared_of-requires
shared_of-requires c =
    let rows : (are_held c.args.tables.now c.args.audit.now.tables && are_held c.args.tables.now c.args.query.now.tables) ≡ true = search rules in
    record {
      query_sets = query_many c.args.tables.now c.args.query.now.tables c.args.audit.now.tables c.in_ok-lent.lent.sets c.in_ok-audit_sets.audit_sets (search rules) (search rules) rows;
      audit_sets = audit_many c.args.tables.now c.args.query.now.tables c.args.audit.now.tables c.in_ok-lent.lent.sets c.in_ok-audit_sets.audit_sets (search rules) (search rules) rows;
      tables = c.requires.differ;
      rows = rows_same c.args.tables.now c.args.query.now.tables c.args.audit.now.tables c.in_ok-lent.lent.sets c.in_ok-audit_sets.audit_sets (search rules) (search rules) rows;
    }

pub returns : goal.returns
returns c =
    let rows : (are_held c.args.tables.now c.args.audit.now.tables && are_held c.args.tables.now c.args.query.now.tables) ≡ true = search rules in
    IfOk-weaker c.shared_of.result
    (λ (shared : Option (List SharedRow)). ServesFirst c.args.query.now c.args.audit.now c.in-Some.rules c.in_ok-lent.lent.sets c.in_ok-audit_sets.audit_sets _ shared)
    (λ (shared : Option (List SharedRow)). (history : History) → HoldsBoth c.args.book.now c.args.tables.now c.args.number history c.args.query.now c.args.audit.now → IsServing (take c.args.number history) c.args.audit.now c.args.entry.now c.args.query.now shared)
    (λ shared serves history holds user purpose recipient text is.
    let context : Context = record { purpose = purpose; recipient = recipient; moment = c.args.entry.now.moment } in
    serves meaning (take c.args.number history) context
    (those_of c.args.book.now c.args.tables.now c.args.number c.args.query.now c.args.audit.now c.in_ok-lent.lent.sets c.in_ok-audit_sets.audit_sets (search rules) (search rules) rows c.in_ok-lent.lent.schemas (search rules)
    history holds context c.in-Some.rules _ (same_Some _ _ (sym c.in-Some.is ∙ c.in_ok-found.ensures history holds.book_is user purpose recipient text is)) (c.choices_at-choices.ensures history holds.book_is)))
    c.shared_of.ensures
