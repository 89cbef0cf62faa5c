-- The rules for a logged query.
use Rattle.std.specs.Prelude.{◌≡◌, ℕ, List, take, Option, Some}
use Rattle.hippo_values.specs.Texts.{Txt}
use Rattle.hippo_values.specs.declared.names.Name.{Name}
use Rattle.hippo_model.specs.declared.entry.Act.TheVariants.{Asked}
use Rattle.hippo_model.specs.declared.entry.Entry.{Entry}
use Rattle.hippo_model.specs.declared.policy.TableRules.{TableRules}
use Rattle.hippo_model.specs.declared.schema.Schema.{Schema}
use Rattle.hippo_model.specs.Terms.{History}
use Rattle.hippo_model.specs.Verdicts.{Context}
use Rattle.hippo_policy.specs.declared.book.PolicyBook.{PolicyBook}
use Rattle.hippo_policy.specs.Books.{BookRepresents}
use Rattle.hippo_rewrite.specs.RewritingLaws.{rules_at}

-- the rules of tables after the first entries of a history, for the purpose, the recipient and the
-- moment of a logged query
abbrev pub AreRulesAsked : PolicyBook → ℕ → Entry → List Schema → Option (List TableRules) → Type 0
AreRulesAsked book number entry schemas rules =
    (history : History) → BookRepresents book history
    → (user purpose recipient : Name) (text : Txt) → entry.act ≡ Asked user purpose recipient text
    → let context : Context = record
    { purpose = purpose; recipient = recipient; moment = entry.moment } in
    rules ≡ Some (rules_at (take number history) context schemas)
