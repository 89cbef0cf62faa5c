-- The rules that are written in are those in force.
use Rattle.std.proofs.Common.{◌≡◌, ◌∙◌, ap, List}
use Rattle.std.proofs.lemmas.Result.{IfOk-weaker}
use Rattle.hippo_model.specs.declared.policy.TableRules.{TableRules}
use Rattle.hippo_model.specs.declared.query.Masked.{Masked}
use Rattle.hippo_rewrite.specs.Rewriting.{rewritten_query}
use Rattle.hippo_join_implied.specs.Implied.{query_with_implied}
use Rattle.hippo_eval_answer.specs.States.{IsMasked}
use Rattle.hippo_eval_answer.proofs.answers.masked_query.Goals as goal

pub returns : goal.returns
returns c =
    let query = c.args.query.now in
    IfOk-weaker c.rewritten.result (λ (masked : Masked). masked ≡ query_with_implied (rewritten_query c.in_ok-rules.rules query)) (IsMasked c.args.standpoint.now query)
    (λ masked is. record {
      kept = c.requires;
      tables = ap (λ (made : Masked). made.tables) is;
      rules = λ history book tables. is ∙ ap (λ (rules : List TableRules). query_with_implied (rewritten_query rules query)) (c.in_ok-rules.ensures history book tables);
    })
    c.rewritten.ensures
