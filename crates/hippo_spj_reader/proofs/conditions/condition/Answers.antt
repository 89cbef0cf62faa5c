-- NOT and parentheses are nested no deeper than the number of tokens.
use Rattle.std.proofs.Common.{suc, length, arith}
use Rattle.std.proofs.lemmas.List.{length-map}
use Rattle.hippo_lexer.specs.declared.kinds.Token.{Token}
use Rattle.hippo_spj_reader.specs.ConditionFinder.{leading_condition}
use Rattle.hippo_spj_reader.specs.Front.{kinds}
use Rattle.hippo_spj_reader.proofs.conditions.condition.Goals as goal

pub returns : goal.returns
unfolding leading_condition
returns c = record {
  found = c.disjunction.ensures.found (suc (length (kinds c.args.tokens.now))) (omega (arith, length-map c.args.tokens.now (λ (token : Token). token.kind)));
  no_longer = c.disjunction.ensures.no_longer;
}
