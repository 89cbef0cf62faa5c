use Rattle.hippo_lexer.proofs.OutcomeLemmas.{outcome-one, given-found, given-fault, given-only, given-spans, given-order}
use Rattle.hippo_lexer.proofs.lexer.tokens.Goals as goal

pub returns-clause-found : goal.returns-clause-found
returns-clause-found c = given-found c.args.text.now c.cut_tokens.result c.cut_tokens.ensures

pub returns-clause-fault : goal.returns-clause-fault
returns-clause-fault c = given-fault c.args.text.now c.cut_tokens.result c.cut_tokens.ensures

pub returns-clause-only : goal.returns-clause-only
returns-clause-only c = λ outcome. given-only c.args.text.now c.cut_tokens.result outcome c.cut_tokens.ensures

pub returns-clause-one : goal.returns-clause-one
returns-clause-one c = outcome-one c.args.text.now

pub returns-clause-spans : goal.returns-clause-spans
returns-clause-spans c = given-spans c.args.text.now c.cut_tokens.result c.utf8.text c.cut_tokens.ensures

pub returns-clause-order : goal.returns-clause-order
returns-clause-order c = given-order c.args.text.now c.cut_tokens.result c.utf8.text c.cut_tokens.ensures
