use Rattle.std.proofs.Common.{◌<◌, ◌≤◌, length, arith, rules}
use Rattle.std.proofs.lemmas.Result.{err_from_is_err_and}
use Rattle.hippo_lexer.specs.Spelling.{is_blank}
use Rattle.hippo_lexer.proofs.PrefixLemmas.{ends-front}
use Rattle.hippo_lexer.proofs.CutLemmas.{cut_token, cuts_start, cuts_token, cuts_fault, cuts_end}
use Rattle.hippo_lexer.proofs.lexer.cut_tokens.Goals as goal

pub loop-rest-init : goal.loop-rest-init
loop-rest-init c = record {
  utf8 = c.without_blanks-rest.utf8;
  within = c.without_blanks-rest.ensures.within;
  filled = rw c.without_blanks-rest.ensures.rest (ends-front is_blank c.args.text.now);
  told = rw (c.without_blanks-rest.ensures.rest, c.in_ok-found.ensures) (cuts_start c.args.text.now);
}

pub returns-in_err-kind : goal.returns-in_err-kind
returns-in_err-kind c =
    let some : 0 < length c.loop-rest.rest.now = search rules in
    let fault = cuts_fault _ c.loop-rest.rest.now c.args.text.now c.loop-rest.found c.in_err-kind.field-0.0 some c.loop-rest.invariant.filled c.loop-rest.invariant.told c.in_err-kind.ensures in
    let err = err_from_is_err_and c.from_residual-in_err-kind.result c.from_residual-in_err-kind.ensures.1 in
    rw (err.1, err.2) fault

pub overflow_add-start : goal.overflow_add-start
overflow_add-start c =
    let some : 0 < length c.loop-rest.rest.now = search rules in
    let cut = cut_token _ c.loop-rest.rest.now c.in_ok-kind.kind c.in_ok-kind.len c.loop-rest.invariant.utf8 some c.loop-rest.invariant.filled c.in_ok-kind.ensures in
    let within : c.in_ok-kind.len ≤ length c.loop-rest.rest.now = cut.bound.0 in
    omega arith

pub range_from-requires : goal.range_from-requires
range_from-requires c = λ _.
    let some : 0 < length c.loop-rest.rest.now = search rules in
    (cut_token _ c.loop-rest.rest.now c.in_ok-kind.kind c.in_ok-kind.len c.loop-rest.invariant.utf8 some c.loop-rest.invariant.filled c.in_ok-kind.ensures).bound

pub loop-rest-smaller : goal.loop-rest-smaller
loop-rest-smaller c =
    let some : 0 < length c.loop-rest.rest.now = search rules in
    let cut = cut_token _ c.loop-rest.rest.now c.in_ok-kind.kind c.in_ok-kind.len c.loop-rest.invariant.utf8 some c.loop-rest.invariant.filled c.in_ok-kind.ensures in
    let taken : 0 < c.in_ok-kind.len = cut.some in
    let left = c.range_from.ensures.len in
    let within = c.without_blanks-rest-in-loop-rest.ensures.within in
    omega arith

pub loop-rest-preserved : goal.loop-rest-preserved
loop-rest-preserved c =
    let some : 0 < length c.loop-rest.rest.now = search rules in
    let cut = cut_token _ c.loop-rest.rest.now c.in_ok-kind.kind c.in_ok-kind.len c.loop-rest.invariant.utf8 some c.loop-rest.invariant.filled c.in_ok-kind.ensures in
    record {
      utf8 = c.without_blanks-rest-in-loop-rest.utf8;
      within = omega (arith, c.range_from.ensures.len, c.without_blanks-rest-in-loop-rest.ensures.within, c.loop-rest.invariant.within);
      filled = rw c.without_blanks-rest-in-loop-rest.ensures.rest (ends-front is_blank c.range_from.result.now);
      told = rw (c.in_ok-push.ensures.ok, c.without_blanks-rest-in-loop-rest.ensures.rest, c.range_from.ensures.value)
          (cuts_token c.args.text.now c.loop-rest.rest.now c.loop-rest.found c.in_ok-kind.kind c.in_ok-kind.len c.loop-rest.invariant.within cut c.in_ok-kind.ensures c.loop-rest.invariant.told);
    }

pub returns : goal.returns
returns c = cuts_end _ c.loop-rest.rest.now c.args.text.now c.loop-rest.found (search rules) c.loop-rest.invariant.told
