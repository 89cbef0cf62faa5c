use Rattle.std.proofs.Common.{◌≡◌, ◌∙◌, ◌-◌, ◌≤◌, [], ◌∷◌, ◌++◌, length, ap, arith, rules, Some, None}
use Rattle.std.proofs.lemmas.List.{length-append}
use Rattle.std.proofs.lemmas.Str.Pattern.{split_parts, strip_prefix_char}
use Rattle.hippo_lexer.proofs.QuoteLemmas.{closing-found, closing-more, closing-ends}
use Rattle.hippo_lexer.proofs.parts.closing.Goals as goal

pub returns-in-None-clause-found : goal.returns-in-None-clause-found
returns-in-None-clause-found c =
    let parts = split_parts 39 c.loop-run.rest.now (Some (c.in-Some.run', c.in-Some.after)) c.in-Some.ensures.cases (omega arith) in
    let last = strip_prefix_char 39 c.in-Some.after.now None c.in-None.ensures.cases (omega arith) in
    ap (λ text. Some (text, length c.args.remaining.now - length c.in-Some.after.now)) c.in_ok-ended-in-None.ensures
    ∙ closing-found c.loop-run.text c.in-Some.run'.now c.in-Some.after.now c.loop-run.rest.now c.args.remaining.now c.loop-run.invariant.within c.loop-run.invariant.told parts.0 parts.1 last

pub loop-run-preserved : goal.loop-run-preserved
loop-run-preserved c =
    let parts = split_parts 39 c.loop-run.rest.now (Some (c.in-Some.run', c.in-Some.after)) c.in-Some.ensures.cases (omega arith) in
    let next = strip_prefix_char 39 c.in-Some.after.now (Some c.in-Some-strip_prefix.next) c.in-Some-strip_prefix.ensures.cases (omega arith) in
    let split : c.loop-run.rest.now ≡ c.in-Some.run'.now ++ 39 ∷ 39 ∷ c.in-Some-strip_prefix.next.now = parts.0 ∙ ap (λ after. c.in-Some.run'.now ++ 39 ∷ after) next in
    let text : c.append-in-Some-strip_prefix.new.self ≡ c.loop-run.text ++ c.in-Some.run'.now ++ 39 ∷ [] =
    c.in_ok-append-in-Some-strip_prefix-2.ensures.ok ∙ ap (λ text. text ++ 39 ∷ []) c.in_ok-append-in-Some-strip_prefix.ensures.ok in
    let within : length c.loop-run.rest.now ≤ length c.args.remaining.now = c.loop-run.invariant.within in
    record {
      utf8 = search rules;
      within = omega (arith, simp length-append at (ap length split));
      told = rw text (closing-more c.loop-run.text c.in-Some.run'.now c.in-Some-strip_prefix.next.now c.loop-run.rest.now c.args.remaining.now within c.loop-run.invariant.told split parts.1);
    }

pub returns-clause-found : goal.returns-clause-found
returns-clause-found c =
    let none = split_parts 39 c.loop-run.rest.now None (rw c.in_default.is at c.split_once.ensures.cases) (omega arith) in
    closing-ends c.loop-run.text c.loop-run.rest.now c.args.remaining.now _ c.loop-run.invariant.told none
