use Rattle.std.proofs.Common.{arith, rules, Some, None, length, ap, ◌∙◌}
use Rattle.std.proofs.lemmas.List.{length-append}
use Rattle.std.proofs.lemmas.Result.{on_ok_weaker}
use Rattle.std.proofs.lemmas.Str.Pattern.{split_parts}
use Rattle.hippo_values_text.proofs.PrintingLemmas.{KeepsFront-step, doubled_quotes-step, doubled_quotes-last, doubled_quotes-without, doubled_quotes-room, doubled_quotes-longer}
use Rattle.hippo_values_text.proofs.printing.append_by_quotes.Goals as goal

pub loop-before-preserved : goal.loop-before-preserved
loop-before-preserved g c =
    let split = split_parts 39 c.loop-before.rest.now (Some (c.in-Some.before, c.in-Some.after)) c.in-Some.ensures.cases (omega arith) in
    record {
      text = search rules;
      whole = doubled_quotes-step c.args.out.now c.args.text.now c.loop-before.out c.loop-before.rest.now c.in-Some.before.now c.in-Some.after.now c.append.new.self c.append-in-Some.new.self c.loop-before.invariant.whole split c.in_ok-append.ensures.ok c.in_ok-append-2.ensures.ok;
      front = KeepsFront-step _ c.loop-before.out c.in-Some.before.now c.append.new.self c.append-in-Some.new.self c.loop-before.invariant.front c.in_ok-append.ensures.ok c.in_ok-append-2.ensures.ok;
    }

pub returns-clause-adds : goal.returns-clause-adds
returns-clause-adds g c =
    let none = split_parts 39 c.loop-before.rest.now None c.in_default.ensures.cases (omega arith) in
    record {
      ok = on_ok_weaker _ (doubled_quotes-last c.args.out.now c.args.text.now c.loop-before.out c.loop-before.rest.now _ c.loop-before.invariant.whole none) c.append-2.ensures.ok;
      err = search rules;
    }

pub returns-in_err-append-clause-room : goal.returns-in_err-append-clause-room
returns-in_err-append-clause-room g c = λ fits.
    let split = split_parts 39 c.loop-before.rest.now (Some (c.in-Some.before, c.in-Some.after)) c.in-Some.ensures.cases (omega arith) in
    let left = doubled_quotes-room c.args.out.now c.args.text.now c.loop-before.out c.loop-before.rest.now g.row.ROOM c.loop-before.invariant.whole fits in
    let more = doubled_quotes-longer c.loop-before.rest.now c.in-Some.before.now c.in-Some.after.now split in
    let full = c.in_err-append.ensures.room (omega (arith, left, more)) in absurd cc

pub returns-in_err-append-2-clause-room : goal.returns-in_err-append-2-clause-room
returns-in_err-append-2-clause-room g c = λ fits.
    let split = split_parts 39 c.loop-before.rest.now (Some (c.in-Some.before, c.in-Some.after)) c.in-Some.ensures.cases (omega arith) in
    let left = doubled_quotes-room c.args.out.now c.args.text.now c.loop-before.out c.loop-before.rest.now g.row.ROOM c.loop-before.invariant.whole fits in
    let more = doubled_quotes-longer c.loop-before.rest.now c.in-Some.before.now c.in-Some.after.now split in
    let held = ap length c.in_ok-append.ensures.ok ∙ length-append c.loop-before.out c.in-Some.before.now in
    let full = c.in_err-append-2.ensures.room (omega (arith, left, more, held)) in absurd cc

pub returns-clause-room : goal.returns-clause-room
returns-clause-room g c = λ fits.
    let none = split_parts 39 c.loop-before.rest.now None c.in_default.ensures.cases (omega arith) in
    let left = doubled_quotes-room c.args.out.now c.args.text.now c.loop-before.out c.loop-before.rest.now g.row.ROOM c.loop-before.invariant.whole fits in
    c.append-2.ensures.room (omega (arith, left, ap length (doubled_quotes-without c.loop-before.rest.now none)))
