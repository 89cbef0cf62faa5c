-- One more column, and all of them.
use Rattle.std.proofs.Common.{◌≡◌, ◌∙◌, refl, ap, arith, ℕ, length, take, option_copied}
use Rattle.hippo_model.specs.declared.policy.Gate.{Gate}
use Rattle.hippo_model.specs.Rules.{rule_at}
use Rattle.hippo_policy.specs.declared.keys.CellKey.{CellKey}
use Rattle.hippo_policy.specs.Books.{rule_of, rule_word}
use Rattle.hippo_policy.specs.Gates.{gate_by}
use Rattle.hippo_policy.specs.Words.{latest}
use Rattle.hippo_policy.proofs.SaidLemmas.{latest-numbered_words}
use Rattle.hippo_policy.proofs.GateLemmas.{take_more, take_whole}
use Rattle.hippo_policy.proofs.book.PolicyBook.table_rules.Goals as goal

pub loop-place-preserved : goal.loop-place-preserved
loop-place-preserved c history kept =
    let gate : ℕ → Gate = λ place. gate_by (take c.args.n history) c.args.moment.now (rule_at (take c.args.n history) c.args.purpose.now c.args.recipient.now c.args.schema.now.name place) in
    let cell : CellKey = record { table = record { purpose = c.args.purpose.now; recipient = c.args.recipient.now; table = c.args.schema.now.name }; column = c.loop-place.place } in
    let found : option_copied c.latest_in-ruling.result ≡ rule_of (take c.args.n history) cell = rw (c.columns_of-columns.ensures, c.lent-table.ensures) at c.latest_in-ruling.ensures ∙ ap (latest c.args.n) (kept.rules cell) ∙ latest-numbered_words (rule_word cell) c.args.n history in
    rw (c.in_ok-push.ensures.ok, c.loop-place.invariant history kept, c.in_ok-gate_of.ensures history kept, found) (take_more gate (length c.args.schema.now.columns) c.loop-place.place (omega (arith, c.loop-place-test.true, c.len-place-end.ensures)))

pub returns : goal.returns
returns c history kept =
    let gate : ℕ → Gate = λ place. gate_by (take c.args.n history) c.args.moment.now (rule_at (take c.args.n history) c.args.purpose.now c.args.recipient.now c.args.schema.now.name place) in
    let gates = c.loop-place.invariant history kept ∙ take_whole gate (length c.args.schema.now.columns) c.loop-place.place (omega (arith, c.loop-place-test.false, c.loop-place.auto.place-end, c.len-place-end.ensures)) in
    rw (gates, c.in_ok-key.ensures) refl
