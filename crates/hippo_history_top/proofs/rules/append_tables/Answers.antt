-- One more table, and none.
use Rattle.std.proofs.Common.{◌++◌, take, drop, arith}
use Rattle.std.proofs.lemmas.List.{drop_all}
use Rattle.hippo_values.specs.Texts.{Txt}
use Rattle.hippo_values.specs.declared.names.Name.{Name}
use Rattle.hippo_model.specs.declared.schema.Schema.{Schema}
use Rattle.hippo_history_top.specs.Dating.{dated_line}
use Rattle.hippo_history_top.specs.Ruling.{table_shown, tables_shown}
use Rattle.hippo_history_top.proofs.LoopLemmas.{one_at, none_more}
use Rattle.hippo_history_top.proofs.rules.append_tables.Goals as goal

pub loop-place-preserved : goal.loop-place-preserved
loop-place-preserved c history stands =
    let policy = c.args.policy.now in
    let text : Name × Schema → Txt = λ named. table_shown (dated_line policy.format policy.moments.now) policy.scope.now (take policy.n history) c.args.purpose.now c.args.recipient.now named.1 in
    one_at text (c.args.out.now ++ tables_shown policy.catalog.now.names (dated_line policy.format policy.moments.now) policy.scope.now (take policy.n history) c.args.purpose.now c.args.recipient.now) c.loop-place.out c.append_table_at.new.out
    policy.catalog.now.names.tables c.loop-place.place (c.in_ok-append_table_at.ensures history stands) (c.loop-place.invariant history stands)

pub returns : goal.returns
returns c history stands =
    let policy = c.args.policy.now in
    let tables = policy.catalog.now.names.tables in
    let text : Name × Schema → Txt = λ named. table_shown (dated_line policy.format policy.moments.now) policy.scope.now (take policy.n history) c.args.purpose.now c.args.recipient.now named.1 in
    none_more text (c.args.out.now ++ tables_shown policy.catalog.now.names (dated_line policy.format policy.moments.now) policy.scope.now (take policy.n history) c.args.purpose.now c.args.recipient.now) c.loop-place.out
    (drop c.loop-place.place tables) (drop_all c.loop-place.place tables (omega (arith, c.loop-place-test.false, c.table_count-place-end.ensures))) (c.loop-place.invariant history stands)
