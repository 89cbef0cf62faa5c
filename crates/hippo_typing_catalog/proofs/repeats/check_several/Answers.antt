use Rattle.std.proofs.Common.{ℕ, sym, ◌∙◌, arith, List, refl}
use Rattle.hippo_values.specs.declared.names.Name.{Name}
use Rattle.hippo_typing_catalog.proofs.RepeatLemmas.{repeated, not_repeated, kept_more}
use Rattle.hippo_typing_catalog.proofs.repeats.check_several.Goals as goal

pub returns-then-contains : goal.returns-then-contains
returns-then-contains c =
    let there = sym c.contains.ensures ∙ c.if-contains.true in
    rw c.loop-name.invariant.left
    (repeated c.args.names.now c.loop-name.name-index c.name-item.result (omega arith) c.name-item.is c.loop-name.before.keys c.loop-name.invariant.kept there c.repeated_name.result c.repeated_name.ensures)

pub loop-name-preserved : goal.loop-name-preserved
loop-name-preserved c =
    let absent = sym c.contains.ensures ∙ c.if-contains.false in
    let names : List Name = c.args.names.now in
    let i : ℕ = c.loop-name.name-index in
    record {
      left = c.loop-name.invariant.left ∙ not_repeated names i c.name-item.result (omega arith) c.name-item.is c.loop-name.before.keys c.loop-name.invariant.kept absent;
      kept = kept_more names i c.name-item.result (omega arith) c.name-item.is c.loop-name.before.keys c.loop-name.invariant.kept c.insert.new.self.keys _ absent refl c.in_ok-insert.ensures.keys;
    }
