-- One more cell.
use Rattle.std.proofs.Common.{◌∙◌, sym, refl, ap, ◌++◌, [], ◌∷◌}
use Rattle.std.proofs.lemmas.List.{take_all}
use Rattle.hippo_model.specs.Rules.{Rule}
use Rattle.hippo_policy.specs.Cells.{cell_words}
use Rattle.hippo_policy.specs.Keys.{same_cell_key}
use Rattle.hippo_policy.proofs.CellLemmas.{same_cell_key-equivalence}
use Rattle.hippo_policy.specs.Words.{Said, clamped_number}
use Rattle.hippo_policy.proofs.KeyLemmas.{done_once, done_before}
use Rattle.hippo_policy.proofs.ruled_tables.RuledTables.push_all.Goals.{then-not-contains+in-Ok, else-not-contains}
use Rattle.hippo_policy.proofs.ruled_tables.RuledTables.push_all.Goals as goal

pub loop-place-preserved : goal.loop-place-preserved
loop-place-preserved c other =
    let said : Said Rule = record { number = c.args.number; word = c.args.word.now } in
    elim c.if-not-contains.branch [
      | then-not-contains+in-Ok w ↦ ap (λ kept. cell_words kept other) w.self-is
          ∙ done_once same_cell_key same_cell_key-equivalence c.args.cells.now c.loop-place.place c.index-cells-place.result other (λ words. words ++ clamped_number words said ∷ []) (cell_words c.args.self.now other) (cell_words c.loop-place.self other) (cell_words w.push_copy.new.self other)
          c.loop-place-test.true c.index-cells-place.is (sym w.if-not-contains.true ∙ c.contains.ensures.value) (c.loop-place.invariant other) (w.in-Ok.ensures.ok other)
      | else-not-contains w ↦ ap (λ kept. cell_words kept other) w.self-is
          ∙ done_before same_cell_key same_cell_key-equivalence c.args.cells.now c.loop-place.place c.index-cells-place.result other (λ words. words ++ clamped_number words said ∷ []) (cell_words c.args.self.now other) (cell_words c.loop-place.self other)
          c.loop-place-test.true c.index-cells-place.is (sym w.if-not-contains.false ∙ c.contains.ensures.value) (c.loop-place.invariant other)
    ]

pub returns : goal.returns
returns c = record { ok = λ other. c.loop-place.invariant other ∙ rw (take_all c.loop-place.place c.args.cells.now c.loop-place-test.false) refl; err = tt }
