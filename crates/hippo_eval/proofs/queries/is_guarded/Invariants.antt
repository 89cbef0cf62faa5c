-- The guards before the index are shown, so the rest decide.
use Rattle.std.proofs.Common.{◌≡◌, drop}
use Rattle.std.specs.List.{list_all}
use Rattle.hippo_model.specs.Masking.{is_guarded, is_shown_cell, masked_cell}
use Rattle.hippo_eval.proofs.queries.is_guarded.Given as goal

abbrev pub invariant-loop-guard : goal.invariant-loop-guard
invariant-loop-guard g l =
    list_all (λ guard. is_shown_cell (masked_cell (g.C.ChoiceView.choices l.choices) l.combo guard.expr)) (drop l.guard-index l.query.guards)
    ≡ is_guarded (g.C.ChoiceView.choices l.choices) l.query l.combo
