-- The text so far followed by the remaining pieces is the whole, and begins with the old text.
use Rattle.std.proofs.Common.{◌≡◌, ◌++◌, map, drop}
use Rattle.std.specs.List.{concat}
use Rattle.hippo_values_text.specs.Printing.{KeepsFront}
use Rattle.hippo_report.proofs.pieces.append_each.Given as goal

abbrev pub invariant-loop-piece : goal.invariant-loop-piece
invariant-loop-piece g l =
    (l.out ++ concat (map (λ piece. piece.now) (drop l.piece-index l.pieces))
    ≡ l.initial.out ++ concat (map (λ piece. piece.now) l.pieces))
    × KeepsFront l.initial.out l.out
