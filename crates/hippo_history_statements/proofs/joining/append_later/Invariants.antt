-- The text so far and the remaining members make up the whole, and it begins with the old text.
use Rattle.std.proofs.Common.{◌≡◌, ◌++◌, flat_map, drop}
use Rattle.hippo_values_text.specs.Printing.{KeepsFront}
use Rattle.hippo_history_statements.proofs.joining.append_later.Given as goal

abbrev pub invariant-loop-member : goal.invariant-loop-member
invariant-loop-member g l =
    let text = g.S.Spelling.text l.spelling in
    (l.out ++ flat_map (λ member. l.separator ++ text member) (drop l.member-index l.rest)
    ≡ l.initial.out ++ flat_map (λ member. l.separator ++ text member) l.rest)
    × KeepsFront l.initial.out l.out
