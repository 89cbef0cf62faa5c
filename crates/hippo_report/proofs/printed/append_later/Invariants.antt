-- The text so far followed by the remaining members is the whole, and begins with the old text.
use Rattle.std.proofs.Common.{◌≡◌, ◌++◌, flat_map, drop}
use Rattle.hippo_values_text.specs.Printing.{KeepsFront}
use Rattle.hippo_report.proofs.printed.append_later.Given as goal

abbrev pub invariant-loop-member : goal.invariant-loop-member
invariant-loop-member g l =
    (l.out ++ flat_map (λ member. l.separator ++ g.T.Printed.text member) (drop l.member-index l.rest)
    ≡ l.initial.out ++ flat_map (λ member. l.separator ++ g.T.Printed.text member) l.rest)
    × KeepsFront l.initial.out l.out
