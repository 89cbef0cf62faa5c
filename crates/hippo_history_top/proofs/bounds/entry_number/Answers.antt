-- The word is a number, or is none.
use Rattle.std.proofs.Common.{◌∙◌, Bool, ap}
use Rattle.std.specs.Bool.{then_some}
use Rattle.hippo_history_top.proofs.NumberLemmas.{number-read, number-unread}
use Rattle.hippo_history_top.proofs.bounds.entry_number.Goals as goal

pub returns-in-Ok : goal.returns-in-Ok
returns-in-Ok c =
    c.then_some.ensures ∙ ap (λ (b : Bool). then_some b c.in-Ok.number) c.is_number.ensures
    ∙ number-read c.args.word.now c.in-Ok.number c.in-Ok.ensures.value.0.0 c.in-Ok.ensures.value.0.1 c.in-Ok.ensures.value.1

pub returns-in-Err : goal.returns-in-Err
returns-in-Err c = number-unread c.args.word.now c.in-Err.ensures.value
