use Rattle.std.proofs.Common.{◌≡◌, ◌∙◌, ap, subst, map, List, ℕ, IfOk}
use Rattle.hippo_history_top.specs.CommandLine.{asked_of}
use Rattle.hippo_history_top.proofs.reading.asked_of.Goals as goal

pub returns : goal.returns
returns c =
    subst (λ (words : List (List ℕ)). IfOk c.asked_in.result (λ call. call ≡ asked_of words))
    (ap (map (λ text. text.now)) c.deref.ensures.value ∙ c.in_ok-texts.ensures) c.asked_in.ensures
