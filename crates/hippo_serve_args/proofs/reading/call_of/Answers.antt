use Rattle.std.proofs.Common.{◌≡◌, ◌∙◌, ap, subst, map, List, ℕ, IfOk}
use Rattle.hippo_serve_args.specs.CommandLine.{call_of}
use Rattle.hippo_serve_args.proofs.reading.call_of.Goals as goal

pub returns : goal.returns
returns c =
    subst (λ (words : List (List ℕ)). IfOk c.call_in.result (λ call. call ≡ call_of words))
    (ap (map (λ text. text.now)) c.deref.ensures.value ∙ c.in_ok-texts.ensures) c.call_in.ensures
