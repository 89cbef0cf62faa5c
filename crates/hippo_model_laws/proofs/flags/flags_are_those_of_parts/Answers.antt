use Rattle.std.proofs.Common.{◌≡◌, ℕ, ◌+◌, ◌-◌, ◌++◌, take, drop, ap, ◌∙◌, arith}
use Rattle.std.specs.Prelude.{filter_map}
use Rattle.std.proofs.Math.Seq.{take-add, drop-drop}
use Rattle.std.proofs.lemmas.List.Elements.{filter_map-append}
use Rattle.hippo_model.specs.Terms.{History}
use Rattle.hippo_model.specs.Audits.{flag_of}
use Rattle.hippo_model_laws.proofs.flags.flags_are_those_of_parts.Goals as goal

pub returns : goal.returns
returns c = λ meaning history audit above cut upto low high.
    let here : ℕ = cut - above in
    let later : ℕ = upto - cut in
    let whole : upto - above ≡ here + later = omega (arith, low, high) in
    let remaining : above + here ≡ cut = omega (arith, low) in
    let entries : take (upto - above) (drop above history) ≡ take here (drop above history) ++ take later (drop cut history) =
    ap (λ n. take n (drop above history)) whole ∙ take-add here later (drop above history)
    ∙ ap (λ (rest : History). take here (drop above history) ++ take later rest) (drop-drop here above history ∙ ap (λ n. drop n history) remaining) in
    ap (filter_map (flag_of meaning history audit)) entries
    ∙ filter_map-append (flag_of meaning history audit) (take here (drop above history)) (take later (drop cut history))
