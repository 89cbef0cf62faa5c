use Rattle.std.proofs.Common.{◌≡◌, [], ◌∷◌, ◌++◌, ◌+◌, drop, Some, None, refl, sym, ap, ◌∙◌}
use Rattle.std.specs.Prelude.{slice_get, option_map}
use Rattle.hippo_values.specs.Texts.{Txt}
use Rattle.hippo_drill.specs.Script.{script}
use Rattle.hippo_drill.specs.Kinds.{script_text}
use Rattle.hippo_drill.proofs.PlaceLemmas.{left_more, left_none}
use Rattle.hippo_drill.proofs.drill.Drill.next_line.Goals as goal

pub returns-in_default : goal.returns-in_default
returns-in_default c =
    let drill = c.self.inside in
    let missing : slice_get (script drill.size drill.number) drill.place ≡ None =
    sym (c.line_at.ensures.text drill.number) ∙ ap (option_map (script_text drill.number)) c.in_default.is in
    let none : c.args.self.now ≡ [] = sym c.self.view_is ∙ left_none (script drill.size drill.number) drill.place missing in
    record { hands_out = (none, none, refl) }

pub returns : goal.returns
returns c =
    let drill = c.self.inside in
    let line : Txt = script_text drill.number c.in-Some.line in
    let found : slice_get (script drill.size drill.number) drill.place ≡ Some line =
    sym (c.line_at.ensures.text drill.number) ∙ ap (option_map (script_text drill.number)) c.in-Some.is in
    let left : c.args.self.now ≡ line ∷ drop (drill.place + 1) (script drill.size drill.number) =
    sym c.self.view_is ∙ left_more (script drill.size drill.number) drill.place line found in
    let added : c.append.new.self ≡ c.args.out.now ++ line =
    c.in_ok-append.ensures.ok ∙ ap (λ (text : Txt). c.args.out.now ++ text) (c.as_str.ensures.value ∙ c.in_ok-text.ensures) in
    record { hands_out = (line, left, added) }
