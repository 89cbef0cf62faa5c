use Rattle.std.proofs.lemmas.Str.{IsUtf8-past_char}
use Rattle.hippo_history_page.proofs.EscapeLemmas.{escaped-character}
use Rattle.hippo_history_page.proofs.escaping.append_escaped.Goals as goal

pub loop-character-preserved : goal.loop-character-preserved
loop-character-preserved c =
    let held = c.loop-character.invariant in
    let parts = c.in-Some.ensures.steps.0 in
    (IsUtf8-past_char _ _ c.in-Some.character held.0 parts, escaped-character _ _ _ _ _ _ parts c.in_ok-append_character.ensures held.1)
