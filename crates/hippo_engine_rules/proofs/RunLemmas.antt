-- The result of a run with one more effect.
use Rattle.std.proofs.Common.{◌≡◌, List, [], ◌∷◌, ◌++◌, flat_map, refl, ap, sym, ◌∙◌, append_assoc, append-nil}
use Rattle.hippo_model.specs.Terms.{History}
use Rattle.hippo_engine_sessions.specs.Worlds.{World}
use Rattle.hippo_engine_rules.specs.Effects.{Effect}
use Rattle.hippo_engine_rules.specs.Runs.{replies, history_after, world_after}

flat_map-last : {A B : Type 0} (f : A → List B) (front : List A) (last : A) → flat_map f (front ++ last ∷ []) ≡ flat_map f front ++ f last
flat_map-last f [] last = append-nil (f last)
flat_map-last f (first ∷ front) last = ap (λ rest. f first ++ rest) (flat_map-last f front last) ∙ sym (append_assoc (f first) (flat_map f front) (f last))

pub history_after-append : (history : History) (effects : List Effect) (effect : Effect) → history_after history (effects ++ effect ∷ []) ≡ history_after history effects ++ effect.added
history_after-append history effects effect =
    ap (λ (rest : History). history ++ rest) (flat_map-last (λ (e : Effect). e.added) effects effect)
    ∙ sym (append_assoc history (flat_map (λ (e : Effect). e.added) effects) effect.added)

pub world_after-append : (world : World) (effects : List Effect) (effect : Effect) → world_after world (effects ++ effect ∷ []) ≡ effect.world
world_after-append world [] effect = refl
world_after-append world (first ∷ effects) effect = world_after-append first.world effects effect

pub replies-append : (effects : List Effect) (effect : Effect) → replies (effects ++ effect ∷ []) ≡ replies effects ++ effect.reply
replies-append effects effect = flat_map-last (λ (e : Effect). e.reply) effects effect
