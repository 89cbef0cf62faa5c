-- The longest list at the front of the tokens, part by part.
use Rattle.std.specs.Prelude.{ℕ, zero, suc, List, [], ◌∷◌, ◌++◌, length, Option, Some, None}
use Rattle.hippo_values.specs.Options.{◌>>=◌}
use Rattle.hippo_spj_reader.specs.Front.{Kinds, Finder}
use Rattle.hippo_spj_reader.specs.Promises.{either}

module _ {X : Type 0} (leading_part : Finder X) (after_part : Kinds → Option Kinds) where
  -- up to this many parts, as long as a separator leads to the next
  abbrev pub leading_parts : ℕ → Finder (List X)
  leading_parts zero tokens = None
  leading_parts (suc n) tokens = do
    first ← leading_part tokens
    others ← either (after_part first.1) (λ remaining. leading_parts n remaining)
        (Some ([], first.1))
    Some (first.0 ∷ others.0, others.1)

  -- the rest of a list after one of its parts
  abbrev pub further_parts : ℕ → Finder (List X)
  further_parts n tokens = either (after_part tokens)
      (λ remaining. leading_parts n remaining) (Some ([], tokens))

  -- the longest list at the front
  abbrev pub leading_list : Finder (List X)
  leading_list tokens = leading_parts (suc (length tokens)) tokens

-- these parts, followed by those found
abbrev pub with_front_parts : {X : Type 0} → List X → Option (List X × Kinds)
    → Option (List X × Kinds)
with_front_parts front found = found >>= λ others. Some (front ++ others.0, others.1)
