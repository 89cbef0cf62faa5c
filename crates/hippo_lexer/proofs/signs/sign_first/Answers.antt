use Rattle.std.proofs.Common.{◌≡◌, ℕ, ◌<◌, List, [], ◌∷◌, length, None, refl, arith}
use Rattle.hippo_lexer.specs.Spelling.{sign_of, sign_table}
use Rattle.hippo_lexer.specs.Cutting.{sign_first}
use Rattle.hippo_lexer.proofs.signs.sign_first.Goals as goal

none_in_nothing : (bytes : List ℕ) → length bytes < 1 → None ≡ sign_first bytes
unfolding sign_first sign_of sign_table
none_in_nothing [] small = refl
none_in_nothing (byte ∷ rest) small = absurd (omega (arith, small))

pub returns-in-empty : goal.returns-in-empty
returns-in-empty c = none_in_nothing c.args.bytes.now (omega (arith, c.in-empty.len_below))
