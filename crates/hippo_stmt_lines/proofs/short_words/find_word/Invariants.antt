use Rattle.std.proofs.Common.{◌≡◌, drop, bytes_eq}
use Rattle.std.specs.Map.{lookup}
use Rattle.hippo_values.specs.Names.{lower_case}
use Rattle.hippo_stmt_lines.proofs.short_words.find_word.Given as goal

-- the rest of the table has the answer
abbrev pub invariant-loop-known : goal.invariant-loop-known
invariant-loop-known l = lookup (λ known. bytes_eq (lower_case known.now) (lower_case l.word)) (drop l.known-index l.table) ≡ lookup (λ known. bytes_eq (lower_case known.now) (lower_case l.word)) l.table
