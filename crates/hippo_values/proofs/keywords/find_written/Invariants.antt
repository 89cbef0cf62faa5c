use Rattle.std.proofs.Common.{◌≡◌, true, drop, bytes_eq}
use Rattle.std.specs.Map.{lookup}
use Rattle.std.specs.List.{list_all}
use Rattle.std.specs.Char.{is_ascii_lowercase}
use Rattle.hippo_values.specs.Names.{lower_case}
use Rattle.hippo_values.proofs.keywords.find_written.Given as goal

-- the rest of the table has the answer, and its words are letters
abbrev pub invariant-loop-known : goal.invariant-loop-known
invariant-loop-known l = (lookup (λ known. bytes_eq (lower_case known.now) (lower_case l.word)) (drop l.known-index l.table) ≡ lookup (λ known. bytes_eq (lower_case known.now) (lower_case l.word)) l.table) × (list_all (λ e. list_all is_ascii_lowercase e.0.now) (drop l.known-index l.table) ≡ true)
