-- The table is at none of the places so far.
use Rattle.std.proofs.Common.{◌≡◌, ◌+◌, drop}
use Rattle.std.specs.Prelude.{bytes_eq}
use Rattle.std.specs.List.{position_or_len}
use Rattle.hippo_combine.proofs.held.place_of.Given as goal

abbrev pub invariant-loop-lives : goal.invariant-loop-lives
invariant-loop-lives l = record {
  counted : l.place ≡ l.lives-index;
  left : position_or_len (λ lives. bytes_eq lives.schema.name l.table) l.tables
      ≡ l.place + position_or_len (λ lives. bytes_eq lives.schema.name l.table) (drop l.lives-index l.tables);
}
