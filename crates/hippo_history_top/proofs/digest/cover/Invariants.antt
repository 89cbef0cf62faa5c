-- What is left of the piece leads to what the whole piece does.
use Rattle.std.proofs.Common.{◌≡◌, ◌+◌, drop}
use Rattle.hippo_keeper.specs.Keeping.{last_number}
use Rattle.hippo_history_top.specs.Digests.{digest_after}
use Rattle.hippo_history_top.proofs.digest.cover.Given as goal

abbrev pub invariant-loop-kept : goal.invariant-loop-kept
invariant-loop-kept l = record {
  counted : l.chain.count ≡ l.initial.chain.count + l.kept-index;
  last : last_number l.chain.number (drop l.kept-index l.piece) ≡ last_number l.initial.chain.number l.piece;
  digested : digest_after l.chain.digest (drop l.kept-index l.piece) ≡ digest_after l.initial.chain.digest l.piece;
}
