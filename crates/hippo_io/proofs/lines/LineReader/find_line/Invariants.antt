-- The returned lines stay the same, and the searched bytes have no line feed.
use Rattle.std.proofs.Common.{◌≡◌, ℕ, ◌+◌, ◌-◌, ◌≤◌, List, length, take}
use Rattle.std.specs.Prelude.{Option}
use Rattle.hippo_values.specs.Limits.{line_limit}
use Rattle.hippo_io.specs.Lines.{feeds}
use Rattle.hippo_io.specs.Position.{Position}
use Rattle.hippo_io.specs.Inputs.{ReadSoFar, ForEachInput, ReadsMore}
use Rattle.hippo_io.specs.HandingOut.{bytes_handed_out}
use Rattle.hippo_io.specs.Moves.{IsGoing, KeepsHandedOut}
use Rattle.hippo_io.proofs.lines.LineReader.find_line.Given as goal

pub record IsSearching (before reader : Position) (left_before : Option (List ℕ)) (reads_before : ReadSoFar) (left : Option (List ℕ)) (reads : ReadSoFar) (faults_before faults_now searched : ℕ) : Type 0 where
  pub going : IsGoing reader
  pub kept : ForEachInput left_before reads_before left reads (λ l l'. KeepsHandedOut before reader l l')
  pub on : ReadsMore reads_before reads
  pub ended : reads.ended ≡ reads_before.ended
  pub same : bytes_handed_out reader ≡ bytes_handed_out before
  pub within : searched ≤ length reader.waiting
  pub clear : feeds (take searched reader.waiting) ≡ 0
  pub faults : faults_now ≡ faults_before

abbrev pub invariant-loop-length : goal.invariant-loop-length
invariant-loop-length g l =
    let left = g.S.Source.left in
    let reads = g.S.Source.reads in
    let faults = g.S.Source.faults in
    IsSearching l.fn.self l.self (left l.fn.source) (reads l.fn.source) (left l.source) (reads l.source) (faults l.fn.source) (faults l.source) l.searched

abbrev pub decreases-loop-length : goal.decreases-loop-length
decreases-loop-length g l = line_limit + 1 - length l.self.waiting
