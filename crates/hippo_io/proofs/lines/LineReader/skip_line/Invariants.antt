-- The reader is inside the line, and no line feed waits.
use Rattle.std.proofs.Common.{◌≡◌, ℕ, ◌-◌, ◌<◌, List}
use Rattle.std.specs.Prelude.{Option}
use Rattle.hippo_io.specs.Lines.{LineText, feeds}
use Rattle.hippo_io.specs.Position.{Position}
use Rattle.hippo_io.specs.Inputs.{ReadSoFar, ForEachInput, ReadsMore}
use Rattle.hippo_io.specs.HandingOut.{input_limit, bytes_handed_out, HasHandedOut}
use Rattle.hippo_io.specs.Moves.{IsGoing}
use Rattle.hippo_io.proofs.HandedLemmas.{IsSkipping}
use Rattle.hippo_io.proofs.lines.LineReader.skip_line.Given as goal

pub record IsInside (before reader : Position) (left_before : Option (List ℕ)) (reads_before : ReadSoFar) (left : Option (List ℕ)) (reads : ReadSoFar) (faults_before faults_now : ℕ) : Type 0 where
  pub going : IsGoing reader
  pub clear : feeds reader.waiting ≡ 0
  pub skipping : ForEachInput left_before reads_before left reads (λ l l'. (input : List ℕ) (handed : List LineText) → HasHandedOut input handed before l → IsSkipping input handed reader l')
  pub later : bytes_handed_out before < reader.taken
  pub on : ReadsMore reads_before reads
  pub ended : reads.ended ≡ reads_before.ended
  pub faults : faults_now ≡ faults_before

abbrev pub invariant-loop-self : goal.invariant-loop-self
invariant-loop-self g l =
    let left = g.S.Source.left in
    let reads = g.S.Source.reads in
    let faults = g.S.Source.faults in
    IsInside l.fn.self l.self (left l.fn.source) (reads l.fn.source) (left l.source) (reads l.source) (faults l.fn.source) (faults l.source)

abbrev pub decreases-loop-self : goal.decreases-loop-self
decreases-loop-self g l = input_limit - l.self.taken
