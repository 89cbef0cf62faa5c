-- The tables and conditions so far and the remaining ones make up all of FROM.
use Rattle.std.proofs.Common.{◌≤◌, length}
use Rattle.hippo_spj_reader.specs.Front.{kinds}
use Rattle.hippo_spj_reader.specs.SelectFinder.{leading_sources}
use Rattle.hippo_spj_reader.proofs.SourceLoops.{Joins}
use Rattle.hippo_spj_reader.proofs.selects.from_list.Given as goal

abbrev pub invariant-loop-sources : goal.invariant-loop-sources
invariant-loop-sources l = record {
  no_longer : length l.rest ≤ length l.fn.tokens;
  so_far : Joins (leading_sources (kinds l.fn.tokens)) l.sources.names l.sources.conditions l.rest;
}

abbrev pub decreases-loop-sources : goal.decreases-loop-sources
decreases-loop-sources l = length l.rest
