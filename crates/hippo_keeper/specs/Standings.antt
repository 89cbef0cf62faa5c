-- What is known of the calls made on a keeper, and how an answer changes it.
use Rattle.std.specs.Prelude.{false, ◌||◌, Result, is_ok, if◌then◌else◌}
use Rattle.hippo_io.specs.Faults.{next_count}
use Rattle.hippo_keeper.specs.Answering.{has_failed, is_out_of_memory}
use Rattle.hippo_keeper.specs.declared.faults.KeeperFault.{KeeperFault}
use Rattle.hippo_keeper.specs.declared.standing.Standing.{Standing}

-- no call has been made yet
abbrev pub new_standing : Standing
new_standing = record { started = false; closed = false; spent = false; faults = 0 }

-- a failure is counted and leaves the keeper spent
abbrev pub after_answer : {A : Type 0} → Result A KeeperFault → Standing → Standing
after_answer result standing = record standing {
  spent = standing.spent || has_failed result;
  faults = if has_failed result then next_count standing.faults else standing.faults;
}

-- as `after_answer`, for a start: success starts the keeper, and running out of memory closes it
abbrev pub after_start : {A : Type 0} → Result A KeeperFault → Standing → Standing
after_start result standing = record (after_answer result standing) {
  started = standing.started || is_ok result;
  closed = standing.closed || is_out_of_memory result;
}
