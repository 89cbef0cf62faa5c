-- The row's table does not exist, or what is left of the row's birth.
use Rattle.hippo_history_carry.proofs.LeaveLemmas.{leaves-nowhere, leaves-birth}
use Rattle.hippo_history_carry.proofs.leaving.birth_left.Goals as goal

pub returns-in-None : goal.returns-in-None
returns-in-None c = record {
  leaves = leaves-nowhere c.args.tables.now c.args.decided.now c.args.table.now c.args.row.now (λ history stands. rw c.in-None.is at (c.schema.ensures history stands));
}

pub returns-in_ok-key-in-Some : goal.returns-in_ok-key-in-Some
returns-in_ok-key-in-Some c = record {
  leaves = leaves-birth c.args.tables.now c.birth_of-left.result c.args.decided.now c.birth_of-left.new.decided c.args.table.now c.args.row.now c.in-Some.schema.now c.in_ok-key-in-Some.key
      (rw (c.as_slice.ensures, c.as_slice-in-Some.ensures) at c.in_ok-key-in-Some.ensures)
      (λ history stands. rw c.in-Some.is at (c.schema.ensures history stands))
      c.birth_of-left.ensures.left c.birth_of-left.ensures.adds;
}
