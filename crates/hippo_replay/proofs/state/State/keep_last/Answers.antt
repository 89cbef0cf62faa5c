-- The entry is stored, or taken back.
use Rattle.hippo_replay.proofs.state.State.keep_last.Goals as goal

pub returns-in-Ok-clause-keeps : goal.returns-in-Ok-clause-keeps
returns-in-Ok-clause-keeps g c = c.in-Ok.ensures.keeps

pub returns-in-Err-Failed-clause-keeps : goal.returns-in-Err-Failed-clause-keeps
returns-in-Err-Failed-clause-keeps g c = rw c.in-Err-Failed.field-0-is at c.in-Err-Failed.ensures.keeps

pub returns-in-Err-Memory-clause-keeps : goal.returns-in-Err-Memory-clause-keeps
returns-in-Err-Memory-clause-keeps g c = rw c.in-Err-Memory.field-0-is at c.in-Err-Memory.ensures.keeps

pub returns-in-Err-Memory-clause-memory : goal.returns-in-Err-Memory-clause-memory
returns-in-Err-Memory-clause-memory g c short history knows = c.take_back.ensures history c.args.entry.now knows
