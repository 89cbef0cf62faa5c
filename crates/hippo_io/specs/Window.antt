-- The meaning of a line reader's fields.
use Rattle.std.specs.Prelude.{◌≡◌, ◌+◌, ◌-◌, ◌≤◌, ◌<◌, ◌↔◌, Some, vec_len, slice_range}
use Rattle.hippo_values.specs.Limits.{line_limit}
use Rattle.hippo_io.specs.Position.{Position}
use Rattle.hippo_io.specs.HandingOut.{input_limit}
use Rattle.hippo_io.specs.declared.lines.LineReader.TheInside.{Inside}
use Rattle.hippo_io.specs.declared.lines.LineFault.TheVariants.{TooMuch}

-- the position that the fields represent
abbrev pub position_of : Inside → Position
position_of fields = record {
  waiting = slice_range fields.buffer.items fields.start fields.end;
  taken = fields.taken;
  ended = fields.ended;
  failure = fields.failure;
}

-- the waiting bytes are in the buffer
pub record IsWindow (fields : Inside) : Type 0 where
  pub ordered : fields.start ≤ fields.end
  pub in_buffer : fields.end ≤ vec_len fields.buffer
  pub room : vec_len fields.buffer ≡ line_limit + 1
  pub taken : fields.end - fields.start ≤ fields.taken
  pub limit : (fields.failure ≡ Some TooMuch) ↔ (input_limit < fields.taken)
