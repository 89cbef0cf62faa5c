use Rattle.std.proofs.Common.{◌≡◌, take}
use Rattle.std.specs.List.{list_all}
use Rattle.hippo_values.specs.Texts.{is_plain}
use Rattle.hippo_values.proofs.texts.are_plain.Given as goal

-- whether the bytes so far are plain
abbrev pub invariant-loop-byte : goal.invariant-loop-byte
invariant-loop-byte l = l.are_plain ≡ list_all is_plain (take l.byte-index l.bytes)
