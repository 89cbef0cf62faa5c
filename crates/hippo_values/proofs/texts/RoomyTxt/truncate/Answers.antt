use Rattle.std.proofs.Common.{string_bytes, arith}
use Rattle.std.proofs.lemmas.Str.{IsUtf8-string_bytes, IsCharBoundary-from_take}
use Rattle.hippo_values.proofs.texts.RoomyTxt.truncate.Goals as goal

pub truncate-requires : goal.truncate-requires
truncate-requires g c le =
    let text = c.self.inside.text in
    let cut = IsCharBoundary-from_take (string_bytes text) c.args.length (IsUtf8-string_bytes text) (omega (arith, le)) (rw c.self.view_is c.requires) in
    (cut.0, λ _. cut.1)
