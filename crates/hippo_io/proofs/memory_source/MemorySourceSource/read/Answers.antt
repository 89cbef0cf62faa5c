-- The bytes returned so far, and the first of those that were left.
use Rattle.std.proofs.Common.{◌≡◌, ◌∙◌, ◌-◌, ◌+◌, ◌++◌, length, take, drop, refl, ap, sym}
use Rattle.std.proofs.Math.Seq.{take-add}
use Rattle.std.proofs.lemmas.List.{take_rest}
use Rattle.hippo_io.proofs.memory_source.MemorySourceSource.read.Goals as goal

pub returns-clause-returned : goal.returns-clause-returned
returns-clause-returned c =
    let place = c.self.inside.place in
    let bytes = c.self.inside.bytes in
    let n = c.copy_front-n.result in
    let rest : take (length c.as_slice.result.now - place) (drop place c.as_slice.result.now) ≡ drop place bytes = take_rest c.as_slice.result.now place ∙ ap (drop place) c.as_slice.ensures in
    let all : take (place + n) bytes ≡ take place bytes ++ take n c.copy_front-n.new.to =
    take-add place n bytes ∙ ap (λ l. take place bytes ++ l) (sym (c.copy_front-n.ensures.bytes ∙ ap (take n) rest)) in
    rw (← c.self.view_is, all, c.has_ended-self-inside.ensures) refl
