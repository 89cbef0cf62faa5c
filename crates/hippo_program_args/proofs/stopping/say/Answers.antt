-- The text is written.
use Rattle.std.proofs.Common.{refl, inl}
use Rattle.hippo_program_args.proofs.stopping.say.Goals as goal

pub returns-in-Ok : goal.returns-in-Ok
returns-in-Ok g c = record { says = inl (refl, rw c.as_bytes.ensures.value at c.in-Ok.ensures.ok, c.in-Ok.ensures.unfailed) }
