-- The latest moment of small histories.
use Rattle.std.proofs.Common.{◌≡◌, pos, [], ◌∷◌, refl, codes}
use Rattle.hippo_values.specs.Moments.{first_moment}
use Rattle.hippo_model.specs.declared.entry.Act.TheVariants.{Purpose, Recipient}
use Rattle.hippo_model.specs.declared.entry.Entry.{Entry}
use Rattle.hippo_replay.specs.Standing.{latest_moment}

abbrev purpose : Entry
purpose = record { seq = 1; moment = pos 1704182400; act = Purpose (codes "treatment") }

abbrev recipient : Entry
recipient = record { seq = 2; moment = pos 1704182401; act = Recipient (codes "nurse") }

no_entry_has_the_least_moment : latest_moment [] ≡ first_moment
no_entry_has_the_least_moment = refl

last_of_two_is_the_latest : latest_moment (purpose ∷ recipient ∷ []) ≡ pos 1704182401
last_of_two_is_the_latest = refl
