-- Digests computed by evaluation. The example's name says what it shows.
use Rattle.std.proofs.Common.{◌≡◌, [], ◌∷◌, refl, codes}
use Rattle.sha2.specs.Sha256.{sha256, first_words, schedule, rounds, compress, hash_after, digest_bytes}
use Rattle.hex.specs.Hex.{encode_with, encode_lower}
use Rattle.hippo_model.specs.declared.entry.Act.TheVariants.{Purpose, Recipient}
use Rattle.hippo_model.specs.Terms.{History}
use Rattle.hippo_model_laws.proofs.ExampleHistories.{entry}
use Rattle.hippo_history_top.specs.Digests.{digest_of}

empty_histories_have_64_zeros : encode_lower (digest_of []) ≡ codes "0000000000000000000000000000000000000000000000000000000000000000"
unfolding encode_with
empty_histories_have_64_zeros = refl

abbrev care_and_nurse : History
care_and_nurse = entry 1 (Purpose (codes "care")) ∷ entry 2 (Recipient (codes "nurse")) ∷ []

each_entry_goes_into_the_digest : encode_lower (digest_of care_and_nurse) ≡ codes "90c6998e65ab309206520f99fbd9691de8bb9b4a025f695d5dda8c0015a6ba4f"
unfolding first_words schedule rounds compress hash_after digest_bytes sha256 encode_with
each_entry_goes_into_the_digest = refl
