-- The flags of a range of entries, computed on a small history.
use Rattle.std.proofs.Common.{◌≡◌, ℕ, pos, List, [], ◌∷◌, ◌++◌, refl, codes}
use Rattle.hippo_values.specs.declared.values.Value.TheVariants.{Int, Text}
use Rattle.hippo_model.specs.declared.audit.Flag.{Flag}
use Rattle.hippo_model.specs.declared.entry.Act.TheVariants.{Update}
use Rattle.hippo_model.specs.Terms.{History}
use Rattle.hippo_model.specs.Audits.{flags_between}
use Rattle.hippo_model.proofs.Truths.{truths}
use Rattle.hippo_model_laws.proofs.AuditExamples.{audit, asks}
use Rattle.hippo_model_laws.proofs.ExampleHistories.{treatment, nurse, ann, morning, patient, entry, clinic, column, select, always, asked}

-- two equal queries, and a change between them
abbrev asked_twice : History
asked_twice = clinic ++ asked 8 ∷ entry 9 (Update patient (Int (pos 1) ∷ Text (codes "Ada") ∷ Text (codes "555-3") ∷ Int (pos 95120) ∷ [])) ∷ asked 10 ∷ []

-- the flags of the queries that show a name
abbrev flags : ℕ → ℕ → List Flag
flags above upto = flags_between (asks (select (column 1 ∷ []) always)) asked_twice (audit patient (column 1 ∷ []) always) above upto

abbrev flag : ℕ → Flag
flag number = record {
  seq = number;
  moment = morning;
  user = ann;
  pair = record { purpose = treatment; recipient = nurse };
  shared = record { table = patient; key = Int (pos 1) ∷ [] } ∷ [];
}

flags_of_the_whole_history : flags 0 10 ≡ flag 8 ∷ flag 10 ∷ []
flags_of_the_whole_history = simp truths

flags_up_to_a_number_have_its_own : flags 0 8 ≡ flag 8 ∷ []
flags_up_to_a_number_have_its_own = simp truths

flags_above_a_number_lack_its_own : flags 8 10 ≡ flag 10 ∷ []
flags_above_a_number_lack_its_own = simp truths

change_is_not_flagged : flags 8 9 ≡ []
change_is_not_flagged = refl
