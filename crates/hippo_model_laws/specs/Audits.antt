-- Laws on audits and denials.
use Rattle.std.specs.Prelude.{◌≡◌, true, ◌++◌, Some, slice_get}
use Rattle.hippo_model.specs.declared.audit.Audit.{Audit}
use Rattle.hippo_model.specs.declared.entry.Entry.{Entry}
use Rattle.hippo_model.specs.Terms.{History, Meaning, Place}
use Rattle.hippo_model.specs.Audits.{shared_tuple, is_flagged}
use Rattle.hippo_model.specs.Denials.{denials}
use Rattle.hippo_model.specs.Validity.{is_valid}

-- an entry is in a valid history
pub record StandsIn (meaning : Meaning) (history : History) (entry : Entry) : Type 0 where
  pub valid : is_valid meaning history ≡ true
  pub place : Place
  pub stands : slice_get history place ≡ Some entry

-- the result of an audit on an entry stays the same when entries are added
abbrev pub FlagsLast : Type 0
FlagsLast =
    (meaning : Meaning) (history : History) (entry : Entry) → StandsIn meaning history entry
    → (later : History) (audit : Audit)
    → (shared_tuple meaning (history ++ later) audit entry
    ≡ shared_tuple meaning history audit entry)
    × (is_flagged meaning (history ++ later) audit entry ≡ is_flagged meaning history audit entry)

-- the cells denied to an entry stay the same when entries are added
abbrev pub DenialsLast : Type 0
DenialsLast =
    (meaning : Meaning) (history : History) (entry : Entry) → StandsIn meaning history entry
    → (later : History)
    → denials meaning (history ++ later) entry ≡ denials meaning history entry
