-- Laws on the flags of an audit.
use Rattle.std.specs.Prelude.{◌≡◌, ◌≤◌, ℕ, ◌++◌}
use Rattle.hippo_model.specs.declared.audit.Audit.{Audit}
use Rattle.hippo_model.specs.Terms.{History, Meaning}
use Rattle.hippo_model.specs.Audits.{flags_between}

-- the flags of a range of entry numbers are those of its parts, one after the other, wherever the
-- range is split
abbrev pub FlagsAreThoseOfParts : Type 0
FlagsAreThoseOfParts =
    (meaning : Meaning) (history : History) (audit : Audit) (above cut upto : ℕ) → above ≤ cut
    → cut ≤ upto
    → flags_between meaning history audit above upto
    ≡ flags_between meaning history audit above cut ++ flags_between meaning history audit cut upto
