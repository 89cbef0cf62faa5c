-- The pair of purpose and recipient that an act names.
use Rattle.std.specs.Prelude.{Bool, true}
use Rattle.hippo_model.specs.declared.entry.Act.{Act}
use Rattle.hippo_model.specs.declared.entry.Act.TheVariants.{Authorize, Deauthorize, Allow, Revoke}
use Rattle.hippo_model.specs.Terms.{History}
use Rattle.hippo_model.specs.Validity.{pair_exists}

-- whether the purpose and the recipient that a grant or a rule names exist
abbrev pub named_pair_exists : History → Act → Bool
named_pair_exists history (Authorize user purpose recipient) = pair_exists history purpose recipient
named_pair_exists history (Deauthorize user purpose recipient) =
    pair_exists history purpose recipient
named_pair_exists history (Allow purpose recipient table columns item days) =
    pair_exists history purpose recipient
named_pair_exists history (Revoke purpose recipient table columns) =
    pair_exists history purpose recipient
named_pair_exists history act = true
