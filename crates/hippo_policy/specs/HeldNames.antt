-- Owned and borrowed names.
use Rattle.hippo_values.specs.declared.names.Name.{Name}
use Rattle.hippo_policy.specs.declared.keys.Held.{Held}
use Rattle.hippo_policy.specs.declared.keys.Held.TheVariants.{Owned, Lent}

-- the name in a key, owned or borrowed
abbrev pub held_name : Held → Name
held_name (Owned name) = name
held_name (Lent name) = name.now
