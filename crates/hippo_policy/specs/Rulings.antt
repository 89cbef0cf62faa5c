-- How a rule is held and returned.
use Rattle.std.specs.Prelude.{ℕ, Bool, true, false, Option, Some, None}
use Rattle.hippo_model.specs.declared.entry.Act.{Act}
use Rattle.hippo_model.specs.declared.entry.Act.TheVariants.{Allow}
use Rattle.hippo_model.specs.declared.entry.ItemKind.{ItemKind}
use Rattle.hippo_model.specs.declared.entry.ItemKind.TheVariants.{OptIn, OptOut}
use Rattle.hippo_model.specs.Terms.{History}
use Rattle.hippo_model.specs.Histories.{item_at}
use Rattle.hippo_model.specs.declared.policy.RuleAt.{RuleAt}
use Rattle.hippo_model.specs.declared.policy.RuleAt.TheVariants.{Unnamed, Always, With, Revoked}
use Rattle.hippo_model.specs.Rules.{Rule, allowed, revoked}
use Rattle.hippo_policy.specs.declared.ruling.Held.{Held}
use Rattle.hippo_policy.specs.declared.ruling.Held.TheVariants.{Allowed, Revoked as HeldRevoked}

abbrev pub held_rule : Held → Rule
held_rule (Allowed rule item days) = allowed rule item days
held_rule (HeldRevoked rule) = revoked rule

-- the rule that an act sets for its cells, with the entry's number
abbrev pub ruling_in : ℕ → Act → Rule
ruling_in number (Allow purpose recipient table columns item days) = allowed number item days
ruling_in number act = revoked number

-- the rule in a look-up's result, whatever the result says of its item
abbrev pub ruling_of : RuleAt → Option Rule
ruling_of Unnamed = None
ruling_of (Always rule days) = Some (allowed rule None days)
ruling_of (With rule item opt_in days) = Some (allowed rule (Some item.now) days)
ruling_of (Revoked rule) = Some (revoked rule)

-- whether an item needs a YES; an item that no entry creates needs one
abbrev pub is_opt_in : Option ItemKind → Bool
is_opt_in None = true
is_opt_in (Some OptIn) = true
is_opt_in (Some OptOut) = false

-- what a look-up's result says of a rule's item, if the rule has one
abbrev pub opt_in_of : RuleAt → Option Bool
opt_in_of (With rule item opt_in days) = Some opt_in
opt_in_of rule = None

abbrev pub opt_in_at : History → Option Rule → Option Bool
opt_in_at history (Some (allowed rule (Some item) days)) = Some (is_opt_in (item_at history item))
opt_in_at history rule = None
