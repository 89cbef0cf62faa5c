-- Which authorizations are in force: those that no later entry on the same user, purpose and
-- recipient replaces.
use Rattle.std.specs.Prelude.{ℕ, Bool, true, false, not, ◌&&◌, List, [], ◌∷◌, ◌++◌, flat_map, if◌then◌else◌, bytes_eq}
use Rattle.std.specs.List.{list_any}
use Rattle.hippo_values.specs.Texts.{Txt}
use Rattle.hippo_values.specs.declared.moments.Moment.{Moment}
use Rattle.hippo_values.specs.declared.names.Name.{Name}
use Rattle.hippo_model.specs.declared.entry.Act.{Act}
use Rattle.hippo_model.specs.declared.entry.Act.TheVariants.{Authorize, Deauthorize}
use Rattle.hippo_model.specs.Terms.{History}
use Rattle.hippo_report.specs.declared.format.Format.{Format}
use Rattle.hippo_history_formats.specs.declared.grants.Grant.{Grant}
use Rattle.hippo_history_formats.specs.Formats.{grant_line}

-- whether an act authorizes or deauthorizes a user for a purpose and a recipient
abbrev pub is_about : Name → Name → Name → Act → Bool
is_about user purpose recipient (Authorize u p r) =
    bytes_eq u user && bytes_eq p purpose && bytes_eq r recipient
is_about user purpose recipient (Deauthorize u p r) =
    bytes_eq u user && bytes_eq p purpose && bytes_eq r recipient
is_about user purpose recipient act = false

abbrev pub grant_by : ℕ → Moment → Name → Name → Name → Grant
grant_by number moment user purpose recipient =
    record {
      entry = number;
      moment = moment;
      user = user;
      purpose = purpose;
      recipient = recipient;
    }

-- the authorization that an act gives, unless a later entry is about the same three
abbrev pub granted : ℕ → Moment → Act → History → List Grant
granted number moment (Authorize user purpose recipient) later =
    if list_any (λ entry. is_about user purpose recipient entry.act) later then []
    else grant_by number moment user purpose recipient ∷ []
granted number moment act later = []

-- the authorizations that are in force after a history, by the entries that gave them
abbrev pub grants_of : History → List Grant
grants_of [] = []
grants_of (entry ∷ later) = granted entry.seq entry.moment entry.act later ++ grants_of later

-- a line for each of them
abbrev pub grant_shown : Format → Grant → Txt
grant_shown format grant =
    grant_line format grant.entry grant.moment grant.user grant.purpose grant.recipient

abbrev pub grants_shown : Format → List Grant → Txt
grants_shown format grants = flat_map (grant_shown format) grants

-- whether an act authorizes somebody, or deauthorizes somebody
abbrev pub authorizes : Act → Bool
authorizes (Authorize user purpose recipient) = true
authorizes act = false

abbrev pub deauthorizes : Act → Bool
deauthorizes (Deauthorize user purpose recipient) = true
deauthorizes act = false

-- whether an act leaves an authorization in force
abbrev pub is_left_by : Act → Grant → Bool
is_left_by act grant = not (is_about grant.user grant.purpose grant.recipient act)
