-- A logged query as its own time knew it.
use Rattle.std.specs.Prelude.{take}
use Rattle.hippo_model.specs.Terms.{History}
use Rattle.hippo_policy.specs.Books.{BookRepresents}
use Rattle.hippo_history_uses.specs.declared.asked.AskedThen.{AskedThen}
use Rattle.hippo_history_uses.specs.Accesses.{Asker}

-- who asked the query
abbrev pub asker_of : AskedThen → Asker
asker_of asked = record {
  entry = asked.entry;
  moment = asked.moment;
  user = asked.user.now;
  purpose = asked.purpose.now;
  recipient = asked.recipient.now;
}

-- the entries before the query
abbrev pub front_of : AskedThen → History → History
front_of asked history = take asked.number history

-- a statement about the entries before the query, for each history that has this policy
abbrev pub Then : AskedThen → (History → Type 0) → Type 0
Then asked Holds =
    (history : History) → BookRepresents asked.book.now history → Holds (front_of asked history)
