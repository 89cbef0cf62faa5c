-- A start finds what was opened under its name.
use Rattle.std.proofs.Common.{◌≡◌, ◌∙◌, sym, true, false}
use Rattle.sqlite.specs.Held.{state}
use Rattle.hippo_sqlite.specs.Links.{link_contents}
use Rattle.hippo_sqlite.proofs.ContentsLemmas.{ok_weaker}
use Rattle.hippo_sqlite.proofs.KeeperLemmas.{linked_started}
use Rattle.hippo_sqlite.proofs.keeper.SqliteKeeper.connect.Goals as goal

pub returns-clause-started : goal.returns-clause-started
returns-clause-started g c =
    ok_weaker c.opened.result _ _ (λ link linked.
    linked_started (g.O.Opener.finds c.args.self.now.opener) c.args.name.now (state g.O.Base.Store c.in_ok-connection.connection) (link_contents g.O.Base.Store link)
    (λ none. absurd (let test : true ≡ false = sym (rw none at c.is_empty.ensures) ∙ c.if-is_empty.false in cc)) linked c.in_ok-connection.ensures.found) c.opened.ensures.linked
