-- The table is created in the store that was opened, or already there.
use Rattle.std.proofs.Common.{sym, subst₂}
use Rattle.sqlite.specs.Held.{state}
use Rattle.hippo_sqlite.specs.Contents.{connection_contents}
use Rattle.hippo_sqlite.specs.Outcomes.{IsLinked}
use Rattle.hippo_sqlite.proofs.ContentsLemmas.{is_linked}
use Rattle.hippo_sqlite.proofs.link.Linked.new.Goals as goal

pub returns-in-Ok-clause-linked : goal.returns-in-Ok-clause-linked
returns-in-Ok-clause-linked g c =
    let opened = c.args.connection in
    let new = c.create_history.new.connection in
    let done = is_linked g.S.Store g.met.S.Store.settled g.met.S.Store.stays g.met.S.Store.survives opened new opened c.in-Ok.ensures.survives c.requires (λ clean. (c.in-Ok.field-0, c.in-Ok.ensures.runs clean)) in
    subst₂ (λ told first. IsLinked (state g.S.Store opened) (connection_contents g.S.Store new told first)) (sym c.of.ensures) (sym c.of-opened.ensures) done
