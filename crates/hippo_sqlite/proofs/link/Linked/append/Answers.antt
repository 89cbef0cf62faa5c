-- From what the statement did to the contents that are known.
use Rattle.std.proofs.Common.{sym, subst₂}
use Rattle.hippo_sqlite.specs.Contents.{AppendsTo, connection_contents}
use Rattle.hippo_sqlite.specs.Links.{linked_contents}
use Rattle.hippo_sqlite.proofs.ContentsLemmas.{append_linked}
use Rattle.hippo_sqlite.proofs.link.Linked.append.Goals as goal

pub returns : goal.returns
returns g c =
    let old = c.args.self.now in
    let new = c.note.new.self in
    let done = append_linked g.S.Store g.met.S.Store.settled g.met.S.Store.stays g.met.S.Store.survives old.connection c.keep-answer.new.connection old.opened.value old.told.value new.told.value c.requires.rests
    c.args.entry.now c.keep-answer.result c.requires.next c.requires.number c.keep-answer.ensures.kind c.keep-answer.ensures.executed c.note.ensures.told in
    subst₂ (λ now opened. AppendsTo c.args.entry.now c.keep-answer.result (linked_contents g.S.Store old) (connection_contents g.S.Store now new.told.value opened.value))
    (sym c.note.ensures.connection) (sym c.note.ensures.opened) done
