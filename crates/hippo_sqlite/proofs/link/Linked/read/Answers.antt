-- The query changes nothing that is known, and its entries are those of the history.
use Rattle.std.proofs.Common.{◌∙◌, sym, ap, subst₂, arith, rules}
use Rattle.hippo_keeper.specs.Selecting.{selected_entries, is_selected}
use Rattle.hippo_sqlite.specs.Contents.{LeavesContents, connection_contents}
use Rattle.hippo_sqlite.specs.Links.{linked_contents}
use Rattle.hippo_sqlite_table.specs.Queries.{read_sql, params_of}
use Rattle.hippo_sqlite.proofs.ContentsLemmas.{look_linked, look_away, told_history, ok_weaker}
use Rattle.hippo_sqlite_table.proofs.OrderLemmas.{none_handed}
use Rattle.hippo_sqlite_table.proofs.TextLemmas.{read_plain}
use Rattle.hippo_sqlite.proofs.link.Linked.read.Goals as goal

pub returns-then-read_query-ge-NUMBERS : goal.returns-then-read_query-ge-NUMBERS
returns-then-read_query-ge-NUMBERS g c =
    let old = c.args.self.now in
    let read_query = c.args.read_query.now in
    let selection = read_query.selection in
    record {
      few = search rules;
      order = search rules;
      looks = look_away g.S.Store g.met.S.Store.settled g.met.S.Store.stays g.met.S.Store.survives old.connection old.connection old.opened.value old.told.value old.told.value c.requires.rests c.new.result;
      told = λ tells.
          let h = told_history g.S.Store g.met.S.Store.settled g.met.S.Store.stays g.met.S.Store.survives old.connection old.connection old.opened.value old.told.value old.told.value c.requires.rests tells in
          c.new.ensures ∙ none_handed (is_selected selection) read_query.after read_query.max h.0.rows (omega (arith, c.if-read_query-ge-NUMBERS.true)) h.0.order
          ∙ ap (selected_entries (is_selected selection) read_query.after read_query.max) (sym h.1);
    }

pub returns : goal.returns
returns g c =
    let old = c.args.self.now in
    let new = c.note.new.self in
    let read_query = c.args.read_query.now in
    let selection = read_query.selection in
    let found = c.find-answer.ensures in
    let done = look_linked g.S.Store g.met.S.Store.settled g.met.S.Store.stays g.met.S.Store.survives old.connection c.find-answer.new.connection old.opened.value old.told.value new.told.value c.requires.rests
    (read_sql selection) (params_of selection read_query.after read_query.max) c.find-answer.result (read_plain selection) found.survives found.looked c.note.ensures.told in
    record {
      few = found.few;
      order = found.order;
      looks = subst₂ (λ now opened. LeavesContents c.find-answer.result (linked_contents g.S.Store old) (connection_contents g.S.Store now new.told.value opened.value))
          (sym c.note.ensures.connection) (sym c.note.ensures.opened) done;
      told = ok_weaker c.find-answer.result _ _ (λ list told tells.
          let still = subst₂ (λ now opened. (connection_contents g.S.Store now new.told.value opened.value).tells) c.note.ensures.connection c.note.ensures.opened tells in
          let h = told_history g.S.Store g.met.S.Store.settled g.met.S.Store.stays g.met.S.Store.survives old.connection old.connection old.opened.value old.told.value old.told.value c.requires.rests (done.on.told still) in
          told still.0 h.0.rows h.0.schema h.0.are h.0.order ∙ ap (selected_entries (is_selected selection) read_query.after read_query.max) (sym h.1)) found.told;
    }
