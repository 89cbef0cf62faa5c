-- Each kind of entry has the effect of its act.
use Rattle.hippo_tables.proofs.AddLemmas.{OnOk-map, added-insert, added-update, added-delete, added-make}
use Rattle.hippo_tables.proofs.tables.Tables.apply.Goals as goal

pub returns-in-Create-clause-ok : goal.returns-in-Create-clause-ok
returns-in-Create-clause-ok c = OnOk-map c.make.result _ _ (added-make c.args.self.now c.make.new.self c.args.entry.now c.in-Create.schema c.in-Create.is) c.make.ensures.ok

pub returns-in-Insert-clause-ok : goal.returns-in-Insert-clause-ok
returns-in-Insert-clause-ok c = OnOk-map c.insert_row.result _ _ (added-insert c.args.self.now c.insert_row.new.self c.args.entry.now c.in-Insert.table c.in-Insert.row c.in-Insert.is) c.insert_row.ensures.ok

pub returns-in-Update-clause-ok : goal.returns-in-Update-clause-ok
returns-in-Update-clause-ok c = OnOk-map c.update_row.result _ _ (added-update c.args.self.now c.update_row.new.self c.args.entry.now c.in-Update.table c.in-Update.row c.in-Update.is) c.update_row.ensures.ok

pub returns-in-Delete-clause-ok : goal.returns-in-Delete-clause-ok
returns-in-Delete-clause-ok c = added-delete c.args.self.now c.delete_row.new.self c.args.entry.now c.in-Delete.table c.in-Delete.key c.in-Delete.is c.delete_row.ensures
