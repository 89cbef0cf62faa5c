-- What an act takes back is dropped; another act drops nothing.
use Rattle.std.proofs.Common.{◌∙◌, filter, ap, sym}
use Rattle.hippo_model.specs.declared.entry.Act.{Act}
use Rattle.hippo_history_top.specs.Granting.{is_left_by}
use Rattle.hippo_history_top.proofs.GrantLemmas.{left_by_other}
use Rattle.hippo_history_top.proofs.users.drop_deauthorized.Goals as goal

pub returns-in-None : goal.returns-in-None
returns-in-None c = left_by_other c.args.act.now c.requires.other c.in-None.ensures c.args.list.now.items

pub returns-in-Some : goal.returns-in-Some
returns-in-Some c = c.drop_grant.ensures ∙ ap (λ (act : Act). filter (is_left_by act) c.args.list.now.items) (sym c.in-Some.ensures)
