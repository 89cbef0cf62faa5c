-- An authorization is added, or one is dropped, or nothing changes.
use Rattle.std.proofs.Common.{◌∙◌, ◌++◌, [], filter, sym, subst, OnOk, ◌≡◌}
use Rattle.hippo_model.specs.declared.entry.Act.{Act}
use Rattle.hippo_history_top.specs.Granting.{is_left_by, granted}
use Rattle.hippo_history_top.proofs.GrantLemmas.{granted_by_other}
use Rattle.hippo_history_top.proofs.users.take_in.Goals as goal

pub returns-in-None : goal.returns-in-None
returns-in-None c =
    let entry = c.args.entry.now in
    c.drop_deauthorized.ensures ∙ granted_by_other entry.seq entry.moment entry.act c.in-None.ensures (filter (is_left_by entry.act) c.args.list.now.items)

pub returns-in-Some : goal.returns-in-Some
returns-in-Some c =
    let entry = c.args.entry.now in
    subst (λ (act : Act). OnOk c.replace_grant.result (c.replace_grant.new.list.items ≡ filter (is_left_by act) c.args.list.now.items ++ granted entry.seq entry.moment act []))
    (sym c.in-Some.ensures) c.replace_grant.ensures
