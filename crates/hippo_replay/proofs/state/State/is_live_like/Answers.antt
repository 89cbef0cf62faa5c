use Rattle.std.proofs.Common.{◌∙◌, ap, is_some}
use Rattle.hippo_replay.proofs.AcceptanceLemmas.{live_like_is}
use Rattle.hippo_replay.proofs.state.State.is_live_like.Goals as goal

pub returns-in-Some : goal.returns-in-Some
returns-in-Some c history schema stands found =
    c.is_some.ensures ∙ ap is_some c.find_like.ensures.place
    ∙ live_like_is history c.args.table.now schema found c.in-Some.rows.now c.args.row.now (c.in-Some.ensures history stands.tables)
