-- The table's schema decides, if there is one.
use Rattle.std.proofs.Common.{◌≡◌, ◌∙◌, sym, Some}
use Rattle.hippo_model.specs.Histories.{schema_at}
use Rattle.hippo_replay.proofs.AcceptanceLemmas.{both_are, update_is}
use Rattle.hippo_replay.proofs.state.State.may_update.Goals as goal

pub returns-then-row_fits : goal.returns-then-row_fits
returns-then-row_fits c history stands =
    let found : schema_at history c.args.table.now ≡ Some c.in-Some.schema.now = sym (c.in-Some.ensures history stands.tables) in
    both_are (sym c.if-row_fits.true ∙ c.row_fits.ensures) (c.is_live_like.ensures history c.in-Some.schema.now stands found)
    ∙ update_is history c.args.table.now c.in-Some.schema.now found c.args.row.now
