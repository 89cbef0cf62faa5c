-- The table's schema decides, if there is one.
use Rattle.std.proofs.Common.{◌≡◌, ◌∙◌, sym, Some}
use Rattle.hippo_model.specs.Histories.{schema_at}
use Rattle.hippo_replay.proofs.AcceptanceLemmas.{both_are, delete_is}
use Rattle.hippo_replay.proofs.state.State.may_delete.Goals as goal

pub returns-then-key_fits : goal.returns-then-key_fits
returns-then-key_fits c history stands =
    let found : schema_at history c.args.table.now ≡ Some c.in-Some.schema.now = sym (c.in-Some.ensures history stands.tables) in
    both_are (sym c.if-key_fits.true ∙ c.key_fits.ensures) (c.is_live_key.ensures history c.in-Some.schema.now stands found)
    ∙ delete_is history c.args.table.now c.in-Some.schema.now found c.args.key.now
