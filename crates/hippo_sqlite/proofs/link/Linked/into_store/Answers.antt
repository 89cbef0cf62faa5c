-- The store may be found as the connection may be left.
use Rattle.hippo_sqlite.proofs.link.Linked.into_store.Goals as goal

pub returns : goal.returns
returns g c = record {
  numbered = c.into_store.ensures.numbered;
  sound = c.into_store.ensures.sound;
  some = g.met.S.Store.survives c.into_store.result;
  fewer = λ trees entries may kept. (trees, c.into_store.ensures.quiet.outcomes trees may, kept);
}
