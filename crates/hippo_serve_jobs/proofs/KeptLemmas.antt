-- What is stored after a line.
use Rattle.std.proofs.Common.{◌≡◌, ◌∙◌, sym, ap, subst, true, [], ◌∷◌, ◌++◌, map, inl, inr, append-nil}
use mathlib.Core.Logic.{∥∥₁_map}
use Rattle.std.proofs.lemmas.Bool.{and_from}
use Rattle.std.proofs.lemmas.List.{map-append}
use Rattle.hippo_model.specs.declared.entry.Entry.{Entry}
use Rattle.hippo_model.specs.Terms.{History}
use Rattle.hippo_model.specs.StoredForms.{stored}
use Rattle.hippo_model.specs.Stores.{IsStoreOf}
use Rattle.hippo_model.specs.Validity.{may_follow, is_valid}
use Rattle.hippo_model_laws.proofs.ValidFronts.{is_valid-append}
use Rattle.hippo_keeper.specs.Keeping.{Store, Survivors, KeeperState, MayHaveOneMore, KeepsSame}
use Rattle.hippo_typing.specs.Meanings.{meaning}
use Rattle.hippo_replay.specs.Loading.{KeepsFound}
use Rattle.hippo_replay.specs.Recording.{HasKept}
use Rattle.hippo_serve_jobs.specs.Keeping.{KeepsHistory, KeepsEither}

-- the stored forms of a history with the added entries are stored
kept_forms : (history added : History) (before after : KeeperState) → map stored history ≡ before.kept → HasKept added before after → map stored (history ++ added) ≡ after.kept
kept_forms history [] before after forms kept = ap (map stored) (append-nil history) ∙ forms ∙ sym kept.same
kept_forms history (entry ∷ added) before after forms kept =
    map-append stored history (entry ∷ added) ∙ ap (λ (front : Store). front ++ map stored (entry ∷ added)) forms ∙ sym kept.0

-- the same history under another name
store_of : (history other : History) (store : Store) → other ≡ history → IsStoreOf meaning store history → IsStoreOf meaning store other
store_of history other store same is = subst (λ (h : History). IsStoreOf meaning store h) (sym same) is

store_as : (history : History) (one other : Store) → one ≡ other → IsStoreOf meaning other history → IsStoreOf meaning one history
store_as history one other same is = subst (λ (store : Store). IsStoreOf meaning store history) (sym same) is

pub KeepsHistory-after : (history added : History) (before after : KeeperState) → is_valid meaning (history ++ added) ≡ true → KeepsHistory history before → HasKept added before after → KeepsHistory (history ++ added) after
KeepsHistory-after history [] before after valid keeps kept =
    let alone : (store : Store) → after.survives store → IsStoreOf meaning store history = λ store survives. keeps.alone store (kept.stop store survives) in
    let same : (store : Store) → after.survives store → store ≡ after.kept = λ store survives. sym (alone store survives).forms ∙ keeps.kept.forms ∙ sym kept.same in
    record {
      kept = record { forms = kept_forms history [] before after keeps.kept.forms kept; valid = valid };
      alone = λ store survives. store_of history (history ++ []) store (append-nil history) (alone store survives);
      survives_stop = ∥∥₁_map (kept.some (∥∥₁_map keeps.survives_stop (λ survives. (before.kept, survives)))) (λ (store, survives). subst after.survives (same store survives) survives);
    }
KeepsHistory-after history (entry ∷ added) before after valid keeps kept =
    let is : IsStoreOf meaning after.kept (history ++ entry ∷ added) = record { forms = kept_forms history (entry ∷ added) before after keeps.kept.forms kept; valid = valid } in
    record {
      kept = is;
      alone = λ store survives. store_as (history ++ entry ∷ added) store after.kept (kept.1.alone store survives) is;
      survives_stop = ∣ kept.1.survives_stop ∣₁;
    }

-- what is stored is the same
pub KeepsHistory-same : (history : History) (before after : KeeperState) → KeepsHistory history before → KeepsSame before after → KeepsHistory history after
KeepsHistory-same history before after keeps same = subst (λ (h : History). KeepsHistory h after) (append-nil history)
    (KeepsHistory-after history [] before after (ap (λ (h : History). is_valid meaning h) (append-nil history) ∙ keeps.kept.valid) keeps same)

valid_longer : (history : History) (entry : Entry) → is_valid meaning history ≡ true → may_follow meaning history entry ≡ true → is_valid meaning (history ++ entry ∷ []) ≡ true
valid_longer history entry valid follows = is_valid-append meaning history entry ∙ and_from _ _ valid follows

pub KeepsEither-after : (history : History) (entry : Entry) (before after : KeeperState) → may_follow meaning history entry ≡ true → KeepsHistory history before → MayHaveOneMore (stored entry) before after → KeepsEither history (history ++ entry ∷ []) after
KeepsEither-after history entry before after follows keeps may =
    let longer : (store : Store) → store ≡ before.kept ++ stored entry ∷ [] → IsStoreOf meaning store (history ++ entry ∷ []) = λ store is. record {
      forms = map-append stored history (entry ∷ []) ∙ ap (λ (front : Store). front ++ stored entry ∷ []) keeps.kept.forms ∙ sym is;
      valid = valid_longer history entry keeps.kept.valid follows;
    } in
    record {
      kept = elim may.either [
        | inl same ↦ inl (store_as history after.kept before.kept same keeps.kept)
        | inr more ↦ inr (longer after.kept more)
      ];
      alone = λ store survives. elim (may.stop store survives) [
        | inl old ↦ inl (keeps.alone store old)
        | inr more ↦ inr (longer store more)
      ];
      some = may.some;
    }

-- what was found is the stored form of a history, and only that survives a stop
pub KeepsHistory-found : (finds : Survivors) (keeper : KeeperState) (history : History) → KeepsFound finds keeper → IsStoreOf meaning keeper.kept history → KeepsHistory history keeper
KeepsHistory-found finds keeper history found is = record {
  kept = is;
  alone = λ store survives. store_as history store keeper.kept (found.alone store survives) is;
  survives_stop = found.survives_stop;
}
