-- Rows that move forward, and what still fits a history when it grows.
use Rattle.std.proofs.Common.{◌≡◌, ◌∙◌, sym, ap, refl, arith, subst, ℕ, ◌+◌, ◌≤◌, true, [], ◌∷◌, ◌++◌, length, take, drop, Some, Result, length-append}
use Rattle.std.proofs.lemmas.List.{take-append-drop}
use Rattle.std.proofs.lemmas.List.Elements.{filter-append}
use Rattle.hippo_model.specs.declared.entry.Entry.{Entry}
use Rattle.hippo_model.specs.declared.schema.Schema.{Schema}
use Rattle.hippo_model.specs.Terms.{History, Meaning}
use Rattle.hippo_model.specs.Histories.{schema_at}
use Rattle.hippo_model.specs.Validity.{is_valid}
use Rattle.hippo_keeper.specs.Keeping.{KeeperState}
use Rattle.hippo_backlog.specs.declared.faults.ReadFault.{ReadFault}
use Rattle.hippo_backlog.specs.Backlogs.{is_version_of, versions_of, HeldVersions, AdvancesTo}
use Rattle.hippo_backlog.proofs.SnapshotLemmas.{AreAt-first, AreAt-grown, rows_at, handed_is}
use Rattle.hippo_intervals.specs.Living.{HeldLives, no_lives, taken_by, LivesFit, LivesAreThoseOf, Advances}

-- new lives fit each history in which the table has this schema
pub LivesFit-first : (meaning : Meaning) (schema : Schema) (history : History) → is_valid meaning history ≡ true → schema_at history schema.name ≡ Some schema → LivesFit (no_lives schema) history
LivesFit-first meaning schema history valid created = AreAt-first schema meaning history valid created

-- lives that fit a history fit it with one more entry
pub LivesFit-grown : (meaning : Meaning) (lives : HeldLives) (history : History) (entry : Entry) → is_valid meaning (history ++ entry ∷ []) ≡ true → LivesFit lives history → LivesFit lives (history ++ entry ∷ [])
LivesFit-grown meaning lives history entry valid fits = AreAt-grown lives.schema meaning history entry lives.versions valid fits

pub LivesAreThoseOf-fits : (meaning : Meaning) (lives : HeldLives) (history : History) → is_valid meaning history ≡ true → LivesFit lives history → LivesAreThoseOf lives history
LivesAreThoseOf-fits meaning lives history valid fits = record {
  fits = fits;
  rows = rows_at lives.schema meaning history lives.versions valid fits;
  taken_is = handed_is lives.schema meaning history lives.versions valid fits;
}

-- each version of the table is taken in, or is after the number reached
pub taken_and_unread : (meaning : Meaning) (lives : HeldLives) (history : History) → is_valid meaning history ≡ true → LivesFit lives history → taken_by lives + length (versions_of lives.schema.name (drop lives.versions.ahead.reached history)) ≡ length (versions_of lives.schema.name history)
taken_and_unread meaning lives history valid fits =
    let reached = lives.versions.ahead.reached in
    let front : History = versions_of lives.schema.name (take reached history) in
    let rest : History = versions_of lives.schema.name (drop reached history) in
    let taken : taken_by lives ≡ length front = handed_is lives.schema meaning history lives.versions valid fits in
    let whole : versions_of lives.schema.name history ≡ front ++ rest = ap (versions_of lives.schema.name) (sym (take-append-drop reached history)) ∙ filter-append (is_version_of lives.schema.name) (take reached history) (drop reached history) in
    let both = ap length whole in
    omega (arith, taken, both, length-append front rest)

pub Advances-brings : {A : Type 0} (schema : Schema) (number end : ℕ) (result : Result A ReadFault) (old new : HeldVersions) (before after : KeeperState) (steps_old steps_new : ℕ) → old.place ≤ number → AdvancesTo schema number end result old new before after steps_old steps_new → Advances number end result (record { schema = schema; versions = old }) (record { schema = schema; versions = new }) before after steps_old steps_new
Advances-brings schema number end result old new before after steps_old steps_new within brings =
    let steps = brings.reads.hands.steps in
    let counted = brings.reads.taken.counted in
    record {
      is_after = brings.reads.hands.call;
      stays = brings.reads.hands.stays;
      schema_is = refl;
      forward = brings.reads.taken.rises;
      limit = brings.reads.taken.limit within;
      place_is = brings.place_is;
      further = brings.reads.taken.further;
      ledger = omega (arith, steps, counted);
      handed = brings.reads.handed;
      counted = steps;
      damaged = brings.damaged;
      told = λ tells meaning history store as_long fits.
          LivesAreThoseOf-fits meaning (record { schema = schema; versions = new }) history store.valid (brings.reads.keeps tells meaning history store as_long fits);
      undamaged = brings.undamaged;
    }

-- the same, by the parts
pub advances_by : {A : Type 0} (inside old : HeldLives) → inside ≡ old → (number end : ℕ) (result : Result A ReadFault) (new : HeldVersions) (before after : KeeperState) (steps_old steps_new : ℕ) → old.versions.place ≤ number → AdvancesTo inside.schema number end result inside.versions new before after steps_old steps_new → Advances number end result old (record { schema = inside.schema; versions = new }) before after steps_old steps_new
advances_by inside old same number end result new before after steps_old steps_new within brings =
    subst (λ (held : HeldLives). Advances number end result held (record { schema = inside.schema; versions = new }) before after steps_old steps_new) same
    (Advances-brings inside.schema number end result inside.versions new before after steps_old steps_new (subst (λ (held : HeldLives). held.versions.place ≤ number) (sym same) within) brings)
