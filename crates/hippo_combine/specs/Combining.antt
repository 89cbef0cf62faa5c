-- The examiner that holds tables, and its contract.
use Rattle.std.specs.Prelude.{◌≡◌, ◌+◌, ◌<◌, ◌≤◌, Bool, true, false, cond, not, ◌&&◌, List, [], ◌∷◌, ◌++◌, Some}
use Rattle.std.specs.List.{AllByRecursion}
use Rattle.std.proofs.Common.{sym, subst, le_refl, le-add_right, add-le-add}
use Rattle.std.proofs.lemmas.List.Sums.{sum_by_push}
use Rattle.hippo_model.specs.declared.entry.Entry.{Entry}
use Rattle.hippo_model.specs.Terms.{History}
use Rattle.hippo_model.specs.Validity.{is_valid}
use Rattle.hippo_model.specs.Versions.{is_version, versions}
use Rattle.hippo_typing.specs.Meanings.{meaning}
use Rattle.hippo_intervals.specs.Living.{HeldLives, LivesFit}
use Rattle.hippo_intervals.proofs.LivesLemmas.{LivesFit-grown}
use Rattle.hippo_audit_job.specs.Examining.{Examination}
use Rattle.hippo_combine.specs.declared.combine.Combine.{Combine}
use Rattle.hippo_combine.specs.Held.{all_taken, is_reached, unread_count, TablesFit}

-- its tables are at places before the entry that it was asked about last
abbrev pub IsSoundCombine : Combine → Type 0
IsSoundCombine combine =
    AllByRecursion (λ lives. lives.versions.place < combine.asked) combine.tables.items

-- its tables are those of a history
abbrev pub CombineFits : Combine → History → Type 0
CombineFits combine history = TablesFit combine.tables.items history

-- the held tables remain those of the history when an entry is added
abbrev each_grown : (tables : List HeldLives) (history : History) (entry : Entry)
    → is_valid meaning (history ++ entry ∷ []) ≡ true
    → AllByRecursion (λ lives. LivesFit lives history) tables
    → AllByRecursion (λ lives. LivesFit lives (history ++ entry ∷ [])) tables
each_grown [] history entry valid each = tt
each_grown (lives ∷ rest) history entry valid each = (
  LivesFit-grown meaning lives history entry valid each.0,
  each_grown rest history entry valid
      each.1,
)

-- one more entry is at most one more unread version
abbrev at_most_one : (version reached : Bool)
    → cond (version && not reached) 1 0 ≤ 0 + cond version 1 0
at_most_one true true = le-add_right 0 1
at_most_one true false = le_refl 1
at_most_one false reached = le_refl 0

abbrev unread_grows : (tables : List HeldLives) (history : History) (entry : Entry)
    → unread_count tables (history ++ entry ∷ [])
    ≤ unread_count tables history + versions (entry ∷ [])
unread_grows tables history entry =
    let is_new : Entry → Bool = λ e. is_version e.act && not (is_reached tables e) in
    subst (λ count. count ≤ unread_count tables history + versions (entry ∷ []))
    (sym (sum_by_push (λ e. cond (is_new e) 1 0) history entry))
    (add-le-add (le_refl (unread_count tables history))
    (at_most_one (is_version entry.act) (is_reached tables entry)))

-- the contract of the examiner, for any keeper that it reads from
abbrev pub combine_terms : Examination Combine
combine_terms = record {
  sound = IsSoundCombine;
  upto = λ combine. combine.asked;
  fits = λ combine history number. CombineFits combine history;
  handed = λ combine. Some (all_taken combine.tables.items);
  unread = λ combine history. Some (unread_count combine.tables.items history);
  onward = λ combine history low high within fits. fits;
  longer = λ combine history entry number valid fits.
      record {
        apart = fits.apart;
        each = each_grown combine.tables.items history entry valid
            fits.each;
      };
  grows = λ combine history entry number valid fits. unread_grows combine.tables.items history
      entry;
}
