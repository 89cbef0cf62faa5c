-- The lines that carry a history on, from the entries of it that may be left.
use Rattle.std.proofs.Common.{◌≡◌, ◌∙◌, ℕ, ◌+◌, Bool, true, false, cond, List, [], ◌∷◌, ◌++◌, filter, Option, Some, None, unwrap_or, refl, sym, ap}
use Rattle.std.proofs.lemmas.List.{append-nil}
use Rattle.std.proofs.lemmas.List.Elements.{filter-append}
use Rattle.hippo_values.specs.declared.moments.Moment.{Moment}
use Rattle.hippo_values.specs.Texts.{Txt}
use Rattle.hippo_model.specs.declared.entry.Entry.{Entry}
use Rattle.hippo_model.specs.Terms.{History}
use Rattle.hippo_typing_catalog.specs.Catalogs.{KnownNames, known_at}
use Rattle.hippo_tables.specs.Standing.{TablesStandFor}
use Rattle.hippo_keeper.specs.declared.faults.KeeperFault.{KeeperFault as Fault}
use Rattle.hippo_keeper.specs.Keeping.{KeeperState}
use Rattle.hippo_keeper.proofs.Results.{well}
use Rattle.hippo_replay.specs.Standing.{Represents}
use Rattle.hippo_replay.specs.declared.state.State.{State}
use Rattle.hippo_program_args.specs.declared.endings.Ending.{Ending}
use Rattle.hippo_program_args.specs.declared.endings.Ending.TheVariants.{Served}
use Rattle.hippo_history_carry.specs.Carrying.{is_carriable, entries_left, numbered_from}
use Rattle.hippo_history_carry.proofs.LeftLemmas.{left-filter}
use Rattle.hippo_history_top.specs.declared.asking.View.TheVariants.{Carry}
use Rattle.hippo_history_top.specs.CarryingOn.{carried_lines, entries_carried, carrying_lines}
use Rattle.hippo_history_top.specs.Gathering.{GathersAll}
use Rattle.hippo_history_top.specs.Progress.{WritesPage, ShowsLoaded}
use Rattle.hippo_history_top.specs.ScriptLines.{clock_line, schema_named}
use Rattle.hippo_history_top.proofs.GatheredLemmas.{gathered_page}

-- one more entry may be left, or may not
pub carriable_kept : (read : History) (entry : Entry) → is_carriable entry ≡ true → filter is_carriable (read ++ entry ∷ []) ≡ filter is_carriable read ++ entry ∷ []
carriable_kept read entry is =
    filter-append is_carriable read (entry ∷ []) ∙ ap (λ (b : Bool). filter is_carriable read ++ cond b (entry ∷ []) []) is

pub carriable_left_out : (read : History) (entry : Entry) → is_carriable entry ≡ false → filter is_carriable (read ++ entry ∷ []) ≡ filter is_carriable read
carriable_left_out read entry is =
    filter-append is_carriable read (entry ∷ []) ∙ ap (λ (b : Bool). filter is_carriable read ++ cond b (entry ∷ []) []) is ∙ append-nil (filter is_carriable read)

-- the lines of entries say nothing of their numbers
unnumbered : (known : KnownNames) (clock : Option Moment) (number : ℕ) (entries : History) → entries_carried known clock (numbered_from number entries) ≡ entries_carried known clock entries
unnumbered known clock number [] = refl
unnumbered known clock number (entry ∷ later) =
    ap (λ (rest : Txt). clock_line clock entry.moment ++ (carried_lines (schema_named known entry.act) entry.act ++ rest)) (unnumbered known (Some entry.moment) (number + 1) later)

carried_named : (state : State) (list : List Entry) (history : History) → Represents state history → list ≡ filter is_carriable history
    → entries_carried state.catalog.names None (entries_left history list) ≡ carrying_lines history
carried_named state list history stands is =
    ap (λ (known : KnownNames). entries_carried known None (entries_left history list)) stands.names
    ∙ ap (λ (entries : History). entries_carried (known_at history) None entries) (ap (entries_left history) is ∙ left-filter history history)
    ∙ sym (unnumbered (known_at history) None 1 (entries_left history history))

module _ (state : State) (before after : KeeperState) (ticks ticks' : ℕ) (written written' : Option Txt) (faults faults' : ℕ) (cut : Option Ending) where
  pub loaded_carry : (list start : List Entry) → start ≡ [] → GathersAll (λ read. start ≡ filter is_carriable read) (λ read. list ≡ filter is_carriable read) (well Fault) before after ticks ticks'
      → WritesPage (TablesStandFor state.tables) (λ history. entries_carried state.catalog.names None (entries_left history list)) cut written written' faults faults'
      → ShowsLoaded state Carry (unwrap_or cut Served) before after written written' faults faults' ticks ticks'
  loaded_carry list start none all writes =
      gathered_page (λ read. start ≡ filter is_carriable read) (λ read. list ≡ filter is_carriable read) state before after ticks ticks' Carry all none (TablesStandFor state.tables)
      (λ history. entries_carried state.catalog.names None (entries_left history list))
      (λ history is stands. (stands.tables, carried_named state list history stands is)) written written' faults faults' cut writes
