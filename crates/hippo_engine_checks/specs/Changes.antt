-- What the checks of a changing statement find: the entry that it adds, or why it is refused.
use Rattle.std.specs.Prelude.{◌≡◌, Result, Ok, MatchResult, ok_or}
use Rattle.hippo_values.specs.Results.{◌>>=◌}
use Rattle.hippo_model.specs.declared.entry.Act.{Act}
use Rattle.hippo_model.specs.declared.entry.Entry.{Entry}
use Rattle.hippo_stmt_ast.specs.declared.statement.Stmt.{Stmt}
use Rattle.hippo_model.specs.declared.wanted.Wanted.{Wanted}
use Rattle.hippo_model.specs.Terms.{History}
use Rattle.hippo_typing_catalog.specs.Catalogs.{KnownNames}
use Rattle.hippo_typing_catalog.specs.ChangesRefused.{change_refused}
use Rattle.hippo_typing_catalog.specs.ChangesWanted.{wanted_by}
use Rattle.hippo_report.specs.declared.refusal.Refusal.{Refusal}
use Rattle.hippo_report.specs.declared.refusal.Refusal.TheVariants.{BadSyntax}
use Rattle.hippo_engine_sessions.specs.Worlds.{World}
use Rattle.hippo_engine_checks.specs.Checks.{Checked, Refuses, unless_refused, has_room}
use Rattle.hippo_engine_checks.specs.Deeds.{Deed, next_entry}
use Rattle.hippo_engine_checks.specs.Deeds as deeds

-- what a statement asks for, by its names and types
abbrev pub wanted_in : KnownNames → Stmt → Checked Wanted
wanted_in known statement =
    unless_refused (change_refused known statement) (wanted_by known statement) >>=
    λ change. ok_or change BadSyntax

-- the act, if the history has room for it
abbrev pub change_in_room : History → World → Act → Checked Deed
change_in_room history world act = has_room history world >>= λ room. Ok (deeds.change act)

-- the entry is the next one, with the act that the judgement gives
pub record IsChange (history : History) (world : World) (judgement : Checked Deed) (entry : Entry)
    : Type 0 where
  pub judged_so : judgement ≡ Ok (deeds.change entry.act)
  pub next : entry ≡ next_entry history world entry.act

-- the result is the entry that the judgement adds, or its refusal, or out of memory
abbrev pub FindsChange : History → World → Checked Deed → Result Entry Refusal → Type 0
FindsChange history world judgement result =
    MatchResult result (λ entry. IsChange history world judgement entry)
    (λ refusal. Refuses judgement refusal)
