-- Laws on what may follow a history.
use Rattle.std.specs.Prelude.{◌≡◌, ◌+◌, true, [], Some, Ok, length, nat_lt}
use Rattle.hippo_values.specs.Moments.{is_moment}
use Rattle.hippo_values.specs.declared.moments.Moment.{Moment}
use Rattle.hippo_model.specs.declared.entry.Act.{Act}
use Rattle.hippo_model.specs.declared.entry.Entry.{Entry}
use Rattle.hippo_stmt_ast.specs.declared.statement.Stmt.{Stmt}
use Rattle.hippo_model.specs.declared.wanted.Wanted.{Wanted}
use Rattle.hippo_model.specs.Terms.{History, Meaning}
use Rattle.hippo_model.specs.Validity.{keeps_order, may_follow, is_valid}
use Rattle.hippo_typing_catalog.specs.Catalogs.{known_at}
use Rattle.hippo_typing_catalog.specs.ChangesRefused.{change_refused}
use Rattle.hippo_typing_catalog.specs.ChangesWanted.{wanted_by}
use Rattle.hippo_tables.specs.Finished.{finished_act}
use Rattle.hippo_typing_laws.specs.Written.{is_written}

-- the next entry of a history, with this act
abbrev pub following_entry : History → Moment → Act → Entry
following_entry history moment act = record { seq = length history + 1; moment = moment; act = act }

-- the next number has 64 bits, and the moment lies in the calendar and is not before the last one
pub record HasRoomAt (history : History) (moment : Moment) : Type 0 where
  pub number : nat_lt (length history + 1) 18446744073709551616 ≡ true
  pub moment_fits : is_moment moment ≡ true
  pub order : keeps_order history moment ≡ true

-- a statement passes its checks after a history and makes this act
pub record ComesTo (history : History) (statement : Stmt) (act : Act) : Type 0 where
  pub written : is_written statement ≡ true
  pub unrefused : change_refused (known_at history) statement ≡ []
  pub wanted : Wanted
  pub wants : wanted_by (known_at history) statement ≡ Some wanted
  pub comes : finished_act history wanted ≡ Ok act

-- the entry of a statement that passes its checks may follow the history
abbrev pub ChangesMayFollow : Type 0
ChangesMayFollow =
    (meaning : Meaning) (history : History) (moment : Moment) (statement : Stmt) (act : Act)
    → is_valid meaning history ≡ true → HasRoomAt history moment → ComesTo history statement act
    → may_follow meaning history (following_entry history moment act) ≡ true
