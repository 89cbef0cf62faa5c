-- A change that passes its checks may follow the history.
use Rattle.std.proofs.Common.{◌≡◌, ◌∙◌, refl, sym, ap, subst, arith, ℕ, ◌+◌, ◌<◌, ◌^◌, true, List, [], ◌∷◌, length, Option, Some, None, Result, Ok, Err, IfOk}
use Rattle.std.specs.Prelude.{int_le, ok_or}
use Rattle.std.proofs.lemmas.Bool.{and_parts, lt-ltb}
use Rattle.hippo_values.specs.Moments.{first_moment, last_moment, is_moment}
use Rattle.hippo_values.specs.declared.moments.Moment.{Moment}
use Rattle.hippo_values.specs.Results.{◌>>=◌}
use Rattle.hippo_model.specs.declared.entry.Act.{Act}
use Rattle.hippo_model.specs.declared.entry.Entry.{Entry}
use Rattle.hippo_model.specs.declared.name_fault.NameFault.{NameFault}
use Rattle.hippo_stmt_ast.specs.declared.statement.Stmt.{Stmt}
use Rattle.hippo_model.specs.declared.wanted.Wanted.{Wanted}
use Rattle.hippo_model.specs.declared.table_fault.TableFault.{TableFault}
use Rattle.hippo_model.specs.Terms.{History}
use Rattle.hippo_model.specs.Validity.{may_follow}
use Rattle.hippo_typing_catalog.specs.Catalogs.{known_at}
use Rattle.hippo_typing_catalog.specs.ChangesRefused.{change_refused}
use Rattle.hippo_typing_catalog.specs.ChangesWanted.{wanted_by}
use Rattle.hippo_tables.specs.Finished.{finished_act}
use Rattle.hippo_typing.specs.Meanings.{meaning}
use Rattle.hippo_report.specs.declared.refusal.Refusal.{Refusal}
use Rattle.hippo_report.specs.declared.refusal.Refusal.TheVariants.{BadSyntax}
use Rattle.hippo_report.specs.declared.speaker.Speaker.TheVariants.{Console}
use Rattle.hippo_typing_laws.specs.FollowingLaws.{HasRoomAt, ComesTo}
use Rattle.hippo_typing_laws.specs.Written.{is_written}
use Rattle.hippo_typing_laws.proofs.FollowingTheorem.{changes_may_follow}
use Rattle.hippo_replay.specs.declared.state.State.{State}
use Rattle.hippo_replay.specs.Standing.{Represents, MayFollow, IsTimely}
use Rattle.hippo_replay.proofs.AcceptanceLemmas.{order_is}
use Rattle.hippo_engine_sessions.specs.Worlds.{World}
use Rattle.hippo_engine_checks.specs.Changes.{FindsChange}
use Rattle.hippo_engine_checks.specs.Checks.{Checked, unless_refused, act_made, has_room}
use Rattle.hippo_engine_checks.specs.Deeds.{Deed}
use Rattle.hippo_engine_checks.specs.Deeds as deeds
use Rattle.hippo_engine_checks.specs.Judging.{judged_wanted, judged_change}

-- a check is passed, and so are the checks after it
pub record Passed {A B : Type 0} (checked : Checked A) (next : A → Checked B) (last : B) : Type 0 where
  pub found : A
  pub is : checked ≡ Ok found
  pub on : next found ≡ Ok last

pub passed : {A B : Type 0} (checked : Checked A) (next : A → Checked B) (last : B) → (checked >>= next) ≡ Ok last → Passed checked next last
passed (Ok found) next last is = record { found = found; is = refl; on = is }
passed (Err refusal) next last is = absurd cc

pub found_same : {A : Type 0} (one other : A) → ◌≡◌ {A = Checked A} (Ok one) (Ok other) → one ≡ other
found_same one other is = cc

-- a statement that means something has no fault
pub unrefused : {A : Type 0} (faults : List NameFault) (form found : A) → unless_refused faults form ≡ Ok found → (faults ≡ []) × (form ≡ found)
unrefused [] form found is = (refl, found_same form found is)
unrefused (fault ∷ more) form found is = absurd cc

pub some_so : {A : Type 0} (form : Option A) (refusal : Refusal) (found : A) → ok_or form refusal ≡ Ok found → form ≡ Some found
some_so None refusal found is = absurd cc
some_so (Some one) refusal found is = ap Some (found_same one found is)

finished_so : (made : Result Act TableFault) (act : Act) → act_made made ≡ Ok act → made ≡ Ok act
finished_so (Ok one) act is = ap Ok (found_same one act is)
finished_so (Err fault) act is = absurd cc

abbrev act_in : Act → Checked Deed → Act
act_in other (Ok (deeds.change act)) = act
act_in other judgement = other

-- a statement that is judged to make an act asks for that act
comes_to : (history : History) (world : World) (statement : Stmt) (act : Act) → is_written statement ≡ true
    → judged_change history world Console statement ≡ Ok (deeds.change act) → ComesTo history statement act
comes_to history world statement act written is =
    let refusals : List NameFault = change_refused (known_at history) statement in
    let form : Option Wanted = wanted_by (known_at history) statement in
    let means = passed {A = Option Wanted} (unless_refused refusals form) (λ change. ok_or change BadSyntax >>= λ wanted. judged_wanted history world wanted) (deeds.change act) is in
    let wants = passed {A = Wanted} (ok_or means.found BadSyntax) (λ wanted. judged_wanted history world wanted) (deeds.change act) means.on in
    let makes = passed {A = Act} (act_made (finished_act history wants.found)) (λ act. has_room history world >>= λ room. Ok (deeds.change act)) (deeds.change act) wants.on in
    let room = passed {A = Unit {0}} (has_room history world) (λ room. Ok (deeds.change makes.found)) (deeds.change act) makes.on in
    let same : makes.found ≡ act = ap (act_in act) room.on in
    let none = unrefused refusals form means.found means.is in
    record {
      written = written;
      unrefused = none.0;
      wanted = wants.found;
      wants = none.1 ∙ some_so means.found BadSyntax wants.found wants.is;
      comes = finished_so (finished_act history wants.found) makes.found makes.is ∙ ap Ok same;
    }

-- the next number has 64 bits, and the clock is not before the last entry
pub has_room_at : (state : State) (history : History) (moment : Moment) (number : ℕ) → Represents state history → IsTimely state moment → is_moment moment ≡ true
    → number ≡ length history + 1 → number < 2 ^ 63 → HasRoomAt history moment
has_room_at state history moment number stands timely fits is below = record {
  number = lt-ltb (length history + 1) 18446744073709551616 (omega (arith, is, below));
  moment_fits = fits;
  order = sym (order_is state history moment stands (and_parts (int_le first_moment moment) (int_le moment last_moment) fits).0) ∙ timely;
}

-- the entry of a change that was found may follow the history
pub change_follows : (state : State) (held : World) (statement : Stmt) (found : Result Entry Refusal) → IsTimely state held.clock → is_written statement ≡ true
    → ((history : History) → Represents state history → FindsChange history held (judged_change history held Console statement) found)
    → IfOk found (λ entry. entry.seq < 2 ^ 63) → IfOk found (λ entry. is_moment entry.moment ≡ true) → IfOk found (λ entry. MayFollow state entry)
change_follows state held statement (Ok entry) timely written finds below fits = λ history stands.
    let change = finds history stands in
    let moment : entry.moment ≡ held.clock = ap (λ (e : Entry). e.moment) change.next in
    let number : entry.seq ≡ length history + 1 = ap (λ (e : Entry). e.seq) change.next in
    let room = has_room_at state history held.clock entry.seq stands timely (subst (λ (m : Moment). is_moment m ≡ true) moment fits) number below in
    let comes = comes_to history held statement entry.act written change.judged_so in
    subst (λ (e : Entry). may_follow meaning history e ≡ true) (sym change.next) (changes_may_follow meaning history held.clock statement entry.act stands.valid room comes)
change_follows state held statement (Err refusal) timely written finds below fits = tt
