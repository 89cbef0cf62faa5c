-- Numbers, cursors and sessions, computed.
use Rattle.std.proofs.Common.{◌≡◌, ℕ, pos, List, [], ◌∷◌, Option, Some, None, refl}
use Rattle.std.specs.Prelude.{codes}
use Rattle.hippo_values.specs.declared.values.Value.TheVariants.{Int}
use Rattle.hippo_model.specs.declared.audit.Pair.{Pair}
use Rattle.hippo_model.specs.declared.cells.Cell.TheVariants.{Shown, Denied}
use Rattle.hippo_model.specs.Terms.{ShownRow}
use Rattle.hippo_report.specs.declared.format.Format.TheVariants as formats
use Rattle.hippo_engine_sessions.specs.declared.sessions.Session.{Session}
use Rattle.hippo_engine_sessions.specs.Worlds.{World, at_number, with_at, free_number, empty_slots, opening, session_at, with_session, new_session, with_cursor, new_cursor, rows_next, moved_on}

-- two of three numbers have a value
abbrev some_held : List (Option ℕ)
some_held = Some 10 ∷ None ∷ Some 30 ∷ []

numbers_begin_with_one :
    (at_number some_held 0 ≡ None) × (at_number some_held 1 ≡ Some 10) × (at_number some_held 3 ≡ Some 30)
numbers_begin_with_one = (refl, refl, refl)

nothing_stands_past_the_last_number : (at_number some_held 4 ≡ None) × (with_at some_held 4 (Some 40) ≡ some_held)
nothing_stands_past_the_last_number = (refl, refl)

the_lowest_number_is_taken_first :
    (free_number {A = ℕ} (empty_slots 3) ≡ Some 1) × (free_number some_held ≡ Some 2)
the_lowest_number_is_taken_first = (refl, refl)

a_number_that_is_given_up_is_taken_again : free_number (with_at some_held 1 None) ≡ Some 1
a_number_that_is_given_up_is_taken_again = refl

no_number_is_free : free_number (with_at some_held 2 (Some 20)) ≡ None
no_number_is_free = refl

-- an answer of three rows, in the second of which a cell is denied by rule 4
abbrev row_of : ℕ → ShownRow
row_of number = Shown (Int (pos number)) ∷ []

abbrev denied_row : ShownRow
denied_row = Denied 4 ∷ []

abbrev three_rows : List ShownRow
three_rows = row_of 1 ∷ denied_row ∷ row_of 3 ∷ []

first_rows : rows_next (new_cursor three_rows) 2 ≡ row_of 1 ∷ denied_row ∷ []
first_rows = refl

rows_that_were_handed_out_do_not_come_again : rows_next (moved_on (new_cursor three_rows) 2) 2 ≡ row_of 3 ∷ []
rows_that_were_handed_out_do_not_come_again = refl

handing_out_ends_with_the_last_row : (moved_on (moved_on (new_cursor three_rows) 2) 2).given ≡ 3
handing_out_ends_with_the_last_row = refl

-- a session of alice's with two cursors
abbrev billing : Pair
billing = record { purpose = codes "billing"; recipient = codes "clerk" }

abbrev asking : Session
asking =
    let first : Session = with_cursor (new_session (codes "alice") billing) 1 (Some (new_cursor three_rows)) in
    with_cursor first 2 (Some (new_cursor []))

abbrev with_one_closed : Session
with_one_closed = with_cursor asking 1 None

a_closed_cursor_gives_its_number_up :
    (at_number with_one_closed.cursors 1 ≡ None) × (free_number with_one_closed.cursors ≡ Some 1)
a_closed_cursor_gives_its_number_up = (refl, refl)

the_other_cursor_stays : at_number with_one_closed.cursors 2 ≡ Some (new_cursor [])
the_other_cursor_stays = refl

-- a run's world with alice's session at number 64, the last one
abbrev began : World
began = opening (pos 0) 1000 formats.Text

abbrev asked_in : World
asked_in = with_session began 64 (Some asking)

sessions_are_known_by_their_numbers :
    (session_at began 64 ≡ None) × (session_at asked_in 64 ≡ Some asking) × (session_at asked_in 63 ≡ None)
sessions_are_known_by_their_numbers = (refl, refl, refl)

a_session_that_was_closed_is_not_open : with_session asked_in 64 None ≡ began
a_session_that_was_closed_is_not_open = refl

no_session_is_the_console : session_at (with_session began 0 (Some asking)) 0 ≡ None
no_session_is_the_console = refl
