-- A state with one more entry, and with its last entry taken back.
use Rattle.std.proofs.Common.{◌≡◌, ◌∙◌, sym, ap, refl, arith, ◌+◌, ◌-◌, true, false, ◌&&◌, [], ◌∷◌, ◌++◌, length, Some, length-append, Option}
use Rattle.std.specs.Prelude.{◌==◌, unwrap_or}
use Rattle.std.proofs.lemmas.Bool.{and_parts, false≢true}
use Rattle.hippo_values.specs.Moments.{first_moment}
use Rattle.hippo_values.specs.declared.moments.Moment.{Moment}
use Rattle.hippo_model.specs.declared.entry.Act.{Act}
use Rattle.hippo_model.specs.declared.entry.Act.TheVariants.{Delete, Asked}
use Rattle.hippo_model.specs.declared.entry.Entry.{Entry}
use Rattle.hippo_model.specs.Terms.{History}
use Rattle.hippo_model.specs.Keepable.{is_keepable}
use Rattle.hippo_model.specs.Validity.{keeps_order, is_acceptable, may_follow, is_valid}
use Rattle.hippo_model.proofs.LastWords.{last_word-append}
use Rattle.hippo_model_laws.proofs.ValidFronts.{is_valid-append, next_number}
use Rattle.hippo_typing_catalog.specs.Catalogs.{KnownNames, known_at, known_after, creates_new_names}
use Rattle.hippo_typing_catalog.specs.NewestNames.{RemembersNames, creates_nothing}
use Rattle.hippo_policy.specs.declared.book.PolicyBook.{PolicyBook}
use Rattle.hippo_policy.specs.Books.{BookRepresents, RemembersMatter, BookAdds, leaves_book}
use Rattle.hippo_tables.specs.declared.tables.Tables.{Tables}
use Rattle.hippo_tables.specs.Standing.{is_delete, leaves_tables, TablesStandFor, TablesAreAsBefore}
use Rattle.hippo_tables.proofs.NextLemmas.{IsNextAct-valid}
use Rattle.hippo_typing.specs.Meanings.{meaning}
use Rattle.hippo_typing.proofs.CatalogTheorem.{names_grow, entries_create_anew}
use Rattle.hippo_replay.specs.declared.state.State.{State}
use Rattle.hippo_replay.specs.Standing.{latest_moment, Represents, IsNext, takes_no_memory, PartsAdd, Remembers}

-- the moment of the last entry is the latest
pub latest_moment-append : (history : History) (entry : Entry) → latest_moment (history ++ entry ∷ []) ≡ entry.moment
latest_moment-append history entry = ap (λ (word : Option Moment). unwrap_or word first_moment) (last_word-append (λ e. Some e.moment) history entry)

-- an entry that may come next creates only what does not exist yet
pub creates_new_names-next : (state : State) (entry : Entry) → IsNext state entry → creates_new_names state.catalog.names entry.act ≡ true
creates_new_names-next state entry next =
    ap (λ (known : KnownNames). creates_new_names known entry.act) next.stands.names ∙ entries_create_anew meaning next.history entry next.stands.valid next.follows

module _ (history : History) (entry : Entry) (may : may_follow meaning history entry ≡ true) where
  pub acceptable : is_acceptable meaning history entry.act ≡ true
  acceptable = (and_parts (is_keepable entry && entry.seq == length history + 1 && keeps_order history entry.moment) (is_acceptable meaning history entry.act) may).1

  -- with one more entry, the state stands for the history with that entry at its end
  pub Represents-append : (old new : State) → Represents old history → PartsAdd old new entry → new.count ≡ entry.seq → new.last ≡ entry.moment → Represents new (history ++ entry ∷ [])
  Represents-append old new stands adds count last =
      let number : entry.seq ≡ length history + 1 = next_number meaning history entry may in
      record {
        valid = rw (is_valid-append meaning history entry, stands.valid) may;
        names = adds.names ∙ ap (λ (known : KnownNames). known_after known entry.act) stands.names ∙ sym (names_grow history entry);
        book = adds.book.stands history entry refl refl number stands.book;
        tables = adds.tables.stands history (IsNextAct-valid meaning history entry.act stands.valid acceptable) stands.tables;
        count = omega (arith, count, number, length-append history (entry ∷ []));
        last = last ∙ sym (latest_moment-append history entry);
      }

  -- it remembers what it was before
  pub Remembers-append : (old new : State) → is_delete entry.act ≡ false → Represents old history → PartsAdd old new entry → new.count ≡ entry.seq → new.last ≡ entry.moment → new.earlier ≡ old.last → Remembers new history entry
  Remembers-append old new kept stands adds count last earlier = record {
    stands = Represents-append old new stands adds count last;
    names = adds.newest;
    matter = adds.book.remembers;
    rows = adds.tables.remembers kept history (IsNextAct-valid meaning history entry.act stands.valid acceptable) stands.tables;
    moment = earlier ∙ stands.last;
  }

  -- when out of memory, it stands for what it stood for before
  pub Represents-same : (old new : State) → Represents old history → new.catalog.names ≡ old.catalog.names → (entry.seq ≡ length history + 1 → BookRepresents old.book history → BookRepresents new.book history) → TablesAreAsBefore old.tables new.tables → new.count ≡ old.count → new.last ≡ old.last → Represents new history
  Represents-same old new stands names book tables count last = record {
    valid = stands.valid;
    names = names ∙ stands.names;
    book = book (next_number meaning history entry may) stands.book;
    tables = record { kept = λ name. tables.kept name ∙ stands.tables.kept name };
    count = count ∙ stands.count;
    last = last ∙ stands.last;
  }

-- an act that takes no memory creates nothing and changes nothing that a book holds; a question
-- changes no row
pub creates_nothing-room : (act : Act) → takes_no_memory act ≡ true → creates_nothing act ≡ true
creates_nothing-room (Delete table key) is = refl
creates_nothing-room (Asked user purpose recipient text) is = refl
creates_nothing-room act is = absurd (false≢true is)

pub leaves_book-room : (act : Act) → takes_no_memory act ≡ true → leaves_book act ≡ true
leaves_book-room (Delete table key) is = refl
leaves_book-room (Asked user purpose recipient text) is = refl
leaves_book-room act is = absurd (false≢true is)

pub leaves_tables-room : (act : Act) → takes_no_memory act ≡ true → is_delete act ≡ false → leaves_tables act ≡ true
leaves_tables-room (Delete table key) is other = absurd (false≢true (sym other))
leaves_tables-room (Asked user purpose recipient text) is other = refl
leaves_tables-room act is other = absurd (false≢true is)

-- a book that has taken in an entry and takes it back
pub book_again : (old mid new : PolicyBook) (entry : Entry) → BookAdds old mid entry.seq entry.act → ((history : History) (entry : Entry) → RemembersMatter mid entry.act → BookRepresents mid (history ++ entry ∷ []) → BookRepresents new history) → (history : History) → entry.seq ≡ length history + 1 → BookRepresents old history → BookRepresents new history
book_again old mid new entry adds taken history number stands = taken history entry adds.remembers (adds.stands history entry refl refl number stands)

-- a state with its last entry taken back
pub Represents-before : (old new : State) (history : History) (entry : Entry) → Remembers old history entry
    → ((known : KnownNames) → RemembersNames old.catalog.newest entry.act → old.catalog.names ≡ known_after known entry.act → new.catalog.names ≡ known)
    → (RemembersMatter old.book entry.act → BookRepresents old.book (history ++ entry ∷ []) → BookRepresents new.book history)
    → TablesStandFor new.tables history → new.count ≡ old.count - 1 → new.last ≡ old.earlier → Represents new history
Represents-before old new history entry knows names book tables count last =
    let valid = and_parts (is_valid meaning history) (may_follow meaning history entry) (sym (is_valid-append meaning history entry) ∙ knows.stands.valid) in
    let grown : old.count ≡ length (history ++ entry ∷ []) = knows.stands.count in
    record {
      valid = valid.0;
      names = names (known_at history) knows.names (knows.stands.names ∙ names_grow history entry);
      book = book knows.matter knows.stands.book;
      tables = tables;
      count = omega (arith, count, grown, length-append history (entry ∷ []));
      last = last ∙ knows.moment;
    }

-- a state with other tables of the same value
abbrev pub with_tables : State → Tables → State
with_tables state tables = record { catalog = state.catalog; book = state.book; tables = tables; count = state.count; last = state.last; earlier = state.earlier }

pub Represents-with_tables : (state : State) (tables : Tables) (history : History) → TablesAreAsBefore state.tables tables → Represents state history → Represents (with_tables state tables) history
Represents-with_tables state tables history same stands = record {
  valid = stands.valid;
  names = stands.names;
  book = stands.book;
  tables = record { kept = λ name. same.kept name ∙ stands.tables.kept name };
  count = stands.count;
  last = stands.last;
}

pub Remembers-with_tables : (state : State) (tables : Tables) (history : History) (entry : Entry) → TablesAreAsBefore state.tables tables → Remembers state history entry → Remembers (with_tables state tables) history entry
Remembers-with_tables state tables history entry same knows = record {
  stands = Represents-with_tables state tables (history ++ entry ∷ []) same knows.stands;
  names = knows.names;
  matter = knows.matter;
  rows = record { before = λ name. rw (same.same_last, same.kept name) (knows.rows.before name) };
  moment = knows.moment;
}
