-- Taking in stored entries one after another, up to the first damaged one.
use Rattle.std.proofs.Common.{◌≡◌, ◌≢◌, ◌∙◌, sym, ap, refl, arith, subst, ℕ, zero, suc, ◌+◌, ◌-◌, ◌<◌, true, false, List, [], ◌∷◌, ◌++◌, map, length, get_or, take, drop, Some, None, Result, Err, OnOk, append_assoc, add-one}
use Rattle.std.proofs.Math.Seq.{take-append_seam, take-append-add}
use Rattle.std.proofs.lemmas.Bool.{and_parts, false≢true}
use Rattle.std.proofs.lemmas.List.{length-map, map-append, take-append-drop}
use Rattle.std.proofs.lemmas.Option.{none-some, same_Some}
use Rattle.std.proofs.lemmas.Result.{on_ok_weaker}
use Rattle.hippo_model.specs.declared.entry.Entry.{Entry}
use Rattle.hippo_model.specs.declared.stored.StoredEntry.{StoredEntry}
use Rattle.hippo_model.specs.Terms.{History}
use Rattle.hippo_model.specs.Keepable.{is_keepable}
use Rattle.hippo_model.specs.StoredForms.{stored}
use Rattle.hippo_model.specs.Stores.{IsStoreOf, IsDamagedAt}
use Rattle.hippo_model.specs.Validity.{may_follow, is_valid}
use Rattle.hippo_model_laws.proofs.OneStore.{one_history}
use Rattle.hippo_model_laws.proofs.ValidFronts.{is_valid-append}
use Rattle.hippo_entry.specs.Forms.{HasForm, IsEntryOf}
use Rattle.hippo_keeper.specs.Keeping.{Store, RisesAbove}
use Rattle.hippo_typing.specs.Meanings.{meaning}
use Rattle.hippo_replay.specs.declared.faults.LoadFault.{LoadFault}
use Rattle.hippo_replay.specs.declared.faults.LoadFault.TheVariants.{Keeper, Damaged}
use Rattle.hippo_replay.specs.declared.state.State.{State}
use Rattle.hippo_replay.specs.Standing.{Represents, IsSound, IsNext}
use Rattle.hippo_replay.specs.TakingIn.{HasLoaded, TakesIn, Follows}
use Rattle.hippo_tables.proofs.RowLemmas.{drop_at_member}
use Rattle.hippo_keeper.proofs.Results.{err_of, well}

-- the members before the last one, and the last one
record EndsSo {A B : Type 0} (image : A → B) (members : List A) (front : List B) (last : B) : Type 0 where
  start : List A
  member : A
  ends : members ≡ start ++ member ∷ []
  before : map image start ≡ front
  at_end : image member ≡ last

-- members end this way if their images do
ends_so : {A B : Type 0} (image : A → B) (members : List A) (front : List B) (last : B) → map image members ≡ front ++ last ∷ [] → EndsSo image members front last
ends_so image [] [] last same = absurd cc
ends_so image [] (first ∷ front) last same = absurd cc
ends_so image (member ∷ []) [] last same = record { start = []; member = member; ends = refl; before = refl; at_end = cc }
ends_so image (member ∷ next ∷ members) [] last same = absurd cc
ends_so image (member ∷ members) (first ∷ front) last same =
    let rest = ends_so image members front last cc in
    record {
      start = member ∷ rest.start;
      member = rest.member;
      ends = ap (λ later. member ∷ later) rest.ends;
      before = λ i. one same i ∷ rest.before i;
      at_end = rest.at_end;
    }
  where
    one : image member ∷ map image members ≡ first ∷ (front ++ last ∷ []) → image member ≡ first
    one same = cc

-- the history of a state that has loaded these
pub its_store : (state : State) (store : Store) (loaded : HasLoaded state store) → IsStoreOf meaning store loaded.history
its_store state store loaded = record { forms = loaded.forms; valid = loaded.stands.valid }

-- there are as many entries as stored forms
pub loaded_count : (state : State) (store : Store) → HasLoaded state store → state.count ≡ length store
loaded_count state store loaded = loaded.stands.count ∙ sym (length-map loaded.history stored) ∙ ap length loaded.forms

-- one more entry
pub HasLoaded-append : (old new : State) (kept : StoredEntry) (entry : Entry) → HasForm kept entry
    → ((history : History) → Represents old history → (may_follow meaning history entry ≡ true) × Represents new (history ++ entry ∷ []))
    → (store : Store) → HasLoaded old store → HasLoaded new (store ++ kept ∷ [])
HasLoaded-append old new kept entry form follows store loaded = record {
  history = loaded.history ++ entry ∷ [];
  forms = map-append stored loaded.history (entry ∷ []) ∙ (λ i. loaded.forms i ++ form.1 i ∷ []);
  stands = (follows loaded.history loaded.stands).1;
}

module _ (state : State) (kept : StoredEntry) (never : (entry : Entry) → HasForm kept entry → (history : History) → Represents state history → may_follow meaning history entry ≡ false) where
  -- no valid history continues this way
  no_longer : (store : Store) → HasLoaded state store → (history : History) → ¬ (IsStoreOf meaning (store ++ kept ∷ []) history)
  no_longer store loaded history longer =
      let end = ends_so stored history store kept longer.forms in
      let valid = and_parts (is_valid meaning end.start) (may_follow meaning end.start end.member) (sym (is_valid-append meaning end.start end.member) ∙ ap (is_valid meaning) (sym end.ends) ∙ longer.valid) in
      let front : IsStoreOf meaning store end.start = record { forms = end.before; valid = valid.0 } in
      let same = one_history meaning store end.start loaded.history front (its_store state store loaded) in
      let may : may_follow meaning loaded.history end.member ≡ true = ap (λ (h : History). may_follow meaning h end.member) (sym same) ∙ valid.1 in
      false≢true (sym (never end.member (keepable end.start end.member valid.1, end.at_end) loaded.history loaded.stands) ∙ may)
    where
      keepable : (history : History) (entry : Entry) → may_follow meaning history entry ≡ true → is_keepable entry ≡ true
      keepable history entry may = (and_parts _ _ (and_parts _ _ (and_parts _ _ may).0).0).0

  -- so the damage is here, whatever follows
  pub damaged_here : (store rest : Store) → HasLoaded state store → IsDamagedAt meaning (store ++ kept ∷ rest) (length store + 1)
  damaged_here store rest loaded =
      let place : length store + 1 - 1 ≡ length store = omega arith in
      let before : take (length store + 1 - 1) (store ++ kept ∷ rest) ≡ store = rw place (take-append_seam store (kept ∷ rest)) in
      record {
        front = loaded.history;
        before = record { forms = loaded.forms ∙ sym before; valid = loaded.stands.valid };
        beyond = λ history longer. no_longer store loaded history (subst (λ (s : Store). IsStoreOf meaning s history) (take-append-add store (kept ∷ rest) 1) longer);
      }

-- the place, from the number of entries
pub damaged_next : (state : State) (kept : StoredEntry) → ((entry : Entry) → HasForm kept entry → (history : History) → Represents state history → may_follow meaning history entry ≡ false) → (place : ℕ) → ((history : History) → Represents state history → place ≡ length history + 1) → (store rest : Store) → HasLoaded state store → IsDamagedAt meaning (store ++ kept ∷ rest) place
damaged_next state kept never place is store rest loaded =
    let counted : length loaded.history ≡ length store = sym (length-map loaded.history stored) ∙ ap length loaded.forms in
    let there : length store + 1 ≡ place = sym (is loaded.history loaded.stands ∙ ap (λ n. n + 1) counted) in
    subst (λ (p : ℕ). IsDamagedAt meaning (store ++ kept ∷ rest) p) there (damaged_here state kept never store rest loaded)

-- an entry that has the form is taken in, or may not follow
pub taken_in : {A : Type 0} (kept : StoredEntry) (entry : Entry) (result : Result A LoadFault) (old new : State) → IsEntryOf kept (Some entry) → Follows entry result old new → TakesIn (kept ∷ []) result old new
taken_in kept entry result old new found follows = record {
  ok = on_ok_weaker result (λ ok store loaded. HasLoaded-append old new kept entry found.sound ok store loaded) follows.ok;
  damaged = λ place is store rest loaded.
      damaged_next old kept
      (λ other form history stands. ap (may_follow meaning history) (sym (same_Some entry other (found.only other form))) ∙ (follows.damaged place is history stands).0)
      place (λ history stands. (follows.damaged place is history stands).1) store rest loaded;
  unfailed = follows.unfailed;
}

-- no entry has this form
pub none_here : (state : State) (kept : StoredEntry) (place : ℕ) → IsEntryOf kept None → place ≡ state.count + 1 → (store rest : Store) → HasLoaded state store → IsDamagedAt meaning (store ++ kept ∷ rest) place
none_here state kept place found is =
    damaged_next state kept (λ entry form history stands. absurd (none-some entry (found.only entry form))) place
    (λ history stands. is ∙ ap (λ n. n + 1) stands.count)

-- a sound state stays so
pub sound_still : {A : Type 0} (entry : Entry) (result : Result A LoadFault) (old new : State) → IsSound old → Follows entry result old new → OnOk result (IsSound new)
sound_still entry result old new sound follows =
    on_ok_weaker result (λ ok. record { history = sound.history ++ entry ∷ []; stands = (ok sound.history sound.stands).1 }) follows.ok

-- the entries before one, that entry, and the entries after it
pub cut_there : (piece store rest : Store) (i : ℕ) (kept : StoredEntry) → drop i piece ≡ kept ∷ drop (i + 1) piece → (store ++ take i piece) ++ kept ∷ (drop (i + 1) piece ++ rest) ≡ store ++ (piece ++ rest)
cut_there piece store rest i kept at =
    append_assoc store (take i piece) (kept ∷ (drop (i + 1) piece ++ rest))
    ∙ ap (λ (later : Store). store ++ (take i piece ++ (later ++ rest))) (sym at)
    ∙ ap (λ (all : Store). store ++ all) (sym (append_assoc (take i piece) (drop i piece) rest) ∙ ap (λ (all : Store). all ++ rest) (take-append-drop i piece))

-- the entries up to and including one
pub take_at_entry : (entries : Store) (i : ℕ) (entry : StoredEntry) → i < length entries → entry ≡ get_or entries i entry → take (i + 1) entries ≡ take i entries ++ entry ∷ []
take_at_entry entries i entry inside is = rw add-one (upto entries i inside is)
  where
    upto : (entries : Store) (i : ℕ) → i < length entries → entry ≡ get_or entries i entry → take (suc i) entries ≡ take i entries ++ entry ∷ []
    upto [] i inside is = absurd (omega arith)
    upto (first ∷ rest) zero inside is = ap (λ (e : StoredEntry). e ∷ []) (sym is)
    upto (first ∷ rest) (suc i) inside is = ap (λ (later : Store). first ∷ later) (upto rest i (omega arith) is)

-- one more entry is taken in
pub taken_more : (piece store : Store) (i : ℕ) (kept : StoredEntry) (state : State) → i < length piece → kept ≡ get_or piece i kept → HasLoaded state ((store ++ take i piece) ++ kept ∷ []) → HasLoaded state (store ++ take (i + 1) piece)
taken_more piece store i kept state inside is loaded =
    subst (λ (s : Store). HasLoaded state s) (append_assoc store (take i piece) (kept ∷ []) ∙ ap (λ (front : Store). store ++ front) (sym (take_at_entry piece i kept inside is))) loaded

-- the numbers of the entries from one on rise
pub rises_there : (number : ℕ) (piece : Store) (i : ℕ) (kept : StoredEntry) → i < length piece → kept ≡ get_or piece i kept → RisesAbove number (drop i piece) → (number < kept.seq) × RisesAbove kept.seq (drop (i + 1) piece)
rises_there number piece i kept inside is rises = subst (λ (later : Store). RisesAbove number later) (drop_at_member piece i kept inside is) rises

-- the place that is reported
pub damage_place : {A : Type 0} (fault : LoadFault) (count place : ℕ) → fault ≡ Damaged (count + 1) → err_of A fault ≡ Err (Damaged place) → place ≡ count + 1
damage_place fault count place told is = cc

pub damage_unfailed : {A : Type 0} (fault : LoadFault) (count : ℕ) → fault ≡ Damaged (count + 1) → err_of A fault ≢ Err Keeper
damage_unfailed fault count told is = absurd cc

-- a form that no entry has is damaged
pub none_taken : {A : Type 0} (kept : StoredEntry) (fault : LoadFault) (state : State) → IsEntryOf kept None → fault ≡ Damaged (state.count + 1) → TakesIn {A = A} (kept ∷ []) (Err fault) state state
none_taken {A = A} kept fault state found told = record {
  ok = tt;
  damaged = λ place is. none_here state kept place found (damage_place {A = A} fault state.count place told is);
  unfailed = damage_unfailed {A = A} fault state.count told;
}

-- an entry that may not follow is damaged
pub not_followed : {A : Type 0} (entry : Entry) (fault : LoadFault) (state : State) → ((history : History) → Represents state history → false ≡ may_follow meaning history entry) → fault ≡ Damaged (state.count + 1) → Follows {A = A} entry (Err fault) state state
not_followed {A = A} entry fault state never told = record {
  ok = tt;
  damaged = λ place is history stands. (sym (never history stands), damage_place {A = A} fault state.count place told is ∙ ap (λ n. n + 1) stands.count);
  unfailed = damage_unfailed {A = A} fault state.count told;
}

-- an entry that may follow is taken in
pub followed : (entry : Entry) (old new : State) → ((history : History) → Represents old history → true ≡ may_follow meaning history entry) → ((history : History) → Represents old history → may_follow meaning history entry ≡ true → Represents new (history ++ entry ∷ [])) → Follows entry (well LoadFault) old new
followed entry old new may adds = record {
  ok = λ history stands. (sym (may history stands), adds history stands (sym (may history stands)));
  damaged = λ place is. absurd cc;
  unfailed = λ is. absurd cc;
}

-- the history that an entry may follow next
pub IsNext-here : (state : State) (entry : Entry) → IsSound state → ((history : History) → Represents state history → true ≡ may_follow meaning history entry) → IsNext state entry
IsNext-here state entry sound may = record { history = sound.history; stands = sound.stands; follows = sym (may sound.history sound.stands) }

-- an entry and its form have the same number
pub same_number : {A : Type 0} (kept : StoredEntry) (entry : Entry) (result : Result A LoadFault) (count : ℕ) → HasForm kept entry → OnOk result (count ≡ entry.seq) → OnOk result (count ≡ kept.seq)
same_number kept entry result count form counted = on_ok_weaker result (λ is. is ∙ ap (λ (k : StoredEntry). k.seq) form.1) counted
