-- The authorizations in force, with one more entry.
use Rattle.std.proofs.Common.{◌≡◌, ◌∙◌, ℕ, Bool, true, false, cond, not, List, [], ◌∷◌, ◌++◌, filter, refl, sym, ap, append_assoc}
use Rattle.std.specs.Prelude.{◌||◌}
use Rattle.std.specs.List.{list_any}
use Rattle.std.proofs.lemmas.Bool.{false≢true}
use Rattle.std.proofs.lemmas.List.Folds.{list_any-append}
use Rattle.std.proofs.lemmas.List.{append-nil}
use Rattle.std.proofs.lemmas.List.Elements.{filter-append}
use Rattle.hippo_values.specs.declared.moments.Moment.{Moment}
use Rattle.hippo_model.specs.declared.entry.Act.{Act}
use Rattle.hippo_model.specs.declared.entry.Act.TheVariants.{Authorize, Deauthorize}
use Rattle.hippo_model.specs.declared.entry.Entry.{Entry}
use Rattle.hippo_model.specs.Terms.{History}
use Rattle.hippo_history_formats.specs.declared.grants.Grant.{Grant}
use Rattle.hippo_history_top.specs.declared.asking.Bound.{Bound}
use Rattle.hippo_history_top.specs.Dating.{is_to, entries_to}
use Rattle.hippo_history_top.specs.Granting.{authorizes, deauthorizes, is_about, grant_by, granted, grants_of, is_left_by}

module _ (entry : Entry) where
  abbrev is_left : Grant → Bool
  is_left grant = is_left_by entry.act grant

  -- an authorization that a later entry replaces, or leaves in force
  still : (replaced : Bool) (last : Bool) (grant : Grant) → is_left grant ≡ not last
      → cond (replaced || (last || false)) [] (grant ∷ []) ≡ filter is_left (cond replaced [] (grant ∷ []))
  still true last grant is = refl
  still false true grant is = sym (ap (λ (b : Bool). cond b (grant ∷ []) []) is)
  still false false grant is = sym (ap (λ (b : Bool). cond b (grant ∷ []) []) is)

  still_granted : (number : ℕ) (moment : Moment) (act : Act) (later : History) → granted number moment act (later ++ entry ∷ []) ≡ filter is_left (granted number moment act later)
  still_granted number moment (Authorize user purpose recipient) later =
      let about : Entry → Bool = λ e. is_about user purpose recipient e.act in
      ap (λ (b : Bool). cond b [] (grant_by number moment user purpose recipient ∷ [])) (list_any-append about later (entry ∷ []))
      ∙ still (list_any about later) (is_about user purpose recipient entry.act) (grant_by number moment user purpose recipient) refl
  still_granted number moment act later = refl

  -- the last entry replaces what it is about, and may give an authorization itself
  pub grants_of-more : (history : History) → grants_of (history ++ entry ∷ []) ≡ filter is_left (grants_of history) ++ granted entry.seq entry.moment entry.act []
  grants_of-more [] = append-nil (granted entry.seq entry.moment entry.act [])
  grants_of-more (first ∷ history) =
      let here : List Grant = granted first.seq first.moment first.act history in
      let own : List Grant = granted entry.seq entry.moment entry.act [] in
      ap (λ (l : List Grant). l ++ grants_of (history ++ entry ∷ [])) (still_granted first.seq first.moment first.act history)
      ∙ ap (λ (l : List Grant). filter is_left here ++ l) (grants_of-more history)
      ∙ sym (append_assoc (filter is_left here) (filter is_left (grants_of history)) own)
      ∙ ap (λ (l : List Grant). l ++ own) (sym (filter-append is_left here (grants_of history)))

all_left : (act : Act) → ((grant : Grant) → is_left_by act grant ≡ true) → (grants : List Grant) → filter (is_left_by act) grants ≡ grants
all_left act leaves [] = refl
all_left act leaves (grant ∷ grants) =
    ap (λ (b : Bool). cond b (grant ∷ filter (is_left_by act) grants) (filter (is_left_by act) grants)) (leaves grant) ∙ ap (λ (l : List Grant). grant ∷ l) (all_left act leaves grants)

-- an act that is about nobody leaves all authorizations in force
pub left_by_other : (act : Act) → authorizes act ≡ false → deauthorizes act ≡ false → (grants : List Grant) → grants ≡ filter (is_left_by act) grants
left_by_other (Authorize user purpose recipient) one other grants = absurd (false≢true (sym one))
left_by_other (Deauthorize user purpose recipient) one other grants = absurd (false≢true (sym other))
left_by_other act one other grants = sym (all_left act (λ grant. refl) grants)

-- an act that authorizes nobody gives no authorization
pub granted_by_other : (number : ℕ) (moment : Moment) (act : Act) → authorizes act ≡ false → (grants : List Grant) → grants ≡ grants ++ granted number moment act []
granted_by_other number moment (Authorize user purpose recipient) other grants = absurd (false≢true (sym other))
granted_by_other number moment act other grants = sym (append-nil grants)

-- an entry after the bound counts for nothing, and another one is taken in
module _ (bound : Bound) (read : History) (entry : Entry) (old : List Grant) (so_far : old ≡ grants_of (entries_to bound read)) where
  grown : (test : Bool) → is_to bound entry ≡ test → entries_to bound (read ++ entry ∷ []) ≡ entries_to bound read ++ cond test (entry ∷ []) []
  grown test is = filter-append (is_to bound) read (entry ∷ []) ∙ ap (λ (b : Bool). entries_to bound read ++ cond b (entry ∷ []) []) is

  pub grants-past : is_to bound entry ≡ false → old ≡ grants_of (entries_to bound (read ++ entry ∷ []))
  grants-past is = so_far ∙ ap grants_of (sym (grown false is ∙ append-nil (entries_to bound read)))

  pub grants-within : is_to bound entry ≡ true → filter (is_left_by entry.act) old ++ granted entry.seq entry.moment entry.act [] ≡ grants_of (entries_to bound (read ++ entry ∷ []))
  grants-within is =
      ap (λ (l : List Grant). filter (is_left_by entry.act) l ++ granted entry.seq entry.moment entry.act []) so_far
      ∙ sym (grants_of-more entry (entries_to bound read)) ∙ ap grants_of (sym (grown true is))
