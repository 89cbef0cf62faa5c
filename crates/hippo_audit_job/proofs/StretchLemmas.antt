-- Meanings and flags stay the same when entries are added; ranges without logged queries.
use Rattle.std.proofs.Common.{◌≡◌, ◌∙◌, sym, ap, refl, arith, ℕ, zero, suc, ◌-◌, ◌≤◌, Bool, true, false, ◌&&◌, List, [], ◌∷◌, ◌++◌, length, take, drop, Option, None, Some}
use Rattle.std.specs.Prelude.{filter_map, option_and_then, is_some, slice_get, if◌then◌else◌, not}
use Rattle.std.specs.List.{AllByRecursion, cons_option}
use Rattle.std.proofs.lemmas.Bool.{false≢true, and_parts}
use Rattle.std.proofs.lemmas.List.{take-append-le, take-append-drop}
use Rattle.hippo_values.specs.Texts.{Txt}
use Rattle.hippo_values.specs.declared.moments.Moment.{Moment}
use Rattle.hippo_values.specs.declared.names.Name.{Name}
use Rattle.hippo_values.proofs.OptionLemmas.{some_there}
use Rattle.hippo_model.specs.declared.audit.Audit.{Audit}
use Rattle.hippo_model.specs.declared.audit.Flag.{Flag}
use Rattle.hippo_model.specs.declared.audit.SharedRow.{SharedRow}
use Rattle.hippo_model.specs.declared.entry.Act.{Act}
use Rattle.hippo_model.specs.declared.entry.Act.TheVariants.{Asked}
use Rattle.hippo_model.specs.declared.entry.Entry.{Entry}
use Rattle.hippo_model.specs.declared.query.Query.{Query}
use Rattle.hippo_model.specs.Terms.{History, Meaning}
use Rattle.hippo_model.specs.Histories.{before_entry}
use Rattle.hippo_model.specs.HandedOver.{is_question}
use Rattle.hippo_model.specs.Validity.{is_valid, is_acceptable, is_authorized}
use Rattle.hippo_model.specs.Rules.{authorized_at}
use Rattle.hippo_model.specs.Verdicts.{Context}
use Rattle.hippo_model.specs.Columns.{names_all}
use Rattle.hippo_model.specs.Audits.{in_period, is_exempt, shared_by, shared_in, flag_by, flag_of, flags_between}
use Rattle.hippo_model_laws.specs.Audits.{StandsIn}
use Rattle.hippo_model_laws.proofs.ValidFronts.{before-append, entry_has_its_number, front_is_valid}
use Rattle.hippo_typing.specs.Meanings.{meaning}
use Rattle.hippo_typing.proofs.LastingMeanings.{meaning_lasts}
use Rattle.hippo_backlog.proofs.VersionsTheorem.{may_there}
use Rattle.hippo_audit_job.specs.Looking.{is_question_in_period}

-- the entries before one, the entry itself, and those after it
pub parted_at : (history : History) (place : ℕ) (entry : Entry) → slice_get history place ≡ Some entry → history ≡ take place history ++ entry ∷ drop (suc place) history
parted_at [] place entry is = absurd cc
parted_at (first ∷ rest) zero entry is =
    let same : first ≡ entry = cc in
    ap (λ (e : Entry). e ∷ rest) same
parted_at (first ∷ rest) (suc place) entry is = ap (λ (h : History). first ∷ h) (parted_at rest place entry is)

before_is : (meaning : Meaning) (history : History) (entry : Entry) (stands : StandsIn meaning history entry) → before_entry entry history ≡ take stands.place history
before_is meaning history entry stands =
    let number = entry_has_its_number meaning history stands.valid stands.place entry stands.stands in
    ap (λ (n : ℕ). take n history) (omega (arith, number))

acceptable_there : (meaning : Meaning) (history : History) (entry : Entry) (stands : StandsIn meaning history entry) → is_acceptable meaning (before_entry entry history) entry.act ≡ true
acceptable_there meaning history entry stands =
    let parts = parted_at history stands.place entry stands.stands in
    let may = may_there meaning (take stands.place history) (drop (suc stands.place) history) entry (sym (ap (is_valid meaning) parts) ∙ stands.valid) in
    ap (λ (h : History). is_acceptable meaning h entry.act) (before_is meaning history entry stands) ∙ (and_parts _ _ may).1

-- a logged query meant some query, and still means it
pub question_means : (history : History) (entry : Entry) → StandsIn meaning history entry → (user purpose recipient : Name) (text : Txt) → entry.act ≡ Asked user purpose recipient text → ((query : Query) × (meaning (before_entry entry history) text ≡ Some query) × (meaning history text ≡ Some query))
question_means history entry stands user purpose recipient text act =
    let front = before_entry entry history in
    let good : is_acceptable meaning front (Asked user purpose recipient text) ≡ true = sym (ap (is_acceptable meaning front) act) ∙ acceptable_there meaning history entry stands in
    let found = some_there (meaning front text) (and_parts (is_authorized (authorized_at front user purpose recipient)) (is_some (meaning front text)) good).1 in
    let whole : front ++ drop (entry.seq - 1) history ≡ history = take-append-drop (entry.seq - 1) history in
    (found.0, found.1, sym (ap (λ (h : History). meaning h text) whole) ∙ meaning_lasts front (drop (entry.seq - 1) history) text found.0 found.1)

-- the first entries of a list for which something is true of every entry
pub all_take : {A : Type 0} (P : A → Type 0) (number : ℕ) (list : List A) → AllByRecursion P list → AllByRecursion P (take number list)
all_take P zero list all = tt
all_take P (suc number) [] all = tt
all_take P (suc number) (first ∷ rest) all = (all.0, all_take P number rest all.1)

pub all_drop : {A : Type 0} (P : A → Type 0) (number : ℕ) (list : List A) → AllByRecursion P list → AllByRecursion P (drop number list)
all_drop P zero list all = all
all_drop P (suc number) [] all = tt
all_drop P (suc number) (first ∷ rest) all = all_drop P number rest all.1

same_flags : (one other : Entry → Option Flag) (list : List Entry) → AllByRecursion (λ entry. one entry ≡ other entry) list → filter_map one list ≡ filter_map other list
same_flags one other [] all = refl
same_flags one other (entry ∷ rest) all = λ i. cons_option (all.0 i) (same_flags one other rest all.1 i)

no_flags : (one : Entry → Option Flag) (list : List Entry) → AllByRecursion (λ entry. one entry ≡ None) list → filter_map one list ≡ []
no_flags one [] all = refl
no_flags one (entry ∷ rest) all = ap (λ (o : Option Flag). cons_option o (filter_map one rest)) all.0 ∙ no_flags one rest all.1

drop_none : (n : ℕ) → [] ≡ drop {A = Entry} n []
drop_none zero = refl
drop_none (suc n) = refl

take_none : (n : ℕ) → take {A = Entry} n [] ≡ []
take_none zero = refl
take_none (suc n) = refl

-- the numbers above one and up to another
pub stretch : (above upto : ℕ) (history : History) → take (upto - above) (drop above history) ≡ drop above (take upto history)
stretch zero upto history =
    let all : upto - 0 ≡ upto = omega arith in
    ap (λ (n : ℕ). take n history) all
stretch (suc above) zero history =
    let none : 0 - suc above ≡ 0 = omega arith in
    ap (λ (n : ℕ). take n (drop (suc above) history)) none ∙ drop_none (suc above)
stretch (suc above) (suc upto) [] = take_none (suc upto - suc above)
stretch (suc above) (suc upto) (first ∷ rest) =
    let fewer : suc upto - suc above ≡ upto - above = omega arith in
    ap (λ (n : ℕ). take n (drop above rest)) fewer ∙ stretch above upto rest

-- the first of the entries from a place on is the entry at that place
pub first_there : (place : ℕ) (history : History) (entry : Entry) (rest : History) → drop place history ≡ entry ∷ rest → (slice_get history place ≡ Some entry) × (drop (suc place) history ≡ rest)
first_there zero [] entry rest is = absurd cc
first_there zero (first ∷ others) entry rest is =
    let same : first ≡ entry = cc in
    let remaining : others ≡ rest = cc in
    (ap Some same, remaining)
first_there (suc place) [] entry rest is = absurd cc
first_there (suc place) (first ∷ others) entry rest is = first_there place others entry rest is

module _ (meaning : Meaning) (audit : Audit) (later : History) where
  flag_lasts : (history : History) (entry : Entry) → StandsIn meaning history entry → flag_of meaning (history ++ later) audit entry ≡ flag_of meaning history audit entry
  flag_lasts history entry stands =
      ap (λ (h : History). option_and_then (flag_by entry entry.act) (shared_in meaning h audit entry.moment entry.act)) (before-append meaning history entry stands later)

  each_lasts : (history : History) → is_valid meaning history ≡ true → (place : ℕ) (rest : History) → drop place history ≡ rest → AllByRecursion (λ entry. flag_of meaning (history ++ later) audit entry ≡ flag_of meaning history audit entry) rest
  each_lasts history valid place [] is = tt
  each_lasts history valid place (entry ∷ rest) is =
      let there = first_there place history entry rest is in
      (flag_lasts history entry (record { valid = valid; place = place; stands = there.0 }), each_lasts history valid (suc place) rest there.1)

  pub stretch_lasts : (history : History) (above upto : ℕ) → is_valid meaning (history ++ later) ≡ true → upto ≤ length history → flags_between meaning (history ++ later) audit above upto ≡ flags_between meaning history audit above upto
  stretch_lasts history above upto valid within =
      let one : Entry → Option Flag = flag_of meaning (history ++ later) audit in
      let other : Entry → Option Flag = flag_of meaning history audit in
      let entries : take (upto - above) (drop above (history ++ later)) ≡ take (upto - above) (drop above history) = stretch above upto (history ++ later) ∙ ap (drop above) (take-append-le upto history later within) ∙ sym (stretch above upto history) in
      let all = each_lasts history (front_is_valid meaning history later valid) zero history refl in
      ap (filter_map one) entries ∙ same_flags one other (take (upto - above) (drop above history)) (all_take _ (upto - above) (drop above history) (all_drop _ above history all))

-- an entry that is not a logged query of the period shares nothing
unshared : (meaning : Option Query) (shares : Query → Option (List SharedRow)) → ((query : Query) → shares query ≡ None) → option_and_then shares meaning ≡ None
unshared None shares none = refl
unshared (Some query) shares none = none query

outside : (period exempt named : Bool) (found : Option (List SharedRow)) → period ≡ false → (if period && not exempt && named then found else None) ≡ None
outside true exempt named found is = absurd (false≢true (sym is))
outside false exempt named found is = refl

none_shared : (meaning : Meaning) (history : History) (audit : Audit) (moment : Moment) (act : Act) → (is_question act && in_period audit moment) ≡ false → shared_in meaning history audit moment act ≡ None
none_shared meaning history audit moment (Asked user purpose recipient text) is =
    let context : Context = record { purpose = purpose; recipient = recipient; moment = moment } in
    unshared (meaning history text) (λ query. shared_by history context query audit) (λ query. outside (in_period audit moment) (is_exempt audit purpose recipient) (names_all query audit) _ is)
none_shared m history audit moment act is = refl

pub unflagged : (meaning : Meaning) (history : History) (audit : Audit) (entry : Entry) → is_question_in_period audit entry ≡ false → flag_of meaning history audit entry ≡ None
unflagged meaning history audit entry is = ap (option_and_then (flag_by entry entry.act)) (none_shared meaning (before_entry entry history) audit entry.moment entry.act is)

pub no_questions : (meaning : Meaning) (history : History) (audit : Audit) (list : List Entry) → AllByRecursion (λ entry. is_question_in_period audit entry ≡ false) list → filter_map (flag_of meaning history audit) list ≡ []
no_questions meaning history audit list all = no_flags (flag_of meaning history audit) list (each list all)
  where
    each : (list : List Entry) → AllByRecursion (λ entry. is_question_in_period audit entry ≡ false) list → AllByRecursion (λ entry. flag_of meaning history audit entry ≡ None) list
    each [] all = tt
    each (entry ∷ rest) all = (unflagged meaning history audit entry all.0, each rest all.1)
