-- The entry that has a form is the one that is read from it.
use Rattle.std.proofs.Common.{◌≡◌, ℕ, Bool, true, false, List, [], ◌++◌, Option, Some, None, refl, sym, ap, subst, ◌∙◌}
use Rattle.std.proofs.Common.{Result, Ok, Err, ◌↔◌}
use Rattle.std.specs.Prelude.{IsTrue, IfOk}
use Rattle.std.specs.Bool.{then_some}
use Rattle.std.specs.Result.{result_map_both}
use Rattle.std.proofs.lemmas.List.{append-nil}
use Rattle.hippo_values.specs.declared.memory.Memory.{Memory}
use Rattle.hippo_model.specs.declared.entry.Entry.{Entry}
use Rattle.hippo_model.specs.declared.stored.StoredEntry.{StoredEntry}
use Rattle.hippo_model.specs.StoredForms.{body}
use Rattle.hippo_entry_codec.specs.Readings.{leading_entry}
use Rattle.hippo_entry_codec.proofs.EntryAgain.{entry_again}
use Rattle.hippo_entry.specs.Forms.{HasForm, IsEntryOf}

-- reading the body of a stored form gives its entry
pub read_from_form : (kept : StoredEntry) (entry : Entry) → HasForm kept entry
    → leading_entry kept.body ≡ Some (entry, [])
read_from_form kept entry form =
    let whole : kept.body ≡ body entry ++ [] =
    sym (ap (λ (s : StoredEntry). s.body) form.1) ∙ sym (append-nil (body entry)) in
    ap leading_entry whole ∙ entry_again entry [] form.0

abbrev read_as : Entry → List ℕ → Option (Entry × List ℕ)
read_as entry rest = Some (entry, rest)

abbrev first_or : Entry → Option (Entry × List ℕ) → Entry
first_or entry None = entry
first_or entry (Some read) = read.0

same_first : {x y : Entry} {r s : List ℕ} → read_as x r ≡ read_as y s → x ≡ y
same_first {x = x} e = ap (first_or x) e

-- an entry that was read and has the form is the one with the form
pub found_entry : (kept : StoredEntry) (entry : Entry) (rest : List ℕ) → leading_entry kept.body ≡ Some (entry, rest)
    → HasForm kept entry → IsEntryOf kept (Some entry)
found_entry kept entry rest read form = record {
  sound = form;
  only = λ other has. ap Some (same_first (sym read ∙ read_from_form kept other has));
}

-- if the entry that was read does not have the form, no entry has it
pub other_form : (kept : StoredEntry) (entry : Entry) (rest : List ℕ) → leading_entry kept.body ≡ Some (entry, rest)
    → ¬ HasForm kept entry → IsEntryOf kept None
other_form kept entry rest read lacks = record {
  sound = tt;
  only = λ other has. absurd
      (lacks (subst (HasForm kept) (same_first (sym (read_from_form kept other has) ∙ read)) has));
}

never_some : {A : Type 0} {x : A} → Some x ≡ None → ⊥
never_some e = absurd cc

-- if no entry was read, no entry has the form
pub no_entry : (kept : StoredEntry) → leading_entry kept.body ≡ None → IsEntryOf kept None
no_entry kept read = record {
  sound = tt;
  only = λ other has. absurd (never_some (sym (read_from_form kept other has) ∙ read));
}

false_is_not : false ≡ true → ⊥
false_is_not e = absurd cc

judged : (kept : StoredEntry) (entry : Entry) (rest : List ℕ) → leading_entry kept.body ≡ Some (entry, rest)
    → (same : Bool) → IsTrue same ↔ HasForm kept entry
    → IsEntryOf kept (then_some same entry)
judged kept entry rest read true form = found_entry kept entry rest read (form.0 refl)
judged kept entry rest read false form = other_form kept entry rest read (λ has. false_is_not (form.1 has))

-- the entry that was read, if the test says that it has the form
pub is_entry_of : (kept : StoredEntry) (entry : Entry) (rest : List ℕ) → leading_entry kept.body ≡ Some (entry, rest)
    → (test : Result Bool Memory) → IfOk test (λ same. IsTrue same ↔ HasForm kept entry)
    → (result : Result (Option Entry) Memory)
    → result ≡ result_map_both (λ holds. then_some holds entry) (λ fault. fault) test → IfOk result (IsEntryOf kept)
is_entry_of kept entry rest read (Ok same) form result is = rw is (judged kept entry rest read same form)
is_entry_of kept entry rest read (Err fault) form result is = rw is tt
