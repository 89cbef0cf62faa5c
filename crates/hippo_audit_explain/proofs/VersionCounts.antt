-- Distinct tables have no more versions in total than the history.
use Rattle.std.proofs.Common.{◌≡◌, ◌≤◌, ◌∙◌, ℕ, ◌+◌, Bool, true, false, cond, List, [], ◌∷◌, ◌++◌, length, refl, sym, ap, arith}
use Rattle.std.specs.Prelude.{◌||◌, bytes_eq, sum_by}
use Rattle.std.specs.List.{list_any}
use Rattle.std.proofs.lemmas.Bool.{false≢true}
use Rattle.std.proofs.lemmas.List.Sums.{sum_by-cons}
use Rattle.std.proofs.lemmas.Slice.Eq.{bytes_eq-Decides}
use Rattle.std.proofs.Math.Bool.{or-false, or-true}
use Rattle.hippo_values.specs.declared.names.Name.{Name}
use Rattle.hippo_model.specs.declared.entry.Entry.{Entry}
use Rattle.hippo_model.specs.declared.name_fault.NameFault.{NameFault}
use Rattle.hippo_model.specs.declared.name_fault.NameFault.TheVariants.{RepeatedName}
use Rattle.hippo_model.specs.StoredForms.{table_changed}
use Rattle.hippo_model.specs.Terms.{History}
use Rattle.hippo_model.specs.Versions.{is_version, versions}
use Rattle.hippo_typing_catalog.specs.Refusals.{fault_if, repeated_after, repeated_names}
use Rattle.hippo_typing.proofs.LastingNames.{any-append}
use Rattle.hippo_backlog.specs.Backlogs.{is_version_of, versions_of}
use Rattle.hippo_audit_explain.specs.Denying.{tables_versions}

both_none : {A : Type 0} (first second : List A) → first ++ second ≡ [] → (first ≡ []) × (second ≡ [])
both_none [] second none = (refl, none)
both_none (x ∷ rest) second none = absurd cc

unrefused : (test : Bool) (fault : NameFault) → fault_if test fault ≡ [] → test ≡ false
unrefused true fault none = absurd cc
unrefused false fault none = refl

-- how often a name is in a list
abbrev times : Name → List Name → ℕ
times table names = sum_by (λ name. cond (bytes_eq table name) 1 0) names

-- a name in a list without repetitions is there at most once, and not at all if it is among the
-- names before
at_most_once : (before names : List Name) (table : Name) → repeated_after before names ≡ []
    → (list_any (bytes_eq table) before ≡ true → times table names ≡ 0) × (times table names ≤ 1)
at_most_once before [] table none = (λ there. refl, omega arith)
at_most_once before (name ∷ rest) table none =
    let parts = both_none (fault_if (list_any (bytes_eq name) before) (RepeatedName name)) (repeated_after (before ++ name ∷ []) rest) none in
    let new : list_any (bytes_eq name) before ≡ false = unrefused (list_any (bytes_eq name) before) (RepeatedName name) parts.0 in
    let later = at_most_once (before ++ name ∷ []) rest table parts.1 in
    let sum : times table (name ∷ rest) ≡ cond (bytes_eq table name) 1 0 + times table rest = sum_by-cons (λ n. cond (bytes_eq table n) 1 0) name rest in
    let among : list_any (bytes_eq table) (before ++ name ∷ []) ≡ (list_any (bytes_eq table) before || bytes_eq table name) =
    any-append (bytes_eq table) before (name ∷ []) ∙ ap (λ b. list_any (bytes_eq table) before || b) (or-false (bytes_eq table name)) in
    elim (bytes_eq table name) as (λ same. bytes_eq table name ≡ same → (list_any (bytes_eq table) before ≡ true → times table (name ∷ rest) ≡ 0) × (times table (name ∷ rest) ≤ 1)) [
      | true ↦ λ same.
          let is : table ≡ name = (bytes_eq-Decides table name).0 same in
          let gone : times table rest ≡ 0 = later.0 (among ∙ ap (λ b. list_any (bytes_eq table) before || b) same ∙ or-true (list_any (bytes_eq table) before)) in
          let one : times table (name ∷ rest) ≡ 1 + times table rest = sum ∙ ap (λ (b : Bool). cond b 1 0 + times table rest) same in
          (λ there. absurd (false≢true (sym new ∙ ap (λ t. list_any (bytes_eq t) before) (sym is) ∙ there)), omega (arith, one, gone))
      | false ↦ λ other.
          let raw : times table (name ∷ rest) ≡ 0 + times table rest = sum ∙ ap (λ (b : Bool). cond b 1 0 + times table rest) other in
          let one : times table (name ∷ rest) ≡ times table rest = omega (arith, raw) in
          (λ there. one ∙ later.0 (among ∙ ap (λ b. b || bytes_eq table name) there), omega (arith, one, later.1))
    ] refl

-- sums added up element by element
sums : {A : Type 0} (f g h : A → ℕ) (members : List A) → ((member : A) → h member ≡ f member + g member) → sum_by h members ≡ sum_by f members + sum_by g members
sums f g h [] each = refl
sums f g h (first ∷ rest) each =
    omega (arith, sum_by-cons h first rest, sum_by-cons f first rest, sum_by-cons g first rest, each first, sums f g h rest each)

none : {A : Type 0} (members : List A) → sum_by (λ member. 0) members ≡ 0
none [] = refl
none (first ∷ rest) = omega (arith, sum_by-cons (λ member. 0) first rest, none rest)

-- an entry is a version of at most one of several distinct tables
of_one : (tables : List Name) (entry : Entry) → repeated_names tables ≡ [] → (version : Bool) → is_version entry.act ≡ version
    → sum_by (λ table. cond (is_version_of table entry) 1 0) tables ≤ cond version 1 0
of_one tables entry differ true is =
    rw is (at_most_once [] tables (table_changed entry.act) differ).1
of_one tables entry differ false is = rw is (omega (arith, none tables))

one_more : (table : Name) (entry : Entry) (later : History) → length (versions_of table (entry ∷ later)) ≡ cond (is_version_of table entry) 1 0 + length (versions_of table later)
one_more table entry later =
    elim (is_version_of table entry) as (λ is. length (cond is (entry ∷ versions_of table later) (versions_of table later)) ≡ cond is 1 0 + length (versions_of table later)) [
      | true ↦ omega arith
      | false ↦ omega arith
    ]

nothing : (tables : List Name) → tables_versions tables [] ≡ 0
nothing tables = none tables

-- distinct tables have no more versions in total than the history
pub tables_versions-within : (tables : List Name) (history : History) → repeated_names tables ≡ [] → tables_versions tables history ≤ versions history
tables_versions-within tables [] differ = omega (arith, nothing tables)
tables_versions-within tables (entry ∷ later) differ =
    let rest = tables_versions-within tables later differ in
    let here = of_one tables entry differ (is_version entry.act) refl in
    let parts = sums (λ table. cond (is_version_of table entry) 1 0) (λ table. length (versions_of table later)) (λ table. length (versions_of table (entry ∷ later))) tables (λ table. one_more table entry later) in
    omega (arith, rest, here, parts, sum_by-cons (λ (e : Entry). cond (is_version e.act) 1 0) entry later)
