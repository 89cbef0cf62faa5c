-- Each access is by a logged query of the stretch that is asked for.
use Rattle.std.proofs.Common.{◌≡◌, refl, ℤ, suc, Bool, true, false, cond, List, [], ◌∷◌, ◌++◌, map, filter, Option, None, Some}
use Rattle.std.specs.Prelude.{slice_get, flat_map}
use Rattle.std.specs.List.{AllByRecursion}
use Rattle.std.specs.Option.{option_map_or}
use Rattle.hippo_values.specs.Texts.{Txt}
use Rattle.hippo_values.specs.declared.names.Name.{Name}
use Rattle.hippo_model.specs.declared.entry.Act.{Act}
use Rattle.hippo_model.specs.declared.entry.Act.TheVariants.{Asked}
use Rattle.hippo_model.specs.declared.entry.Entry.{Entry}
use Rattle.hippo_model.specs.declared.query.Query.{Query}
use Rattle.hippo_model.specs.Histories.{before_entry, schema_at}
use Rattle.hippo_model.specs.Terms.{History, Place}
use Rattle.hippo_typing.specs.Meanings.{meaning}
use Rattle.hippo_history_formats.specs.declared.access.Access.{Access}
use Rattle.hippo_history_uses.specs.Accesses.{Asker, access_to, asker_context, table_accesses, query_accesses, act_accesses, entry_accesses, accesses_in}
use Rattle.hippo_history_uses.specs.UseLaws.{IsByQuestion, AccessesAreByQuestions}
use Rattle.hippo_history_uses.specs.Uses.{used_rows}

pub all_append : {B : Type 0} (Holds : B → Type 0) (first rest : List B) → AllByRecursion Holds first → AllByRecursion Holds rest → AllByRecursion Holds (first ++ rest)
all_append Holds [] rest one other = other
all_append Holds (member ∷ first) rest one other = (one.0, all_append Holds first rest one.1 other)

module _ {A B : Type 0} (Holds : B → Type 0) where
  pub all_map : (f : A → B) → ((member : A) → Holds (f member)) → (members : List A) → AllByRecursion Holds (map f members)
  all_map f each [] = tt
  all_map f each (member ∷ members) = (each member, all_map f each members)

  pub all_flat : (f : A → List B) → ((member : A) → AllByRecursion Holds (f member)) → (members : List A) → AllByRecursion Holds (flat_map f members)
  all_flat f each [] = tt
  all_flat f each (member ∷ members) = all_append Holds (f member) (flat_map f members) (each member) (all_flat f each members)

  pub all_option : (f : A → List B) → ((member : A) → AllByRecursion Holds (f member)) → (found : Option A) → AllByRecursion Holds (option_map_or f found [])
  all_option f each None = tt
  all_option f each (Some member) = each member

module _ (patient : ℤ) (test : Entry → Bool) (history : History) where
  abbrev Of : Access → Type 0
  Of = IsByQuestion test history

  module _ (place : Place) (entry : Entry) (stands : slice_get history place ≡ Some entry) (counts : test entry ≡ true) where
    asked : (front : History) (user purpose recipient : Name) (text : Txt) → entry.act ≡ Asked user purpose recipient text → AllByRecursion Of (act_accesses front entry.seq entry.moment patient (Asked user purpose recipient text))
    asked front user purpose recipient text act_is =
        let asker : Asker = record { entry = entry.seq; moment = entry.moment; user = user; purpose = purpose; recipient = recipient } in
        let of : (query : Query) → AllByRecursion Of (query_accesses front asker patient query) =
        λ query. all_flat Of (λ table. option_map_or (table_accesses front asker query patient) (schema_at front table) [])
        (λ table. all_option Of (table_accesses front asker query patient)
        (λ schema. all_map Of (access_to front asker query schema)
        (λ kept. record {
          place = place;
          entry = entry;
          text = text;
          stands = stands;
          counts = counts;
          act_is = act_is;
          number_is = refl;
          moment_is = refl;
        }) (used_rows front (asker_context asker) query patient schema)) (schema_at front table)) query.tables in
        all_option Of (query_accesses front asker patient) of (meaning front text)

    of_act : (front : History) (act : Act) → entry.act ≡ act → AllByRecursion Of (act_accesses front entry.seq entry.moment patient act)
    of_act front (Asked user purpose recipient text) act_is = asked front user purpose recipient text act_is
    of_act front act act_is = tt

  record Stands (entry : Entry) : Type 0 where
    at : Place
    there : slice_get history at ≡ Some entry

  in_part : (part : History) → ((place : Place) (entry : Entry) → slice_get part place ≡ Some entry → Stands entry) → AllByRecursion Of (accesses_in patient test history part)
  in_part [] within = tt
  in_part (entry ∷ part) within =
      let rest = in_part part (λ place entry there. within (suc place) entry there) in
      let here = within 0 entry refl in
      elim (test entry) as (λ b. test entry ≡ b → AllByRecursion Of (flat_map (entry_accesses history patient) (cond b (entry ∷ filter test part) (filter test part)))) [
        | true ↦ λ counts. all_append Of (entry_accesses history patient entry) (accesses_in patient test history part)
            (of_act here.at entry here.there counts (before_entry entry history) entry.act refl) rest
        | false ↦ λ counts. rest
      ] refl

pub by_questions : AccessesAreByQuestions
by_questions patient test history = in_part patient test history history (λ place entry there. record { at = place; there = there })
