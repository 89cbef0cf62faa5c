-- The rows of a search are the same on both sides, and those of the history.
use Rattle.std.proofs.Common.{◌≡◌, ◌∙◌, sym, ap, refl, subst, ℤ, zero, suc, Bool, true, false, cond, List, [], ◌∷◌, map, length, get_or, Option, Some}
use Rattle.std.specs.Prelude.{is_some, slice_get, bytes_eq}
use Rattle.std.specs.List.{AllByRecursion, IsDistinct, list_any}
use Rattle.std.specs.Option.{option_map_or}
use Rattle.std.proofs.lemmas.List.{get_or-map}
use Rattle.std.proofs.lemmas.List.Elements.{All-from_recursion}
use Rattle.std.proofs.lemmas.Option.{none-some, same_Some}
use Rattle.hippo_values.specs.declared.names.Name.{Name}
use Rattle.hippo_model.specs.declared.audit.Audit.{Audit}
use Rattle.hippo_model.specs.declared.audit.SharedRow.{SharedRow}
use Rattle.hippo_model.specs.declared.query.Query.{Query}
use Rattle.hippo_model.specs.declared.query.Ref.{Ref}
use Rattle.hippo_model.specs.declared.schema.Schema.{Schema}
use Rattle.hippo_model.specs.Histories.{schema_at}
use Rattle.hippo_model.specs.Masking.{Choices}
use Rattle.hippo_model.specs.Rules.{choice_at}
use Rattle.hippo_model.specs.Terms.{History, Place}
use Rattle.hippo_tables_keyed.specs.RowSets.{KeyedRows, kept_at}
use Rattle.hippo_typing.specs.Meanings.{meaning}
use Rattle.hippo_audit_common.specs.Commons.{common_tables, place_in}
use Rattle.hippo_audit_search.specs.Sharing.{HaveSameRows, rows_named}
use Rattle.hippo_audit_search.specs.HistoryLaws.{sets_at}
use Rattle.hippo_audit_search.proofs.CommonLemmas.{same_as_itself}
use Rattle.hippo_audit_needs.specs.Examining.{AreOfHistory, ServesFirst}
use Rattle.hippo_audit_needs.specs.Seen.{IsCommon}
use Rattle.hippo_history_uses.specs.declared.searching.Search.{Search}
use Rattle.hippo_history_uses.specs.Accesses.{asker_context}
use Rattle.hippo_history_uses.specs.Asking.{asker_of, front_of}
use Rattle.hippo_history_uses.specs.Searching.{IsSearchOf, IsAlone, SharesThen, table_there}

abbrev no_set : KeyedRows
no_set = record { key = []; rows = [] }

pub got : {A : Type 0} (members : List A) (place : Place) (member default : A) → slice_get members place ≡ Some member → get_or members place default ≡ member
got [] place member default at = absurd (none-some member at)
got (first ∷ rest) zero member default at = same_Some first member at
got (first ∷ rest) (suc place) member default at = got rest place member default at

map_two : {A B C : Type 0} (f : A → B) (g : B → C) (members : List A) → map g (map f members) ≡ map (λ member. g (f member)) members
map_two f g [] = refl
map_two f g (first ∷ rest) = λ i. g (f first) ∷ map_two f g rest i

pub one_distinct : (table : Name) → IsDistinct bytes_eq (table ∷ [])
unfolding IsDistinct
one_distinct table = (tt, tt)

-- a table alone has the rows that it has in a longer list
module _ (tables : List Name) (sets : List KeyedRows) (place : Place) (table : Name) (set : KeyedRows) (first : place_in tables table ≡ place) (at : slice_get sets place ≡ Some set) where
  abbrev IsSame : Name → Type 0
  IsSame name = rows_named tables sets name ≡ rows_named (table ∷ []) (set ∷ []) name

  named_alone : rows_named (table ∷ []) (set ∷ []) table ≡ set
  named_alone = rw (same_as_itself table) refl

  this_same : IsSame table
  this_same = ap (λ p. get_or sets p no_set) first ∙ got sets place set no_set at ∙ sym named_alone

  pub same_here : HaveSameRows tables sets (table ∷ []) (set ∷ [])
  same_here = All-from_recursion IsSame (common_tables tables (table ∷ [])) (by (list_any (bytes_eq table) tables))
    where
      by : (among : Bool) → AllByRecursion IsSame (cond among (table ∷ []) [])
      by true = (this_same, tt)
      by false = tt

abbrev set_by : History → Option Schema → KeyedRows
set_by history found = option_map_or (λ (schema : Schema). kept_at schema history) found no_set

pub sets_are : (history : History) (names : List Name) (schemas : List Schema) → map (schema_at history) names ≡ map Some schemas → map (λ schema. kept_at schema history) schemas ≡ sets_at history names
sets_are history names schemas is =
    sym (map_two Some (set_by history) schemas) ∙ ap (map (set_by history)) (sym is) ∙ map_two (schema_at history) (set_by history) names

module _ (search : Search) (place : Place) (audit : Audit) (alone : IsAlone search place audit) (set : KeyedRows) (at : slice_get search.lent.sets place ≡ Some set) where
  abbrev query : Query
  query = search.asked.now.query.now

  alone_same : HaveSameRows query.tables search.lent.sets audit.tables (set ∷ [])
  alone_same =
      subst (λ (tables : List Name). HaveSameRows query.tables search.lent.sets tables (set ∷ [])) (sym alone.tables)
      (same_here query.tables search.lent.sets place (table_there search place) set alone.seat.first at)

  pub same_rows : (sets : List KeyedRows) → sets ≡ set ∷ [] → HaveSameRows query.tables search.lent.sets audit.tables sets
  same_rows sets is = subst (λ (s : List KeyedRows). HaveSameRows query.tables search.lent.sets audit.tables s) (sym is) alone_same

  pub distinct : IsDistinct bytes_eq audit.tables
  distinct = subst (λ (tables : List Name). IsDistinct bytes_eq tables) (sym alone.tables) (one_distinct (table_there search place))

  pub one_set : (sets : List KeyedRows) → sets ≡ set ∷ [] → length sets ≡ length audit.tables
  one_set sets is = ap (λ (s : List KeyedRows). length s) is ∙ sym (ap (λ (tables : List Name). length tables) alone.tables)

  module _ (history : History) (its : IsSearchOf search history) where
    abbrev front : History
    front = front_of search.asked.now history

    set_is : set ≡ set_by front (schema_at front (table_there search place))
    set_is =
        sym (got search.lent.sets place set no_set at)
        ∙ ap (λ (sets : List KeyedRows). get_or sets place no_set) (its.tables.sets ∙ sets_are front query.tables search.lent.schemas its.tables.schemas)
        ∙ get_or-map (λ (name : Name). set_by front (schema_at front name)) query.tables place [] no_set alone.seat.within

    pub are_of : (sets : List KeyedRows) → sets ≡ set ∷ [] → (choices : Choices) → ((subject : ℤ) (item : Name) → choices subject item ≡ choice_at front subject item) → AreOfHistory meaning front (asker_context (asker_of search.asked.now)) query audit search.rules search.lent.sets sets choices
    are_of sets is choices choices_are = record {
      schemas = search.lent.schemas;
      tables = record { valid = its.valid; schemas_are = its.tables.schemas };
      columns = subst (λ (columns : List Ref). AllByRecursion (IsCommon front query audit) columns) (sym alone.columns) tt;
      rules_are = its.rules_are;
      query_rows = its.tables.sets ∙ sets_are front query.tables search.lent.schemas its.tables.schemas;
      audit_rows = is ∙ (λ i. set_is i ∷ []) ∙ sym (ap (sets_at front) alone.tables);
      choices_are = λ i subject item. choices_are subject item i;
    }

  -- the tuple that is found says whether one is shared
  pub shares_found : (sets : List KeyedRows) → sets ≡ set ∷ [] → (choices : Choices) (found : Option (List SharedRow))
      → ((history : History) → IsSearchOf search history → (subject : ℤ) (item : Name) → choices subject item ≡ choice_at (front_of search.asked.now history) subject item)
      → ServesFirst query audit search.rules search.lent.sets sets choices found → SharesThen search audit (is_some found)
  shares_found sets is choices found choices_are serves = λ history its.
      ap is_some (serves meaning (front_of search.asked.now history) (asker_context (asker_of search.asked.now)) (are_of history its sets is choices (choices_are history its)))
