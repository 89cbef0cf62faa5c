-- A loop over the tables of FROM.
use Rattle.std.proofs.Common.{◌≡◌, ℕ, zero, suc, ◌<◌, List, [], ◌∷◌, ◌++◌, length, Option, Some, None, option_to_list, refl, sym, ◌∙◌, arith, append_assoc}
use Rattle.std.proofs.lemmas.List.{length-map}
use Rattle.hippo_values.specs.Options.{◌>>=◌}
use Rattle.hippo_lexer.specs.declared.kinds.Token.{Token}
use Rattle.hippo_lexer.specs.declared.kinds.TokenKind.{TokenKind}
use Rattle.hippo_spj_reader.specs.declared.selects.JoinedTable.{JoinedTable}
use Rattle.hippo_spj_reader.specs.declared.selects.Sources.{Sources}
use Rattle.hippo_spj_reader.specs.ConditionGrammar.{RawCond}
use Rattle.hippo_spj_reader.specs.Front.{kinds, leading_name}
use Rattle.hippo_spj_reader.proofs.ListLoops.{append-nil}
use Rattle.hippo_spj_reader.specs.SelectFinder.{with_first_table, leading_joined, leading_all_joined, leading_sources}

abbrev Found : Type 0
Found = Option (Sources × List TokenKind)

-- these tables and conditions, followed by those found
abbrev with_front : List (List ℕ) → List RawCond → Found → Found
with_front names conditions found = found >>= λ others.
    Some (record { names = names ++ others.0.names; conditions = conditions ++ others.0.conditions }, others.1)

-- the tables and conditions so far and the rest make up all of FROM
pub record Joins (whole : Found) (names : List (List ℕ)) (conditions : List RawCond) (rest : List Token) : Type 0 where
  pub fuel : ℕ
  pub enough : length rest < fuel
  pub same : with_front names conditions (leading_all_joined fuel (kinds rest)) ≡ whole

-- the first table begins the list
pub begins : (tokens rest : List Token) (first : List ℕ) (empty names : List (List ℕ)) (conditions : List RawCond) →
    leading_name (kinds tokens) ≡ Some (first, kinds rest) → empty ≡ [] → names ≡ empty ++ first ∷ [] → conditions ≡ [] →
    Joins (leading_sources (kinds tokens)) names conditions rest
unfolding leading_sources
begins tokens rest first empty names conditions found no_names one none = record {
  fuel = suc (length (kinds rest));
  enough = omega (arith, length-map rest (λ (token : Token). token.kind));
  same = rw (found, one, no_names, none) refl;
}

pushed : (names : List (List ℕ)) (conditions : List RawCond) (table : List ℕ) (on : Option RawCond) (found : Found) →
    with_front names conditions (found >>= λ others. Some (with_first_table table on others.0, others.1)) ≡ with_front (names ++ table ∷ []) (conditions ++ option_to_list on) found
pushed names conditions table on None = refl
pushed names conditions table on (Some others) = rw (append_assoc names (table ∷ []) others.0.names, append_assoc conditions (option_to_list on) others.0.conditions) refl

goes_on_from : {whole : Found} (names : List (List ℕ)) (conditions : List RawCond) (fuel : ℕ) (rest left : List Token) (entry : JoinedTable) →
    length rest < fuel → with_front names conditions (leading_all_joined fuel (kinds rest)) ≡ whole →
    leading_joined (kinds rest) ≡ Some (Some (entry, kinds left)) → length left < length rest →
    Joins whole (names ++ entry.table ∷ []) (conditions ++ option_to_list entry.on) left
goes_on_from names conditions zero rest left entry enough same found shorter = absurd (omega arith)
goes_on_from names conditions (suc fuel) rest left entry enough same found shorter = record {
  fuel = fuel;
  enough = omega arith;
  same = sym (pushed names conditions entry.table entry.on (leading_all_joined fuel (kinds left))) ∙ rw found at same;
}

pub goes_on : {whole : Found} (names more_names : List (List ℕ)) (conditions more_conditions : List RawCond) (rest left : List Token) (entry : JoinedTable) →
    Joins whole names conditions rest →
    leading_joined (kinds rest) ≡ Some (Some (entry, kinds left)) → length left < length rest →
    more_names ≡ names ++ entry.table ∷ [] → more_conditions ≡ conditions ++ option_to_list entry.on →
    Joins whole more_names more_conditions left
goes_on names more_names conditions more_conditions rest left entry so_far found shorter names_pushed conditions_pushed =
    rw (names_pushed, conditions_pushed) (goes_on_from names conditions so_far.fuel rest left entry so_far.enough so_far.same found shorter)

ends_from : {whole : Found} (sources : Sources) (fuel : ℕ) (rest : List Token) →
    length rest < fuel → with_front sources.names sources.conditions (leading_all_joined fuel (kinds rest)) ≡ whole →
    leading_joined (kinds rest) ≡ Some None →
    whole ≡ Some (sources, kinds rest)
ends_from sources zero rest enough same none = absurd (omega arith)
ends_from sources (suc fuel) rest enough same none =
    sym same ∙ rw none (rw (append-nil sources.names, append-nil sources.conditions) refl)

-- if no table follows, the list is all of FROM
pub ends : {whole : Found} (sources : Sources) (rest : List Token) →
    Joins whole sources.names sources.conditions rest → leading_joined (kinds rest) ≡ Some None →
    whole ≡ Some (sources, kinds rest)
ends sources rest so_far none = ends_from sources so_far.fuel rest so_far.enough so_far.same none
