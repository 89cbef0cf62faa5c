-- Whether a side has a combination with given rows of the common tables.
use Rattle.std.proofs.Common.{◌≡◌, zero, suc, Bool, true, false, ◌&&◌, ◌||◌, List, [], ◌∷◌, map, length, refl, sym, ap, ◌∙◌, subst, Option, Some, None, unwrap_or, replicate, Result, Ok, Err, arith}
use Rattle.std.specs.Prelude.{slice_get, slice_set, is_some, IfOk}
use Rattle.std.specs.List.{list_any}
use Rattle.std.specs.Ordering.{is_eq, nat_cmp}
use Rattle.std.specs.Cmp.{eq_by_cmp_equiv}
use Rattle.std.specs.Cmp.Lexicographic.{slice_cmp}
use Rattle.std.proofs.lemmas.Bool.{and_parts, false≢true, or_right}
use Rattle.std.proofs.lemmas.Cmp.{nat_list_cmp_total}
use Rattle.std.proofs.lemmas.List.{length-set}
use Rattle.hippo_values.specs.declared.memory.Memory.{Memory}
use Rattle.hippo_model.specs.declared.audit.Audit.{Audit}
use Rattle.hippo_model.specs.declared.audit.SharedRow.{SharedRow}
use Rattle.hippo_model.specs.declared.query.Expr.{Expr}
use Rattle.hippo_model.specs.declared.query.Masked.{Masked}
use Rattle.hippo_model.specs.declared.query.CondOf.{CondOf}
use Rattle.hippo_model.specs.declared.query.Operand.{Operand}
use Rattle.hippo_values.specs.declared.values.Value.{Value}
use Rattle.hippo_model.specs.Terms.{Combination, Place}
use Rattle.hippo_tables_keyed.specs.RowSets.{KeyedRows}
use Rattle.hippo_model.specs.Conditions.{is_true, truth}
use Rattle.hippo_model.specs.Answers.{product, passes}
use Rattle.hippo_model.specs.Masking.{Choices, is_guarded, masked_passes}
use Rattle.hippo_model_laws.proofs.TruthWithChange.{agrees}
use Rattle.hippo_model.specs.MaskedTruth.{masked_value}
use Rattle.hippo_eval.specs.Unmasked.{unmasked_operand, unmasked_condition, all_shown}
use Rattle.hippo_eval.specs.Walks.{rows_of}
use Rattle.hippo_eval.proofs.UnmaskedLemmas.{value_is}
use Rattle.hippo_join_implied.specs.Implied.{query_with_implied}
use Rattle.hippo_join_implied.proofs.ImpliedLemmas.{holds-with_implied}
use Rattle.hippo_join_lookups.specs.Places.{slot_at, chosen_rows, in_range, places_of, stays, stands}
use Rattle.hippo_join_lookups.specs.Known.{is_chosen}
use Rattle.hippo_join.specs.Existence.{HasOne, Decides}
use Rattle.hippo_join_stages.specs.Finding.{has_places}
use Rattle.hippo_join_stages.proofs.ProductLemmas.{product-rows, has-places_of}
use Rattle.hippo_join_stages.proofs.FoundLemmas.{same_places}
use Rattle.hippo_join_lookups.proofs.SlotLemmas.{Fits-at, Fits-set, Fits-open, length-in_range}
use Rattle.hippo_join.proofs.ExistenceLemmas.{Fits-unset}
use Rattle.hippo_audit_search.specs.FirstPlaces.{AgreeAt, AreOpen, ShareAt, with_rows}
use Rattle.hippo_audit_search.specs.Sharing.{has_tuple_in, audit_has}

-- ---- a combination of the product that passes a test
list_any-map : {A B : Type 0} (test : B → Bool) (f : A → B) (xs : List A) → list_any test (map f xs) ≡ list_any (λ x. test (f x)) xs
list_any-map test f [] = refl
list_any-map test f (x ∷ xs) = ap (λ b. test (f x) || b) (list_any-map test f xs)

one_of : (test : List Place → Bool) (some : List (List Place)) → list_any test some ≡ true → (places : List Place) × (has_places places some ≡ true) × (test places ≡ true)
one_of test [] any = absurd (false≢true any)
one_of test (first ∷ some) any = by (test first) refl any (one_of test some)
  where
    by : (b : Bool) → test first ≡ b → (b || list_any test some) ≡ true → (list_any test some ≡ true → (places : List Place) × (has_places places some ≡ true) × (test places ≡ true))
        → (places : List Place) × (has_places places (first ∷ some) ≡ true) × (test places ≡ true)
    by true e any later = (first, ap (λ b. b || has_places first some) ((eq_by_cmp_equiv nat_list_cmp_total).refl first), e)
    by false e any later = let found = later any in (found.0, or_right (is_eq (slice_cmp nat_cmp found.0 first)) (has_places found.0 some) found.1, found.2)

any_by : (test : List Place → Bool) (some : List (List Place)) (places : List Place) → has_places places some ≡ true → test places ≡ true → list_any test some ≡ true
any_by test [] places has good = absurd (false≢true has)
any_by test (first ∷ some) places has good = by (is_eq (slice_cmp nat_cmp places first)) refl has (λ later. any_by test some places later good)
  where
    by : (b : Bool) → is_eq (slice_cmp nat_cmp places first) ≡ b → (b || has_places places some) ≡ true → (has_places places some ≡ true → list_any test some ≡ true) → (test first || list_any test some) ≡ true
    by true e has later = ap (λ b. b || list_any test some) (ap test (sym (same_places places first e)) ∙ good)
    by false e has later = or_right (test first) (list_any test some) (later has)

pub one-of-product : (sets : List KeyedRows) (test : Combination → Bool) → list_any test (product (rows_of sets)) ≡ true → (places : List Place) × (in_range sets places ≡ true) × (test (chosen_rows sets places) ≡ true)
one-of-product sets test any =
    let found = one_of (λ places. test (chosen_rows sets places)) (places_of sets) (sym (ap (list_any test) (product-rows sets) ∙ list_any-map test (chosen_rows sets) (places_of sets)) ∙ any) in
    (found.0, sym (has-places_of sets found.0) ∙ found.1, found.2)

pub any-of-product : (sets : List KeyedRows) (test : Combination → Bool) (places : List Place) → in_range sets places ≡ true → test (chosen_rows sets places) ≡ true → list_any test (product (rows_of sets)) ≡ true
any-of-product sets test places within good =
    ap (list_any test) (product-rows sets) ∙ list_any-map test (chosen_rows sets) (places_of sets)
    ∙ any_by (λ places. test (chosen_rows sets places)) (places_of sets) places (has-places_of sets places ∙ within) good

-- ---- chosen rows of the common tables
module _ (Query Audit : List (Option Place) → Type 0) where
  pub share-both : (tables others : List Place) (query audit : List (Option Place)) (given : List Place) → ShareAt Query Audit tables others query audit given
      → (length given ≡ length tables) × Query (with_rows tables given query) × Audit (with_rows others given audit)
  share-both [] [] query audit [] share = (refl, share.0, share.1)
  share-both [] [] query audit (place ∷ given) share = absurd share
  share-both [] (other ∷ others) query audit given share = absurd share
  share-both (table ∷ tables) [] query audit given share = absurd share
  share-both (table ∷ tables) (other ∷ others) query audit [] share = absurd share
  share-both (table ∷ tables) (other ∷ others) query audit (place ∷ given) share =
      let later = share-both tables others (slice_set query table (Some place)) (slice_set audit other (Some place)) given share in
      (ap suc later.0, later.1, later.2)

  pub both-share : (tables others : List Place) (query audit : List (Option Place)) (given : List Place) → length given ≡ length tables → length given ≡ length others
      → Query (with_rows tables given query) → Audit (with_rows others given audit) → ShareAt Query Audit tables others query audit given
  both-share [] [] query audit [] long same q a = (q, a)
  both-share [] [] query audit (place ∷ given) long same q a = absurd (omega arith)
  both-share [] (other ∷ others) query audit [] long same q a = absurd (omega arith)
  both-share [] (other ∷ others) query audit (place ∷ given) long same q a = absurd (omega arith)
  both-share (table ∷ tables) [] query audit [] long same q a = absurd (omega arith)
  both-share (table ∷ tables) [] query audit (place ∷ given) long same q a = absurd (omega arith)
  both-share (table ∷ tables) (other ∷ others) query audit [] long same q a = absurd (omega arith)
  both-share (table ∷ tables) (other ∷ others) query audit (place ∷ given) long same q a =
      both-share tables others (slice_set query table (Some place)) (slice_set audit other (Some place)) given (omega arith) (omega arith) q a

-- testing both sides for a combination, one side after the other
module _ (Query Audit : List (Option Place) → Type 0) (tables others : List Place) (query audit : List (Option Place)) (given : List Place) where
  abbrev Both : Type 0
  Both = ShareAt Query Audit tables others query audit given

  pub not-long : ¬ (length given ≡ length tables) → ¬ Both
  not-long wrong share = wrong (share-both Query Audit tables others query audit given share).0

  pub not-there : (slots : List (Option Place)) → slots ≡ with_rows others given audit → (has : Bool) → has ≡ false → Decides (Audit slots) (Ok has) → ¬ Both
  not-there slots is true wrong decided share = absurd (false≢true (sym wrong))
  not-there slots is false e none share = none (subst Audit (sym is) (share-both Query Audit tables others query audit given share).2)

  pub both-decided : length given ≡ length tables → length given ≡ length others → (slots other_slots : List (Option Place)) → slots ≡ with_rows tables given query → other_slots ≡ with_rows others given audit
      → (has : Bool) → has ≡ true → Decides (Audit other_slots) (Ok has) → (result : Result Bool Memory) → Decides (Query slots) result → Decides Both result
  both-decided long same slots other_slots is other_is false wrong decided result told = absurd (false≢true wrong)
  both-decided long same slots other_slots is other_is true e one (Ok true) told =
      both-share Query Audit tables others query audit given long same (subst Query is told) (subst Audit other_is one)
  both-decided long same slots other_slots is other_is true e one (Ok false) told = λ share.
      told (subst Query (sym is) (share-both Query Audit tables others query audit given share).1)
  both-decided long same slots other_slots is other_is true e one (Err fault) told = tt

pub length-with_rows : (tables given : List Place) (slots : List (Option Place)) → length (with_rows tables given slots) ≡ length slots
length-with_rows [] given slots = refl
length-with_rows (table ∷ tables) [] slots = refl
length-with_rows (table ∷ tables) (place ∷ given) slots = length-with_rows tables given (slice_set slots table (Some place)) ∙ length-set slots table (Some place)

pub set-here : (slots : List (Option Place)) (table : Place) (slot before : Option Place) → slice_get slots table ≡ Some before → slice_get (slice_set slots table slot) table ≡ Some slot
set-here [] table slot before at = absurd cc
set-here (first ∷ slots) zero slot before at = refl
set-here (first ∷ slots) (suc table) slot before at = set-here slots table slot before at

module _ (choices : Choices) (query : Masked) (seen : List Expr) (sets : List KeyedRows) where
  abbrev Has : List (Option Place) → Type 0
  Has slots = HasOne choices query seen sets slots

  pub one-agrees : (tables given : List Place) (slots : List (Option Place)) → AreOpen tables slots → length given ≡ length tables → Has (with_rows tables given slots) → (one : Has slots) × AgreeAt tables given one.places
  one-agrees [] [] slots free long one = (one, tt)
  one-agrees [] (place ∷ given) slots free long one = absurd (omega arith)
  one-agrees (table ∷ tables) [] slots free long one = absurd (omega arith)
  one-agrees (table ∷ tables) (place ∷ given) slots free long one =
      let more = slice_set slots table (Some place) in
      let later = one-agrees tables given more (free.1 place) (omega arith) one in
      let here : slot_at more table ≡ Some place = ap (λ (o : Option (Option Place)). unwrap_or o None) (set-here slots table (Some place) None free.0) in
      let unchosen : is_chosen slots table ≡ false = ap (λ (o : Option (Option Place)). is_some (unwrap_or o None)) free.0 in
      let one_less : Has slots = record { places = later.0.places; fits = Fits-unset slots later.0.places table place unchosen later.0.fits; counts = later.0.counts; shows = later.0.shows } in
      (one_less, (Fits-at more later.0.places table place later.0.fits here, later.1))

  pub agrees-one : (tables given : List Place) (slots : List (Option Place)) (one : Has slots) → AgreeAt tables given one.places → Has (with_rows tables given slots)
  agrees-one [] [] slots one agree = one
  agrees-one [] (place ∷ given) slots one agree = absurd agree
  agrees-one (table ∷ tables) [] slots one agree = absurd agree
  agrees-one (table ∷ tables) (place ∷ given) slots one agree =
      let one_more : Has (slice_set slots table (Some place)) = record { places = one.places; fits = Fits-set slots one.places table place one.fits agree.0; counts = one.counts; shows = one.shows } in
      agrees-one tables given (slice_set slots table (Some place)) one_more agree.1

  -- what counts for a query
  pub counts-parts : (places : List Place) → in_range sets places ≡ true → (is_guarded choices query (chosen_rows sets places) && masked_passes choices query (chosen_rows sets places)) ≡ true → stands choices query sets places ≡ true
  unfolding stays
  counts-parts places within counts = λ i. within i && counts i

  pub parts-counted : (places : List Place) → stands choices query sets places ≡ true → (in_range sets places ≡ true) × ((is_guarded choices query (chosen_rows sets places) && masked_passes choices query (chosen_rows sets places)) ≡ true)
  unfolding stays
  parts-counted places counts = and_parts (in_range sets places) (is_guarded choices query (chosen_rows sets places) && masked_passes choices query (chosen_rows sets places)) counts

-- an audit's condition as a query without guards
abbrev pub unmasked_query : CondOf Operand → Masked
unmasked_query condition = record { items = []; tables = []; guards = []; cond = unmasked_condition condition }

pub passes-unmasked_operand : (choices : Choices) (condition : CondOf Operand) (rows : Combination) → masked_passes choices (unmasked_query condition) rows ≡ passes condition (all_shown rows)
passes-unmasked_operand choices condition rows =
    ap is_true (agrees unmasked_operand (masked_value choices rows) condition ∙ ap (λ (value : Operand → Value). truth value condition) (λ i operand. value_is choices rows operand i))

-- the same with what the condition implies
abbrev pub implied_query : CondOf Operand → Masked
implied_query condition = query_with_implied (unmasked_query condition)

pub passes-implied_query : (choices : Choices) (condition : CondOf Operand) (rows : Combination) → masked_passes choices (implied_query condition) rows ≡ passes condition (all_shown rows)
passes-implied_query choices condition rows = holds-with_implied choices rows (unmasked_condition condition) ∙ passes-unmasked_operand choices condition rows

-- if no combination of an audit's rows counts, none has a tuple
pub audit-none : (choices : Choices) (audit : Audit) (sets : List KeyedRows) (unmasked : Masked) → unmasked ≡ implied_query audit.cond
    → (result : Result Bool Memory) → Decides (HasOne choices unmasked [] sets (replicate (length sets) None)) result
    → IfOk result (λ has. has ≡ false → (tuple : List SharedRow) → audit_has audit sets tuple ≡ false)
audit-none choices audit sets unmasked is (Ok true) one = λ wrong. absurd (false≢true (sym wrong))
audit-none choices audit sets unmasked is (Ok false) none = λ e tuple. not_so (audit_has audit sets tuple) (λ has.
    let found = one-of-product sets (λ rows. has_tuple_in audit.tables sets tuple rows && passes audit.cond (all_shown rows)) has in
    let rows : Combination = chosen_rows sets found.0 in
    let counts : masked_passes choices (implied_query audit.cond) rows ≡ true = passes-implied_query choices audit.cond rows ∙ (and_parts (has_tuple_in audit.tables sets tuple rows) (passes audit.cond (all_shown rows)) found.2).1 in
    let one : HasOne choices (implied_query audit.cond) [] sets (replicate (length sets) None) = record {
      places = found.0;
      fits = Fits-open found.0 (length sets) (length-in_range sets found.0 found.1);
      counts = counts-parts choices (implied_query audit.cond) [] sets found.0 found.1 counts;
      shows = refl;
    } in
    none (subst (λ (m : Masked). HasOne choices m [] sets (replicate (length sets) None)) (sym is) one))
  where
    not_so : (b : Bool) → ¬ (b ≡ true) → b ≡ false
    not_so true wrong = absurd (wrong refl)
    not_so false wrong = refl
audit-none choices audit sets unmasked is (Err fault) told = tt
