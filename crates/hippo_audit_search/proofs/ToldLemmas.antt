-- Places in the common tables that lookups find.
use Rattle.std.proofs.Common.{◌≡◌, ℕ, ◌+◌, ◌<◌, ◌≤◌, Bool, true, false, List, [], ◌∷◌, ◌++◌, length, drop, get_or, refl, sym, ap, subst, ◌∙◌, Option, Some, None, option_map, if◌then◌else◌, replicate, arith, append_assoc, Vec, Global, Ok}
use Rattle.std.specs.Prelude.{slice_get, IfSome}
use Rattle.std.proofs.lemmas.List.{append-nil, drop_all, drop_more}
use Rattle.hippo_model.specs.declared.query.Masked.{Masked}
use Rattle.hippo_model.specs.Masking.{Choices}
use Rattle.hippo_tables_keyed.specs.RowSets.{KeyedRows}
use Rattle.hippo_model.specs.Terms.{Place}
use Rattle.hippo_join.specs.Existence.{Decides}
use Rattle.hippo_join_lookups.specs.Places.{Fits, slot_at, stands}
use Rattle.hippo_join_lookups.proofs.SlotLemmas.{Fits-at}
use Rattle.hippo_model.specs.declared.query.Expr.{Expr}
use Rattle.hippo_join_stages.specs.declared.sides.Side.{Side}
use Rattle.hippo_audit_search.specs.declared.sides.Sides.{Sides}
use Rattle.hippo_audit_search.specs.FirstPlaces.{AgreeAt, AreChosen, AreFirst, IsFirst}
use Rattle.hippo_audit_search.specs.declared.told.HowMany.{HowMany}
use Rattle.hippo_audit_search.specs.declared.told.HowMany.TheVariants.{Only, Few}
use Rattle.hippo_audit_search.specs.Searching.{HasOneOf, HaveCommon, SharedBy}
use Rattle.hippo_audit_search.specs.ToldPlaces.{AreToldOf, AreToldShared}
use Rattle.hippo_audit_search.proofs.SideLemmas.{share-both, one-agrees}

-- ---- chosen places in some tables
pub chosen-more : (slots : List (Option Place)) (tables : List Place) (i : ℕ) (place : Place) (items more : List Place) → i < length tables → slot_at slots (get_or tables i 0) ≡ Some place → more ≡ items ++ place ∷ []
    → ((others : List Place) → AreChosen slots (drop i tables) others → AreChosen slots tables (items ++ others))
    → (others : List Place) → AreChosen slots (drop (i + 1) tables) others → AreChosen slots tables (more ++ others)
chosen-more slots tables i place items more within here pushed so_far others later =
    let both : AreChosen slots (drop i tables) (place ∷ others) = subst (λ (l : List Place). AreChosen slots l (place ∷ others)) (sym (drop_more tables i 0 within)) (here, later) in
    subst (AreChosen slots tables) (sym (ap (λ (l : List Place). l ++ others) pushed ∙ append_assoc items (place ∷ []) others)) (so_far (place ∷ others) both)

pub chosen-all : (slots : List (Option Place)) (tables : List Place) (i : ℕ) (items : List Place) → length tables ≤ i → ((others : List Place) → AreChosen slots (drop i tables) others → AreChosen slots tables (items ++ others)) → AreChosen slots tables items
chosen-all slots tables i items past so_far =
    subst (AreChosen slots tables) (append-nil items) (so_far [] (subst (λ (l : List Place). AreChosen slots l []) (sym (drop_all i tables past)) tt))

-- what fits the slots has the chosen places
chosen_agree : (slots : List (Option Place)) (tables told places : List Place) → Fits slots places → AreChosen slots tables told → AgreeAt tables told places
chosen_agree slots [] [] places fits chosen = tt
chosen_agree slots [] (place ∷ told) places fits chosen = absurd chosen
chosen_agree slots (table ∷ tables) [] places fits chosen = absurd chosen
chosen_agree slots (table ∷ tables) (place ∷ told) places fits chosen = (Fits-at slots places table place fits chosen.0, chosen_agree slots tables told places fits chosen.1)

pub chosen-told : (choices : Choices) (query : Masked) (sets : List KeyedRows) (slots here : List (Option Place)) (tables : List Place) (items : Vec ℕ Global → List Place) (found : Option (Vec ℕ Global)) → ((places : List Place) → stands choices query sets places ≡ true → Fits slots places) → here ≡ slots
    → IfSome found (λ told. AreChosen here tables (items told)) → IfSome found (λ told. (places : List Place) → stands choices query sets places ≡ true → AgreeAt tables (items told) places)
chosen-told choices query sets slots here tables items None settled same chosen = tt
chosen-told choices query sets slots here tables items (Some told) settled same chosen = λ places counts.
    chosen_agree slots tables (items told) places (settled places counts) (subst (λ (s : List (Option Place)). AreChosen s tables (items told)) same chosen)

-- ---- shared places agree with those that lookups find
agree_once : (tables given told places : List Place) → AgreeAt tables given places → AgreeAt tables told places → given ≡ told
agree_once [] [] [] places a b = refl
agree_once [] [] (t ∷ told) places a b = absurd b
agree_once [] (g ∷ given) told places a b = absurd a
agree_once (table ∷ tables) [] told places a b = absurd a
agree_once (table ∷ tables) (g ∷ given) [] places a b = absurd b
agree_once (table ∷ tables) (g ∷ given) (t ∷ told) places a b =
    let same : g ≡ t = some_is (sym a.0 ∙ b.0) in
    let rest = agree_once tables given told places a.1 b.1 in
    λ i. same i ∷ rest i
  where
    some_is : {x y : Place} → Some x ≡ Some y → x ≡ y
    some_is e = cc

agreed_one : (tables given places : List Place) → length tables ≡ 1 → AgreeAt tables given places → (place : Place) × (given ≡ place ∷ []) × (slice_get places (get_or tables 0 0) ≡ Some place)
agreed_one [] given places one agree = absurd (omega (arith, one))
agreed_one (table ∷ other ∷ tables) given places one agree = absurd (omega (arith, one))
agreed_one (table ∷ []) [] places one agree = absurd agree
agreed_one (table ∷ []) (place ∷ []) places one agree = (place, (λ i. place ∷ []), agree.0)
agreed_one (table ∷ []) (place ∷ other ∷ given) places one agree = absurd agree.1

module _ {C : Type 0} (choices : C → Choices) (sides : Sides C) (common : HaveCommon sides) where
  abbrev pub query_places : List Place
  query_places = sides.common.now.query.items

  abbrev pub audit_places : List Place
  audit_places = sides.common.now.audit.items

  -- shared places are in a combination of each side
  in-query : (given : List Place) → SharedBy choices sides given
      → (one : HasOneOf choices sides.query sides.seen.now (replicate (length sides.query.sets.now) None)) × AgreeAt query_places given one.places
  in-query given share =
      let both = share-both (HasOneOf choices sides.query sides.seen.now) (HasOneOf choices sides.audit []) query_places audit_places (replicate (length sides.query.sets.now) None) (replicate (length sides.audit.sets.now) None) given share in
      one-agrees (choices sides.query.choices.now) sides.query.query.now sides.seen.now sides.query.sets.now query_places given (replicate (length sides.query.sets.now) None) common.query_open both.0 both.1

  in-audit : (given : List Place) → SharedBy choices sides given
      → (one : HasOneOf choices sides.audit [] (replicate (length sides.audit.sets.now) None)) × AgreeAt audit_places given one.places
  in-audit given share =
      let both = share-both (HasOneOf choices sides.query sides.seen.now) (HasOneOf choices sides.audit []) query_places audit_places (replicate (length sides.query.sets.now) None) (replicate (length sides.audit.sets.now) None) given share in
      one-agrees (choices sides.audit.choices.now) sides.audit.query.now [] sides.audit.sets.now audit_places given (replicate (length sides.audit.sets.now) None) common.audit_open (both.0 ∙ common.same) both.2

  -- the places that a side's lookups find are the shared ones, if these are in a combination of
  -- that side
  module _ (side : Side C) (seen : List Expr) (tables : List Place)
      (in_side : (given : List Place) → SharedBy choices sides given → (one : HasOneOf choices side seen (replicate (length side.sets.now) None)) × AgreeAt tables given one.places) where
    told_by : (how_many : HowMany) (told : List Place) → AreToldOf how_many choices side tables told → AreToldShared how_many choices sides told
    told_by Only told are = λ given share.
        let one = in_side given share in agree_once tables given told one.0.places one.1 (are one.0.places one.0.counts)
    told_by Few few are = record {
      rises = are.rises;
      all = λ given share.
          let one = in_side given share in
          let here = agreed_one tables given one.0.places are.one one.1 in
          (here.0, here.1, are.reaches one.0.places one.0.counts here.0 here.2);
    }

  pub by-query : (how_many : HowMany) (told : List Place) → AreToldOf how_many choices sides.query query_places told → AreToldShared how_many choices sides told
  by-query how_many told are = told_by sides.query sides.seen.now query_places in-query how_many told are

  pub by-either : (how_many : HowMany) (items : Vec ℕ Global → List Place) (found : Option (Vec ℕ Global)) → IfSome found (λ told. AreToldOf how_many choices sides.audit audit_places (items told)) → IfSome found (λ told. AreToldShared how_many choices sides (items told))
  by-either how_many items None told = tt
  by-either how_many items (Some places) told = told_by sides.audit [] audit_places in-audit how_many (items places) told

-- ---- the only places with which a statement is true are the first
only_first : (holds : List Place → Type 0) (told : List Place) → ((given : List Place) → holds given → given ≡ told) → holds told → AreFirst holds told
only_first holds [] only held = held
only_first holds (place ∷ told) only held = (
  only_first (λ others. holds (place ∷ others)) told (λ others h. ap rest_of (only (place ∷ others) h)) held,
  λ lower less others h. let same : lower ≡ place = ap first_of (only (lower ∷ others) h) in absurd (omega (arith, less, same)),
)
  where
    rest_of : List Place → List Place
    rest_of [] = []
    rest_of (x ∷ xs) = xs

    first_of : List Place → Place
    first_of [] = 0
    first_of (x ∷ xs) = x

pub told-first : (holds : List Place → Type 0) (items : Vec ℕ Global → List Place) (told : Vec ℕ Global) (here : List Place) (shares : Bool) (found : Option (Vec ℕ Global)) → ((given : List Place) → holds given → given ≡ items told) → here ≡ items told → Decides (holds here) (Ok shares)
    → found ≡ (if shares then Some told else None) → IsFirst holds (option_map items found)
told-first holds items told here true found only same held is =
    subst (λ (f : Option (Vec ℕ Global)). IsFirst holds (option_map items f)) (sym is) (only_first holds (items told) only (subst holds same held))
told-first holds items told here false found only same none is =
    subst (λ (f : Option (Vec ℕ Global)). IsFirst holds (option_map items f)) (sym is) (λ given held. none (subst holds (only given held ∙ sym same) held))
