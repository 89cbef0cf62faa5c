-- Repeated names, one name at a time.
use Rattle.std.proofs.Common.{◌≡◌, ℕ, ◌+◌, ◌<◌, true, false, List, [], ◌∷◌, ◌++◌, map, take, drop, length, get_or, Bor, refl, sym, ap, ◌∙◌}
use Rattle.std.specs.Prelude.{bytes_eq, if◌then◌else◌}
use Rattle.std.specs.List.{list_any}
use Rattle.std.proofs.lemmas.List.{take_more}
use Rattle.hippo_values.specs.declared.names.Name.{Name}
use Rattle.hippo_model.specs.declared.name_fault.NameFault.{NameFault}
use Rattle.hippo_model.specs.declared.name_fault.NameFault.TheVariants.{RepeatedName}
use Rattle.hippo_typing_catalog.specs.Refusals.{fault_if, repeated_after, IsFirstOf}
use Rattle.hippo_typing_catalog.proofs.ListLemmas.{drop_at_get_or, list_any-lent, lent-push}
use Rattle.hippo_typing_catalog.proofs.Refused.{first_with_more}

module _ (names : List Name) (i : ℕ) (name : Name) (within : i < length names) (read : name ≡ get_or names i name) where
  -- the refusals at a name and after it
  at_name : repeated_after (take i names) (drop i names) ≡ fault_if (list_any (bytes_eq name) (take i names)) (RepeatedName name) ++ repeated_after (take (i + 1) names) (drop (i + 1) names)
  at_name =
      let more : take i names ++ name ∷ [] ≡ take (i + 1) names = sym (take_more names i name within ∙ ap (λ x. take i names ++ x ∷ []) (sym read)) in
      ap (repeated_after (take i names)) (drop_at_get_or names i name within read)
      ∙ ap (λ front. fault_if (list_any (bytes_eq name) (take i names)) (RepeatedName name) ++ repeated_after front (drop (i + 1) names)) more

  pub repeated_here : list_any (bytes_eq name) (take i names) ≡ true → (fault : NameFault) → IsFirstOf (RepeatedName name ∷ []) fault → IsFirstOf (repeated_after (take i names) (drop i names)) fault
  repeated_here there fault first = rw (at_name, there) (first_with_more (RepeatedName name ∷ []) (repeated_after (take (i + 1) names) (drop (i + 1) names)) fault first)

  pub not_repeated_here : list_any (bytes_eq name) (take i names) ≡ false → repeated_after (take i names) (drop i names) ≡ repeated_after (take (i + 1) names) (drop (i + 1) names)
  not_repeated_here absent = rw (at_name, absent) refl

  module _ (before : List (Bor Name)) (kept : map (λ (key : Bor Name). key.now) before ≡ take i names) where
    stands_before : list_any (bytes_eq name) (take i names) ≡ list_any (λ (key : Bor Name). bytes_eq name key.now) before
    stands_before = ap (list_any (bytes_eq name)) (sym kept) ∙ list_any-lent (bytes_eq name) before

    pub repeated : list_any (λ (key : Bor Name). bytes_eq name key.now) before ≡ true → (fault : NameFault) → IsFirstOf (RepeatedName name ∷ []) fault → IsFirstOf (repeated_after (take i names) (drop i names)) fault
    repeated there fault first =
        rw (at_name, stands_before, there) (first_with_more (RepeatedName name ∷ []) (repeated_after (take (i + 1) names) (drop (i + 1) names)) fault first)

    pub not_repeated : list_any (λ (key : Bor Name). bytes_eq name key.now) before ≡ false → repeated_after (take i names) (drop i names) ≡ repeated_after (take (i + 1) names) (drop (i + 1) names)
    not_repeated absent = rw (at_name, stands_before, absent) refl

    pub kept_more : (after : List (Bor Name)) (loan : Bor Name) → list_any (λ (key : Bor Name). bytes_eq name key.now) before ≡ false → loan.now ≡ name → after ≡ (if list_any (λ (key : Bor Name). bytes_eq name key.now) before then before else before ++ loan ∷ []) → map (λ (key : Bor Name). key.now) after ≡ take (i + 1) names
    kept_more after loan absent lent put =
        let pushed : after ≡ before ++ loan ∷ [] = put ∙ ap (λ t. if t then before else before ++ loan ∷ []) absent in
        ap (map (λ (key : Bor Name). key.now)) pushed ∙ lent-push before loan ∙ ap (λ front. front ++ loan.now ∷ []) kept ∙ ap (λ x. take i names ++ x ∷ []) (lent ∙ read) ∙ sym (take_more names i name within)
