-- What is written of a text is read as the text.
use Rattle.std.proofs.Common.{◌≡◌, ℕ, ◌<◌, ◌≤◌, ◌+◌, ◌==◌, nat_eq, nat_lt, true, false, [], ◌∷◌, ◌++◌, length, get_or, if◌then◌else◌, codes, encode_utf8, refl, subst, sym, ap, ◌∙◌, arith, append_assoc, append-nil}
use Rattle.std.specs.List.{list_any}
use Rattle.std.proofs.lemmas.Grind.{common_steps}
use Rattle.std.proofs.lemmas.List.Concat.{flat_map-append}
use Rattle.std.proofs.lemmas.List.Folds.{list_any-append}
use Rattle.std.proofs.lemmas.Str.{encode_ascii, inside_one}
use Rattle.hippo_values.specs.Texts.{Txt}
use Rattle.hippo_history_page.specs.Escapes.{escaped_byte, escaped, unescaped_after, unescaped, is_markup, before_tag, IsReadBack}

equal : (b n : ℕ) → (b == n) ≡ true → b ≡ n
equal b n e = grind (arith, common_steps, e)

-- a fact about each byte and how it is written
by_byte : (P : ℕ → Txt → Type 0) → P 38 (codes "&amp;") → P 60 (codes "&lt;") → P 62 (codes "&gt;") → P 34 (codes "&quot;") → P 39 (codes "&#39;")
    → ((b : ℕ) → (b == 38) ≡ false → (b == 60) ≡ false → (b == 62) ≡ false → (b == 34) ≡ false → (b == 39) ≡ false → P b (b ∷ []))
    → (b : ℕ) → P b (escaped_byte b)
by_byte P amp lt gt quot apos other b =
    elim (b == 38) as (λ v. (b == 38) ≡ v → P b (if v then codes "&amp;" else if b == 60 then codes "&lt;" else if b == 62 then codes "&gt;" else if b == 34 then codes "&quot;" else if b == 39 then codes "&#39;" else b ∷ [])) [
      | true ↦ λ e. subst (λ x. P x (codes "&amp;")) (sym (equal b 38 e)) amp
      | false ↦ λ e38. elim (b == 60) as (λ v. (b == 60) ≡ v → P b (if v then codes "&lt;" else if b == 62 then codes "&gt;" else if b == 34 then codes "&quot;" else if b == 39 then codes "&#39;" else b ∷ [])) [
        | true ↦ λ e. subst (λ x. P x (codes "&lt;")) (sym (equal b 60 e)) lt
        | false ↦ λ e60. elim (b == 62) as (λ v. (b == 62) ≡ v → P b (if v then codes "&gt;" else if b == 34 then codes "&quot;" else if b == 39 then codes "&#39;" else b ∷ [])) [
          | true ↦ λ e. subst (λ x. P x (codes "&gt;")) (sym (equal b 62 e)) gt
          | false ↦ λ e62. elim (b == 34) as (λ v. (b == 34) ≡ v → P b (if v then codes "&quot;" else if b == 39 then codes "&#39;" else b ∷ [])) [
            | true ↦ λ e. subst (λ x. P x (codes "&quot;")) (sym (equal b 34 e)) quot
            | false ↦ λ e34. elim (b == 39) as (λ v. (b == 39) ≡ v → P b (if v then codes "&#39;" else b ∷ [])) [
              | true ↦ λ e. subst (λ x. P x (codes "&#39;")) (sym (equal b 39 e)) apos
              | false ↦ λ e39. other b e38 e60 e62 e34 e39
            ] refl
          ] refl
        ] refl
      ] refl
    ] refl

flipped : (b n : ℕ) → (b == n) ≡ false → nat_eq n b ≡ false
flipped b n e = grind (arith, common_steps, e)

byte_back : (rest : Txt) (b : ℕ) → unescaped_after 0 (escaped_byte b ++ rest) ≡ b ∷ unescaped_after 0 rest
byte_back rest b = by_byte (λ b text. unescaped_after 0 (text ++ rest) ≡ b ∷ unescaped_after 0 rest) refl refl refl refl refl
    (λ b e38 e60 e62 e34 e39. rw (flipped b 38 e38, unescaped_after) refl) b

byte_plain : (b : ℕ) → list_any is_markup (escaped_byte b) ≡ false
byte_plain b = by_byte (λ b text. list_any is_markup text ≡ false) refl refl refl refl refl
    (λ b e38 e60 e62 e34 e39. rw (e60, e62, e34, e39) refl) b

byte_kept : (rest : Txt) (b : ℕ) → before_tag (escaped_byte b ++ rest) ≡ escaped_byte b ++ before_tag rest
byte_kept rest b = by_byte (λ b text. before_tag (text ++ rest) ≡ text ++ before_tag rest) refl refl refl refl refl
    (λ b e38 e60 e62 e34 e39. rw e60 refl) b

back : (text : Txt) → unescaped (escaped text) ≡ text
back [] = refl
back (b ∷ bs) = byte_back (escaped bs) b ∙ ap (λ rest. b ∷ rest) (back bs)

plain : (text : Txt) → list_any is_markup (escaped text) ≡ false
plain [] = refl
plain (b ∷ bs) = list_any-append is_markup (escaped_byte b) (escaped bs) ∙ rw (byte_plain b, plain bs) refl

kept : (text after : Txt) → before_tag (escaped text ++ 60 ∷ after) ≡ escaped text
kept [] after = refl
kept (b ∷ bs) after =
    ap before_tag (append_assoc (escaped_byte b) (escaped bs) (60 ∷ after))
    ∙ byte_kept (escaped bs ++ 60 ∷ after) b ∙ ap (λ rest. escaped_byte b ++ rest) (kept bs after)

pub read_back : (text : Txt) → IsReadBack text
read_back text = record {
  back = back text;
  plain = plain text;
  up_to_tag = λ after. ap unescaped (kept text after) ∙ back text;
}

-- what is written of a character: a byte below 128, or bytes from 128 on
high : (c : ℕ) → 128 ≤ c → (k : ℕ) → k < length (encode_utf8 c) → 128 ≤ get_or (encode_utf8 c) k 0
high c h k lt = grind (arith, inside_one c [] (encode_utf8 c) k (sym (append-nil (encode_utf8 c))) lt)

byte_other : (b : ℕ) → (b == 38) ≡ false → (b == 60) ≡ false → (b == 62) ≡ false → (b == 34) ≡ false → (b == 39) ≡ false → escaped_byte b ≡ b ∷ []
byte_other b e38 e60 e62 e34 e39 = rw (e38, e60, e62, e34, e39) refl

bytes_high : (bs : Txt) → ((k : ℕ) → k < length bs → 128 ≤ get_or bs k 0) → escaped bs ≡ bs
bytes_high [] h = refl
bytes_high (b ∷ bs) h =
    let head : 128 ≤ b = grind (arith, common_steps, h 0) in
    let tail : (k : ℕ) → k < length bs → 128 ≤ get_or bs k 0 = λ k lt. grind (arith, common_steps, h (k + 1)) in
    ap (λ front. front ++ escaped bs) (byte_other b (grind (arith, common_steps)) (grind (arith, common_steps)) (grind (arith, common_steps)) (grind (arith, common_steps)) (grind (arith, common_steps)))
    ∙ ap (λ rest. b ∷ rest) (bytes_high bs tail)

pub character_other : (c : ℕ) → (c == 38) ≡ false → (c == 60) ≡ false → (c == 62) ≡ false → (c == 34) ≡ false → (c == 39) ≡ false → escaped (encode_utf8 c) ≡ encode_utf8 c
character_other c e38 e60 e62 e34 e39 = elim (nat_lt c 128) as (λ v. nat_lt c 128 ≡ v → escaped (encode_utf8 c) ≡ encode_utf8 c) [
  | true ↦ λ e. let one = encode_ascii c (grind (arith, common_steps, e)) in rw one (ap (λ front. front ++ []) (byte_other c e38 e60 e62 e34 e39))
  | false ↦ λ e. bytes_high (encode_utf8 c) (high c (grind (arith, common_steps, e)))
] refl

-- a character is moved from what is left to what is written
pub escaped-character : (c : ℕ) (left rest out more whole : Txt) → left ≡ encode_utf8 c ++ rest → more ≡ out ++ escaped (encode_utf8 c) → out ++ escaped left ≡ whole → more ++ escaped rest ≡ whole
escaped-character c left rest out more whole parts written held =
    rw (written, append_assoc, ← flat_map-append escaped_byte (encode_utf8 c) rest, ← parts) held
