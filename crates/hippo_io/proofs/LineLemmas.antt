-- The line of a piece, and how an input is split.
use Rattle.std.proofs.Common.{◌≡◌, ℕ, ◌<◌, ◌≤◌, false, cond, List, length, sym, ap, ◌∙◌, inl, inr}
use Rattle.std.proofs.lemmas.Bool.{le-ltb, lt-ltb, cases_Bool}
use Rattle.std.proofs.lemmas.Str.{IsUtf8-from_is_utf8, is_utf8-from_IsUtf8}
use Rattle.std.specs.Prelude.{IsUtf8}
use Rattle.std.specs.Str.{is_utf8}
use Rattle.std.specs.Io.BufRead.{strip_last}
use Rattle.hippo_values.specs.Limits.{line_limit}
use Rattle.hippo_io.specs.Lines.{text_line, too_long_line, not_utf8_line, carriage_return, line_of, text_or_not}

line_of-short : (piece : List ℕ) → length piece ≤ line_limit → line_of piece ≡ text_or_not (strip_last carriage_return piece)
line_of-short piece short = ap (λ b. cond b too_long_line (text_or_not (strip_last carriage_return piece))) (le-ltb line_limit (length piece) short)

pub line_of-long : (piece : List ℕ) → line_limit < length piece → line_of piece ≡ too_long_line
line_of-long piece long = ap (λ b. cond b too_long_line (text_or_not (strip_last carriage_return piece))) (lt-ltb line_limit (length piece) long)

pub line_of-text : (piece bytes : List ℕ) → length piece ≤ line_limit → bytes ≡ strip_last carriage_return piece → IsUtf8 bytes → line_of piece ≡ text_line bytes
line_of-text piece bytes short same utf8 =
    line_of-short piece short ∙ ap text_or_not (sym same) ∙ ap (λ b. cond b (text_line bytes) not_utf8_line) (is_utf8-from_IsUtf8 bytes utf8)

no_test : (bytes : List ℕ) → (IsUtf8 bytes → ⊥) → is_utf8 bytes ≡ false
no_test bytes broken =
    elim (cases_Bool (is_utf8 bytes)) [ inl yes_utf8 ↦ absurd (broken (IsUtf8-from_is_utf8 bytes yes_utf8)) | inr e ↦ e ]

pub line_of-not_utf8 : (piece bytes : List ℕ) → length piece ≤ line_limit → bytes ≡ strip_last carriage_return piece → (IsUtf8 bytes → ⊥) → line_of piece ≡ not_utf8_line
line_of-not_utf8 piece bytes short same broken =
    line_of-short piece short ∙ ap text_or_not (sym same) ∙ ap (λ b. cond b (text_line bytes) not_utf8_line) (no_test bytes broken)
