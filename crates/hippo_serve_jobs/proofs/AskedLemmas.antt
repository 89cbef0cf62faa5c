-- The lines that a job asks for, with one more line; what it counts of an input's lines.
use Rattle.std.proofs.Common.{◌≡◌, ◌≤◌, ℕ, ◌-◌, Bool, true, false, cond, List, [], ◌∷◌, ◌++◌, length, take, drop, map, Option, refl, ap, sym, subst, ◌∙◌, arith, append_assoc}
use Rattle.std.proofs.lemmas.Bool.{le-ltb, ltb-false}
use Rattle.std.proofs.lemmas.List.{map-append, length-take}
use Rattle.std.specs.Io.BufRead.{strip_last, ends_with_byte}
use Rattle.std.specs.Prelude.{nat_lt}
use Rattle.std.specs.Str.{is_utf8}
use Rattle.hippo_values.specs.Limits.{line_limit}
use Rattle.hippo_values.specs.Texts.{Txt}
use Rattle.hippo_io.specs.Lines.{LineText, text_line, too_long_line, not_utf8_line, text_or_not, line_of, lines, pieces, carriage_return}
use Rattle.hippo_io.specs.HandingOut.{HasHandedOut}
use Rattle.hippo_io.specs.Position.{Position}
use Rattle.hippo_serve_args.specs.declared.calls.Job.{Job}
use Rattle.hippo_serve_args.specs.declared.calls.Job.TheVariants.{Run, Load, Check, Drill}
use Rattle.hippo_serve_jobs.specs.Loads.{at_line, record_line, asked_line, asked_lines, limited_line, counted_line}
use Rattle.hippo_serve_jobs.specs.Outside.{Told}
use Rattle.hippo_serve_jobs.specs.Runs.{ForInput}

-- for one more line, a job asks for one more line
pub asked-last : (job : Job) (read : List LineText) (line : LineText) → asked_lines job (read ++ line ∷ []) ≡ asked_lines job read ++ asked_line job line ∷ []
asked-last (Load setting table moment) read line = ap (λ (rest : List LineText). text_line (at_line moment) ∷ rest) (map-append (record_line table) read (line ∷ []))
asked-last (Run setting) read line = refl
asked-last Check read line = refl
asked-last (Drill size number) read line = refl

strip-short : (byte : ℕ) (piece : Txt) → length (strip_last byte piece) ≤ length piece
strip-short byte piece = at (ends_with_byte byte piece)
  where
    at : (ends : Bool) → length (cond ends (take (length piece - 1) piece) piece) ≤ length piece
    at true = omega (arith, length-take (length piece - 1) piece)
    at false = omega arith

-- the tests of a piece, as Bools
limited-text : (text : Txt) (utf8 : Bool) → nat_lt line_limit (length text) ≡ false → limited_line (cond utf8 (text_line text) not_utf8_line) ≡ cond utf8 (text_line text) not_utf8_line
limited-text text true short = ap (λ (long : Bool). cond long too_long_line (text_line text)) short
limited-text text false short = refl

limited-piece : (long : Bool) (text : Txt) → (long ≡ false → nat_lt line_limit (length text) ≡ false) → limited_line (cond long too_long_line (text_or_not text)) ≡ cond long too_long_line (text_or_not text)
limited-piece true text short = refl
limited-piece false text short = limited-text text (is_utf8 text) (short refl)

limited-line : (piece : Txt) → limited_line (line_of piece) ≡ line_of piece
limited-line piece = limited-piece (nat_lt line_limit (length piece)) (strip_last carriage_return piece)
    (λ short. le-ltb line_limit (length (strip_last carriage_return piece)) (within (ltb-false line_limit (length piece) short)))
  where
    within : length piece ≤ line_limit → length (strip_last carriage_return piece) ≤ line_limit
    within fits = omega (arith, fits, strip-short carriage_return piece)

head_is : (line other : LineText) (rest others : List LineText) → line ∷ rest ≡ other ∷ others → line ≡ other
head_is line other rest others e = cc

rest_is : (line other : LineText) (rest others : List LineText) → line ∷ rest ≡ other ∷ others → rest ≡ others
rest_is line other rest others e = cc

none_is : (line : LineText) (rest : List LineText) → [] ≡ line ∷ rest → ⊥
none_is line rest e = cc

-- each line of an input is within the limit
limited-lines : (piece : List Txt) (front : List LineText) (line : LineText) (rest : List LineText) → map line_of piece ≡ front ++ line ∷ rest → limited_line line ≡ line
limited-lines [] [] line rest e = absurd (none_is line rest e)
limited-lines [] (first ∷ front) line rest e = absurd (none_is first (front ++ line ∷ rest) e)
limited-lines (piece ∷ others) [] line rest e =
    subst (λ (l : LineText). limited_line l ≡ l) (head_is (line_of piece) line (map line_of others) rest e) (limited-line piece)
limited-lines (piece ∷ others) (first ∷ front) line rest e =
    limited-lines others front line rest (rest_is (line_of piece) first (map line_of others) (front ++ line ∷ rest) e)

counted-line : (job : Job) (line : LineText) → limited_line line ≡ line → counted_line job line ≡ line
counted-line (Load setting table moment) line limited = limited
counted-line (Run setting) line limited = refl
counted-line Check line limited = refl
counted-line (Drill size number) line limited = refl

-- a line that was read is counted as it is
pub handed_counted : (job : Job) (before : Told) (handed : List LineText) (line : LineText) (reader : Position) (left : Option Txt)
    → ForInput before (λ input. HasHandedOut input (handed ++ line ∷ []) reader left)
    → ForInput before (λ input. HasHandedOut input (handed ++ counted_line job line ∷ []) reader left)
handed_counted job before handed line reader left handing input is =
    let out : HasHandedOut input (handed ++ line ∷ []) reader left = handing input is in
    let others : List LineText = lines (reader.waiting ++ drop reader.taken input) in
    let limited : limited_line line ≡ line = limited-lines (pieces input) handed line others (out.others ∙ append_assoc handed (line ∷ []) others) in
    subst (λ (l : LineText). HasHandedOut input (handed ++ l ∷ []) reader left) (sym (counted-line job line limited)) out
