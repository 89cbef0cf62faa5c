-- Writes, one after another.
use Rattle.std.proofs.Common.{◌≡◌, ◌≢◌, ℕ, [], ◌++◌, length, take, Option, Some, ap, sym, refl, ◌∙◌}
use Rattle.std.proofs.lemmas.List.{append-nil, take_at}
use Rattle.hippo_values.specs.Texts.{Txt}
use Rattle.hippo_io.specs.Told.{Appends, AppendsFront}
use Rattle.hippo_program_args.specs.declared.endings.Ending.{Ending}
use Rattle.hippo_program_args.specs.declared.endings.Ending.TheVariants.{WriteFault}
use Rattle.hippo_history_top.specs.Saying.{CountsWrites}

-- nothing is written
pub none_written : (told : Option Txt) → Appends told told []
none_written told bytes is = is ∙ ap Some (sym (append-nil bytes))

-- nothing of some bytes is written
pub none_of : (told : Option Txt) (bytes : Txt) → AppendsFront told told bytes
none_of told bytes = (0, none_written told)

whole_take : (bytes : Txt) → take (length bytes) bytes ≡ bytes
whole_take bytes = sym (ap (take (length bytes)) (append-nil bytes)) ∙ take_at bytes [] (length bytes) refl

-- a whole text is a prefix of itself
pub whole_front : (old new : Option Txt) (bytes : Txt) → Appends old new bytes → AppendsFront old new bytes
whole_front old new bytes whole = (length bytes, λ told is. whole told is ∙ ap (λ (piece : Txt). Some (told ++ piece)) (sym (whole_take bytes)))

-- a count that does not change
pub CountsWrites-same : (result : Option Ending) (faults : ℕ) → result ≢ Some WriteFault → CountsWrites result faults faults
CountsWrites-same result faults other = record { cause = λ is. absurd (other is); unfailed = λ unfailed. refl }
