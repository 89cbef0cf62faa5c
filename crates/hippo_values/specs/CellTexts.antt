-- Where the bytes of a cell's text are stored.
use Rattle.std.specs.Prelude.{ℕ, List}
use Rattle.std.specs.Rc.{rc_str_bytes}
use Rattle.hippo_values.specs.declared.cell_texts.Held.{Held}
use Rattle.hippo_values.specs.declared.cell_texts.Held.TheVariants as held

-- the bytes of a stored text
abbrev pub held_text : Held → List ℕ
held_text (held.Short text) = text
held_text (held.Long text) = rc_str_bytes text
