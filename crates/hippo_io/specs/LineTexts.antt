-- The line that a value of the code's type `Line` stands for.
use Rattle.std.specs.Prelude.{Option, Some, None}
use Rattle.hippo_io.specs.Lines.{LineText, text_line, too_long_line, not_utf8_line}
use Rattle.hippo_io.specs.declared.lines.Line.{Line}
use Rattle.hippo_io.specs.declared.lines.Line.TheVariants.{Text, TooLong, NotUtf8, End}

-- the line that is returned; none at the end
abbrev pub line_text : Line → Option LineText
line_text (Text line) = Some (text_line line.now)
line_text TooLong = Some too_long_line
line_text NotUtf8 = Some not_utf8_line
line_text End = None
