use Rattle.std.proofs.Common.{◌-◌, ◌∙◌}
use Rattle.hippo_values.specs.Names.{lower_case}
use Rattle.std.specs.List.{list_all}
use Rattle.std.specs.Char.{is_ascii_lowercase}
use Rattle.hippo_values.proofs.KeywordLemmas.{lookup-part}
use Rattle.hippo_values.proofs.LetterLemmas.{all-part}
use Rattle.hippo_values.proofs.keywords.find_between.Goals as goal

pub returns : goal.returns
returns c = c.find_written.ensures ∙ lookup-part (lower_case c.args.word.now) c.args.table.now c.args.start (c.args.end - c.args.start)

pub find_written-requires : goal.find_written-requires
find_written-requires c = all-part (λ e. list_all is_ascii_lowercase e.0.now) c.args.start (c.args.end - c.args.start) c.args.table.now c.requires.letters
