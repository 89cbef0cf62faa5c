-- Another character is written as it is.
use Rattle.std.proofs.Common.{rules}
use Rattle.hippo_history_page.proofs.EscapeLemmas.{character_other}
use Rattle.hippo_history_page.proofs.escaping.append_character.Goals as goal

pub returns-in_default : goal.returns-in_default
returns-in_default c =
    rw (character_other c.args.character (search rules) (search rules) (search rules) (search rules) (search rules)) c.push.ensures.ok
