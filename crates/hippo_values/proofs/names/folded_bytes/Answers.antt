use Rattle.std.proofs.Common.{◌≡◌, rules}
use Rattle.hippo_values.proofs.NamesLemmas.{folded_front}
use Rattle.hippo_values.proofs.names.folded_bytes.Goals as goal

pub returns-clause-front : goal.returns-clause-front
returns-clause-front c =
    let copied : c.copy_from_slice.new.self ≡ c.args.word.now = search rules in
    folded_front c.args.word.now c.copy_from_slice.new.self _ c.make_ascii_lowercase.new.self _ c.eights_above.result copied c.make_ascii_lowercase.ensures.after c.eights_above.ensures.0
