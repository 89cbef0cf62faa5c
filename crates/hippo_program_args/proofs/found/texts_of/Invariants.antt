use Rattle.std.proofs.Common.{◌≡◌, map, take}
use Rattle.hippo_program_args.proofs.found.texts_of.Given as goal

abbrev pub invariant-loop-word : goal.invariant-loop-word
invariant-loop-word l = map (λ text. text.now) l.texts.items ≡ take l.word-index l.words
