-- The number of words written so far is counted, up to 255.
use Rattle.std.proofs.Common.{◌≡◌, min}
use Rattle.hippo_try_exit.proofs.say_words.Given as goal

abbrev pub invariant-loop-word : goal.invariant-loop-word
invariant-loop-word g l = l.count ≡ min 255 l.word-index
