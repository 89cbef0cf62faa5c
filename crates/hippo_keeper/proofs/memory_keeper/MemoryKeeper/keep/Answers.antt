-- The new number is above the last one.
use Rattle.std.proofs.Common.{◌≡◌, ◌∙◌, ◌+◌, ◌++◌, ◌∷◌, [], ap, subst, sym, arith}
use Rattle.hippo_keeper.specs.Keeping.{RisesAbove, last_number}
use Rattle.hippo_keeper.proofs.RisingLemmas.{RisesAbove-append}
use Rattle.hippo_keeper.proofs.memory_keeper.MemoryKeeper.keep.Goals as goal

pub invariant_of-self-2 : goal.invariant_of-self-2
invariant_of-self-2 c =
    let kept = c.self.inside.kept in
    let longer : c.push.new.self ≡ kept ++ c.args.entry ∷ [] = c.in_ok-push.ensures.ok in
    let next : c.args.entry.seq ≡ last_number 0 kept + 1 = c.requires ∙ sym (ap (λ store. last_number 0 store.kept + 1) c.self.view_is) in
    subst (λ list. RisesAbove 0 list) (sym longer) (RisesAbove-append 0 kept c.args.entry c.self.invariant (omega arith))
