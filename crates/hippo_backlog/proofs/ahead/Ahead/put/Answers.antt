-- There are at most as many versions as numbers that are read.
use Rattle.std.proofs.Common.{◌∙◌, sym, ap, subst, arith}
use Rattle.hippo_keeper.specs.Keeping.{Store, RisesAbove}
use Rattle.hippo_keeper.specs.Selecting.{stored_versions}
use Rattle.hippo_backlog.specs.ReadingAhead.{ReadAhead, reached_by}
use Rattle.hippo_backlog.proofs.AheadLemmas.{handed_within}
use Rattle.hippo_backlog.proofs.ahead.Ahead.put.Goals as goal

pub overflow_add-self : goal.overflow_add-self
overflow_add-self c =
    let within = handed_within c.args.max c.args.end c.self.inside.handed c.self.inside.reached c.args.piece c.self.invariant.1 (subst (λ (a : ReadAhead). RisesAbove a.reached c.args.piece) (sym c.self.view_is) c.requires.order)
    c.versions_among.result c.reached_by-reached.result (c.versions_among.ensures.count ∙ ap stored_versions c.as_slice-2.ensures) (c.reached_by-reached.ensures ∙ ap (λ (s : Store). reached_by c.args.max c.args.end s c.self.inside.reached) c.as_slice.ensures) in
    omega (arith, within, c.reached_by-reached.type_inv)

pub invariant_of-self : goal.invariant_of-self
invariant_of-self c =
    let within = handed_within c.args.max c.args.end c.self.inside.handed c.self.inside.reached c.args.piece c.self.invariant.1 (subst (λ (a : ReadAhead). RisesAbove a.reached c.args.piece) (sym c.self.view_is) c.requires.order)
    c.versions_among.result c.reached_by-reached.result (c.versions_among.ensures.count ∙ ap stored_versions c.as_slice-2.ensures) (c.reached_by-reached.ensures ∙ ap (λ (s : Store). reached_by c.args.max c.args.end s c.self.inside.reached) c.as_slice.ensures) in
    (omega arith, within)
