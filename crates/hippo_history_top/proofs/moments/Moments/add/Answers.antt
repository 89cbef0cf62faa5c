-- One moment more.
use Rattle.std.proofs.Common.{◌∙◌, ◌++◌, ◌∷◌, [], List, ap, sym}
use Rattle.hippo_values.specs.declared.moments.Moment.{Moment}
use Rattle.hippo_history_top.proofs.GatherLemmas.{ok_so}
use Rattle.hippo_history_top.proofs.MomentLemmas.{one_moment_more}
use Rattle.hippo_history_top.proofs.moments.Moments.add.Goals as goal

pub returns : goal.returns
returns c = record {
  covers = ok_so c.push.result
      (λ added read so. added ∙ ap (λ (l : List Moment). l ++ c.args.entry.now.moment ∷ []) so ∙ sym (one_moment_more read c.args.entry.now))
      c.push.ensures.ok;
}
