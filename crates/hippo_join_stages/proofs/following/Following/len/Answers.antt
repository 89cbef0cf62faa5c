-- A span has as many places as its bounds say.
use Rattle.std.proofs.Common.{◌-◌, length, sym, ap, ◌∙◌}
use Rattle.std.proofs.lemmas.List.FromFn.{length-range_with_len}
use Rattle.hippo_join_stages.specs.declared.following.Following.{Following}
use Rattle.hippo_join_stages.specs.Walking.{candidate_places}
use Rattle.hippo_join_stages.proofs.following.Following.len.Goals as goal

pub returns-in-Searched : goal.returns-in-Searched
returns-in-Searched c =
    let span = c.in-Searched.span in
    c.len.ensures ∙ sym (length-range_with_len span.start (span.end - span.start)) ∙ sym (ap (λ (f : Following). length (candidate_places f)) c.in-Searched.is)
