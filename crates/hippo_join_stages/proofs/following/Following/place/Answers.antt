-- The place at an index, for a list and for a span.
use Rattle.std.proofs.Common.{◌<◌, ◌-◌, length, get_or, subst, sym, ap, ◌∙◌}
use Rattle.std.proofs.lemmas.List.FromFn.{get_or-range_with_len, length-range_with_len}
use Rattle.std.proofs.lemmas.Option.{unwrap_or-slice_get}
use Rattle.hippo_join_stages.specs.declared.following.Following.{Following}
use Rattle.hippo_join_stages.specs.Walking.{candidate_places}
use Rattle.hippo_join_stages.proofs.following.Following.place.Goals as goal

pub returns-in-Listed : goal.returns-in-Listed
returns-in-Listed c =
    c.place_at.ensures ∙ unwrap_or-slice_get c.in-Listed.places.now c.args.index 0 ∙ sym (ap (λ (f : Following). get_or (candidate_places f) c.args.index 0) c.in-Listed.is)

pub place_in-requires : goal.place_in-requires
place_in-requires c =
    let within = subst (λ (f : Following). c.args.index < length (candidate_places f)) c.in-Searched.is c.requires in
    simp length-range_with_len at within

pub returns-in-Searched : goal.returns-in-Searched
returns-in-Searched c =
    let span = c.in-Searched.span in
    let among = subst (λ (f : Following). c.args.index < length (candidate_places f)) c.in-Searched.is c.requires in
    let within : c.args.index < span.end - span.start = simp length-range_with_len at among in
    c.place_in.ensures ∙ sym (get_or-range_with_len span.start (span.end - span.start) c.args.index 0 within) ∙ sym (ap (λ (f : Following). get_or (candidate_places f) c.args.index 0) c.in-Searched.is)
