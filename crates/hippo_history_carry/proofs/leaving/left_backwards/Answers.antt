-- One more entry is looked at, before the others.
use Rattle.std.proofs.Common.{◌≡◌, ◌∙◌, ◌++◌, ◌-◌, length, drop, reverse, sym, subst, ap}
use Rattle.hippo_model.specs.Terms.{History}
use Rattle.hippo_history_carry.specs.Carrying.{entry_left, entries_left}
use Rattle.hippo_history_carry.specs.Decisions.{IsDecidedBy}
use Rattle.hippo_history_carry.proofs.LeaveLemmas.{none_yet, one_more_entry, all_of_them}
use Rattle.hippo_history_carry.proofs.leaving.left_backwards.Goals as goal

pub loop-place-init : goal.loop-place-init
loop-place-init c history stands =
    let none = sym (none_yet c.args.entries.now) in (
      subst (λ (later : History). reverse c.new-left.result.items ≡ entries_left history later) none (ap reverse c.new-left.ensures.items),
      subst (λ (later : History). IsDecidedBy history c.new-decided.result later) none (c.new-decided.ensures history),
    )

pub loop-place-preserved : goal.loop-place-preserved
loop-place-preserved c history stands =
    let later : History = drop (length c.args.entries.now - c.loop-place.place) c.args.entries.now in
    let so_far = c.loop-place.invariant history stands in
    let more = sym (one_more_entry c.args.entries.now c.loop-place.place c.index-entries-entries.result c.loop-place-test.true c.index-entries-entries.is) in (
      subst (λ (entries : History). reverse c.add_left.new.left.items ≡ entries_left history entries) more
          (c.in_ok-add_left.ensures.left history later stands so_far.1 ∙ ap (λ (l : History). entry_left history later c.index-entries-entries.result ++ l) so_far.0),
      subst (λ (entries : History). IsDecidedBy history c.add_left.new.decided entries) more (c.in_ok-add_left.ensures.decides history later stands so_far.1),
    )

pub returns : goal.returns
returns c = record {
  left = λ history stands. (c.loop-place.invariant history stands).0 ∙ ap (entries_left history) (all_of_them c.args.entries.now c.loop-place.place c.loop-place-test.false);
}
