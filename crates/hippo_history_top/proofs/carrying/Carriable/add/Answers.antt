-- The entry is kept if it may be left, and nothing changes if not.
use Rattle.std.proofs.Common.{◌∙◌, ◌++◌, ◌∷◌, [], List, ap, sym}
use Rattle.hippo_model.specs.declared.entry.Entry.{Entry}
use Rattle.hippo_history_top.proofs.CarryLemmas.{carriable_kept, carriable_left_out}
use Rattle.hippo_history_top.proofs.GatherLemmas.{ok_so}
use Rattle.hippo_history_top.proofs.carrying.Carriable.add.Goals as goal

pub returns-then-is_carriable : goal.returns-then-is_carriable
returns-then-is_carriable c = record {
  covers = ok_so c.push.result
      (λ pushed read so. pushed ∙ ap (λ (list : List Entry). list ++ c.args.entry.now ∷ []) so ∙ sym (carriable_kept read c.args.entry.now (sym c.if-is_carriable.ensures)))
      c.push.ensures;
}

pub returns-else-is_carriable : goal.returns-else-is_carriable
returns-else-is_carriable c = record {
  covers = λ read so. so ∙ sym (carriable_left_out read c.args.entry.now (sym c.if-is_carriable.ensures));
}
