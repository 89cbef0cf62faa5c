-- An entry up to the bound is taken in; a later one counts for nothing.
use Rattle.std.proofs.Common.{◌∙◌, sym}
use Rattle.hippo_history_top.proofs.GatherLemmas.{ok_so}
use Rattle.hippo_history_top.proofs.GrantLemmas.{grants-past, grants-within}
use Rattle.hippo_history_top.proofs.users.Grants.add.Goals as goal

pub returns-then-is_to : goal.returns-then-is_to
returns-then-is_to c = record {
  covers = ok_so c.take_in.result
      (λ taken read so. taken ∙ grants-within c.args.last.now read c.args.entry.now c.args.self.now.list.items so (sym c.if-is_to.ensures))
      c.take_in.ensures;
}

pub returns-else-is_to : goal.returns-else-is_to
returns-else-is_to c = record {
  covers = λ read so. grants-past c.args.last.now read c.args.entry.now c.args.self.now.list.items so (sym c.if-is_to.ensures);
}
