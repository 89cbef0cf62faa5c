-- The rows are the same on both sides, and those of the history.
use Rattle.std.proofs.Common.{◌∙◌, ap, [], ◌∷◌, ◌++◌, List}
use Rattle.hippo_tables_keyed.specs.RowSets.{KeyedRows}
use Rattle.hippo_history_uses.proofs.SharingLemmas.{same_rows, distinct, one_set, shares_found}
use Rattle.hippo_history_uses.proofs.searching.Search.shares.Goals as goal

pub shared_of-requires : goal.shared_of-requires
shared_of-requires c =
    let is = c.in_ok-push.ensures.ok ∙ ap (λ (l : List KeyedRows). l ++ c.get.result.now ∷ []) c.new-audit_sets.ensures in
    record {
      query_sets = c.requires.whole.sets;
      audit_sets = one_set c.args.self.now c.args.place c.args.audit.now c.requires.alone c.get.result.now c.get.ensures _ is;
      tables = distinct c.args.self.now c.args.place c.args.audit.now c.requires.alone c.get.result.now c.get.ensures;
      rows = same_rows c.args.self.now c.args.place c.args.audit.now c.requires.alone c.get.result.now c.get.ensures _ is;
    }

pub returns : goal.returns
returns c = λ history its.
    let is = c.in_ok-push.ensures.ok ∙ ap (λ (l : List KeyedRows). l ++ c.get.result.now ∷ []) c.new-audit_sets.ensures in
    c.is_some.ensures
    ∙ shares_found c.args.self.now c.args.place c.args.audit.now c.requires.alone c.get.result.now c.get.ensures _ is _ c.in_ok-shared.shared
    (λ past search. c.choices_at-choices.ensures past search.book) c.in_ok-shared.ensures history its
