-- The places of the one tuple are added.
use Rattle.std.proofs.Common.{◌||◌, sym, ap, ◌∙◌}
use Rattle.hippo_join_stages.specs.Finding.{has_places}
use Rattle.hippo_audit_search.specs.declared.marks.Mark.{Mark}
use Rattle.hippo_audit_search.specs.Marks.{is_one}
use Rattle.hippo_audit_search.proofs.MarkLemmas.{one-added}
use Rattle.hippo_audit_search.proofs.marks.Mark.add_to.Goals as goal

pub returns-in_ok-insert-in-One : goal.returns-in_ok-insert-in-One
returns-in_ok-insert-in-One c = λ other.
    one-added c.in-One.places c.args.candidates.now.keys c.insert.new.self.keys c.in_ok-insert-in-One.ensures.updates.0 other
    ∙ ap (λ (mark : Mark). is_one other mark || has_places other c.args.candidates.now.keys) (sym c.in-One.is)
