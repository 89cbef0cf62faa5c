-- The set of rules has one more key.
use Rattle.std.proofs.Common.{◌∙◌, true, cond, ◌&&◌, ◌||◌, refl, ap, Bool}
use Rattle.std.specs.Prelude.{bytes_eq, nat_eq}
use Rattle.hippo_history_carry.specs.declared.keys.CellKey.{CellKey}
use Rattle.hippo_history_carry.specs.Decisions.{same_ruled, is_ruled_in}
use Rattle.hippo_history_carry.proofs.AddLemmas.{cond_or, alone}
use Rattle.hippo_history_carry.proofs.decided.Decided.add_cell.Goals as goal

pub returns : goal.returns
returns c = record {
  adds = record {
    cells = λ p r t n.
        let other : CellKey = record { purpose = p; recipient = r; table = t; column = n } in
        c.in_ok-insert.ensures.updates.0 other
        ∙ ap (λ (key : CellKey). cond (same_ruled key other) true (is_ruled_in c.args.self.now p r t n)) c.in_ok-key.ensures ∙ cond_or (bytes_eq c.args.ruled.now.purpose.now p && (bytes_eq c.args.ruled.now.recipient.now r && (bytes_eq c.args.ruled.now.table.now t && nat_eq c.args.column n))) (is_ruled_in c.args.self.now p r t n)
        ∙ ap (λ (same : Bool). (bytes_eq c.args.ruled.now.purpose.now p && (bytes_eq c.args.ruled.now.recipient.now r && (bytes_eq c.args.ruled.now.table.now t && same))) || is_ruled_in c.args.self.now p r t n) (alone c.args.column n);
    others = (refl, refl, refl);
  };
}
