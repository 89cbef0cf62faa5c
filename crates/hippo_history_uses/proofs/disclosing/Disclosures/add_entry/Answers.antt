-- The text means the query at its own time as now.
use Rattle.std.proofs.Common.{◌∙◌, sym, ap, true}
use Rattle.hippo_values.specs.Texts.{Txt}
use Rattle.hippo_typing.specs.Meanings.{meaning_in}
use Rattle.hippo_tables.proofs.AddLemmas.{OnOk-map}
use Rattle.hippo_history_uses.specs.Disclosing.{Discloses, DisclosesMeant}
use Rattle.hippo_history_uses.proofs.DisclosingLemmas.{text_meant, text_meant_nothing}
use Rattle.hippo_history_uses.proofs.disclosing.Disclosures.add_entry.Goals as goal

pub returns-in-Ok-Some : goal.returns-in-Ok-Some
returns-in-Ok-Some c =
    OnOk-map c.add_query-added.result (DisclosesMeant c.args.past.now c.args.entry.now c.in-Ok-Some.query c.args.self.now c.add_query-added.new.self)
    (Discloses c.args.past.now c.args.entry.now true c.args.self.now c.add_query-added.new.self)
    (text_meant c.args.past.now c.args.entry.now c.in-Ok-Some.query c.in-Some.text.now c.args.self.now c.add_query-added.new.self (sym c.in-Some.ensures)
    (ap (λ (text : Txt). meaning_in c.args.past.now.catalog.now.names text) (sym c.as_str.ensures) ∙ sym c.in-Ok-Some.ensures.meaning ∙ c.in-Ok-Some.field-0-is))
    c.add_query-added.ensures

pub returns-in-Ok-None : goal.returns-in-Ok-None
returns-in-Ok-None c =
    text_meant_nothing c.args.past.now c.args.entry.now c.in-Some.text.now c.args.self.now c.args.self.now (sym c.in-Some.ensures)
    (ap (λ (text : Txt). meaning_in c.args.past.now.catalog.now.names text) (sym c.as_str.ensures) ∙ sym c.in-Ok-None.ensures.meaning ∙ c.in-Ok-None.field-0-is)
