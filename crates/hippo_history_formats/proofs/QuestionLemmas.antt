-- What is shown of an act: a question with its asker, or the statement that made another act.
use Rattle.std.proofs.Common.{◌≡◌, false, ℕ, [], ◌∷◌, Option, sym, ap, decimal}
use Rattle.hippo_values.specs.Texts.{Txt}
use Rattle.hippo_model.specs.declared.entry.Act.{Act}
use Rattle.hippo_model.specs.declared.entry.Act.TheVariants as acts
use Rattle.hippo_model.specs.declared.schema.Schema.{Schema}
use Rattle.hippo_model.specs.HandedOver.{is_question}
use Rattle.hippo_history_statements.specs.Telling.{act_statement}
use Rattle.hippo_history_formats.specs.declared.questions.Question.{Question}
use Rattle.hippo_history_formats.specs.declared.told.Told.TheVariants.{Asked, Made}
use Rattle.hippo_history_formats.specs.Formats.{statement_data, entry_data, entry_fields}
use Rattle.hippo_history_formats.specs.Shown.{Shows}

module _ (schema : Option Schema) (entry : ℕ) (moment : Txt) where
  pub statement_shown : (act : Act) (statement : Txt) → is_question act ≡ false → statement ≡ act_statement schema act
      → Shows schema entry moment act (record { entry = entry; moment = moment; told = Made statement })
  statement_shown (acts.Asked user purpose recipient text) statement other is = absurd cc
  statement_shown act statement other is = record {
    object = ap (statement_data entry moment) is;
    fields = ap (λ (s : Txt). decimal entry ∷ moment ∷ [] ∷ [] ∷ [] ∷ s ∷ []) is;
  }

  pub question_shown : (act : Act) (question : Question) → act ≡ acts.Asked question.user.now question.purpose.now question.recipient.now question.text.now
      → Shows schema entry moment act (record { entry = entry; moment = moment; told = Asked question })
  question_shown act question is = record {
    object = ap (entry_data schema entry moment) (sym is);
    fields = ap (entry_fields schema entry moment) (sym is);
  }
