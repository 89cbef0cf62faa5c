use Rattle.std.proofs.Common.{◌≡◌, ◌≢◌, Option, None, Ok, length, sym, ◌∙◌}
use Rattle.std.proofs.lemmas.Result.{IfOk-weaker}
use Rattle.hippo_stmt_ast.specs.declared.statement.RawSelect.{RawSelect}
use Rattle.hippo_lexer.specs.declared.faults.SyntaxFault.TheVariants as syntax
use Rattle.hippo_lexer.specs.Words.{words_check}
use Rattle.hippo_spj_reader.specs.Front.{kinds_between}
use Rattle.hippo_spj_reader.specs.Promises.{ReadsAll}
use Rattle.hippo_spj_reader.specs.SelectGrammar.{IsSelect}
use Rattle.hippo_typing.specs.Meanings.{select_in}
use Rattle.hippo_typing.proofs.MeaningTheorem.{passed, select-read, none-read}
use Rattle.hippo_typing.proofs.texts.whole_select.Goals as goal

pub returns-in-Ok : goal.returns-in-Ok
returns-in-Ok c =
    let tokens = c.args.tokens.now in
    let words : words_check tokens ≡ Ok tt = sym c.check_words.ensures ∙ passed c.check_words.result (sym c.is_err.ensures.value ∙ c.if-is_err.false) in
    let reads : ReadsAll IsSelect (kinds_between tokens 0 (length tokens)) c.read_select.result = rw c.len.ensures at c.read_select.ensures in
    sym (select-read tokens words c.read_select.result reads c.in-Ok.select c.in-Ok.is)

pub returns-in-Err : goal.returns-in-Err
returns-in-Err c =
    let tokens = c.args.tokens.now in
    let words : words_check tokens ≡ Ok tt = sym c.check_words.ensures ∙ passed c.check_words.result (sym c.is_err.ensures.value ∙ c.if-is_err.false) in
    let reads : ReadsAll IsSelect (kinds_between tokens 0 (length tokens)) c.read_select.result = rw c.len.ensures at c.read_select.ensures in
    let fault = c.in-Err.fault in
    IfOk-weaker c.no_select.result (λ (found : Option RawSelect). (found ≡ None) × (fault ≢ syntax.Memory)) (λ (found : Option RawSelect). found ≡ select_in (Ok tokens)) (λ found h. h.0 ∙ sym (none-read tokens words c.read_select.result reads fault c.in-Err.is h.1)) c.no_select.ensures
