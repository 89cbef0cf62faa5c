-- A text without a quote is its own doubled form.
use Rattle.std.proofs.Common.{sym, ◌∙◌}
use Rattle.std.proofs.lemmas.Result.{on_err_weaker}
use Rattle.hippo_values_text.proofs.PrintingLemmas.{doubled_quotes-same, KeepsFront-same}
use Rattle.hippo_values_text.proofs.printing.append_doubled.Goals as goal

pub returns-else-has_quote-clause-adds : goal.returns-else-has_quote-clause-adds
returns-else-has_quote-clause-adds g c =
    let plain = doubled_quotes-same c.args.text.now (sym c.has_quote.ensures ∙ c.if-has_quote.false) in
    rw plain (record { ok = c.append.ensures.ok; err = on_err_weaker _ (KeepsFront-same c.args.out.now c.append.new.self) c.append.ensures.err })

pub returns-else-has_quote-clause-room : goal.returns-else-has_quote-clause-room
returns-else-has_quote-clause-room g c =
    let plain = doubled_quotes-same c.args.text.now (sym c.has_quote.ensures ∙ c.if-has_quote.false) in
    rw plain c.append.ensures.room
