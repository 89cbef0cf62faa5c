use Rattle.std.proofs.Common.{sym}
use Rattle.hippo_values.specs.declared.keywords.Keyword.TheVariants.{KDuring}
use Rattle.hippo_spj_reader.specs.Front.{kinds, after_keyword}
use Rattle.hippo_stmt_reader.specs.StatementFinder.{console_of}
use Rattle.hippo_stmt_reader.proofs.AfterLemmas.{absent}
use Rattle.hippo_stmt_reader.proofs.statements.console.Goals as goal

pub returns : goal.returns
unfolding console_of
returns c =
    rw (absent (after_keyword KDuring (kinds c.args.tokens.now)) c.if-begins_with.ensures.first, sym c.in_default.ensures.rest) c.console_by_keyword.ensures
