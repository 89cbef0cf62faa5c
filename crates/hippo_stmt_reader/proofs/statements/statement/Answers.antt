use Rattle.std.proofs.Common.{codes}
use Rattle.hippo_values.specs.declared.keywords.Keyword.TheVariants.{KOpen, KSelect}
use Rattle.hippo_spj_reader.specs.Front.{kinds, after_keyword, after_word}
use Rattle.hippo_stmt_reader.specs.StatementFinder.{statement_of}
use Rattle.hippo_stmt_reader.proofs.AfterLemmas.{absent, present, all_after}
use Rattle.hippo_stmt_reader.proofs.statements.statement.Goals as goal

pub returns-then-begins_with : goal.returns-then-begins_with
unfolding statement_of
returns-then-begins_with c =
    present (after_keyword KOpen (kinds c.args.tokens.now)) c.if-begins_with.ensures.first (λ rest is. rw is (rw (all_after c.args.tokens.now) at c.open_statement.ensures))

pub returns-then-begins_with-2 : goal.returns-then-begins_with-2
unfolding statement_of
returns-then-begins_with-2 c =
    let tokens = kinds c.args.tokens.now in
    present (after_keyword KSelect tokens) c.if-begins_with-2.ensures.first (λ rest is. rw (absent (after_keyword KOpen tokens) c.if-begins_with.ensures.first, is) c.select_statement.ensures)

pub returns-then-begins_with_word : goal.returns-then-begins_with_word
unfolding statement_of
returns-then-begins_with_word c =
    let tokens = kinds c.args.tokens.now in
    present (after_word (codes "extract") tokens) c.if-begins_with_word.ensures.first (λ rest is.
    rw (absent (after_keyword KOpen tokens) c.if-begins_with.ensures.first, absent (after_keyword KSelect tokens) c.if-begins_with-2.ensures.first, is) (rw (all_after c.args.tokens.now) at c.extract_statement.ensures))

pub returns : goal.returns
unfolding statement_of
returns c =
    let tokens = kinds c.args.tokens.now in
    rw (absent (after_keyword KOpen tokens) c.if-begins_with.ensures.first, absent (after_keyword KSelect tokens) c.if-begins_with-2.ensures.first, absent (after_word (codes "extract") tokens) c.if-begins_with_word.ensures.first) c.console.ensures
