use Rattle.std.proofs.Common.{◌≡◌, Some, None, option_map, length, eqb, true, false, sym, ap, ◌∙◌}
use Rattle.std.proofs.lemmas.Bool.{eqb-true}
use Rattle.hippo_stmt_lines.specs.Words.{split_at_space, trimmed_text}
use Rattle.hippo_stmt_lines.proofs.SpaceLemmas.{words_of-blank, words_of-more, words_of-last}
use Rattle.hippo_stmt_lines.proofs.words.first_word.Goals as goal

pub returns-then-is_empty : goal.returns-then-is_empty
returns-then-is_empty c =
    let none : eqb (length (trimmed_text c.args.text.now)) 0 ≡ true = cc in
    words_of-blank c.args.text.now (eqb-true _ 0 none)

pub returns-in-Some : goal.returns-in-Some
returns-in-Some c =
    let found : split_at_space (trimmed_text c.args.text.now) ≡ Some (c.in-Some.parts.0.now, c.in-Some.parts.1.now)
    = ap split_at_space (sym c.trimmed-rest.ensures) ∙ (sym c.split_at_space.ensures ∙ ap (option_map (λ parts. (parts.0.now, parts.1.now))) c.in-Some.is) in
    words_of-more c.args.text.now _ _ found

pub returns-in-None : goal.returns-in-None
returns-in-None c =
    let some : eqb (length (trimmed_text c.args.text.now)) 0 ≡ false = ap (λ rest. eqb (length rest) 0) (sym c.trimmed-rest.ensures) ∙ (sym c.is_empty.ensures ∙ c.if-is_empty.false) in
    let missing : split_at_space (trimmed_text c.args.text.now) ≡ None
    = ap split_at_space (sym c.trimmed-rest.ensures) ∙ (sym c.split_at_space.ensures ∙ ap (option_map (λ parts. (parts.0.now, parts.1.now))) c.in-None.is) in
    rw c.trimmed-rest.ensures (words_of-last c.args.text.now some missing)
