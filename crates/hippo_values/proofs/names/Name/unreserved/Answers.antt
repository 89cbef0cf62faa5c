-- A name in lower case is still a name.
use Rattle.std.proofs.Common.{◌≡◌, ◌≤◌, ◌∙◌, ◌&&◌, true, length, nat_le, rules, arith}
use Rattle.std.proofs.lemmas.Bool.{and_from, le-leb}
use Rattle.hippo_values.specs.Names.{is_word, is_name}
use Rattle.hippo_values.proofs.NamesLemmas.{lower_case-lower_case, is_name-lower_case, is_name-free}
use Rattle.hippo_values.proofs.names.Name.unreserved.Goals as goal

pub invariant_of-result : goal.invariant_of-result
invariant_of-result c =
    let word = c.args.word.now in
    let short : length word ≤ 63 = search rules in
    let form : (is_word word && nat_le (length word) 63) ≡ true = and_from _ _ c.requires.form (le-leb (length word) 63 short) in
    let named : is_name word ≡ true = is_name-free word form c.requires.free in
    let front = c.folded_bytes-bytes.ensures.front in
    (omega (arith, c.folded_bytes-bytes.ensures.len), rw front (is_name-lower_case word ∙ named), rw front (lower_case-lower_case word))
