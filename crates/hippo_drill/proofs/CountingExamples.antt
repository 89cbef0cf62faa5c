-- Replies counted by evaluation. Each example's name says what it shows.
use Rattle.std.proofs.Common.{◌≡◌, [], ◌∷◌, refl, codes}
use Rattle.std.specs.Fmt.{digits}
use Rattle.hippo_drill.specs.Counting.{second_word, lines_with, summary_of}

the_second_word_stands_after_the_first_space : second_word (codes "1 row 'a b'") ≡ codes "row"
the_second_word_stands_after_the_first_space = refl

one_word_has_no_second : second_word (codes "row") ≡ []
one_word_has_no_second = refl

rows_are_counted_by_their_second_word : lines_with (codes "row") (codes "1 row 'row'\n1 row 'no'\n1 end 2\n") ≡ 2
rows_are_counted_by_their_second_word = refl

words_in_texts_do_not_count : lines_with (codes "no") (codes "1 row 'row'\n1 row 'no'\n1 end 2\n") ≡ 0
words_in_texts_do_not_count = refl

summaries_have_five_lines :
    summary_of (codes "- ok\n" ∷ codes "0 ok 1\n" ∷ codes "1 row 1\n1 end 1\n" ∷ codes "0 flag 2 a\n0 end 1\n" ∷ codes "0 no 13 BadSyntax\n" ∷ []) 3
    ≡ codes "lines 5\nentries 3\nrows 1\nflags 1\nrefusals 1\n"
unfolding digits
summaries_have_five_lines = refl
