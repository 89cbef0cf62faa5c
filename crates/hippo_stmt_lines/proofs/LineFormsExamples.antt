-- Lines and their forms. Each table is named after what it shows.
use Rattle.std.proofs.Common.{◌≡◌, ℕ, ◌+◌, List, [], ◌∷◌, ◌++◌, map, replicate, Option, Some, None, refl, codes}
use Rattle.std.specs.Prelude.{⊤}
use Rattle.hippo_values.specs.Texts.{Txt}
use Rattle.hippo_values.specs.Names.{keywords, unsupported_words}
use Rattle.hippo_stmt_lines.specs.Words.{words_of}
use Rattle.hippo_stmt_lines.specs.Forms.{Form, says_nothing, sets_clock, makes_request, makes_statement, logs_in, logs_out, fetches, closes, steps, drops, unwatches, loads, line_form}

abbrev HaveForms : List (Txt × Option Form) → Type 0
HaveForms rows = map (λ row. line_form row.0) rows ≡ map (λ row. row.1) rows

abbrev HaveNone : List Txt → Type 0
HaveNone lines = map line_form lines ≡ map (λ line. None) lines

-- each text is a statement in its session, of one digit
abbrev AreStatements : List (ℕ × Txt) → Type 0
AreStatements rows =
    map (λ row. line_form ((48 + row.0) ∷ 32 ∷ row.1)) rows ≡ map (λ row. Some (makes_statement row.0 row.1)) rows

-- what must be unfolded to compute words and names
unfoldable word_lists : ⊤
unfolding words_of keywords unsupported_words
word_lists = tt

abbrev tab : Txt
tab = 9 ∷ []

abbrev return : Txt
return = 13 ∷ []

each_form_has_its_line : HaveForms (
    (codes "at 2024-01-02T08:00:00Z", Some (sets_clock (codes "2024-01-02T08:00:00Z")))
    ∷ (codes "1 login ann treatment nurse", Some (makes_request 1 (logs_in (codes "ann") (codes "treatment") (codes "nurse"))))
    ∷ (codes "64 logout", Some (makes_request 64 logs_out))
    ∷ (codes "0 fetch 1 1", Some (makes_request 0 (fetches 1 1)))
    ∷ (codes "1 close 4", Some (makes_request 1 (closes 4)))
    ∷ (codes "0 step 8 1000000", Some (makes_request 0 (steps 8 1000000)))
    ∷ (codes "1 step 1 1", Some (makes_request 1 (steps 1 1)))
    ∷ (codes "0 drop 1", Some (makes_request 0 (drops 1)))
    ∷ (codes "0 unwatch 8", Some (makes_request 0 (unwatches 8)))
    ∷ (codes "0 load patient 4,Di", Some (makes_request 0 (loads (codes "patient") (codes "4,Di"))))
    ∷ (codes "1 SELECT name FROM patient", Some (makes_statement 1 (codes "SELECT name FROM patient")))
    ∷ [])
unfolding word_lists
each_form_has_its_line = refl

blank_lines_and_comments_say_nothing : HaveForms (
    ([], Some says_nothing)
    ∷ (codes "   ", Some says_nothing)
    ∷ (codes "#", Some says_nothing)
    ∷ (codes "# 1 logout", Some says_nothing)
    ∷ [])
blank_lines_and_comments_say_nothing = refl

no_space_may_stand_in_front : HaveNone (codes " 1 logout" ∷ codes " #x" ∷ codes " at x" ∷ [])
unfolding word_lists
no_space_may_stand_in_front = refl

a_tab_separates_nothing : HaveForms (
    (tab, None)
    ∷ (codes "1 " ++ (tab ++ codes "login a b c"), Some (makes_statement 1 (tab ++ codes "login a b c")))
    ∷ (codes "1 " ++ (tab ++ codes " login a b c"), Some (makes_statement 1 (tab ++ codes " login a b c")))
    ∷ (codes "1 login ann" ++ (tab ++ codes "x nurse"), None)
    ∷ (codes "1 login ann treatment" ++ (tab ++ codes " nurse"), None)
    ∷ (codes "1" ++ (tab ++ codes "SELECT name FROM patient"), None)
    ∷ (codes "0 " ++ tab, Some (makes_statement 0 tab))
    ∷ (codes "at x" ++ tab, Some (sets_clock (codes "x" ++ tab)))
    ∷ [])
unfolding word_lists
a_tab_separates_nothing = refl

a_number_wants_a_word_after_it : HaveNone (codes "0" ∷ codes "0 " ∷ codes "0    " ∷ codes "12" ∷ [])
unfolding word_lists
a_number_wants_a_word_after_it = refl

at_wants_one_word : HaveForms (
    (codes "at", None)
    ∷ (codes "at ", None)
    ∷ (codes "at x y", None)
    ∷ (codes "at x", Some (sets_clock (codes "x")))
    ∷ (codes "at   x   ", Some (sets_clock (codes "x")))
    ∷ [])
unfolding word_lists
at_wants_one_word = refl

short_words_have_any_case : HaveForms (
    (codes "AT x", Some (sets_clock (codes "x")))
    ∷ (codes "1 LogIn Ann TREATMENT nurse", Some (makes_request 1 (logs_in (codes "ann") (codes "treatment") (codes "nurse"))))
    ∷ (codes "0 UNWATCH 1", Some (makes_request 0 (unwatches 1)))
    ∷ (codes "0 Load Patient A", Some (makes_request 0 (loads (codes "patient") (codes "A"))))
    ∷ [])
unfolding word_lists
short_words_have_any_case = refl

-- the carriage return that ends a line is already removed; a further one is part of a word
a_carriage_return_is_no_space : HaveForms (
    (return, None)
    ∷ (codes "1 logout" ++ return, Some (makes_statement 1 (codes "logout" ++ return)))
    ∷ (codes "  " ++ return, None)
    ∷ [])
unfolding word_lists
a_carriage_return_is_no_space = refl

a_statement_begins_after_one_space : HaveForms (
    (codes "1  logout  ", Some (makes_request 1 logs_out))
    ∷ (codes "1   fetch  2   3 ", Some (makes_request 1 (fetches 2 3)))
    ∷ (codes "1  SELECT ~", Some (makes_statement 1 (codes " SELECT ~")))
    ∷ (codes "0 x  ", Some (makes_statement 0 (codes "x  ")))
    ∷ [])
unfolding word_lists
a_statement_begins_after_one_space = refl

a_semicolon_ends_no_form : HaveNone (codes "1 logout ;" ∷ [])
unfolding word_lists
a_semicolon_ends_no_form = refl

a_semicolon_makes_another_word : AreStatements ((1, codes "logout;") ∷ (0, codes "DROP;") ∷ (0, codes ";DROP") ∷ [])
unfolding word_lists
a_semicolon_makes_another_word = refl

numbers_have_digits_alone : HaveNone (
    codes "01 logout" ∷ codes "+1 logout" ∷ codes "-0 logout" ∷ codes "1x logout" ∷ codes "1 close 01" ∷ codes "1 close 0x1"
    ∷ codes "1 fetch +1 1" ∷ codes "1 fetch 1 -0" ∷ codes "1 fetch 1 00" ∷ codes "hello" ∷ codes "hello you" ∷ [])
unfolding word_lists
numbers_have_digits_alone = refl

numbers_have_limits : HaveNone (
    codes "65 logout" ∷ codes "100 SELECT name FROM patient" ∷ codes "1 fetch 5 1" ∷ codes "0 fetch 5 1" ∷ codes "1 fetch 0 1"
    ∷ codes "1 fetch 1 0" ∷ codes "1 fetch 1 100001" ∷ codes "1 fetch 1 99999999999999999999" ∷ codes "1 close 5"
    ∷ codes "0 step 9 1" ∷ codes "0 step 1 1000001" ∷ codes "0 step 1 4294967297" ∷ codes "0 drop 9" ∷ codes "0 unwatch 0"
    ∷ codes "0 unwatch 9" ∷ [])
unfolding word_lists
numbers_have_limits = refl

a_short_word_wants_its_form : HaveNone (
    codes "0 DROP TABLE patient" ∷ codes "1 login" ∷ codes "1 login ann treatment" ∷ codes "1 login ann treatment nurse x"
    ∷ codes "1 logout now" ∷ codes "1 fetch 1" ∷ codes "1 fetch 1 1 1" ∷ codes "1 close" ∷ codes "1 close cursor" ∷ codes "0 step 1"
    ∷ codes "0 drop" ∷ codes "0 unwatch" ∷ codes "0 load" ∷ [])
unfolding word_lists
a_short_word_wants_its_form = refl

-- a reserved word is not a name, nor is a word of 64 letters
names_are_names : HaveForms (
    (codes "1 login select treatment nurse", None)
    ∷ (codes "1 login ann purpose nurse", None)
    ∷ (codes "1 login ann treatment drop", None)
    ∷ (codes "1 login ann treatment 1nurse", None)
    ∷ (codes "1 login ann treatment " ++ replicate 64 97, None)
    ∷ (codes "1 login ann treatment " ++ replicate 63 97, Some (makes_request 1 (logs_in (codes "ann") (codes "treatment") (replicate 63 97))))
    ∷ (codes "0 load table 1", None)
    ∷ (codes "0 load 'patient' 1", None)
    ∷ [])
unfolding word_lists
names_are_names = refl

a_record_is_all_after_one_space : HaveForms (
    (codes "0 load patient", None)
    ∷ (codes "0 load  ", None)
    ∷ (codes "0 load patient ", Some (makes_request 0 (loads (codes "patient") [])))
    ∷ (codes "0  load   patient  4,Di,, ", Some (makes_request 0 (loads (codes "patient") (codes " 4,Di,, "))))
    ∷ (codes "0 load patient 3,\"O'Hara, Pat\",,7", Some (makes_request 0 (loads (codes "patient") (codes "3,\"O'Hara, Pat\",,7"))))
    ∷ [])
unfolding word_lists
a_record_is_all_after_one_space = refl

any_other_text_is_a_statement : AreStatements (
    (0, codes "INSERT INTO patient VALUES (3, 'x")
    ∷ (1, codes "SELECT drop FROM t")
    ∷ (1, codes "SELECT " ++ replicate 100 40)
    ∷ (0, codes "CREATE TABLE select (a INTEGER)")
    ∷ (2, codes "at x")
    ∷ (0, codes "loads patient 1")
    ∷ (0, codes "#")
    ∷ [])
unfolding word_lists
any_other_text_is_a_statement = refl
