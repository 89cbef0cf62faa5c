-- Parts of a page, computed by evaluation. Each example's name says what it shows.
use Rattle.std.proofs.Common.{◌≡◌, ℤ, List, [], ◌∷◌, pos, refl, codes}
use Rattle.std.specs.Fmt.{digits}
use Rattle.hippo_values.specs.Texts.{Txt}
use Rattle.hippo_values.specs.declared.values.Value.TheVariants.{Int, Text}
use Rattle.hippo_history_formats.specs.declared.access.Access.{Access}
use Rattle.hippo_history_formats.specs.Accesses.{access_fields}
use Rattle.hippo_history_page.specs.Counts.{asker_count, firsts, days}
use Rattle.hippo_history_page.specs.Escapes.{escaped, unescaped, before_tag}
use Rattle.hippo_history_page.specs.Pages.{text_row, count_row}
use Rattle.hippo_history_page.specs.Words.{bar_start, bar_middle, bar_end, row_start, row_end, cell_start, cell_end}

a_name_with_markup : escaped (codes "<b>\"O'Neil\" & co</b>") ≡ codes "&lt;b&gt;&quot;O&#39;Neil&quot; &amp; co&lt;/b&gt;"
a_name_with_markup = refl

a_name_is_read : unescaped (before_tag (codes "&lt;b&gt;&quot;O&#39;Neil&quot; &amp; co&lt;/b&gt;</td>")) ≡ codes "<b>\"O'Neil\" & co</b>"
a_name_is_read = refl

a_reference_in_a_text_is_not_read_twice : unescaped (escaped (codes "&lt; &copy; &")) ≡ codes "&lt; &copy; &"
a_reference_in_a_text_is_not_read_twice = refl

abbrev access : Txt → Txt → ℤ → Access
access user purpose moment = record {
  entry = 14;
  moment = moment;
  user = user;
  purpose = purpose;
  recipient = codes "clerk";
  table = codes "patient";
  key = Int (pos 2) ∷ [];
  shown = record { column = codes "name"; value = Text (codes "<b>") } ∷ [];
  tested = [];
  denied = record { column = codes "ward"; rule = 12 } ∷ [];
}

-- the last second of one day, and the first of the next
abbrev carl_bills : Access
carl_bills = access (codes "carl") (codes "billing") (pos 86399)

abbrev ann_treats : Access
ann_treats = access (codes "ann") (codes "treatment") (pos 86399)

abbrev ann_bills : Access
ann_bills = access (codes "ann") (codes "billing") (pos 86400)

abbrev carl_again : Access
carl_again = access (codes "carl") (codes "billing") (pos 86401)

abbrev four : List Access
four = carl_bills ∷ ann_treats ∷ ann_bills ∷ carl_again ∷ []

each_user_and_purpose_once : firsts four ≡ carl_bills ∷ ann_treats ∷ ann_bills ∷ []
each_user_and_purpose_once = refl

both_accesses_by_carl_count : asker_count four carl_bills ≡ 2
both_accesses_by_carl_count = refl

two_accesses_on_each_day : days four ≡ (pos 0, 2) ∷ (pos 1, 2) ∷ []
two_accesses_on_each_day = refl

no_access_is_on_no_day : days [] ≡ []
no_access_is_on_no_day = refl

a_row_with_a_bar : count_row (codes "carl" ∷ codes "billing" ∷ []) 4 2
    ≡ codes "<tr><td>carl</td><td>billing</td><td>2</td><td><svg preserveAspectRatio=\"none\" viewBox=\"0 0 4 1\"><rect height=\"1\" width=\"2\"/></svg></td></tr>\n"
unfolding digits bar_start bar_middle bar_end row_start row_end cell_start cell_end
a_row_with_a_bar = refl

an_access_as_a_row : text_row (access_fields carl_bills (codes "1970-01-01T23:59:59Z"))
    ≡ codes "<tr><td>14</td><td>1970-01-01T23:59:59Z</td><td>carl</td><td>billing</td><td>clerk</td><td>patient</td><td>2</td><td>name &#39;&lt;b&gt;&#39;</td><td></td><td>ward 12</td></tr>\n"
unfolding digits row_start row_end cell_start cell_end
an_access_as_a_row = refl
