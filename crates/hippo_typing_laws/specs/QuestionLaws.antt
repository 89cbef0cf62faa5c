-- Laws on the questions that may follow a history.
use Rattle.std.specs.Prelude.{◌≡◌, ℕ, ◌≤◌, true, [], length, slice_range, IsUtf8}
use Rattle.hippo_values.specs.Limits.{line_limit}
use Rattle.hippo_values.specs.Texts.{Txt}
use Rattle.hippo_values.specs.declared.moments.Moment.{Moment}
use Rattle.hippo_values.specs.declared.names.Name.{Name}
use Rattle.hippo_model.specs.declared.entry.Act.TheVariants.{Asked}
use Rattle.hippo_model.specs.declared.policy.Authorization.TheVariants.{Yes}
use Rattle.hippo_stmt_ast.specs.declared.statement.RawSelect.{RawSelect}
use Rattle.hippo_model.specs.Rules.{authorized_at}
use Rattle.hippo_model.specs.Terms.{History}
use Rattle.hippo_model.specs.Validity.{may_follow}
use Rattle.hippo_typing_catalog.specs.Catalogs.{known_at}
use Rattle.hippo_typing_catalog.specs.Selects.{select_refused}
use Rattle.hippo_typing.specs.Meanings.{meaning}
use Rattle.hippo_typing_laws.specs.ReadingLaws.{ReadsByItself}
use Rattle.hippo_typing_laws.specs.FollowingLaws.{following_entry, HasRoomAt}
use Rattle.hippo_typing_laws.specs.Written.{names_fit}

-- a question passes its checks: it lies between two places of a text, is no longer than a line,
-- read on its own is this select, and is not refused; and its user may ask for its purpose and
-- recipient
pub record PassesChecks (history : History) (user purpose recipient : Name) (text : Txt)
    (select : RawSelect)
    (start end : ℕ) : Type 0 where
  pub utf8 : IsUtf8 text
  pub short : length (slice_range text start end) ≤ line_limit
  pub reads : ReadsByItself text select start end
  pub unrefused : select_refused (known_at history) select ≡ []
  pub names : names_fit user purpose recipient ≡ true
  pub authorized : authorized_at history user purpose recipient ≡ Yes

-- the entry of a question that passes its checks may follow the history
abbrev pub QuestionsMayFollow : Type 0
QuestionsMayFollow =
    (history : History) (moment : Moment) (user purpose recipient : Name) (text : Txt)
    (select : RawSelect)
    (start end : ℕ) → HasRoomAt history moment
    → PassesChecks history user purpose recipient text select start end
    → may_follow meaning history
    (following_entry history moment (Asked user purpose recipient (slice_range text start end)))
    ≡ true
