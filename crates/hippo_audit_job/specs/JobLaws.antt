-- Laws about audit jobs, and about what stays the same when entries are added to a history.
use Rattle.std.specs.Prelude.{◌≡◌, ◌≤◌, ℕ, true, false, [], ◌++◌, drop, take, ◌-◌, length, Some}
use Rattle.std.specs.List.{AllByRecursion}
use Rattle.hippo_values.specs.Texts.{Txt}
use Rattle.hippo_values.specs.declared.names.Name.{Name}
use Rattle.hippo_model.specs.declared.audit.Audit.{Audit}
use Rattle.hippo_model.specs.declared.entry.Act.TheVariants.{Asked}
use Rattle.hippo_model.specs.declared.entry.Entry.{Entry}
use Rattle.hippo_model.specs.declared.query.Query.{Query}
use Rattle.hippo_stmt_ast.specs.declared.statement.RawAudit.{RawAudit}
use Rattle.hippo_model.specs.Terms.{History, Meaning}
use Rattle.hippo_model.specs.Histories.{before_entry}
use Rattle.hippo_model.specs.Validity.{is_valid}
use Rattle.hippo_model.specs.Audits.{flags_between}
use Rattle.hippo_model_laws.specs.Audits.{StandsIn}
use Rattle.hippo_typing_catalog.specs.declared.period.Period.{Period}
use Rattle.hippo_typing_catalog.specs.Catalogs.{known_at}
use Rattle.hippo_typing_catalog.specs.AuditExpressions.{audit_refused, audit_of}
use Rattle.hippo_typing.specs.Meanings.{meaning}
use Rattle.hippo_audit_job.specs.Examining.{IsAuditOf}
use Rattle.hippo_audit_job.specs.Looking.{is_question_in_period}

-- a text that means a query still means it when entries are added
abbrev pub MeaningsLast : Type 0
MeaningsLast =
    (front later : History) (text : Txt) (query : Query) → meaning front text ≡ Some query
    → meaning (front ++ later) text ≡ Some query

-- a logged query means some query, and the same one at its own time as now
abbrev pub QuestionsMean : Type 0
QuestionsMean =
    (history : History) (entry : Entry) → StandsIn meaning history entry
    → (user purpose recipient : Name) (text : Txt)
    → entry.act ≡ Asked user purpose recipient text
    → (query : Query) × (meaning (before_entry entry history) text ≡ Some query)
    × (meaning history text ≡ Some query)

-- the flags of a range of entry numbers stay the same when entries are added
abbrev pub StretchesLast : Type 0
StretchesLast =
    (meaning : Meaning) (history later : History) (audit : Audit) (above upto : ℕ)
    → is_valid meaning (history ++ later) ≡ true → upto ≤ length history
    → flags_between meaning (history ++ later) audit above upto
    ≡ flags_between meaning history audit above upto

-- a range of entry numbers without a logged query of the period has no flags
abbrev pub NoQuestionsNoFlags : Type 0
NoQuestionsNoFlags =
    (meaning : Meaning) (history : History) (audit : Audit) (above upto : ℕ)
    → AllByRecursion (λ entry. is_question_in_period audit entry ≡ false)
    (take (upto - above) (drop above history))
    → flags_between meaning history audit above upto ≡ []

-- an audit expression that is not refused is an audit of the history, and of each longer valid one
abbrev pub UnrefusedAreAudits : Type 0
UnrefusedAreAudits =
    (history later : History) (period : Period) (audit : RawAudit)
    → is_valid meaning (history ++ later) ≡ true
    → audit_refused (known_at history) period audit ≡ []
    → IsAuditOf (history ++ later) (audit_of (known_at history) period audit)
