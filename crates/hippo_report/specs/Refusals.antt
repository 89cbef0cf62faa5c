-- The text of every refusal: its code and name, and what it names.
use Rattle.std.specs.Prelude.{◌++◌, Option, Some, None, codes, decimal}
use Rattle.std.specs.Fmt.{signed_decimal}
use Rattle.hippo_values.specs.Texts.{Txt}
use Rattle.hippo_values_text.specs.Dates.{moment_text}
use Rattle.hippo_model.specs.declared.name_fault.NameFault.{NameFault}
use Rattle.hippo_model.specs.declared.name_fault.NameFault.TheVariants as faults
use Rattle.hippo_report.specs.declared.refusal.Detail.{Detail}
use Rattle.hippo_report.specs.declared.refusal.Detail.TheVariants as details
use Rattle.hippo_report.specs.declared.refusal.Refusal.{Refusal}
use Rattle.hippo_report.specs.declared.refusal.Refusal.TheVariants as refusals
use Rattle.hippo_report.specs.declared.speaker.Speaker.{Speaker}
use Rattle.hippo_report.specs.Speakers.{who_text}

-- the code and name of a refusal of a meaningless statement, and what the refusal names, if
-- anything
abbrev pub fault_said : NameFault → Txt × Option Txt
fault_said (faults.UnknownTable name) = (codes "30 UnknownTable", Some name)
fault_said (faults.UnknownColumn text) = (codes "31 UnknownColumn", Some text)
fault_said (faults.AmbiguousColumn name) = (codes "32 AmbiguousColumn", Some name)
fault_said (faults.UnknownPurpose name) = (codes "33 UnknownPurpose", Some name)
fault_said (faults.UnknownRecipient name) = (codes "34 UnknownRecipient", Some name)
fault_said (faults.UnknownItem name) = (codes "35 UnknownItem", Some name)
fault_said (faults.AlreadyThere name) = (codes "36 AlreadyThere", Some name)
fault_said (faults.RepeatedName name) = (codes "37 RepeatedName", Some name)
fault_said faults.TypeMismatch = (codes "40 TypeMismatch", None)
fault_said (faults.NullNotAllowed name) = (codes "41 NullNotAllowed", Some name)
fault_said (faults.WrongCount number) = (codes "42 WrongCount", Some (decimal number))
fault_said (faults.KeyChanged name) = (codes "45 KeyChanged", Some name)
fault_said (faults.NoSubject name) = (codes "46 NoSubject", Some name)
fault_said faults.BadText = (codes "47 BadText", None)
fault_said faults.NotTheKey = (codes "48 NotTheKey", None)
fault_said (faults.TooManyParts number) = (codes "50 TooManyParts", Some (decimal number))
fault_said faults.BadMoment = (codes "18 BadMoment", None)
fault_said faults.PeriodBack = (codes "56 PeriodBack", None)
fault_said (faults.NotGrouped name) = (codes "60 NotGrouped", Some name)
fault_said faults.Memory = (codes "90 Memory", None)

-- the code and name of a refusal, and what it names, if anything
abbrev pub refusal_said : Refusal → Txt × Option Txt
refusal_said refusals.BadLine = (codes "10 BadLine", None)
refusal_said refusals.LineTooLong = (codes "11 LineTooLong", None)
refusal_said (refusals.BadToken place) = (codes "12 BadToken", Some (decimal place))
refusal_said refusals.BadSyntax = (codes "13 BadSyntax", None)
refusal_said (refusals.Unsupported word) = (codes "14 Unsupported", Some word)
refusal_said refusals.TooDeep = (codes "15 TooDeep", None)
refusal_said (refusals.NumberTooLarge place) = (codes "16 NumberTooLarge", Some (decimal place))
refusal_said (refusals.BadDate place) = (codes "17 BadDate", Some (decimal place))
refusal_said refusals.BadMoment = (codes "18 BadMoment", None)
refusal_said (refusals.MomentBack moment) = (codes "19 MomentBack", Some (moment_text moment))
refusal_said refusals.NoSession = (codes "20 NoSession", None)
refusal_said refusals.SessionOpen = (codes "21 SessionOpen", None)
refusal_said (refusals.NotAuthorized number) = (codes "23 NotAuthorized", Some (decimal number))
refusal_said refusals.ConsoleOnly = (codes "24 ConsoleOnly", None)
refusal_said refusals.SessionsOnly = (codes "25 SessionsOnly", None)
refusal_said (refusals.Meaningless fault) = fault_said fault
refusal_said (refusals.KeyThere number) = (codes "43 KeyThere", Some (decimal number))
refusal_said refusals.KeyMissing = (codes "44 KeyMissing", None)
refusal_said refusals.TooManyRows = (codes "51 TooManyRows", None)
refusal_said refusals.CursorLimit = (codes "52 CursorLimit", None)
refusal_said (refusals.NoCursor number) = (codes "53 NoCursor", Some (decimal number))
refusal_said refusals.JobLimit = (codes "54 JobLimit", None)
refusal_said (refusals.NoJob number) = (codes "55 NoJob", Some (decimal number))
refusal_said refusals.HistoryFull = (codes "57 HistoryFull", None)
refusal_said (refusals.NoSuchQuery number) = (codes "58 NoSuchQuery", Some (signed_decimal number))
refusal_said refusals.BadRecord = (codes "61 BadRecord", None)
refusal_said (refusals.BadField name) = (codes "62 BadField", Some name)
refusal_said refusals.WatchLimit = (codes "63 WatchLimit", None)
refusal_said (refusals.NoWatch number) = (codes "64 NoWatch", Some (decimal number))
refusal_said refusals.Memory = (codes "90 Memory", None)

-- the reply to a sender: a code and name, and what it names
unfoldable pub said_of : Txt → Txt → Option Txt → Txt
said_of who title None = who ++ (codes " no " ++ (title ++ codes "\n"))
said_of who title (Some detail) =
    who ++ (codes " no " ++ (title ++ (codes " " ++ (detail ++ codes "\n"))))

-- the reply to a line that is not carried out
abbrev pub refusal_line : Speaker → Refusal → Txt
refusal_line who refusal =
    said_of (who_text who) (refusal_said refusal).0 (refusal_said refusal).1

-- what a refusal names, as text
abbrev pub detail_text : Detail → Option Txt
detail_text details.Nothing = None
detail_text (details.Text text) = Some text.now
detail_text (details.Number number) = Some (decimal number)
detail_text (details.Integer number) = Some (signed_decimal number)
detail_text (details.Moment moment) = Some (moment_text moment)
