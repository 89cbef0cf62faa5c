-- What grammar and types guarantee of a statement, before its names are looked up.
use Rattle.std.specs.Prelude.{Bool, true, ◌&&◌, List, length, nat_le}
use Rattle.std.specs.List.{list_all}
use Rattle.std.specs.Str.{is_utf8}
use Rattle.hippo_values.specs.Moments.{is_day, is_signed_number}
use Rattle.hippo_values.specs.declared.names.Name.{Name}
use Rattle.hippo_values.specs.declared.values.Value.{Value}
use Rattle.hippo_values.specs.declared.values.Value.TheVariants.{Null, Int, Text, Day}
use Rattle.hippo_lexer.specs.declared.kinds.TokenKind.{TokenKind}
use Rattle.hippo_lexer.specs.declared.kinds.TokenKind.TheVariants.{Word, Number, Quoted, Day as DayToken}
use Rattle.hippo_model.specs.declared.schema.Column.{Column}
use Rattle.hippo_stmt_ast.specs.declared.statement.Stmt.{Stmt}
use Rattle.hippo_stmt_ast.specs.declared.statement.Stmt.TheVariants.{CreateTable, CreatePurpose, CreateRecipient, CreateItem, Authorize, Deauthorize, Allow, Revoke, Choice, Insert, Update, Delete}
use Rattle.hippo_model.specs.Keepable.{is_folded_name, item_is_keepable}
use Rattle.hippo_model.specs.Validity.{days_fit}

-- a value fits its type: a number has 64 bits, a text is UTF-8, a day lies in the years 0001 to
-- 9999
abbrev pub is_typed : Value → Bool
is_typed Null = true
is_typed (Int number) = is_signed_number number
is_typed (Text text) = is_utf8 text
is_typed (Day day) = is_day day

-- what a token says fits its type: a name is in lower case, and a number, a text or a day fits as a
-- value does
abbrev pub kind_is_typed : TokenKind → Bool
kind_is_typed (Word name) = is_folded_name name
kind_is_typed (Number number) = is_signed_number number
kind_is_typed (Quoted text) = is_utf8 text
kind_is_typed (DayToken day) = is_day day
kind_is_typed kind = true

-- the grammar gives each list at least one member
abbrev pub has_members : {A : Type 0} → List A → Bool
has_members members = nat_le 1 (length members)

-- three names are in lower case: a user, a purpose and a recipient, or a purpose, a recipient and a
-- table
abbrev pub names_fit : Name → Name → Name → Bool
names_fit first second third = is_folded_name first && is_folded_name second && is_folded_name third

abbrev pub columns_written : List Column → Bool
columns_written columns =
    has_members columns && list_all (λ column. is_folded_name column.name) columns

-- a changing statement is well formed: its names are in lower case, its lists have members, its
-- values fit their types, and its days are within their limits
abbrev pub is_written : Stmt → Bool
is_written (CreateTable table columns key subject) =
    is_folded_name table && columns_written columns && has_members key
is_written (CreatePurpose purpose) = is_folded_name purpose
is_written (CreateRecipient recipient) = is_folded_name recipient
is_written (CreateItem item kind) = is_folded_name item
is_written (Authorize user purpose recipient) = names_fit user purpose recipient
is_written (Deauthorize user purpose recipient) = names_fit user purpose recipient
is_written (Allow purpose recipient table columns item days) =
    names_fit purpose recipient table && has_members columns && item_is_keepable item
    && days_fit days
is_written (Revoke purpose recipient table columns) =
    names_fit purpose recipient table && has_members columns
is_written (Choice subject item agreed) = is_signed_number subject && is_folded_name item
is_written (Insert table values) = is_folded_name table && list_all is_typed values
is_written (Update table columns values keys key_values) =
    is_folded_name table && list_all is_typed values
is_written (Delete table keys values) = is_folded_name table
is_written statement = true
