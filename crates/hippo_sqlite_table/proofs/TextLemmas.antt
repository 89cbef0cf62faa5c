-- What the statements of the keeper mean.
use Rattle.std.proofs.Common.{◌≡◌, ℕ, pos, List, [], ◌∷◌, codes, false, None, Ok, refl}
use Rattle.sqlite_value.specs.declared.value.Value.TheVariants.{Null, Int}
use Rattle.sqlite_value.specs.declared.keys.Collation.TheVariants.{Binary}
use Rattle.sqlite_sql.specs.declared.ops.BinaryOp.{BinaryOp}
use Rattle.sqlite_sql.specs.declared.ops.BinaryOp.TheVariants.{Compare}
use Rattle.sqlite_sql.specs.declared.ops.CompareOp.TheVariants.{Eq, Ge, Gt, Le}
use Rattle.sqlite_sql.specs.Term.{Term, lit, col, op2}
use Rattle.sqlite_sql.specs.Query.{Query, inner, end}
use Rattle.sqlite_schema.specs.declared.command.Source.TheVariants.{Values}
use Rattle.sqlite_schema.specs.declared.command.Command.{Command}
use Rattle.sqlite_schema.specs.declared.command.Command.TheVariants.{Insert, Select, CreateTable, Nothing}
use Rattle.sqlite_resolve.specs.Compile.{table_defined_by}
use Rattle.sqlite_tied.specs.Compute.{everything}
use Rattle.sqlite.specs.Listing.{understood, reads_listing}
use Rattle.sqlite.proofs.Callers.{IsPlain, command_of, statement_of}
use Rattle.hippo_keeper.specs.declared.selection.Selection.{Selection}
use Rattle.hippo_keeper.specs.declared.selection.Selection.TheVariants.{All, VersionsOf, AskedIn}
use Rattle.hippo_sqlite_table.specs.Queries.{create_sql, insert_sql, read_sql}
use Rattle.hippo_sqlite_table.specs.Tables.{history_table, history_schema, empty_schema}

pub create_is : (command_of (understood empty_schema create_sql) ≡ CreateTable) × (table_defined_by create_sql ≡ Ok history_table)
unfolding understood everything
create_is = (refl, refl)

pub made_is : command_of (understood history_schema create_sql) ≡ Nothing
unfolding understood everything
made_is = refl

abbrev pub given : List Term
given = col 0 0 ∷ lit Null ∷ col 0 1 ∷ col 0 2 ∷ col 0 3 ∷ col 0 4 ∷ []

abbrev pub query : List Term → Term → Query
query filter limit = record {
  from = inner 0 end;
  filter = filter;
  group = None;
  project = col 1 0 ∷ col 1 2 ∷ col 1 3 ∷ col 1 4 ∷ col 1 5 ∷ [];
  distinct = false;
  collations = [];
  order = (col 1 0, record { collation = Binary; descending = false }) ∷ [];
  limit = limit;
  offset = lit (Int (pos 0));
}

abbrev pub names : List (List ℕ)
names = codes "seq" ∷ codes "moment" ∷ codes "kind" ∷ codes "tbl" ∷ codes "body" ∷ []

abbrev pub select : Query → Command
select query = Select (record { lets = []; body = query }) names

abbrev pub compared : BinaryOp → ℕ → ℕ → Term
compared op place param = op2 op (col 1 place) (col 0 param)

pub insert_is : command_of (understood history_schema insert_sql) ≡ Insert 0 (Values given 6)
unfolding understood everything
insert_is = refl

-- the terms by which a read filters, and the parameter that limits its rows
abbrev pub terms_of : Selection → List Term
terms_of All = compared (Compare Gt Binary) 0 0 ∷ []
terms_of (VersionsOf table) =
    compared (Compare Eq Binary) 4 0 ∷ op2 (Compare Ge Binary) (col 1 3) (lit (Int (pos 2))) ∷ op2 (Compare Le Binary) (col 1 3) (lit (Int (pos 4)))
    ∷ compared (Compare Gt Binary) 0 1 ∷ []
terms_of (AskedIn from to) =
    op2 (Compare Eq Binary) (col 1 3) (lit (Int (pos 13))) ∷ compared (Compare Ge Binary) 2 0 ∷ compared (Compare Le Binary) 2 1
    ∷ compared (Compare Gt Binary) 0 2 ∷ []

abbrev pub limit_of : Selection → Term
limit_of All = col 0 1
limit_of (VersionsOf table) = col 0 2
limit_of (AskedIn from to) = col 0 3

-- each read is this query, is plain, and reads no listing
pub read_is : (selection : Selection) → command_of (understood history_schema (read_sql selection)) ≡ select (query (terms_of selection) (limit_of selection))
unfolding understood everything
read_is All = refl
read_is (VersionsOf table) = refl
read_is (AskedIn from to) = refl

pub read_plain : (selection : Selection) → IsPlain (understood history_schema (read_sql selection))
unfolding understood everything
read_plain All = (refl, refl)
read_plain (VersionsOf table) = (refl, refl)
read_plain (AskedIn from to) = (refl, refl)

pub no_listing : (selection : Selection) → reads_listing history_schema (read_sql selection) ≡ false
unfolding understood everything
no_listing All = refl
no_listing (VersionsOf table) = refl
no_listing (AskedIn from to) = refl

pub create_plain : IsPlain (understood empty_schema create_sql)
unfolding understood everything
create_plain = (refl, refl)

pub made_plain : IsPlain (understood history_schema create_sql)
unfolding understood everything
made_plain = (refl, refl)

pub statement_is : statement_of create_sql (understood empty_schema create_sql) ≡ create_sql
unfolding understood everything
statement_is = refl

pub insert_plain : IsPlain (understood history_schema insert_sql)
unfolding understood everything
insert_plain = (refl, refl)
