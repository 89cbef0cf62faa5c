-- The effect of an entry, by its kind.
use Rattle.std.proofs.Common.{◌≡◌, true, Result, Ok, Err, OnOk, sym, ap, ◌∙◌, refl, subst}
use Rattle.std.proofs.lemmas.Bool.{false≢true}
use Rattle.hippo_values.specs.declared.names.Name.{Name}
use Rattle.hippo_model.specs.declared.schema.Schema.{Schema}
use Rattle.hippo_model.specs.declared.entry.Entry.{Entry}
use Rattle.hippo_model.specs.declared.entry.Act.{Act}
use Rattle.hippo_model.specs.declared.entry.Act.TheVariants.{Create, Insert, Update, Delete}
use Rattle.hippo_model.specs.Terms.{Row, Key}
use Rattle.hippo_tables.specs.declared.tables.Change.TheVariants.{Nothing}
use Rattle.hippo_tables.specs.declared.tables.Tables.{Tables}
use Rattle.hippo_tables.specs.Standing.{IsNextAct, is_delete, leaves_tables, TablesAdd, Makes, InsertsIntoTable, Updates, Deletes}
use Rattle.hippo_tables.proofs.StandingLemmas.{stands-silent, Adds-insert, Adds-update, Adds-delete, Adds-make}

pub OnOk-map : {T E : Type 0} (r : Result T E) (P Q : Type 0) → (P → Q) → OnOk r P → OnOk r Q
OnOk-map (Ok x) P Q f on = f on
OnOk-map (Err e) P Q f on = tt

module _ (old new : Tables) (entry : Entry) where
  pub added-insert : (table : Name) (row : Row) → entry.act ≡ Insert table row → InsertsIntoTable old new table (record { row = row; born = entry.moment }) entry.seq → TablesAdd old new entry
  added-insert table row is inserts = record {
    stands = λ history next stands. (Adds-insert history entry old new table row is inserts (subst (λ (act : Act). IsNextAct history act) is next) stands).0;
    remembers = λ kept history next stands. (Adds-insert history entry old new table row is inserts (subst (λ (act : Act). IsNextAct history act) is next) stands).1;
  }

  pub added-update : (table : Name) (row : Row) → entry.act ≡ Update table row → Updates old new table row entry.seq → TablesAdd old new entry
  added-update table row is updates = record {
    stands = λ history next stands. (Adds-update history entry old new table row is updates (subst (λ (act : Act). IsNextAct history act) is next) stands).0;
    remembers = λ kept history next stands. (Adds-update history entry old new table row is updates (subst (λ (act : Act). IsNextAct history act) is next) stands).1;
  }

  pub added-delete : (table : Name) (key : Key) → entry.act ≡ Delete table key → Deletes old new table key → TablesAdd old new entry
  added-delete table key is deletes = record {
    stands = λ history next stands. Adds-delete history entry old new table key is deletes (subst (λ (act : Act). IsNextAct history act) is next) stands;
    remembers = λ kept. absurd (false≢true (sym kept ∙ ap is_delete is));
  }

  pub added-make : (schema : Schema) → entry.act ≡ Create schema → Makes old new schema → TablesAdd old new entry
  added-make schema is makes = record {
    stands = λ history next stands. (Adds-make history entry old new schema is makes (subst (λ (act : Act). IsNextAct history act) is next) stands).0;
    remembers = λ kept history next stands. (Adds-make history entry old new schema is makes (subst (λ (act : Act). IsNextAct history act) is next) stands).1;
  }

pub added-silent : (old : Tables) (entry : Entry) → leaves_tables entry.act ≡ true → TablesAdd old (record { tables = old.tables; last = Nothing }) entry
added-silent old entry silent = record {
  stands = λ history next stands. stands-silent history entry old (record { tables = old.tables; last = Nothing }) silent (λ name. refl) stands;
  remembers = λ kept history next stands. record { before = λ name. stands.kept name };
}
