-- Tables that are created, computed on a small history. Each example's name says what it shows.
use Rattle.std.proofs.Common.{◌≡◌, ℕ, pos, List, [], ◌∷◌, true, false, None, refl, codes}
use Rattle.hippo_model.specs.declared.entry.Entry.{Entry}
use Rattle.hippo_model.specs.declared.entry.Act.TheVariants.{Create}
use Rattle.hippo_model.specs.declared.schema.Schema.{Schema}
use Rattle.hippo_model.specs.Terms.{History}
use Rattle.hippo_tables.specs.Standing.{schemas_at, are_created}

abbrev empty_schema : List ℕ → Schema
empty_schema name = record { name = name; columns = []; key = []; subject = None }

abbrev makes : ℕ → List ℕ → Entry
makes number name = record { seq = number; moment = pos 0; act = Create (empty_schema name) }

abbrev two_tables : History
two_tables = makes 1 (codes "patient") ∷ makes 2 (codes "visit") ∷ []

schemas_stand_in_the_order_of_from : schemas_at two_tables (codes "visit" ∷ codes "patient" ∷ []) ≡ empty_schema (codes "visit") ∷ empty_schema (codes "patient") ∷ []
schemas_stand_in_the_order_of_from = refl

tables_may_be_created_in_any_order : are_created two_tables (codes "visit" ∷ codes "patient" ∷ []) ≡ true
tables_may_be_created_in_any_order = refl

each_table_has_to_be_created : are_created two_tables (codes "patient" ∷ codes "drug" ∷ []) ≡ false
each_table_has_to_be_created = refl

no_table_is_created_in_the_beginning : are_created [] (codes "patient" ∷ []) ≡ false
no_table_is_created_in_the_beginning = refl
