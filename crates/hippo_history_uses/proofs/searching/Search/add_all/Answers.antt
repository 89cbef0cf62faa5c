-- One more table.
use Rattle.std.proofs.Common.{◌≡◌, ◌∙◌, ◌++◌, ◌+◌, sym, ap, subst, refl, drop, length, List, Some}
use Rattle.std.specs.Prelude.{slice_get, flat_map}
use Rattle.std.proofs.lemmas.Option.{slice_get_read}
use Rattle.hippo_values.specs.declared.names.Name.{Name}
use Rattle.hippo_model.specs.Terms.{Place}
use Rattle.hippo_audit_common.specs.Commons.{place_in}
use Rattle.hippo_history_uses.specs.Searching.{IsSeat, AddsTable}
use Rattle.hippo_history_uses.proofs.SearchLemmas.{of_table, seat_of, table_turn}
use Rattle.hippo_history_uses.proofs.searching.Search.add_all.Goals as goal

pub add_table-requires-clause-seat : goal.add_table-requires-clause-seat
add_table-requires-clause-seat c =
    let items = c.as_slice-tables.result.now in
    let there = subst (λ (l : List Name). slice_get l c.loop-table.table-index ≡ Some c.table-item.result) c.as_slice-tables.ensures
    (slice_get_read items (length items) c.loop-table.table-index c.table-item.result refl c.loop-table-test.true c.table-item.is) in
    subst (λ (place : Place). IsSeat c.args.self.now place) (sym (c.place_in.ensures ∙ ap (λ (l : List Name). place_in l c.table-item.result) c.as_slice-tables.ensures))
    (seat_of c.args.self.now c.loop-table.table-index c.table-item.result there)

pub loop-table-preserved : goal.loop-table-preserved
loop-table-preserved c = λ history its.
    let self = c.args.self.now in
    let items = c.as_slice-tables.result.now in
    let index = c.loop-table.table-index in
    let there = subst (λ (l : List Name). slice_get l index ≡ Some c.table-item.result) c.as_slice-tables.ensures
    (slice_get_read items (length items) index c.table-item.result refl c.loop-table-test.true c.table-item.is) in
    let so_far = subst (λ (l : List Name). c.loop-table.accesses ++ flat_map (of_table self history) (drop index l) ≡ c.args.accesses.now ++ flat_map (of_table self history) l) c.as_slice-tables.ensures
    (c.loop-table.invariant history its) in
    let adds = subst (λ (place : Place). AddsTable self place c.loop-table.accesses c.add_table.new.accesses)
    (c.place_in.ensures ∙ ap (λ (l : List Name). place_in l c.table-item.result) c.as_slice-tables.ensures) c.in_ok-add_table.ensures in
    subst (λ (l : List Name). c.add_table.new.accesses ++ flat_map (of_table self history) (drop (index + 1) l) ≡ c.args.accesses.now ++ flat_map (of_table self history) l) (sym c.as_slice-tables.ensures)
    (table_turn self c.requires.whole history its index c.table-item.result c.loop-table.accesses c.add_table.new.accesses _ there so_far adds)
