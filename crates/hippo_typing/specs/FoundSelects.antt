-- A select with its columns resolved, before it is checked further.
use Rattle.std.specs.Prelude.{List, [], ◌++◌, Option, Some, None, unwrap_or, map, filter_map, flat_map, length}
use Rattle.hippo_model.specs.declared.name_fault.NameFault.{NameFault}
use Rattle.hippo_model.specs.declared.query.Form.{Form}
use Rattle.hippo_model.specs.declared.query.Form.TheVariants.{Plain, Distinct, Grouped}
use Rattle.hippo_model.specs.declared.query.Query.{Query}
use Rattle.hippo_model.specs.declared.query.Ref.{Ref}
use Rattle.hippo_model.specs.declared.schema.Schema.{Schema}
use Rattle.hippo_stmt_ast.specs.declared.statement.RawForm.{RawForm}
use Rattle.hippo_stmt_ast.specs.declared.statement.RawForm.TheVariants as forms
use Rattle.hippo_stmt_ast.specs.declared.statement.RawItem.{RawItem}
use Rattle.hippo_stmt_ast.specs.declared.statement.RawSelect.{RawSelect}
use Rattle.hippo_typing_catalog.specs.Comparisons.{condition_of, kinds_refused, texts_refused}
use Rattle.hippo_typing_catalog.specs.Selects.{by_of, item_columns, select_parts_refused}
use Rattle.hippo_typing.specs.declared.selects.FoundList.{FoundList}
use Rattle.hippo_typing.specs.declared.selects.FoundSelect.{FoundSelect}
use Rattle.hippo_typing.specs.declared.selects.QueryHead.{QueryHead}
use Rattle.hippo_typing.specs.Found.{with_column, with_out, argument_found, groups_found_refused, shown_found}

abbrev pub list_found : List Schema → List RawItem → RawForm → FoundList
list_found schemas items (forms.Grouped outs by) =
    record { items = []; outs = map (with_out schemas) outs }
list_found schemas items form = record { items = flat_map (item_columns schemas) items; outs = [] }

abbrev pub select_found : List Schema → RawSelect → FoundSelect
select_found schemas select =
    record {
      list = list_found schemas select.items select.form;
      cond = condition_of schemas select.cond;
      by = map (with_column schemas) (by_of select.form);
    }

-- in order: grouping; kinds; texts; the number of parts
abbrev pub head_refused : List Schema → RawSelect → FoundSelect → List NameFault
head_refused schemas select found =
    groups_found_refused found.list.outs found.by ++ kinds_refused schemas found.cond
    ++ texts_refused found.cond ++ select_parts_refused select

-- the items of a grouped select; the items of any other select are found with its list
abbrev pub own_items : RawForm → FoundSelect → Option (List Ref)
own_items (forms.Grouped outs by) found =
    Some (map (λ column. column.1) found.by ++ filter_map argument_found found.list.outs)
own_items form found = None

abbrev pub form_found : RawForm → FoundSelect → Form
form_found forms.Plain found = Plain
form_found forms.Distinct found = Distinct
form_found (forms.Grouped outs by) found =
    Grouped (record {
      keys = length found.by;
      outs = shown_found found.by (length found.by)
          found.list.outs;
    })

abbrev pub head_of : RawSelect → FoundSelect → QueryHead
head_of select found =
    record {
      own_items = own_items select.form found;
      tables = select.tables;
      form = form_found
          select.form found;
    }

-- the query of a select that is not refused
abbrev pub query_with : QueryHead → FoundSelect → Query
query_with head found =
    record {
      items = unwrap_or head.own_items found.list.items;
      tables = head.tables;
      cond = found.cond;
      form = head.form;
    }
