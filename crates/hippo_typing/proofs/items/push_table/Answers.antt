use Rattle.std.proofs.Common.{◌≡◌, ℕ, ◌+◌, ◌-◌, List, [], ◌∷◌, ◌++◌, map, ap, sym, ◌∙◌, arith}
use Rattle.std.specs.List.{range_with_len}
use Rattle.hippo_model.specs.declared.query.Ref.{Ref}
use Rattle.hippo_typing_catalog.proofs.ListLemmas.{range_at, one_more}
use Rattle.hippo_typing.proofs.items.push_table.Goals as goal

pub loop-column-preserved : goal.loop-column-preserved
loop-column-preserved c =
    let column : ℕ = c.loop-column.column in
    let at : ℕ → Ref = λ n. record { table = c.args.place; column = n } in
    let rest : List Ref = map at (range_with_len (column + 1) (c.args.count - (column + 1))) in
    let all : List Ref = c.args.columns.now ++ map at (range_with_len 0 c.args.count) in
    let step : c.loop-column.columns ++ ((at column ∷ []) ++ rest) ≡ all =
    ap (λ l. c.loop-column.columns ++ map at l) (sym (range_at column c.args.count (omega arith))) ∙ c.loop-column.invariant in
    one_more c.loop-column.columns c.push.new.self (at column ∷ []) rest all c.in_ok-push.ensures.ok step
