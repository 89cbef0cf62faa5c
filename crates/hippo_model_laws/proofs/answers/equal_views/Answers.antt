use Rattle.std.proofs.Common.{◌≡◌, List, [], ◌∷◌, map, refl, ap}
use Rattle.std.specs.List.{AllByRecursion}
use Rattle.hippo_model.specs.Terms.{ShownRow}
use Rattle.hippo_model.specs.Answers.{product, query_answer}
use Rattle.hippo_values.specs.declared.names.Name.{Name}
use Rattle.hippo_model_laws.proofs.answers.equal_views.Goals as goal

same_lists : (f g : Name → List ShownRow) (tables : List Name) → AllByRecursion (λ table. f table ≡ g table) tables → map f tables ≡ map g tables
same_lists f g [] all = refl
same_lists f g (table ∷ tables) all = λ i. all.0 i ∷ same_lists f g tables all.1 i

pub returns : goal.returns
returns c = λ a b here there query all. ap (λ (views : List (List ShownRow)). query_answer query (product views)) (same_lists _ _ query.tables all)
