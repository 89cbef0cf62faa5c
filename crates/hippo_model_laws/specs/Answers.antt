-- Laws on answers.
use Rattle.std.specs.Prelude.{◌≡◌}
use Rattle.std.specs.List.{AllByRecursion}
use Rattle.hippo_model.specs.declared.query.Query.{Query}
use Rattle.hippo_model.specs.Terms.{History}
use Rattle.hippo_model.specs.Verdicts.{Context}
use Rattle.hippo_model.specs.Views.{view_at}
use Rattle.hippo_model.specs.Answers.{answer}

-- the answers over equal views are equal
abbrev pub EqualViews : Type 0
EqualViews =
    (a b : History) (here there : Context) (query : Query)
    → AllByRecursion (λ table. view_at a here table ≡ view_at b there table) query.tables
    → answer a here query ≡ answer b there query
