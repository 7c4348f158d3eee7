use Rattle.std.proofs.Common.{◌≡◌, ℕ, ◌==◌, List, [], ◌∷◌, refl, ◌∙◌, rules, tests}
use Rattle.std.specs.List.{list_all}
use Rattle.std.proofs.lemmas.Iterator.{YieldsList-from_slice}
use Rattle.std.proofs.lemmas.Iterator.Search.{all_from_yields_List}
use Rattle.zt_ordered.specs.Test.{by_test}
use Rattle.zt_locals.specs.Interests.{has_none, without_interest}
use Rattle.zt_locals.proofs.interests.has_no_other.Goals as goal

all_same : (id : ℕ) (ids : List ℕ) → list_all (λ other. other == id) ids ≡ has_none (without_interest id ids)
all_same id [] = refl
all_same id (other ∷ ids) = by_test (other == id) (λ same. rw same (all_same id ids)) (λ differs. rw differs refl)

pub returns : goal.returns
returns c =
    all_from_yields_List (λ other. other == c.args.id) _ _ _ c.all.ensures.ran (YieldsList-from_slice c.args.ids.now cc) (λ x b q k. search (rules, tests))
    ∙ all_same c.args.id c.args.ids.now
