-- The interests that a face was sent, found by what they ask for.
--     Asked K                      what an interest asks for: an expression, or all keys, and the options
--     asked_by row                 what the interest asks for
--     asked_eq eq a b              whether both are the same
--     asks_for asked row           the interest asks for this
--     AreFoundIn sets rows         in order of id, and by what they ask for the sets have their ids
use Rattle.std.specs.Prelude.{◌≡◌, ℕ, Bool, ◌==◌, ◌&&◌, Option}
use Rattle.std.specs.BTreeSet.{BTreeSet}
use Rattle.std.specs.Option.{option_eq}
use Rattle.std.specs.Ordering.{is_eq, nat_cmp, ordering_then}
use Rattle.std.specs.declared.cmp.Ordering.{Ordering}
use Rattle.zt_protocol.specs.declared.interests.InterestOptions.{InterestOptions}
use Rattle.zt_face.specs.Ids.{is_under}
use Rattle.zt_rows.specs.ById.{IsInOrder}
use Rattle.zt_model.specs.Lists.{at_id, is_some_and}
use Rattle.zt_model.specs.Routing.{expression_order}
use Rattle.zt_model.specs.Rows.{ById, InterestRow}

abbrev pub Asked : Type 0 → Type 0
Asked K = Option K × InterestOptions

module _ {K : Type 0} where
  abbrev pub asked_by : InterestRow K → Asked K
  asked_by row = (row.expr, row.options)

  abbrev pub asked_eq : (K → K → Bool) → Asked K → Asked K → Bool
  asked_eq eq a b = option_eq eq a.0 b.0 && (a.1.0 == b.1.0)

  module _ (cmp : K → K → Ordering) (matching : K → K → Bool) where
    abbrev pub asks_for : Asked K → InterestRow K → Bool
    asks_for asked row = is_eq (ordering_then (expression_order cmp matching asked.0 row.expr) (nat_cmp asked.1.0 row.options.0))

    pub record AreFoundIn (sets : Asked K → Option (BTreeSet ℕ)) (rows : ById (InterestRow K)) : Type 0 where
      pub ordered : IsInOrder rows
      pub at : (asked : Asked K) (id : ℕ) → is_under (sets asked) id ≡ is_some_and (at_id id rows) (asks_for asked)
