-- What a resource has of others: the fold of `aggregate`.
use Rattle.std.specs.Prelude.{◌≡◌, ℕ, Bool, if◌then◌else◌, List, [], ◌∷◌, Option, Some, None, filter, map}
use Rattle.std.specs.List.{remove}
use Rattle.zt_locals.specs.declared.rows.SimpleRow.{SimpleRow}
use Rattle.zt_locals.specs.declared.rows.AggregatedRow.{AggregatedRow}

-- the fold of `aggregate` over resources with their infos, from an info on, if there is one
abbrev pub folded : {R I : Type 0} → (Option I → R → I → R → I) → R → Option I → List (R × I) → Option I
folded aggregate into had [] = had
folded aggregate into had (other ∷ others) = folded aggregate into (Some (aggregate had into other.1 other.0)) others

-- a simple row's key and info
abbrev pub info_of : {Id Res Info : Type 0} → Res × SimpleRow Id Info → Res × Info
info_of row = (row.0, row.1.info)

-- an aggregated row, with an info
abbrev pub with_row_info : {Id Res Info : Type 0} → Res × AggregatedRow Id Info → Option Info → Res × AggregatedRow Id Info
with_row_info row info = (row.0, record { id = row.1.id; info = info; interests = row.1.interests })

module _ {Res Info : Type 0} (matching : Res → Res → Bool) (aggregate : Option Info → Res → Info → Res → Info) where
  module _ {Id : Type 0} where
    -- what a resource has of the simple rows that match it: from scratch, and `None` where none does
    unfoldable pub aggregate_of : Res → List (Res × SimpleRow Id Info) → Option Info
    aggregate_of into rows = folded aggregate into None (map info_of (filter (λ row. matching into row.0) rows))

    -- the aggregated rows, each with the info that it has of some simple rows
    abbrev pub refreshed : List (Res × SimpleRow Id Info) → List (Res × AggregatedRow Id Info) → List (Res × AggregatedRow Id Info)
    refreshed simple rows = map (λ row. with_row_info row (aggregate_of row.0 simple)) rows

    -- each aggregated row has the info that it has of the simple rows
    abbrev pub AreFolds : List (Res × SimpleRow Id Info) → List (Res × AggregatedRow Id Info) → Type 0
    AreFolds simple [] = Unit {0}
    AreFolds simple (row ∷ rows) = (row.1.info ≡ aggregate_of row.0 simple) × AreFolds simple rows

  -- ---- as the code goes

  -- an info with that of a resource taken in, if the two match
  abbrev pub taken_in : Res → Option Info → Res → Info → Option Info
  taken_in into had key info = if matching into key then Some (aggregate had into info key) else had

  -- an info with another taken in, if there is one
  abbrev pub with_info : Res → Option Info → Res → Option Info → Option Info
  with_info into had key None = had
  with_info into had key (Some info) = Some (aggregate had into info key)

  module _ {Id : Type 0} where
    -- an info with those of simple rows taken in
    abbrev pub fold_from : Res → Option Info → List (Res × SimpleRow Id Info) → Option Info
    fold_from into had [] = had
    fold_from into had (row ∷ rows) = fold_from into (taken_in into had row.0 row.1.info) rows

    -- what a row has without the simple row at a place, if one goes
    abbrev pub rest_of : Res × AggregatedRow Id Info → List (Res × SimpleRow Id Info) → Option ℕ → Option Info
    rest_of row simple None = row.1.info
    rest_of row simple (Some place) = fold_from row.0 None (remove simple place)

    -- the info of an aggregated row after the simple row under `key`, at the place `gone`, went, if there was one, and one with
    -- the info `come` came, if there is one
    abbrev pub info_after : List (Res × SimpleRow Id Info) → Option ℕ → Res → Option Info → Res × AggregatedRow Id Info → Option Info
    info_after simple gone key come row =
        if matching row.0 key then with_info row.0 (rest_of row simple gone) key come else row.1.info

-- the aggregated rows, each with the info that stands beside it
abbrev pub with_infos : {Id Res Info : Type 0} → List (Res × AggregatedRow Id Info) → List (Option Info) → List (Res × AggregatedRow Id Info)
with_infos [] infos = []
with_infos (row ∷ rows) [] = row ∷ rows
with_infos (row ∷ rows) (info ∷ infos) = with_row_info row info ∷ with_infos rows infos
