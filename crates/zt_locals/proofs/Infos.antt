-- Aggregated rows and the infos beside them.
use Rattle.std.proofs.Common.{◌≡◌, ℕ, suc, zero, ◌+◌, ◌<◌, List, [], ◌∷◌, ◌++◌, length, get_or, set, take, drop, Option, ap, ap₂, ◌∙◌, arith, add-one}
use Rattle.zt_locals.specs.declared.rows.AggregatedRow.{AggregatedRow}
use Rattle.zt_locals.specs.Folding.{with_row_info, with_infos}

module _ {Id Res Info : Type 0} where
  set_step :
      (rows : List (Res × AggregatedRow Id Info)) (infos : List (Option Info)) (i : ℕ) (row : Res × AggregatedRow Id Info) (info : Option Info) → i < length rows → length rows ≡ length infos
      → row ≡ get_or (with_infos (take i rows) (take i infos) ++ drop i rows) i row → info ≡ get_or infos i info
      → set (with_infos (take i rows) (take i infos) ++ drop i rows) i (with_row_info row info) ≡ with_infos (take (suc i) rows) (take (suc i) infos) ++ drop (suc i) rows
  set_step [] infos i row info lt same r f = absurd (omega arith)
  set_step (x ∷ rows) [] i row info lt same r f = absurd (omega arith)
  set_step (x ∷ rows) (y ∷ infos) zero row info lt same r f = ap₂ (λ (q : Res × AggregatedRow Id Info) (o : Option Info). with_row_info q o ∷ rows) r f
  set_step (x ∷ rows) (y ∷ infos) (suc i) row info lt same r f = ap (λ l. with_row_info x y ∷ l) (set_step rows infos i row info (omega arith) (omega arith) r f)

  pub infos_set :
      (rows : List (Res × AggregatedRow Id Info)) (infos : List (Option Info)) (i : ℕ) (row : Res × AggregatedRow Id Info) (info : Option Info) (now : List (Res × AggregatedRow Id Info)) → i < length infos → length rows ≡ length infos
      → now ≡ with_infos (take i rows) (take i infos) ++ drop i rows → row ≡ get_or now i row → info ≡ get_or infos i info
      → set now i (with_row_info row info) ≡ with_infos (take (i + 1) rows) (take (i + 1) infos) ++ drop (i + 1) rows
  infos_set rows infos i row info now lt same is r f =
      rw add-one (ap (λ l. set l i (with_row_info row info)) is ∙ set_step rows infos i row info (omega arith) same (r ∙ ap (λ l. get_or l i row) is) f)
