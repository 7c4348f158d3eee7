-- What faces may hear of, and what is owed to them, by the rows of their interests.
use Rattle.std.proofs.Common.{◌≡◌, ℕ, ◌||◌, ◌&&◌, Bool, List, [], ◌∷◌, map, refl, ap}
use Rattle.std.specs.List.{list_any}
use Rattle.zt_protocol.specs.Interest.{is_current}
use Rattle.zt_region.specs.Region.{is_north}
use Rattle.zt_model.specs.Rows.{Face, InterestRow}
use Rattle.zt_model.specs.Seen.{concerns, is_interested, is_owed, may_hear}

of_rows : {A : Type 0} (p : A → Bool) (rows : List (ℕ × A)) → list_any (λ row. p row.1) rows ≡ list_any p (map (λ row. row.1) rows)
of_rows p [] = refl
of_rows p (row ∷ rows) = ap (λ b. p row.1 || b) (of_rows p rows)

module _ {K : Type 0} (matching : K → K → Bool) where
  pub hears : (f : Face K) (e : K) → (is_north f.region || list_any (λ row. concerns matching row.1 e) f.held) ≡ may_hear matching f e
  unfolding is_interested may_hear
  hears f e = ap (λ b. is_north f.region || b) (of_rows (λ (interest : InterestRow K). concerns matching interest e) f.held)

  pub owes : (f : Face K) (e : K) → (is_north f.region || list_any (λ row. concerns matching row.1 e && is_current row.1.mode) f.held) ≡ is_owed matching f e
  unfolding is_owed
  owes f e = ap (λ b. is_north f.region || b) (of_rows (λ (interest : InterestRow K). concerns matching interest e && is_current interest.mode) f.held)
