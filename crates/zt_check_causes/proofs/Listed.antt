-- What tables mean and list.
use Rattle.std.proofs.Common.{◌≡◌, ℕ, ◌||◌, true, false, not, is_none, List, refl, ap}
use Rattle.std.specs.List.{list_any}
use Rattle.zt_region.specs.declared.region.Zid.{Zid}
use Rattle.zt_protocol.specs.Plain.{Trees}
use Rattle.zt_model.specs.Parts.{is_routed}
use Rattle.zt_model.specs.Refusals.{is_unknown_router, names_unlisted}
use Rattle.zt_model.specs.Rows.{Face, Rows}
use Rattle.zt_model.specs.Shown.{router_meant}
use Rattle.zt_model.specs.Trees.{counted_table, is_listed, source_of}

-- all children of a table count
children_kept : (t : Trees) → t.children ≡ (counted_table t).children
unfolding counted_table
children_kept t = refl

module _ {K : Type 0} where
  -- a face of a router region means a router by the same words as promises do
  pub meant_is : (g : Rows K) (f : Face K) (node : ℕ) → is_routed g f ≡ true → is_none (router_meant g f node) ≡ is_unknown_router node g f
  unfolding source_of
  meant_is g f node routed = rw routed refl

  -- where the gateway is listed, and the routers of all links are, the children decide
  pub children_decide : (table : Trees) (g : Rows K) → is_listed g.zid (counted_table table) ≡ true
      → list_any (λ (l : ℕ × ℕ × Zid). not (is_listed l.2 (counted_table table))) (counted_table table).links ≡ false
      → list_any (λ (c : Zid × Zid). not (is_listed c.0 (counted_table table)) || not (is_listed c.1 (counted_table table))) table.children ≡ names_unlisted (counted_table table) g
  children_decide table g listed linked =
      rw (listed, linked)
      (ap (list_any (λ (c : Zid × Zid). not (is_listed c.0 (counted_table table)) || not (is_listed c.1 (counted_table table)))) (children_kept table))
