-- The router that a face means by a node id.
use Rattle.std.proofs.Common.{◌≡◌, ℕ, ◌==◌, ◌&&◌, if◌then◌else◌, [], Option, None, Some, option_map, refl, ap, sym, ◌∙◌}
use Rattle.zt_region.specs.declared.region.Region.{Region}
use Rattle.zt_region.specs.declared.region.Zid.{Zid}
use Rattle.zt_region.specs.Region.{region_eq, zid_eq}
use Rattle.zt_protocol.specs.Plain.{Trees}
use Rattle.zt_model.specs.Lists.{first_where}
use Rattle.zt_model.specs.Rows.{Face, Rows}
use Rattle.zt_model.specs.Shown.{router_meant}
use Rattle.zt_model.specs.Trees.{counted_table, table_of}

-- the table that counts, by what is found of a region
abbrev table_in : Option (Region × Trees) → Trees
table_in None = record { routers = []; links = []; children = [] }
table_in (Some t) = counted_table t.1

abbrev other_than : Zid → Option Zid → Option Zid
other_than own None = None
other_than own (Some source) = if zid_eq source own then None else Some source

abbrev meant_by : Option (ℕ × ℕ × Zid) → Zid → Option Zid
meant_by link own = elim link [ None ↦ None | Some l ↦ if zid_eq l.2 own then None else Some l.2 ]

abbrev link_in : Trees → ℕ → ℕ → Option (ℕ × ℕ × Zid)
link_in t number node = first_where (λ link. (link.0 == number) && (link.1 == node)) t.links

module _ {K : Type 0} (g : Rows K) (f : Face K) (node : ℕ) where
  abbrev found : Option (Region × Trees)
  found = first_where (λ t. region_eq f.region t.0) g.trees

  table_is : (t : Option (Region × Trees)) → found ≡ t → table_of g f.region ≡ table_in t
  unfolding table_of
  table_is None is = rw (table_of, is) refl
  table_is (Some t) is = rw (table_of, is) refl

  by_table : (t : Option (Region × Trees)) → found ≡ t → router_meant g f node ≡ meant_by (link_in (table_in t) f.number node) g.zid
  by_table t is = ap (λ (y : Trees). meant_by (link_in y f.number node) g.zid) (table_is t is)

  pub meant_none : option_map (λ t. t.1) found ≡ None → None ≡ router_meant g f node
  meant_none h = go found refl h
    where
      go : (t : Option (Region × Trees)) → found ≡ t → option_map (λ x. x.1) t ≡ None → None ≡ router_meant g f node
      go None is h = sym (by_table None is)
      go (Some t) is h = absurd cc

  others : (link : Option (ℕ × ℕ × Zid)) (own : Zid) → other_than own (option_map (λ l. l.2) link) ≡ meant_by link own
  others None own = refl
  others (Some l) own = refl

  pub meant_other : (t : Trees) (source : Option Zid) → option_map (λ x. x.1) found ≡ Some t → option_map (λ l. l.2) (link_in (counted_table t) f.number node) ≡ source → other_than g.zid source ≡ router_meant g f node
  meant_other t source h linked = go found refl h
    where
      go : (x : Option (Region × Trees)) → found ≡ x → option_map (λ y. y.1) x ≡ Some t → other_than g.zid source ≡ router_meant g f node
      go None is h = absurd cc
      go (Some x) is h =
          let same : x.1 ≡ t = cc in
          ap (other_than g.zid) (sym linked)
          ∙ (others (link_in (counted_table t) f.number node) g.zid
          ∙ (ap (λ (y : Trees). meant_by (link_in (counted_table y) f.number node) g.zid) (sym same)
          ∙ sym (by_table (Some x) is)))
