-- The table of a region, among tables in order of region.
--     put-entry       what is put in stands where the definitions put it
--     table-some      a table that is found is the region's
--     table-none      where none is found, nothing is listed
use Rattle.std.proofs.Common.{◌≡◌, IfNone, IfSome, List, [], ◌∷◌, Option, Some, None, ap, refl, sym, ◌∙◌}
use Rattle.std.proofs.lemmas.Option.{same_Some}
use Rattle.std.specs.BTreeMap.{insert_entry, is_at}
use Rattle.std.specs.FinMap.Entries.{by_order, put}
use Rattle.std.specs.Map.{lookup}
use Rattle.std.specs.Option.{option_map}
use Rattle.std.specs.Ordering.{is_eq, match_ordering}
use Rattle.std.specs.declared.cmp.Ordering.{Ordering}
use Rattle.std.specs.declared.cmp.Ordering.TheVariants.{Less, Equal, Greater}
use Rattle.zt_keys.specs.Test.{by_test}
use Rattle.zt_region.specs.Region.{region_eq}
use Rattle.zt_region.specs.contracts.region.RegionOrd.TheImpl.{ghosts}
use Rattle.zt_region.specs.declared.region.Region.{Region}
use Rattle.zt_protocol.specs.Plain.{Trees}
use Rattle.zt_model.specs.Lists.{first_where}
use Rattle.zt_model.specs.Rows.{Rows}
use Rattle.zt_model.specs.Trees.{counted_table, table_of}
use Rattle.zt_link_state.proofs.Regions.{region_cmp-order, region_order_eq}

pub put-entry : {Q A : Type 0} (cmp : Q → Q → Ordering) (key : Q) (value : A) (rows : List (Q × A)) → insert_entry cmp rows key value ≡ put cmp key value rows
put-entry cmp key value [] = refl
put-entry cmp key value (row ∷ rows) = place (cmp key row.0) (put-entry cmp key value rows)
  where
    place : (o : Ordering) → insert_entry cmp rows key value ≡ put cmp key value rows
        → match_ordering o ((key, value) ∷ row ∷ rows) ((row.0, value) ∷ rows) (row ∷ insert_entry cmp rows key value)
        ≡ by_order o ((key, value) ∷ row ∷ rows) ((row.0, value) ∷ rows) (row ∷ put cmp key value rows)
    place Less rest = refl
    place Equal rest = refl
    place Greater rest = ap (λ es. row ∷ es) rest

first-found : {A : Type 0} (region : Region) (rows : List (Region × A)) → option_map (λ t. t.1) (first_where (λ t. region_eq region t.0) rows) ≡ lookup (is_at (ghosts.cmp region)) rows
first-found region [] = refl
first-found region (t ∷ rows) =
    let same : is_at (ghosts.cmp region) t.0 ≡ region_eq region t.0 = ap is_eq (region_cmp-order region t.0) ∙ region_order_eq region t.0 in
    by_test (region_eq region t.0)
    (λ here. rw (here, same ∙ here) refl)
    (λ there. rw (there, same ∙ there) (first-found region rows))

module _ {A K : Type 0} (now : A → Trees) (g : Rows K) (region : Region) where
  some-by : (o : Option (Region × Trees)) (found : Option A) → option_map now found ≡ option_map (λ t. t.1) o
      → IfSome found (λ t. counted_table (now t) ≡ elim o [ None ↦ record { routers = []; links = []; children = [] } | Some t ↦ counted_table t.1 ])
  some-by o None is = tt
  some-by None (Some t) is = cc
  some-by (Some x) (Some t) is = ap counted_table (same_Some _ _ is)

  none-by : (o : Option (Region × Trees)) (found : Option A) → option_map now found ≡ option_map (λ t. t.1) o
      → IfNone found (◌≡◌ {A = Trees} (elim o [ None ↦ record { routers = []; links = []; children = [] } | Some t ↦ counted_table t.1 ]) (record { routers = []; links = []; children = [] }))
  none-by o (Some t) is = tt
  none-by None None is = refl
  none-by (Some x) None is = cc

  pub table-some : (found : Option A) → option_map now found ≡ lookup (is_at (ghosts.cmp region)) g.trees → IfSome found (λ t. counted_table (now t) ≡ table_of g region)
  unfolding table_of
  table-some found is = some-by (first_where (λ t. region_eq region t.0) g.trees) found (is ∙ sym (first-found region g.trees))

  pub table-none : (found : Option A) → option_map now found ≡ lookup (is_at (ghosts.cmp region)) g.trees → IfNone found (table_of g region ≡ record { routers = []; links = []; children = [] })
  unfolding table_of
  table-none found is = none-by (first_where (λ t. region_eq region t.0) g.trees) found (is ∙ sym (first-found region g.trees))
