-- What is looked up in a table that is kept, in the words of the definitions.
--     FindsNodes nodes routers       under a router's number stands the node id of the first entry that is the router's
--     FindsBehind behind links       under a face and a node id stands the router of the first such link
--     AreBySource entries children   a source and a router are among these where an entry has them, in order of both
--     HaveChildrenOf source some all a router stands second in some where it is the source's child among all
--     AreLookups                     each is made of the entries of a table that count
use Rattle.std.specs.Prelude.{◌≡◌, ℕ, ◌==◌, ◌&&◌, List, option_map}
use Rattle.std.specs.List.{list_any}
use Rattle.std.specs.List.Sorted.{IsSorted}
use Rattle.std.specs.Map.{lookup}
use Rattle.std.specs.Ordering.{nat_cmp}
use Rattle.zt_region.specs.declared.region.Zid.{Zid}
use Rattle.zt_region.specs.Region.{zid_eq}
use Rattle.zt_protocol.specs.Plain.{Trees}
use Rattle.zt_model.specs.Lists.{first_where, in_key_order}
use Rattle.zt_model.specs.Trees.{counted_table}
use Rattle.zt_link_state.specs.KeysOf.{child_cmp, node_key_eq}

pub record FindsNodes (nodes : List (Zid × ℕ)) (routers : List (ℕ × Zid)) : Type 0 where
  pub at : (zid : Zid) → lookup (zid_eq zid) nodes ≡ option_map (λ r. r.0) (first_where (λ r. zid_eq zid r.1) routers)

pub record FindsBehind (behind : List ((ℕ × ℕ) × Zid)) (links : List (ℕ × ℕ × Zid)) : Type 0 where
  pub at : (face node : ℕ) → lookup (node_key_eq (face, node)) behind ≡ option_map (λ l. l.2) (first_where (λ l. (l.0 == face) && (l.1 == node)) links)

abbrev pub number_of_source : Zid × Zid → ℕ
number_of_source c = c.0.0

pub record AreBySource (entries children : List (Zid × Zid)) : Type 0 where
  pub ordered : IsSorted child_cmp entries
  pub at : (source router : Zid) → list_any (λ c. zid_eq source c.0 && zid_eq router c.1) entries ≡ list_any (λ c. zid_eq source c.0 && zid_eq router c.1) children

pub record HaveChildrenOf (source : Zid) (some all : List (Zid × Zid)) : Type 0 where
  pub at : (router : Zid) → list_any (λ c. zid_eq router c.1) some ≡ list_any (λ c. zid_eq source c.0 && zid_eq router c.1) all

-- routers in order of node id
abbrev pub by_node : List (ℕ × Zid) → List (ℕ × Zid)
by_node routers = in_key_order (λ a b. nat_cmp a.0 b.0) routers

pub record AreLookups (t : Trees) (in_order : List (ℕ × Zid)) (nodes : List (Zid × ℕ)) (behind : List ((ℕ × ℕ) × Zid)) (by_source : List (Zid × Zid)) : Type 0 where
  pub ordered : in_order ≡ by_node (counted_table t).routers
  pub finds_nodes : FindsNodes nodes (counted_table t).routers
  pub finds_behind : FindsBehind behind (counted_table t).links
  pub children_by_source : AreBySource by_source (counted_table t).children
