-- Lists in order and without doubles: what every call leaves true of a gateway's rows.
use Rattle.std.specs.Prelude.{◌≡◌, ℕ, ◌≤◌, Bool, true, false, List, [], ◌∷◌, length, map}
use Rattle.std.specs.declared.cmp.Ordering.{Ordering}
use Rattle.std.specs.declared.cmp.Ordering.TheVariants.{Less}
use Rattle.zt_model.specs.Fabric.{Fabric, Node, Place}
use Rattle.zt_model.specs.Lists.{is_among}
use Rattle.zt_model.specs.Rows.{Face, Rows}
use Rattle.zt_model.specs.Transcript.{Each}
use Rattle.zt_model.specs.Trees.{region_order, routed_order}
use Rattle.zt_laws.specs.Sound.{EachFrom, IsToldInOrder, RiseFrom, is_placed, places_of}

module _ {K : Type 0} (cmp : K → K → Ordering) where
  -- keys in order, each once
  abbrev pub InKeyOrder : List K → Type 0
  InKeyOrder [] = Unit {0}
  InKeyOrder (k ∷ ks) = Each (λ x. cmp k x ≡ Less) ks × InKeyOrder ks

  -- no key stands twice
  abbrev pub KeysOnce : List K → Type 0
  KeysOnce [] = Unit {0}
  KeysOnce (k ∷ ks) = (is_among cmp k ks ≡ false) × KeysOnce ks

-- of a face, each of these lists stands in order of id, without doubles
pub record HasRowsInOrder {K : Type 0} (f : Face K) : Type 0 where
  pub live : RiseFrom (λ row. row.0) 0 f.live
  pub held : RiseFrom (λ row. row.0) 0 f.held
  pub locals : RiseFrom (λ row. row.0) 0 f.locals
  pub pendings : RiseFrom (λ row. row.0) 0 f.pendings
  pub asks : RiseFrom (λ row. row.0) 0 f.asks

module _ {K : Type 0} (cmp : K → K → Ordering) (matching : K → K → Bool) where
  -- faces stand in order of number, and their lists in order; so do routed rows, by region, source and expression, and
  -- tables, by region; no expression has two numbers in the dictionary
  pub record ListsAreInOrder (g : Rows K) : Type 0 where
    pub faces_rise : RiseFrom (λ f. f.number) 1 g.faces
    pub faces_made : Each (λ f. f.number ≤ g.made) g.faces
    pub rows : Each HasRowsInOrder g.faces
    pub routed : InKeyOrder (routed_order cmp) g.routed
    pub trees : InKeyOrder region_order (map (λ t. t.0) g.trees)
    pub dictionary : KeysOnce cmp g.dictionary

  -- and what each face was told stands under ids that rise from 1, below the next one, one for an expression
  pub record RowsAreInOrder (g : Rows K) : Type 0 where
    pub lists : ListsAreInOrder g
    pub told : Each (λ f. IsToldInOrder cmp f.told f.next) g.faces

  -- the n-th gateway: its rows are in order, each face has a number in scripts, and these rise as those at the gateway do
  pub record GatewayIsInOrder (places : List Place) (n : ℕ) (g : Rows K) : Type 0 where
    pub rows : RowsAreInOrder g
    pub placed : Each (λ f. is_placed n f.number places ≡ true) g.faces
    pub places_rise : RiseFrom (λ p. p.face) 1 (places_of n places)
    pub places_made : Each (λ p. p.face ≤ g.made) (places_of n places)

  -- each gateway is in order, and no place is at a gateway that isn't there
  pub record FabricIsInOrder (s : Fabric K) : Type 0 where
    pub gateways : EachFrom (λ n (node : Node K). GatewayIsInOrder s.faces n node.rows) 1 s.gateways
    pub places_exist : Each (λ p. p.gateway ≤ length s.gateways) s.faces
