-- What is promised of what faces keep: no more than one bound, and no less than the other.
use Rattle.std.specs.Prelude.{◌≡◌, Bool, true, false}
use Rattle.std.specs.declared.cmp.Ordering.{Ordering}
use Rattle.zt_model.specs.Fabric.{Fabric, Node}
use Rattle.zt_model.specs.Parts.{is_routed}
use Rattle.zt_model.specs.Rows.{Face, Rows}
use Rattle.zt_model.specs.Seen.{is_owed, is_seen, is_seen_and_admitted, may_hear}
use Rattle.zt_model.specs.Transcript.{Each}
use Rattle.zt_model.specs.Visible.{keeps}

-- a fact of each open face outside router regions
abbrev pub EachPlainFace : {K : Type 0} → (Rows K → Face K → Type 0) → Fabric K → Type 0
EachPlainFace {K} P s = Each (λ (node : Node K). Each (λ f. is_routed node.rows f ≡ false → P node.rows f) node.rows.faces) s.gateways

module _ {K : Type 0} (cmp : K → K → Ordering) (matching : K → K → Bool) where
  -- A face keeps only visible tokens that it may hear of.
  pub record KeepsNoMore (g : Rows K) (f : Face K) : Type 0 where
    pub is_visible : (e : K) → keeps cmp f e ≡ true → is_seen cmp g f.region e ≡ true
    pub is_sought : (e : K) → keeps cmp f e ≡ true → may_hear matching f e ≡ true

  -- A face keeps every admitted token that is owed to it.
  abbrev pub KeepsNoLess : Rows K → Face K → Type 0
  KeepsNoLess g f = (e : K) → is_seen_and_admitted cmp g f.region e ≡ true → is_owed matching f e ≡ true → keeps cmp f e ≡ true
