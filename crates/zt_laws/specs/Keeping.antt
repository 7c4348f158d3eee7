-- What faces are to keep, in the words that the machine goes by. The theorems are proved in these. What a transcript
-- promises says the same in words of its own (`KeepsWhatItShould` of `Transcript`), and each follows from the other.
use Rattle.std.specs.Prelude.{◌≡◌, Bool, true, false}
use Rattle.std.specs.declared.cmp.Ordering.{Ordering}
use Rattle.zt_model.specs.Fabric.{Fabric, Node}
use Rattle.zt_model.specs.Parts.{is_routed}
use Rattle.zt_model.specs.Rows.{Face, Rows}
use Rattle.zt_model.specs.Transcript.{Each}
use Rattle.zt_model.specs.Visible.{is_admitted, is_visible, keeps}
use Rattle.zt_model.specs.Wants.{covers, seeks}

module _ {K : Type 0} (cmp : K → K → Ordering) (matching : K → K → Bool) where
  -- only visible tokens that the face seeks, among them every admitted one that it covers
  pub record KeepsRight (g : Rows K) (f : Face K) : Type 0 where
    pub kept_is_visible : (e : K) → keeps cmp f e ≡ true → is_visible cmp g f.region e ≡ true
    pub kept_is_sought : (e : K) → keeps cmp f e ≡ true → seeks matching g.mode f e ≡ true
    pub admitted_is_kept : (e : K) → is_admitted cmp g f.region e ≡ true → covers matching g.mode f e ≡ true → keeps cmp f e ≡ true

  -- each open face outside router regions keeps these
  abbrev pub FacesKeepRight : Rows K → Type 0
  FacesKeepRight g = Each (λ f. is_routed g f ≡ false → KeepsRight g f) g.faces

  abbrev pub AllKeepRight : Fabric K → Type 0
  AllKeepRight s = Each (λ (node : Node K). FacesKeepRight node.rows) s.gateways
