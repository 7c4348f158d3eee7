-- What a face hears of an expression that is gone from a region, where none is asked what it sees of one that
-- is gone everywhere.
use Rattle.std.specs.Prelude.{◌≡◌, ℕ, Bool, false, ◌&&◌, ◌||◌, not, if◌then◌else◌, List, [], ◌∷◌, Option, Some, None}
use Rattle.std.specs.declared.cmp.Ordering.{Ordering}
use Rattle.zt_region.specs.declared.region.Region.{Region}
use Rattle.zt_protocol.specs.declared.messages.Message.{Message}
use Rattle.zt_protocol.specs.declared.messages.Message.TheVariants as message
use Rattle.zt_token_index.specs.Told.{id_of}
use Rattle.zt_model.specs.Parts.{is_routed}
use Rattle.zt_model.specs.Rows.{Face, Rows}
use Rattle.zt_model.specs.Telling.{forget_untold}
use Rattle.zt_model.specs.Visible.{is_visible}

module _ {K : Type 0} (cmp : K → K → Ordering) where
  -- faces of no region see the expression
  abbrev pub IsGone : Rows K → K → Type 0
  IsGone g e = (own : Region) → is_visible cmp g own e ≡ false

  -- whether faces of the region see the expression, as far as it isn't gone
  abbrev pub is_seen : Bool → Rows K → Region → K → Bool
  is_seen is_gone g own e = not is_gone && is_visible cmp g own e

  module _ (matching : K → K → Bool) (is_gone : Bool) (g : Rows K) (source : Region) (e : K) where
    -- what a face hears that was told the expression under an id, or not at all, where it is known whether
    -- the expression is gone
    abbrev pub forget_by : Face K → Option ℕ → List (Message K)
    forget_by f known =
        if is_routed g f || is_seen is_gone g f.region e then []
        else elim known [ None ↦ forget_untold cmp matching g source e f | Some id ↦ message.UndeclareToken id None 0 ∷ [] ]

    -- the same, by pairs of face and id
    abbrev pub forget_told : List (ℕ × ℕ) → Face K → List (Message K)
    forget_told pairs f = forget_by f (id_of f.number pairs)
