-- Of an expression that is gone everywhere no face needs to be asked whether it sees it.
use Rattle.std.proofs.Common.{◌≡◌, ℕ, Bool, true, false, ◌&&◌, not, List, [], ◌∷◌, Option, ap, refl, sym, ◌∙◌}
use Rattle.std.specs.List.{list_any}
use Rattle.std.specs.declared.cmp.Ordering.{Ordering}
use Rattle.zt_keys.specs.Test.{by_test}
use Rattle.zt_region.specs.declared.region.Region.{Region}
use Rattle.zt_region.specs.declared.region.Region.TheVariants.{Local}
use Rattle.zt_region.specs.declared.region.WhatAmI.{WhatAmI}
use Rattle.zt_model.specs.Lists.{same}
use Rattle.zt_model.specs.Parts.{told_id}
use Rattle.zt_model.specs.Rows.{Face, Rows}
use Rattle.zt_model.specs.Telling.{forget_to}
use Rattle.zt_model.specs.Visible.{is_visible, live_rows, shows}
use Rattle.zt_tokens.specs.Gone.{IsGone, forget_by}

unseen : (b : Bool) → not b ≡ true → b ≡ false
unseen true h = sym h
unseen false h = refl

module _ {K : Type 0} (cmp : K → K → Ordering) where
  -- faces of the region Local see each live token
  local-sees : (mode : WhatAmI) (e : K) (own : Region) (rows : List (Region × K)) → list_any (λ row. same cmp e row.1 && shows mode Local row.0) rows ≡ false → list_any (λ row. same cmp e row.1 && shows mode own row.0) rows ≡ false
  local-sees mode e own [] none = refl
  local-sees mode e own (row ∷ rows) none =
      by_test (same cmp e row.1)
      (λ t. let never = rw t at none in cc)
      (λ t. rw t (local-sees mode e own rows (rw t at none)))

  pub gone : (g : Rows K) (e : K) → not (is_visible cmp g Local e) ≡ true → IsGone cmp g e
  unfolding is_visible
  gone g e none own = local-sees g.mode e own (live_rows g) (unseen _ none)

  -- what a face hears, by the id under which it was told the expression
  pub forgets-by : (matching : K → K → Bool) (is_gone : Bool) (g : Rows K) (source : Region) (e : K) → (is_gone ≡ true → IsGone cmp g e) → (f : Face K) (told : Option ℕ) → told ≡ told_id cmp e f.told
      → forget_by cmp matching is_gone g source e f told ≡ forget_to cmp matching g source e f
  unfolding forget_to
  forgets-by matching is_gone g source e are f told is = ap (forget_by cmp matching is_gone g source e f) is ∙ known is_gone are
    where
      known : (is_gone : Bool) → (is_gone ≡ true → IsGone cmp g e) → forget_by cmp matching is_gone g source e f (told_id cmp e f.told) ≡ forget_to cmp matching g source e f
      known true are = let unseen = are refl f.region in rw unseen refl
      known false are = refl
