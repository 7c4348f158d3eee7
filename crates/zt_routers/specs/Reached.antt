-- The faces that tokens go on to, noted by their numbers.
--     has n numbers                  the number is among these
--     Notes reached old new          the numbers of those faces that are reached are there now, beside those before
--     IsInOrder numbers              numbers that rise
--     KeepsAll old new               none is lost
--     is_at_child g region c f       the face stands for the router of an entry, in a region; are_at_children: of one of these
--     is_at_new_child                and the entry wasn't in the table that counted before
--     is_own_child t f               the gateway's own tokens go on to the face by this table of a region
--     HasOnlyTable                   one region alone was handed a table
--     is_shown_by, is_hidden_by      and the region is newly shown the token, or can't see it any more
use Rattle.std.specs.Prelude.{◌≡◌, ℕ, Bool, true, ◌==◌, ◌&&◌, not, List, [], ◌∷◌}
use Rattle.std.specs.List.{list_any}
use Rattle.std.specs.List.Sorted.{IsStrictlySortedBy}
use Rattle.std.specs.Ordering.{nat_cmp}
use Rattle.std.specs.declared.cmp.Ordering.{Ordering}
use Rattle.zt_region.specs.declared.region.Region.{Region}
use Rattle.zt_region.specs.declared.region.Zid.{Zid}
use Rattle.zt_region.specs.Region.{region_eq, zid_eq}
use Rattle.zt_protocol.specs.Plain.{Trees}
use Rattle.zt_model.specs.Rows.{Face, Rows}
use Rattle.zt_model.specs.Trees.{counted_table, is_child, is_face_of_router, is_hidden, is_newly_shown}
use Rattle.zt_routers.specs.Greeting.{has_child}

abbrev pub has : ℕ → List ℕ → Bool
has n numbers = list_any (λ m. n == m) numbers

abbrev pub IsInOrder : List ℕ → Type 0
IsInOrder numbers = IsStrictlySortedBy nat_cmp numbers

abbrev pub KeepsAll : List ℕ → List ℕ → Type 0
KeepsAll old new = (n : ℕ) → has n old ≡ true → has n new ≡ true

pub record Notes {K : Type 0} (reached : Face K → Bool) (old new : List ℕ) : Type 0 where
  pub kept : KeepsAll old new
  pub there : (f : Face K) → reached f ≡ true → has f.number new ≡ true

module _ {K : Type 0} (g : Rows K) (region : Region) where
  abbrev pub is_at_child : Zid × Zid → Face K → Bool
  is_at_child c f = region_eq f.region region && (zid_eq f.zid c.1 && is_face_of_router g f)

  abbrev pub are_at_children : List (Zid × Zid) → Face K → Bool
  are_at_children cs f = list_any (λ c. is_at_child c f) cs

  abbrev pub is_at_new_child : Trees → Zid × Zid → Face K → Bool
  is_at_new_child before c f = not (has_child before c.0 c.1) && is_at_child c f

  abbrev pub are_at_new_children : Trees → List (Zid × Zid) → Face K → Bool
  are_at_new_children before cs f = list_any (λ c. is_at_new_child before c f) cs

abbrev pub HasOnlyTable : {K : Type 0} → Region → Rows K → Type 0
HasOnlyTable region g = (t : Trees) × (g.trees ≡ (region, t) ∷ [])

abbrev pub is_own_child : {K : Type 0} → Rows K → Region × Trees → Face K → Bool
is_own_child g t f = region_eq f.region t.0 && is_child g (counted_table t.1) g.zid f

module _ {K : Type 0} (cmp : K → K → Ordering) (g : Rows K) (source : Region) (e : K) where
  abbrev pub is_shown_by : Region × Trees → Face K → Bool
  is_shown_by t f = is_newly_shown cmp g source e t.0 && is_own_child g t f

  abbrev pub is_hidden_by : Region × Trees → Face K → Bool
  is_hidden_by t f = is_hidden cmp g source e t.0 && is_own_child g t f
