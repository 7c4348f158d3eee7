-- What a gateway's look-ups have to be.
--     routed_live zid routed                      the tokens of other routers, each under its region
--     IsIndexed cmp anchored zid made routed faces live seeking
--                                                 numbers rise up to `made`, each face's tokens stand in order of id, the
--                                                 counts are those of the live tokens, and the look-ups find which faces
--                                                 may be told of tokens, and what faces were told
--     KeepsDeclared f g                           the face keeps its number, its region and its tokens
--     KeepsLive f g                               the face keeps its number, its region, its tokens, its interests and
--                                                 what it was told
use Rattle.std.specs.Prelude.{◌≡◌, ℕ, true, not, List, ◌++◌, Option, map, filter}
use Rattle.std.specs.FinMap.Entries.{is_sorted}
use Rattle.std.specs.List.{AllByRecursion, flat_map}
use Rattle.std.specs.Ordering.{nat_cmp}
use Rattle.std.specs.declared.cmp.Ordering.{Ordering}
use Rattle.zt_region.specs.Region.{zid_eq}
use Rattle.zt_region.specs.declared.region.Region.{Region}
use Rattle.zt_region.specs.declared.region.Zid.{Zid}
use Rattle.zt_keys.specs.declared.anchor.Anchor.{Anchor}
use Rattle.zt_indexes.specs.Rows.{AreCountsOf}
use Rattle.zt_token_index.specs.Seekers.{AreSeekers, Seeking}
use Rattle.zt_model.specs.Rows.{Face, RoutedRow}
use Rattle.zt_model.specs.Visible.{rows_of_face}
use Rattle.zt_faces.specs.Rising.{AreUpTo, IsRising}

abbrev pub routed_live : {K : Type 0} → Zid → List (RoutedRow K) → List (Region × K)
routed_live zid routed = map (λ row. (row.region, row.expr)) (filter (λ row. not (zid_eq row.source zid)) routed)

abbrev pub HasLiveInOrder : {K : Type 0} → Face K → Type 0
HasLiveInOrder f = is_sorted nat_cmp f.live ≡ true

pub record IsIndexed {K : Type 0} (cmp : K → K → Ordering) (anchored : Anchor → K → Option ℕ) (zid : Zid) (made : ℕ) (routed : List (RoutedRow K)) (faces : List (Face K)) (live : List (K × List (Region × ℕ))) (seeking : Seeking K) : Type 0 where
  pub rising : IsRising (λ f. f.number) faces
  pub up_to : AreUpTo (λ f. f.number) made faces
  pub in_order : AllByRecursion HasLiveInOrder faces
  pub counts : AreCountsOf cmp live (flat_map rows_of_face faces ++ routed_live zid routed)
  pub seekers : AreSeekers cmp anchored seeking faces

pub record KeepsDeclared {K : Type 0} (f g : Face K) : Type 0 where
  pub number : g.number ≡ f.number
  pub region : g.region ≡ f.region
  pub live : g.live ≡ f.live

pub record KeepsLive {K : Type 0} (f g : Face K) : Type 0 where
  pub number : g.number ≡ f.number
  pub region : g.region ≡ f.region
  pub live : g.live ≡ f.live
  pub held : g.held ≡ f.held
  pub told : g.told ≡ f.told
