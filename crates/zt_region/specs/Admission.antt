-- Which pairs of regions an admission table admits.
use Rattle.std.specs.Prelude.{◌≡◌, ◌↔◌, Bool, true, ◌&&◌, List, not, IsFalse, Contains}
use Rattle.std.specs.List.{list_any}
use Rattle.zt_region.specs.declared.region.Region.{Region}
use Rattle.std.proofs.Common.{sym, subst, ap, ◌∙◌}
use Rattle.std.proofs.lemmas.Bool.{and_from, and_parts, not-false, not_from_true}
use Rattle.std.proofs.lemmas.List.Folds.{list_any_at}
use Rattle.std.proofs.lemmas.Map.Views.{Contains-from_any}
use Rattle.zt_region.specs.Region.{region_eq, region_eq-refl, region_eq-same}

abbrev pub is_pair : Region → Region → Region × Region → Bool
is_pair src dst pair = region_eq pair.0 src && region_eq pair.1 dst

-- false exactly where the pair stands in the list of the refused
abbrev pub admits : List (Region × Region) → Region → Region → Bool
admits refused src dst = not (list_any (is_pair src dst) refused)

pub is_pair-refl : (src dst : Region) → is_pair src dst (src, dst) ≡ true
is_pair-refl src dst = and_from _ _ (region_eq-refl src) (region_eq-refl dst)

pub is_pair-same : (one other : Region × Region) → is_pair one.0 one.1 other ≡ true → one ≡ other
is_pair-same one other h =
    let both = and_parts (region_eq other.0 one.0) (region_eq other.1 one.1) h in
    let first : other.0 ≡ one.0 = region_eq-same _ _ both.0 in
    let second : other.1 ≡ one.1 = region_eq-same _ _ both.1 in
    ap (λ (r : Region). (r, one.1)) (sym first) ∙ ap (λ (r : Region). (other.0, r)) (sym second)

-- `admits` answers false exactly at the pairs of the list
pub admits-iff :
    (refused : List (Region × Region)) (src dst : Region)
    → IsFalse (admits refused src dst) ↔ Contains refused (src, dst)
admits-iff refused src dst = (
  λ h. Contains-from_any {eq = λ one other. is_pair one.0 one.1 other} is_pair-same (src, dst) refused
      (not-false (list_any (is_pair src dst) refused) h),
  λ at. let found : list_any (is_pair src dst) refused ≡ true =
      list_any_at (is_pair src dst) refused at.0 (src, dst) at.1
      (subst (λ p. is_pair src dst p ≡ true) (sym at.2) (is_pair-refl src dst)) in
      not_from_true _ found,
)
