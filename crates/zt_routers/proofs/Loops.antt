-- Loops over regions, of which those are kept that pass a test.
use Rattle.std.proofs.Common.{◌≡◌, ◌+◌, ◌<◌, ◌≤◌, ◌++◌, ◌∷◌, ℕ, Bool, true, List, [], ap, append_assoc, drop, filter, get_or, length, refl, sym, ◌∙◌}
use Rattle.std.proofs.lemmas.Bool.{false≢true}
use Rattle.std.proofs.lemmas.List.{append-nil, drop_all, drop_more}
use Rattle.std.proofs.lemmas.List.Elements.{filter-append}
use Rattle.zt_keys.specs.Test.{by_test}
use Rattle.zt_region.specs.declared.region.Region.{Region}
use Rattle.zt_region.specs.declared.region.Region.TheVariants.{North, Local, South}
use Rattle.zt_region.specs.declared.region.WhatAmI.{WhatAmI}
use Rattle.zt_region.specs.declared.region.WhatAmI.TheVariants.{Router, Peer, Client}
use Rattle.zt_lookups.specs.Listed.{may_go_by_trees}
use Rattle.zt_model.specs.Hat.{hat_of}
use Rattle.zt_model.specs.Rows.{Rows}

-- the router regions among these that pass a test
abbrev pub kept_regions : {K : Type 0} → Rows K → (Region → Bool) → List Region → List Region
kept_regions g test regions = filter test (filter (λ r. (hat_of g.mode r).goes_by_trees) regions)

module _ {K : Type 0} (g : Rows K) (test : Region → Bool) where
  -- one region, and those behind it
  pub kept-cons : (r : Region) (rs : List Region) → kept_regions g test (r ∷ []) ++ kept_regions g test rs ≡ kept_regions g test (r ∷ rs)
  kept-cons r rs =
      let listed : Region → Bool = λ s. (hat_of g.mode s).goes_by_trees in
      sym (filter-append test (filter listed (r ∷ [])) (filter listed rs)) ∙ ap (filter test) (sym (filter-append listed (r ∷ []) rs))

  pub kept_more : (rs : List Region) (i : ℕ) (d : Region) (before after all : List Region) → i < length rs
      → before ++ kept_regions g test (drop i rs) ≡ all
      → after ≡ before ++ kept_regions g test (get_or rs i d ∷ [])
      → after ++ kept_regions g test (drop (i + 1) rs) ≡ all
  kept_more rs i d before after all within left more =
      let r = get_or rs i d in
      ap (λ bs. bs ++ kept_regions g test (drop (i + 1) rs)) more
      ∙ append_assoc before (kept_regions g test (r ∷ [])) (kept_regions g test (drop (i + 1) rs))
      ∙ ap (λ bs. before ++ bs) (kept-cons r (drop (i + 1) rs))
      ∙ ap (λ bs. before ++ kept_regions g test bs) (sym (drop_more rs i d within))
      ∙ left

  pub kept_done : (rs : List Region) (i : ℕ) (before all : List Region) → length rs ≤ i
      → before ++ kept_regions g test (drop i rs) ≡ all → before ≡ all
  kept_done rs i before all past left =
      sym (append-nil before) ∙ ap (λ bs. before ++ kept_regions g test bs) (sym (drop_all i rs past)) ∙ left

-- ---- the listed regions that can be router regions

-- only a region that can be one goes by trees
goes_may : (mode : WhatAmI) (r : Region) → (hat_of mode r).goes_by_trees ≡ true → may_go_by_trees r ≡ true
goes_may mode North goes = refl
goes_may mode Local goes = absurd (false≢true goes)
goes_may mode (South id Router) goes = refl
goes_may mode (South id Peer) goes = absurd (false≢true goes)
goes_may mode (South id Client) goes = absurd (false≢true goes)

-- a narrower test finds the same among those that pass a wider one
filter_within : {A : Type 0} (narrow wide : A → Bool) → ((x : A) → narrow x ≡ true → wide x ≡ true) → (xs : List A) → filter narrow (filter wide xs) ≡ filter narrow xs
filter_within narrow wide within [] = refl
filter_within narrow wide within (x ∷ xs) =
    by_test (wide x)
    (λ t. rw t (by_test (narrow x)
    (λ u. rw u (ap (λ ys. x ∷ ys) (filter_within narrow wide within xs)))
    (λ u. rw u (filter_within narrow wide within xs))))
    (λ f. by_test (narrow x)
    (λ u. absurd (false≢true (sym f ∙ within x u)))
    (λ u. rw (f, u) (filter_within narrow wide within xs)))

module _ {K : Type 0} (g : Rows K) (test : Region → Bool) where
  kept_among : (rs : List Region) → kept_regions g test rs ≡ kept_regions g test (filter may_go_by_trees rs)
  kept_among rs = ap (filter test) (sym (filter_within (λ r. (hat_of g.mode r).goes_by_trees) may_go_by_trees (goes_may g.mode) rs))

  -- two lists with the same regions that can be router regions
  pub kept_alike : (r : Region) (xs ys : List Region) → filter may_go_by_trees xs ≡ filter may_go_by_trees ys → kept_regions g test (r ∷ xs) ≡ kept_regions g test (r ∷ ys)
  kept_alike r xs ys alike =
      sym (kept-cons g test r xs)
      ∙ ap (λ rs. kept_regions g test (r ∷ []) ++ rs) (kept_among xs ∙ ap (kept_regions g test) alike ∙ sym (kept_among ys))
      ∙ kept-cons g test r ys
