-- What a face is told by the routers in order, and by the children that are looked up, is what the definition says.
use Rattle.std.proofs.Common.{◌≡◌, ◌&&◌, ◌++◌, ◌∷◌, ℕ, Bool, true, false, not, List, [], ap, ap₂, cond, map, refl, sym, ◌∙◌}
use Rattle.std.specs.List.{flat_map}
use Rattle.std.specs.declared.cmp.Ordering.{Ordering}
use Rattle.zt_region.specs.declared.region.Region.{Region}
use Rattle.zt_region.specs.declared.region.Zid.{Zid}
use Rattle.zt_region.specs.Region.{region_eq}
use Rattle.zt_protocol.specs.Plain.{Trees}
use Rattle.zt_protocol.specs.declared.messages.Message.{Message}
use Rattle.zt_model.specs.Parts.{to_each}
use Rattle.zt_model.specs.Rows.{Face, Rows}
use Rattle.zt_model.specs.Trees.{greet_to, is_child, is_face_of_router, routed_expressions, routers_in_order, table_of}
use Rattle.zt_routers.specs.Greeting.{declared, greeted, greeted_by, has_child}

-- whether a face stands for its router may be asked once, before the children are looked up
asked_first : {A : Type 0} (here stands now before : Bool) (xs : List A)
    → cond (here && stands) (cond (now && not before) xs []) [] ≡ cond (here && ((now && stands) && not (before && stands))) xs []
asked_first false stands now before xs = refl
asked_first true true true true xs = refl
asked_first true true true false xs = refl
asked_first true true false before xs = refl
asked_first true false true before xs = refl
asked_first true false false before xs = refl

one_more : {A : Type 0} (b : Bool) (xs ys : List A) → cond b (xs ++ ys) [] ≡ cond b xs [] ++ cond b ys []
one_more true xs ys = refl
one_more false xs ys = refl

no_more : {A : Type 0} (b : Bool) → cond {A = List A} b [] [] ≡ []
no_more true = refl
no_more false = refl

-- nothing for each is nothing
none_each : {K : Type 0} (rule : Face K → List (Message K)) → ((f : Face K) → rule f ≡ []) → (fs : List (Face K)) → to_each rule fs ≡ []
unfolding to_each
none_each rule none [] = refl
none_each rule none (f ∷ fs) = ap (λ ms. map (λ m. (f.number, m)) ms ++ to_each rule fs) (none f) ∙ none_each rule none fs

module _ {K : Type 0} (rule other : Face K → List (Message K)) (alike : (f : Face K) → rule f ≡ other f) where
  pub to_each_alike : (fs : List (Face K)) → to_each rule fs ≡ to_each other fs
  unfolding to_each
  to_each_alike [] = refl
  to_each_alike (f ∷ fs) = ap₂ (λ ms sends. map (λ m. (f.number, m)) ms ++ sends) (alike f) (to_each_alike fs)

module _ {K : Type 0} (cmp : K → K → Ordering) (g : Rows K) (region : Region) (before : Trees) where
  abbrev told : Trees → Face K → ℕ × Zid → List (Message K)
  told t f r = cond (region_eq f.region region && (is_child g t r.1 f && not (is_child g before r.1 f))) (declared r.0 (routed_expressions cmp g region r.1)) []

  module _ (t : Trees) where
    told_one : (f : Face K) (r : ℕ × Zid) → cond (region_eq f.region region && is_face_of_router g f) (greeted cmp g region t before f r) [] ≡ told t f r
    unfolding is_child
    told_one f r =
        asked_first (region_eq f.region region) (is_face_of_router g f) (has_child t r.1 f.zid) (has_child before r.1 f.zid) (declared r.0 (routed_expressions cmp g region r.1))

    told_all : (f : Face K) (rs : List (ℕ × Zid)) → cond (region_eq f.region region && is_face_of_router g f) (flat_map (greeted cmp g region t before f) rs) [] ≡ flat_map (told t f) rs
    told_all f [] = no_more (region_eq f.region region && is_face_of_router g f)
    told_all f (r ∷ rs) =
        one_more (region_eq f.region region && is_face_of_router g f) (greeted cmp g region t before f r) (flat_map (greeted cmp g region t before f) rs)
        ∙ ap₂ (λ ms more. ms ++ more) (told_one f r) (told_all f rs)

  -- by the table of the region a face is told what the definition says
  pub greeted_all : (t : Trees) → t ≡ table_of g region → (f : Face K) → greeted_by cmp g region t before f ≡ greet_to cmp g region before f
  unfolding greet_to
  greeted_all t counted f =
      told_all t f (routers_in_order cmp t)
      ∙ ap (λ (table : Trees). flat_map (told table f) (routers_in_order cmp table)) counted

  -- where a region has no table nobody is told anything
  pub greets_none : table_of g region ≡ record { routers = []; links = []; children = [] } → (fs : List (Face K)) → to_each (greet_to cmp g region before) fs ≡ []
  greets_none none fs =
      none_each (greet_to cmp g region before)
      (λ f. sym (greeted_all (record { routers = []; links = []; children = [] }) (sym none) f) ∙ no_more (region_eq f.region region && is_face_of_router g f)) fs
