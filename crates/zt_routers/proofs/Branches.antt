-- What goes on along a branch is what the definitions say.
use Rattle.std.proofs.Common.{◌≡◌, ◌++◌, ◌&&◌, ◌==◌, Bool, ℕ, true, false, cond, List, [], ◌∷◌, None, Some, ap, map, refl, sym, ◌∙◌}
use Rattle.std.specs.List.{list_any}
use Rattle.std.specs.declared.cmp.Ordering.{Ordering}
use Rattle.zt_keys.specs.Test.{by_test}
use Rattle.zt_region.specs.declared.region.Region.{Region}
use Rattle.zt_region.specs.declared.region.Zid.{Zid}
use Rattle.zt_region.specs.Region.{region_eq}
use Rattle.zt_protocol.specs.Plain.{Trees}
use Rattle.zt_protocol.specs.declared.messages.Message.{Message}
use Rattle.zt_protocol.specs.declared.messages.Message.TheVariants as message
use Rattle.zt_model.specs.Parts.{to_each}
use Rattle.zt_model.specs.Rows.{Face, Rows}
use Rattle.zt_model.specs.Trees.{hide_to, is_child, is_face_of_router, is_hidden, is_newly_shown, node_of, pass_to, show_to, table_of, unpass_to}
use Rattle.zt_routers.specs.Branches.{IsBranchOf, IsOwnBranch, is_reached, passed, unpassed}

and_false : (b : Bool) → (b && false) ≡ false
and_false true = refl
and_false false = refl

-- rules that give the same at each face
each_alike : {K : Type 0} (p q : Face K → List (Message K)) → ((f : Face K) → p f ≡ q f) → (fs : List (Face K)) → to_each p fs ≡ to_each q fs
unfolding to_each
each_alike p q alike [] = refl
each_alike p q alike (f ∷ fs) = ap (λ ms. map (λ m. (f.number, m)) ms ++ to_each p fs) (alike f) ∙ ap (λ rest. map (λ m. (f.number, m)) (q f) ++ rest) (each_alike p q alike fs)

module _ {K : Type 0} (g : Rows K) (region : Region) (source : Zid) where
  -- by a table that lists nothing
  pub branch_to_nobody : table_of g region ≡ record { routers = []; links = []; children = [] } → IsBranchOf g region source [] 0
  branch_to_nobody none = record {
    entries = record { at = λ router. ap (λ (u : Trees). list_any (λ c. (source.0 == c.0.0) && (router.0 == c.1.0)) u.children) (sym none) };
    number = ap (λ (u : Trees). node_of source u) (sym none);
  }

module _ {K : Type 0} (g : Rows K) (region : Region) (children : List (Zid × Zid)) (node : ℕ) where
  reached_is : (source : Zid) → IsBranchOf g region source children node → (f : Face K)
      → is_reached g region children f ≡ (region_eq f.region region && is_child g (table_of g region) source f)
  unfolding is_child
  reached_is source is f = ap (λ b. region_eq f.region region && (b && is_face_of_router g f)) (is.entries.at f.zid)

  passed_is : (cmp : K → K → Ordering) (source : Zid) → IsBranchOf g region source children node → (e : K) (f : Face K)
      → passed g region children node e f ≡ pass_to cmp g region source e f
  unfolding pass_to
  passed_is cmp source is e f =
      ap (λ b. cond b (message.DeclareToken 0 e None node ∷ []) []) (reached_is source is f)
      ∙ ap (λ n. cond (region_eq f.region region && is_child g (table_of g region) source f) (message.DeclareToken 0 e None n ∷ []) []) is.number

  unpassed_is : (cmp : K → K → Ordering) (source : Zid) → IsBranchOf g region source children node → (e : K) (f : Face K)
      → unpassed g region children node e f ≡ unpass_to cmp g region source e f
  unfolding unpass_to
  unpassed_is cmp source is e f =
      ap (λ b. cond b (message.UndeclareToken 0 (Some e) node ∷ []) []) (reached_is source is f)
      ∙ ap (λ n. cond (region_eq f.region region && is_child g (table_of g region) source f) (message.UndeclareToken 0 (Some e) n ∷ []) []) is.number

  pub passes_all : (cmp : K → K → Ordering) (asked : Region) (source : Zid) → region ≡ asked → IsBranchOf g region source children node → (e : K) (fs : List (Face K))
      → to_each (passed g region children node e) fs ≡ to_each (pass_to cmp g asked source e) fs
  passes_all cmp asked source same is e fs =
      each_alike (passed g region children node e) (pass_to cmp g asked source e)
      (λ f. passed_is cmp source is e f ∙ ap (λ r. pass_to cmp g r source e f) same) fs

  pub unpasses_all : (cmp : K → K → Ordering) (asked : Region) (source : Zid) → region ≡ asked → IsBranchOf g region source children node → (e : K) (fs : List (Face K))
      → to_each (unpassed g region children node e) fs ≡ to_each (unpass_to cmp g asked source e) fs
  unpasses_all cmp asked source same is e fs =
      each_alike (unpassed g region children node e) (unpass_to cmp g asked source e)
      (λ f. unpassed_is cmp source is e f ∙ ap (λ r. unpass_to cmp g r source e f) same) fs

module _ {K : Type 0} (cmp : K → K → Ordering) (g : Rows K) (source : Region) (e : K) (region : Region) (children : List (Zid × Zid)) (node : ℕ) where
  -- in a region that is newly shown the token, and in one that isn't
  pub shown_to : IsOwnBranch g region (is_newly_shown cmp g source e region) children node → (f : Face K) → f.region ≡ region → passed g region children node e f ≡ show_to cmp g source e f
  unfolding show_to
  shown_to shows f same =
      by_test (is_newly_shown cmp g source e region)
      (λ shown. passed_is g region children node cmp g.zid (shows.own shown) e f ∙ rw (same, shown) refl)
      (λ unshown.
      ap (λ cs. passed g region cs node e f) (shows.bare unshown)
      ∙ ap (λ b. cond b (message.DeclareToken 0 e None node ∷ []) []) (and_false (region_eq f.region region))
      ∙ rw (same, unshown) refl)

  -- in a region that can't see the expression any more, and in one that can
  pub hidden_to : IsOwnBranch g region (is_hidden cmp g source e region) children node → (f : Face K) → f.region ≡ region → unpassed g region children node e f ≡ hide_to cmp g source e f
  unfolding hide_to
  hidden_to hides f same =
      by_test (is_hidden cmp g source e region)
      (λ hidden. unpassed_is g region children node cmp g.zid (hides.own hidden) e f ∙ rw (same, hidden) refl)
      (λ seen.
      ap (λ cs. unpassed g region cs node e f) (hides.bare seen)
      ∙ ap (λ b. cond b (message.UndeclareToken 0 (Some e) node ∷ []) []) (and_false (region_eq f.region region))
      ∙ rw (same, seen) refl)
