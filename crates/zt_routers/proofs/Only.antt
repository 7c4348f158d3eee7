-- Where one region alone was handed a table, the gateway's own tokens go on in that region or nowhere.
use Rattle.std.proofs.Common.{◌≡◌, Bool, true, false, cond, List, [], ◌∷◌, Option, Some, None, ap, refl, sym, ◌∙◌}
use Rattle.std.specs.declared.cmp.Ordering.{Ordering}
use Rattle.zt_keys.specs.Test.{by_test}
use Rattle.zt_region.specs.declared.region.Region.{Region}
use Rattle.zt_region.specs.Region.{region_eq, region_eq-same}
use Rattle.zt_protocol.specs.Plain.{Trees}
use Rattle.zt_protocol.specs.declared.messages.Message.{Message}
use Rattle.zt_model.specs.Lists.{first_where}
use Rattle.zt_model.specs.Parts.{to_each}
use Rattle.zt_model.specs.Rows.{Face, Rows}
use Rattle.zt_model.specs.Trees.{counted_table, hide_to, is_child, is_hidden, is_newly_shown, pass_to, show_to, table_of, unpass_to}
use Rattle.zt_routers.proofs.Noted.{childless}
use Rattle.zt_routers.specs.Reached.{HasOnlyTable}

module _ {K : Type 0} (g : Rows K) (region : Region) (only : HasOnlyTable region g) where
  abbrev OneTable : List (Region × Trees)
  OneTable = (region, only.0) ∷ []

  passed_over : (r : Region) → region_eq r region ≡ false → first_where (λ t. region_eq r t.0) OneTable ≡ None
  passed_over r off = rw off refl

  -- other regions have no children
  unlisted : (f : Face K) → region_eq f.region region ≡ false → is_child g (table_of g f.region) g.zid f ≡ false
  unfolding table_of
  unlisted f off =
      childless g f.region g.zid f (table_of g f.region)
      (ap (λ (o : Option (Region × Trees)). elim o [ None ↦ record { routers = []; links = []; children = [] } | Some t ↦ counted_table t.1 ])
      (ap (first_where (λ t. region_eq f.region t.0)) only.1 ∙ passed_over f.region off))

  same_region : (f : Face K) → region_eq f.region region ≡ true → f.region ≡ region
  same_region f here = region_eq-same f.region region here

each_same : {K : Type 0} (p q : Face K → List (Message K)) → ((f : Face K) → p f ≡ q f) → (fs : List (Face K)) → to_each p fs ≡ to_each q fs
unfolding to_each
each_same p q same [] = refl
each_same p q same (f ∷ fs) = rw (same f, each_same p q same fs) refl

each_none : {K : Type 0} (fs : List (Face K)) → to_each (λ f. []) fs ≡ []
unfolding to_each
each_none [] = refl
each_none (f ∷ fs) = each_none fs

module _ {K : Type 0} (cmp : K → K → Ordering) (g : Rows K) (source : Region) (e : K) (region : Region) (only : HasOnlyTable region g) where
  abbrev at : Face K → List (Message K)
  at f = pass_to cmp g region g.zid e f

  abbrev gone_at : Face K → List (Message K)
  gone_at f = unpass_to cmp g region g.zid e f

  elsewhere : (f : Face K) → region_eq f.region region ≡ false → pass_to cmp g f.region g.zid e f ≡ at f
  unfolding pass_to
  elsewhere f off = rw (off, unlisted g region only f off) (by_test (region_eq f.region f.region) (λ t. rw t refl) (λ t. rw t refl))

  gone_elsewhere : (f : Face K) → region_eq f.region region ≡ false → unpass_to cmp g f.region g.zid e f ≡ gone_at f
  unfolding unpass_to
  gone_elsewhere f off = rw (off, unlisted g region only f off) (by_test (region_eq f.region f.region) (λ t. rw t refl) (λ t. rw t refl))

  nothing : (f : Face K) → region_eq f.region region ≡ false → at f ≡ []
  unfolding pass_to
  nothing f off = rw off refl

  nothing_gone : (f : Face K) → region_eq f.region region ≡ false → gone_at f ≡ []
  unfolding unpass_to
  nothing_gone f off = rw off refl

  choice : {A : Type 0} (b : Bool) (xs ys : List A) → xs ≡ ys → ys ≡ [] → cond b xs [] ≡ []
  choice true xs ys same none = same ∙ none
  choice false xs ys same none = refl

  -- where the region is newly shown the token
  shown : (f : Face K) → is_newly_shown cmp g source e region ≡ true → show_to cmp g source e f ≡ at f
  unfolding show_to
  shown f is =
      by_test (region_eq f.region region)
      (λ here. rw (same_region g region only f here, is) refl)
      (λ off. choice (is_newly_shown cmp g source e f.region) _ (at f) (elsewhere f off) (nothing f off) ∙ sym (nothing f off))

  unshown : (f : Face K) → is_newly_shown cmp g source e region ≡ false → show_to cmp g source e f ≡ []
  unfolding show_to
  unshown f is =
      by_test (region_eq f.region region)
      (λ here. rw (same_region g region only f here, is) refl)
      (λ off. choice (is_newly_shown cmp g source e f.region) _ (at f) (elsewhere f off) (nothing f off))

  hidden : (f : Face K) → is_hidden cmp g source e region ≡ true → hide_to cmp g source e f ≡ gone_at f
  unfolding hide_to
  hidden f is =
      by_test (region_eq f.region region)
      (λ here. rw (same_region g region only f here, is) refl)
      (λ off. choice (is_hidden cmp g source e f.region) _ (gone_at f) (gone_elsewhere f off) (nothing_gone f off) ∙ sym (nothing_gone f off))

  unhidden : (f : Face K) → is_hidden cmp g source e region ≡ false → hide_to cmp g source e f ≡ []
  unfolding hide_to
  unhidden f is =
      by_test (region_eq f.region region)
      (λ here. rw (same_region g region only f here, is) refl)
      (λ off. choice (is_hidden cmp g source e f.region) _ (gone_at f) (gone_elsewhere f off) (nothing_gone f off))

  pub shows_there : is_newly_shown cmp g source e region ≡ true → to_each (pass_to cmp g region g.zid e) g.faces ≡ to_each (show_to cmp g source e) g.faces
  shows_there is = each_same at (show_to cmp g source e) (λ f. sym (shown f is)) g.faces

  pub shows_nowhere : is_newly_shown cmp g source e region ≡ false → [] ≡ to_each (show_to cmp g source e) g.faces
  shows_nowhere is = sym (each_none g.faces) ∙ each_same (λ f. []) (show_to cmp g source e) (λ f. sym (unshown f is)) g.faces

  pub hides_there : is_hidden cmp g source e region ≡ true → to_each (unpass_to cmp g region g.zid e) g.faces ≡ to_each (hide_to cmp g source e) g.faces
  hides_there is = each_same gone_at (hide_to cmp g source e) (λ f. sym (hidden f is)) g.faces

  pub hides_nowhere : is_hidden cmp g source e region ≡ false → [] ≡ to_each (hide_to cmp g source e) g.faces
  hides_nowhere is = sym (each_none g.faces) ∙ each_same (λ f. []) (hide_to cmp g source e) (λ f. sym (unhidden f is)) g.faces
