-- What each call of a message costs at a gateway of a tree.
use Rattle.std.proofs.Common.{◌≡◌, ℕ, ◌+◌, ◌≤◌, Bool, true, false, if◌then◌else◌, ◌&&◌, ◌==◌, List, [], ◌∷◌, filter, refl, sym, ap, ◌∙◌, subst, arith}
use Rattle.std.specs.declared.cmp.Ordering.{Ordering}
use Rattle.zt_region.specs.declared.region.Region.{Region}
use Rattle.zt_region.specs.declared.region.WhatAmI.{WhatAmI}
use Rattle.zt_protocol.specs.declared.messages.Message.{Message}
use Rattle.zt_model.specs.Hat.{hat_of}
use Rattle.zt_model.specs.Hearing.{rows_heard}
use Rattle.zt_model.specs.Parts.{Part, to_each, with_face}
use Rattle.zt_model.specs.Rows.{Face, Rows}
use Rattle.zt_model.specs.Telling.{is_told, tell}
use Rattle.zt_model.specs.Transcript.{Each}
use Rattle.zt_model.specs.Trees.{hide_to, hiding, is_hidden, is_newly_shown, router_regions, show_to, showing, with_own_rows, without_own_rows}
use Rattle.zt_model.specs.Visible.{shows}
use Rattle.zt_laws.specs.Sound.{RiseFrom}
use Rattle.zt_laws.proofs.Lists.{by_test, each_always, each_weaker}
use Rattle.zt_laws.proofs.PartsOrder.{each_of_map}
use Rattle.zt_theorem_soundness.proofs.CallsRun.{own_rows_leave}
use Rattle.zt_theorem_tree_rest.proofs.Frames.{Cost, Framed, Outline, Owes, RunsWithin, frame_of, outline, rise_outlines, runs_alter, runs_nothing, runs_say}
use Rattle.zt_theorem_tree_rest.proofs.Prices.{Pays}
use Rattle.zt_theorem_tree_rest.proofs.Sends.{each_pays, one_owes}
use Rattle.zt_theorem_tree_rest.proofs.Sums.{total, total-map, total_less, total_none}
use Rattle.zt_theorem_tree_rest.proofs.Telling.{nothing_pays, tell_pays}

-- a sum over faces is one over their outlines
pub framed_total : {K : Type 0} (w : Outline K → ℕ) (mode : WhatAmI) (os : List (Outline K)) (g : Rows K) → Framed mode os g → total (λ f. w (outline f)) g.faces ≡ total w os
framed_total w mode os g framed = sym (total-map w outline g.faces) ∙ ap (total w) framed.faces_are

pub framed_rise : {K : Type 0} (mode : WhatAmI) (os : List (Outline K)) (g : Rows K) → RiseFrom (λ (o : Outline K). o.number) 1 os → Framed mode os g → RiseFrom (λ f. f.number) 1 g.faces
framed_rise mode os g rises framed = rise_outlines 1 g.faces (subst (RiseFrom (λ (o : Outline _). o.number) 1) (sym framed.faces_are) rises)

pub framed_each : {K : Type 0} (P : Outline K → Type 0) (mode : WhatAmI) (os : List (Outline K)) (g : Rows K) → Each P os → Framed mode os g → Each (λ f. P (outline f)) g.faces
framed_each P mode os g all framed = each_of_map P outline g.faces (subst (Each P) (sym framed.faces_are) all)

-- no face is one of a router region
abbrev pub NoRouters : {K : Type 0} → WhatAmI → List (Outline K) → Type 0
NoRouters mode os = Each (λ o. (hat_of mode o.region).goes_by_trees ≡ false) os

module _ {K : Type 0} (cmp : K → K → Ordering) (matching : K → K → Bool) (tokens : List K) (price : ℕ → ℕ) (end_price : ℕ)
    (mode : WhatAmI) (os : List (Outline K)) (rises : RiseFrom (λ (o : Outline K). o.number) 1 os) (plain : NoRouters mode os) where
  abbrev Runs : List (Part K) → Rows K → ℕ → Type 0
  Runs parts g most = RunsWithin cmp matching tokens price end_price parts g most

  abbrev Frame : Rows K → Type 0
  Frame g = Framed mode os g

  -- each face is sent what a rule gives
  pub each_said : (rule : Face K → List (Message K)) (most : Face K → ℕ) (g : Rows K) → Frame g → Each (λ f. Pays cmp tokens price end_price g.moment f (most f) (rule f)) g.faces
      → Cost cmp matching tokens price end_price (to_each rule g.faces) + Owes cmp matching tokens price end_price (rows_heard cmp (to_each rule g.faces) g) ≤ Owes cmp matching tokens price end_price g + total most g.faces
  each_said rule most g framed pays = each_pays cmp tokens price end_price 1 rule most g (framed_rise mode os g rises framed) pays

  -- none is sent anything
  none_said : (rule : Face K → List (Message K)) (g : Rows K) → Frame g → Each (λ f. Pays cmp tokens price end_price g.moment f 0 (rule f)) g.faces
      → Cost cmp matching tokens price end_price (to_each rule g.faces) + Owes cmp matching tokens price end_price (rows_heard cmp (to_each rule g.faces) g) ≤ Owes cmp matching tokens price end_price g + 0
  none_said rule g framed pays = let less = each_said rule (λ f. 0) g framed pays in let zero_ = total_none g.faces in omega arith

  -- ---- router regions, of which there are none

  show_none : (g : Rows K) (source : Region) (e : K) (f : Face K) → g.mode ≡ mode → (hat_of mode f.region).goes_by_trees ≡ false → show_to cmp g source e f ≡ []
  unfolding show_to is_newly_shown
  show_none g source e f mode_ none_ = rw mode_ (rw none_ refl)

  hide_none : (g : Rows K) (source : Region) (e : K) (f : Face K) → g.mode ≡ mode → (hat_of mode f.region).goes_by_trees ≡ false → hide_to cmp g source e f ≡ []
  unfolding hide_to is_hidden
  hide_none g source e f mode_ none_ = rw mode_ (rw none_ refl)

  pub showing_runs : (source : Region) (e : K) (g : Rows K) → Frame g → Runs (showing cmp source e) g 0
  unfolding show_to
  showing_runs source e g framed =
      let none_ = framed_each (λ (o : Outline K). (hat_of mode o.region).goes_by_trees ≡ false) mode os g plain framed in
      let pays = each_weaker (λ f. (hat_of mode f.region).goes_by_trees ≡ false) (λ f. Pays cmp tokens price end_price g.moment f 0 (show_to cmp g source e f)) (λ f none_. nothing_pays cmp matching tokens price end_price g.moment f (show_to cmp g source e f) (show_none g source e f framed.mode_is none_)) g.faces none_ in
      let h = rows_heard cmp (to_each (show_to cmp g source e) g.faces) g in
      let rs = filter (is_newly_shown cmp h source e) (router_regions h) in
      let still : Owes cmp matching tokens price end_price (with_own_rows cmp rs e h) ≡ Owes cmp matching tokens price end_price h = own_rows_leave cmp (Owes cmp matching tokens price end_price) (λ k rows. refl) rs e h in
      runs_say cmp matching tokens price end_price (λ k. to_each (show_to cmp k source e) k.faces) _ g 0 0 (none_said (show_to cmp g source e) g framed pays)
      (runs_alter cmp matching tokens price end_price _ [] h 0 0 (omega arith) (own_rows_leave cmp frame_of (λ k rows. refl) rs e h) (runs_nothing cmp matching tokens price end_price _))

  pub hiding_runs : (source : Region) (e : K) (g : Rows K) → Frame g → Runs (hiding cmp source e) g 0
  unfolding hide_to without_own_rows
  hiding_runs source e g framed =
      let none_ = framed_each (λ (o : Outline K). (hat_of mode o.region).goes_by_trees ≡ false) mode os g plain framed in
      let pays = each_weaker (λ f. (hat_of mode f.region).goes_by_trees ≡ false) (λ f. Pays cmp tokens price end_price g.moment f 0 (hide_to cmp g source e f)) (λ f none_. nothing_pays cmp matching tokens price end_price g.moment f (hide_to cmp g source e f) (hide_none g source e f framed.mode_is none_)) g.faces none_ in
      let h = rows_heard cmp (to_each (hide_to cmp g source e) g.faces) g in
      runs_say cmp matching tokens price end_price (λ k. to_each (hide_to cmp k source e) k.faces) _ g 0 0 (none_said (hide_to cmp g source e) g framed pays)
      (runs_alter cmp matching tokens price end_price (without_own_rows cmp source e) [] h 0 0 (omega arith) refl (runs_nothing cmp matching tokens price end_price _))

  -- ---- a change of one face that owes no more

  pub changed_owes : (n : ℕ) (change : Face K → Face K) (most : ℕ) (g : Rows K) → Frame g → Each (λ f. (n == f.number) ≡ true → Owes cmp matching tokens price end_price (record g { faces = change f ∷ [] }) ≤ Owes cmp matching tokens price end_price (record g { faces = f ∷ [] }) + most) g.faces
      → Owes cmp matching tokens price end_price (with_face n change g) ≤ Owes cmp matching tokens price end_price g + most
  changed_owes n change most g framed all =
      one_owes cmp tokens price end_price n 1 change most g (framed_rise mode os g rises framed)
      (each_weaker (λ f. (n == f.number) ≡ true → Owes cmp matching tokens price end_price (record g { faces = change f ∷ [] }) ≤ Owes cmp matching tokens price end_price (record g { faces = f ∷ [] }) + most) _ (λ f own here. let less = own here in omega arith) g.faces all)

  -- ---- tokens

  -- what is told of a token of a region
  abbrev pub told_price : Region → Outline K → ℕ
  told_price source o = if shows mode o.region source then price o.number else 0

  told_only_shown : (g : Rows K) (source : Region) (e : K) (f : Face K) → g.mode ≡ mode → (if is_told cmp matching g source e f then price f.number else 0) ≤ told_price source (outline f)
  told_only_shown g source e f mode_ =
      by_test (is_told cmp matching g source e f)
      (λ told. by_test (shows mode f.region source) (λ here. rw (told, here) (omega arith)) (λ here. let fails : is_told cmp matching g source e f ≡ false = rw (mode_, here) (never_shown _ _ _ _) in let clash : true ≡ false = sym told ∙ fails in cc))
      (λ none_. rw none_ (omega arith))
    where
      never_shown : (a b c d : Bool) → (a && (((b && false) && c) && d)) ≡ false
      never_shown true true c d = refl
      never_shown true false c d = refl
      never_shown false b c d = refl

  pub tell_said : (source : Region) (e : K) (g : Rows K) → Frame g
      → Cost cmp matching tokens price end_price (tell cmp matching source e g) + Owes cmp matching tokens price end_price (rows_heard cmp (tell cmp matching source e g) g) ≤ Owes cmp matching tokens price end_price g + total (told_price source) os
  tell_said source e g framed =
      let less = total_less (λ f. if is_told cmp matching g source e f then price f.number else 0) (λ f. told_price source (outline f)) g.faces (each_always (λ f. (if is_told cmp matching g source e f then price f.number else 0) ≤ told_price source (outline f)) (λ f. told_only_shown g source e f framed.mode_is) g.faces) in
      let is = framed_total (told_price source) mode os g framed in
      let said = each_said _ (λ f. if is_told cmp matching g source e f then price f.number else 0) g framed (each_always _ (λ f. tell_pays cmp matching tokens price end_price g.moment g source e f) g.faces) in
      omega arith
