-- A message that falls to a gateway makes nothing rise; one that rises makes what it may.
use Rattle.std.proofs.Common.{◌≡◌, ℕ, ◌+◌, ◌≤◌, Bool, true, false, if◌then◌else◌, ◌&&◌, ◌==◌, List, [], ◌∷◌, Option, Some, None, refl, ap, ◌∙◌, arith, ⊎_elim}
use Rattle.std.proofs.lemmas.Bool.{or_cases}
use Rattle.std.specs.Cmp.{IsTotalOrder}
use Rattle.std.specs.List.{list_any}
use Rattle.std.specs.declared.cmp.Ordering.{Ordering}
use Rattle.std.specs.declared.cmp.Ordering.TheVariants.{Equal}
use Rattle.zt_region.specs.declared.region.Region.{Region}
use Rattle.zt_region.specs.declared.region.Region.TheVariants.{North}
use Rattle.zt_region.specs.declared.region.WhatAmI.{WhatAmI}
use Rattle.zt_region.specs.declared.region.WhatAmI.TheVariants.{Client}
use Rattle.zt_region.specs.Region.{is_north, region_eq-same}
use Rattle.zt_protocol.specs.Plain.{DeclareToken, UndeclareToken}
use Rattle.zt_model.specs.Lists.{at_id, is_among, same}
use Rattle.zt_model.specs.Parts.{Part, find_face, is_routed, with_face}
use Rattle.zt_model.specs.Rows.{Face, Rows}
use Rattle.zt_model.specs.Says.{parts_of}
use Rattle.zt_model.specs.Telling.{forget_to, undeclared, unregistered}
use Rattle.zt_model.specs.Transcript.{Each}
use Rattle.zt_model.specs.Visible.{is_visible, keeps, live_rows, shows}
use Rattle.zt_model.specs.Wants.{wants}
use Rattle.zt_model.proofs.Hats.{shares_tokens_by_region}
use Rattle.zt_laws.specs.Sound.{RiseFrom}
use Rattle.zt_laws.proofs.Lists.{by_test, each_always, each_map, each_weaker, never, of_cond}
use Rattle.zt_laws.proofs.Visible.{any_unregistered, at_none, at_only}
use Rattle.zt_theorem_tree_rest.proofs.Calls.{NoRouters, framed_rise, told_price}
use Rattle.zt_theorem_tree_rest.proofs.Frames.{Framed, Outline, RunsWithin, outline, runs_more}
use Rattle.zt_theorem_tree_rest.proofs.Prices.{Pays}
use Rattle.zt_theorem_tree_rest.proofs.Sums.{total, total_less, total_sum}
use Rattle.zt_theorem_tree_rest.proofs.Telling.{forget_pays, nothing_pays}
use Rattle.zt_theorem_tree_rest.proofs.Tokens.{declare_runs, forgets_nothing, undeclare_runs}

-- a face to the north isn't shown what stands there
pub north_hides : (mode : WhatAmI) (own source : Region) → is_north own ≡ true → is_north source ≡ true → shows mode own source ≡ false
north_hides mode own source up there =
    let own_is : own ≡ North = region_eq-same own North up in
    let source_is : source ≡ North = region_eq-same source North there in
    rw (own_is, source_is, shares_tokens_by_region mode Client North) refl

module _ {K : Type 0} (cmp : K → K → Ordering) (matching : K → K → Bool) (tokens : List K) (price : ℕ → ℕ) (end_price : ℕ)
    (mode : WhatAmI) (os : List (Outline K)) (rises : RiseFrom (λ (o : Outline K). o.number) 1 os) (plain : NoRouters mode os) (total_order : IsTotalOrder cmp) (equal_is_same : (a b : K) → cmp a b ≡ Equal → a ≡ b) where
  abbrev Runs : List (Part K) → Rows K → ℕ → Type 0
  Runs parts g most = RunsWithin cmp matching tokens price end_price parts g most

  abbrev pub down : Outline K → ℕ
  down o = if is_north o.region then 0 else price o.number

  abbrev pub up : Outline K → ℕ
  up o = if is_north o.region then price o.number else 0

  each_outline : (P : Outline K → Type 0) → ((o : Outline K) → P o) → (xs : List (Outline K)) → Each P xs
  each_outline P h [] = tt
  each_outline P h (o ∷ xs) = (h o, each_outline P h xs)

  both_is : (o : Outline K) → down o + up o ≡ price o.number
  both_is o = by_test (is_north o.region) (λ here. rw here (omega arith)) (λ here. rw here (omega arith))

  -- ---- tokens that fall

  pub fallen_declare : (n id node : ℕ) (e : K) (interest : Option ℕ) (f : Face K) (g : Rows K) → Framed mode os g → find_face n g ≡ Some f → is_routed g f ≡ false → is_north f.region ≡ true → is_among cmp e tokens ≡ true → Runs (parts_of cmp matching (DeclareToken n id e node interest) g) g (total down os)
  fallen_declare n id node e interest f g framed found outside north there =
      let T = told_price cmp matching tokens price end_price mode os rises plain f.region in
      let less = total_less T down os
      (each_outline (λ o. T o ≤ down o) (λ o. by_test (is_north o.region) (λ own. let hides = north_hides mode o.region f.region own north in rw (hides, own) (omega arith)) (λ own. rw own (of_cond (λ k. k ≤ price o.number) (shows mode o.region f.region) (price o.number) 0 (λ _. omega arith) (λ _. omega arith)))) os) in
      runs_more cmp matching tokens price end_price _ g (total T os) (total down os) less (declare_runs cmp matching tokens price end_price mode os rises plain n id node e interest f total_order equal_is_same g framed found outside there)

  -- what a face to the north holds and keeps
  pub record LooksDown (g : Rows K) (h : Face K) : Type 0 where
    pub holds_nothing : is_north h.region ≡ true → h.held ≡ []
    pub sees_what_it_keeps : is_north h.region ≡ true → (e : K) → keeps cmp h e ≡ true → is_visible cmp g h.region e ≡ true

  pub still_seen : (n id : ℕ) (given : Option K) (f : Face K) (g : Rows K) (own : Region) (e : K) → Framed mode os g → RiseFrom (λ row. row.0) 0 f.live → find_face n g ≡ Some f → is_north f.region ≡ true → is_north own ≡ true → undeclared cmp matching id given f ≡ Some e → is_visible cmp g own e ≡ true → is_visible cmp (with_face n (unregistered id) g) own e ≡ true
  unfolding is_visible with_face
  still_seen n id given f g own e framed live_rises found north own_north about seen =
      let test = λ (row : Region × K). same cmp e row.1 && shows g.mode own row.0 in
      let more = any_unregistered test n id e f g (framed_rise mode os g rises framed) found (only (at_id id f.live) refl about) seen in
      let no_ : test (f.region, e) ≡ false = ap (λ b. same cmp e e && b) (north_hides g.mode own f.region own_north north) ∙ and_no (same cmp e e) in
      ⊎_elim (λ there. there) (λ own_row. never own_row no_) (or_cases (list_any test (live_rows (with_face n (unregistered id) g))) (test (f.region, e)) more)
    where
      and_no : (b : Bool) → (b && false) ≡ false
      and_no true = refl
      and_no false = refl

      only : (o : Option K) → at_id id f.live ≡ o → (let u : Option K = elim o [ None ↦ given | Some x ↦ Some x ] in u) ≡ Some e → Each (λ row. (id == row.0) ≡ true → row.1 ≡ e) f.live
      only None at_ is = each_weaker (λ (row : ℕ × K). (id == row.0) ≡ false) (λ row. (id == row.0) ≡ true → row.1 ≡ e) (λ row miss here. never here miss) f.live (at_none id f.live at_)
      only (Some x) at_ is = let same_ : x ≡ e = cc in at_only id 0 f.live e live_rises (at_ ∙ ap Some same_)

  pub wants_nothing : (h : Face K) (e : K) → h.held ≡ [] → wants matching h e ≡ false
  unfolding wants
  wants_nothing h e none_ = rw none_ refl

  forget_at : (now : ℕ) (g : Rows K) (source : Region) (e : K) (k : Face K) → (is_north k.region ≡ true → k.held ≡ []) → (is_north k.region ≡ true → keeps cmp k e ≡ true → is_visible cmp g k.region e ≡ true) → Pays cmp tokens price end_price now k (down (outline k)) (forget_to cmp matching g source e k)
  forget_at now g source e k holds sees =
      by_test (is_north k.region)
      (λ north. rw north (nothing_pays cmp matching tokens price end_price now k (forget_to cmp matching g source e k) (forgets_nothing cmp matching tokens price end_price mode os rises plain g source e k (wants_nothing k e (holds north)) (sees north))))
      (λ south. rw south (forget_pays cmp matching tokens price end_price now g source e k))

  pub fallen_undeclare : (n id node : ℕ) (given : Option K) (f : Face K) (g : Rows K) → Framed mode os g → find_face n g ≡ Some f → is_routed g f ≡ false → RiseFrom (λ row. row.0) 0 f.live → is_north f.region ≡ true → Each (LooksDown g) g.faces → Runs (parts_of cmp matching (UndeclareToken n id given node) g) g (total down os)
  unfolding with_face
  fallen_undeclare n id node given f g framed found outside live_rises north looks =
      undeclare_runs cmp matching tokens price end_price mode os rises plain down n id node given f g framed found outside
      (λ e about.
      let g1 = with_face n (unregistered id) g in
      let seen = λ (h : Face K) (own : is_north h.region ≡ true) (s : is_visible cmp g h.region e ≡ true). still_seen n id given f g h.region e framed live_rises found north own about s in
      each_map (λ (h : Face K). Pays cmp tokens price end_price g.moment h (down (outline h)) (forget_to cmp matching g1 f.region e h)) (λ h. if n == h.number then unregistered id h else h) g.faces
      (each_weaker (LooksDown g) (λ (h : Face K). Pays cmp tokens price end_price g.moment (if n == h.number then unregistered id h else h) (down (outline (if n == h.number then unregistered id h else h))) (forget_to cmp matching g1 f.region e (if n == h.number then unregistered id h else h)))
      (λ h look.
      of_cond (λ (k : Face K). Pays cmp tokens price end_price g.moment k (down (outline k)) (forget_to cmp matching g1 f.region e k)) (n == h.number) (unregistered id h) h
      (λ _. forget_at g.moment g1 f.region e (unregistered id h) look.holds_nothing (λ own kept. seen h own (look.sees_what_it_keeps own e kept)))
      (λ _. forget_at g.moment g1 f.region e h look.holds_nothing (λ own kept. seen h own (look.sees_what_it_keeps own e kept)))) g.faces looks))

  -- ---- tokens that rise

  pub risen_declare : (n id node : ℕ) (e : K) (interest : Option ℕ) (f : Face K) (g : Rows K) → Framed mode os g → find_face n g ≡ Some f → is_routed g f ≡ false → is_among cmp e tokens ≡ true → Runs (parts_of cmp matching (DeclareToken n id e node interest) g) g (total down os + total up os)
  risen_declare n id node e interest f g framed found outside there =
      let T = told_price cmp matching tokens price end_price mode os rises plain f.region in
      let less = total_less T (λ o. down o + up o) os
      (each_outline (λ o. T o ≤ down o + up o) (λ o. let is = both_is o in of_cond (λ k. k ≤ down o + up o) (shows mode o.region f.region) (price o.number) 0 (λ _. omega arith) (λ _. omega arith)) os) in
      let sum = total_sum down up os in
      runs_more cmp matching tokens price end_price _ g (total T os) (total down os + total up os) (omega arith) (declare_runs cmp matching tokens price end_price mode os rises plain n id node e interest f total_order equal_is_same g framed found outside there)

  pub risen_undeclare : (n id node : ℕ) (given : Option K) (f : Face K) (g : Rows K) → Framed mode os g → find_face n g ≡ Some f → is_routed g f ≡ false → Runs (parts_of cmp matching (UndeclareToken n id given node) g) g (total down os + total up os)
  risen_undeclare n id node given f g framed found outside =
      let both = λ (o : Outline K). down o + up o in
      let sum = total_sum down up os in
      runs_more cmp matching tokens price end_price _ g (total both os) (total down os + total up os) (omega arith)
      (undeclare_runs cmp matching tokens price end_price mode os rises plain both n id node given f g framed found outside
      (λ e about.
      let g1 = with_face n (unregistered id) g in
      each_always (λ (h : Face K). Pays cmp tokens price end_price g.moment h (both (outline h)) (forget_to cmp matching g1 f.region e h))
      (λ h. let is = both_is (outline h) in let pays = forget_pays cmp matching tokens price end_price g.moment g1 f.region e h in omega arith) g1.faces))
