-- What comes from above makes nothing go up, and what comes from below makes at most one message go up that ends no interest.
use Rattle.std.proofs.Common.{◌≡◌, ℕ, ◌+◌, ◌≤◌, Bool, true, false, if◌then◌else◌, ◌&&◌, ◌==◌, List, [], ◌∷◌, ◌++◌, map, filter, Option, Some, None, refl, sym, ap, ◌∙◌, subst, arith, eq-eqb, ne_eqb}
use Rattle.std.specs.declared.cmp.Ordering.{Ordering}
use Rattle.zt_region.specs.declared.region.Region.{Region}
use Rattle.zt_region.specs.declared.region.WhatAmI.{WhatAmI}
use Rattle.zt_region.specs.Region.{is_north}
use Rattle.zt_protocol.specs.Plain.{DeclareToken, UndeclareToken, DeclareFinal}
use Rattle.zt_protocol.specs.declared.messages.Message.{Message}
use Rattle.zt_model.specs.Hat.{hat_of}
use Rattle.zt_model.specs.Hearing.{rows_heard}
use Rattle.zt_model.specs.Lists.{first_where, has_id, is_some_and}
use Rattle.zt_model.specs.Parts.{Part, Alter, Say, Sends, find_face, is_routed, said_by, to_each, with_face}
use Rattle.zt_model.specs.Routing.{ended, ending, finish_to, finishing, initial_finalised}
use Rattle.zt_model.specs.Rows.{Face, Rows}
use Rattle.zt_model.specs.Says.{declaring_of, hiding_undeclared, parts_of, said, undeclaring_of}
use Rattle.zt_model.specs.Telling.{answer_to, answering, declaring, forget_to, is_told, registered, registers, tell, tell_to, undeclared, undeclaring, unregistered}
use Rattle.zt_model.specs.Transcript.{Each}
use Rattle.zt_model.specs.Trees.{hide_to, hiding, is_hidden, is_newly_shown, router_regions, show_to, showing, source_of, with_own_rows, without_own_rows}
use Rattle.zt_model.specs.Visible.{shows}
use Rattle.zt_laws.specs.Sound.{RiseFrom}
use Rattle.zt_laws.proofs.Lists.{by_test, each_always, each_append, each_map, each_weaker, of_cond, rise_above}
use Rattle.zt_theorem_soundness.specs.Ran.{ran}
use Rattle.zt_theorem_soundness.proofs.CallsRun.{own_rows_leave}
use Rattle.zt_theorem_soundness.proofs.Running.{ran-append, said_by-append}
use Rattle.zt_theorem_tree_rest.proofs.Calls.{NoRouters, framed_each}
use Rattle.zt_theorem_tree_rest.proofs.Directions.{north_hides}
use Rattle.zt_theorem_tree_rest.proofs.Frames.{Frame, Framed, Outline, frame_of, framed_face, framed_heard}

-- a face of these outlines leads up
abbrev pub leads_up_at : {K : Type 0} → List (Outline K) → ℕ → Bool
leads_up_at os k = is_some_and (first_where (λ (o : Outline _). k == o.number) os) (λ o. is_north o.region)

-- each outline is the one of its number
pub each_own : {K : Type 0} (low : ℕ) (os : List (Outline K)) → RiseFrom (λ (o : Outline K). o.number) low os → Each (λ o. leads_up_at os o.number ≡ is_north o.region) os
each_own low [] rises = tt
each_own {K} low (o ∷ os) rises = (
  rw (eq-eqb o.number o.number refl) refl,
  later os (each_own (o.number + 1) os rises.1) (rise_above (λ (p : Outline K). p.number) (o.number + 1) os rises.1),
)
  where
    later : (ps : List (Outline K)) → Each (λ p. leads_up_at os p.number ≡ is_north p.region) ps → Each (λ p. o.number + 1 ≤ p.number) ps → Each (λ p. leads_up_at (o ∷ os) p.number ≡ is_north p.region) ps
    later [] owns above = tt
    later (p ∷ ps) owns above =
        let more : o.number + 1 ≤ p.number = above.0 in
        let apart : (p.number == o.number) ≡ false = ne_eqb p.number o.number (λ e. omega arith) in
        (rw apart owns.0, later ps owns.1 above.1)

module _ {K : Type 0} (cmp : K → K → Ordering) (matching : K → K → Bool) (mode : WhatAmI) (os : List (Outline K)) (rises : RiseFrom (λ (o : Outline K). o.number) 1 os) (plain : NoRouters mode os) where
  -- none of these messages goes up
  abbrev pub NoneUp : Sends K → Type 0
  NoneUp ms = Each (λ m. leads_up_at os m.0 ≡ false) ms

  -- so it is of what parts say, and the frame stays
  record StayDown (parts : List (Part K)) (g : Rows K) : Type 0 where
    none_up : NoneUp (said_by cmp matching parts g)
    framed : Framed mode os (ran cmp parts g)

  down_nothing : (g : Rows K) → Framed mode os g → StayDown [] g
  unfolding said_by ran
  down_nothing g framed = record { none_up = tt; framed = framed }

  down_alter : (change : Rows K → Rows K) (parts : List (Part K)) (g : Rows K) → StayDown parts (change g) → StayDown (Alter change ∷ parts) g
  unfolding said_by ran
  down_alter change parts g rest = record { none_up = rest.none_up; framed = rest.framed }

  down_say : (rule : Rows K → Sends K) (parts : List (Part K)) (g : Rows K) → NoneUp (rule g) → StayDown parts (rows_heard cmp (rule g) g) → StayDown (Say rule ∷ parts) g
  unfolding said_by ran
  down_say rule parts g first rest = record { none_up = each_append (λ (m : ℕ × Message K). leads_up_at os m.0 ≡ false) (rule g) (said_by cmp matching parts (rows_heard cmp (rule g) g)) first rest.none_up; framed = rest.framed }

  down_append : (ps qs : List (Part K)) (g : Rows K) → StayDown ps g → StayDown qs (ran cmp ps g) → StayDown (ps ++ qs) g
  down_append ps qs g first rest = record {
    none_up = subst NoneUp (sym (said_by-append cmp matching ps qs g)) (each_append (λ (m : ℕ × Message K). leads_up_at os m.0 ≡ false) (said_by cmp matching ps g) (said_by cmp matching qs (ran cmp ps g)) first.none_up rest.none_up);
    framed = subst (Framed mode os) (sym (ran-append cmp ps qs g)) rest.framed;
  }

  -- a rule that gives nothing for faces that lead up
  down_each : (rule : Face K → List (Message K)) (g : Rows K) → Framed mode os g → Each (λ f. is_north f.region ≡ true → rule f ≡ []) g.faces → NoneUp (to_each rule g.faces)
  unfolding to_each
  down_each rule g framed none_ = go g.faces (framed_each (λ (o : Outline K). leads_up_at os o.number ≡ is_north o.region) mode os g (each_own 1 os rises) framed) none_
    where
      south : (f : Face K) → leads_up_at os f.number ≡ false → (ms : List (Message K)) → NoneUp (map (λ m. (f.number, m)) ms)
      south f down [] = tt
      south f down (m ∷ ms) = (down, south f down ms)

      go : (fs : List (Face K)) → Each (λ f. leads_up_at os f.number ≡ is_north f.region) fs → Each (λ f. is_north f.region ≡ true → rule f ≡ []) fs → NoneUp (to_each rule fs)
      go [] owns all = tt
      go (f ∷ fs) owns all =
          each_append (λ (m : ℕ × Message K). leads_up_at os m.0 ≡ false) (map (λ m. (f.number, m)) (rule f)) (to_each rule fs)
          (by_test (is_north f.region)
          (λ up. subst (λ (ms : List (Message K)). NoneUp (map (λ m. (f.number, m)) ms)) (sym (all.0 up)) tt)
          (λ down. south f (owns.0 ∙ down) (rule f)))
          (go fs owns.1 all.1)

  -- ---- what comes from above

  show_down : (source : Region) (e : K) (g : Rows K) → Framed mode os g → StayDown (showing cmp source e) g
  unfolding show_to is_newly_shown
  show_down source e g framed =
      let none_ = framed_each (λ (o : Outline K). (hat_of mode o.region).goes_by_trees ≡ false) mode os g plain framed in
      let h = rows_heard cmp (to_each (show_to cmp g source e) g.faces) g in
      let framed_h = framed_heard cmp mode os (to_each (show_to cmp g source e) g.faces) g framed in
      let rs = filter (is_newly_shown cmp h source e) (router_regions h) in
      let frame_ = own_rows_leave cmp frame_of (λ k rows. refl) rs e h in
      down_say (λ k. to_each (show_to cmp k source e) k.faces) _ g
      (down_each (show_to cmp g source e) g framed (each_weaker (λ f. (hat_of mode f.region).goes_by_trees ≡ false) (λ f. is_north f.region ≡ true → show_to cmp g source e f ≡ []) (λ f no_router up. rw (framed.mode_is) (rw no_router refl)) g.faces none_))
      (down_alter _ [] h (down_nothing (with_own_rows cmp rs e h) (record { mode_is = ap (λ (f : Frame K). f.mode) frame_ ∙ framed_h.mode_is; faces_are = ap (λ (f : Frame K). f.outlines) frame_ ∙ framed_h.faces_are })))

  hide_down : (source : Region) (e : K) (g : Rows K) → Framed mode os g → StayDown (hiding cmp source e) g
  unfolding hide_to is_hidden without_own_rows
  hide_down source e g framed =
      let none_ = framed_each (λ (o : Outline K). (hat_of mode o.region).goes_by_trees ≡ false) mode os g plain framed in
      let h = rows_heard cmp (to_each (hide_to cmp g source e) g.faces) g in
      let framed_h = framed_heard cmp mode os (to_each (hide_to cmp g source e) g.faces) g framed in
      down_say (λ k. to_each (hide_to cmp k source e) k.faces) _ g
      (down_each (hide_to cmp g source e) g framed (each_weaker (λ f. (hat_of mode f.region).goes_by_trees ≡ false) (λ f. is_north f.region ≡ true → hide_to cmp g source e f ≡ []) (λ f no_router up. rw (framed.mode_is) (rw no_router refl)) g.faces none_))
      (down_alter (without_own_rows cmp source e) [] h (down_nothing (without_own_rows cmp source e h) (record { mode_is = framed_h.mode_is; faces_are = framed_h.faces_are })))

  -- faces that lead up ask nothing
  abbrev pub AskNothing : Rows K → Type 0
  AskNothing g = Each (λ (f : Face K). is_north f.region ≡ true → f.asks ≡ []) g.faces

  answer_none : (n id : ℕ) (e : K) (f : Face K) → f.asks ≡ [] → answer_to cmp matching n id e f ≡ []
  unfolding answer_to
  answer_none n id e f none_ = rw none_ refl

  answering_down : (n : ℕ) (interest : Option ℕ) (e : K) (f : Face K) (g : Rows K) → Framed mode os g → AskNothing g → StayDown (answering cmp matching n interest e f) g
  answering_down n None e f g framed asks = down_nothing g framed
  answering_down n (Some id) e f g framed asks =
      of_cond (λ (ps : List (Part K)). StayDown ps g) (has_id id f.pendings) (Say (λ h. to_each (answer_to cmp matching n id e) h.faces) ∷ []) []
      (λ _. down_say (λ h. to_each (answer_to cmp matching n id e) h.faces) [] g (down_each (answer_to cmp matching n id e) g framed (each_weaker (λ (h : Face K). is_north h.region ≡ true → h.asks ≡ []) (λ h. is_north h.region ≡ true → answer_to cmp matching n id e h ≡ []) (λ h own up. answer_none n id e h (own up)) g.faces asks))
      (down_nothing _ (framed_heard cmp mode os _ g framed)))
      (λ _. down_nothing g framed)

  tell_none : (g : Rows K) (source : Region) (e : K) (f : Face K) → is_north source ≡ true → is_north f.region ≡ true → tell_to cmp matching g source e f ≡ []
  unfolding tell_to
  tell_none g source e f there up = rw (not_told (north_hides g.mode f.region source up there)) refl
    where
      never_shown : (a b c d : Bool) → (a && (((b && false) && c) && d)) ≡ false
      never_shown true true c d = refl
      never_shown true false c d = refl
      never_shown false b c d = refl

      not_told : shows g.mode f.region source ≡ false → is_told cmp matching g source e f ≡ false
      not_told hides = rw hides (never_shown _ _ _ _)

  declaring_down : (n id : ℕ) (e : K) (f : Face K) (g : Rows K) → Framed mode os g → is_north f.region ≡ true → StayDown (declaring cmp matching n id e f ++ showing cmp f.region e) g
  declaring_down n id e f g framed north =
      let h = with_face n (registered id e) g in
      let framed_h : Framed mode os h = framed_face mode os n (registered id e) (λ k. refl) g framed in
      let told = to_each (tell_to cmp matching h f.region e) h.faces in
      down_alter (with_face n (registered id e)) (Say (tell cmp matching f.region e) ∷ showing cmp f.region e) g
      (down_say (tell cmp matching f.region e) (showing cmp f.region e) h
      (down_each (tell_to cmp matching h f.region e) h framed_h (each_always (λ (k : Face K). is_north k.region ≡ true → tell_to cmp matching h f.region e k ≡ []) (λ k up. tell_none h f.region e k north up) h.faces))
      (show_down f.region e (rows_heard cmp told h) (framed_heard cmp mode os told h framed_h)))

  pub declare_down : (n id node : ℕ) (e : K) (interest : Option ℕ) (f : Face K) (g : Rows K) → Framed mode os g → find_face n g ≡ Some f → is_routed g f ≡ false → is_north f.region ≡ true → AskNothing g → NoneUp (said cmp matching (DeclareToken n id e node interest) g)
  unfolding parts_of
  declare_down n id node e interest f g framed found outside north asks =
      let parts = λ (k : Face K). if is_routed g k then declaring_of cmp matching n (source_of g k node) e k else answering cmp matching n interest e k ++ (if registers k interest then declaring cmp matching n id e k ++ showing cmp k.region e else []) in
      let is : parts_of cmp matching (DeclareToken n id e node interest) g ≡ parts f = ap (λ (o : Option (Face K)). (let ps : List (Part K) = elim o [ None ↦ [] | Some k ↦ parts k ] in ps)) found in
      let answers = answering_down n interest e f g framed asks in
      let h = ran cmp (answering cmp matching n interest e f) g in
      let second : StayDown (if registers f interest then declaring cmp matching n id e f ++ showing cmp f.region e else []) h =
      of_cond (λ (ps : List (Part K)). StayDown ps h) (registers f interest) (declaring cmp matching n id e f ++ showing cmp f.region e) [] (λ _. declaring_down n id e f h answers.framed north) (λ _. down_nothing h answers.framed) in
      subst (λ (ps : List (Part K)). NoneUp (said_by cmp matching ps g)) (sym is) (rw outside (down_append (answering cmp matching n interest e f) _ g answers second).none_up)

  pub undeclare_down : (n id node : ℕ) (given : Option K) (f : Face K) (g : Rows K) → Framed mode os g → find_face n g ≡ Some f → is_routed g f ≡ false
      → ((e : K) → undeclared cmp matching id given f ≡ Some e → Each (λ h. is_north h.region ≡ true → forget_to cmp matching (with_face n (unregistered id) g) f.region e h ≡ []) (with_face n (unregistered id) g).faces)
      → NoneUp (said cmp matching (UndeclareToken n id given node) g)
  unfolding parts_of
  undeclare_down n id node given f g framed found outside forgets =
      let parts = λ (k : Face K). if is_routed g k then undeclaring_of cmp matching n (source_of g k node) given k else undeclaring cmp matching n id given k ++ hiding_undeclared cmp matching id given k in
      let is : parts_of cmp matching (UndeclareToken n id given node) g ≡ parts f = ap (λ (o : Option (Face K)). (let ps : List (Part K) = elim o [ None ↦ [] | Some k ↦ parts k ] in ps)) found in
      subst (λ (ps : List (Part K)). NoneUp (said_by cmp matching ps g)) (sym is) (rw outside (by_expression (undeclared cmp matching id given f) refl).none_up)
    where
      by_expression : (o : Option K) → undeclared cmp matching id given f ≡ o
          → StayDown ((let ps : List (Part K) = elim o [ None ↦ [] | Some e ↦ Alter (with_face n (unregistered id)) ∷ Say (λ h. to_each (forget_to cmp matching h f.region e) h.faces) ∷ [] ] in ps) ++ (let ps : List (Part K) = elim o [ None ↦ [] | Some e ↦ hiding cmp f.region e ] in ps)) g
      by_expression None is = down_nothing g framed
      by_expression (Some e) is =
          let h = with_face n (unregistered id) g in
          let framed_h : Framed mode os h = framed_face mode os n (unregistered id) (λ k. refl) g framed in
          let told = to_each (forget_to cmp matching h f.region e) h.faces in
          down_alter (with_face n (unregistered id)) (Say (λ k. to_each (forget_to cmp matching k f.region e) k.faces) ∷ hiding cmp f.region e) g
          (down_say (λ k. to_each (forget_to cmp matching k f.region e) k.faces) (hiding cmp f.region e) h (down_each (forget_to cmp matching h f.region e) h framed_h (forgets e is))
          (hide_down f.region e (rows_heard cmp told h) (framed_heard cmp mode os told h framed_h)))

  finish_none : (g : Rows K) (n id : ℕ) (f : Face K) → f.asks ≡ [] → finish_to g n id f ≡ []
  unfolding finish_to
  finish_none g n id f none_ = rw none_ refl

  asks_still : (n : ℕ) (change : Face K → Face K) → ((f : Face K) → (change f).region ≡ f.region) → ((f : Face K) → (change f).asks ≡ f.asks) → (g : Rows K) → AskNothing g → AskNothing (with_face n change g)
  unfolding with_face
  asks_still n change region_ asks_ g all =
      each_map (λ (f : Face K). is_north f.region ≡ true → f.asks ≡ []) (λ f. if n == f.number then change f else f) g.faces
      (each_weaker (λ (f : Face K). is_north f.region ≡ true → f.asks ≡ []) (λ f. is_north (if n == f.number then change f else f).region ≡ true → (if n == f.number then change f else f).asks ≡ [])
      (λ f own. of_cond (λ (h : Face K). is_north h.region ≡ true → h.asks ≡ []) (n == f.number) (change f) f (λ _ up. asks_ f ∙ own (sym (ap is_north (region_ f)) ∙ up)) (λ _. own)) g.faces all)

  pub finish_down : (n id : ℕ) (f : Face K) (g : Rows K) → Framed mode os g → find_face n g ≡ Some f → AskNothing g → NoneUp (said cmp matching (DeclareFinal n id) g)
  unfolding parts_of
  finish_down n id f g framed found asks =
      let is : parts_of cmp matching (DeclareFinal n id) g ≡ finishing n id f = ap (λ (o : Option (Face K)). (let ps : List (Part K) = elim o [ None ↦ [] | Some k ↦ finishing n id k ] in ps)) found in
      let h = with_face n (initial_finalised id) g in
      let framed_h : Framed mode os h = framed_face mode os n (initial_finalised id) (λ k. refl) g framed in
      let k = with_face n (ended id) h in
      let framed_k : Framed mode os k = framed_face mode os n (ended id) (λ f. refl) h framed_h in
      let asks_k = asks_still n (ended id) (λ f. refl) (λ f. refl) h (asks_still n (initial_finalised id) (λ f. refl) (λ f. refl) g asks) in
      let rest : StayDown (if has_id id f.pendings then ending n id else []) h =
      of_cond (λ (ps : List (Part K)). StayDown ps h) (has_id id f.pendings) (ending n id) []
      (λ _.
      down_alter (with_face n (ended id)) (Say (λ j. to_each (finish_to j n id) j.faces) ∷ []) h
      (down_say (λ j. to_each (finish_to j n id) j.faces) [] k (down_each (finish_to k n id) k framed_k (each_weaker (λ (f : Face K). is_north f.region ≡ true → f.asks ≡ []) (λ f. is_north f.region ≡ true → finish_to k n id f ≡ []) (λ f own up. finish_none k n id f (own up)) k.faces asks_k))
      (down_nothing _ (framed_heard cmp mode os _ k framed_k))))
      (λ _. down_nothing h framed_h) in
      subst (λ (ps : List (Part K)). NoneUp (said_by cmp matching ps g)) (sym is) (down_alter (with_face n (initial_finalised id)) _ g rest).none_up
