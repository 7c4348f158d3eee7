-- What tokens that come and go, and finals, cost at a gateway of a tree.
use Rattle.std.proofs.Common.{◌≡◌, ℕ, ◌+◌, ◌≤◌, Bool, true, false, if◌then◌else◌, ◌||◌, ◌==◌, List, [], ◌∷◌, ◌++◌, Option, Some, None, refl, sym, ap, ◌∙◌, subst, arith}
use Rattle.std.specs.Cmp.{IsTotalOrder}
use Rattle.std.specs.declared.cmp.Ordering.{Ordering}
use Rattle.std.specs.declared.cmp.Ordering.TheVariants.{Equal}
use Rattle.zt_region.specs.declared.region.Region.{Region}
use Rattle.zt_region.specs.declared.region.WhatAmI.{WhatAmI}
use Rattle.zt_protocol.specs.Plain.{DeclareToken, UndeclareToken, DeclareFinal}
use Rattle.zt_protocol.specs.declared.messages.Message.{Message}
use Rattle.zt_protocol.specs.declared.messages.Message.TheVariants as message
use Rattle.zt_model.specs.Hearing.{rows_heard}
use Rattle.zt_model.specs.Lists.{has_id, is_among}
use Rattle.zt_model.specs.Parts.{Part, Alter, Say, find_face, is_routed, to_each, told_id, with_face}
use Rattle.zt_model.specs.Routing.{ended, ending, finish_to, finishing, initial_finalised}
use Rattle.zt_model.specs.Rows.{Face, Rows}
use Rattle.zt_model.specs.Says.{declaring_of, hiding_undeclared, parts_of, undeclaring_of}
use Rattle.zt_model.specs.Telling.{answer_to, answering, declaring, forget_to, forget_untold, registered, registers, tell, undeclared, undeclaring, unregistered}
use Rattle.zt_model.specs.Transcript.{Each}
use Rattle.zt_model.specs.Trees.{hiding, showing, source_of}
use Rattle.zt_model.specs.Visible.{is_visible, keeps}
use Rattle.zt_model.specs.Wants.{wants}
use Rattle.zt_laws.specs.Sound.{RiseFrom}
use Rattle.zt_laws.proofs.Lists.{by_test, each_always, of_cond}
use Rattle.zt_laws.proofs.Told.{told_id_names}
use Rattle.zt_theorem_soundness.specs.Ran.{ran}
use Rattle.zt_theorem_tree_rest.proofs.Answering.{answer_pays}
use Rattle.zt_theorem_tree_rest.proofs.Calls.{NoRouters, changed_owes, each_said, framed_total, hiding_runs, showing_runs, tell_said, told_price}
use Rattle.zt_theorem_tree_rest.proofs.Ending.{finish_pays}
use Rattle.zt_theorem_tree_rest.proofs.Frames.{Cost, Framed, Outline, Owes, RunsWithin, face_frame, framed_face, framed_heard, outline, runs_alter, runs_append, runs_more, runs_nothing, runs_say}
use Rattle.zt_theorem_tree_rest.proofs.Prices.{Pays}
use Rattle.zt_theorem_tree_rest.proofs.Sums.{total, total_none}

module _ {K : Type 0} (cmp : K → K → Ordering) (matching : K → K → Bool) (tokens : List K) (price : ℕ → ℕ) (end_price : ℕ)
    (mode : WhatAmI) (os : List (Outline K)) (rises : RiseFrom (λ (o : Outline K). o.number) 1 os) (plain : NoRouters mode os) where
  abbrev Runs : List (Part K) → Rows K → ℕ → Type 0
  Runs parts g most = RunsWithin cmp matching tokens price end_price parts g most

  abbrev Frame : Rows K → Type 0
  Frame g = Framed mode os g

  -- what is said owes nothing more
  free_said : (rule : Face K → List (Message K)) (g : Rows K) → Frame g → ((f : Face K) → Pays cmp tokens price end_price g.moment f 0 (rule f))
      → Cost cmp matching tokens price end_price (to_each rule g.faces) + Owes cmp matching tokens price end_price (rows_heard cmp (to_each rule g.faces) g) ≤ Owes cmp matching tokens price end_price g + 0
  free_said rule g framed pays =
      let less = each_said cmp matching tokens price end_price mode os rises plain rule (λ f. 0) g framed (each_always (λ f. Pays cmp tokens price end_price g.moment f 0 (rule f)) pays g.faces) in
      let zero_ = total_none g.faces in
      omega arith

  -- a change of a face that owes nothing more
  free_change : (n : ℕ) (change : Face K → Face K) (g : Rows K) → Frame g → ((f : Face K) → Owes cmp matching tokens price end_price (record g { faces = change f ∷ [] }) ≡ Owes cmp matching tokens price end_price (record g { faces = f ∷ [] }))
      → Owes cmp matching tokens price end_price (with_face n change g) ≤ Owes cmp matching tokens price end_price g + 0
  free_change n change g framed same_ =
      changed_owes cmp matching tokens price end_price mode os rises plain n change 0 g framed
      (each_always (λ (f : Face K). (n == f.number) ≡ true → Owes cmp matching tokens price end_price (record g { faces = change f ∷ [] }) ≤ Owes cmp matching tokens price end_price (record g { faces = f ∷ [] }) + 0) (λ f _. let is = same_ f in omega arith) g.faces)

  -- ---- a token is declared

  answering_runs : (n : ℕ) (interest : Option ℕ) (e : K) (f : Face K) (total_order : IsTotalOrder cmp) (equal_is_same : (a b : K) → cmp a b ≡ Equal → a ≡ b) (g : Rows K) → Frame g → is_among cmp e tokens ≡ true
      → Runs (answering cmp matching n interest e f) g 0 × Frame (ran cmp (answering cmp matching n interest e f) g)
  unfolding ran
  answering_runs n None e f total_order equal_is_same g framed there = (runs_nothing cmp matching tokens price end_price g, framed)
  answering_runs n (Some id) e f total_order equal_is_same g framed there =
      by_test (has_id id f.pendings)
      (λ here.
      rw here (
        runs_say cmp matching tokens price end_price (λ h. to_each (answer_to cmp matching n id e) h.faces) [] g 0 0
            (free_said (answer_to cmp matching n id e) g framed (λ h. answer_pays cmp matching tokens price end_price total_order equal_is_same n id e h there g.moment)) (runs_nothing cmp matching tokens price end_price _),
        framed_heard cmp mode os _ g framed,
      ))
      (λ here. rw here (runs_nothing cmp matching tokens price end_price g, framed))

  declaring_runs : (n id : ℕ) (e : K) (f : Face K) (g : Rows K) → Frame g → Runs (declaring cmp matching n id e f ++ showing cmp f.region e) g (total (told_price cmp matching tokens price end_price mode os rises plain f.region) os)
  declaring_runs n id e f g framed =
      let h = with_face n (registered id e) g in
      let framed_h : Frame h = framed_face mode os n (registered id e) (λ k. refl) g framed in
      let told = rows_heard cmp (tell cmp matching f.region e h) h in
      let most = total (told_price cmp matching tokens price end_price mode os rises plain f.region) os in
      let runs = runs_alter cmp matching tokens price end_price (with_face n (registered id e)) (Say (tell cmp matching f.region e) ∷ showing cmp f.region e) g 0 (most + 0)
      (free_change n (registered id e) g framed (λ k. refl)) (face_frame n (registered id e) (λ k. refl) g)
      (runs_say cmp matching tokens price end_price (tell cmp matching f.region e) (showing cmp f.region e) h most 0 (tell_said cmp matching tokens price end_price mode os rises plain f.region e h framed_h)
      (showing_runs cmp matching tokens price end_price mode os rises plain f.region e told (framed_heard cmp mode os (tell cmp matching f.region e h) h framed_h))) in
      runs_more cmp matching tokens price end_price _ g (0 + (most + 0)) most (omega arith) runs

  pub declare_runs : (n id node : ℕ) (e : K) (interest : Option ℕ) (f : Face K) (total_order : IsTotalOrder cmp) (equal_is_same : (a b : K) → cmp a b ≡ Equal → a ≡ b) (g : Rows K) → Frame g → find_face n g ≡ Some f → is_routed g f ≡ false → is_among cmp e tokens ≡ true
      → Runs (parts_of cmp matching (DeclareToken n id e node interest) g) g (total (told_price cmp matching tokens price end_price mode os rises plain f.region) os)
  unfolding parts_of
  declare_runs n id node e interest f total_order equal_is_same g framed found outside there =
      let most = total (told_price cmp matching tokens price end_price mode os rises plain f.region) os in
      let parts = λ (k : Face K). if is_routed g k then declaring_of cmp matching n (source_of g k node) e k else answering cmp matching n interest e k ++ (if registers k interest then declaring cmp matching n id e k ++ showing cmp k.region e else []) in
      let is : parts_of cmp matching (DeclareToken n id e node interest) g ≡ parts f = ap (λ (o : Option (Face K)). (let ps : List (Part K) = elim o [ None ↦ [] | Some k ↦ parts k ] in ps)) found in
      let answers = answering_runs n interest e f total_order equal_is_same g framed there in
      let h = ran cmp (answering cmp matching n interest e f) g in
      let second : Runs (if registers f interest then declaring cmp matching n id e f ++ showing cmp f.region e else []) h most =
      of_cond (λ (ps : List (Part K)). Runs ps h most) (registers f interest) (declaring cmp matching n id e f ++ showing cmp f.region e) [] (λ _. declaring_runs n id e f h answers.1)
      (λ _. runs_more cmp matching tokens price end_price [] h 0 most (omega arith) (runs_nothing cmp matching tokens price end_price h)) in
      subst (λ (ps : List (Part K)). Runs ps g most) (sym is)
      (rw outside (runs_more cmp matching tokens price end_price _ g (0 + most) most (omega arith) (runs_append cmp matching tokens price end_price (answering cmp matching n interest e f) _ g 0 most answers.0 second)))

  -- ---- a token is undeclared

  pub undeclare_runs : (most : Outline K → ℕ) (n id node : ℕ) (given : Option K) (f : Face K) (g : Rows K) → Frame g → find_face n g ≡ Some f → is_routed g f ≡ false
      → ((e : K) → undeclared cmp matching id given f ≡ Some e → Each (λ h. Pays cmp tokens price end_price g.moment h (most (outline h)) (forget_to cmp matching (with_face n (unregistered id) g) f.region e h)) (with_face n (unregistered id) g).faces)
      → Runs (parts_of cmp matching (UndeclareToken n id given node) g) g (total most os)
  unfolding parts_of with_face
  undeclare_runs most n id node given f g framed found outside forgets =
      let parts = λ (k : Face K). if is_routed g k then undeclaring_of cmp matching n (source_of g k node) given k else undeclaring cmp matching n id given k ++ hiding_undeclared cmp matching id given k in
      let is : parts_of cmp matching (UndeclareToken n id given node) g ≡ parts f = ap (λ (o : Option (Face K)). (let ps : List (Part K) = elim o [ None ↦ [] | Some k ↦ parts k ] in ps)) found in
      subst (λ (ps : List (Part K)). Runs ps g (total most os)) (sym is) (rw outside (by_expression (undeclared cmp matching id given f) refl))
    where
      by_expression : (o : Option K) → undeclared cmp matching id given f ≡ o
          → Runs ((let ps : List (Part K) = elim o [ None ↦ [] | Some e ↦ Alter (with_face n (unregistered id)) ∷ Say (λ h. to_each (forget_to cmp matching h f.region e) h.faces) ∷ [] ] in ps) ++ (let ps : List (Part K) = elim o [ None ↦ [] | Some e ↦ hiding cmp f.region e ] in ps)) g (total most os)
      by_expression None is = runs_more cmp matching tokens price end_price [] g 0 (total most os) (omega arith) (runs_nothing cmp matching tokens price end_price g)
      by_expression (Some e) is =
          let h = with_face n (unregistered id) g in
          let framed_h : Frame h = framed_face mode os n (unregistered id) (λ k. refl) g framed in
          let said = each_said cmp matching tokens price end_price mode os rises plain (forget_to cmp matching h f.region e) (λ k. most (outline k)) h framed_h (forgets e is) in
          let sum = framed_total most mode os h framed_h in
          let runs = runs_alter cmp matching tokens price end_price (with_face n (unregistered id)) (Say (λ k. to_each (forget_to cmp matching k f.region e) k.faces) ∷ hiding cmp f.region e) g 0 (total most os + 0)
          (free_change n (unregistered id) g framed (λ k. refl)) (face_frame n (unregistered id) (λ k. refl) g)
          (runs_say cmp matching tokens price end_price (λ k. to_each (forget_to cmp matching k f.region e) k.faces) (hiding cmp f.region e) h (total most os) 0 (omega arith)
          (hiding_runs cmp matching tokens price end_price mode os rises plain f.region e _ (framed_heard cmp mode os (to_each (forget_to cmp matching h f.region e) h.faces) h framed_h))) in
          runs_more cmp matching tokens price end_price _ g (0 + (total most os + 0)) (total most os) (omega arith) runs

  -- a face to the north that keeps only what it sees, and asks nothing, hears nothing of what it sees still
  pub forgets_nothing : (g : Rows K) (source : Region) (e : K) (f : Face K) → wants matching f e ≡ false → (keeps cmp f e ≡ true → is_visible cmp g f.region e ≡ true) → forget_to cmp matching g source e f ≡ []
  unfolding forget_to
  forgets_nothing g source e f unwanted sees =
      of_cond (λ (ms : List (Message K)). ms ≡ []) (is_routed g f || is_visible cmp g f.region e) [] (elim (told_id cmp e f.told) [ None ↦ forget_untold cmp matching g source e f | Some id ↦ message.UndeclareToken id None 0 ∷ [] ])
      (λ _. refl) (λ hidden. by_told (told_id cmp e f.told) refl hidden)
    where
      or_true : (b : Bool) → (b || true) ≡ true
      or_true true = refl
      or_true false = refl

      by_told : (o : Option ℕ) → told_id cmp e f.told ≡ o → (is_routed g f || is_visible cmp g f.region e) ≡ false → (let ms : List (Message K) = elim o [ None ↦ forget_untold cmp matching g source e f | Some id ↦ message.UndeclareToken id None 0 ∷ [] ] in ms ≡ [])
      by_told None is hidden = rw unwanted refl
      by_told (Some id) is hidden =
          let seen : is_visible cmp g f.region e ≡ true = sees (told_id_names cmp e f.told id is) in
          let shown : (is_routed g f || is_visible cmp g f.region e) ≡ true = rw seen (or_true (is_routed g f)) in
          let clash : true ≡ false = sym shown ∙ hidden in
          cc

  -- ---- a final

  pub finish_runs : (n id : ℕ) (f : Face K) (g : Rows K) → Frame g → find_face n g ≡ Some f → Runs (parts_of cmp matching (DeclareFinal n id) g) g 0
  unfolding parts_of
  finish_runs n id f g framed found =
      let is : parts_of cmp matching (DeclareFinal n id) g ≡ finishing n id f = ap (λ (o : Option (Face K)). (let ps : List (Part K) = elim o [ None ↦ [] | Some k ↦ finishing n id k ] in ps)) found in
      let h = with_face n (initial_finalised id) g in
      let framed_h : Frame h = framed_face mode os n (initial_finalised id) (λ k. refl) g framed in
      let rest : Runs (if has_id id f.pendings then ending n id else []) h 0 =
      of_cond (λ (ps : List (Part K)). Runs ps h 0) (has_id id f.pendings) (ending n id) [] (λ _. ending_runs n id h framed_h) (λ _. runs_nothing cmp matching tokens price end_price h) in
      subst (λ (ps : List (Part K)). Runs ps g 0) (sym is)
      (runs_more cmp matching tokens price end_price _ g (0 + 0) 0 (omega arith) (runs_alter cmp matching tokens price end_price (with_face n (initial_finalised id)) _ g 0 0 (free_change n (initial_finalised id) g framed (λ k. refl)) (face_frame n (initial_finalised id) (λ k. refl) g) rest))
    where
      ending_runs : (n id : ℕ) (h : Rows K) → Frame h → Runs (ending n id) h 0
      ending_runs n id h framed_h =
          let k = with_face n (ended id) h in
          let framed_k : Frame k = framed_face mode os n (ended id) (λ f. refl) h framed_h in
          runs_more cmp matching tokens price end_price _ h (0 + (0 + 0)) 0 (omega arith)
          (runs_alter cmp matching tokens price end_price (with_face n (ended id)) _ h 0 (0 + 0) (free_change n (ended id) h framed_h (λ f. refl)) (face_frame n (ended id) (λ f. refl) h)
          (runs_say cmp matching tokens price end_price (λ j. to_each (finish_to j n id) j.faces) [] k 0 0 (free_said (finish_to k n id) k framed_k (λ f. finish_pays cmp matching tokens price end_price k.moment k n id f)) (runs_nothing cmp matching tokens price end_price _)))
