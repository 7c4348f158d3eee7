-- Lines that make a gateway or open a plain face: no joint sees of it.
use Rattle.std.proofs.Common.{◌≡◌, ℕ, ◌+◌, ◌-◌, ◌≤◌, Bool, true, false, ◌==◌, List, [], ◌∷◌, ◌++◌, map, Option, Some, None, is_none, refl, sym, ap, ◌∙◌, subst, eq-eqb, eqb-true, ne_eqb, arith, append-nil}
use Rattle.std.specs.Cmp.{IsTotalOrder}
use Rattle.std.specs.declared.cmp.Ordering.{Ordering}
use Rattle.zt_region.specs.declared.region.Bound.{Bound}
use Rattle.zt_region.specs.declared.region.Region.{Region}
use Rattle.zt_region.specs.declared.region.WhatAmI.{WhatAmI}
use Rattle.zt_region.specs.declared.region.Zid.{Zid}
use Rattle.zt_region.specs.Region.{is_north}
use Rattle.zt_region.specs.South.{PlainSouth}
use Rattle.zt_protocol.specs.Plain.{PlainCall, NewSession, NewTransport, DeclareToken, UndeclareToken, Interest, InterestFinal, DeclareFinal, CloseFace, Expire, SetTrees, SetEntities, PlainLine, Gateway, Session, Face as FaceLine}
use Rattle.zt_protocol.specs.declared.entries.Sent.{Sent}
use Rattle.zt_protocol.specs.declared.messages.Message.{Message}
use Rattle.zt_model.specs.Fabric.{CallAt, Fabric, Node, Place, after_hearing, altered_by_line, line_causes, call_of, new_rows, next_face, number_from, opened_at, printed_for, said_at, said_by_line, sorted_by_face, with_gateway, with_place, with_rows, with_session, with_waiting}
use Rattle.zt_model.specs.Hearing.{heard_all, messages_for, rows_heard}
use Rattle.zt_model.specs.Linking.{waiting_of}
use Rattle.zt_model.specs.Lists.{first_where, nth}
use Rattle.zt_model.specs.Parts.{Sends, altered_by, find_face, said_by, to_face}
use Rattle.zt_model.specs.Refusals.{first_cause}
use Rattle.zt_model.specs.Rows.{ById, Face, Rows}
use Rattle.zt_model.specs.Says.{altered, parts_of, said}
use Rattle.zt_model.specs.Transcript.{FaceAt, face_numbered}
use Rattle.zt_laws.specs.Order.{FabricIsInOrder}
use Rattle.zt_laws.specs.Sound.{is_placed, opens_face, rows_after_call}
use Rattle.zt_laws.proofs.Calls.{no_cause}
use Rattle.zt_laws.proofs.Entries.{nth-at_nth}
use Rattle.zt_laws.proofs.Gateways.{PrintsSends, after_hearing_nothing, prints_map, prints_sorted}
use Rattle.zt_laws.proofs.Hearing.{find_each, find_passes, messages_for-append, messages_for_other}
use Rattle.zt_laws.proofs.Lists.{by_test, each_weaker, never}
use Rattle.zt_laws.proofs.LinesOrder.{after_prints, called_at, faces_still_placed, gateway_in_order, opened_faces}
use Rattle.zt_laws.proofs.Numbered.{nth_real}
use Rattle.zt_laws.proofs.Places.{number_still, placed_new, placed_still}
use Rattle.zt_theorem_tree_invariant.specs.Facts.{JointAgrees, TreesAgree}
use Rattle.zt_theorem_tree_invariant.specs.Joints.{EachJoint, are_joined}
use Rattle.zt_theorem_tree_invariant.proofs.After.{with_nothing}
use Rattle.zt_theorem_tree_invariant.proofs.Members.{is_there, number_is_its, numbered}
use Rattle.zt_theorem_tree_invariant.proofs.Quiet.{joined_back}
use Rattle.zt_theorem_tree_invariant.proofs.Saying.{find_heard_at}
use Rattle.zt_theorem_tree_invariant.proofs.Turning.{nth_other, queue, queue_added}

-- a member stays where others come behind
pub nth_front : {A : Type 0} (n : ℕ) (xs ys : List A) (x : A) → nth n xs ≡ Some x → nth n (xs ++ ys) ≡ Some x
nth_front n [] ys x at_ = cc
nth_front n (y ∷ xs) ys x at_ = by_test (n == 1) (λ here. rw here (rw here at at_)) (λ here. rw here (nth_front (n - 1) xs ys x (rw here at at_)))

find_front : {A : Type 0} (p : A → Bool) (xs ys : List A) (x : A) → first_where p xs ≡ Some x → first_where p (xs ++ ys) ≡ Some x
find_front p [] ys x found = cc
find_front p (y ∷ xs) ys x found = by_test (p y) (λ here. rw here (rw here at found)) (λ here. rw here (find_front p xs ys x (rw here at found)))

the_same : {A : Type 0} {u v : A} → Some u ≡ Some v → u ≡ v
the_same h = cc

module _ {K : Type 0} where
  -- what is said to one face is said to no other
  sent_elsewhere : (p n : ℕ) (rule : Face K → List (Message K)) (g : Rows K) → (p == n) ≡ false → messages_for p (to_face n rule g) ≡ []
  unfolding to_face messages_for
  sent_elsewhere p n rule g apart = cases (find_face n g)
    where
      cases : (o : Option (Face K)) → messages_for p (let ss : Sends K = elim o [ None ↦ [] | Some f ↦ map (λ m. (n, m)) (rule f) ] in ss) ≡ []
      cases None = refl
      cases (Some f) = messages_for_other p n (rule f) apart

module _ {K : Type 0} (cmp : K → K → Ordering) (matching : K → K → Bool) (total : IsTotalOrder cmp) (s : Fabric K) (fine : FabricIsInOrder cmp matching s) (agree : TreesAgree cmp matching s) where
  -- Each face of a joint is as it was, and nothing more waits for it.
  pub same_joints : (t : Fabric K) → ((a b : ℕ) → are_joined t a b ≡ true → are_joined s a b ≡ true)
      → ((a b : ℕ) (z : FaceAt K) → are_joined s a b ≡ true → face_numbered s a ≡ Some z → (u : FaceAt K) × ((face_numbered t a ≡ Some u) × (u.face ≡ z.face)))
      → ((a b : ℕ) (z : FaceAt K) → are_joined s a b ≡ true → face_numbered s a ≡ Some z → waiting_of t a ≡ waiting_of s a) → EachJoint (JointAgrees cmp) t
  same_joints t joins_ faces_ waits = λ a b x y joined x_is y_is up.
      let joined_s = joins_ a b joined in
      let back = joined_back s a b joined_s in
      let ends = agree.links.meet a b joined_s in
      let fa = faces_ a b ends.one joined_s ends.one_is in
      let fb = faces_ b a ends.two back ends.two_is in
      let x_face : x.face ≡ ends.one.face = ap (λ (v : FaceAt K). v.face) (the_same (sym x_is ∙ fa.1.0)) ∙ fa.1.1 in
      let y_face : y.face ≡ ends.two.face = ap (λ (v : FaceAt K). v.face) (the_same (sym y_is ∙ fb.1.0)) ∙ fb.1.1 in
      let up_one : is_north ends.one.face.region ≡ true = ap (λ (f : Face K). is_north f.region) (sym x_face) ∙ up in
      let j0 = agree.joints a b ends.one ends.two joined_s ends.one_is ends.two_is up_one in
      subst (λ f. JointAgrees cmp f y.face (waiting_of t a) (waiting_of t b)) (sym x_face)
      (subst (λ f. JointAgrees cmp ends.one.face f (waiting_of t a) (waiting_of t b)) (sym y_face)
      (subst (λ ms. JointAgrees cmp ends.one.face ends.two.face ms (waiting_of t b)) (sym (waits a b ends.one joined_s ends.one_is))
      (subst (λ ms. JointAgrees cmp ends.one.face ends.two.face (waiting_of s a) ms) (sym (waits b a ends.two back ends.two_is)) j0)))

  -- ---- a gateway is made

  pub gateway_made : (node : Node K) → EachJoint (JointAgrees cmp) (with_gateway node s)
  gateway_made node =
      same_joints (with_gateway node s) (λ a b joined. joined)
      (λ a b z joined found.
      let at_ = is_there s a z found in
      (record { gateway = at_.place.gateway; rows = at_.node.rows; face = z.face }, (numbered (with_gateway node s) a at_.place at_.node z.face at_.place_is (ap (λ g. nth g (s.gateways ++ node ∷ [])) at_.gateway_is ∙ nth_front z.gateway s.gateways (node ∷ []) at_.node at_.node_is) (ap (λ n. find_face n at_.node.rows) at_.number_is ∙ ap (find_face z.face.number) at_.rows_are ∙ at_.face_is), refl)))
      (λ a b z joined found. refl)

  -- ---- a face is opened

  module _ (n : ℕ) (node : Node K) (at_n : nth n s.gateways ≡ Some node) (c : PlainCall K) (opens : opens_face c ≡ true) (ms : List (Sent K)) (prints : PrintsSends (with_place n s).faces n (said cmp matching c node.rows) ms) where
    abbrev pub then_ : Fabric K
    then_ = record (with_rows n (rows_after_call cmp matching c) (with_place n s)) { waiting = map (λ row. (row.0, row.1 ++ printed_for row.0 ms)) s.waiting }

    abbrev pub changes : Node K → Node K
    changes x = record x { rows = rows_after_call cmp matching c x.rows }

    -- the faces that were there still are, and are sent nothing
    pub still_found : (p : ℕ) (f : Face K) → find_face p node.rows ≡ Some f → (find_face p (altered cmp matching c node.rows) ≡ Some f) × (messages_for p (said cmp matching c node.rows) ≡ [])
    unfolding parts_of said_by altered_by messages_for
    still_found p f found = by_call c opens
      where
        made_above : (p == node.rows.made + 1) ≡ false
        made_above =
            let lists = (gateway_in_order cmp matching s n node at_n fine).rows.lists in
            let within : f.number ≤ node.rows.made = find_each (λ (h : Face K). h.number ≤ node.rows.made) (λ (h : Face K). p == h.number) node.rows.faces f lists.faces_made found in
            let is : p ≡ f.number = eqb-true p f.number (find_passes (λ (h : Face K). p == h.number) node.rows.faces f found) in
            ne_eqb p (node.rows.made + 1) (λ e. omega arith)

        nothing : (rule one two : Face K → List (Message K)) (g h k : Rows K) → messages_for p (to_face (node.rows.made + 1) rule g ++ (to_face (node.rows.made + 1) one h ++ (to_face (node.rows.made + 1) two k ++ []))) ≡ []
        nothing rule one two g h k =
            messages_for-append p (to_face (node.rows.made + 1) rule g) (to_face (node.rows.made + 1) one h ++ (to_face (node.rows.made + 1) two k ++ []))
            ∙ ap (λ xs. xs ++ messages_for p (to_face (node.rows.made + 1) one h ++ (to_face (node.rows.made + 1) two k ++ []))) (sent_elsewhere p (node.rows.made + 1) rule g made_above)
            ∙ messages_for-append p (to_face (node.rows.made + 1) one h) (to_face (node.rows.made + 1) two k ++ [])
            ∙ ap (λ xs. xs ++ messages_for p (to_face (node.rows.made + 1) two k ++ [])) (sent_elsewhere p (node.rows.made + 1) one h made_above)
            ∙ messages_for-append p (to_face (node.rows.made + 1) two k) []
            ∙ ap (λ xs. xs ++ messages_for p []) (sent_elsewhere p (node.rows.made + 1) two k made_above)

        by_call : (d : PlainCall K) → opens_face d ≡ true → (find_face p (altered cmp matching d node.rows) ≡ Some f) × (messages_for p (said cmp matching d node.rows) ≡ [])
        by_call (NewSession first) o = (find_front (λ (h : Face K). p == h.number) node.rows.faces _ f found, refl)
        by_call (NewTransport zid whatami region bound first) o = (find_front (λ (h : Face K). p == h.number) node.rows.faces _ f found, nothing _ _ _ _ _ _)
        by_call (DeclareToken k id e m i) o = never o refl
        by_call (UndeclareToken k id e m) o = never o refl
        by_call (Interest k id mode options e) o = never o refl
        by_call (InterestFinal k id) o = never o refl
        by_call (DeclareFinal k id) o = never o refl
        by_call (CloseFace k) o = never o refl
        by_call (Expire now) o = never o refl
        by_call (SetTrees region t) o = never o refl
        by_call (SetEntities k subscribers queryables) o = never o refl

    heard_nothing : (now : ℕ) (f : Face K) → heard_all cmp now [] f ≡ f
    unfolding heard_all
    heard_nothing now f = refl

    found_here : (a : ℕ) (z : FaceAt K) → face_numbered s a ≡ Some z → z.gateway ≡ n → find_face z.face.number node.rows ≡ Some z.face
    found_here a z found here =
        let at_ = is_there s a z found in
        let node_same : at_.node ≡ node = the_same (sym at_.node_is ∙ ap (λ g. nth g s.gateways) here ∙ at_n) in
        ap (λ (x : Node K). find_face z.face.number x.rows) (sym node_same) ∙ ap (find_face z.face.number) at_.rows_are ∙ at_.face_is

    -- a face that was there, at its gateway
    pub seen : (a : ℕ) (z : FaceAt K) → face_numbered s a ≡ Some z → (u : FaceAt K) × ((face_numbered then_ a ≡ Some u) × (u.face ≡ z.face) × (u.gateway ≡ z.gateway))
    seen a z found =
        let at_ = is_there s a z found in
        let place_is : nth a then_.faces ≡ Some at_.place = nth_front a s.faces _ at_.place at_.place_is in
        by_test (z.gateway == n)
        (λ here.
        let at_z : z.gateway ≡ n = eqb-true z.gateway n here in
        let p = z.face.number in
        let ss = said cmp matching c node.rows in
        let g = altered cmp matching c node.rows in
        let still = still_found p z.face (found_here a z found at_z) in
        let now_ : find_face p (rows_heard cmp ss g) ≡ Some z.face = find_heard_at cmp ss g p z.face still.0 ∙ ap (λ xs. Some (heard_all cmp g.moment xs z.face)) still.1 ∙ ap Some (heard_nothing g.moment z.face) in (
          record { gateway = at_.place.gateway; rows = (changes node).rows; face = z.face },
          (numbered then_ a at_.place (changes node) z.face place_is (ap (λ i. nth i then_.gateways) (at_.gateway_is ∙ at_z) ∙ nth-at_nth n changes s.gateways node at_n) (ap (λ k. find_face k (changes node).rows) at_.number_is ∙ now_), refl, at_.gateway_is),
        ))
        (λ apart. (
          record { gateway = at_.place.gateway; rows = at_.node.rows; face = z.face },
          (
            numbered then_ a at_.place at_.node z.face place_is (ap (λ g. nth g then_.gateways) at_.gateway_is ∙ nth_other z.gateway n changes s.gateways at_.node (nth_real n s.gateways node at_n) (λ is. never (eq-eqb z.gateway n is) apart) at_.node_is)
                (ap (λ k. find_face k at_.node.rows) at_.number_is ∙ ap (find_face z.face.number) at_.rows_are ∙ at_.face_is),
            refl,
            at_.gateway_is,
          ),
        ))

    view : (a b : ℕ) (z : FaceAt K) → are_joined s a b ≡ true → face_numbered s a ≡ Some z → (u : FaceAt K) × ((face_numbered then_ a ≡ Some u) × (u.face ≡ z.face))
    view a b z joined found = let u = seen a z found in (u.0, (u.1.0, u.1.1))

    pub nothing_printed : (a : ℕ) (z : FaceAt K) → face_numbered s a ≡ Some z → printed_for a ms ≡ []
    nothing_printed a z found =
        let at_ = is_there s a z found in
        let gateway = gateway_in_order cmp matching s z.gateway at_.node at_.node_is fine in
        let p = z.face.number in
        let new_ : Place = record { gateway = n; face = next_face (nth n s.gateways) } in
        let placed : is_placed z.gateway p s.faces ≡ true = find_each (λ f. is_placed z.gateway f.number s.faces ≡ true) (λ (f : Face K). p == f.number) at_.node.rows.faces z.face gateway.placed (ap (find_face p) at_.rows_are ∙ at_.face_is) in
        let placed_now : is_placed z.gateway p (s.faces ++ new_ ∷ []) ≡ true = placed_still z.gateway p s.faces new_ placed in
        let number_ : a ≡ number_from 1 z.gateway p (s.faces ++ new_ ∷ []) = sym (number_is_its cmp matching s a z fine found) ∙ sym (number_still 1 z.gateway p s.faces new_ placed) in
        by_test (z.gateway == n)
        (λ here.
        let at_z : z.gateway ≡ n = eqb-true z.gateway n here in
        ap (λ k. printed_for k ms) (number_ ∙ ap (λ g. number_from 1 g p (s.faces ++ new_ ∷ [])) at_z) ∙ prints.own p (ap (λ g. is_placed g p (s.faces ++ new_ ∷ [])) (sym at_z) ∙ placed_now) ∙ (still_found p z.face (found_here a z found at_z)).1)
        (λ apart. ap (λ k. printed_for k ms) number_ ∙ prints.other z.gateway p (λ is. never (eq-eqb z.gateway n is) apart) placed_now)

    pub face_opened : EachJoint (JointAgrees cmp) then_
    face_opened =
        same_joints then_ (λ a b joined. joined) view
        (λ a b z joined found. queue_added s.waiting ms a (agree.links.wait a b joined) ∙ ap (λ xs. queue s.waiting a ++ xs) (nothing_printed a z found) ∙ append-nil (queue s.waiting a))

    -- the fabric after the line
    pub opened_is : with_waiting ms (after_hearing cmp ms (with_rows n (altered cmp matching c) (with_place n s))) ≡ then_
    opened_is =
        let gateway = gateway_in_order cmp matching s n node at_n fine in
        let p : Place = record { gateway = n; face = next_face (nth n s.gateways) } in
        let places = s.faces ++ p ∷ [] in
        let p_face : p.face ≡ node.rows.made + 1 = ap next_face at_n in
        let new_ : is_placed n (node.rows.made + 1) places ≡ true = subst (λ k. is_placed n k places ≡ true) p_face (placed_new n p.face s.faces) in
        let after = opened_faces cmp matching total (λ k. is_placed n k places ≡ true) c node.rows opens new_ (each_weaker (λ f. is_placed n f.number s.faces ≡ true) (λ f. is_placed n f.number places ≡ true) (λ f there. placed_still n f.number s.faces p there) node.rows.faces gateway.placed) in
        ap (λ (t : Fabric K). record t { waiting = map (λ row. (row.0, row.1 ++ printed_for row.0 ms)) t.waiting }) (after_prints cmp matching n node c (with_place n s) ms prints at_n after.0 (faces_still_placed cmp matching p s fine))

    pub opened_agrees : EachJoint (JointAgrees cmp) (with_waiting ms (after_hearing cmp ms (with_rows n (altered cmp matching c) (with_place n s))))
    opened_agrees = subst (EachJoint (JointAgrees cmp)) (sym opened_is) face_opened

  -- ---- lines

  after_nothing : (t : Fabric K) → EachJoint (JointAgrees cmp) t → EachJoint (JointAgrees cmp) (with_waiting (sorted_by_face []) (after_hearing cmp (sorted_by_face []) t))
  unfolding sorted_by_face
  after_nothing t all = subst (EachJoint (JointAgrees cmp)) (sym (ap (with_waiting []) (after_hearing_nothing cmp t) ∙ ap (λ (w : ById (List (Message K))). record t { waiting = w }) (with_nothing t.waiting))) all

  pub gateway_agrees : (spent : Bool) (mode : WhatAmI) (zid : Zid) (regions : List Region) (south : PlainSouth) (name : Option (List ℕ)) (timeout : ℕ) (refused : List (Region × Region)) → (let line : PlainLine K = Gateway mode zid regions south name timeout refused in EachJoint (JointAgrees cmp) (with_waiting (sorted_by_face (said_by_line cmp matching line s)) (after_hearing cmp (sorted_by_face (said_by_line cmp matching line s)) (altered_by_line cmp matching line s))))
  unfolding call_of said_by_line altered_by_line
  gateway_agrees spent mode zid regions south name timeout refused = after_nothing (with_gateway (record { rows = new_rows mode zid regions timeout refused; south = south; name = name }) s) (gateway_made (record { rows = new_rows mode zid regions timeout refused; south = south; name = name }))

  pub session_agrees : (spent : Bool) (n first : ℕ) → (let line : PlainLine K = Session n first in first_cause (line_causes cmp matching spent line s) ≡ None → EachJoint (JointAgrees cmp) (with_waiting (sorted_by_face (said_by_line cmp matching line s)) (after_hearing cmp (sorted_by_face (said_by_line cmp matching line s)) (altered_by_line cmp matching line s))))
  unfolding line_causes call_of said_by_line altered_by_line parts_of said_by altered_by sorted_by_face
  session_agrees spent n first accepted = cases (nth n s.gateways) refl (no_cause _ _ _ accepted).0
    where
      G : Option (CallAt K) → Type 0
      G at = EachJoint (JointAgrees cmp) (with_waiting (sorted_by_face (said_at cmp matching s at)) (after_hearing cmp (sorted_by_face (said_at cmp matching s at)) (with_session n first s)))

      cases : (o : Option (Node K)) → nth n s.gateways ≡ o → is_none o ≡ false → G (elim o [ None ↦ None | Some node ↦ Some (record { gateway = n; rows = node.rows; call = NewSession first }) ])
      cases None at_ known = never refl known
      cases (Some node) at_ known = opened_agrees n node at_ (NewSession first) refl [] (prints_map (with_place n s).faces n (said cmp matching (NewSession first) node.rows))

  pub face_agrees : (spent : Bool) (n : ℕ) (mode : WhatAmI) (zid : Zid) (region : Region) (bound : Bound) (first : ℕ) → (let line : PlainLine K = FaceLine n mode zid region bound first in EachJoint (JointAgrees cmp) (with_waiting (sorted_by_face (said_by_line cmp matching line s)) (after_hearing cmp (sorted_by_face (said_by_line cmp matching line s)) (altered_by_line cmp matching line s))))
  unfolding call_of said_by_line altered_by_line
  face_agrees spent n mode zid region bound first =
      let c : PlainCall K = NewTransport zid mode region bound first in
      called_at (λ at. EachJoint (JointAgrees cmp) (with_waiting (sorted_by_face (said_at cmp matching (opened_at cmp matching at s) at)) (after_hearing cmp (sorted_by_face (said_at cmp matching (opened_at cmp matching at s) at)) (opened_at cmp matching at s)))) s n c (after_nothing s agree.joints)
      (λ node at_. opened_agrees n node at_ c refl (sorted_by_face (said_at cmp matching (with_place n s) (Some (record { gateway = n; rows = node.rows; call = c })))) (prints_sorted (with_place n s).faces n (said cmp matching c node.rows)))
