-- Every line leaves the gateways of a fabric in order.
use Rattle.std.proofs.Common.{◌≡◌, ℕ, ◌+◌, ◌≤◌, ◌<◌, Bool, true, false, List, [], ◌∷◌, ◌++◌, length, Option, Some, None, refl, sym, ap, ◌∙◌, subst, arith, eq-eqb, length-append, ne_eqb}
use Rattle.std.specs.Cmp.{IsTotalOrder}
use Rattle.std.specs.declared.cmp.Ordering.{Ordering}
use Rattle.zt_region.specs.declared.region.Region.{Region}
use Rattle.zt_region.specs.declared.region.WhatAmI.{WhatAmI}
use Rattle.zt_region.specs.declared.region.Zid.{Zid}
use Rattle.zt_protocol.specs.Plain.{PlainCall, NewSession, NewTransport, DeclareToken, UndeclareToken, Interest, InterestFinal, DeclareFinal, CloseFace, Expire, SetTrees, SetEntities}
use Rattle.zt_protocol.specs.declared.entries.Sent.{Sent}
use Rattle.zt_protocol.specs.declared.messages.Message.{Message}
use Rattle.zt_protocol.specs.declared.messages.Message.TheVariants as message
use Rattle.zt_model.specs.Fabric.{CallAt, Fabric, empty_fabric, Node, Place, after_hearing, at_nth, call_at, call_at_place, call_face, call_of_face, call_of_step, new_rows, next_face, with_call_face, with_gateway, with_place, with_rows}
use Rattle.zt_model.specs.Hearing.{heard_all, messages_for, rows_heard}
use Rattle.zt_model.specs.Linking.{call_of_message, oldest, speaking_end}
use Rattle.zt_model.specs.Lists.{nth}
use Rattle.zt_model.specs.Places.{Link}
use Rattle.zt_model.specs.Rows.{Face, Rows}
use Rattle.zt_model.specs.Says.{Sends, altered, altered_by, parts_of, said}
use Rattle.zt_model.specs.Transcript.{Each}
use Rattle.zt_laws.specs.Order.{FabricIsInOrder, GatewayIsInOrder, RowsAreInOrder}
use Rattle.zt_laws.specs.Sound.{CallHasFirstIds, EachFrom, RiseFrom, is_placed, opens_face, places_of, rows_after_call}
use Rattle.zt_laws.proofs.CallsOrder.{altered_faces, in_order_after_call}
use Rattle.zt_laws.proofs.Gateways.{FacesArePlaced, PrintsSends, after_hearing_sends}
use Rattle.zt_laws.proofs.Hearing.{heard_all-number}
use Rattle.zt_laws.proofs.Lists.{each_append, each_map, each_from_weaker, each_weaker, never, rise_push}
use Rattle.zt_laws.proofs.Numbered.{at_nth_alike, each_from_at, each_from_last, each_from_nth, length-at_nth, nth_real, nth_within}
use Rattle.zt_laws.proofs.Places.{placed_new, placed_still, places_none, places_other, places_own}

module _ {K : Type 0} where
  -- ---- the call of a line

  abbrev At : ℕ → Node K → PlainCall K → Option (CallAt K)
  At n node c = Some (record { gateway = n; rows = node.rows; call = c })

  pub called_at : (G : Option (CallAt K) → Type 0) (s : Fabric K) (n : ℕ) (c : PlainCall K) → G None → ((node : Node K) → nth n s.gateways ≡ Some node → G (At n node c)) → G (call_at s n c)
  called_at G s n c nothing made = by_node (nth n s.gateways) refl
    where
      by_node : (o : Option (Node K)) → nth n s.gateways ≡ o → G (elim o [ None ↦ None | Some node ↦ Some (record { gateway = n; rows = node.rows; call = c }) ])
      by_node None at_ = nothing
      by_node (Some node) at_ = made node at_

  -- what holds where a line makes no call, and where a call is made at its gateway that opens no face
  abbrev Holds : (Option (CallAt K) → Type 0) → Fabric K → Type 0
  Holds G s = (n : ℕ) (node : Node K) (c : PlainCall K) → nth n s.gateways ≡ Some node → opens_face c ≡ false → G (At n node c)

  called_at_place : (G : Option (CallAt K) → Type 0) (s : Fabric K) (c : PlainCall K) (o : Option Place) → ((k : ℕ) → opens_face (with_call_face k c) ≡ false) → G None → Holds G s → G (call_at_place s c o)
  called_at_place G s c None still nothing made = nothing
  called_at_place G s c (Some p) still nothing made = called_at G s p.gateway (with_call_face p.face c) nothing (λ node at_. made p.gateway node (with_call_face p.face c) at_ (still p.face))

  pub called_by_speaker : (G : Option (CallAt K) → Type 0) (s : Fabric K) (c : PlainCall K) → G None → Holds G s → G (call_of_face s c (call_face c))
  called_by_speaker G s (NewSession first) nothing made = nothing
  called_by_speaker G s (NewTransport zid whatami region bound first) nothing made = nothing
  called_by_speaker G s (Expire now) nothing made = nothing
  called_by_speaker G s (SetTrees region t) nothing made = nothing
  called_by_speaker G s (DeclareToken n id e node interest) nothing made = called_at_place G s (DeclareToken n id e node interest) (nth n s.faces) (λ k. refl) nothing made
  called_by_speaker G s (UndeclareToken n id given node) nothing made = called_at_place G s (UndeclareToken n id given node) (nth n s.faces) (λ k. refl) nothing made
  called_by_speaker G s (Interest n id mode options e) nothing made = called_at_place G s (Interest n id mode options e) (nth n s.faces) (λ k. refl) nothing made
  called_by_speaker G s (InterestFinal n id) nothing made = called_at_place G s (InterestFinal n id) (nth n s.faces) (λ k. refl) nothing made
  called_by_speaker G s (DeclareFinal n id) nothing made = called_at_place G s (DeclareFinal n id) (nth n s.faces) (λ k. refl) nothing made
  called_by_speaker G s (CloseFace n) nothing made = called_at_place G s (CloseFace n) (nth n s.faces) (λ k. refl) nothing made
  called_by_speaker G s (SetEntities n subscribers queryables) nothing made = called_at_place G s (SetEntities n subscribers queryables) (nth n s.faces) (λ k. refl) nothing made

  called_by_message : (G : Option (CallAt K) → Type 0) (s : Fabric K) (m : Message K) (o : Option Place) → G None → Holds G s → G (elim (call_of_message 0 m) [ None ↦ None | Some call ↦ call_at_place s call o ])
  called_by_message G s (message.DeclareToken id e interest node) o nothing made = called_at_place G s (DeclareToken 0 id e node interest) o (λ k. refl) nothing made
  called_by_message G s (message.UndeclareToken id e node) o nothing made = called_at_place G s (UndeclareToken 0 id e node) o (λ k. refl) nothing made
  called_by_message G s (message.DeclareFinal interest) o nothing made = called_at_place G s (DeclareFinal 0 interest) o (λ k. refl) nothing made
  called_by_message G s (message.Interest id mode options e) o nothing made = called_at_place G s (Interest 0 id mode options e) o (λ k. refl) nothing made
  called_by_message G s (message.InterestFinal id) o nothing made = called_at_place G s (InterestFinal 0 id) o (λ k. refl) nothing made
  called_by_message G s (message.DeclareSubscriber id e interest) o nothing made = nothing
  called_by_message G s (message.DeclareQueryable id e info interest) o nothing made = nothing

  pub called_by_step : (G : Option (CallAt K) → Type 0) (s : Fabric K) (back : Bool) (o : Option Link) → G None → Holds G s → G (call_of_step s back o)
  called_by_step G s back None nothing made = nothing
  called_by_step G s back (Some link) nothing made = by_oldest (oldest s link back)
    where
      by_oldest : (o : Option (Message K)) → G (elim o [ None ↦ None | Some m ↦ elim (call_of_message 0 m) [ None ↦ None | Some call ↦ call_at_place s call (nth (speaking_end link back) s.faces) ] ])
      by_oldest None = nothing
      by_oldest (Some m) = called_by_message G s m (nth (speaking_end link back) s.faces) nothing made

module _ {K : Type 0} (cmp : K → K → Ordering) (matching : K → K → Bool) where
  -- ---- fabrics in order

  pub in_order_empty : FabricIsInOrder cmp matching empty_fabric
  in_order_empty = record { gateways = tt; places_exist = tt }

  pub gateway_in_order : (s : Fabric K) (n : ℕ) (node : Node K) → nth n s.gateways ≡ Some node → FabricIsInOrder cmp matching s → GatewayIsInOrder cmp matching s.faces n node.rows
  gateway_in_order s n node at_ fine = each_from_nth (λ j (node : Node K). GatewayIsInOrder cmp matching s.faces j node.rows) 1 n n s.gateways node (omega arith) fine.gateways at_

  pub faces_placed : (s : Fabric K) → FabricIsInOrder cmp matching s → EachFrom (λ j (node : Node K). FacesArePlaced s.faces j node.rows) 1 s.gateways
  faces_placed s fine = each_from_weaker (λ j (node : Node K). GatewayIsInOrder cmp matching s.faces j node.rows) (λ j node. FacesArePlaced s.faces j node.rows) (λ j node g. g.placed) 1 s.gateways fine.gateways

  -- a new gateway has no faces
  pub in_order_gateway : (node : Node K) (mode : WhatAmI) (zid : Zid) (regions : List Region) (timeout : ℕ) (refused : List (Region × Region)) (s : Fabric K) → node.rows ≡ new_rows mode zid regions timeout refused → FabricIsInOrder cmp matching s → FabricIsInOrder cmp matching (with_gateway node s)
  in_order_gateway node mode zid regions timeout refused s new_ fine =
      let no_places : places_of (1 + length s.gateways) s.faces ≡ [] =
      places_none (1 + length s.gateways) s.faces (each_weaker (λ p. p.gateway ≤ length s.gateways) (λ p. p.gateway < 1 + length s.gateways) (λ p h. omega arith) s.faces fine.places_exist) in
      record {
        gateways =
            each_from_last (λ j (node : Node K). GatewayIsInOrder cmp matching s.faces j node.rows) 1 s.gateways node fine.gateways
            (subst (GatewayIsInOrder cmp matching s.faces (1 + length s.gateways)) (sym new_)
            (record {
              rows = record { lists = record { faces_rise = tt; faces_made = tt; rows = tt; routed = tt; trees = tt; dictionary = tt }; told = tt };
              placed = tt;
              places_rise = subst (RiseFrom (λ p. p.face) 1) (sym no_places) tt;
              places_made = subst (Each (λ p. p.face ≤ 0)) (sym no_places) tt;
            }));
        places_exist = each_weaker (λ p. p.gateway ≤ length s.gateways) (λ p. p.gateway ≤ length (s.gateways ++ node ∷ [])) (λ p h. omega (arith, length-append s.gateways (node ∷ []))) s.faces fine.places_exist;
      }

  -- a gateway's rows change, and its faces have numbers in scripts
  pub in_order_rows : (n : ℕ) (node : Node K) (change : Rows K → Rows K) (s : Fabric K) → nth n s.gateways ≡ Some node
      → RowsAreInOrder cmp matching (change node.rows) → FacesArePlaced s.faces n (change node.rows) → (change node.rows).made ≡ node.rows.made
      → FabricIsInOrder cmp matching s → FabricIsInOrder cmp matching (with_rows n change s)
  in_order_rows n node change s at_ rows_ placed_ made_ fine = record {
    gateways =
        each_from_at (λ j (x : Node K). GatewayIsInOrder cmp matching s.faces j x.rows) (λ j (x : Node K). GatewayIsInOrder cmp matching s.faces j x.rows) (λ (x : Node K). record x { rows = change x.rows }) 1 n n s.gateways (nth_real n s.gateways node at_) (omega arith)
        (λ j x apart g. g)
        (λ x is g.
        let e : Some node ≡ Some x = sym at_ ∙ is in
        let same_ : node ≡ x = cc in
        subst (λ (y : Node K). GatewayIsInOrder cmp matching s.faces n y.rows → GatewayIsInOrder cmp matching s.faces n (change y.rows)) same_
        (λ h. record { rows = rows_; placed = placed_; places_rise = h.places_rise; places_made = subst (λ k. Each (λ p. p.face ≤ k) (places_of n s.faces)) (sym made_) h.places_made })
        g)
        fine.gateways;
    places_exist = subst (λ k. Each (λ p. p.gateway ≤ k) s.faces) (sym (length-at_nth n (λ (x : Node K). record x { rows = change x.rows }) s.gateways)) fine.places_exist;
  }

  -- a gateway makes a face
  pub in_order_place : (n : ℕ) (node : Node K) (change : Rows K → Rows K) (s : Fabric K) → nth n s.gateways ≡ Some node
      → RowsAreInOrder cmp matching (change node.rows) → FacesArePlaced (with_place n s).faces n (change node.rows) → (change node.rows).made ≡ node.rows.made + 1
      → FabricIsInOrder cmp matching s → FabricIsInOrder cmp matching (with_rows n change (with_place n s))
  in_order_place n node change s at_ rows_ placed_ made_ fine =
      let p : Place = record { gateway = n; face = next_face (nth n s.gateways) } in
      let p_face : p.face ≡ node.rows.made + 1 = ap next_face at_ in
      let places = s.faces ++ p ∷ [] in
      let changes = λ (x : Node K). record x { rows = change x.rows } in
      record {
        gateways =
            each_from_at (λ j (x : Node K). GatewayIsInOrder cmp matching s.faces j x.rows) (λ j (x : Node K). GatewayIsInOrder cmp matching places j x.rows) changes 1 n n s.gateways (nth_real n s.gateways node at_) (omega arith)
            (λ j x apart g.
            let same_places : places_of j places ≡ places_of j s.faces = places_other j s.faces p (ne_eqb j n apart) in
            record {
              rows = g.rows;
              placed = each_weaker (λ f. is_placed j f.number s.faces ≡ true) (λ f. is_placed j f.number places ≡ true) (λ f there. placed_still j f.number s.faces p there) x.rows.faces g.placed;
              places_rise = subst (RiseFrom (λ p. p.face) 1) (sym same_places) g.places_rise;
              places_made = subst (Each (λ p. p.face ≤ x.rows.made)) (sym same_places) g.places_made;
            })
            (λ x is g.
            let e : Some node ≡ Some x = sym at_ ∙ is in
            let same_ : node ≡ x = cc in
            let more_places : places_of n places ≡ places_of n s.faces ++ p ∷ [] = places_own n s.faces p (eq-eqb n n refl) in
            subst (λ (y : Node K). GatewayIsInOrder cmp matching s.faces n y.rows → GatewayIsInOrder cmp matching places n (change y.rows)) same_
            (λ h. record {
              rows = rows_;
              placed = placed_;
              places_rise = subst (RiseFrom (λ p. p.face) 1) (sym more_places)
                  (rise_push (λ p. p.face) 1 (places_of n s.faces) p (omega arith) (each_weaker (λ p. p.face ≤ node.rows.made) (λ q. q.face < p.face) (λ q up. omega arith) (places_of n s.faces) h.places_made) h.places_rise);
              places_made = subst (Each (λ q. q.face ≤ (change node.rows).made)) (sym more_places)
                  (each_append (λ q. q.face ≤ (change node.rows).made) (places_of n s.faces) (p ∷ []) (each_weaker (λ q. q.face ≤ node.rows.made) (λ q. q.face ≤ (change node.rows).made) (λ q up. omega arith) (places_of n s.faces) h.places_made) (omega arith, tt));
            })
            g)
            fine.gateways;
        places_exist =
            let count : length (at_nth n changes s.gateways) ≡ length s.gateways = length-at_nth n changes s.gateways in
            let within : n ≤ length s.gateways = nth_within n s.gateways node at_ in
            subst (λ k. Each (λ p. p.gateway ≤ k) places) (sym count)
            (each_append (λ p. p.gateway ≤ length s.gateways) s.faces (p ∷ []) fine.places_exist (within, tt));
      }

  -- the faces of all gateways still have numbers when one more face is placed
  pub faces_still_placed : (p : Place) (s : Fabric K) → FabricIsInOrder cmp matching s → EachFrom (λ j (node : Node K). FacesArePlaced (s.faces ++ p ∷ []) j node.rows) 1 s.gateways
  faces_still_placed p s fine =
      each_from_weaker (λ j (node : Node K). FacesArePlaced s.faces j node.rows) (λ j node. FacesArePlaced (s.faces ++ p ∷ []) j node.rows)
      (λ j node placed. each_weaker (λ f. is_placed j f.number s.faces ≡ true) (λ f. is_placed j f.number (s.faces ++ p ∷ []) ≡ true) (λ f there. placed_still j f.number s.faces p there) node.rows.faces placed)
      1 s.gateways (faces_placed s fine)

  -- ---- a call's messages are heard

  -- The fabric after the messages of a call, in any order that keeps those of each face: the rows of the call's gateway
  -- are those after the call.
  pub after_prints : (n : ℕ) (node : Node K) (c : PlainCall K) (s : Fabric K) (ms : List (Sent K)) → PrintsSends s.faces n (said cmp matching c node.rows) ms → nth n s.gateways ≡ Some node
      → FacesArePlaced s.faces n (altered cmp matching c node.rows) → EachFrom (λ j (node : Node K). FacesArePlaced s.faces j node.rows) 1 s.gateways
      → after_hearing cmp ms (with_rows n (altered cmp matching c) s) ≡ with_rows n (rows_after_call cmp matching c) s
  after_prints n node c s ms prints at_ placed placed_all =
      let ss = said cmp matching c node.rows in
      after_hearing_sends cmp s n ss ms prints (altered cmp matching c) node at_ placed placed_all
      ∙ ap (λ (gs : List (Node K)). record s { gateways = gs })
      (at_nth_alike n (λ (x : Node K). record x { rows = rows_heard cmp ss (altered cmp matching c x.rows) }) (λ (x : Node K). record x { rows = rows_after_call cmp matching c x.rows }) s.gateways node at_ refl)

  pub heard_faces_placed : (places : List Place) (n : ℕ) (ss : Sends K) (g : Rows K) → FacesArePlaced places n g → FacesArePlaced places n (rows_heard cmp ss g)
  unfolding rows_heard
  heard_faces_placed places n ss g placed =
      let hears = λ (f : Face K). heard_all cmp g.moment (messages_for f.number ss) f in
      each_map (λ f. is_placed n f.number places ≡ true) hears g.faces
      (each_weaker (λ f. is_placed n f.number places ≡ true) (λ f. is_placed n (hears f).number places ≡ true) (λ f there. ap (λ k. is_placed n k places) (heard_all-number cmp g.moment (messages_for f.number ss) f) ∙ there) g.faces placed)

  heard_made : (ss : Sends K) (g : Rows K) → (rows_heard cmp ss g).made ≡ g.made
  unfolding rows_heard
  heard_made ss g = refl

  module _ (total : IsTotalOrder cmp) where
    pub calls_nothing : (c : PlainCall K) → opens_face c ≡ false → CallHasFirstIds c
    calls_nothing (NewSession first) still = never refl still
    calls_nothing (NewTransport zid whatami region bound first) still = never refl still
    calls_nothing (DeclareToken n id e node interest) still = tt
    calls_nothing (UndeclareToken n id given node) still = tt
    calls_nothing (Interest n id mode options e) still = tt
    calls_nothing (InterestFinal n id) still = tt
    calls_nothing (DeclareFinal n id) still = tt
    calls_nothing (CloseFace n) still = tt
    calls_nothing (Expire now) still = tt
    calls_nothing (SetTrees region t) still = tt
    calls_nothing (SetEntities n subscribers queryables) still = tt

    -- a call that opens no face leaves the fabric in order, with its messages in any order that keeps those of each face
    pub in_order_called : (n : ℕ) (node : Node K) (c : PlainCall K) (s : Fabric K) (ms : List (Sent K)) → PrintsSends s.faces n (said cmp matching c node.rows) ms → nth n s.gateways ≡ Some node → opens_face c ≡ false → FabricIsInOrder cmp matching s
        → FabricIsInOrder cmp matching (after_hearing cmp ms (with_rows n (altered cmp matching c) s))
    in_order_called n node c s ms prints at_ still fine =
        let gateway = gateway_in_order s n node at_ fine in
        let ss = said cmp matching c node.rows in
        let after = altered_faces cmp matching total (λ k. is_placed n k s.faces ≡ true) c node.rows still gateway.rows.lists gateway.placed in
        subst (FabricIsInOrder cmp matching) (sym (after_prints n node c s ms prints at_ after.0 (faces_placed s fine)))
        (in_order_rows n node (rows_after_call cmp matching c) s at_ (in_order_after_call cmp matching total c node.rows (calls_nothing c still) gateway.rows) (heard_faces_placed s.faces n ss (altered cmp matching c node.rows) after.0) (heard_made ss (altered cmp matching c node.rows) ∙ after.1) fine)

    -- a call that opens a face
    pub opened_faces : (Q : ℕ → Type 0) (c : PlainCall K) (g : Rows K) → opens_face c ≡ true → Q (g.made + 1) → Each (λ f. Q f.number) g.faces → Each (λ f. Q f.number) (altered cmp matching c g).faces × ((altered cmp matching c g).made ≡ g.made + 1)
    unfolding parts_of altered_by
    opened_faces Q (NewSession first) g opens q all = (each_append (λ f. Q f.number) g.faces _ all (q, tt), refl)
    opened_faces Q (NewTransport zid whatami region bound first) g opens q all = (each_append (λ f. Q f.number) g.faces _ all (q, tt), refl)
    opened_faces Q (DeclareToken n id e node interest) g opens q all = never opens refl
    opened_faces Q (UndeclareToken n id given node) g opens q all = never opens refl
    opened_faces Q (Interest n id mode options e) g opens q all = never opens refl
    opened_faces Q (InterestFinal n id) g opens q all = never opens refl
    opened_faces Q (DeclareFinal n id) g opens q all = never opens refl
    opened_faces Q (CloseFace n) g opens q all = never opens refl
    opened_faces Q (Expire now) g opens q all = never opens refl
    opened_faces Q (SetTrees region t) g opens q all = never opens refl
    opened_faces Q (SetEntities n subscribers queryables) g opens q all = never opens refl

    pub in_order_opened : (n : ℕ) (node : Node K) (c : PlainCall K) (s : Fabric K) (ms : List (Sent K)) → PrintsSends (with_place n s).faces n (said cmp matching c node.rows) ms → nth n s.gateways ≡ Some node → opens_face c ≡ true → CallHasFirstIds c → FabricIsInOrder cmp matching s
        → FabricIsInOrder cmp matching (after_hearing cmp ms (with_rows n (altered cmp matching c) (with_place n s)))
    in_order_opened n node c s ms prints at_ opens real fine =
        let gateway = gateway_in_order s n node at_ fine in
        let ss = said cmp matching c node.rows in
        let p : Place = record { gateway = n; face = next_face (nth n s.gateways) } in
        let places = s.faces ++ p ∷ [] in
        let p_face : p.face ≡ node.rows.made + 1 = ap next_face at_ in
        let new_ : is_placed n (node.rows.made + 1) places ≡ true = subst (λ k. is_placed n k places ≡ true) p_face (placed_new n p.face s.faces) in
        let after = opened_faces (λ k. is_placed n k places ≡ true) c node.rows opens new_ (each_weaker (λ f. is_placed n f.number s.faces ≡ true) (λ f. is_placed n f.number places ≡ true) (λ f there. placed_still n f.number s.faces p there) node.rows.faces gateway.placed) in
        subst (FabricIsInOrder cmp matching) (sym (after_prints n node c (with_place n s) ms prints at_ after.0 (faces_still_placed p s fine)))
        (in_order_place n node (rows_after_call cmp matching c) s at_ (in_order_after_call cmp matching total c node.rows real gateway.rows) (heard_faces_placed places n ss (altered cmp matching c node.rows) after.0) (heard_made ss (altered cmp matching c node.rows) ∙ after.1) fine)
