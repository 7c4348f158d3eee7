-- Lines that open and close no face, but that a plain face may close: what is true of joints stays true.
use Rattle.std.proofs.Common.{◌≡◌, ◌≢◌, ℕ, Bool, true, false, ◌&&◌, ◌||◌, ◌==◌, not, List, ◌++◌, map, Option, Some, None, is_none, refl, sym, ap, ◌∙◌, ⊎_elim}
use Rattle.std.proofs.lemmas.Bool.{and_from, and_parts, or_cases, or_left, or_right}
use Rattle.std.specs.Cmp.{IsTotalOrder}
use Rattle.std.specs.List.{list_any}
use Rattle.std.specs.declared.cmp.Ordering.{Ordering}
use Rattle.zt_region.specs.declared.region.Region.TheVariants.{North}
use Rattle.zt_region.specs.declared.region.WhatAmI.TheVariants.{Client}
use Rattle.zt_region.specs.Region.{is_north, region_eq-same}
use Rattle.zt_protocol.specs.Plain.{PlainCall, NewSession, NewTransport, DeclareToken, UndeclareToken, Interest, InterestFinal, DeclareFinal, CloseFace, Expire, SetTrees, SetEntities}
use Rattle.zt_protocol.specs.declared.entries.Sent.{Sent}
use Rattle.zt_protocol.specs.declared.interests.InterestMode.{InterestMode}
use Rattle.zt_protocol.specs.declared.interests.InterestOptions.{InterestOptions}
use Rattle.zt_protocol.specs.declared.messages.Message.{Message}
use Rattle.zt_model.specs.Fabric.{Fabric, Node, Place, after_hearing, call_face, gateways_after_hearing, number_from, printed_for, with_rows, with_waiting}
use Rattle.zt_model.specs.Hat.{hat_of}
use Rattle.zt_model.specs.Lists.{is_some_and, nth}
use Rattle.zt_model.specs.Parts.{find_face}
use Rattle.zt_model.specs.Refusals.{asks_from_north, call_causes, first_cause}
use Rattle.zt_model.specs.Rows.{ById, Face, Rows}
use Rattle.zt_model.specs.Says.{altered, said}
use Rattle.zt_model.specs.Transcript.{FaceAt, face_numbered}
use Rattle.zt_laws.specs.Order.{FabricIsInOrder}
use Rattle.zt_laws.specs.Sound.{CallHasFirstIds, IsToldInOrder, is_placed, opens_face}
use Rattle.zt_laws.proofs.Calls.{no_cause}
use Rattle.zt_laws.proofs.CallsOrder.{altered_faces}
use Rattle.zt_laws.proofs.Gateways.{PrintsSends}
use Rattle.zt_laws.proofs.Hearing.{find_each, heard_all-region}
use Rattle.zt_laws.proofs.Lists.{any_weaker, by_test, each_weaker, never, rise_above}
use Rattle.zt_laws.proofs.LinesOrder.{after_prints, calls_nothing, faces_placed, gateway_in_order}
use Rattle.zt_laws.proofs.Places.{number_of_nth}
use Rattle.zt_theorem_tree_invariant.specs.Facts.{IsTreeFace, IsTreeGateway, JointAgrees, TreesAgree}
use Rattle.zt_theorem_tree_invariant.specs.Joints.{EachJoint, are_joined, joins}
use Rattle.zt_theorem_tree_invariant.proofs.Effects.{Hears, any_entities, any_expire, any_trees, other_close, other_declare, other_final, other_finish, other_interest, other_undeclare}
use Rattle.zt_theorem_tree_invariant.proofs.Members.{each_nth, number_is_its}
use Rattle.zt_theorem_tree_invariant.proofs.Quiet.{joined_back}
use Rattle.zt_theorem_tree_invariant.proofs.Saying.{IsReal, TreeRows}
use Rattle.zt_theorem_tree_invariant.proofs.Turning.{joint_stays, quietly, turned}

-- ---- other faces hear

module _ {K : Type 0} (cmp : K → K → Ordering) (matching : K → K → Bool) where
  -- an interest is accepted from a face that leads down
  pub interest_from : (spent : Bool) (n id : ℕ) (mode : InterestMode) (options : InterestOptions) (e : Option K) (g : Rows K) → TreeRows cmp g → first_cause (call_causes cmp matching spent (Interest n id mode options e) g) ≡ None → (from : Face K) × ((find_face n g ≡ Some from) × (is_north from.region ≡ false))
  unfolding call_causes
  interest_from spent n id mode options e g rows accepted =
      let one = no_cause _ _ _ accepted in
      let two = no_cause _ _ _ one.1 in
      let three = no_cause _ _ _ two.1 in
      by_face (find_face n g) refl one.0 three.0
    where
      by_face : (o : Option (Face K)) → find_face n g ≡ o → is_none o ≡ false → is_some_and o (asks_from_north g) ≡ false → (from : Face K) × ((find_face n g ≡ Some from) × (is_north from.region ≡ false))
      by_face None found known south = never refl known
      by_face (Some from) found known south = (
        from,
        (
          found,
          by_test (is_north from.region)
              (λ up.
              let face = find_each (IsTreeFace g.mode) (λ (h : Face K). n == h.number) g.faces from rows.faces found in
              let own : g.mode ≡ Client = (face.up up).own in
              never (rw (own, region_eq-same from.region North up) refl) south)
              (λ down. down),
        ),
      )

  -- A face that a call doesn't name hears it, and the call itself leaves it as it is.
  pub hears_call : (spent : Bool) (c : PlainCall K) (g : Rows K) (p : ℕ) (f : Face K) → TreeRows cmp g → first_cause (call_causes cmp matching spent c g) ≡ None → opens_face c ≡ false → ((n : ℕ) → call_face c ≡ Some n → n ≢ p) → find_face p g ≡ Some f → Hears cmp matching c g p f
  unfolding call_causes
  hears_call spent (NewSession first) g p f rows accepted still apart found = never refl still
  hears_call spent (NewTransport zid whatami region bound first) g p f rows accepted still apart found = never refl still
  hears_call spent (DeclareToken n id e node interest) g p f rows accepted still apart found = other_declare cmp matching n id node e interest g p f (apart n refl) rows found
  hears_call spent (UndeclareToken n id given node) g p f rows accepted still apart found = other_undeclare cmp matching n id node given g p f (apart n refl) rows found
  hears_call spent (Interest n id mode options e) g p f rows accepted still apart found =
      let from = interest_from spent n id mode options e g rows accepted in
      other_interest cmp matching n id mode options e g from.0 p f (apart n refl) rows from.1.0 from.1.1 found
  hears_call spent (InterestFinal n id) g p f rows accepted still apart found = other_final cmp matching n id g p f (apart n refl) rows found
  hears_call spent (DeclareFinal n id) g p f rows accepted still apart found = other_finish cmp matching n id g p f (apart n refl) rows found
  hears_call spent (CloseFace n) g p f rows accepted still apart found = other_close cmp matching n g p f (apart n refl) rows found
  hears_call spent (Expire now) g p f rows accepted still apart found = any_expire cmp matching now g p f rows found
  hears_call spent (SetTrees region t) g p f rows accepted still apart found =
      let one = no_cause _ _ _ accepted in
      let two = no_cause _ _ _ one.1 in
      any_trees cmp matching region t g p f (second _ (hat_of g.mode region).goes_by_trees two.0) rows found
    where
      second : (a b : Bool) → (a || not b) ≡ false → b ≡ true
      second true true h = refl
      second true false h = cc
      second false true h = refl
      second false false h = cc
  hears_call spent (SetEntities n subscribers queryables) g p f rows accepted still apart found = any_entities cmp matching n subscribers queryables g p f rows found

  -- the rows of a gateway of trees
  pub tree_rows : (s : Fabric K) (j : ℕ) (node : Node K) → FabricIsInOrder cmp matching s → TreesAgree cmp matching s → nth j s.gateways ≡ Some node → TreeRows cmp node.rows
  tree_rows s j node fine agree at_j =
      let order = (gateway_in_order cmp matching s j node at_j fine).rows in
      record {
        rises = order.lists.faces_rise;
        faces = (each_nth (λ (x : Node K). IsTreeGateway cmp matching x.rows) j s.gateways node agree.gateways at_j).faces;
        real = each_weaker (λ f. IsToldInOrder cmp f.told f.next) (IsReal cmp) (λ f told. record { next = told.next_is_real; told = rise_above (λ row. row.0) 1 f.told told.rises }) node.rows.faces order.told;
      }

module _ {K : Type 0} (cmp : K → K → Ordering) (matching : K → K → Bool) (total : IsTotalOrder cmp) (s : Fabric K) (fine : FabricIsInOrder cmp matching s) (agree : TreesAgree cmp matching s) where
  -- the fabric after an accepted call at a gateway
  pub after_is : (j : ℕ) (node : Node K) (c : PlainCall K) (ms : List (Sent K)) (w : ById (List (Message K))) (at_j : nth j s.gateways ≡ Some node) (still : opens_face c ≡ false) (prints : PrintsSends s.faces j (said cmp matching c node.rows) ms)
      → with_waiting ms (after_hearing cmp ms (with_rows j (altered cmp matching c) (record s { waiting = w }))) ≡ turned cmp matching total s fine j node at_j c (calls_nothing cmp matching total c still) ms w prints
  unfolding gateways_after_hearing
  after_is j node c ms w at_j still prints =
      let gateway = gateway_in_order cmp matching s j node at_j fine in
      let placed = (altered_faces cmp matching total (λ k. is_placed j k s.faces ≡ true) c node.rows still gateway.rows.lists gateway.placed).0 in
      ap (λ (t : Fabric K). record t { waiting = map (λ row. (row.0, row.1 ++ printed_for row.0 ms)) w }) (after_prints cmp matching j node c s ms prints at_j placed (faces_placed cmp matching s fine))

  -- A call that no end of a link makes: all joints agree after it.
  pub kept_called : (j : ℕ) (node : Node K) (c : PlainCall K) (ms : List (Sent K)) (at_j : nth j s.gateways ≡ Some node) (real : CallHasFirstIds c) (prints : PrintsSends s.faces j (said cmp matching c node.rows) ms)
      → ((k b : ℕ) (z : FaceAt K) → face_numbered s k ≡ Some z → are_joined s k b ≡ true → z.gateway ≡ j → Hears cmp matching c node.rows z.face.number z.face)
      → EachJoint (JointAgrees cmp) (turned cmp matching total s fine j node at_j c real ms s.waiting prints)
  kept_called j node c ms at_j real prints hears = λ a b x2 y2 joined x2_is y2_is up2.
      let ends = agree.links.meet a b joined in
      let back = joined_back s a b joined in
      let qx = quietly cmp matching total s fine j node at_j c real ms s.waiting prints a ends.one ends.one_is (agree.links.wait a b joined) (λ here. hears a b ends.one ends.one_is joined here) in
      let qy = quietly cmp matching total s fine j node at_j c real ms s.waiting prints b ends.two ends.two_is (agree.links.wait b a back) (λ here. hears b a ends.two ends.two_is back here) in
      let up : is_north ends.one.face.region ≡ true =
      ap is_north (sym (qx.turns.region)) ∙ ap is_north (sym (heard_all-region cmp qx.turns.now qx.turns.says qx.turns.after)) ∙ ap (λ (f : Face K). is_north f.region) (sym (qx.turns.heard_is x2 x2_is)) ∙ up2 in
      let down : is_north ends.two.face.region ≡ false = ends.one_leads_up ∙ ap not up in
      joint_stays cmp matching total s fine j node at_j c real ms s.waiting prints a b ends.one ends.two x2 y2 qx qy x2_is y2_is up down (agree.joints a b ends.one ends.two joined ends.one_is ends.two_is up)

  -- the number in scripts of a face at a place
  pub same_number : (k a : ℕ) (place : Place) (z : FaceAt K) → nth k s.faces ≡ Some place → face_numbered s a ≡ Some z → z.gateway ≡ place.gateway → z.face.number ≡ place.face → (node : Node K) → nth place.gateway s.gateways ≡ Some node → a ≡ k
  same_number k a place z at_k found gateway_ number_ node at_j =
      sym (number_is_its cmp matching s a z fine found) ∙ ap (λ g. number_from 1 g z.face.number s.faces) gateway_ ∙ ap (λ f. number_from 1 place.gateway f s.faces) number_
      ∙ number_of_nth k s.faces place (gateway_in_order cmp matching s place.gateway node at_j fine).places_rise at_k

  -- an end of an open link is a linked face
  pub is_linked : (k b : ℕ) → are_joined s k b ≡ true → list_any (λ link. link.is_open && (k == link.one || k == link.two)) s.links ≡ true
  is_linked k b joined =
      any_weaker (λ link. link.is_open && joins k b link) (λ link. link.is_open && (k == link.one || k == link.two))
      (λ link h.
      let parts = and_parts link.is_open (joins k b link) h in
      and_from link.is_open (k == link.one || k == link.two) parts.0
      (⊎_elim (λ one. or_left (k == link.one) (k == link.two) (and_parts (k == link.one) (b == link.two) one).0) (λ two. or_right (k == link.one) (k == link.two) (and_parts (k == link.two) (b == link.one) two).0) (or_cases ((k == link.one) && (b == link.two)) ((k == link.two) && (b == link.one)) parts.1)))
      s.links joined
