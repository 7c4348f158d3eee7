-- What an accepted link leaves at its two gateways, whatever they are.
use Rattle.std.proofs.Common.{◌≡◌, ◌≢◌, ℕ, ◌+◌, ◌≤◌, Bool, true, false, ◌&&◌, ◌||◌, not, List, [], ◌∷◌, ◌++◌, map, Option, Some, None, Ok, Err, refl, sym, ap, ◌∙◌, subst, arith}
use Rattle.std.proofs.lemmas.Bool.{and_from, or_left, or_right}
use Rattle.std.specs.Cmp.{IsTotalOrder}
use Rattle.std.specs.List.{list_any}
use Rattle.std.specs.declared.cmp.Ordering.{Ordering}
use Rattle.zt_region.specs.declared.region.Bound.{Bound}
use Rattle.zt_region.specs.declared.region.Region.{Region}
use Rattle.zt_region.specs.declared.region.WhatAmI.{WhatAmI}
use Rattle.zt_region.specs.declared.region.WhatAmI.TheVariants.{Client}
use Rattle.zt_region.specs.declared.region.Zid.{Zid}
use Rattle.zt_region.specs.Region.{is_north}
use Rattle.zt_region.specs.Tables.{RegionAnswer}
use Rattle.zt_protocol.specs.Plain.{NewTransport, PlainCall, PlainLine, Link as LinkLine}
use Rattle.zt_protocol.specs.declared.entries.Sent.{Sent}
use Rattle.zt_protocol.specs.declared.messages.Message.{Message}
use Rattle.zt_model.specs.Fabric.{CallAt, Fabric, Link, Node, Place, after_hearing, after_opening, altered_by_line, call_at, gateways_after_hearing, next_face, opened_at, opened_ends, opening_at, said_at, said_by_line, said_opening, sorted_by_face, with_place, with_rows, with_waiting}
use Rattle.zt_model.specs.Hearing.{heard_all, messages_for, rows_heard}
use Rattle.zt_model.specs.Linking.{LinkEnd, end_region, link_ends, with_link}
use Rattle.zt_model.specs.Lists.{nth}
use Rattle.zt_model.specs.Parts.{altered_by}
use Rattle.zt_model.specs.Routing.{face_opened}
use Rattle.zt_model.specs.Rows.{ById, Face, Rows}
use Rattle.zt_model.specs.Says.{altered, parts_of, said}
use Rattle.zt_model.specs.Strategy.{is_region_of}
use Rattle.zt_model.specs.Transcript.{Each}
use Rattle.zt_model.specs.TreePromises.{LeadsUpByLink, is_client_region}
use Rattle.zt_laws.specs.Order.{FabricIsInOrder}
use Rattle.zt_laws.specs.Sound.{is_placed, rows_after_call}
use Rattle.zt_laws.proofs.Ends.{after_hearing-append, end_alone, ends_commute, opened_elsewhere, said_within}
use Rattle.zt_laws.proofs.Entries.{nth-at_nth}
use Rattle.zt_laws.proofs.Gateways.{after_hearing_nothing, prints_map}
use Rattle.zt_laws.proofs.Hearing.{heard_all-region}
use Rattle.zt_laws.proofs.Interleaving.{hearing_alike}
use Rattle.zt_laws.proofs.Lists.{any-append, any-map, any_alike, any_member, any_none, by_test, each_weaker, never}
use Rattle.zt_laws.proofs.LinesOrder.{after_prints, faces_still_placed, gateway_in_order, in_order_opened, opened_faces}
use Rattle.zt_laws.proofs.Numbered.{nth_real}
use Rattle.zt_laws.proofs.Places.{placed_new, placed_still}
use Rattle.zt_laws.proofs.Sorting.{printed, printed_sorted}
use Rattle.zt_theorem_tree_invariant.proofs.Members.{each_gateway_nth}
use Rattle.zt_theorem_tree_invariant.proofs.Turning.{nth_other}
use Rattle.zt_theorem_tree_knowledge.proofs.Plain.{is_client}
use Rattle.zt_theorem_tree_knowledge.proofs.Premise.{FacesMayFormTrees, IsOfClientsIfListed}

-- what trees say of an end of a link
pub record EndFacts {K : Type 0} (own : Node K) (r : Region) : Type 0 where
  pub client : is_north r ≡ true → own.rows.mode ≡ Client
  pub serves : is_region_of own.rows.regions r ≡ true → is_client_region r ≡ true

module _ {K : Type 0} (cmp : K → K → Ordering) (matching : K → K → Bool) where
  -- an opening leaves the regions of a gateway's faces, and adds its own
  faces_still : (test : Region → Bool) (zid : Zid) (whatami : WhatAmI) (region : Region) (bound : Bound) (first : ℕ) (g : Rows K) → list_any (λ f. test f.region) (rows_after_call cmp matching (NewTransport zid whatami region bound first) g).faces ≡ (list_any (λ f. test f.region) g.faces || (test region || false))
  unfolding parts_of altered_by rows_heard
  faces_still test zid whatami region bound first g =
      let c : PlainCall K = NewTransport zid whatami region bound first in
      let h = altered cmp matching c g in
      let hears = λ (f : Face K). heard_all cmp h.moment (messages_for f.number (said cmp matching c g)) f in
      any-map (λ (f : Face K). test f.region) hears h.faces
      ∙ any_alike (λ f. test (hears f).region) (λ f. test f.region) (λ f. ap test (heard_all-region cmp h.moment (messages_for f.number (said cmp matching c g)) f)) h.faces
      ∙ any-append (λ (f : Face K). test f.region) g.faces (face_opened zid whatami region bound first g ∷ [])

  settings_still : (zid : Zid) (whatami : WhatAmI) (region : Region) (bound : Bound) (first : ℕ) (g : Rows K) → ((rows_after_call cmp matching (NewTransport zid whatami region bound first) g).mode ≡ g.mode) × ((rows_after_call cmp matching (NewTransport zid whatami region bound first) g).regions ≡ g.regions)
  unfolding parts_of altered_by rows_heard
  settings_still zid whatami region bound first g = (refl, refl)

  module _ (total : IsTotalOrder cmp) where
    -- one face is opened
    opened_plainly : (n : ℕ) (node : Node K) (zid : Zid) (whatami : WhatAmI) (region : Region) (bound : Bound) (first : ℕ) (X : Fabric K) → nth n X.gateways ≡ Some node → FabricIsInOrder cmp matching X
        → (let c : PlainCall K = NewTransport zid whatami region bound first in
        after_hearing cmp (map (printed (with_place n X).faces n) (said cmp matching c node.rows)) (with_rows n (altered cmp matching c) (with_place n X)) ≡ with_rows n (rows_after_call cmp matching c) (with_place n X))
    opened_plainly n node zid whatami region bound first X at_n fine =
        let c : PlainCall K = NewTransport zid whatami region bound first in
        let gateway = gateway_in_order cmp matching X n node at_n fine in
        let p : Place = record { gateway = n; face = next_face (nth n X.gateways) } in
        let places = X.faces ++ p ∷ [] in
        let p_face : p.face ≡ node.rows.made + 1 = ap next_face at_n in
        let new_ : is_placed n (node.rows.made + 1) places ≡ true = subst (λ k. is_placed n k places ≡ true) p_face (placed_new n p.face X.faces) in
        let after = opened_faces cmp matching total (λ k. is_placed n k places ≡ true) c node.rows refl new_ (each_weaker (λ f. is_placed n f.number X.faces ≡ true) (λ f. is_placed n f.number places ≡ true) (λ f there. placed_still n f.number X.faces p there) node.rows.faces gateway.placed) in
        after_prints cmp matching n node c (with_place n X) (map (printed (with_place n X).faces n) (said cmp matching c node.rows)) (prints_map (with_place n X).faces n (said cmp matching c node.rows)) at_n after.0 (faces_still_placed cmp matching p X fine)

    -- an end is opened, and then others
    pub end_then : (end : LinkEnd K) (others : List (LinkEnd K)) (X Y : Fabric K) → 1 ≤ end.first → Each (λ e. 1 ≤ e.first) others → FabricIsInOrder cmp matching X → after_opening cmp matching (opening_at cmp matching X end) X ≡ Y
        → after_hearing cmp (said_opening cmp matching (end ∷ others) X) (opened_ends cmp matching (end ∷ others) X) ≡ after_hearing cmp (said_opening cmp matching others Y) (opened_ends cmp matching others Y)
    unfolding opened_ends said_opening
    end_then end others X Y real more order is =
        let at = opening_at cmp matching X end in
        let Z = opened_at cmp matching at X in
        let said_ = said_at cmp matching Z at in
        let H = after_hearing cmp said_ Z in
        let alone = end_alone cmp matching total end X real order in
        after_hearing-append cmp said_ (said_opening cmp matching others H) (opened_ends cmp matching others Z)
        ∙ ap (after_hearing cmp (said_opening cmp matching others H)) (ends_commute cmp matching total others said_ Z more alone.0 (said_within cmp matching total end X))
        ∙ ap (λ W. after_hearing cmp (said_opening cmp matching others W) (opened_ends cmp matching others W)) is

    module _ (s : Fabric K) (fine : FabricIsInOrder cmp matching s) (one two first back : ℕ) (real1 : 1 ≤ first) (real2 : 1 ≤ back) (a b : Node K) (at_one : nth one s.gateways ≡ Some a) (at_two : nth two s.gateways ≡ Some b) (r1 r2 : Region) (b1 b2 : Bound) (given1 : end_region a b ≡ Ok (r1, b1)) (given2 : end_region b a ≡ Ok (r2, b2)) where
      abbrev call1 : PlainCall K
      call1 = NewTransport b.rows.zid b.rows.mode r1 b1 first

      abbrev call2 : PlainCall K
      call2 = NewTransport a.rows.zid a.rows.mode r2 b2 back

      abbrev e1 : LinkEnd K
      e1 = record { gateway = one; node = a; beyond = two; other = b; first = first }

      abbrev e2 : LinkEnd K
      e2 = record { gateway = two; node = b; beyond = one; other = a; first = back }

      abbrev o1 : Fabric K
      o1 = with_rows one (rows_after_call cmp matching call1) (with_place one s)

      abbrev o2 : Fabric K
      o2 = with_rows two (rows_after_call cmp matching call2) (with_place two o1)

      opened_end : (end : LinkEnd K) (own other node : Node K) (r : Region) (bound : Bound) (X : Fabric K) → end.node ≡ own → end.other ≡ other → end_region own other ≡ Ok (r, bound) → nth end.gateway X.gateways ≡ Some node
          → opening_at cmp matching X end ≡ Some (record { gateway = end.gateway; rows = node.rows; call = NewTransport other.rows.zid other.rows.mode r bound end.first })
      opened_end end own other node r bound X own_is other_is given at_ =
          ap (λ (o : RegionAnswer). (let at : Option (CallAt K) = elim (let c : Option (PlainCall K) = elim o [ Ok given ↦ Some (NewTransport end.other.rows.zid end.other.rows.mode given.0 given.1 end.first) | Err e ↦ None ] in c) [ None ↦ None | Some call ↦ call_at X end.gateway call ] in at)) (ap (λ n. end_region n end.other) own_is ∙ ap (end_region own) other_is ∙ given)
          ∙ ap (λ (o : Option (Node K)). (let at : Option (CallAt K) = elim o [ None ↦ None | Some x ↦ Some (record { gateway = end.gateway; rows = x.rows; call = NewTransport end.other.rows.zid end.other.rows.mode r bound end.first }) ] in at)) at_
          ∙ ap (λ (x : Node K). (let at : Option (CallAt K) = Some (record { gateway = end.gateway; rows = node.rows; call = NewTransport x.rows.zid x.rows.mode r bound end.first }) in at)) other_is

      opened1 : after_opening cmp matching (opening_at cmp matching s e1) s ≡ o1
      opened1 = ap (λ at. after_opening cmp matching at s) (opened_end e1 a b a r1 b1 s refl refl given1 at_one) ∙ opened_plainly one a b.rows.zid b.rows.mode r1 b1 first s at_one fine

      order1 : FabricIsInOrder cmp matching o1
      order1 =
          subst (FabricIsInOrder cmp matching) (opened_plainly one a b.rows.zid b.rows.mode r1 b1 first s at_one fine)
          (in_order_opened cmp matching total one a call1 s (map (printed (with_place one s).faces one) (said cmp matching call1 a.rows)) (prints_map (with_place one s).faces one (said cmp matching call1 a.rows)) at_one refl real1 fine)

      abbrev changed1 : Node K → Node K
      changed1 x = record x { rows = rows_after_call cmp matching call1 x.rows }

      abbrev changed2 : Node K → Node K
      changed2 x = record x { rows = rows_after_call cmp matching call2 x.rows }

      abbrev line : PlainLine K
      line = LinkLine one two first back

      abbrev Then : Fabric K
      Then = with_waiting (sorted_by_face (said_by_line cmp matching line s)) (after_hearing cmp (sorted_by_face (said_by_line cmp matching line s)) (altered_by_line cmp matching line s))

      heard_elsewhere : (xs : List (Sent K)) (Y : Fabric K) (links : List Link) (w : ById (List (Message K))) → (after_hearing cmp xs (record Y { links = links; waiting = w })).gateways ≡ (after_hearing cmp xs Y).gateways
      unfolding gateways_after_hearing
      heard_elsewhere xs Y links w = refl

      module _ (nb : Node K) (at_nb : nth two o1.gateways ≡ Some nb) where
        opened2 : after_opening cmp matching (opening_at cmp matching o1 e2) o1 ≡ o2
        opened2 = ap (λ at. after_opening cmp matching at o1) (opened_end e2 b a nb r2 b2 o1 refl refl given2 at_nb) ∙ opened_plainly two nb a.rows.zid a.rows.mode r2 b2 back o1 at_nb order1

        both_opened : after_hearing cmp (said_opening cmp matching (e1 ∷ e2 ∷ []) s) (opened_ends cmp matching (e1 ∷ e2 ∷ []) s) ≡ o2
        unfolding opened_ends said_opening
        both_opened = end_then e1 (e2 ∷ []) s o1 real1 (real2, tt) fine opened1 ∙ end_then e2 [] o1 o2 real2 tt order1 opened2 ∙ after_hearing_nothing cmp o2

        gateways_are : Then.gateways ≡ o2.gateways
        unfolding said_by_line altered_by_line
        gateways_are =
            let ends_are : link_ends s one two first back ≡ e1 ∷ e2 ∷ [] =
            ap (λ (o : Option (Node K)). (let es : List (LinkEnd K) = elim o [ None ↦ [] | Some p ↦ elim (nth two s.gateways) [ None ↦ [] | Some q ↦ record { gateway = one; node = p; beyond = two; other = q; first = first } ∷ record { gateway = two; node = q; beyond = one; other = p; first = back } ∷ [] ] ] in es)) at_one
            ∙ ap (λ (o : Option (Node K)). (let es : List (LinkEnd K) = elim o [ None ↦ [] | Some q ↦ record { gateway = one; node = a; beyond = two; other = q; first = first } ∷ record { gateway = two; node = q; beyond = one; other = a; first = back } ∷ [] ] in es)) at_two in
            let linked = with_link s in
            let ends = e1 ∷ e2 ∷ [] in
            let said_of = λ (es : List (LinkEnd K)). sorted_by_face (said_opening cmp matching es s) in
            let all = said_opening cmp matching ends s in
            ap (λ es. (after_hearing cmp (said_of es) (opened_ends cmp matching es linked)).gateways) ends_are
            ∙ ap (λ Y. (after_hearing cmp (said_of ends) Y).gateways) (opened_elsewhere cmp matching total ends linked.links linked.waiting s)
            ∙ heard_elsewhere (said_of ends) (opened_ends cmp matching ends s) linked.links linked.waiting
            ∙ ap (λ (Y : Fabric K). Y.gateways) (hearing_alike cmp (said_of ends) all (opened_ends cmp matching ends s) (λ n. printed_sorted n all) ∙ both_opened)

        module _ (trees : FacesMayFormTrees Then) where
          -- a gateway with a face to the north is a client's
          client_at : (n : ℕ) (node : Node K) → nth n o2.gateways ≡ Some node → list_any (λ f. is_north f.region) node.rows.faces ≡ true → node.rows.mode ≡ Client
          client_at n node at_ some =
              let all : Each (LeadsUpByLink Then n node.rows) node.rows.faces = each_gateway_nth (λ j (x : Node K). Each (LeadsUpByLink Then j x.rows) x.rows.faces) 1 n n Then.gateways node (omega arith) trees.north (ap (nth n) gateways_are ∙ at_) in
              any_member (LeadsUpByLink Then n node.rows) (λ f. is_north f.region) node.rows.faces all some (λ f leads up. is_client node.rows.mode (leads up).0)

          -- no face stands in a listed region that isn't one of clients
          serves_at : (n : ℕ) (node : Node K) → nth n o2.gateways ≡ Some node → list_any (λ f. is_region_of node.rows.regions f.region && not (is_client_region f.region)) node.rows.faces ≡ false
          serves_at n node at_ =
              let all : Each (IsOfClientsIfListed node.rows) node.rows.faces = each_gateway_nth (λ j (x : Node K). Each (IsOfClientsIfListed x.rows) x.rows.faces) 1 n n Then.gateways node (omega arith) trees.south (ap (nth n) gateways_are ∙ at_) in
              any_none (λ f. is_region_of node.rows.regions f.region && not (is_client_region f.region)) node.rows.faces
              (each_weaker (IsOfClientsIfListed node.rows) (λ f. (is_region_of node.rows.regions f.region && not (is_client_region f.region)) ≡ false) (λ f client. by_test (is_region_of node.rows.regions f.region) (λ listed. rw (listed, client listed) refl) (λ other. rw other refl)) node.rows.faces all)

          -- the rows at an end, with its face
          record EndIs (n : ℕ) (own : Node K) (r : Region) : Type 0 where
            node : Node K
            at_end : nth n o2.gateways ≡ Some node
            mode : node.rows.mode ≡ own.rows.mode
            regions : node.rows.regions ≡ own.rows.regions
            stands : (test : Region → Bool) → test r ≡ true → list_any (λ f. test f.region) node.rows.faces ≡ true

          facts_of : (n : ℕ) (own : Node K) (r : Region) → EndIs n own r → EndFacts own r
          facts_of n own r is = record {
            client = λ up. sym is.mode ∙ client_at n is.node is.at_end (is.stands is_north up);
            serves = λ listed.
                by_test (is_client_region r) (λ here. here)
                (λ other. never (is.stands (λ q. is_region_of is.node.rows.regions q && not (is_client_region q)) (and_from (is_region_of is.node.rows.regions r) (not (is_client_region r)) (ap (λ rs. is_region_of rs r) is.regions ∙ listed) (ap not other))) (serves_at n is.node is.at_end));
          }

          one_is : two ≢ one → EndIs one a r1
          one_is apart =
              record {
                node = changed1 a;
                at_end = nth_other one two changed2 o1.gateways (changed1 a) (nth_real two o1.gateways nb at_nb) (λ is. apart (sym is)) (nth-at_nth one changed1 s.gateways a at_one);
                mode = (settings_still b.rows.zid b.rows.mode r1 b1 first a.rows).0;
                regions = (settings_still b.rows.zid b.rows.mode r1 b1 first a.rows).1;
                stands = λ test own. faces_still test b.rows.zid b.rows.mode r1 b1 first a.rows ∙ or_right (list_any (λ f. test f.region) a.rows.faces) (test r1 || false) (or_left (test r1) false own);
              }

          two_is : nb.rows.mode ≡ b.rows.mode → nb.rows.regions ≡ b.rows.regions → EndIs two b r2
          two_is mode_ regions_ =
              record {
                node = changed2 nb;
                at_end = nth-at_nth two changed2 o1.gateways nb at_nb;
                mode = (settings_still a.rows.zid a.rows.mode r2 b2 back nb.rows).0 ∙ mode_;
                regions = (settings_still a.rows.zid a.rows.mode r2 b2 back nb.rows).1 ∙ regions_;
                stands = λ test own. faces_still test a.rows.zid a.rows.mode r2 b2 back nb.rows ∙ or_right (list_any (λ f. test f.region) nb.rows.faces) (test r2 || false) (or_left (test r2) false own);
              }

      -- what trees say of the two ends, be they at two gateways or at one
      pub facts_apart : two ≢ one → FacesMayFormTrees Then → EndFacts a r1 × EndFacts b r2
      facts_apart apart trees =
          let at_nb = nth_other two one changed1 s.gateways b (nth_real one s.gateways a at_one) apart at_two in
          (facts_of b at_nb trees one a r1 (one_is b at_nb trees apart), facts_of b at_nb trees two b r2 (two_is b at_nb trees refl refl))

      pub facts_alone : two ≡ one → a ≡ b → FacesMayFormTrees Then → EndFacts b r2
      facts_alone same_ nodes trees =
          let at_nb : nth two o1.gateways ≡ Some (changed1 a) = ap (λ n. nth n o1.gateways) same_ ∙ nth-at_nth one changed1 s.gateways a at_one in
          let still = settings_still b.rows.zid b.rows.mode r1 b1 first a.rows in
          facts_of (changed1 a) at_nb trees two b r2 (two_is (changed1 a) at_nb trees (still.0 ∙ ap (λ (x : Node K). x.rows.mode) nodes) (still.1 ∙ ap (λ (x : Node K). x.rows.regions) nodes))
