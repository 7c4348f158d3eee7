-- An accepted unlinking: the link is taken out, and its two faces are closed one after another.
use Rattle.std.proofs.Common.{◌≡◌, ◌≢◌, ℕ, ◌≤◌, ◌<◌, Bool, true, false, ◌||◌, ◌==◌, not, List, [], ◌∷◌, ◌++◌, length, map, filter, Option, Some, None, refl, sym, ap, ◌∙◌, subst, arith, eq-eqb, eqb-true, append-nil}
use Rattle.std.specs.Cmp.{IsTotalOrder}
use Rattle.std.specs.declared.cmp.Ordering.{Ordering}
use Rattle.std.specs.declared.cmp.Ordering.TheVariants.{Equal}
use Rattle.zt_region.specs.Region.{is_north}
use Rattle.zt_protocol.specs.Plain.{CloseFace, PlainCall, Unlink}
use Rattle.zt_protocol.specs.declared.entries.Sent.{Sent}
use Rattle.zt_protocol.specs.declared.messages.Message.{Message}
use Rattle.zt_model.specs.Fabric.{CallAt, Fabric, Link, Node, Place, after_closing, after_hearing, altered_at, altered_by_line, at_nth, both_ends, call_at_place, closed_ends, closing_call, gateways_after_hearing, printed_for, said_at, said_by_line, said_closing, sorted_by_face, with_rows, with_waiting}
use Rattle.zt_model.specs.Hearing.{heard_all, messages_for, rows_heard}
use Rattle.zt_model.specs.Linking.{without_link}
use Rattle.zt_model.specs.Lists.{nth, without_id}
use Rattle.zt_model.specs.Parts.{find_face}
use Rattle.zt_model.specs.Rows.{ById, Face}
use Rattle.zt_model.specs.Says.{altered, said}
use Rattle.zt_model.specs.Transcript.{Each, FaceAt, face_numbered}
use Rattle.zt_laws.specs.Order.{FabricIsInOrder}
use Rattle.zt_laws.specs.Sound.{is_placed, rows_after_call}
use Rattle.zt_laws.proofs.CallsOrder.{altered_faces, closed_apart}
use Rattle.zt_laws.proofs.Ends.{after_hearing-append, printed_for-append}
use Rattle.zt_laws.proofs.Entries.{nth-at_nth}
use Rattle.zt_laws.proofs.Gateways.{after_hearing_nothing, prints_map}
use Rattle.zt_laws.proofs.Hearing.{find_each, find_passes, heard_all-number}
use Rattle.zt_laws.proofs.Interleaving.{hearing_alike}
use Rattle.zt_laws.proofs.Lists.{by_test, each_both, each_filter, each_map, each_passes, each_weaker, never}
use Rattle.zt_laws.proofs.LinesOrder.{after_prints, faces_placed, gateway_in_order}
use Rattle.zt_laws.proofs.Numbered.{nth_real}
use Rattle.zt_laws.proofs.Sorting.{printed, printed_sorted}
use Rattle.zt_laws.proofs.Unlinking.{all_apart, but_for_alike, closing_in_order, closings_commute, ends_apart, is_of, printed_but_for}
use Rattle.zt_theorem_tree_invariant.specs.Facts.{TreesAgree}
use Rattle.zt_theorem_tree_invariant.specs.Joints.{HasBothEnds, are_joined}
use Rattle.zt_theorem_tree_invariant.proofs.After.{joined_ends}
use Rattle.zt_theorem_tree_invariant.proofs.Lasting.{turned_by}
use Rattle.zt_theorem_tree_invariant.proofs.Lines.{same_number}
use Rattle.zt_theorem_tree_invariant.proofs.Members.{is_there}
use Rattle.zt_theorem_tree_invariant.proofs.Quiet.{joined_back}
use Rattle.zt_theorem_tree_invariant.proofs.Turning.{nth_other}
use Rattle.zt_theorem_tree_knowledge.proofs.LineCalls.{open_before, the_one, trees_after_closing}
use Rattle.zt_theorem_tree_knowledge.proofs.Queues.{queues_same}
use Rattle.zt_theorem_tree_knowledge.proofs.Removed.{closed, each_closed, ends_closed, ends_were, open_joins, removed, removed_agrees, removed_apart, removed_in_order, still_joined}

module _ {K : Type 0} (cmp : K → K → Ordering) (matching : K → K → Bool) (total : IsTotalOrder cmp) where
  -- ---- one face is closed

  module _ (X : Fabric K) (fine : FabricIsInOrder cmp matching X) (face : ℕ) (p : Place) (node : Node K) (place_is : nth face X.faces ≡ Some p) (node_is : nth p.gateway X.gateways ≡ Some node) where
    abbrev closing_at : CallAt K
    closing_at = record { gateway = p.gateway; rows = node.rows; call = CloseFace p.face }

    closing_is : closing_call X face ≡ Some closing_at
    closing_is = ap (call_at_place X (CloseFace face)) place_is ∙ ap (λ (o : Option (Node K)). (let at : Option (CallAt K) = elim o [ None ↦ None | Some x ↦ Some (record { gateway = p.gateway; rows = x.rows; call = CloseFace p.face }) ] in at)) node_is

    abbrev without_one : Fabric K
    without_one = with_rows p.gateway (rows_after_call cmp matching (CloseFace p.face)) X

    one_closed : after_closing cmp matching face X ≡ without_one
    one_closed =
        let c : PlainCall K = CloseFace p.face in
        let gateway = gateway_in_order cmp matching X p.gateway node node_is fine in
        let placed = (altered_faces cmp matching total (λ k. is_placed p.gateway k X.faces ≡ true) c node.rows refl gateway.rows.lists gateway.placed).0 in
        ap (λ at. after_hearing cmp (said_at cmp matching X at) (altered_at cmp matching X at)) closing_is
        ∙ after_prints cmp matching p.gateway node c X (map (printed X.faces p.gateway) (said cmp matching c node.rows)) (prints_map X.faces p.gateway (said cmp matching c node.rows)) node_is placed (faces_placed cmp matching X fine)

    one_in_order : FabricIsInOrder cmp matching without_one
    one_in_order = subst (FabricIsInOrder cmp matching) one_closed (closing_in_order cmp matching total face X fine)

    -- and then others
    one_then : (fs : List ℕ) → after_hearing cmp (said_closing cmp matching (face ∷ fs) X) (closed_ends cmp matching (face ∷ fs) X) ≡ after_hearing cmp (said_closing cmp matching fs without_one) (closed_ends cmp matching fs without_one)
    unfolding closed_ends said_closing
    one_then fs =
        let at = closing_call X face in
        let ms = said_at cmp matching X at in
        let Y = altered_at cmp matching X at in
        let H = after_hearing cmp ms Y in
        after_hearing-append cmp ms (said_closing cmp matching fs H) (closed_ends cmp matching fs Y)
        ∙ ap (after_hearing cmp (said_closing cmp matching fs H)) (closings_commute cmp matching fs ms Y)
        ∙ ap (λ Z. after_hearing cmp (said_closing cmp matching fs Z) (closed_ends cmp matching fs Z)) one_closed

    -- its face is not open any more
    gone : (a : ℕ) (x : FaceAt K) (w : ById (List (Message K))) → a ≡ face → face_numbered (record without_one { waiting = w }) a ≡ Some x → ⊥
    unfolding rows_heard
    gone a x w is found =
        let t = record without_one { waiting = w } in
        let change = λ (y : Node K). record y { rows = rows_after_call cmp matching (CloseFace p.face) y.rows } in
        let at_ = is_there t a x found in
        let place_same : at_.place ≡ p = the_one (sym at_.place_is ∙ ap (λ k. nth k X.faces) is ∙ place_is) in
        let at_x : x.gateway ≡ p.gateway = sym at_.gateway_is ∙ ap (λ (q : Place). q.gateway) place_same in
        let node_same : at_.node ≡ change node = the_one (sym at_.node_is ∙ ap (λ g. nth g t.gateways) at_x ∙ nth-at_nth p.gateway change X.gateways node node_is) in
        let rows_same : x.rows ≡ rows_after_call cmp matching (CloseFace p.face) node.rows = sym at_.rows_are ∙ ap (λ (y : Node K). y.rows) node_same in
        let number_ : p.face ≡ x.face.number = ap (λ (q : Place). q.face) (sym place_same) ∙ at_.number_is in
        let there : find_face p.face (rows_after_call cmp matching (CloseFace p.face) node.rows) ≡ Some x.face = ap (λ k. find_face k (rows_after_call cmp matching (CloseFace p.face) node.rows)) number_ ∙ ap (find_face x.face.number) (sym rows_same) ∙ at_.face_is in
        let g = altered cmp matching (CloseFace p.face) node.rows in
        let hears = λ (f : Face K). heard_all cmp g.moment (messages_for f.number (said cmp matching (CloseFace p.face) node.rows)) f in
        let none_ : Each (λ f. (p.face == f.number) ≡ false) (map hears g.faces) = each_map (λ (f : Face K). (p.face == f.number) ≡ false) hears g.faces
        (each_weaker (λ f. (p.face == f.number) ≡ false) (λ f. (p.face == (hears f).number) ≡ false) (λ f apart. ap (λ k. p.face == k) (heard_all-number cmp g.moment (messages_for f.number (said cmp matching (CloseFace p.face) node.rows)) f) ∙ apart) g.faces (closed_apart cmp matching total p.face node.rows)) in
        never (find_passes (λ (f : Face K). p.face == f.number) (map hears g.faces) x.face there) (find_each (λ (f : Face K). (p.face == f.number) ≡ false) (λ (f : Face K). p.face == f.number) (map hears g.faces) x.face none_ there)

module _ {K : Type 0} (cmp : K → K → Ordering) (matching : K → K → Bool) (total : IsTotalOrder cmp) (equal_is_same : (a b : K) → cmp a b ≡ Equal → a ≡ b) (s : Fabric K) (fine : FabricIsInOrder cmp matching s) (agree : TreesAgree cmp matching s) (n : ℕ) (l : Link) (at_l : nth n s.links ≡ Some l) (open_ : l.is_open ≡ true) where
  joined : are_joined s l.one l.two ≡ true
  joined = joined_ends cmp matching total equal_is_same s fine agree n l true at_l open_

  ends : HasBothEnds s l.one l.two
  ends = agree.links.meet l.one l.two joined

  -- the two faces stand at two gateways
  gateways_apart : ends.one.gateway ≢ ends.two.gateway
  gateways_apart same_ =
      by_test (is_north ends.one.face.region)
      (λ up.
      let less = agree.forest.falls l.one l.two ends.one ends.two joined ends.one_is ends.two_is up in
      let none_ : agree.forest.rank ends.two.gateway < agree.forest.rank ends.two.gateway = subst (λ g. agree.forest.rank ends.two.gateway < agree.forest.rank g) same_ less in
      absurd (omega arith))
      (λ down.
      let less = agree.forest.falls l.two l.one ends.two ends.one (joined_back s l.one l.two joined) ends.two_is ends.one_is (ends.one_leads_up ∙ ap not down) in
      let none_ : agree.forest.rank ends.two.gateway < agree.forest.rank ends.two.gateway = subst (λ g. agree.forest.rank g < agree.forest.rank ends.two.gateway) same_ less in
      absurd (omega arith))

  -- ---- both are closed

  abbrev s0 : Fabric K
  s0 = removed cmp matching s agree n l at_l

  fine0 : FabricIsInOrder cmp matching s0
  fine0 = removed_in_order cmp matching s agree n l at_l fine

  agree0 : TreesAgree cmp matching s0
  agree0 = removed_agrees cmp matching s agree n l at_l

  abbrev fs : List ℕ
  fs = l.one ∷ l.two ∷ []

  module _ (p1 p2 : Place) (node1 node2 : Node K) (f1 f2 : Face K) (place1 : nth l.one s.faces ≡ Some p1) (place2 : nth l.two s.faces ≡ Some p2) (there1 : nth p1.gateway s.gateways ≡ Some node1) (there2 : nth p2.gateway s.gateways ≡ Some node2) (face1 : find_face p1.face node1.rows ≡ Some f1)
      (face2 : find_face p2.face node2.rows ≡ Some f2) (apart : p2.gateway ≢ p1.gateway) where
    abbrev s1 : Fabric K
    s1 = turned_by cmp matching total equal_is_same s0 fine0 agree0 p1.gateway node1 (CloseFace p1.face) s0.waiting there1 refl

    apart1 : (a b : ℕ) (z : FaceAt K) → face_numbered s0 a ≡ Some z → are_joined s0 a b ≡ true → z.gateway ≡ p1.gateway → p1.face ≢ z.face.number
    apart1 a b z found link here same_ =
        let is : a ≡ l.one = same_number cmp matching total s0 fine0 agree0 l.one a p1 z place1 found here (sym same_) node1 there1 in
        never (eq-eqb a l.one is) (removed_apart cmp matching s agree n l at_l a b link).0

    agree1 : TreesAgree cmp matching s1
    agree1 = trees_after_closing cmp matching total equal_is_same s0 fine0 agree0 p1.gateway p1.face node1 f1 there1 face1 apart1

    fine1 : FabricIsInOrder cmp matching s1
    fine1 = let order = one_in_order cmp matching total s0 fine0 l.one p1 node1 place1 there1 in record { gateways = order.gateways; places_exist = order.places_exist }

    abbrev changed1 : Node K → Node K
    changed1 x = record x { rows = rows_after_call cmp matching (CloseFace p1.face) x.rows }

    there_still : nth p2.gateway s1.gateways ≡ Some node2
    there_still = nth_other p2.gateway p1.gateway changed1 s.gateways node2 (nth_real p1.gateway s.gateways node1 there1) apart there2

    abbrev s2 : Fabric K
    s2 = turned_by cmp matching total equal_is_same s1 fine1 agree1 p2.gateway node2 (CloseFace p2.face) s1.waiting there_still refl

    apart2 : (a b : ℕ) (z : FaceAt K) → face_numbered s1 a ≡ Some z → are_joined s1 a b ≡ true → z.gateway ≡ p2.gateway → p2.face ≢ z.face.number
    apart2 a b z found link here same_ =
        let is : a ≡ l.two = same_number cmp matching total s1 fine1 agree1 l.two a p2 z place2 found here (sym same_) node2 there_still in
        never (eq-eqb a l.two is) (removed_apart cmp matching s agree n l at_l a b link).1

    agree2 : TreesAgree cmp matching s2
    agree2 = trees_after_closing cmp matching total equal_is_same s1 fine1 agree1 p2.gateway p2.face node2 f2 there_still face2 apart2

    -- ---- the closed link stands in the list

    abbrev s3 : Fabric K
    s3 = record s2 { links = at_nth n closed s.links }

    was_open : (a : ℕ) (x : FaceAt K) → face_numbered s2 a ≡ Some x → ((a == l.one) ≡ false) × ((a == l.two) ≡ false) × ((z : FaceAt K) × (face_numbered s a ≡ Some z))
    unfolding face_numbered
    was_open a x found =
        let y = open_before cmp matching total equal_is_same s1 fine1 agree1 p2.gateway p2.face node2 f2 there_still face2 apart2 a x found in
        let z = open_before cmp matching total equal_is_same s0 fine0 agree0 p1.gateway p1.face node1 f1 there1 face1 apart1 a y.0 y.1 in (
          by_test (a == l.one) (λ here. absurd (gone cmp matching total s0 fine0 l.one p1 node1 place1 there1 a y.0 s1.waiting (eqb-true a l.one here) y.1)) (λ e. e),
          by_test (a == l.two) (λ here. absurd (gone cmp matching total s1 fine1 l.two p2 node2 place2 there_still a x s2.waiting (eqb-true a l.two here) found)) (λ e. e),
          (z.0, z.1),
        )

    s3_joins : (a b : ℕ) → are_joined s3 a b ≡ true → are_joined s2 a b ≡ true
    s3_joins a b joined_ = open_joins a b (at_nth n closed s.links) ∙ joined_

    agree3 : TreesAgree cmp matching s3
    unfolding face_numbered
    agree3 = record {
      gateways = agree2.gateways;
      joints = λ a b x y joined_ x_is y_is up. agree2.joints a b x y (s3_joins a b joined_) x_is y_is up;
      links = record {
        meet = λ a b joined_. let both = agree2.links.meet a b (s3_joins a b joined_) in record { one = both.one; two = both.two; one_is = both.one_is; two_is = both.two_is; one_leads_up = both.one_leads_up };
        once = λ a b c first second. agree2.links.once a b c (s3_joins a b first) (s3_joins a c second);
        stay = λ a x found some.
            let was = was_open a x found in
            let j = agree.links.stay a was.2.0 was.2.1 (ends_were n a s.links some) in
            record { other = j.other; joined = still_joined n a j.other s.links l at_l (was.0, was.1) j.joined };
        wait = λ a b joined_. agree2.links.wait a b (s3_joins a b joined_);
        made = each_closed (λ link. (link.one ≤ length s.faces) × (link.two ≤ length s.faces)) (λ link le. le) n s.links agree.links.made;
        rise = ends_closed n 0 s.links agree.links.rise;
        rows = agree2.links.rows;
      };
      forest = record { rank = agree2.forest.rank; within = agree2.forest.within; falls = λ a b x y joined_. agree2.forest.falls a b x y (s3_joins a b joined_) };
    }

    -- ---- the line comes to this

    abbrev X1 : Fabric K
    X1 = with_rows p1.gateway (rows_after_call cmp matching (CloseFace p1.face)) s

    abbrev X2 : Fabric K
    X2 = with_rows p2.gateway (rows_after_call cmp matching (CloseFace p2.face)) X1

    order1 : FabricIsInOrder cmp matching X1
    order1 = one_in_order cmp matching total s fine l.one p1 node1 place1 there1

    abbrev at1 : CallAt K
    at1 = closing_at cmp matching total s fine l.one p1 node1 place1 there1

    abbrev at2 : CallAt K
    at2 = closing_at cmp matching total X1 order1 l.two p2 node2 place2 there_still

    both_closed : after_hearing cmp (said_closing cmp matching fs s) (closed_ends cmp matching fs s) ≡ X2
    unfolding closed_ends said_closing
    both_closed =
        one_then cmp matching total s fine l.one p1 node1 place1 there1 (l.two ∷ [])
        ∙ one_then cmp matching total X1 order1 l.two p2 node2 place2 there_still []
        ∙ after_hearing_nothing cmp X2

    abbrev m1 : List (Sent K)
    m1 = said_at cmp matching s (Some at1)

    abbrev m2 : List (Sent K)
    m2 = said_at cmp matching X1 (Some at2)

    said_is : said_closing cmp matching fs s ≡ m1 ++ (m2 ++ [])
    unfolding said_closing
    said_is =
        ap (λ at. said_at cmp matching s at ++ said_closing cmp matching (l.two ∷ []) (after_closing cmp matching l.one s)) (closing_is cmp matching total s fine l.one p1 node1 place1 there1)
        ∙ ap (λ X. m1 ++ (said_at cmp matching X (closing_call X l.two) ++ [])) (one_closed cmp matching total s fine l.one p1 node1 place1 there1)
        ∙ ap (λ at. m1 ++ (said_at cmp matching X1 at ++ [])) (closing_is cmp matching total X1 order1 l.two p2 node2 place2 there_still)

    -- the faces alone are closed
    abbrev Y2 : Fabric K
    Y2 = with_rows p2.gateway (altered cmp matching (CloseFace p2.face)) (with_rows p1.gateway (altered cmp matching (CloseFace p1.face)) s)

    closed_is : closed_ends cmp matching fs s ≡ Y2
    unfolding closed_ends
    closed_is =
        let change = λ (x : Node K). record x { rows = altered cmp matching (CloseFace p1.face) x.rows } in
        let Y1 = with_rows p1.gateway (altered cmp matching (CloseFace p1.face)) s in
        let still = nth_other p2.gateway p1.gateway change s.gateways node2 (nth_real p1.gateway s.gateways node1 there1) apart there2 in
        ap (λ at. closed_ends cmp matching (l.two ∷ []) (altered_at cmp matching s at)) (closing_is cmp matching total s fine l.one p1 node1 place1 there1)
        ∙ ap (λ at. altered_at cmp matching Y1 at)
        (ap (call_at_place Y1 (CloseFace l.two)) place2 ∙ ap (λ (o : Option (Node K)). (let at : Option (CallAt K) = elim o [ None ↦ None | Some x ↦ Some (record { gateway = p2.gateway; rows = x.rows; call = CloseFace p2.face }) ] in at)) still)

    abbrev ms : List (Sent K)
    ms = sorted_by_face (filter (λ m. not (is_of cmp matching fs m)) (said_closing cmp matching fs s))

    heard_is : after_hearing cmp ms Y2 ≡ X2
    heard_is =
        let fewer = filter (λ m. not (is_of cmp matching fs m)) (said_closing cmp matching fs s) in
        ap (after_hearing cmp ms) (sym closed_is)
        ∙ hearing_alike cmp ms fewer (closed_ends cmp matching fs s) (λ k. printed_sorted k fewer)
        ∙ but_for_alike cmp matching fs (said_closing cmp matching fs s) (closed_ends cmp matching fs s) (all_apart cmp matching fs (closed_ends cmp matching fs s) (ends_apart cmp matching total fs s fine))
        ∙ both_closed

    abbrev left-waiting : ById (List (Message K))
    left-waiting = without_id l.one (without_id l.two s.waiting)

    queues_are : map (λ row. (row.0, row.1 ++ printed_for row.0 ms)) left-waiting ≡ s2.waiting
    queues_are =
        queues_same ms (sorted_by_face m1) (sorted_by_face m2) left-waiting
        (each_both (λ row. not (l.one == row.0) ≡ true) (λ row. not (l.two == row.0) ≡ true) (λ row. printed_for row.0 ms ≡ printed_for row.0 (sorted_by_face m1) ++ printed_for row.0 (sorted_by_face m2))
        (λ row one two.
        printed_sorted row.0 (filter (λ m. not (is_of cmp matching fs m)) (said_closing cmp matching fs s))
        ∙ printed_but_for cmp matching fs row.0 (said_closing cmp matching fs s) (neither (l.one == row.0) (l.two == row.0) one two)
        ∙ ap (printed_for row.0) said_is
        ∙ printed_for-append row.0 m1 (m2 ++ [])
        ∙ ap (λ xs. printed_for row.0 m1 ++ printed_for row.0 xs) (append-nil m2)
        ∙ ap (λ xs. xs ++ printed_for row.0 m2) (sym (printed_sorted row.0 m1))
        ∙ ap (λ xs. printed_for row.0 (sorted_by_face m1) ++ xs) (sym (printed_sorted row.0 m2)))
        left-waiting (each_passes (λ row. not (l.one == row.0)) (without_id l.two s.waiting)) (each_filter (λ row. not (l.two == row.0) ≡ true) (λ row. not (l.one == row.0)) (without_id l.two s.waiting) (each_passes (λ row. not (l.two == row.0)) s.waiting)))
      where
        neither : (a b : Bool) → not a ≡ true → not b ≡ true → (a || (b || false)) ≡ false
        neither true b one two = cc
        neither false true one two = cc
        neither false false one two = refl

    heard_elsewhere : (links : List Link) (w : ById (List (Message K))) → after_hearing cmp ms (record Y2 { links = links; waiting = w }) ≡ record (after_hearing cmp ms Y2) { links = links; waiting = w }
    unfolding gateways_after_hearing
    heard_elsewhere links w = refl

    abbrev Then : Fabric K
    Then = with_waiting (sorted_by_face (said_by_line cmp matching (Unlink n) s)) (after_hearing cmp (sorted_by_face (said_by_line cmp matching (Unlink n) s)) (altered_by_line cmp matching (Unlink n) s))

    then_is : Then ≡ s3
    unfolding said_by_line altered_by_line
    then_is =
        let fs_is : both_ends cmp matching s n ≡ fs = ap (λ (o : Option Link). (let ks : List ℕ = elim o [ None ↦ [] | Some link ↦ link.one ∷ link.two ∷ [] ] in ks)) at_l in
        let said_of = λ (ks : List ℕ). sorted_by_face (filter (λ m. not (is_of cmp matching ks m)) (said_closing cmp matching ks s)) in
        ap (λ ks. with_waiting (said_of ks) (after_hearing cmp (said_of ks) (without_link n (closed_ends cmp matching ks s)))) fs_is
        ∙ ap (λ Y. with_waiting ms (after_hearing cmp ms (without_link n Y))) closed_is
        ∙ ap (λ (o : Option Link). with_waiting ms (after_hearing cmp ms (let t : Fabric K = elim o [ None ↦ Y2 | Some link ↦ record Y2 { links = at_nth n closed s.links; waiting = without_id link.one (without_id link.two s.waiting) } ] in t))) at_l
        ∙ ap (with_waiting ms) (heard_elsewhere (at_nth n closed s.links) left-waiting)
        ∙ ap (λ (X : Fabric K). with_waiting ms (record X { links = at_nth n closed s.links; waiting = left-waiting })) heard_is
        ∙ ap (λ (w : ById (List (Message K))). record X2 { links = at_nth n closed s.links; waiting = w }) queues_are

    unlinked : TreesAgree cmp matching Then
    unlinked = subst (TreesAgree cmp matching) (sym then_is) agree3

  -- An accepted unlinking keeps all that is true of trees.
  pub trees_after_unlink : TreesAgree cmp matching (with_waiting (sorted_by_face (said_by_line cmp matching (Unlink n) s)) (after_hearing cmp (sorted_by_face (said_by_line cmp matching (Unlink n) s)) (altered_by_line cmp matching (Unlink n) s)))
  trees_after_unlink =
      let one = is_there s l.one ends.one ends.one_is in
      let two = is_there s l.two ends.two ends.two_is in
      unlinked one.place two.place one.node two.node ends.one.face ends.two.face one.place_is two.place_is (ap (λ g. nth g s.gateways) one.gateway_is ∙ one.node_is) (ap (λ g. nth g s.gateways) two.gateway_is ∙ two.node_is)
      (ap (λ k. find_face k one.node.rows) one.number_is ∙ ap (find_face ends.one.face.number) one.rows_are ∙ one.face_is) (ap (λ k. find_face k two.node.rows) two.number_is ∙ ap (find_face ends.two.face.number) two.rows_are ∙ two.face_is)
      (λ same_. gateways_apart (sym one.gateway_is ∙ sym same_ ∙ two.gateway_is))
