-- A link that opens leaves what was there: faces, what waits for them, and closed ones.
use Rattle.std.proofs.Common.{◌≡◌, ◌≢◌, ℕ, ◌≤◌, ◌+◌, ◌-◌, Bool, true, false, ◌&&◌, ◌||◌, ◌==◌, not, List, [], ◌∷◌, ◌++◌, length, Option, Some, None, refl, sym, ap, ◌∙◌, subst, arith, append-nil, append_assoc, eqb-true, eq-eqb, ne_eqb}
use Rattle.std.proofs.lemmas.Bool.{or_left}
use Rattle.std.specs.Cmp.{IsTotalOrder}
use Rattle.std.specs.List.{list_any}
use Rattle.std.specs.declared.cmp.Ordering.{Ordering}
use Rattle.zt_protocol.specs.Plain.{PlainCall, PlainLine, NewTransport, Link as LinkLine}
use Rattle.zt_protocol.specs.declared.entries.Sent.{Sent}
use Rattle.zt_protocol.specs.declared.messages.Message.{Message}
use Rattle.zt_model.specs.Fabric.{CallAt, Fabric, Node, Place, after_hearing, after_opening, altered_by_line, at_nth, call_at, gateways_after_hearing, next_face, opened_at, opened_ends, opening_at, printed_for, said_at, said_by_line, said_opening, sorted_by_face, with_waiting}
use Rattle.zt_model.specs.Linking.{LinkEnd, is_end_of, link_ends, with_link}
use Rattle.zt_model.specs.Lists.{at_id, has_id, nth}
use Rattle.zt_model.specs.Parts.{find_face}
use Rattle.zt_model.specs.Rows.{ById, Face}
use Rattle.zt_model.specs.Says.{altered, said}
use Rattle.zt_model.specs.Transcript.{Each}
use Rattle.zt_laws.specs.Order.{FabricIsInOrder}
use Rattle.zt_laws.specs.Sound.{rows_after_call}
use Rattle.zt_laws.proofs.Ends.{by_end, end_in_order, printed_for-append}
use Rattle.zt_laws.proofs.Entries.{nth-at_nth}
use Rattle.zt_laws.proofs.Gateways.{prints_map}
use Rattle.zt_laws.proofs.LinesOrder.{called_at, gateway_in_order}
use Rattle.zt_laws.proofs.Lists.{any-append, by_test, never}
use Rattle.zt_laws.proofs.Numbered.{nth_real, nth_within}
use Rattle.zt_laws.proofs.Sorting.{printed_sorted}
use Rattle.zt_theorem_tree_invariant.specs.Joints.{are_joined, joins}
use Rattle.zt_theorem_tree_invariant.proofs.Making.{nth_front}
use Rattle.zt_theorem_tree_invariant.proofs.Members.{is_there, numbered}
use Rattle.zt_theorem_tree_invariant.proofs.Turning.{nth_other, queue, queue_added}
use Rattle.zt_theorem_tree_knowledge.proofs.Linked.{LinkIs}
use Rattle.zt_theorem_tree_all_that_stays.proofs.Framing.{IsFrame}
use Rattle.zt_theorem_tree_all_that_stays.proofs.Opening.{found_stays, none_stays, opened_prints_none, placed_fact}

-- ---- lists

exists_at_nth : {A : Type 0} (m n : ℕ) (change : A → A) (xs : List A) (x : A) → nth m xs ≡ Some x → (y : A) × (nth m (at_nth n change xs) ≡ Some y)
exists_at_nth m n change [] x at_ = cc
exists_at_nth {A} m n change (y ∷ xs) x at_ =
    by_test (m == 1)
    (λ first. by_test (n == 1) (λ own. rw own (rw first (change y, refl))) (λ other. rw other (rw first (y, refl))))
    (λ later.
    let rest : nth (m - 1) xs ≡ Some x = rw later at at_ in
    by_test (n == 1)
    (λ own. rw own (rw later (x, rest)))
    (λ other. rw other (rw later (exists_at_nth (m - 1) (n - 1) change xs x rest))))

front_row : {A : Type 0} (k : ℕ) (xs ys : ById A) → has_id k xs ≡ true → at_id k (xs ++ ys) ≡ at_id k xs
front_row k [] ys there = cc
front_row k (x ∷ xs) ys there = by_test (k == x.0) (λ here. rw here refl) (λ apart. rw apart (front_row k xs ys (rw apart at there)))

front_has : {A : Type 0} (k : ℕ) (xs ys : ById A) → has_id k xs ≡ true → has_id k (xs ++ ys) ≡ true
front_has {A} k xs ys there = any-append (λ (row : ℕ × A). k == row.0) xs ys ∙ or_left (has_id k xs) (has_id k ys) there

-- places come behind others, and links and what waits stay
pub record IsLonger {K : Type 0} (X Y : Fabric K) : Type 0 where
  pub more : List Place
  pub faces : Y.faces ≡ X.faces ++ more
  pub links : Y.links ≡ X.links
  pub waiting : Y.waiting ≡ X.waiting

module _ {K : Type 0} (cmp : K → K → Ordering) (matching : K → K → Bool) where
  exists_heard : (X : Fabric K) (ms : List (Sent K)) (k m : ℕ) (gs : List (Node K)) (x : Node K) → nth m gs ≡ Some x → (y : Node K) × (nth m (gateways_after_hearing cmp X ms k gs) ≡ Some y)
  unfolding gateways_after_hearing
  exists_heard X ms k m [] x at_ = cc
  exists_heard X ms k m (g ∷ gs) x at_ = by_test (m == 1) (λ first. rw first (_, refl)) (λ later. rw later (exists_heard X ms (k + 1) (m - 1) gs x (rw later at at_)))

  longer_at : (at : Option (CallAt K)) (X : Fabric K) → IsLonger X (opened_at cmp matching at X)
  longer_at None X = record { more = []; faces = sym (append-nil X.faces); links = refl; waiting = refl }
  longer_at (Some at) X = record { more = record { gateway = at.gateway; face = next_face (nth at.gateway X.gateways) } ∷ []; faces = refl; links = refl; waiting = refl }

  longer_after : (at : Option (CallAt K)) (X : Fabric K) → IsLonger X (after_opening cmp matching at X)
  longer_after at X = let one = longer_at at X in record { more = one.more; faces = one.faces; links = one.links; waiting = one.waiting }

  longer_trans : (X Y Z : Fabric K) → IsLonger X Y → IsLonger Y Z → IsLonger X Z
  longer_trans X Y Z one two = record {
    more = one.more ++ two.more;
    faces = two.faces ∙ ap (λ fs. fs ++ two.more) one.faces ∙ append_assoc X.faces one.more two.more;
    links = two.links ∙ one.links;
    waiting = two.waiting ∙ one.waiting;
  }

  longer_ends : (ends : List (LinkEnd K)) (X : Fabric K) → IsLonger X (opened_ends cmp matching ends X)
  unfolding opened_ends
  longer_ends [] X = record { more = []; faces = sym (append-nil X.faces); links = refl; waiting = refl }
  longer_ends (end ∷ ends) X = let Y = opened_at cmp matching (opening_at cmp matching X end) X in longer_trans X Y (opened_ends cmp matching ends Y) (longer_at (opening_at cmp matching X end) X) (longer_ends ends Y)

  module _ (total : IsTotalOrder cmp) (k : ℕ) (p : Place) where
    -- what one end is sent isn't for a face that was made before
    one_prints_none : (end : LinkEnd K) (X : Fabric K) → FabricIsInOrder cmp matching X → nth k X.faces ≡ Some p → (node_p : Node K) → nth p.gateway X.gateways ≡ Some node_p → (let at = opening_at cmp matching X end in printed_for k (said_at cmp matching (opened_at cmp matching at X) at) ≡ [])
    unfolding printed_for
    one_prints_none end X fine place_is node_p node_is =
        by_end cmp matching (λ (o : Option (PlainCall K)). (let at : Option (CallAt K) = elim o [ None ↦ None | Some call ↦ call_at X end.gateway call ] in printed_for k (said_at cmp matching (opened_at cmp matching at X) at) ≡ [])) end refl
        (λ zid whatami region bound.
        let c : PlainCall K = NewTransport zid whatami region bound end.first in
        called_at (λ at. printed_for k (said_at cmp matching (opened_at cmp matching at X) at) ≡ []) X end.gateway c refl
        (λ node at_n.
        let new_ : Place = record { gateway = end.gateway; face = next_face (nth end.gateway X.gateways) } in
        opened_prints_none cmp matching X fine end.gateway node at_n c refl new_ (said_at cmp matching (opened_at cmp matching (Some (record { gateway = end.gateway; rows = node.rows; call = c })) X) (Some (record { gateway = end.gateway; rows = node.rows; call = c }))) (prints_map (X.faces ++ new_ ∷ []) end.gateway (said cmp matching c node.rows)) k p place_is node_p node_is))

    exists_after : (at : Option (CallAt K)) (X : Fabric K) (x : Node K) → nth p.gateway X.gateways ≡ Some x → (y : Node K) × (nth p.gateway (after_opening cmp matching at X).gateways ≡ Some y)
    exists_after None X x at_ = exists_heard X [] 1 p.gateway X.gateways x at_
    exists_after (Some at) X x at_ =
        let Y = opened_at cmp matching (Some at) X in
        let one = exists_at_nth p.gateway at.gateway (λ (n : Node K). record n { rows = altered cmp matching at.call n.rows }) X.gateways x at_ in
        exists_heard Y (said_at cmp matching Y (Some at)) 1 p.gateway Y.gateways one.0 one.1

    said_prints_none : (ends : List (LinkEnd K)) (X : Fabric K) → Each (λ end. 1 ≤ end.first) ends → FabricIsInOrder cmp matching X → nth k X.faces ≡ Some p → (node_p : Node K) → nth p.gateway X.gateways ≡ Some node_p → printed_for k (said_opening cmp matching ends X) ≡ []
    unfolding said_opening printed_for
    said_prints_none [] X real fine place_is node_p node_is = refl
    said_prints_none (end ∷ ends) X real fine place_is node_p node_is =
        let at = opening_at cmp matching X end in
        let Y = after_opening cmp matching at X in
        let longer = longer_after at X in
        let there = exists_after at X node_p node_is in
        printed_for-append k (said_at cmp matching (opened_at cmp matching at X) at) (said_opening cmp matching ends Y)
        ∙ ap (λ ns. ns ++ printed_for k (said_opening cmp matching ends Y)) (one_prints_none end X fine place_is node_p node_is)
        ∙ said_prints_none ends Y real.1 (end_in_order cmp matching total end X real.0 fine) (ap (nth k) longer.faces ∙ nth_front k X.faces longer.more p place_is) there.0 there.1

  -- ---- the line

  module _ (total : IsTotalOrder cmp) (s : Fabric K) (fine : FabricIsInOrder cmp matching s) (one two first back : ℕ) (real1 : 1 ≤ first) (real2 : 1 ≤ back) where
    abbrev line : PlainLine K
    line = LinkLine one two first back

    abbrev ms : List (Sent K)
    ms = sorted_by_face (said_by_line cmp matching line s)

    abbrev Then : Fabric K
    Then = with_waiting ms (after_hearing cmp ms (altered_by_line cmp matching line s))

    ends_real : Each (λ (end : LinkEnd K). 1 ≤ end.first) (link_ends s one two first back)
    ends_real = cases (nth one s.gateways)
      where
        both : (a : Node K) (o : Option (Node K)) → Each (λ (end : LinkEnd K). 1 ≤ end.first) (elim o [ None ↦ [] | Some b ↦ record { gateway = one; node = a; beyond = two; other = b; first = first } ∷ record { gateway = two; node = b; beyond = one; other = a; first = back } ∷ [] ])
        both a None = tt
        both a (Some b) = (real1, (real2, tt))

        cases : (o : Option (Node K))
            → Each (λ (end : LinkEnd K). 1 ≤ end.first) (elim o [ None ↦ [] | Some a ↦ elim (nth two s.gateways) [ None ↦ [] | Some b ↦ record { gateway = one; node = a; beyond = two; other = b; first = first } ∷ record { gateway = two; node = b; beyond = one; other = a; first = back } ∷ [] ] ])
        cases None = tt
        cases (Some a) = both a (nth two s.gateways)

    abbrev changed : Fabric K
    changed = altered_by_line cmp matching line s

    longer : IsLonger (with_link s) changed
    unfolding altered_by_line
    longer = longer_ends (link_ends s one two first back) (with_link s)

    prints_none : (k : ℕ) (p : Place) (node_p : Node K) → nth k s.faces ≡ Some p → nth p.gateway s.gateways ≡ Some node_p → printed_for k ms ≡ []
    unfolding said_by_line
    prints_none k p node_p place_is node_is = printed_sorted k (said_by_line cmp matching line s) ∙ said_prints_none total k p (link_ends s one two first back) s ends_real fine place_is node_p node_is

    place_then : (k : ℕ) (p : Place) → nth k s.faces ≡ Some p → nth k Then.faces ≡ Some p
    place_then k p place_is = ap (nth k) longer.faces ∙ nth_front k s.faces longer.more p place_is

    module _ (is : LinkIs cmp matching s Then (said_by_line cmp matching line s)) where
      abbrev change1 : Node K → Node K
      change1 x = record x { rows = rows_after_call cmp matching is.call1 x.rows }

      abbrev change2 : Node K → Node K
      change2 x = record x { rows = rows_after_call cmp matching is.call2 x.rows }

      the_same : {A : Type 0} {u v : A} → Some u ≡ Some v → u ≡ v
      the_same h = cc

      -- a face of a gateway, open or not, is as it was
      node_then : (k : ℕ) (p : Place) (node : Node K) → nth k s.faces ≡ Some p → nth p.gateway s.gateways ≡ Some node → (x : Node K) × ((nth p.gateway Then.gateways ≡ Some x) × (((f : Face K) → find_face p.face node.rows ≡ Some f → find_face p.face x.rows ≡ Some f) × (find_face p.face node.rows ≡ None → find_face p.face x.rows ≡ None)))
      node_then k p node place_is node_is =
          let made : p.face ≤ node.rows.made = placed_fact (λ q. q.face ≤ node.rows.made) p.gateway k s.faces p place_is refl (gateway_in_order cmp matching s p.gateway node node_is fine).places_made in
          by_test (p.gateway == is.two)
          (λ same_.
          let here : p.gateway ≡ is.two = eqb-true p.gateway is.two same_ in
          let node_same : node ≡ is.node2 = the_same (sym node_is ∙ ap (λ g. nth g s.gateways) here ∙ is.at2) in
          let made2 : p.face ≤ is.node2.rows.made = subst (λ (x : Node K). p.face ≤ x.rows.made) node_same made in
          let now_ : nth p.gateway Then.gateways ≡ Some (change2 is.node2) = ap (nth p.gateway) is.gateways_are ∙ ap (λ g. nth g (at_nth is.two change2 (at_nth is.one change1 s.gateways))) here ∙ nth-at_nth is.two change2 (at_nth is.one change1 s.gateways) is.node2 is.still in
          (change2 is.node2, (now_, ((λ f found. found_stays cmp matching is.call2 is.node2.rows is.opens2 p.face made2 f (ap (λ (x : Node K). find_face p.face x.rows) (sym node_same) ∙ found)), (λ none_. none_stays cmp matching is.call2 is.node2.rows is.opens2 p.face made2 (ap (λ (x : Node K). find_face p.face x.rows) (sym node_same) ∙ none_))))))
          (λ not_two.
          let apart2 : p.gateway ≢ is.two = λ e. never (eq-eqb p.gateway is.two e) not_two in
          let real_two = nth_real is.two s.gateways is.node2 is.at2 in
          let after_two = λ (x : Node K) (at_ : nth p.gateway (at_nth is.one change1 s.gateways) ≡ Some x). ap (nth p.gateway) is.gateways_are ∙ nth_other p.gateway is.two change2 (at_nth is.one change1 s.gateways) x real_two apart2 at_ in
          by_test (p.gateway == is.one)
          (λ same_.
          let here : p.gateway ≡ is.one = eqb-true p.gateway is.one same_ in
          let node_same : node ≡ is.node1 = the_same (sym node_is ∙ ap (λ g. nth g s.gateways) here ∙ is.at1) in
          let made1 : p.face ≤ is.node1.rows.made = subst (λ (x : Node K). p.face ≤ x.rows.made) node_same made in
          let now_ = after_two (change1 is.node1) (ap (λ g. nth g (at_nth is.one change1 s.gateways)) here ∙ nth-at_nth is.one change1 s.gateways is.node1 is.at1) in
          (change1 is.node1, (now_, ((λ f found. found_stays cmp matching is.call1 is.node1.rows is.opens1 p.face made1 f (ap (λ (x : Node K). find_face p.face x.rows) (sym node_same) ∙ found)), (λ none_. none_stays cmp matching is.call1 is.node1.rows is.opens1 p.face made1 (ap (λ (x : Node K). find_face p.face x.rows) (sym node_same) ∙ none_))))))
          (λ not_one.
          let now_ = after_two node (nth_other p.gateway is.one change1 s.gateways node (nth_real is.one s.gateways is.node1 is.at1) (λ e. never (eq-eqb p.gateway is.one e) not_one) node_is) in
          (node, (now_, ((λ f found. found), (λ none_. none_))))))

      or_none : (a b : Bool) → a ≡ false → b ≡ false → (a || b) ≡ false
      or_none a b one_ two_ = ap (λ x. x || b) one_ ∙ two_

      was_not : (b : Bool) → not b ≡ true → b ≡ false
      was_not true h = never h refl
      was_not false h = refl

      pub frame_link : IsFrame s Then ms
      frame_link = record {
        faces = λ k z found.
            let at_ = is_there s k z found in
            let node_is : nth at_.place.gateway s.gateways ≡ Some at_.node = ap (λ g. nth g s.gateways) at_.gateway_is ∙ at_.node_is in
            let n = node_then k at_.place at_.node at_.place_is node_is in
            let there : find_face at_.place.face at_.node.rows ≡ Some z.face = ap (λ m. find_face m at_.node.rows) at_.number_is ∙ ap (find_face z.face.number) at_.rows_are ∙ at_.face_is in
            (record { gateway = at_.place.gateway; rows = n.0.rows; face = z.face }, (numbered Then k at_.place n.0 z.face (place_then k at_.place at_.place_is) n.1.0 (n.1.1.0 z.face there), (refl, at_.gateway_is)));
        waits = λ k z found there.
            let at_ = is_there s k z found in
            let node_is : nth at_.place.gateway s.gateways ≡ Some at_.node = ap (λ g. nth g s.gateways) at_.gateway_is ∙ at_.node_is in
            let has : has_id k changed.waiting ≡ true = ap (has_id k) longer.waiting ∙ front_has k s.waiting _ there in
            queue_added changed.waiting ms k has ∙ ap (λ xs. queue changed.waiting k ++ xs) (prints_none k at_.place at_.node at_.place_is node_is) ∙ append-nil (queue changed.waiting k)
            ∙ ap (λ w. queue w k) longer.waiting ∙ ap (λ o. (let q : List (Message K) = elim o [ None ↦ [] | Some xs ↦ xs ] in q)) (front_row k s.waiting _ there);
        joined = λ a b h. ap (list_any (λ link. link.is_open && joins a b link)) longer.links ∙ any-append (λ link. link.is_open && joins a b link) s.links _ ∙ or_left (are_joined s a b) _ h;
        prints = λ k p node place_is node_is. prints_none k p node place_is node_is;
        plain = λ k p at_ h.
            let within : k ≤ length s.faces = nth_within k s.faces p at_ in
            ap not (
            ap (list_any (is_end_of k)) longer.links
            ∙ any-append (is_end_of k) s.links _
            ∙ or_none (list_any (is_end_of k) s.links) _ (was_not (list_any (is_end_of k) s.links) h) (or_none ((k == length s.faces + 1) || (k == length s.faces + 1 + 1)) false (or_none (k == length s.faces + 1) (k == length s.faces + 1 + 1) (ne_eqb k (length s.faces + 1) (λ is. omega arith)) (ne_eqb k (length s.faces + 1 + 1) (λ is. omega arith))) refl)
            );
        closed = λ k cl.
            let n = node_then k cl.place cl.node cl.place_is cl.node_is in
            record { place = cl.place; node = n.0; place_is = place_then k cl.place cl.place_is; node_is = n.1.0; gone = n.1.1.1 cl.gone };
      }
