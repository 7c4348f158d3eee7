-- The faces at the ends of a link: each is opened or closed, and what is said then is heard.
use Rattle.std.proofs.Common.{◌≡◌, ℕ, Bool, false, true, ◌==◌, not, List, [], ◌∷◌, ◌++◌, map, filter, Option, Some, None, Ok, refl, sym, ap, ◌∙◌}
use Rattle.std.proofs.lemmas.List.{append-nil}
use Rattle.std.proofs.lemmas.List.Elements.{filter-append}
use Rattle.std.specs.Cmp.{IsTotalOrder}
use Rattle.std.specs.List.{list_any}
use Rattle.std.specs.declared.cmp.Ordering.{Ordering}
use Rattle.zt_protocol.specs.Plain.{CloseFace, Unlink}
use Rattle.zt_protocol.specs.declared.entries.Sent.{Sent}
use Rattle.zt_protocol.specs.declared.messages.Message.{Message}
use Rattle.zt_model.specs.Fabric.{CallAt, Fabric, Node, Place, after_closing, after_hearing, altered_at, at_nth, both_ends, call_at, closed_ends, closing_call, fabric_after, gateways_after_hearing, altered_by_line, said_at, said_by_line, said_closing, sorted_by_face, with_rows, with_waiting}
use Rattle.zt_model.specs.Linking.{without_link}
use Rattle.zt_model.specs.Lists.{nth, without_id}
use Rattle.zt_model.specs.Places.{Link}
use Rattle.zt_model.specs.Rows.{ById}
use Rattle.zt_model.specs.Says.{said}
use Rattle.zt_laws.specs.Order.{FabricIsInOrder}
use Rattle.zt_laws.specs.Sound.{is_placed, rows_after_call}
use Rattle.zt_laws.proofs.CallsOrder.{altered_faces}
use Rattle.zt_laws.proofs.Ends.{after_hearing-append}
use Rattle.zt_laws.proofs.Gateways.{after_hearing_nothing, prints_map}
use Rattle.zt_laws.proofs.Interleaving.{hearing_alike}
use Rattle.zt_laws.proofs.LinesOrder.{after_prints, faces_placed, gateway_in_order}
use Rattle.zt_laws.proofs.Sorting.{printed, printed_sorted}
use Rattle.zt_laws.proofs.Unlinking.{all_apart, but_for_alike, closings_commute, ends_apart}
use Rattle.zt_fabric_state.specs.Changes.{row_after}
use Rattle.zt_fabric_state.proofs.Carried.{call_there}
use Rattle.zt_fabric_state.proofs.PutBack.{at_nth_none}
use Rattle.zt_links.proofs.Carried.{call_nowhere, nothing_carried}

-- faces are closed one after another, and each hears what is said then
abbrev pub closings : {K : Type 0} → (K → K → Ordering) → (K → K → Bool) → List ℕ → Fabric K → Fabric K
closings cmp matching [] s = s
closings cmp matching (face ∷ fs) s = closings cmp matching fs (after_closing cmp matching face s)

module _ {K : Type 0} (cmp : K → K → Ordering) (matching : K → K → Bool) (total : IsTotalOrder cmp) where
  -- ---- closing

  abbrev closes_at : Fabric K → Option (CallAt K) → Fabric K
  closes_at s at = after_hearing cmp (said_at cmp matching s at) (altered_at cmp matching s at)

  -- the rows of the face's gateway are those after its closing
  closed_there : (n k : ℕ) (s : Fabric K) (o : Option (Node K)) → nth n s.gateways ≡ o → FabricIsInOrder cmp matching s → with_rows n (rows_after_call cmp matching (CloseFace k)) s ≡ closes_at s (call_at s n (CloseFace k))
  closed_there n k s None at_ fine =
      ap (λ (gs : List (Node K)). record s { gateways = gs }) (at_nth_none n _ s.gateways at_)
      ∙ sym (after_hearing_nothing cmp s)
      ∙ ap (closes_at s) (sym (call_nowhere s n (CloseFace k) at_))
  closed_there n k s (Some node) at_ fine =
      let gateway = gateway_in_order cmp matching s n node at_ fine in
      let after = altered_faces cmp matching total (λ j. is_placed n j s.faces ≡ true) (CloseFace k) node.rows refl gateway.rows.lists gateway.placed in
      sym (after_prints cmp matching n node (CloseFace k) s (map (printed s.faces n) (said cmp matching (CloseFace k) node.rows)) (prints_map s.faces n (said cmp matching (CloseFace k) node.rows)) at_ after.0 (faces_placed cmp matching s fine))
      ∙ ap (closes_at s) (sym (call_there s n node (CloseFace k) at_))

  pub closing_there : (face : ℕ) (p : Place) (s : Fabric K) → nth face s.faces ≡ Some p → closing_call s face ≡ call_at s p.gateway (CloseFace p.face)
  closing_there face p s there = ap (λ (o : Option Place). let at : Option (CallAt K) = elim o [ None ↦ None | Some q ↦ call_at s q.gateway (CloseFace q.face) ] in at) there

  pub face_closed : (face : ℕ) (p : Place) (s : Fabric K) → nth face s.faces ≡ Some p → FabricIsInOrder cmp matching s → with_rows p.gateway (rows_after_call cmp matching (CloseFace p.face)) s ≡ after_closing cmp matching face s
  face_closed face p s there fine = closed_there p.gateway p.face s (nth p.gateway s.gateways) refl fine ∙ ap (closes_at s) (sym (closing_there face p s there))

  pub closing_nowhere : (face : ℕ) (s : Fabric K) → nth face s.faces ≡ None → closing_call s face ≡ None
  closing_nowhere face s none = ap (λ (o : Option Place). let at : Option (CallAt K) = elim o [ None ↦ None | Some q ↦ call_at s q.gateway (CloseFace q.face) ] in at) none

  pub closed_nowhere : (face : ℕ) (s : Fabric K) → nth face s.faces ≡ None → s ≡ after_closing cmp matching face s
  closed_nowhere face s none = sym (after_hearing_nothing cmp s) ∙ ap (closes_at s) (sym (closing_nowhere face s none))

  -- both ends are closed, one after the other
  pub both_closed : (fs : List ℕ) (s : Fabric K) → after_hearing cmp (said_closing cmp matching fs s) (closed_ends cmp matching fs s) ≡ closings cmp matching fs s
  unfolding said_closing closed_ends
  both_closed [] s = after_hearing_nothing cmp s
  both_closed (face ∷ fs) s =
      let at = closing_call s face in
      let ms = said_at cmp matching s at in
      let Y = altered_at cmp matching s at in
      let H = after_hearing cmp ms Y in
      after_hearing-append cmp ms (said_closing cmp matching fs H) (closed_ends cmp matching fs Y)
      ∙ ap (after_hearing cmp (said_closing cmp matching fs H)) (closings_commute cmp matching fs ms Y)
      ∙ both_closed fs H

  -- ---- a link is closed

  closing_keeps : (face : ℕ) (s : Fabric K) → ((altered_at cmp matching s (closing_call s face)).links ≡ s.links) × ((altered_at cmp matching s (closing_call s face)).waiting ≡ s.waiting)
  closing_keeps face s = cases (closing_call s face)
    where
      cases : (at : Option (CallAt K)) → ((altered_at cmp matching s at).links ≡ s.links) × ((altered_at cmp matching s at).waiting ≡ s.waiting)
      cases None = (refl, refl)
      cases (Some at) = (refl, refl)

  closings_keep : (fs : List ℕ) (s : Fabric K) → ((closed_ends cmp matching fs s).links ≡ s.links) × ((closed_ends cmp matching fs s).waiting ≡ s.waiting)
  unfolding closed_ends
  closings_keep [] s = (refl, refl)
  closings_keep (face ∷ fs) s =
      let one = closing_keeps face s in
      let rest = closings_keep fs (altered_at cmp matching s (closing_call s face)) in
      (rest.0 ∙ one.0, rest.1 ∙ one.1)

  pub closing_links : (face : ℕ) (s : Fabric K) → (after_closing cmp matching face s).links ≡ s.links
  closing_links face s = (closing_keeps face s).0

  pub closing_waits : (face : ℕ) (s : Fabric K) → (after_closing cmp matching face s).waiting ≡ s.waiting
  closing_waits face s = (closing_keeps face s).1

  abbrev pub is_other : List ℕ → Sent K → Bool
  is_other fs m = not (list_any (λ face. face == m.face) fs)

  heard_elsewhere : (ms : List (Sent K)) (links : List Link) (waiting : ById (List (Message K))) (s : Fabric K) → after_hearing cmp ms (record s { links = links; waiting = waiting }) ≡ record (after_hearing cmp ms s) { links = links; waiting = waiting }
  unfolding gateways_after_hearing
  heard_elsewhere ms links waiting s = refl

  -- what is said to the closed faces is dropped
  closings_heard : (fs : List ℕ) (s : Fabric K) (ms : List (Sent K)) → FabricIsInOrder cmp matching s → ms ≡ sorted_by_face (filter (is_other fs) (said_closing cmp matching fs s))
      → after_hearing cmp ms (closed_ends cmp matching fs s) ≡ closings cmp matching fs s
  closings_heard fs s ms fine is =
      let X = closed_ends cmp matching fs s in
      let ns = filter (is_other fs) (said_closing cmp matching fs s) in
      ap (λ xs. after_hearing cmp xs X) is
      ∙ hearing_alike cmp (sorted_by_face ns) ns X (λ n. printed_sorted n ns)
      ∙ but_for_alike cmp matching fs (said_closing cmp matching fs s) X (all_apart cmp matching fs X (ends_apart cmp matching total fs s fine))
      ∙ both_closed fs s

  pub unlink_says : (link one two : ℕ) (s : Fabric K) → both_ends cmp matching s link ≡ one ∷ two ∷ []
      → (let t = after_closing cmp matching one s in
      sorted_by_face (filter (is_other (one ∷ two ∷ [])) (said_at cmp matching s (closing_call s one)) ++ filter (is_other (one ∷ two ∷ [])) (said_at cmp matching t (closing_call t two)))
      ≡ sorted_by_face (said_by_line cmp matching (Unlink link) s))
  unfolding said_by_line said_closing
  unlink_says link one two s ends =
      let t = after_closing cmp matching one s in
      let keep = is_other (one ∷ two ∷ []) in
      let ms = said_at cmp matching s (closing_call s one) in
      let ns = said_at cmp matching t (closing_call t two) in
      ap sorted_by_face
      (ap (λ xs. filter keep ms ++ filter keep xs) (sym (append-nil ns))
      ∙ sym (filter-append keep ms (ns ++ [])))
      ∙ ap (λ fs. sorted_by_face (filter (is_other fs) (said_closing cmp matching fs s))) (sym ends)

  pub unlink_does : (link one two : ℕ) (s : Fabric K) (l : Link) (ms : List (Sent K)) → nth link s.links ≡ Some l → both_ends cmp matching s link ≡ one ∷ two ∷ [] → FabricIsInOrder cmp matching s
      → ms ≡ sorted_by_face (said_by_line cmp matching (Unlink link) s)
      → (let u = after_closing cmp matching two (after_closing cmp matching one s) in
      record u { links = at_nth link (λ l. record l { is_open = false }) s.links; waiting = map (row_after None ms) (without_id one (without_id two s.waiting)) }
      ≡ fabric_after cmp matching (Unlink link) (Ok ms) s)
  unfolding said_by_line fabric_after altered_by_line
  unlink_does link one two s l ms at_ ends fine says =
      let fs = one ∷ two ∷ [] in
      let X = closed_ends cmp matching fs s in
      let u = closings cmp matching fs s in
      let keeps = closings_keep fs s in
      let L = at_nth link (λ (l : Link). record l { is_open = false }) s.links in
      let W = without_id one (without_id two s.waiting) in
      let ends_are : l.one ∷ l.two ∷ [] ≡ fs = sym (ap (λ (o : Option Link). let both : List ℕ = elim o [ None ↦ [] | Some link ↦ link.one ∷ link.two ∷ [] ] in both) at_) ∙ ends in
      let one_is : l.one ≡ one = cc in
      let two_is : l.two ≡ two = cc in
      let heard : after_hearing cmp ms X ≡ u = closings_heard fs s ms fine (says ∙ ap (λ fs. sorted_by_face (filter (is_other fs) (said_closing cmp matching fs s))) ends) in
      let there : nth link X.links ≡ Some l = ap (nth link) keeps.0 ∙ at_ in
      let shut : without_link link X ≡ record X { links = L; waiting = W } =
      ap (λ (o : Option Link). let t : Fabric K = elim o [ None ↦ X | Some l ↦ record X { links = at_nth link (λ l. record l { is_open = false }) X.links; waiting = without_id l.one (without_id l.two X.waiting) } ] in t) there
      ∙ ap (λ (ls : List Link). record X { links = at_nth link (λ l. record l { is_open = false }) ls; waiting = without_id l.one (without_id l.two X.waiting) }) keeps.0
      ∙ ap (λ (ws : ById (List (Message K))). record X { links = L; waiting = without_id l.one (without_id l.two ws) }) keeps.1
      ∙ ap (λ k. record X { links = L; waiting = without_id k (without_id l.two s.waiting) }) one_is
      ∙ ap (λ k. record X { links = L; waiting = without_id one (without_id k s.waiting) }) two_is in
      ap (λ (t : Fabric K). with_waiting ms (record t { links = L; waiting = W })) (sym heard)
      ∙ ap (with_waiting ms) (sym (heard_elsewhere ms L W X))
      ∙ ap (λ t. with_waiting ms (after_hearing cmp ms t)) (sym shut)
      ∙ ap (λ fs. with_waiting ms (after_hearing cmp ms (without_link link (closed_ends cmp matching fs s)))) (sym ends)

  -- there is no such link
  no_ends : (link : ℕ) (s : Fabric K) → nth link s.links ≡ None → both_ends cmp matching s link ≡ []
  no_ends link s none = ap (λ (o : Option Link). let both : List ℕ = elim o [ None ↦ [] | Some link ↦ link.one ∷ link.two ∷ [] ] in both) none

  pub unlink_nothing_says : (link : ℕ) (s : Fabric K) → nth link s.links ≡ None → [] ≡ sorted_by_face (said_by_line cmp matching (Unlink link) s)
  unfolding said_by_line said_closing sorted_by_face
  unlink_nothing_says link s none = ap (λ fs. sorted_by_face (filter (is_other fs) (said_closing cmp matching fs s))) (sym (no_ends link s none))

  pub unlink_nothing_does : (link : ℕ) (s : Fabric K) → nth link s.links ≡ None → s ≡ fabric_after cmp matching (Unlink link) (Ok []) s
  unfolding fabric_after altered_by_line closed_ends
  unlink_nothing_does link s none =
      let still : without_link link s ≡ s = ap (λ (o : Option Link). let t : Fabric K = elim o [ None ↦ s | Some l ↦ record s { links = at_nth link (λ l. record l { is_open = false }) s.links; waiting = without_id l.one (without_id l.two s.waiting) } ] in t) none in
      nothing_carried cmp None s s refl
      ∙ ap (λ t. with_waiting [] (after_hearing cmp [] t)) (sym still)
      ∙ ap (λ fs. with_waiting [] (after_hearing cmp [] (without_link link (closed_ends cmp matching fs s)))) (sym (no_ends link s none))
