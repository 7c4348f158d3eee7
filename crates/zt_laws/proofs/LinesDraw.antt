-- Each line draws the next ids of its faces.
use Rattle.std.proofs.Common.{◌≡◌, ℕ, ◌+◌, ◌≤◌, ◌<◌, Bool, true, false, ◌==◌, not, List, [], ◌∷◌, ◌++◌, map, filter, length, Option, Some, None, refl, sym, ap, ◌∙◌, subst, arith, le_trans}
use Rattle.std.specs.Cmp.{IsTotalOrder}
use Rattle.std.specs.List.{list_any}
use Rattle.std.specs.declared.cmp.Ordering.{Ordering}
use Rattle.zt_region.specs.declared.region.Bound.{Bound}
use Rattle.zt_region.specs.declared.region.Region.{Region}
use Rattle.zt_region.specs.declared.region.WhatAmI.{WhatAmI}
use Rattle.zt_region.specs.declared.region.Zid.{Zid}
use Rattle.zt_protocol.specs.Plain.{PlainCall, NewSession, NewTransport, CloseFace, Expire, SetTrees, PlainLine, Gateway, Session, Face as FaceLine, Link as LinkLine, Unlink, Step, Speak, Moment, SetTreesAt}
use Rattle.zt_protocol.specs.declared.entries.Sent.{Sent}
use Rattle.zt_model.specs.Fabric.{CallAt, Fabric, Node, Place, after_hearing, altered_at, altered_by_line, at_nth, both_ends, call_at, call_of, call_of_step, closed_ends, closing_call, entry_by, entry_of, gateways_after_hearing, line_causes, line_spends_ids, new_rows, next_face, number_from, opened_at, opened_ends, opening_at, printed_for, said_at, said_by_line, said_closing, said_opening, sorted_by_face, table_at, with_gateway, with_place, with_rows, with_session}
use Rattle.zt_model.specs.Hearing.{heard_all, messages_for}
use Rattle.zt_model.specs.Linking.{LinkEnd, link_ends, with_link, without_link}
use Rattle.zt_model.specs.Lists.{nth, without_id}
use Rattle.zt_model.specs.Places.{Link}
use Rattle.zt_model.specs.Promises.{DrawsNextIds, EachFace, EachGateway, HaveNextIds}
use Rattle.zt_model.specs.Refusals.{first_cause}
use Rattle.zt_model.specs.Routing.{face_opened}
use Rattle.zt_model.specs.Rows.{Face, Rows}
use Rattle.zt_model.specs.Says.{altered, altered_by, parts_of, said, said_by}
use Rattle.zt_model.specs.Transcript.{Each, fabric_shown}
use Rattle.zt_laws.specs.Kept.{Told, told_of}
use Rattle.zt_laws.specs.Order.{FabricIsInOrder, GatewayIsInOrder}
use Rattle.zt_laws.specs.Shown.{as_shown, node_shown}
use Rattle.zt_laws.specs.Sound.{CallHasFirstIds, EachFrom, HasFirstIds, is_placed, opens_face, places_of}
use Rattle.zt_protocol.specs.declared.errors.Refusal.{Refusal}
use Rattle.zt_laws.proofs.AllLines.{starts_real, without_message_is}
use Rattle.zt_laws.proofs.CallsOrder.{altered_faces, closed_each}
use Rattle.zt_laws.proofs.Ends.{by_end, end_alone, end_in_order, ends_commute, opened_elsewhere, printed_for-append, printed_none, said_within}
use Rattle.zt_laws.proofs.Gateways.{PrintsSends, prints_map, prints_sorted}
use Rattle.zt_laws.proofs.Hearing.{heard_all-number}
use Rattle.zt_laws.proofs.Keeping.{told_alone}
use Rattle.zt_laws.proofs.LinesOrder.{called_at, called_by_speaker, called_by_step, calls_nothing, opened_faces}
use Rattle.zt_laws.proofs.Lists.{each_always, each_append, each_both, each_from_weaker, each_weaker}
use Rattle.zt_laws.proofs.NextIds.{DrawNext, call_draws, draw_append, have_next_ids}
use Rattle.zt_laws.proofs.Numbered.{each_from_at, nth_real}
use Rattle.zt_laws.proofs.PartsOrder.{each_of_map}
use Rattle.zt_laws.proofs.Places.{not_placed_yet, number_new, number_still, placed_new, placed_still}
use Rattle.zt_laws.proofs.ShownLines.{line_is_shown}
use Rattle.zt_laws.proofs.Sorting.{printed, printed_sorted}
use Rattle.zt_laws.proofs.Unlinking.{Apart, all_apart, ends_apart, printed_but_for, closing_alone, closing_case, closing_in_order, closings_commute, each_from_always, each_from_both}

module _ {K : Type 0} (cmp : K → K → Ordering) where
  -- the messages of each face of a fabric draw its next ids
  abbrev RowsDraw : List Place → List (Sent K) → ℕ → Node K → Type 0
  RowsDraw places ms j node = Each (λ f. DrawNext cmp (printed_for (number_from 1 j f.number places) ms) (told_of f)) node.rows.faces

  abbrev AllDraw : Fabric K → List (Sent K) → Type 0
  AllDraw X ms = EachFrom (RowsDraw X.faces ms) 1 X.gateways

  all_draw_nothing : (X : Fabric K) → AllDraw X []
  unfolding printed_for
  all_draw_nothing X = each_from_always (RowsDraw X.faces []) (λ j node. each_always (λ f. Unit {0}) (λ f. tt) node.rows.faces) 1 X.gateways

  -- what is said later is drawn later
  all_draw_then : (ms ns : List (Sent K)) (X : Fabric K) → AllDraw X ms → AllDraw (after_hearing cmp ms X) ns → AllDraw X (ms ++ ns)
  unfolding gateways_after_hearing
  all_draw_then ms ns X one two = gateways 1 X.gateways one two
    where
      rows : (j : ℕ) (g : Rows K)
          → Each (λ f. DrawNext cmp (printed_for (number_from 1 j f.number X.faces) ms) (told_of f)) g.faces
          → Each (λ f. DrawNext cmp (printed_for (number_from 1 j f.number X.faces) ns) (told_of f)) (map (λ f. heard_all cmp g.moment (printed_for (number_from 1 j f.number X.faces) ms) f) g.faces)
          → Each (λ f. DrawNext cmp (printed_for (number_from 1 j f.number X.faces) (ms ++ ns)) (told_of f)) g.faces
      rows j g a b =
          each_both (λ f. DrawNext cmp (printed_for (number_from 1 j f.number X.faces) ms) (told_of f)) (λ f. Later f (heard_all cmp g.moment (printed_for (number_from 1 j f.number X.faces) ms) f)) (λ f. DrawNext cmp (printed_for (number_from 1 j f.number X.faces) (ms ++ ns)) (told_of f))
          (λ f first later.
          let k = number_from 1 j f.number X.faces in
          let h = heard_all cmp g.moment (printed_for k ms) f in
          subst (λ xs. DrawNext cmp xs (told_of f)) (sym (printed_for-append k ms ns))
          (draw_append cmp (printed_for k ms) (printed_for k ns) (told_of f) first
          (subst (DrawNext cmp (printed_for k ns)) (told_alone cmp g.moment (printed_for k ms) f)
          (subst (λ i. DrawNext cmp (printed_for (number_from 1 j i X.faces) ns) (told_of h)) (heard_all-number cmp g.moment (printed_for k ms) f) later))))
          g.faces a (each_of_map (λ f. DrawNext cmp (printed_for (number_from 1 j f.number X.faces) ns) (told_of f)) (λ f. heard_all cmp g.moment (printed_for (number_from 1 j f.number X.faces) ms) f) g.faces b)
        where
          Later : Face K → Face K → Type 0
          Later f h = DrawNext cmp (printed_for (number_from 1 j h.number X.faces) ns) (told_of h)

      gateways : (k : ℕ) (gs : List (Node K)) → EachFrom (RowsDraw X.faces ms) k gs → EachFrom (RowsDraw X.faces ns) k (gateways_after_hearing cmp X ms k gs) → EachFrom (RowsDraw X.faces (ms ++ ns)) k gs
      gateways k [] a b = tt
      gateways k (node ∷ gs) a b = (rows k node.rows a.0 b.0, gateways (k + 1) gs a.1 b.1)

  draw_alike : (ms ns : List (Sent K)) (X : Fabric K) → ((n : ℕ) → printed_for n ms ≡ printed_for n ns) → AllDraw X ns → AllDraw X ms
  draw_alike ms ns X same_ all =
      each_from_weaker (RowsDraw X.faces ns) (RowsDraw X.faces ms)
      (λ j node rows. each_weaker (λ f. DrawNext cmp (printed_for (number_from 1 j f.number X.faces) ns) (told_of f)) (λ f. DrawNext cmp (printed_for (number_from 1 j f.number X.faces) ms) (told_of f)) (λ f own. subst (λ xs. DrawNext cmp xs (told_of f)) (sym (same_ (number_from 1 j f.number X.faces))) own) node.rows.faces rows)
      1 X.gateways all

module _ {K : Type 0} (cmp : K → K → Ordering) (matching : K → K → Bool) (total : IsTotalOrder cmp) where
  -- a call that opens no face
  call_all : (n : ℕ) (node : Node K) (c : PlainCall K) (s : Fabric K) (ms : List (Sent K)) → PrintsSends s.faces n (said cmp matching c node.rows) ms → nth n s.gateways ≡ Some node → opens_face c ≡ false → CallHasFirstIds c → FabricIsInOrder cmp matching s → AllDraw cmp (with_rows n (altered cmp matching c) s) ms
  call_all n node c s ms prints at_ still real fine =
      each_from_at (λ j (x : Node K). GatewayIsInOrder cmp matching s.faces j x.rows) (RowsDraw cmp s.faces ms) (λ (x : Node K). record x { rows = altered cmp matching c x.rows }) 1 n n s.gateways (nth_real n s.gateways node at_) (omega arith)
      (λ j x apart g. each_weaker (λ f. is_placed j f.number s.faces ≡ true) (λ f. DrawNext cmp (printed_for (number_from 1 j f.number s.faces) ms) (told_of f)) (λ f there. subst (λ xs. DrawNext cmp xs (told_of f)) (sym (prints.other j f.number apart there)) tt) x.rows.faces g.placed)
      (λ x is g.
      let e : Some node ≡ Some x = sym at_ ∙ is in
      let same_ : node ≡ x = cc in
      subst (λ (y : Node K). GatewayIsInOrder cmp matching s.faces n y.rows → Each (λ f. DrawNext cmp (printed_for (number_from 1 n f.number s.faces) ms) (told_of f)) (altered cmp matching c y.rows).faces) same_
      (λ h.
      each_both (λ f. is_placed n f.number s.faces ≡ true) (λ f. DrawNext cmp (messages_for f.number (said cmp matching c node.rows)) (told_of f)) (λ f. DrawNext cmp (printed_for (number_from 1 n f.number s.faces) ms) (told_of f))
      (λ f there own. subst (λ xs. DrawNext cmp xs (told_of f)) (sym (prints.own f.number there)) own)
      (altered cmp matching c node.rows).faces (altered_faces cmp matching total (λ k. is_placed n k s.faces ≡ true) c node.rows still h.rows.lists h.placed).0
      (each_of_map (λ t. DrawNext cmp (messages_for t.number (said cmp matching c node.rows)) t) told_of (altered cmp matching c node.rows).faces (call_draws cmp total matching c node.rows real h.rows)))
      g)
      fine.gateways

  -- a call that opens a face
  open_all : (n : ℕ) (node : Node K) (c : PlainCall K) (s : Fabric K) (ms : List (Sent K)) → PrintsSends (with_place n s).faces n (said cmp matching c node.rows) ms → nth n s.gateways ≡ Some node → opens_face c ≡ true → CallHasFirstIds c → FabricIsInOrder cmp matching s → AllDraw cmp (with_rows n (altered cmp matching c) (with_place n s)) ms
  open_all n node c s ms prints at_ opens real fine =
      let p : Place = record { gateway = n; face = next_face (nth n s.gateways) } in
      let places = s.faces ++ p ∷ [] in
      each_from_at (λ j (x : Node K). GatewayIsInOrder cmp matching s.faces j x.rows) (RowsDraw cmp places ms) (λ (x : Node K). record x { rows = altered cmp matching c x.rows }) 1 n n s.gateways (nth_real n s.gateways node at_) (omega arith)
      (λ j x apart g.
      each_weaker (λ f. is_placed j f.number s.faces ≡ true) (λ f. DrawNext cmp (printed_for (number_from 1 j f.number places) ms) (told_of f))
      (λ f there. subst (λ xs. DrawNext cmp xs (told_of f)) (sym (prints.other j f.number apart (placed_still j f.number s.faces p there))) tt) x.rows.faces g.placed)
      (λ x is g.
      let e : Some node ≡ Some x = sym at_ ∙ is in
      let same_ : node ≡ x = cc in
      let new_ : is_placed n (node.rows.made + 1) places ≡ true = subst (λ k. is_placed n k places ≡ true) (ap next_face at_) (placed_new n p.face s.faces) in
      subst (λ (y : Node K). GatewayIsInOrder cmp matching s.faces n y.rows → Each (λ f. DrawNext cmp (printed_for (number_from 1 n f.number places) ms) (told_of f)) (altered cmp matching c y.rows).faces) same_
      (λ h.
      each_both (λ f. is_placed n f.number places ≡ true) (λ f. DrawNext cmp (messages_for f.number (said cmp matching c node.rows)) (told_of f)) (λ f. DrawNext cmp (printed_for (number_from 1 n f.number places) ms) (told_of f))
      (λ f there own. subst (λ xs. DrawNext cmp xs (told_of f)) (sym (prints.own f.number there)) own)
      (altered cmp matching c node.rows).faces
      (opened_faces cmp matching total (λ k. is_placed n k places ≡ true) c node.rows opens new_ (each_weaker (λ f. is_placed n f.number s.faces ≡ true) (λ f. is_placed n f.number places ≡ true) (λ f there. placed_still n f.number s.faces p there) node.rows.faces h.placed)).0
      (each_of_map (λ t. DrawNext cmp (messages_for t.number (said cmp matching c node.rows)) t) told_of (altered cmp matching c node.rows).faces (call_draws cmp total matching c node.rows real h.rows)))
      g)
      fine.gateways

  -- ---- the ends of a link

  -- a face that is opened is sent nothing of what was said before
  open_still : (zid : Zid) (whatami : WhatAmI) (region : Region) (bound : Bound) (first n : ℕ) (ms : List (Sent K)) (X : Fabric K) → FabricIsInOrder cmp matching X → Each (λ m. m.face ≤ length X.faces) ms → AllDraw cmp X ms
      → (let c : PlainCall K = NewTransport zid whatami region bound first in AllDraw cmp (opened_at cmp matching (call_at X n c) X) ms)
  unfolding parts_of altered_by
  open_still zid whatami region bound first n ms X fine within all =
      called_at (λ at. AllDraw cmp (opened_at cmp matching at X) ms) X n (NewTransport zid whatami region bound first) all
      (λ node at_.
      let p : Place = record { gateway = n; face = next_face (nth n X.gateways) } in
      let places = X.faces ++ p ∷ [] in
      let still = λ (j : ℕ) (f : Face K) (there : is_placed j f.number X.faces ≡ true) (own : DrawNext cmp (printed_for (number_from 1 j f.number X.faces) ms) (told_of f)).
      subst (λ k. DrawNext cmp (printed_for k ms) (told_of f)) (sym (number_still 1 j f.number X.faces p there)) own in
      let old = λ (j : ℕ) (x : Node K) (both : GatewayIsInOrder cmp matching X.faces j x.rows × RowsDraw cmp X.faces ms j x).
      each_both (λ f. is_placed j f.number X.faces ≡ true) (λ f. DrawNext cmp (printed_for (number_from 1 j f.number X.faces) ms) (told_of f)) (λ f. DrawNext cmp (printed_for (number_from 1 j f.number places) ms) (told_of f)) (λ f there own. still j f there own) x.rows.faces both.0.placed both.1 in
      each_from_at (λ j (x : Node K). GatewayIsInOrder cmp matching X.faces j x.rows × RowsDraw cmp X.faces ms j x) (RowsDraw cmp places ms) (λ (x : Node K). record x { rows = altered cmp matching (NewTransport zid whatami region bound first) x.rows }) 1 n n X.gateways (nth_real n X.gateways node at_) (omega arith)
      (λ j x apart both. old j x both)
      (λ x is both.
      let p_is : p ≡ record { gateway = n; face = x.rows.made + 1 } = ap (λ (k : ℕ). record { gateway = n; face = k }) (ap next_face is) in
      let new_ : is_placed n (x.rows.made + 1) X.faces ≡ false = not_placed_yet n (x.rows.made + 1) X.faces (each_weaker (λ q. q.face ≤ x.rows.made) (λ q. q.face < x.rows.made + 1) (λ q up. omega arith) (places_of n X.faces) both.0.places_made) in
      let number_ : number_from 1 n (x.rows.made + 1) places ≡ 1 + length X.faces = ap (λ q. number_from 1 n (x.rows.made + 1) (X.faces ++ q ∷ [])) p_is ∙ number_new 1 n (x.rows.made + 1) X.faces new_ in
      let nothing : printed_for (number_from 1 n (x.rows.made + 1) places) ms ≡ [] =
      ap (λ k. printed_for k ms) number_ ∙ printed_none (1 + length X.faces) ms (each_weaker (λ m. m.face ≤ length X.faces) (λ m. m.face < 1 + length X.faces) (λ m up. omega arith) ms within) in
      each_append (λ f. DrawNext cmp (printed_for (number_from 1 n f.number places) ms) (told_of f)) x.rows.faces _ (old n x both) (subst (λ xs. DrawNext cmp xs (told_of (face_opened zid whatami region bound first x.rows))) (sym nothing) tt, tt))
      (each_from_both (λ j (x : Node K). GatewayIsInOrder cmp matching X.faces j x.rows) (RowsDraw cmp X.faces ms) (λ j (x : Node K). GatewayIsInOrder cmp matching X.faces j x.rows × RowsDraw cmp X.faces ms j x) (λ j x a b. (a, b)) 1 X.gateways fine.gateways all))

  end_still : (end : LinkEnd K) (ms : List (Sent K)) (X : Fabric K) → FabricIsInOrder cmp matching X → Each (λ m. m.face ≤ length X.faces) ms → AllDraw cmp X ms → AllDraw cmp (opened_at cmp matching (opening_at cmp matching X end) X) ms
  end_still end ms X fine within all =
      by_end cmp matching (λ c. AllDraw cmp (opened_at cmp matching (elim c [ None ↦ None | Some call ↦ call_at X end.gateway call ]) X) ms) end all (λ zid whatami region bound. open_still zid whatami region bound end.first end.gateway ms X fine within all)

  ends_still : (ends : List (LinkEnd K)) (ms : List (Sent K)) (X : Fabric K) → Each (λ end. 1 ≤ end.first) ends → FabricIsInOrder cmp matching X → Each (λ m. m.face ≤ length X.faces) ms → AllDraw cmp X ms → AllDraw cmp (opened_ends cmp matching ends X) ms
  unfolding opened_ends
  ends_still [] ms X real fine within all = all
  ends_still (end ∷ ends) ms X real fine within all =
      let Y = opened_at cmp matching (opening_at cmp matching X end) X in
      let alone = end_alone cmp matching total end X real.0 fine in
      let up : length X.faces ≤ length Y.faces = alone.1 in
      ends_still ends ms Y real.1 alone.0 (each_weaker (λ m. m.face ≤ length X.faces) (λ m. m.face ≤ length Y.faces) (λ m h. le_trans h up) ms within) (end_still end ms X fine within all)

  end_all : (end : LinkEnd K) (X : Fabric K) → 1 ≤ end.first → FabricIsInOrder cmp matching X → (let at = opening_at cmp matching X end in AllDraw cmp (opened_at cmp matching at X) (said_at cmp matching (opened_at cmp matching at X) at))
  end_all end X real fine =
      by_end cmp matching (λ c. let at : Option (CallAt K) = elim c [ None ↦ None | Some call ↦ call_at X end.gateway call ] in AllDraw cmp (opened_at cmp matching at X) (said_at cmp matching (opened_at cmp matching at X) at)) end (all_draw_nothing cmp X)
      (λ zid whatami region bound.
      let c : PlainCall K = NewTransport zid whatami region bound end.first in
      called_at (λ at. AllDraw cmp (opened_at cmp matching at X) (said_at cmp matching (opened_at cmp matching at X) at)) X end.gateway c (all_draw_nothing cmp X)
      (λ node at_. open_all end.gateway node c X (map (printed (with_place end.gateway X).faces end.gateway) (said cmp matching c node.rows)) (prints_map (with_place end.gateway X).faces end.gateway (said cmp matching c node.rows)) at_ refl real fine))

  ends_draw : (ends : List (LinkEnd K)) (X : Fabric K) → Each (λ end. 1 ≤ end.first) ends → FabricIsInOrder cmp matching X → AllDraw cmp (opened_ends cmp matching ends X) (said_opening cmp matching ends X)
  unfolding opened_ends said_opening
  ends_draw [] X real fine = all_draw_nothing cmp X
  ends_draw (end ∷ ends) X real fine =
      let at = opening_at cmp matching X end in
      let Y = opened_at cmp matching at X in
      let ms = said_at cmp matching Y at in
      let H = after_hearing cmp ms Y in
      let alone = end_alone cmp matching total end X real.0 fine in
      let within = said_within cmp matching total end X in
      all_draw_then cmp ms (said_opening cmp matching ends H) (opened_ends cmp matching ends Y) (ends_still ends ms Y real.1 alone.0 within (end_all end X real.0 fine))
      (subst (λ (t : Fabric K). AllDraw cmp t (said_opening cmp matching ends H)) (sym (ends_commute cmp matching total ends ms Y real.1 alone.0 within)) (ends_draw ends H real.1 (end_in_order cmp matching total end X real.0 fine)))

  -- ---- closing

  closing_still : (face : ℕ) (ms : List (Sent K)) (X : Fabric K) → FabricIsInOrder cmp matching X → AllDraw cmp X ms → AllDraw cmp (altered_at cmp matching X (closing_call X face)) ms
  closing_still face ms X fine all =
      closing_case cmp matching (λ at. AllDraw cmp (altered_at cmp matching X at) ms) X face all
      (λ n k node at_.
      each_from_at (λ j (x : Node K). GatewayIsInOrder cmp matching X.faces j x.rows × RowsDraw cmp X.faces ms j x) (RowsDraw cmp X.faces ms) (λ (x : Node K). record x { rows = altered cmp matching (CloseFace k) x.rows }) 1 n n X.gateways (nth_real n X.gateways node at_) (omega arith)
      (λ j x apart both. both.1)
      (λ x is both. closed_each cmp matching total (λ (t : Told K). DrawNext cmp (printed_for (number_from 1 n t.number X.faces) ms) t) k x.rows both.0.rows.lists both.1)
      (each_from_both (λ j (x : Node K). GatewayIsInOrder cmp matching X.faces j x.rows) (RowsDraw cmp X.faces ms) (λ j (x : Node K). GatewayIsInOrder cmp matching X.faces j x.rows × RowsDraw cmp X.faces ms j x) (λ j x a b. (a, b)) 1 X.gateways fine.gateways all))

  closings_still : (fs : List ℕ) (ms : List (Sent K)) (X : Fabric K) → FabricIsInOrder cmp matching X → AllDraw cmp X ms → AllDraw cmp (closed_ends cmp matching fs X) ms
  unfolding closed_ends
  closings_still [] ms X fine all = all
  closings_still (face ∷ fs) ms X fine all = closings_still fs ms (altered_at cmp matching X (closing_call X face)) (closing_alone cmp matching total face X fine) (closing_still face ms X fine all)

  closing_all : (face : ℕ) (X : Fabric K) → FabricIsInOrder cmp matching X → AllDraw cmp (altered_at cmp matching X (closing_call X face)) (said_at cmp matching X (closing_call X face))
  closing_all face X fine =
      closing_case cmp matching (λ at. AllDraw cmp (altered_at cmp matching X at) (said_at cmp matching X at)) X face (all_draw_nothing cmp X)
      (λ n k node at_. call_all n node (CloseFace k) X (map (printed X.faces n) (said cmp matching (CloseFace k) node.rows)) (prints_map X.faces n (said cmp matching (CloseFace k) node.rows)) at_ refl tt fine)

  closings_draw : (fs : List ℕ) (X : Fabric K) → FabricIsInOrder cmp matching X → AllDraw cmp (closed_ends cmp matching fs X) (said_closing cmp matching fs X)
  unfolding closed_ends said_closing
  closings_draw [] X fine = all_draw_nothing cmp X
  closings_draw (face ∷ fs) X fine =
      let at = closing_call X face in
      let ms = said_at cmp matching X at in
      let Y = altered_at cmp matching X at in
      let H = after_hearing cmp ms Y in
      all_draw_then cmp ms (said_closing cmp matching fs H) (closed_ends cmp matching fs Y) (closings_still fs ms Y (closing_alone cmp matching total face X fine) (closing_all face X fine))
      (subst (λ (t : Fabric K). AllDraw cmp t (said_closing cmp matching fs H)) (sym (closings_commute cmp matching fs ms Y)) (closings_draw fs H (closing_in_order cmp matching total face X fine)))

  -- ---- lines

  sorted_draw : (ms : List (Sent K)) (X : Fabric K) → AllDraw cmp X ms → AllDraw cmp X (sorted_by_face ms)
  sorted_draw ms X all = draw_alike cmp (sorted_by_face ms) ms X (λ n. printed_sorted n ms) all

  -- what is dropped was for no open face
  but_for_draw : (fs : List ℕ) (ms : List (Sent K)) (X : Fabric K) → Each (λ face. Apart cmp matching face X) fs → AllDraw cmp X ms → AllDraw cmp X (filter (λ m. not (list_any (λ face. face == m.face) fs)) ms)
  but_for_draw fs ms X apart all =
      each_from_both (λ j (node : Node K). Each (λ f. list_any (λ face. face == number_from 1 j f.number X.faces) fs ≡ false) node.rows.faces) (RowsDraw cmp X.faces ms) (RowsDraw cmp X.faces (filter (λ m. not (list_any (λ face. face == m.face) fs)) ms))
      (λ j node none_ rows.
      each_both (λ f. list_any (λ face. face == number_from 1 j f.number X.faces) fs ≡ false) (λ f. DrawNext cmp (printed_for (number_from 1 j f.number X.faces) ms) (told_of f)) (λ f. DrawNext cmp (printed_for (number_from 1 j f.number X.faces) (filter (λ m. not (list_any (λ face. face == m.face) fs)) ms)) (told_of f))
      (λ f gone own. subst (λ xs. DrawNext cmp xs (told_of f)) (sym (printed_but_for cmp matching fs (number_from 1 j f.number X.faces) ms gone)) own) node.rows.faces none_ rows)
      1 X.gateways (all_apart cmp matching fs X apart) all

  without_link_draw : (n : ℕ) (ms : List (Sent K)) (X : Fabric K) → AllDraw cmp X ms → AllDraw cmp (without_link n X) ms
  without_link_draw n ms X all = cases (nth n X.links)
    where
      cases : (o : Option Link) → AllDraw cmp (elim o [ None ↦ X | Some link ↦ record X { links = at_nth n (λ l. record l { is_open = false }) X.links; waiting = without_id link.one (without_id link.two X.waiting) } ]) ms
      cases None = all
      cases (Some link) = all

  called_draw : (n : ℕ) (node : Node K) (c : PlainCall K) (s : Fabric K) → nth n s.gateways ≡ Some node → opens_face c ≡ false → FabricIsInOrder cmp matching s → AllDraw cmp (with_rows n (altered cmp matching c) s) (sorted_by_face (map (printed s.faces n) (said cmp matching c node.rows)))
  called_draw n node c s at_ still fine = call_all n node c s (sorted_by_face (map (printed s.faces n) (said cmp matching c node.rows))) (prints_sorted s.faces n (said cmp matching c node.rows)) at_ still (calls_nothing cmp matching total c still) fine

  abbrev CalledDraws : Fabric K → Option (CallAt K) → Type 0
  CalledDraws s at = AllDraw cmp (altered_at cmp matching s at) (sorted_by_face (said_at cmp matching s at))

  line_draws : (line : PlainLine K) (s : Fabric K) → HasFirstIds line → FabricIsInOrder cmp matching s → AllDraw cmp (altered_by_line cmp matching line s) (sorted_by_face (said_by_line cmp matching line s))
  unfolding altered_by_line said_by_line call_of sorted_by_face parts_of said_by altered_by
  line_draws (Gateway mode zid regions south name timeout refused) s real fine = all_draw_nothing cmp (with_gateway (record { rows = new_rows mode zid regions timeout refused; south = south; name = name }) s)
  line_draws (Session n first) s real fine =
      called_at (λ at. AllDraw cmp (with_session n first s) (sorted_by_face (said_at cmp matching s at))) s n (NewSession first) (all_draw_nothing cmp (with_session n first s)) (λ node at_. all_draw_nothing cmp (with_session n first s))
  line_draws (FaceLine n mode zid region bound first) s real fine =
      let c : PlainCall K = NewTransport zid mode region bound first in
      called_at (λ at. AllDraw cmp (opened_at cmp matching at s) (sorted_by_face (said_at cmp matching (opened_at cmp matching at s) at))) s n c (all_draw_nothing cmp s)
      (λ node at_. open_all n node c s (sorted_by_face (map (printed (with_place n s).faces n) (said cmp matching c node.rows))) (prints_sorted (with_place n s).faces n (said cmp matching c node.rows)) at_ refl real fine)
  line_draws (LinkLine one two first back) s real fine =
      let ends = link_ends s one two first back in
      let ms = said_opening cmp matching ends s in
      let linked = with_link s in
      subst (λ (t : Fabric K). AllDraw cmp t (sorted_by_face ms)) (sym (opened_elsewhere cmp matching total ends linked.links linked.waiting s)) (sorted_draw ms (opened_ends cmp matching ends s) (ends_draw ends s (starts_real cmp matching s one two first back real.0 real.1) fine))
  line_draws (Unlink link) s real fine =
      let fs = both_ends cmp matching s link in
      let ms = filter (λ m. not (list_any (λ face. face == m.face) fs)) (said_closing cmp matching fs s) in
      without_link_draw link (sorted_by_face ms) (closed_ends cmp matching fs s) (sorted_draw ms (closed_ends cmp matching fs s) (but_for_draw fs (said_closing cmp matching fs s) (closed_ends cmp matching fs s) (ends_apart cmp matching total fs s fine) (closings_draw fs s fine)))
  line_draws (Step link back) s real fine =
      let taken = without_message_is cmp matching link back s in
      subst (λ (t : Fabric K). AllDraw cmp (altered_at cmp matching t (call_of_step s back (nth link s.links))) (sorted_by_face (said_at cmp matching s (call_of_step s back (nth link s.links))))) (sym taken.1)
      (called_by_step (λ at. AllDraw cmp (altered_at cmp matching (record s { waiting = taken.0 }) at) (sorted_by_face (said_at cmp matching s at))) s back (nth link s.links) (all_draw_nothing cmp (record s { waiting = taken.0 })) (λ n node c at_ still. called_draw n node c s at_ still fine))
  line_draws (Speak c) s real fine = called_by_speaker (CalledDraws s) s c (all_draw_nothing cmp s) (λ n node call at_ still. called_draw n node call s at_ still fine)
  line_draws (Moment n now) s real fine = called_at (CalledDraws s) s n (Expire now) (all_draw_nothing cmp s) (λ node at_. called_draw n node (Expire now) s at_ refl fine)
  line_draws (SetTreesAt n region t) s real fine = called_at (CalledDraws s) s n (SetTrees region (table_at s n t)) (all_draw_nothing cmp s) (λ node at_. called_draw n node (SetTrees region (table_at s n t)) s at_ refl fine)

  -- ---- turns

  each_gateway : (P : ℕ → Node K → Type 0) (i : ℕ) (gs : List (Node K)) → EachFrom P i gs → EachGateway P i gs
  each_gateway P i [] all = tt
  each_gateway P i (node ∷ gs) all = (all.0, each_gateway P (i + 1) gs all.1)

  faces_have : (X : Fabric K) (ms : List (Sent K)) → AllDraw cmp X ms → EachFace (λ n g f. HaveNextIds cmp matching (printed_for (number_from 1 n f.number X.faces) ms) f) X
  faces_have X ms all =
      each_gateway (λ n (node : Node K). Each (λ f. HaveNextIds cmp matching (printed_for (number_from 1 n f.number X.faces) ms) f) node.rows.faces) 1 X.gateways
      (each_from_weaker (RowsDraw cmp X.faces ms) (λ n (node : Node K). Each (λ f. HaveNextIds cmp matching (printed_for (number_from 1 n f.number X.faces) ms) f) node.rows.faces)
      (λ n node rows. each_weaker (λ f. DrawNext cmp (printed_for (number_from 1 n f.number X.faces) ms) (told_of f)) (λ f. HaveNextIds cmp matching (printed_for (number_from 1 n f.number X.faces) ms) f) (λ f own. have_next_ids cmp matching (printed_for (number_from 1 n f.number X.faces) ms) f own) node.rows.faces rows) 1 X.gateways all)

  -- a fact of each face, own rows aside
  faces_shown : (P : ℕ → Face K → Type 0) (i : ℕ) (gs : List (Node K)) → EachGateway (λ n (node : Node K). Each (P n) node.rows.faces) i gs → EachGateway (λ n (node : Node K). Each (P n) node.rows.faces) i (map node_shown gs)
  faces_shown P i [] all = tt
  faces_shown P i (node ∷ gs) all = (all.0, faces_shown P (i + 1) gs all.1)

  -- Each line of a script draws the next ids of its faces.
  pub turn_draws : (line : PlainLine K) (s : Fabric K) → HasFirstIds line → FabricIsInOrder cmp matching s
      → (let entry = entry_of cmp matching line s in DrawsNextIds cmp matching (record { line = line; entry = entry; before = as_shown s; after = fabric_shown cmp matching line entry (as_shown s) }))
  unfolding entry_of fabric_shown printed_for
  turn_draws line s real fine = cases (first_cause (line_causes cmp matching (line_spends_ids cmp matching line s) line s))
    where
      ms : List (Sent K)
      ms = sorted_by_face (said_by_line cmp matching line s)

      cases : (o : Option Refusal) → (let entry = entry_by cmp matching o ms in DrawsNextIds cmp matching (record { line = line; entry = entry; before = as_shown s; after = fabric_shown cmp matching line entry (as_shown s) }))
      cases None =
          let X = altered_by_line cmp matching line s in
          subst (λ (t : Fabric K). EachFace (λ n g f. HaveNextIds cmp matching (printed_for (number_from 1 n f.number t.faces) ms) f) t) (sym (line_is_shown cmp matching total line s fine))
          (faces_shown (λ n f. HaveNextIds cmp matching (printed_for (number_from 1 n f.number X.faces) ms) f) 1 X.gateways (faces_have X ms (line_draws line s real fine)))
      cases (Some r) =
          let t = as_shown s in
          each_gateway (λ n (node : Node K). Each (λ f. Unit {0}) node.rows.faces) 1 t.gateways (each_from_always (λ n (node : Node K). Each (λ f. Unit {0}) node.rows.faces) (λ n node. each_always (λ f. Unit {0}) (λ f. tt) node.rows.faces) 1 t.gateways)
