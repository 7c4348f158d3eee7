-- Each turn of a transcript prints the interests that are due to each face.
use Rattle.std.proofs.Common.{◌≡◌, ◌≢◌, ℕ, ◌+◌, ◌-◌, ◌≤◌, Bool, true, false, not, if◌then◌else◌, ◌==◌, List, [], ◌∷◌, ◌++◌, length, map, filter, Option, Some, None, refl, sym, ap, ◌∙◌, subst, append-nil, arith, eqb-true, ne_eqb, le_refl, le_trans}
use Rattle.std.specs.Cmp.{IsTotalOrder}
use Rattle.std.specs.List.{list_any, flat_map}
use Rattle.std.specs.Option.{option_to_list}
use Rattle.std.specs.declared.cmp.Ordering.{Ordering}
use Rattle.std.specs.declared.cmp.Ordering.TheVariants.{Equal}
use Rattle.zt_region.specs.declared.region.Bound.{Bound}
use Rattle.zt_region.specs.declared.region.Region.{Region}
use Rattle.zt_region.specs.declared.region.WhatAmI.{WhatAmI}
use Rattle.zt_region.specs.declared.region.Zid.{Zid}
use Rattle.zt_region.specs.Region.{is_north}
use Rattle.zt_protocol.specs.Plain.{PlainCall, NewSession, NewTransport, DeclareToken, UndeclareToken, Interest, InterestFinal, DeclareFinal, CloseFace, Expire, SetTrees, SetEntities, PlainLine}
use Rattle.zt_protocol.specs.declared.entries.Sent.{Sent}
use Rattle.zt_protocol.specs.declared.interests.InterestMode.TheVariants.{CurrentFuture}
use Rattle.zt_protocol.specs.declared.messages.Message.{Message}
use Rattle.zt_protocol.specs.declared.messages.Message.TheVariants as message
use Rattle.zt_model.specs.Fabric.{CallAt, Fabric, Node, Place, after_hearing, altered_at, at_nth, both_ends, call_at, closed_ends, closing_call, entries_from, gateways_after_hearing, next_face, number_from, opened_at, opened_ends, opening_at, printed_for, rows_after_hearing, said_at, said_closing, said_opening, sorted_by_face, with_place, with_rows}
use Rattle.zt_model.specs.Hearing.{heard, heard_all, messages_for, rows_heard}
use Rattle.zt_model.specs.Linking.{LinkEnd, end_call, end_region, link_ends}
use Rattle.zt_model.specs.Lists.{in_key_order, nth}
use Rattle.zt_model.specs.Promises.{SendsUpstream, Turn, calls_in, interests_due, interests_in, printed, turns_from}
use Rattle.zt_model.specs.Routing.{face_opened, held_south, interest_order, is_target, leads_up, opened}
use Rattle.zt_model.specs.Rows.{ById, Face, InterestRow, Rows}
use Rattle.zt_model.specs.Says.{altered, altered_by, find_face, parts_of, said}
use Rattle.zt_model.specs.Shown.{interest_kept, rows_shown, with_new_transport}
use Rattle.zt_model.specs.Transcript.{Each, openings, with_opening}
use Rattle.zt_laws.specs.Order.{FabricIsInOrder}
use Rattle.zt_laws.specs.Shown.{as_shown, call_shown, node_shown, without_own}
use Rattle.zt_laws.specs.Sound.{EachFrom, HasFirstIds, is_placed, opens_face, rows_after_call}
use Rattle.zt_laws.proofs.AllLines.{starts_real}
use Rattle.zt_laws.proofs.CallsOrder.{altered_faces}
use Rattle.zt_laws.proofs.Gateways.{PrintsSends, prints_map, prints_sorted}
use Rattle.zt_laws.proofs.Ends.{by_end, end_alone, end_in_order, ends_commute, printed_for-append, said_within}
use Rattle.zt_laws.proofs.Hearing.{heard_all-held, heard_all-number, heard_all-region, heard_all_leaves}
use Rattle.zt_laws.proofs.LinesOrder.{called_at, faces_placed, faces_still_placed, gateway_in_order, heard_faces_placed, opened_faces}
use Rattle.zt_laws.proofs.Lists.{by_test, each_always, each_append, each_both, each_filter, each_map, each_weaker, never, of_cond}
use Rattle.zt_laws.proofs.Numbered.{each_from_at, each_from_nth, nth_real}
use Rattle.zt_laws.proofs.PartsOrder.{each_of_map}
use Rattle.zt_laws.proofs.Places.{placed_new, placed_still}
use Rattle.zt_laws.proofs.ShownRows.{opened_is_made}
use Rattle.zt_laws.proofs.Sorting.{printed as printed_at, sorted_each}
use Rattle.zt_laws.proofs.Unlinking.{closing_case, each_from_always, each_from_both}
use Rattle.zt_laws.proofs.Visible.{flat_map_map}
use Rattle.zt_theorem_soundness.proofs.Going.{MakesNoPending}
use Rattle.zt_theorem_soundness.proofs.Opening.{flat_map-append}
use Rattle.zt_theorem_drawn_ids.proofs.Needs.{held_opened}
use Rattle.zt_theorem_visibility.proofs.Future.{nth_map}
use Rattle.zt_theorem_visibility.proofs.Calls.{IsOfCalls, IsShownTurn, Shown, messages_at, turns_show}
use Rattle.zt_theorem_visibility.proofs.Faces.{FacesHave, faces_any, faces_called, faces_hear_nothing, faces_shown, faces_sorted, faces_still, faces_weaker}
use Rattle.zt_theorem_upstream.proofs.Sending.{call_sends, in-append, none_in, opening_sends, undrawn_none}

module _ {K : Type 0} (cmp : K → K → Ordering) (matching : K → K → Bool) where
  -- ---- what is due to a face

  -- it goes by the face's number, region and bound
  due_alike : (j : ℕ) (f h : Face K) (at : CallAt K) → f.number ≡ h.number → f.region ≡ h.region → f.bound ≡ h.bound → interests_due cmp matching j f at ≡ interests_due cmp matching j h at
  due_alike j f h at number_ region_ bound_ =
      by_kind at.gateway at.rows at.call
      ∙ ap (λ n. interests_due cmp matching j (record h { number = n; region = f.region; bound = f.bound }) at) number_
      ∙ ap (λ r. interests_due cmp matching j (record h { region = r; bound = f.bound }) at) region_
      ∙ ap (λ b. interests_due cmp matching j (record h { bound = b }) at) bound_
    where
      by_kind : (n : ℕ) (g : Rows K) (c : PlainCall K) → interests_due cmp matching j f (record { gateway = n; rows = g; call = c }) ≡ interests_due cmp matching j (record h { number = f.number; region = f.region; bound = f.bound }) (record { gateway = n; rows = g; call = c })
      by_kind n g (NewSession first) = refl
      by_kind n g (NewTransport zid whatami region bound first) = refl
      by_kind n g (DeclareToken k id e node interest) = refl
      by_kind n g (UndeclareToken k id given node) = refl
      by_kind n g (Interest k id mode options e) = refl
      by_kind n g (InterestFinal k id) = refl
      by_kind n g (DeclareFinal k id) = refl
      by_kind n g (CloseFace k) = refl
      by_kind n g (Expire now) = refl
      by_kind n g (SetTrees region t) = refl
      by_kind n g (SetEntities k subscribers queryables) = refl

  -- own rows aside
  due_shown : (j : ℕ) (f : Face K) (n : ℕ) (g : Rows K) (c : PlainCall K) → interests_due cmp matching j f (record { gateway = n; rows = without_own g; call = c }) ≡ interests_due cmp matching j f (record { gateway = n; rows = g; call = c })
  unfolding held_south is_target
  due_shown j f n g (Interest k id mode options e) = ap (λ is. if not (j == n) then [] else is) (cases (find_face k g) (find_face f.number g))
    where
      Kept : Face K → InterestRow K
      Kept from = interest_kept from mode options e

      cases : (o p : Option (Face K))
          → (let is : List (InterestRow K) = elim o [ None ↦ [] | Some from ↦ elim p [ None ↦ [] | Some h ↦ if is_target (without_own g) from.region mode h then Kept from ∷ [] else [] ] ] in is)
          ≡ elim o [ None ↦ [] | Some from ↦ elim p [ None ↦ [] | Some h ↦ if is_target g from.region mode h then Kept from ∷ [] else [] ] ]
      cases None p = refl
      cases (Some from) None = refl
      cases (Some from) (Some h) = refl
  due_shown j f n g (NewSession first) = refl
  due_shown j f n g (NewTransport zid whatami region bound first) = refl
  due_shown j f n g (DeclareToken k id e nd interest) = refl
  due_shown j f n g (UndeclareToken k id given nd) = refl
  due_shown j f n g (InterestFinal k id) = refl
  due_shown j f n g (DeclareFinal k id) = refl
  due_shown j f n g (CloseFace k) = refl
  due_shown j f n g (Expire now) = refl
  due_shown j f n g (SetTrees region t) = refl
  due_shown j f n g (SetEntities k subscribers queryables) = refl

  nothing_by : (b : Bool) → (let none : List (InterestRow K) = [] in (if b then none else none) ≡ none)
  nothing_by true = refl
  nothing_by false = refl

  -- nothing is due to the faces of other gateways
  due_elsewhere : (j : ℕ) (f : Face K) (at : CallAt K) → j ≢ at.gateway → interests_due cmp matching j f at ≡ []
  due_elsewhere j f at apart = let miss : (j == at.gateway) ≡ false = ne_eqb j at.gateway apart in rw miss refl

  -- what calls send to a face
  abbrev Due : List (CallAt K) → ℕ → Rows K → Face K → List (Message K) → Type 0
  Due calls j g f ms = interests_in ms ≡ flat_map (interests_due cmp matching j f) calls

  due_by_one : (j : ℕ) (f : Face K) (at : CallAt K) (ms : List (Message K)) → interests_in ms ≡ interests_due cmp matching j f at → interests_in ms ≡ flat_map (interests_due cmp matching j f) (at ∷ [])
  due_by_one j f at ms is = is ∙ sym (append-nil (interests_due cmp matching j f at))

  -- ---- what an opening looks at

  abbrev View : Type 0
  View = WhatAmI × ℕ × List (InterestRow K)

  -- the mode of a gateway, how many faces it made, and what south-bound faces hold
  abbrev view : Node K → View
  view node = (node.rows.mode, node.rows.made, held_south cmp matching node.rows)

  abbrev Views : Fabric K → List View
  Views X = map view X.gateways

  views_shown : (gs : List (Node K)) → map view (map node_shown gs) ≡ map view gs
  unfolding held_south
  views_shown [] = refl
  views_shown (node ∷ gs) = ap (λ vs. view node ∷ vs) (views_shown gs)

  held_heard : (now : ℕ) (ms : Face K → List (Message K)) (g : Rows K) → held_south cmp matching (record g { faces = map (λ f. heard_all cmp now (ms f) f) g.faces }) ≡ held_south cmp matching g
  unfolding held_south
  held_heard now ms g =
      let holds = λ (f : Face K). if is_north f.region then [] else map (λ row. record row.1 { mode = CurrentFuture }) f.held in
      ap (in_key_order (interest_order cmp matching))
      (flat_map_map holds (λ f. heard_all cmp now (ms f) f) g.faces
      (each_always (λ f. holds (heard_all cmp now (ms f) f) ≡ holds f)
      (λ f.
      ap (λ r. if is_north r then [] else map (λ row. record row.1 { mode = CurrentFuture }) (heard_all cmp now (ms f) f).held) (heard_all-region cmp now (ms f) f)
      ∙ ap (λ (rows : ById (InterestRow K)). if is_north f.region then [] else map (λ row. record row.1 { mode = CurrentFuture }) rows) (heard_all-held cmp now (ms f) f))
      g.faces))

  views_heard : (s : Fabric K) (ms : List (Sent K)) (k : ℕ) (gs : List (Node K)) → map view (gateways_after_hearing cmp s ms k gs) ≡ map view gs
  unfolding gateways_after_hearing
  views_heard s ms k [] = refl
  views_heard s ms k (node ∷ gs) =
      let first : view (record node { rows = rows_after_hearing cmp s ms k node.rows }) ≡ view node = ap (λ is. (node.rows.mode, node.rows.made, is)) (held_heard node.rows.moment (λ f. printed_for (number_from 1 k f.number s.faces) ms) node.rows) in
      ap (λ v. v ∷ map view (gateways_after_hearing cmp s ms (k + 1) gs)) first ∙ ap (λ vs. view node ∷ vs) (views_heard s ms (k + 1) gs)

  -- a gateway makes a face
  abbrev with_made : View → View
  with_made v = (v.0, v.1 + 1, v.2)

  view_opened : (total : IsTotalOrder cmp) (zid : Zid) (whatami : WhatAmI) (region : Region) (bound : Bound) (first : ℕ) (node : Node K) → view (record node { rows = opened zid whatami region bound first node.rows }) ≡ with_made (view node)
  view_opened total zid whatami region bound first node = ap (λ is. (node.rows.mode, node.rows.made + 1, is)) (held_opened cmp matching total (face_opened zid whatami region bound first node.rows) node.rows refl)

  -- and so as a transcript shows it
  view_made : (total : IsTotalOrder cmp) (zid : Zid) (whatami : WhatAmI) (region : Region) (bound : Bound) (first : ℕ) (node : Node K) → view (record node { rows = with_new_transport zid whatami region bound first node.rows }) ≡ with_made (view node)
  view_made total zid whatami region bound first node =
      ap (λ (g : Rows K). view (record node { rows = g })) (sym (opened_is_made zid whatami region bound first node.rows)) ∙ view_opened total zid whatami region bound first node

  views_with : (change : Rows K → Rows K) → ((node : Node K) → view (record node { rows = change node.rows }) ≡ with_made (view node)) → (n : ℕ) (gs : List (Node K))
      → map view (at_nth n (λ (x : Node K). record x { rows = change x.rows }) gs) ≡ at_nth n with_made (map view gs)
  views_with change makes n [] = refl
  views_with change makes n (x ∷ gs) =
      by_test (n == 1)
      (λ here. rw here (ap (λ v. v ∷ map view gs) (makes x)))
      (λ here. rw here (ap (λ vs. view x ∷ vs) (views_with change makes (n - 1) gs)))

  views_opened : (total : IsTotalOrder cmp) (zid : Zid) (whatami : WhatAmI) (region : Region) (bound : Bound) (first n : ℕ) (gs : List (Node K))
      → map view (at_nth n (λ (x : Node K). record x { rows = opened zid whatami region bound first x.rows }) gs) ≡ at_nth n with_made (map view gs)
  views_opened total zid whatami region bound first n gs = views_with (opened zid whatami region bound first) (view_opened total zid whatami region bound first) n gs

  views_made : (total : IsTotalOrder cmp) (zid : Zid) (whatami : WhatAmI) (region : Region) (bound : Bound) (first n : ℕ) (gs : List (Node K))
      → map view (at_nth n (λ (x : Node K). record x { rows = with_new_transport zid whatami region bound first x.rows }) gs) ≡ at_nth n with_made (map view gs)
  views_made total zid whatami region bound first n gs = views_with (with_new_transport zid whatami region bound first) (view_made total zid whatami region bound first) n gs

  -- the calls at the ends of links, with their gateways
  calling : LinkEnd K → ℕ × Option (PlainCall K)
  calling end = (end.gateway, end_call end)

  abbrev Callings : List (LinkEnd K) → List (ℕ × Option (PlainCall K))
  Callings ends = map calling ends

  abbrev due_by_view : ℕ → Face K → ℕ → View → List (InterestRow K)
  due_by_view j f n v = if not (j == n) then [] else (if f.number == v.1 + 1 then (if leads_up v.0 f then v.2 else []) else [])

  abbrev dues : ℕ → Face K → List (CallAt K) → List (InterestRow K)
  dues j f calls = flat_map (interests_due cmp matching j f) calls

  abbrev called_dues : ℕ → Face K → Option (CallAt K) → List (InterestRow K)
  called_dues j f at = dues j f (option_to_list at)

  -- the call at an end, of two fabrics that look alike
  called_alike : (total : IsTotalOrder cmp) (j : ℕ) (f : Face K) (n : ℕ) (zid : Zid) (whatami : WhatAmI) (region : Region) (bound : Bound) (first : ℕ) (X Y : Fabric K) → Views X ≡ Views Y
      → (let c : PlainCall K = NewTransport zid whatami region bound first in
      (called_dues j f (call_at X n c) ≡ called_dues j f (call_at Y n c)) × (Views (with_opening cmp matching (call_at X n c) X) ≡ Views (with_opening cmp matching (call_at Y n c) Y)))
  unfolding rows_shown
  called_alike total j f n zid whatami region bound first X Y alike = cases (nth n X.gateways) (nth n Y.gateways) (sym (nth_map view n X.gateways) ∙ ap (nth n) alike ∙ nth_map view n Y.gateways)
    where
      c : PlainCall K
      c = NewTransport zid whatami region bound first

      viewed : Option (Node K) → Option View
      viewed o = elim o [ None ↦ None | Some x ↦ Some (view x) ]

      call : Option (Node K) → Option (CallAt K)
      call o = elim o [ None ↦ None | Some x ↦ Some (record { gateway = n; rows = x.rows; call = c }) ]

      cases : (o p : Option (Node K)) → viewed o ≡ viewed p → (called_dues j f (call o) ≡ called_dues j f (call p)) × (Views (with_opening cmp matching (call o) X) ≡ Views (with_opening cmp matching (call p) Y))
      cases None None is = (refl, alike)
      cases None (Some y) is = cc
      cases (Some x) None is = cc
      cases (Some x) (Some y) is =
          let same_ : view x ≡ view y = cc in (
            ap (λ v. due_by_view j f n v ++ []) same_,
            views_made total zid whatami region bound first n X.gateways ∙ ap (at_nth n with_made) alike ∙ sym (views_made total zid whatami region bound first n Y.gateways),
          )

  openings_alike : (total : IsTotalOrder cmp) (j : ℕ) (f : Face K) (ends others : List (LinkEnd K)) (X Y : Fabric K) → Callings ends ≡ Callings others → Views X ≡ Views Y → dues j f (openings cmp matching ends X) ≡ dues j f (openings cmp matching others Y)
  unfolding openings calling
  openings_alike total j f [] [] X Y same_ alike = refl
  openings_alike total j f [] (other ∷ others) X Y same_ alike = cc
  openings_alike total j f (end ∷ ends) [] X Y same_ alike = cc
  openings_alike total j f (end ∷ ends) (other ∷ others) X Y same_ alike =
      let pair : calling end ≡ calling other = cc in
      let rest : Callings ends ≡ Callings others = cc in
      let at = opening_at cmp matching X end in
      let at_ = opening_at cmp matching Y other in
      let there : at_ ≡ call_by Y end.gateway (end_call end) = sym (ap (λ (p : ℕ × Option (PlainCall K)). call_by Y p.0 p.1) pair) in
      let both : (called_dues j f at ≡ called_dues j f (call_by Y end.gateway (end_call end))) × (Views (with_opening cmp matching at X) ≡ Views (with_opening cmp matching (call_by Y end.gateway (end_call end)) Y)) =
      by_end cmp matching (λ c. (called_dues j f (call_by X end.gateway c) ≡ called_dues j f (call_by Y end.gateway c)) × (Views (with_opening cmp matching (call_by X end.gateway c) X) ≡ Views (with_opening cmp matching (call_by Y end.gateway c) Y))) end
      (refl, alike) (λ zid whatami region bound. called_alike total j f end.gateway zid whatami region bound end.first X Y alike) in
      flat_map-append (interests_due cmp matching j f) (option_to_list at) (openings cmp matching ends (with_opening cmp matching at X))
      ∙ ap (λ is. is ++ dues j f (openings cmp matching ends (with_opening cmp matching at X))) (both.0 ∙ ap (called_dues j f) (sym there))
      ∙ ap (λ is. called_dues j f at_ ++ is) (openings_alike total j f ends others (with_opening cmp matching at X) (with_opening cmp matching at_ Y) rest (both.1 ∙ ap (λ o. Views (with_opening cmp matching o Y)) (sym there)))
      ∙ sym (flat_map-append (interests_due cmp matching j f) (option_to_list at_) (openings cmp matching others (with_opening cmp matching at_ Y)))
    where
      call_by : Fabric K → ℕ → Option (PlainCall K) → Option (CallAt K)
      call_by Z n o = elim o [ None ↦ None | Some call ↦ call_at Z n call ]

  callings_shown : (s : Fabric K) (one two first back : ℕ) → Callings (link_ends (as_shown s) one two first back) ≡ Callings (link_ends s one two first back)
  unfolding end_region calling
  callings_shown s one two first back =
      ap (λ (o : Option (Node K)). ends o (nth two (map node_shown s.gateways))) (nth_map node_shown one s.gateways)
      ∙ ap (λ (o : Option (Node K)). ends (shown (nth one s.gateways)) o) (nth_map node_shown two s.gateways)
      ∙ cases (nth one s.gateways) (nth two s.gateways)
    where
      ends : Option (Node K) → Option (Node K) → List (ℕ × Option (PlainCall K))
      ends a b =
          Callings (elim a [
            | None ↦ []
            | Some a ↦
                elim b [
                  | None ↦ []
                  | Some b ↦ record { gateway = one; node = a; beyond = two; other = b; first = first } ∷ record { gateway = two; node = b; beyond = one; other = a; first = back } ∷ []
                ]
          ])

      shown : Option (Node K) → Option (Node K)
      shown o = elim o [ None ↦ None | Some node ↦ Some (node_shown node) ]

      cases : (a b : Option (Node K)) → ends (shown a) (shown b) ≡ ends a b
      cases None b = refl
      cases (Some a) None = refl
      cases (Some a) (Some b) = refl

  -- ---- single calls

  heard_bound : (now : ℕ) (m : Message K) (f : Face K) → (heard cmp now m f).bound ≡ f.bound
  heard_bound now (message.DeclareToken id e interest node) f = refl
  heard_bound now (message.UndeclareToken id e node) f = refl
  heard_bound now (message.DeclareFinal interest) f = refl
  heard_bound now (message.Interest id mode options e) f = refl
  heard_bound now (message.InterestFinal id) f = refl
  heard_bound now (message.DeclareSubscriber id e interest) f = refl
  heard_bound now (message.DeclareQueryable id e info interest) f = refl

  bound_heard : (now : ℕ) (ms : List (Message K)) (f : Face K) → (heard_all cmp now ms f).bound ≡ f.bound
  bound_heard now ms f = heard_all_leaves cmp (λ f. f.bound) heard_bound now ms f

  -- what a call sends that opens no face goes by the face's number
  due_by_number : (j : ℕ) (f h : Face K) (at : CallAt K) → opens_face at.call ≡ false → f.number ≡ h.number → interests_due cmp matching j f at ≡ interests_due cmp matching j h at
  due_by_number j f h at still number_ = by_kind at.gateway at.rows at.call still ∙ ap (λ k. interests_due cmp matching j (record h { number = k }) at) number_
    where
      by_kind : (n : ℕ) (g : Rows K) (c : PlainCall K) → opens_face c ≡ false → interests_due cmp matching j f (record { gateway = n; rows = g; call = c }) ≡ interests_due cmp matching j (record h { number = f.number }) (record { gateway = n; rows = g; call = c })
      by_kind n g (NewSession first) still = refl
      by_kind n g (NewTransport zid whatami region bound first) still = never refl still
      by_kind n g (DeclareToken k id e node interest) still = refl
      by_kind n g (UndeclareToken k id given node) still = refl
      by_kind n g (Interest k id mode options e) still = refl
      by_kind n g (InterestFinal k id) still = refl
      by_kind n g (DeclareFinal k id) still = refl
      by_kind n g (CloseFace k) still = refl
      by_kind n g (Expire now) still = refl
      by_kind n g (SetTrees region t) still = refl
      by_kind n g (SetEntities k subscribers queryables) still = refl

  module _ (total : IsTotalOrder cmp) (equal_is_same : (a b : K) → cmp a b ≡ Equal → a ≡ b) where
    -- where a call isn't made, nothing is due
    due_at_others : (n : ℕ) (node : Node K) (c : PlainCall K) (gs : List (Node K)) → EachFrom (λ j (x : Node K). j ≢ n → Each (λ f. Due (Shown n node c ∷ []) j x.rows f []) x.rows.faces) 1 gs
    due_at_others n node c gs =
        each_from_always (λ j (x : Node K). j ≢ n → Each (λ f. Due (Shown n node c ∷ []) j x.rows f []) x.rows.faces)
        (λ j x apart. each_always (λ f. Due (Shown n node c ∷ []) j x.rows f []) (λ f. due_by_one j f (Shown n node c) [] (sym (due_elsewhere j f (Shown n node c) apart))) x.rows.faces) 1 gs

    called_due : (n : ℕ) (node : Node K) (c : PlainCall K) (s : Fabric K) → nth n s.gateways ≡ Some node → opens_face c ≡ false → FabricIsInOrder cmp matching s
        → FacesHave (Due (Shown n node c ∷ [])) s.faces (messages_at cmp matching s.faces n c node) (with_rows n (rows_after_call cmp matching c) s).gateways
    unfolding rows_heard
    called_due n node c s at_ still fine =
        let g = node.rows in
        let ss = said cmp matching c g in
        let gateway = gateway_in_order cmp matching s n node at_ fine in
        let placed = altered_faces cmp matching total (λ k. is_placed n k s.faces ≡ true) c g still gateway.rows.lists gateway.placed in
        let by_number = λ (k : ℕ). (f : Face K) → f.number ≡ k → Due (Shown n node c ∷ []) n g f (messages_for k ss) in
        let own = altered_faces cmp matching total by_number c g still gateway.rows.lists
        (each_weaker (λ f. interests_in (messages_for f.number ss) ≡ interests_due cmp matching n f (record { gateway = n; rows = g; call = c })) (λ f. by_number f.number)
        (λ f one h number_. due_by_one n h (Shown n node c) (messages_for f.number ss) (one ∙ sym (due_shown n f n node.rows c) ∙ due_by_number n f h (Shown n node c) still (sym number_))) g.faces (call_sends cmp matching total equal_is_same n c g still gateway.rows)) in
        faces_called (Due (Shown n node c ∷ [])) n node (rows_after_call cmp matching c) s.faces ss (messages_at cmp matching s.faces n c node) s.gateways (prints_sorted s.faces n ss) at_
        (heard_faces_placed cmp matching s.faces n ss (altered cmp matching c g) placed.0)
        (each_map (λ f. Due (Shown n node c ∷ []) n g f (messages_for f.number ss)) (λ f. heard_all cmp (altered cmp matching c g).moment (messages_for f.number ss) f) (altered cmp matching c g).faces
        (each_weaker (λ f. by_number f.number) (λ f. (let h = heard_all cmp (altered cmp matching c g).moment (messages_for f.number ss) f in Due (Shown n node c ∷ []) n g h (messages_for h.number ss)))
        (λ f one.
        let h = heard_all cmp (altered cmp matching c g).moment (messages_for f.number ss) f in
        subst (λ k. Due (Shown n node c ∷ []) n g h (messages_for k ss)) (sym (heard_all-number cmp (altered cmp matching c g).moment (messages_for f.number ss) f))
        (one h (heard_all-number cmp (altered cmp matching c g).moment (messages_for f.number ss) f))) (altered cmp matching c g).faces own.0))
        (faces_placed cmp matching s fine) (due_at_others n node c s.gateways)

    -- the face that a transport's call opens is sent what is due, before and after its messages are heard
    opened_due : (n : ℕ) (node : Node K) (zid : Zid) (whatami : WhatAmI) (region : Region) (bound : Bound) (first : ℕ) (s : Fabric K) (ms : List (Sent K)) → nth n s.gateways ≡ Some node → 1 ≤ first → FabricIsInOrder cmp matching s
        → (let c : PlainCall K = NewTransport zid whatami region bound first in
        PrintsSends (with_place n s).faces n (said cmp matching c node.rows) ms
        → FacesHave (Due (Shown n node c ∷ [])) (with_place n s).faces ms (with_rows n (altered cmp matching c) s).gateways
        × FacesHave (Due (Shown n node c ∷ [])) (with_place n s).faces ms (with_rows n (rows_after_call cmp matching c) s).gateways)
    unfolding parts_of altered_by rows_heard
    opened_due n node zid whatami region bound first s ms at_ real fine prints =
        let c : PlainCall K = NewTransport zid whatami region bound first in
        let g = node.rows in
        let ss = said cmp matching c g in
        let gateway = gateway_in_order cmp matching s n node at_ fine in
        let p : Place = record { gateway = n; face = next_face (nth n s.gateways) } in
        let places = s.faces ++ p ∷ [] in
        let p_face : p.face ≡ g.made + 1 = ap next_face at_ in
        let new_ : is_placed n (g.made + 1) places ≡ true = subst (λ k. is_placed n k places ≡ true) p_face (placed_new n p.face s.faces) in
        let placed = opened_faces cmp matching total (λ k. is_placed n k places ≡ true) c g refl new_ (each_weaker (λ f. is_placed n f.number s.faces ≡ true) (λ f. is_placed n f.number places ≡ true) (λ f there. placed_still n f.number s.faces p there) g.faces gateway.placed) in
        let one = opened zid whatami region bound first g in
        let own = each_weaker (λ f. interests_in (messages_for f.number ss) ≡ interests_due cmp matching n f (record { gateway = n; rows = g; call = c })) (λ f. Due (Shown n node c ∷ []) n one f (messages_for f.number ss))
        (λ f sends. due_by_one n f (Shown n node c) (messages_for f.number ss) (sends ∙ sym (due_shown n f n node.rows c))) one.faces (opening_sends cmp matching total equal_is_same n zid whatami region bound first g real gateway.rows) in
        let others = due_at_others n node c s.gateways in
        let all_placed = faces_still_placed cmp matching p s fine in (
          faces_called (Due (Shown n node c ∷ [])) n node (altered cmp matching c) places ss ms s.gateways prints at_ placed.0 own all_placed others,
          faces_called (Due (Shown n node c ∷ [])) n node (rows_after_call cmp matching c) places ss ms s.gateways prints at_
              (heard_faces_placed cmp matching places n ss one placed.0)
              (each_map (λ f. Due (Shown n node c ∷ []) n one f (messages_for f.number ss)) (λ f. heard_all cmp one.moment (messages_for f.number ss) f) one.faces
              (each_weaker (λ f. Due (Shown n node c ∷ []) n one f (messages_for f.number ss)) (λ f. (let h = heard_all cmp one.moment (messages_for f.number ss) f in Due (Shown n node c ∷ []) n one h (messages_for h.number ss)))
              (λ f due.
              let number_ = heard_all-number cmp one.moment (messages_for f.number ss) f in
              let h = heard_all cmp one.moment (messages_for f.number ss) f in
              subst (λ k. Due (Shown n node c ∷ []) n one h (messages_for k ss)) (sym number_)
              (due ∙ ap (λ is. is ++ []) (due_alike n f h (Shown n node c) (sym number_) (sym (heard_all-region cmp one.moment (messages_for f.number ss) f)) (sym (bound_heard one.moment (messages_for f.number ss) f)))))
              one.faces own))
              all_placed others,
        )

    -- ---- the two calls of a link

    -- the face that a call opens was made before the gateway's next one
    abbrev Above : List (CallAt K) → List (Node K) → Type 0
    Above calls gs = EachFrom (λ j (x : Node K). Each (λ at. j ≡ at.gateway → at.rows.made + 1 ≤ x.rows.made) calls) 1 gs

    none_due_above : (j : ℕ) (f : Face K) (made : ℕ) (calls : List (CallAt K)) → f.number ≡ made + 1 → Each (λ at. opens_face at.call ≡ true) calls → Each (λ at. j ≡ at.gateway → at.rows.made + 1 ≤ made) calls → dues j f calls ≡ []
    none_due_above j f made [] number_ opens above = refl
    none_due_above j f made (at ∷ calls) number_ opens above = ap (λ is. is ++ dues j f calls) (by_test (j == at.gateway) own (λ apart. rw apart refl)) ∙ none_due_above j f made calls number_ opens.1 above.1
      where
        by_kind : (n : ℕ) (g : Rows K) (c : PlainCall K) → opens_face c ≡ true → (f.number == g.made + 1) ≡ false → interests_due cmp matching j f (record { gateway = n; rows = g; call = c }) ≡ []
        by_kind n g (NewSession first) opens_ miss = nothing_by (not (j == n))
        by_kind n g (NewTransport zid whatami region bound first) opens_ miss = rw miss (nothing_by (not (j == n)))
        by_kind n g (DeclareToken k id e node interest) opens_ miss = never opens_ refl
        by_kind n g (UndeclareToken k id given node) opens_ miss = never opens_ refl
        by_kind n g (Interest k id mode options e) opens_ miss = never opens_ refl
        by_kind n g (InterestFinal k id) opens_ miss = never opens_ refl
        by_kind n g (DeclareFinal k id) opens_ miss = never opens_ refl
        by_kind n g (CloseFace k) opens_ miss = never opens_ refl
        by_kind n g (Expire now) opens_ miss = never opens_ refl
        by_kind n g (SetTrees region t) opens_ miss = never opens_ refl
        by_kind n g (SetEntities k subscribers queryables) opens_ miss = never opens_ refl

        own : (j == at.gateway) ≡ true → interests_due cmp matching j f at ≡ []
        own here =
            let up : at.rows.made + 1 ≤ made = above.0 (eqb-true j at.gateway here) in
            by_kind at.gateway at.rows at.call opens.0 (ne_eqb f.number (at.rows.made + 1) (λ e. omega arith))

    abbrev Openings : List (CallAt K) → Type 0
    Openings calls = Each (λ at. opens_face at.call ≡ true) calls

    -- another end is opened
    end_still : (end : LinkEnd K) (calls : List (CallAt K)) (ms : List (Sent K)) (X : Fabric K) → FabricIsInOrder cmp matching X → Each (λ m. m.face ≤ length X.faces) ms → Openings calls → Above calls X.gateways → FacesHave (Due calls) X.faces ms X.gateways
        → (let Y = opened_at cmp matching (opening_at cmp matching X end) X in Above calls Y.gateways × FacesHave (Due calls) Y.faces ms Y.gateways)
    unfolding parts_of altered_by
    end_still end calls ms X fine within opens above all =
        by_end cmp matching (λ c. (let Y = opened_at cmp matching (elim c [ None ↦ None | Some call ↦ call_at X end.gateway call ]) X in Above calls Y.gateways × FacesHave (Due calls) Y.faces ms Y.gateways)) end (above, all)
        (λ zid whatami region bound.
        let c : PlainCall K = NewTransport zid whatami region bound end.first in
        called_at (λ at. (let Y = opened_at cmp matching at X in Above calls Y.gateways × FacesHave (Due calls) Y.faces ms Y.gateways)) X end.gateway c (above, all)
        (λ node at_.
        let n = end.gateway in
        let change = opened zid whatami region bound end.first in
        let new_ = face_opened zid whatami region bound end.first node.rows in
        let own : Each (λ at. n ≡ at.gateway → at.rows.made + 1 ≤ node.rows.made) calls = each_from_nth (λ j (x : Node K). Each (λ at. j ≡ at.gateway → at.rows.made + 1 ≤ x.rows.made) calls) 1 n n X.gateways node (omega arith) above at_ in (
          each_from_at (λ j (x : Node K). Each (λ at. j ≡ at.gateway → at.rows.made + 1 ≤ x.rows.made) calls) (λ j (x : Node K). Each (λ at. j ≡ at.gateway → at.rows.made + 1 ≤ x.rows.made) calls) (λ (x : Node K). record x { rows = change x.rows }) 1 n n X.gateways (nth_real n X.gateways node at_) (omega arith)
              (λ j x apart low. low)
              (λ x is low. each_weaker (λ at. n ≡ at.gateway → at.rows.made + 1 ≤ x.rows.made) (λ at. n ≡ at.gateway → at.rows.made + 1 ≤ x.rows.made + 1) (λ at up same_. let le : at.rows.made + 1 ≤ x.rows.made = up same_ in omega arith) calls low) above,
          faces_still cmp matching (Due calls) n node change new_ ms X at_ fine refl refl (λ f xs due. due) (sym (none_due_above n new_ node.rows.made calls refl opens own)) within all,
        )))

    ends_still : (ends : List (LinkEnd K)) (calls : List (CallAt K)) (ms : List (Sent K)) (X : Fabric K) → Each (λ end. 1 ≤ end.first) ends → FabricIsInOrder cmp matching X → Each (λ m. m.face ≤ length X.faces) ms → Openings calls → Above calls X.gateways → FacesHave (Due calls) X.faces ms X.gateways
        → (let Y = opened_ends cmp matching ends X in FacesHave (Due calls) Y.faces ms Y.gateways)
    unfolding opened_ends
    ends_still [] calls ms X real fine within opens above all = all
    ends_still (end ∷ ends) calls ms X real fine within opens above all =
        let Y = opened_at cmp matching (opening_at cmp matching X end) X in
        let alone = end_alone cmp matching total end X real.0 fine in
        let up : length X.faces ≤ length Y.faces = alone.1 in
        let still = end_still end calls ms X fine within opens above all in
        ends_still ends calls ms Y real.1 alone.0 (each_weaker (λ m. m.face ≤ length X.faces) (λ m. m.face ≤ length Y.faces) (λ m low. le_trans low up) ms within) opens still.0 still.1

    none_printed : (X : Fabric K) → FacesHave (Due []) X.faces [] X.gateways
    none_printed X = faces_hear_nothing (Due []) X.faces X.gateways (each_from_always (λ j (x : Node K). Each (λ f. Due [] j x.rows f []) x.rows.faces) (λ j x. each_always (λ f. Due [] j x.rows f []) (λ f. refl) x.rows.faces) 1 X.gateways)

    -- the call that opens a face, as a transcript shows it
    abbrev shown_at : Option (CallAt K) → List (CallAt K)
    shown_at o = option_to_list (call_shown o)

    -- one end is opened, and is sent what is due
    end_due : (end : LinkEnd K) (X : Fabric K) → 1 ≤ end.first → FabricIsInOrder cmp matching X
        → (let at = opening_at cmp matching X end in
        let Y = opened_at cmp matching at X in
        Openings (shown_at at) × Above (shown_at at) Y.gateways × FacesHave (Due (shown_at at)) Y.faces (said_at cmp matching Y at) Y.gateways)
    unfolding parts_of altered_by
    end_due end X real fine =
        by_end cmp matching (λ c. (let at : Option (CallAt K) = elim c [ None ↦ None | Some call ↦ call_at X end.gateway call ] in Opened at)) end nothing
        (λ zid whatami region bound.
        let c : PlainCall K = NewTransport zid whatami region bound end.first in
        called_at Opened X end.gateway c nothing
        (λ node at_.
        let n = end.gateway in (
          (refl, tt),
          each_from_at (λ j (x : Node K). Unit {0}) (λ j (x : Node K). (j ≡ n → node.rows.made + 1 ≤ x.rows.made) × Unit {0}) (λ (x : Node K). record x { rows = opened zid whatami region bound end.first x.rows }) 1 n n X.gateways (nth_real n X.gateways node at_) (omega arith)
              (λ j x apart _. ((λ is. absurd (apart is)), tt))
              (λ x is _.
              let e : Some node ≡ Some x = sym at_ ∙ is in
              let same_ : node ≡ x = cc in
              ((λ _. subst (λ (y : Node K). node.rows.made + 1 ≤ y.rows.made + 1) same_ (le_refl (node.rows.made + 1))), tt))
              (each_from_always (λ j (x : Node K). Unit {0}) (λ j x. tt) 1 X.gateways),
          (opened_due n node zid whatami region bound end.first X (map (printed_at (with_place n X).faces n) (said cmp matching c node.rows)) at_ real fine (prints_map (with_place n X).faces n (said cmp matching c node.rows))).0,
        )))
      where
        Opened : Option (CallAt K) → Type 0
        Opened at = (let Y = opened_at cmp matching at X in Openings (shown_at at) × Above (shown_at at) Y.gateways × FacesHave (Due (shown_at at)) Y.faces (said_at cmp matching Y at) Y.gateways)

        nothing : Opened None
        nothing = (tt, each_from_always (λ j (x : Node K). Unit {0}) (λ j x. tt) 1 X.gateways, none_printed X)

    -- what is heard changes nothing that is due
    due_heard : (calls : List (CallAt K)) (s : Fabric K) (places : List Place) (ms ns : List (Sent K)) (k : ℕ) (gs : List (Node K))
        → (EachFrom (λ j (x : Node K). Each (λ f. Due calls j x.rows f (printed_for (number_from 1 j f.number places) ns)) x.rows.faces) k gs → EachFrom (λ j (x : Node K). Each (λ f. Due calls j x.rows f (printed_for (number_from 1 j f.number places) ns)) x.rows.faces) k (gateways_after_hearing cmp s ms k gs))
        × (EachFrom (λ j (x : Node K). Each (λ f. Due calls j x.rows f (printed_for (number_from 1 j f.number places) ns)) x.rows.faces) k (gateways_after_hearing cmp s ms k gs) → EachFrom (λ j (x : Node K). Each (λ f. Due calls j x.rows f (printed_for (number_from 1 j f.number places) ns)) x.rows.faces) k gs)
    unfolding gateways_after_hearing
    due_heard calls s places ms ns k [] = ((λ all. all), (λ all. all))
    due_heard calls s places ms ns k (x ∷ gs) =
        let rest = due_heard calls s places ms ns (k + 1) gs in (
          (λ all. (each_map Own hears x.rows.faces (each_weaker Own (λ f. Own (hears f)) (λ f own. subst Held (sym (same_ f)) own) x.rows.faces all.0), rest.0 all.1)),
          (λ all. (each_weaker (λ f. Own (hears f)) Own (λ f own. subst Held (same_ f) own) x.rows.faces (each_of_map Own hears x.rows.faces all.0), rest.1 all.1)),
        )
      where
        hears : Face K → Face K
        hears f = heard_all cmp x.rows.moment (printed_for (number_from 1 k f.number s.faces) ms) f

        Own : Face K → Type 0
        Own f = interests_in (printed_for (number_from 1 k f.number places) ns) ≡ dues k f calls

        Held : List (InterestRow K) × List (InterestRow K) → Type 0
        Held p = p.0 ≡ p.1

        both : Face K → List (InterestRow K) × List (InterestRow K)
        both f = (interests_in (printed_for (number_from 1 k f.number places) ns), dues k f calls)

        dues_same : (f : Face K) (cs : List (CallAt K)) → dues k (hears f) cs ≡ dues k f cs
        dues_same f [] = refl
        dues_same f (at ∷ cs) =
            let ps = printed_for (number_from 1 k f.number s.faces) ms in
            ap (λ is. is ++ dues k (hears f) cs) (due_alike k (hears f) f at (heard_all-number cmp x.rows.moment ps f) (heard_all-region cmp x.rows.moment ps f) (bound_heard x.rows.moment ps f)) ∙ ap (λ is. interests_due cmp matching k f at ++ is) (dues_same f cs)

        same_ : (f : Face K) → both (hears f) ≡ both f
        same_ f =
            ap (λ n. (interests_in (printed_for (number_from 1 k n places) ns), dues k (hears f) calls)) (heard_all-number cmp x.rows.moment (printed_for (number_from 1 k f.number s.faces) ms) f)
            ∙ ap (λ is. (interests_in (printed_for (number_from 1 k f.number places) ns), is)) (dues_same f calls)

    called_shown : (j : ℕ) (f : Face K) (at : Option (CallAt K)) → dues j f (shown_at at) ≡ called_dues j f at
    called_shown j f None = refl
    called_shown j f (Some at) = ap (λ is. is ++ []) (due_shown j f at.gateway at.rows at.call)

    opened_views : (end : LinkEnd K) (X : Fabric K) → (let at = opening_at cmp matching X end in Views (opened_at cmp matching at X) ≡ Views (with_opening cmp matching at X))
    unfolding rows_shown parts_of altered_by
    opened_views end X =
        by_end cmp matching (λ c. (let at : Option (CallAt K) = elim c [ None ↦ None | Some call ↦ call_at X end.gateway call ] in Views (opened_at cmp matching at X) ≡ Views (with_opening cmp matching at X))) end refl
        (λ zid whatami region bound. called_at (λ at. Views (opened_at cmp matching at X) ≡ Views (with_opening cmp matching at X)) X end.gateway (NewTransport zid whatami region bound end.first) refl
        (λ node at_. views_opened total zid whatami region bound end.first end.gateway X.gateways ∙ sym (views_made total zid whatami region bound end.first end.gateway X.gateways)))

    -- both ends are opened, and are sent what is due
    ends_due : (ends : List (LinkEnd K)) (X : Fabric K) → Each (λ end. 1 ≤ end.first) ends → FabricIsInOrder cmp matching X
        → (let Z = opened_ends cmp matching ends X in FacesHave (Due (openings cmp matching ends X)) Z.faces (said_opening cmp matching ends X) Z.gateways)
    unfolding opened_ends said_opening openings
    ends_due [] X real fine = none_printed X
    ends_due (end ∷ ends) X real fine =
        let at = opening_at cmp matching X end in
        let Y = opened_at cmp matching at X in
        let ms = said_at cmp matching Y at in
        let H = after_hearing cmp ms Y in
        let Z = opened_ends cmp matching ends Y in
        let ns = said_opening cmp matching ends H in
        let alone = end_alone cmp matching total end X real.0 fine in
        let within = said_within cmp matching total end X in
        let one = end_due end X real.0 fine in
        let still = ends_still ends (shown_at at) ms Y real.1 alone.0 within one.0 one.1 one.2 in
        let later : FacesHave (Due (openings cmp matching ends H)) Z.faces ns (after_hearing cmp ms Z).gateways =
        subst (λ (t : Fabric K). FacesHave (Due (openings cmp matching ends H)) t.faces ns t.gateways) (sym (ends_commute cmp matching total ends ms Y real.1 alone.0 within)) (ends_due ends H real.1 (end_in_order cmp matching total end X real.0 fine)) in
        let unheard = (due_heard (openings cmp matching ends H) Z Z.faces ms ns 1 Z.gateways).1 later in
        each_from_both (λ j (x : Node K). Each (λ f. Due (shown_at at) j x.rows f (printed_for (number_from 1 j f.number Z.faces) ms)) x.rows.faces) (λ j (x : Node K). Each (λ f. Due (openings cmp matching ends H) j x.rows f (printed_for (number_from 1 j f.number Z.faces) ns)) x.rows.faces)
        (λ j (x : Node K). Each (λ f. Due (option_to_list at ++ openings cmp matching ends (with_opening cmp matching at X)) j x.rows f (printed_for (number_from 1 j f.number Z.faces) (ms ++ ns))) x.rows.faces)
        (λ j x a b.
        each_both (λ f. Due (shown_at at) j x.rows f (printed_for (number_from 1 j f.number Z.faces) ms)) (λ f. Due (openings cmp matching ends H) j x.rows f (printed_for (number_from 1 j f.number Z.faces) ns)) (λ f. Due (option_to_list at ++ openings cmp matching ends (with_opening cmp matching at X)) j x.rows f (printed_for (number_from 1 j f.number Z.faces) (ms ++ ns)))
        (λ f first next. both_due j f (number_from 1 j f.number Z.faces) first next) x.rows.faces a b)
        1 Z.gateways still unheard
      where
        at : Option (CallAt K)
        at = opening_at cmp matching X end

        Y : Fabric K
        Y = opened_at cmp matching at X

        ms : List (Sent K)
        ms = said_at cmp matching Y at

        H : Fabric K
        H = after_hearing cmp ms Y

        ns : List (Sent K)
        ns = said_opening cmp matching ends H

        both_due : (j : ℕ) (f : Face K) (k : ℕ) → interests_in (printed_for k ms) ≡ dues j f (shown_at at) → interests_in (printed_for k ns) ≡ dues j f (openings cmp matching ends H)
            → interests_in (printed_for k (ms ++ ns)) ≡ dues j f (option_to_list at ++ openings cmp matching ends (with_opening cmp matching at X))
        both_due j f k first next =
            ap interests_in (printed_for-append k ms ns)
            ∙ in-append (printed_for k ms) (printed_for k ns)
            ∙ ap (λ is. is ++ interests_in (printed_for k ns)) (first ∙ called_shown j f at)
            ∙ ap (λ is. called_dues j f at ++ is) (next ∙ openings_alike total j f ends ends H (with_opening cmp matching at X) refl (views_heard Y ms 1 Y.gateways ∙ opened_views end X))
            ∙ sym (flat_map-append (interests_due cmp matching j f) (option_to_list at) (openings cmp matching ends (with_opening cmp matching at X)))

    -- ---- closing

    closed_none : (fs : List ℕ) (X : Fabric K) → Each (λ m. MakesNoPending m.message) (said_closing cmp matching fs X)
    unfolding said_closing
    closed_none [] X = tt
    closed_none (face ∷ fs) X =
        let at = closing_call X face in
        each_append (λ m. MakesNoPending m.message) (said_at cmp matching X at) (said_closing cmp matching fs (after_hearing cmp (said_at cmp matching X at) (altered_at cmp matching X at)))
        (closing_case cmp matching (λ o. Each (λ m. MakesNoPending m.message) (said_at cmp matching X o)) X face tt
        (λ n k node at_. each_map (λ m. MakesNoPending m.message) (printed_at X.faces n) (said cmp matching (CloseFace k) node.rows) (undrawn_none cmp matching total equal_is_same (CloseFace k) node.rows refl)))
        (closed_none fs (after_hearing cmp (said_at cmp matching X at) (altered_at cmp matching X at)))

    printed_none : (k : ℕ) (ms : List (Sent K)) → Each (λ m. MakesNoPending m.message) ms → Each MakesNoPending (printed_for k ms)
    unfolding printed_for
    printed_none k [] none_ = tt
    printed_none k (m ∷ ms) none_ = of_cond (Each MakesNoPending) (k == m.face) (m.message ∷ printed_for k ms) (printed_for k ms) (λ _. (none_.0, printed_none k ms none_.1)) (λ _. printed_none k ms none_.1)

    -- a closing sends no interest
    closings_due : (j : ℕ) (f : Face K) (s : Fabric K) (fs : List ℕ) → dues j f (flat_map (λ face. option_to_list (closing_call s face)) fs) ≡ []
    closings_due j f s [] = refl
    closings_due j f s (face ∷ fs) =
        flat_map-append (interests_due cmp matching j f) (option_to_list (closing_call s face)) (flat_map (λ k. option_to_list (closing_call s k)) fs)
        ∙ ap (λ is. is ++ dues j f (flat_map (λ k. option_to_list (closing_call s k)) fs))
        (closing_case cmp matching (λ o. dues j f (option_to_list o) ≡ []) s face refl (λ n k node at_. ap (λ is. is ++ []) (nothing_by (not (j == n)))))
        ∙ closings_due j f s fs

    -- ---- turns

    abbrev Comes : Fabric K → List (CallAt K) → List (Sent K) → List Place → List (Node K) → List (Node K) → Type 0
    Comes s calls ms places ws gs = FacesHave (Due calls) places ms gs

    link_due : (one two first back : ℕ) (s : Fabric K) → 1 ≤ first → 1 ≤ back → FabricIsInOrder cmp matching s
        → (let ends = link_ends s one two first back in
        let X = opened_ends cmp matching ends s in
        let ms = sorted_by_face (said_opening cmp matching ends s) in
        FacesHave (Due (openings cmp matching (link_ends (as_shown s) one two first back) (as_shown s))) X.faces ms (after_hearing cmp ms X).gateways)
    unfolding gateways_after_hearing
    link_due one two first back s real real_back fine =
        let ends = link_ends s one two first back in
        let X = opened_ends cmp matching ends s in
        let ns = said_opening cmp matching ends s in
        let ms = sorted_by_face ns in
        let calls = openings cmp matching ends s in
        let calls_ = openings cmp matching (link_ends (as_shown s) one two first back) (as_shown s) in
        let all = faces_sorted (Due calls) X.faces ns X.gateways (ends_due ends s (starts_real cmp matching s one two first back real real_back) fine) in
        let heard_ = (due_heard calls X X.faces ms ms 1 X.gateways).0 all in
        faces_weaker (Due calls) (Due calls_) X.faces ms
        (λ j g f xs due. due ∙ sym (openings_alike total j f (link_ends (as_shown s) one two first back) ends (as_shown s) s (callings_shown s one two first back) (views_shown s.gateways))) 1 (after_hearing cmp ms X).gateways heard_

    upstream_of_calls : IsOfCalls cmp matching (λ s. Unit {0}) Comes
    upstream_of_calls = record {
      nothing = λ s fine _. none_printed s;
      gateway = λ mode zid regions timeout refused node s new_ fine _. none_printed (record s { gateways = s.gateways ++ node ∷ [] });
      call = λ spent n node c s at_ still accepted fine _. called_due n node c s at_ still fine;
      session = λ n first node s at_ real fine _.
          faces_hear_nothing (Due (Shown n node (NewSession first) ∷ [])) (with_place n s).faces (with_rows n (rows_after_call cmp matching (NewSession first)) s).gateways
          (each_from_always (λ j (x : Node K). Each (λ f. Due (Shown n node (NewSession first) ∷ []) j x.rows f []) x.rows.faces)
          (λ j x. each_always (λ f. Due (Shown n node (NewSession first) ∷ []) j x.rows f []) (λ f. due_by_one j f (Shown n node (NewSession first)) [] (sym (nothing_by (not (j == n))))) x.rows.faces) 1 (with_rows n (rows_after_call cmp matching (NewSession first)) s).gateways);
      transport = λ spent n node zid whatami region bound first s at_ real accepted fine _.
          (opened_due n node zid whatami region bound first s (messages_at cmp matching (with_place n s).faces n (NewTransport zid whatami region bound first) node) at_ real fine (prints_sorted (with_place n s).faces n (said cmp matching (NewTransport zid whatami region bound first) node.rows))).1;
      link = λ spent one two first back s real real_back accepted fine _. link_due one two first back s real real_back fine;
      unlink = λ n s fine _.
          let fs = both_ends cmp matching s n in
          let X = closed_ends cmp matching fs s in
          let ms = sorted_by_face (filter (λ m. not (list_any (λ face. face == m.face) fs)) (said_closing cmp matching fs s)) in
          let calls = flat_map (λ face. option_to_list (closing_call (as_shown s) face)) fs in
          let none_ = sorted_each (λ m. MakesNoPending m.message) (filter (λ m. not (list_any (λ face. face == m.face) fs)) (said_closing cmp matching fs s)) (each_filter (λ m. MakesNoPending m.message) (λ m. not (list_any (λ face. face == m.face) fs)) (said_closing cmp matching fs s) (closed_none fs s)) in
          faces_any (Due calls) X.faces ms (after_hearing cmp ms X).gateways (λ j k g f. none_in (printed_for k ms) (printed_none k ms none_) ∙ sym (closings_due j f (as_shown s) fs));
    }

    upstream_shown : (s : Fabric K) (t : Turn K) → FabricIsInOrder cmp matching s → Unit {0} → IsShownTurn cmp matching total (λ s. Unit {0}) Comes upstream_of_calls s t → SendsUpstream cmp matching t
    upstream_shown s t fine _ is =
        faces_shown (Due (calls_in cmp matching t)) (Due (calls_in cmp matching t)) (λ j g f xs due. due) is.changed.faces t.after.faces (printed t) (after_hearing cmp (printed t) is.changed).gateways t.after.gateways is.after_places is.after_gateways is.comes

    -- Each turn of a transcript sends upstream what is due.
    pub turns_send : (lines : List (PlainLine K)) (s : Fabric K) → Each HasFirstIds lines → FabricIsInOrder cmp matching s
        → Each (SendsUpstream cmp matching) (turns_from cmp matching lines (entries_from cmp matching lines s) (as_shown s))
    turns_send lines s real fine =
        turns_show cmp matching total (λ s. Unit {0}) Comes upstream_of_calls (SendsUpstream cmp matching) upstream_shown (λ line x first ordered _. tt) lines s real fine tt
