-- After each turn of a transcript, what faces were sent upstream is what south-bound faces hold.
use Rattle.std.proofs.Common.{◌≡◌, ℕ, ◌+◌, ◌-◌, ◌≤◌, ◌==◌, Bool, true, false, not, ◌||◌, List, [], ◌∷◌, ◌++◌, map, filter, Option, Some, None, is_none, Ok, Err, refl, sym, ap, ◌∙◌, subst}
use Rattle.std.proofs.lemmas.Bool.{not-false}
use Rattle.std.specs.Cmp.{IsTotalOrder}
use Rattle.std.specs.List.{list_any}
use Rattle.std.specs.declared.cmp.Ordering.{Ordering}
use Rattle.zt_region.specs.declared.region.Bound.{Bound}
use Rattle.zt_region.specs.declared.region.Region.{Region}
use Rattle.zt_region.specs.declared.region.WhatAmI.{WhatAmI}
use Rattle.zt_region.specs.declared.region.WhatAmI.TheVariants.{Router}
use Rattle.zt_region.specs.declared.region.Zid.{Zid}
use Rattle.zt_region.specs.Region.{whatami_eq}
use Rattle.zt_region.specs.Tables.{RegionAnswer}
use Rattle.zt_protocol.specs.Plain.{PlainCall, NewSession, NewTransport, DeclareToken, UndeclareToken, Interest, InterestFinal, DeclareFinal, CloseFace, Expire, SetTrees, SetEntities, PlainLine, Link as LinkLine}
use Rattle.zt_protocol.specs.declared.entries.Sent.{Sent}
use Rattle.zt_model.specs.Fabric.{CallAt, Fabric, Node, Place, after_hearing, after_opening, at_nth, both_ends, line_causes, call_at, closed_ends, entries_from, entry_of, fabric_after, next_face, opened_at, opened_ends, opening_at, said_at, said_closing, said_opening, sorted_by_face, with_place}
use Rattle.zt_model.specs.Hat.{hat_of}
use Rattle.zt_model.specs.Hearing.{rows_heard}
use Rattle.zt_model.specs.Linking.{LinkEnd, end_region, is_answer, is_end, is_refused_end, link_ends}
use Rattle.zt_model.specs.Lists.{nth}
use Rattle.zt_model.specs.Promises.{EachGateway, EndsUpstream, Turn, is_sent_all, printed, turns_from}
use Rattle.zt_model.specs.Refusals.{call_causes, first_cause, is_interest_id_in_use}
use Rattle.zt_model.specs.Routing.{is_held_south}
use Rattle.zt_model.specs.Rows.{Face, InterestRow, Rows}
use Rattle.zt_model.specs.Says.{altered_by, find_face, is_routed, parts_of, said}
use Rattle.zt_model.specs.Transcript.{Each}
use Rattle.zt_laws.specs.Order.{FabricIsInOrder, HasRowsInOrder}
use Rattle.zt_laws.specs.Shown.{as_shown, node_shown, without_own}
use Rattle.zt_laws.specs.Sound.{EachFrom, HasFirstIds, RiseFrom, is_placed, opens_face, rows_after_call}
use Rattle.zt_laws.proofs.AllLines.{starts_real}
use Rattle.zt_laws.proofs.Calls.{no_cause, not_on_face}
use Rattle.zt_laws.proofs.Ends.{after_hearing-append, end_alone, end_in_order, ends_commute, said_within}
use Rattle.zt_laws.proofs.Gateways.{after_hearing_nothing, prints_map}
use Rattle.zt_laws.proofs.Interleaving.{hearing_alike}
use Rattle.zt_laws.proofs.LinesOrder.{after_prints, called_at, faces_still_placed, gateway_in_order, opened_faces}
use Rattle.zt_laws.proofs.Lists.{by_test, each_always, each_append, each_fails, each_map, each_weaker, never}
use Rattle.zt_laws.proofs.Places.{placed_new, placed_still}
use Rattle.zt_laws.proofs.Sorting.{printed as printed_at, printed_sorted}
use Rattle.zt_laws.proofs.PartsOrder.{each_of_map}
use Rattle.zt_theorem_soundness.proofs.Parts.{nobody}
use Rattle.zt_theorem_visibility.proofs.Calls.{IsOfCalls, IsShownTurn, turn_is_shown, turns_show}
use Rattle.zt_theorem_visibility.proofs.Future.{nth_map}
use Rattle.zt_theorem_visibility.proofs.Printed.{unlinked_go_on}
use Rattle.zt_theorem_upstream.proofs.Asking.{interest_stays}
use Rattle.zt_theorem_upstream.proofs.Calls.{Stays, declaration_stays, declare_final_stays, entities_stay, expiry_stays, table_stays, undeclaration_stays}
use Rattle.zt_theorem_upstream.proofs.Greeting.{session_stays, transport_stays}
use Rattle.zt_theorem_upstream.proofs.Locals.{IsUpstream, LocalsBelow, local_any}
use Rattle.zt_theorem_upstream.proofs.Upholding.{closing_stays, interest_final_stays}

module _ {K : Type 0} (cmp : K → K → Ordering) (matching : K → K → Bool) where
  abbrev Q : Rows K → Type 0
  Q = IsUpstream cmp matching nobody

  abbrev Gateways : List (Node K) → Type 0
  Gateways gs = Each (λ (x : Node K). Q x.rows) gs

  each_changed : (m : ℕ) (change : Rows K → Rows K) (xs : List (Node K)) (x : Node K) → nth m xs ≡ Some x → (Q x.rows → Q (change x.rows)) → Gateways xs → Gateways (at_nth m (λ (y : Node K). record y { rows = change y.rows }) xs)
  each_changed m change [] x there own all = tt
  each_changed m change (y ∷ xs) x there own all =
      by_test (m == 1)
      (λ here. let e : Some y ≡ Some x = rw here at there in let is : y ≡ x = cc in rw here (subst (λ (z : Node K). Q z.rows → Q (change z.rows)) (sym is) own all.0, all.1))
      (λ here. rw here (all.0, each_changed (m - 1) change xs x (rw here at there) own all.1))

  -- a gateway without faces
  no_faces : (g : Rows K) → g.faces ≡ [] → Q g
  no_faces g none_ = record {
    rises = subst (λ (fs : List (Face K)). RiseFrom (λ f. f.number) 1 fs) (sym none_) tt;
    rows = subst (Each HasRowsInOrder) (sym none_) tt;
    below = subst (Each (LocalsBelow cmp matching)) (sym none_) tt;
    locals = subst (Each (λ f. nobody f.number ≡ false → is_sent_all cmp matching g.mode f ≡ true → (i : InterestRow K) → local_any cmp matching f i ≡ is_held_south cmp matching g i)) (sym none_) tt;
    routed = subst (Each (λ f. is_routed g f ≡ true → (f.mode ≡ Router) × (f.held ≡ []))) (sym none_) tt;
  }

  module _ (total : IsTotalOrder cmp) where
    call_stays : (spent : Bool) (c : PlainCall K) (g : Rows K) → opens_face c ≡ false → first_cause (call_causes cmp matching spent c g) ≡ None → Stays cmp matching c g
    unfolding call_causes
    call_stays spent (NewSession first) g still accepted = never refl still
    call_stays spent (NewTransport zid whatami region bound first) g still accepted = never refl still
    call_stays spent (DeclareToken n id e node interest) g still accepted = declaration_stays cmp matching n id node e interest g
    call_stays spent (UndeclareToken n id given node) g still accepted = undeclaration_stays cmp matching n id node given g
    call_stays spent (Interest n id mode options e) g still accepted = by_face (find_face n g) refl
      where
        by_face : (o : Option (Face K)) → find_face n g ≡ o → Stays cmp matching (Interest n id mode options e) g
        by_face None found = let one = (no_cause _ _ _ accepted).0 in never (ap (λ (o : Option (Face K)). is_none o) found) one
        by_face (Some from) found =
            let one = no_cause _ _ _ accepted in
            let two = no_cause _ _ _ one.1 in
            let three = no_cause _ _ _ two.1 in
            let four = no_cause _ _ _ three.1 in
            let five = no_cause _ _ _ four.1 in
            interest_stays cmp matching n id mode options e from g found (not_on_face n g (λ f. whatami_eq f.mode Router) from found two.0) (not_on_face n g (is_interest_id_in_use id mode) from found five.0)
    call_stays spent (InterestFinal n id) g still accepted = interest_final_stays cmp matching total n id g
    call_stays spent (DeclareFinal n id) g still accepted = declare_final_stays cmp matching n id g
    call_stays spent (CloseFace n) g still accepted = closing_stays cmp matching total n g
    call_stays spent (Expire now) g still accepted = expiry_stays cmp matching now g
    call_stays spent (SetTrees region t) g still accepted = table_stays cmp matching region t g
    call_stays spent (SetEntities n subscribers queryables) g still accepted = entities_stay cmp matching n subscribers queryables g

    transport_accepted : (spent : Bool) (zid : Zid) (whatami : WhatAmI) (region : Region) (bound : Bound) (first : ℕ) (g : Rows K) → first_cause (call_causes cmp matching spent (NewTransport zid whatami region bound first) g) ≡ None → (hat_of g.mode region).fits region whatami bound ≡ true
    unfolding call_causes
    transport_accepted spent zid whatami region bound first g accepted = let two = no_cause _ _ _ (no_cause _ _ _ accepted).1 in not-false ((hat_of g.mode region).fits region whatami bound) two.0

    -- ---- links

    modes : Fabric K → List WhatAmI
    modes X = map (λ (x : Node K). x.rows.mode) X.gateways

    -- the face at an end fits its gateway
    record EndFits (X : Fabric K) (end : LinkEnd K) : Type 0 where
      mode : (node : Node K) → nth end.gateway X.gateways ≡ Some node → node.rows.mode ≡ end.node.rows.mode
      fit : (given : Region × Bound) → end_region end.node end.other ≡ Ok given → (hat_of end.node.rows.mode given.0).fits given.0 end.other.rows.mode given.1 ≡ true

    end_upheld : (end : LinkEnd K) (X : Fabric K) → 1 ≤ end.first → FabricIsInOrder cmp matching X → EndFits X end → Gateways X.gateways → Gateways (after_opening cmp matching (opening_at cmp matching X end) X).gateways × (modes (after_opening cmp matching (opening_at cmp matching X end) X) ≡ modes X)
    unfolding modes rows_heard parts_of altered_by
    end_upheld end X real fine fit all = by_answer (end_region end.node end.other) refl
      where
        Upheld : Option (CallAt K) → Type 0
        Upheld at = Gateways (after_opening cmp matching at X).gateways × (modes (after_opening cmp matching at X) ≡ modes X)

        nothing : Upheld None
        nothing = subst (λ (t : Fabric K). Gateways t.gateways × (modes t ≡ modes X)) (sym (after_hearing_nothing cmp X)) (all, refl)

        opens : (given : Region × Bound) → end_region end.node end.other ≡ Ok given → (node : Node K) → nth end.gateway X.gateways ≡ Some node
            → Upheld (Some (record { gateway = end.gateway; rows = node.rows; call = NewTransport end.other.rows.zid end.other.rows.mode given.0 given.1 end.first }))
        opens given is node at_ =
            let n = end.gateway in
            let c : PlainCall K = NewTransport end.other.rows.zid end.other.rows.mode given.0 given.1 end.first in
            let g = node.rows in
            let ss = said cmp matching c g in
            let p : Place = record { gateway = n; face = next_face (nth n X.gateways) } in
            let places = X.faces ++ p ∷ [] in
            let gateway = gateway_in_order cmp matching X n node at_ fine in
            let p_face : p.face ≡ g.made + 1 = ap next_face at_ in
            let new_ : is_placed n (g.made + 1) places ≡ true = subst (λ k. is_placed n k places ≡ true) p_face (placed_new n p.face X.faces) in
            let placed = opened_faces cmp matching total (λ k. is_placed n k places ≡ true) c g refl new_ (each_weaker (λ f. is_placed n f.number X.faces ≡ true) (λ f. is_placed n f.number places ≡ true) (λ f there. placed_still n f.number X.faces p there) g.faces gateway.placed) in
            let fit_ : (hat_of g.mode given.0).fits given.0 end.other.rows.mode given.1 ≡ true = ap (λ w. (hat_of w given.0).fits given.0 end.other.rows.mode given.1) (fit.mode node at_) ∙ fit.fit given is in
            subst (λ (t : Fabric K). Gateways t.gateways × (modes t ≡ modes X)) (sym (after_prints cmp matching n node c (with_place n X) (map (printed_at places n) ss) (prints_map places n ss) at_ placed.0 (faces_still_placed cmp matching p X fine)))
            (each_changed n (rows_after_call cmp matching c) X.gateways node at_ (transport_stays cmp matching total end.other.rows.zid end.other.rows.mode given.0 given.1 end.first g real fit_ gateway.rows) all, modes_same c end.other.rows.zid end.other.rows.mode given.0 given.1 end.first n X.gateways)
          where
            modes_same : (c : PlainCall K) (zid : Zid) (whatami : WhatAmI) (region : Region) (bound : Bound) (first m : ℕ) (gs : List (Node K)) → map (λ (x : Node K). x.rows.mode) (at_nth m (λ (y : Node K). record y { rows = rows_after_call cmp matching (NewTransport zid whatami region bound first) y.rows }) gs) ≡ map (λ (x : Node K). x.rows.mode) gs
            modes_same c zid whatami region bound first m [] = refl
            modes_same c zid whatami region bound first m (x ∷ gs) = by_test (m == 1) (λ here. rw here refl) (λ here. rw here (ap (λ ws. x.rows.mode ∷ ws) (modes_same c zid whatami region bound first (m - 1) gs)))

        by_answer : (o : RegionAnswer) → end_region end.node end.other ≡ o
            → (let c : Option (PlainCall K) = elim o [ Ok given ↦ Some (NewTransport end.other.rows.zid end.other.rows.mode given.0 given.1 end.first) | Err e ↦ None ] in let at : Option (CallAt K) = elim c [ None ↦ None | Some call ↦ call_at X end.gateway call ] in Upheld at)
        by_answer (Err e) is = nothing
        by_answer (Ok given) is = called_at Upheld X end.gateway (NewTransport end.other.rows.zid end.other.rows.mode given.0 given.1 end.first) nothing (λ node at_. opens given is node at_)

    ends_upheld : (ends : List (LinkEnd K)) (X : Fabric K) → Each (λ end. 1 ≤ end.first) ends → FabricIsInOrder cmp matching X → Each (EndFits X) ends → Gateways X.gateways → Gateways (after_hearing cmp (said_opening cmp matching ends X) (opened_ends cmp matching ends X)).gateways
    unfolding opened_ends said_opening modes
    ends_upheld [] X real fine fit all = subst (λ (t : Fabric K). Gateways t.gateways) (sym (after_hearing_nothing cmp X)) all
    ends_upheld (end ∷ ends) X real fine fit all =
        let at = opening_at cmp matching X end in
        let Y = opened_at cmp matching at X in
        let ms = said_at cmp matching Y at in
        let H = after_hearing cmp ms Y in
        let alone = end_alone cmp matching total end X real.0 fine in
        let one = end_upheld end X real.0 fine fit.0 all in
        subst (λ (t : Fabric K). Gateways t.gateways)
        (sym (after_hearing-append cmp ms (said_opening cmp matching ends H) (opened_ends cmp matching ends Y) ∙ ap (after_hearing cmp (said_opening cmp matching ends H)) (ends_commute cmp matching total ends ms Y real.1 alone.0 (said_within cmp matching total end X))))
        (ends_upheld ends H real.1 (end_in_order cmp matching total end X real.0 fine) (each_weaker (EndFits X) (EndFits H) (λ e one_. still H one.1 e one_) ends fit.1) one.0)
      where
        still : (H : Fabric K) → modes H ≡ modes X → (e : LinkEnd K) → EndFits X e → EndFits H e
        still H same_ e fits_ = record { mode = λ node at_. cases node at_ (nth e.gateway X.gateways) refl; fit = fits_.fit }
          where
            mode_of : Option (Node K) → Option WhatAmI
            mode_of o = elim o [ None ↦ None | Some x ↦ Some x.rows.mode ]

            cases : (node : Node K) → nth e.gateway H.gateways ≡ Some node → (o : Option (Node K)) → nth e.gateway X.gateways ≡ o → node.rows.mode ≡ e.node.rows.mode
            cases node at_ None there =
                let bad : Some node.rows.mode ≡ None = sym (nth_map (λ (x : Node K). x.rows.mode) e.gateway H.gateways ∙ ap mode_of at_) ∙ ap (nth e.gateway) same_ ∙ nth_map (λ (x : Node K). x.rows.mode) e.gateway X.gateways ∙ ap mode_of there in
                cc
            cases node at_ (Some x) there =
                let both : Some node.rows.mode ≡ Some x.rows.mode = sym (nth_map (λ (x : Node K). x.rows.mode) e.gateway H.gateways ∙ ap mode_of at_) ∙ ap (nth e.gateway) same_ ∙ nth_map (λ (x : Node K). x.rows.mode) e.gateway X.gateways ∙ ap mode_of there in
                let is : node.rows.mode ≡ x.rows.mode = cc in
                is ∙ fits_.mode x there

    ends_fit : (spent : Bool) (one two first back : ℕ) (s : Fabric K) → first_cause (line_causes cmp matching spent (LinkLine one two first back) s) ≡ None → Each (EndFits s) (link_ends s one two first back)
    unfolding line_causes
    ends_fit spent one two first back s accepted = cases (nth one s.gateways) refl (nth two s.gateways) refl (or_none (list_any is_refused_end ends) (list_any (is_end unfit) ends) conflict).1
      where
        ends : List (LinkEnd K)
        ends = link_ends s one two first back

        unfit : LinkEnd K → Region → Bound → Bool
        unfit end region bound = not ((hat_of end.node.rows.mode region).fits region end.other.rows.mode bound)

        conflict : (list_any is_refused_end ends || list_any (is_end unfit) ends) ≡ false
        conflict = let two_ = no_cause _ _ _ (no_cause _ _ _ accepted).1 in (no_cause _ _ _ two_.1).0

        or_none : (a b : Bool) → (a || b) ≡ false → (a ≡ false) × (b ≡ false)
        or_none true b none_ = never refl none_
        or_none false b none_ = (refl, none_)

        fit_of : (end : LinkEnd K) → is_end unfit end ≡ false → (given : Region × Bound) → end_region end.node end.other ≡ Ok given → (hat_of end.node.rows.mode given.0).fits given.0 end.other.rows.mode given.1 ≡ true
        fit_of end fit_ given is = not-false ((hat_of end.node.rows.mode given.0).fits given.0 end.other.rows.mode given.1) (ap (λ o. is_answer o (unfit end)) (sym is) ∙ fit_)

        cases : (a : Option (Node K)) → nth one s.gateways ≡ a → (b : Option (Node K)) → nth two s.gateways ≡ b
            → list_any (is_end unfit) (let es : List (LinkEnd K) = elim a [
              | None ↦ []
              | Some x ↦
                  elim b [
                    | None ↦ []
                    | Some y ↦ record { gateway = one; node = x; beyond = two; other = y; first = first } ∷ record { gateway = two; node = y; beyond = one; other = x; first = back } ∷ []
                  ]
            ] in es) ≡ false
            → Each (EndFits s) (elim a [
              | None ↦ []
              | Some x ↦
                  elim b [
                    | None ↦ []
                    | Some y ↦ record { gateway = one; node = x; beyond = two; other = y; first = first } ∷ record { gateway = two; node = y; beyond = one; other = x; first = back } ∷ []
                  ]
            ])
        cases None at_one b at_two none_ = tt
        cases (Some x) at_one None at_two none_ = tt
        cases (Some x) at_one (Some y) at_two none_ =
            let e1 : LinkEnd K = record { gateway = one; node = x; beyond = two; other = y; first = first } in
            let e2 : LinkEnd K = record { gateway = two; node = y; beyond = one; other = x; first = back } in
            let fail = each_fails (is_end unfit) (e1 ∷ e2 ∷ []) none_ in (
              record { mode = λ node at_. let e : Some x ≡ Some node = sym at_one ∙ at_ in let is : x ≡ node = cc in ap (λ (z : Node K). z.rows.mode) (sym is); fit = fit_of e1 fail.0 },
              (record { mode = λ node at_. let e : Some y ≡ Some node = sym at_two ∙ at_ in let is : y ≡ node = cc in ap (λ (z : Node K). z.rows.mode) (sym is); fit = fit_of e2 fail.1.0 }, tt),
            )

    -- ---- turns

    abbrev Comes : Fabric K → List (CallAt K) → List (Sent K) → List Place → List (Node K) → List (Node K) → Type 0
    Comes s calls ms places ws gs = Gateways gs

    abbrev Holds : Fabric K → Type 0
    Holds s = Gateways s.gateways

    -- a fact of each face's gateway is one of each gateway
    each_with_faces : (i : ℕ) (places : List Place) (ms : List (Sent K)) (gs : List (Node K)) → EachFrom (λ j (x : Node K). Each (λ f. Q x.rows) x.rows.faces) i gs → Gateways gs
    each_with_faces i places ms [] all = tt
    each_with_faces i places ms (x ∷ gs) all = (by_faces x.rows.faces refl all.0, each_with_faces (i + 1) places ms gs all.1)
      where
        by_faces : (fs : List (Face K)) → x.rows.faces ≡ fs → Each (λ f. Q x.rows) fs → Q x.rows
        by_faces [] is own = no_faces x.rows is
        by_faces (f ∷ fs) is own = own.0

    each_over : (i : ℕ) (gs : List (Node K)) → Gateways gs → EachFrom (λ j (x : Node K). Each (λ f. Q x.rows) x.rows.faces) i gs
    each_over i [] all = tt
    each_over i (x ∷ gs) all = let own : Q x.rows = all.0 in (each_always (λ f. Q x.rows) (λ f. own) x.rows.faces, each_over (i + 1) gs all.1)

    upstream_of_calls : IsOfCalls cmp matching Holds Comes
    upstream_of_calls = record {
      nothing = λ s fine holds. holds;
      gateway = λ mode zid regions timeout refused node s new_ fine holds. each_append (λ (x : Node K). Q x.rows) s.gateways (node ∷ []) holds (no_faces node.rows (ap (λ (g : Rows K). g.faces) new_), tt);
      call = λ spent n node c s at_ still accepted fine holds. each_changed n (rows_after_call cmp matching c) s.gateways node at_ (call_stays spent c node.rows still accepted) holds;
      session = λ n first node s at_ real fine holds. each_changed n (rows_after_call cmp matching (NewSession first)) s.gateways node at_ (session_stays cmp matching total first node.rows real (gateway_in_order cmp matching s n node at_ fine).rows) holds;
      transport = λ spent n node zid whatami region bound first s at_ real accepted fine holds.
          each_changed n (rows_after_call cmp matching (NewTransport zid whatami region bound first)) s.gateways node at_ (transport_stays cmp matching total zid whatami region bound first node.rows real (transport_accepted spent zid whatami region bound first node.rows accepted) (gateway_in_order cmp matching s n node at_ fine).rows) holds;
      link = λ spent one two first back s real real_back accepted fine holds.
          let ends = link_ends s one two first back in
          let X = opened_ends cmp matching ends s in
          let ns = said_opening cmp matching ends s in
          subst (λ (t : Fabric K). Gateways t.gateways) (sym (hearing_alike cmp (sorted_by_face ns) ns X (λ k. printed_sorted k ns)))
          (ends_upheld ends s (starts_real cmp matching s one two first back real real_back) fine (ends_fit spent one two first back s accepted) holds);
      unlink = λ n s fine holds.
          let fs = both_ends cmp matching s n in
          let X = closed_ends cmp matching fs s in
          let ms = sorted_by_face (filter (λ m. not (list_any (λ face. face == m.face) fs)) (said_closing cmp matching fs s)) in
          each_with_faces 1 X.faces ms (after_hearing cmp ms X).gateways
          (unlinked_go_on cmp matching total Q (λ j g f xs. Q g) (λ k g ordered own. closing_stays cmp matching total k g own) (λ j k g ordered own before all. each_always (λ f. Q (rows_after_call cmp matching (CloseFace k) g)) (λ f. closing_stays cmp matching total k g own) (rows_after_call cmp matching (CloseFace k) g).faces) fs s fine holds (each_over 1 s.gateways holds));
    }

    -- own rows are nothing upstream
    shown_upstream : (g : Rows K) → Q (without_own g) → Q g
    unfolding is_held_south
    shown_upstream g up = record { rises = up.rises; rows = up.rows; below = up.below; locals = up.locals; routed = up.routed }

    upstream_shown : (g : Rows K) → Q g → Q (without_own g)
    unfolding is_held_south
    upstream_shown g up = record { rises = up.rises; rows = up.rows; below = up.below; locals = up.locals; routed = up.routed }

    -- each line leaves it so
    holds_after : (line : PlainLine K) (s : Fabric K) → HasFirstIds line → FabricIsInOrder cmp matching s → Holds s → Holds (fabric_after cmp matching line (entry_of cmp matching line s) s)
    holds_after line s real fine holds =
        let t = turn_is_shown cmp matching total Holds Comes upstream_of_calls line s real fine holds in
        let A = fabric_after cmp matching line (entry_of cmp matching line s) s in
        each_weaker (λ (x : Node K). Q (without_own x.rows)) (λ (x : Node K). Q x.rows) (λ x up. shown_upstream x.rows up) A.gateways
        (each_of_map (λ (x : Node K). Q x.rows) node_shown A.gateways
        (subst Gateways (sym t.after_gateways) (each_map (λ (x : Node K). Q x.rows) node_shown _ (each_weaker (λ (x : Node K). Q x.rows) (λ (x : Node K). Q (without_own x.rows)) (λ x up. upstream_shown x.rows up) _ t.comes))))

    ends_shown : (s : Fabric K) (t : Turn K) → FabricIsInOrder cmp matching s → Holds s → IsShownTurn cmp matching total Holds Comes upstream_of_calls s t → EndsUpstream cmp matching t
    ends_shown s t fine holds is = subst Ends (sym is.after_gateways) (each_shown 1 (after_hearing cmp (printed t) is.changed).gateways is.comes)
      where
        At : Node K → Type 0
        At x = Each (λ f. is_sent_all cmp matching x.rows.mode f ≡ true → (i : InterestRow K) → local_any cmp matching f i ≡ is_held_south cmp matching x.rows i) x.rows.faces

        Ends : List (Node K) → Type 0
        Ends gs = EachGateway (λ n (x : Node K). At x) 1 gs

        each_shown : (i : ℕ) (gs : List (Node K)) → Gateways gs → EachGateway (λ n (x : Node K). At x) i (map node_shown gs)
        each_shown i [] all = tt
        each_shown i (x ∷ gs) all =
            let up = upstream_shown x.rows all.0 in
            (each_weaker (λ f. nobody f.number ≡ false → is_sent_all cmp matching x.rows.mode f ≡ true → (i : InterestRow K) → local_any cmp matching f i ≡ is_held_south cmp matching (without_own x.rows) i) (λ f. is_sent_all cmp matching x.rows.mode f ≡ true → (i : InterestRow K) → local_any cmp matching f i ≡ is_held_south cmp matching (without_own x.rows) i) (λ f own. own refl) x.rows.faces up.locals, each_shown (i + 1) gs all.1)

    -- After each turn of a transcript nothing is sent upstream but what is held.
    pub turns_end : (lines : List (PlainLine K)) (s : Fabric K) → Each HasFirstIds lines → FabricIsInOrder cmp matching s → Holds s
        → Each (EndsUpstream cmp matching) (turns_from cmp matching lines (entries_from cmp matching lines s) (as_shown s))
    turns_end lines s real fine holds =
        turns_show cmp matching total Holds Comes upstream_of_calls (EndsUpstream cmp matching) ends_shown (holds_after) lines s real fine holds
