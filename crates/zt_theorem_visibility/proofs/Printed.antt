-- What is printed for each open face is what is printed: facts of messages, from those of faces. And the two closings of a
-- link's line, one after another.
use Rattle.std.proofs.Common.{◌≡◌, ℕ, ◌+◌, ◌-◌, Bool, true, false, not, ◌==◌, List, [], ◌∷◌, ◌++◌, map, filter, Option, Some, None, refl, sym, ap, ◌∙◌, subst, append-nil, append_assoc, arith, eqb-true, eq-eqb}
use Rattle.std.specs.Cmp.{IsTotalOrder}
use Rattle.std.specs.List.{list_any}
use Rattle.std.specs.declared.cmp.Ordering.{Ordering}
use Rattle.zt_protocol.specs.Plain.{CloseFace}
use Rattle.zt_protocol.specs.declared.entries.Sent.{Sent}
use Rattle.zt_protocol.specs.declared.messages.Message.{Message}
use Rattle.zt_model.specs.Fabric.{CallAt, Fabric, Node, Place, after_closing, after_hearing, altered_at, at_nth, closed_ends, closing_call, gateways_after_hearing, number_from, printed_for, said_at, said_closing, sorted_by_face}
use Rattle.zt_model.specs.Hearing.{heard_all, messages_for}
use Rattle.zt_model.specs.Lists.{nth}
use Rattle.zt_model.specs.Rows.{Face, Rows}
use Rattle.zt_model.specs.Says.{altered, find_face, said}
use Rattle.zt_model.specs.Transcript.{Each, FaceAt, face_numbered}
use Rattle.zt_laws.specs.Order.{FabricIsInOrder, GatewayIsInOrder, RowsAreInOrder}
use Rattle.zt_laws.specs.Shown.{node_shown, without_own}
use Rattle.zt_laws.specs.Sound.{EachFrom, is_placed, rows_after_call}
use Rattle.zt_laws.proofs.CallsOrder.{altered_faces}
use Rattle.zt_laws.proofs.Ends.{after_hearing-append, printed_for-append}
use Rattle.zt_laws.proofs.Gateways.{after_hearing_nothing, prints_map}
use Rattle.zt_laws.proofs.Hearing.{find_each, find_passes, heard_all-number}
use Rattle.zt_laws.proofs.Interleaving.{hearing_alike}
use Rattle.zt_laws.proofs.LinesOrder.{after_prints, faces_placed, gateway_in_order, heard_faces_placed}
use Rattle.zt_laws.proofs.Lists.{by_test, each_always, each_both, each_map, each_weaker}
use Rattle.zt_laws.proofs.Numbered.{each_from_at, each_from_nth, nth_real}
use Rattle.zt_laws.proofs.Places.{number_of_nth}
use Rattle.zt_laws.proofs.Sorting.{printed as printed_at, printed_sorted}
use Rattle.zt_laws.proofs.Unlinking.{all_apart, but_for_alike, closing_case, closing_in_order, closings_commute, ends_apart, each_from_both, printed_but_for}
use Rattle.zt_theorem_visibility.proofs.Faces.{FacesHave}
use Rattle.zt_theorem_visibility.proofs.Future.{nth_map}

module _ {K : Type 0} where
  -- a fact of what is printed for each number is one of each message
  each_of_printed : (P : ℕ → Message K → Type 0) (ms : List (Sent K)) → ((k : ℕ) → Each (P k) (printed_for k ms)) → Each (λ m. P m.face m.message) ms
  unfolding printed_for
  each_of_printed P [] all = tt
  each_of_printed P (m ∷ ms) all = (first, each_of_printed P ms rest)
    where
      first : P m.face m.message
      first =
          let own : (m.face == m.face) ≡ true = eq-eqb m.face m.face refl in
          let both : Each (P m.face) (m.message ∷ printed_for m.face ms) = rw own at (all m.face) in
          both.0

      rest : (k : ℕ) → Each (P k) (printed_for k ms)
      rest k =
          by_test (k == m.face)
          (λ here. let both : Each (P k) (m.message ∷ printed_for k ms) = rw here at (all k) in both.1)
          (λ here. rw here at (all k))

  -- where the face of a number is in a fabric
  pub record IsAt (X : Fabric K) (k : ℕ) (x : FaceAt K) : Type 0 where
    pub place : Place
    pub node : Node K
    pub place_is : nth k X.faces ≡ Some place
    pub node_is : nth place.gateway X.gateways ≡ Some node
    pub face_is : find_face place.face node.rows ≡ Some x.face
    pub gateway_is : x.gateway ≡ place.gateway
    pub rows_are : x.rows ≡ node.rows

  pub face_is_at : (X : Fabric K) (k : ℕ) (x : FaceAt K) → face_numbered X k ≡ Some x → IsAt X k x
  unfolding face_numbered
  face_is_at X k x found = by_place (nth k X.faces) refl found
    where
      by_face : (p : Place) (node : Node K) → nth k X.faces ≡ Some p → nth p.gateway X.gateways ≡ Some node → (o : Option (Face K)) → find_face p.face node.rows ≡ o
          → elim o [ None ↦ None | Some f ↦ Some (record { gateway = p.gateway; rows = node.rows; face = f }) ] ≡ Some x → IsAt X k x
      by_face p node at_ there None is e = cc
      by_face p node at_ there (Some f) is e =
          let y : FaceAt K = record { gateway = p.gateway; rows = node.rows; face = f } in
          let same_ : y ≡ x = cc in
          subst (IsAt X k) same_ (record { place = p; node = node; place_is = at_; node_is = there; face_is = is; gateway_is = refl; rows_are = refl })

      by_node : (p : Place) → nth k X.faces ≡ Some p → (o : Option (Node K)) → nth p.gateway X.gateways ≡ o
          → elim o [ None ↦ None | Some node ↦ elim (find_face p.face node.rows) [ None ↦ None | Some f ↦ Some (record { gateway = p.gateway; rows = node.rows; face = f }) ] ] ≡ Some x → IsAt X k x
      by_node p at_ None there e = cc
      by_node p at_ (Some node) there e = by_face p node at_ there (find_face p.face node.rows) refl e

      by_place : (o : Option Place) → nth k X.faces ≡ o
          → elim o [ None ↦ None | Some p ↦ elim (nth p.gateway X.gateways) [ None ↦ None | Some node ↦ elim (find_face p.face node.rows) [ None ↦ None | Some f ↦ Some (record { gateway = p.gateway; rows = node.rows; face = f }) ] ] ] ≡ Some x → IsAt X k x
      by_place None at_ e = cc
      by_place (Some p) at_ e = by_node p at_ (nth p.gateway X.gateways) refl e

module _ {K : Type 0} (cmp : K → K → Ordering) (matching : K → K → Bool) where
  -- what holds of what is printed for each open face holds of the messages that name one, as a transcript shows it
  pub messages_judged : (Q : ℕ → Rows K → Face K → Message K → Type 0) (Z A : Fabric K) (ms : List (Sent K)) → FabricIsInOrder cmp matching Z → A.faces ≡ Z.faces → A.gateways ≡ map node_shown Z.gateways
      → FacesHave (λ j g f xs. Each (Q j (without_own g) f) xs) Z.faces ms Z.gateways
      → Each (λ m. (x : FaceAt K) → face_numbered A m.face ≡ Some x → Q x.gateway x.rows x.face m.message) ms
  messages_judged Q Z A ms fine faces_ gateways_ all = each_of_printed (λ k m. (x : FaceAt K) → face_numbered A k ≡ Some x → Q x.gateway x.rows x.face m) ms (λ k. cases k (face_numbered A k) refl)
    where
      judged : (k : ℕ) (x : FaceAt K) → face_numbered A k ≡ Some x → Each (Q x.gateway x.rows x.face) (printed_for k ms)
      judged k x found = by_shown (nth p.gateway Z.gateways) refl
        where
          it : IsAt A k x
          it = face_is_at A k x found

          p : Place
          p = it.place

          by_shown : (o : Option (Node K)) → nth p.gateway Z.gateways ≡ o → Each (Q x.gateway x.rows x.face) (printed_for k ms)
          by_shown None at_ =
              let there : nth p.gateway (map node_shown Z.gateways) ≡ None = nth_map node_shown p.gateway Z.gateways ∙ ap (λ (o : Option (Node K)). (let y : Option (Node K) = elim o [ None ↦ None | Some z ↦ Some (node_shown z) ] in y)) at_ in
              let bad : Some it.node ≡ None = sym it.node_is ∙ ap (nth p.gateway) gateways_ ∙ there in
              cc
          by_shown (Some node) at_ =
              let there : nth p.gateway (map node_shown Z.gateways) ≡ Some (node_shown node) = nth_map node_shown p.gateway Z.gateways ∙ ap (λ (o : Option (Node K)). (let y : Option (Node K) = elim o [ None ↦ None | Some z ↦ Some (node_shown z) ] in y)) at_ in
              let e : Some it.node ≡ Some (node_shown node) = sym it.node_is ∙ ap (nth p.gateway) gateways_ ∙ there in
              let same_ : it.node ≡ node_shown node = cc in
              let rows_ : x.rows ≡ without_own node.rows = it.rows_are ∙ ap (λ (z : Node K). z.rows) same_ in
              let face_ : find_face p.face node.rows ≡ Some x.face = ap (λ (z : Node K). find_face p.face z.rows) (sym same_) ∙ it.face_is in
              let gateway = gateway_in_order cmp matching Z p.gateway node at_ fine in
              let own = each_from_nth (λ j (y : Node K). Each (λ f. Each (Q j (without_own y.rows) f) (printed_for (number_from 1 j f.number Z.faces) ms)) y.rows.faces) 1 p.gateway p.gateway Z.gateways node (omega arith) all at_ in
              let one = find_each (λ f. Each (Q p.gateway (without_own node.rows) f) (printed_for (number_from 1 p.gateway f.number Z.faces) ms)) (λ f. p.face == f.number) node.rows.faces x.face own face_ in
              let number_ : p.face ≡ x.face.number = eqb-true p.face x.face.number (find_passes (λ f. p.face == f.number) node.rows.faces x.face face_) in
              let k_is : number_from 1 p.gateway x.face.number Z.faces ≡ k = ap (λ j. number_from 1 p.gateway j Z.faces) (sym number_) ∙ number_of_nth k Z.faces p gateway.places_rise (ap (nth k) (sym faces_) ∙ it.place_is) in
              subst (λ j. Each (Q x.gateway x.rows x.face) (printed_for j ms)) k_is
              (subst (λ j. Each (Q j x.rows x.face) (printed_for (number_from 1 p.gateway x.face.number Z.faces) ms)) (sym it.gateway_is)
              (subst (λ (g : Rows K). Each (Q p.gateway g x.face) (printed_for (number_from 1 p.gateway x.face.number Z.faces) ms)) (sym rows_) one))

      cases : (k : ℕ) (o : Option (FaceAt K)) → face_numbered A k ≡ o → Each (λ m. (x : FaceAt K) → face_numbered A k ≡ Some x → Q x.gateway x.rows x.face m) (printed_for k ms)
      cases k None is = each_always (λ m. (x : FaceAt K) → face_numbered A k ≡ Some x → Q x.gateway x.rows x.face m) (λ m x found. let bad : None ≡ Some x = sym is ∙ found in cc) (printed_for k ms)
      cases k (Some y) is =
          each_weaker (Q y.gateway y.rows y.face) (λ m. (x : FaceAt K) → face_numbered A k ≡ Some x → Q x.gateway x.rows x.face m)
          (λ m own x found. let e : Some y ≡ Some x = sym is ∙ found in let same_ : y ≡ x = cc in subst (λ (z : FaceAt K). Q z.gateway z.rows z.face m) same_ own) (printed_for k ms) (judged k y is)

  -- ---- one closing after another

  module _ (total : IsTotalOrder cmp) (Q : Rows K → Type 0) (R : ℕ → Rows K → Face K → List (Message K) → Type 0)
      (still : (k : ℕ) (g : Rows K) → RowsAreInOrder cmp matching g → Q g → Q (rows_after_call cmp matching (CloseFace k) g))
      (step : (n k : ℕ) (g : Rows K) → RowsAreInOrder cmp matching g → Q g → (before : ℕ → List (Message K)) → Each (λ f. R n g f (before f.number)) g.faces
      → (let h = rows_after_call cmp matching (CloseFace k) g in Each (λ f. R n h f (before f.number ++ messages_for f.number (said cmp matching (CloseFace k) g))) h.faces)) where
    abbrev Gateways : Fabric K → Type 0
    Gateways X = Each (λ (x : Node K). Q x.rows) X.gateways

    -- a face is closed, and what is said then is heard
    closing_goes_on : (face : ℕ) (X : Fabric K) (ms : List (Sent K)) → FabricIsInOrder cmp matching X → Gateways X → FacesHave R X.faces ms X.gateways
        → (let H = after_closing cmp matching face X in Gateways H × FacesHave R H.faces (ms ++ said_at cmp matching X (closing_call X face)) H.gateways)
    closing_goes_on face X ms fine holds all =
        closing_case cmp matching Closed X face
        (subst (λ (t : Fabric K). Gateways t × FacesHave R t.faces (ms ++ []) t.gateways) (sym (after_hearing_nothing cmp X)) (holds, subst (λ xs. FacesHave R X.faces xs X.gateways) (sym (append-nil ms)) all))
        closed
      where
        Closed : Option (CallAt K) → Type 0
        Closed at = (let t = after_hearing cmp (said_at cmp matching X at) (altered_at cmp matching X at) in Gateways t × FacesHave R t.faces (ms ++ said_at cmp matching X at) t.gateways)

        closed : (n k : ℕ) (node : Node K) → nth n X.gateways ≡ Some node → Closed (Some (record { gateway = n; rows = node.rows; call = CloseFace k }))
        closed n k node at_ =
            let g = node.rows in
            let h = rows_after_call cmp matching (CloseFace k) g in
            let ss = said cmp matching (CloseFace k) g in
            let ns = map (printed_at X.faces n) ss in
            let prints = prints_map X.faces n ss in
            let gateway = gateway_in_order cmp matching X n node at_ fine in
            let placed = altered_faces cmp matching total (λ j. is_placed n j X.faces ≡ true) (CloseFace k) g refl gateway.rows.lists gateway.placed in
            let before = λ (j : ℕ). printed_for (number_from 1 n j X.faces) ms in
            let own = each_from_nth (λ j (x : Node K). Each (λ f. R j x.rows f (printed_for (number_from 1 j f.number X.faces) ms)) x.rows.faces) 1 n n X.gateways node (omega arith) all at_ in
            let holds_own = each_nth_holds n X.gateways node at_ holds in
            subst (λ (t : Fabric K). Gateways t × FacesHave R t.faces (ms ++ ns) t.gateways) (sym (after_prints cmp matching n node (CloseFace k) X ns prints at_ placed.0 (faces_placed cmp matching X fine))) (
              each_changed n (rows_after_call cmp matching (CloseFace k)) X.gateways node at_ (still k g gateway.rows holds_own) holds,
              each_from_at (λ j (x : Node K). GatewayIsInOrder cmp matching X.faces j x.rows × Each (λ f. R j x.rows f (printed_for (number_from 1 j f.number X.faces) ms)) x.rows.faces) (λ j (x : Node K). Each (λ f. R j x.rows f (printed_for (number_from 1 j f.number X.faces) (ms ++ ns))) x.rows.faces) (λ (x : Node K). record x { rows = rows_after_call cmp matching (CloseFace k) x.rows }) 1 n n X.gateways (nth_real n X.gateways node at_) (omega arith)
                  (λ j x apart both.
                  each_both (λ f. is_placed j f.number X.faces ≡ true) (λ f. R j x.rows f (printed_for (number_from 1 j f.number X.faces) ms)) (λ f. R j x.rows f (printed_for (number_from 1 j f.number X.faces) (ms ++ ns)))
                  (λ f there one.
                  let m = number_from 1 j f.number X.faces in
                  subst (R j x.rows f) (sym (printed_for-append m ms ns ∙ ap (λ xs. printed_for m ms ++ xs) (prints.other j f.number apart there) ∙ append-nil (printed_for m ms))) one) x.rows.faces both.0.placed both.1)
                  (λ x is both.
                  let e : Some node ≡ Some x = sym at_ ∙ is in
                  let same_ : node ≡ x = cc in
                  subst (λ (y : Node K). (let y_after = rows_after_call cmp matching (CloseFace k) y.rows in Each (λ f. R n y_after f (printed_for (number_from 1 n f.number X.faces) (ms ++ ns))) y_after.faces)) same_
                  (each_both (λ f. is_placed n f.number X.faces ≡ true) (λ f. R n h f (before f.number ++ messages_for f.number ss)) (λ f. R n h f (printed_for (number_from 1 n f.number X.faces) (ms ++ ns)))
                  (λ f there one.
                  let m = number_from 1 n f.number X.faces in
                  subst (R n h f) (sym (printed_for-append m ms ns ∙ ap (λ xs. printed_for m ms ++ xs) (prints.own f.number there))) one)
                  h.faces (heard_faces_placed cmp matching X.faces n ss (altered cmp matching (CloseFace k) g) placed.0) (step n k g gateway.rows holds_own before own)))
                  (each_from_both (λ j (x : Node K). GatewayIsInOrder cmp matching X.faces j x.rows) (λ j (x : Node K). Each (λ f. R j x.rows f (printed_for (number_from 1 j f.number X.faces) ms)) x.rows.faces) (λ j (x : Node K). GatewayIsInOrder cmp matching X.faces j x.rows × Each (λ f. R j x.rows f (printed_for (number_from 1 j f.number X.faces) ms)) x.rows.faces) (λ j x a b. (a, b)) 1 X.gateways fine.gateways all),
            )
          where
            each_nth_holds : (m : ℕ) (xs : List (Node K)) (x : Node K) → nth m xs ≡ Some x → Each (λ (y : Node K). Q y.rows) xs → Q x.rows
            each_nth_holds m [] x there all_ = cc
            each_nth_holds m (y ∷ xs) x there all_ =
                by_test (m == 1)
                (λ here. let e : Some y ≡ Some x = rw here at there in let is : y ≡ x = cc in subst (λ (z : Node K). Q z.rows) is all_.0)
                (λ here. each_nth_holds (m - 1) xs x (rw here at there) all_.1)

            each_changed : (m : ℕ) (change : Rows K → Rows K) (xs : List (Node K)) (x : Node K) → nth m xs ≡ Some x → Q (change x.rows) → Each (λ (y : Node K). Q y.rows) xs → Each (λ (y : Node K). Q y.rows) (at_nth m (λ (y : Node K). record y { rows = change y.rows }) xs)
            each_changed m change [] x there own_ all_ = tt
            each_changed m change (y ∷ xs) x there own_ all_ =
                by_test (m == 1)
                (λ here. let e : Some y ≡ Some x = rw here at there in let is : y ≡ x = cc in rw here (subst (λ (z : Node K). Q (change z.rows)) (sym is) own_, all_.1))
                (λ here. rw here (all_.0, each_changed (m - 1) change xs x (rw here at there) own_ all_.1))

    closings_go_on : (fs : List ℕ) (X : Fabric K) (ms : List (Sent K)) → FabricIsInOrder cmp matching X → Gateways X → FacesHave R X.faces ms X.gateways
        → (let Z = closed_ends cmp matching fs X in
        let ns = said_closing cmp matching fs X in
        FacesHave R Z.faces (ms ++ ns) (after_hearing cmp ns Z).gateways)
    unfolding closed_ends said_closing
    closings_go_on [] X ms fine holds all = subst (λ (t : Fabric K). FacesHave R X.faces (ms ++ []) t.gateways) (sym (after_hearing_nothing cmp X)) (subst (λ xs. FacesHave R X.faces xs X.gateways) (sym (append-nil ms)) all)
    closings_go_on (face ∷ fs) X ms fine holds all =
        let at = closing_call X face in
        let ms1 = said_at cmp matching X at in
        let Y = altered_at cmp matching X at in
        let H = after_hearing cmp ms1 Y in
        let ns = said_closing cmp matching fs H in
        let one = closing_goes_on face X ms fine holds all in
        let rest = closings_go_on fs H (ms ++ ms1) (closing_in_order cmp matching total face X fine) one.0 one.1 in
        subst (λ xs. FacesHave R (closed_ends cmp matching fs Y).faces xs (after_hearing cmp (ms1 ++ ns) (closed_ends cmp matching fs Y)).gateways) (append_assoc ms ms1 ns)
        (subst (λ (t : Fabric K). FacesHave R t.faces ((ms ++ ms1) ++ ns) t.gateways)
        (sym (after_hearing-append cmp ms1 ns (closed_ends cmp matching fs Y) ∙ ap (after_hearing cmp ns) (closings_commute cmp matching fs ms1 Y)))
        rest)

    -- what closings say but for the faces that are closed, in order of face
    pub unlinked_go_on : (fs : List ℕ) (X : Fabric K) → FabricIsInOrder cmp matching X → Gateways X → FacesHave R X.faces [] X.gateways
        → (let Z = closed_ends cmp matching fs X in
        let ms = sorted_by_face (filter (λ m. not (list_any (λ face. face == m.face) fs)) (said_closing cmp matching fs X)) in
        FacesHave R Z.faces ms (after_hearing cmp ms Z).gateways)
    unfolding gateways_after_hearing
    unlinked_go_on fs X fine holds all =
        let Z = closed_ends cmp matching fs X in
        let ns = said_closing cmp matching fs X in
        let kept = filter (λ m. not (list_any (λ face. face == m.face) fs)) ns in
        let ms = sorted_by_face kept in
        let apart = all_apart cmp matching fs Z (ends_apart cmp matching total fs X fine) in
        let alike : after_hearing cmp ms Z ≡ after_hearing cmp ns Z = hearing_alike cmp ms kept Z (λ k. printed_sorted k kept) ∙ but_for_alike cmp matching fs ns Z apart in
        subst (λ (t : Fabric K). FacesHave R Z.faces ms t.gateways) (sym alike)
        (each_from_both (λ j (x : Node K). Each (λ f. list_any (λ face. face == number_from 1 j f.number Z.faces) fs ≡ false) x.rows.faces) (λ j (x : Node K). Each (λ f. R j x.rows f (printed_for (number_from 1 j f.number Z.faces) ns)) x.rows.faces) (λ j (x : Node K). Each (λ f. R j x.rows f (printed_for (number_from 1 j f.number Z.faces) ms)) x.rows.faces)
        (λ j x one two.
        each_both (λ f. list_any (λ face. face == number_from 1 j f.number Z.faces) fs ≡ false) (λ f. R j x.rows f (printed_for (number_from 1 j f.number Z.faces) ns)) (λ f. R j x.rows f (printed_for (number_from 1 j f.number Z.faces) ms))
        (λ f away own.
        let k = number_from 1 j f.number Z.faces in
        subst (R j x.rows f) (sym (printed_sorted k kept ∙ printed_but_for cmp matching fs k ns away)) own) x.rows.faces one two)
        1 (after_hearing cmp ns Z).gateways (apart_heard 1 Z.gateways apart) (closings_go_on fs X [] fine holds all))
      where
        Away : List Place → ℕ → Node K → Type 0
        Away places j x = Each (λ f. list_any (λ face. face == number_from 1 j f.number places) fs ≡ false) x.rows.faces

        Z_ : Fabric K
        Z_ = closed_ends cmp matching fs X

        apart_heard : (i : ℕ) (gs : List (Node K)) → EachFrom (Away Z_.faces) i gs → EachFrom (Away Z_.faces) i (gateways_after_hearing cmp Z_ (said_closing cmp matching fs X) i gs)
        apart_heard i [] away = tt
        apart_heard i (x ∷ gs) away =
            let hears = λ (f : Face K). heard_all cmp x.rows.moment (printed_for (number_from 1 i f.number Z_.faces) (said_closing cmp matching fs X)) f in (
              each_map (λ f. list_any (λ face. face == number_from 1 i f.number Z_.faces) fs ≡ false) hears x.rows.faces
                  (each_weaker (λ f. list_any (λ face. face == number_from 1 i f.number Z_.faces) fs ≡ false) (λ f. list_any (λ face. face == number_from 1 i (hears f).number Z_.faces) fs ≡ false)
                  (λ f one. ap (λ k. list_any (λ face. face == number_from 1 i k Z_.faces) fs) (heard_all-number cmp x.rows.moment (printed_for (number_from 1 i f.number Z_.faces) (said_closing cmp matching fs X)) f) ∙ one) x.rows.faces away.0),
              apart_heard (i + 1) gs away.1,
            )
