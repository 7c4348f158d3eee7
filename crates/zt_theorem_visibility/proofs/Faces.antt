-- Facts of each face of a turn and of what is printed for it, from a call's at its gateway.
use Rattle.std.proofs.Common.{◌≡◌, ◌≢◌, ℕ, ◌+◌, ◌≤◌, ◌<◌, Bool, true, false, List, [], ◌∷◌, ◌++◌, length, map, Some, sym, ap, ◌∙◌, subst, arith}
use Rattle.std.specs.declared.cmp.Ordering.{Ordering}
use Rattle.zt_protocol.specs.declared.entries.Sent.{Sent}
use Rattle.zt_protocol.specs.declared.messages.Message.{Message}
use Rattle.zt_model.specs.Fabric.{Fabric, Node, Place, at_nth, next_face, number_from, printed_for, sorted_by_face, with_place, with_rows}
use Rattle.zt_model.specs.Hearing.{messages_for}
use Rattle.zt_model.specs.Lists.{nth}
use Rattle.zt_model.specs.Promises.{EachGateway}
use Rattle.zt_model.specs.Rows.{Face, Rows}
use Rattle.zt_model.specs.Says.{Sends}
use Rattle.zt_model.specs.Transcript.{Each}
use Rattle.zt_laws.specs.Order.{FabricIsInOrder, GatewayIsInOrder}
use Rattle.zt_laws.specs.Shown.{node_shown, without_own}
use Rattle.zt_laws.specs.Sound.{EachFrom, is_placed, places_of}
use Rattle.zt_laws.proofs.Ends.{printed_none}
use Rattle.zt_laws.proofs.Gateways.{FacesArePlaced, PrintsSends}
use Rattle.zt_laws.proofs.LinesOrder.{gateway_in_order}
use Rattle.zt_laws.proofs.Lists.{each_always, each_append, each_both, each_weaker}
use Rattle.zt_laws.proofs.Numbered.{each_from_at, nth_real}
use Rattle.zt_laws.proofs.Places.{not_placed_yet, number_new, number_still}
use Rattle.zt_laws.proofs.Sorting.{printed_sorted}
use Rattle.zt_laws.proofs.Unlinking.{each_from_always, each_from_both}

module _ {K : Type 0} where
  -- a fact of each face, with its gateway's number and rows, and with what is printed for it
  abbrev pub FacesHave : (ℕ → Rows K → Face K → List (Message K) → Type 0) → List Place → List (Sent K) → List (Node K) → Type 0
  FacesHave R places ms gs = EachFrom (λ j (node : Node K). Each (λ f. R j node.rows f (printed_for (number_from 1 j f.number places) ms)) node.rows.faces) 1 gs

  -- as a transcript shows it
  pub shown_faces : (P : ℕ → Rows K → Face K → Type 0) (i : ℕ) (gs : List (Node K)) → EachFrom (λ j (node : Node K). Each (P j (without_own node.rows)) node.rows.faces) i gs → EachGateway (λ n (node : Node K). Each (P n node.rows) node.rows.faces) i (map node_shown gs)
  shown_faces P i [] all = tt
  shown_faces P i (node ∷ gs) all = (all.0, shown_faces P (i + 1) gs all.1)

  pub faces_weaker : (R S : ℕ → Rows K → Face K → List (Message K) → Type 0) (places : List Place) (ms : List (Sent K)) → ((j : ℕ) (g : Rows K) (f : Face K) (xs : List (Message K)) → R j g f xs → S j g f xs) → (i : ℕ) (gs : List (Node K))
      → EachFrom (λ j (node : Node K). Each (λ f. R j node.rows f (printed_for (number_from 1 j f.number places) ms)) node.rows.faces) i gs → EachFrom (λ j (node : Node K). Each (λ f. S j node.rows f (printed_for (number_from 1 j f.number places) ms)) node.rows.faces) i gs
  faces_weaker R S places ms one i [] all = tt
  faces_weaker R S places ms one i (node ∷ gs) all = (
    each_weaker (λ f. R i node.rows f (printed_for (number_from 1 i f.number places) ms)) (λ f. S i node.rows f (printed_for (number_from 1 i f.number places) ms)) (λ f own. one i node.rows f (printed_for (number_from 1 i f.number places) ms) own) node.rows.faces all.0,
    faces_weaker R S places ms one (i + 1) gs all.1,
  )

  -- a fact of each face of a turn, from that of the machine's fabric
  pub faces_shown : (R S : ℕ → Rows K → Face K → List (Message K) → Type 0) → ((j : ℕ) (g : Rows K) (f : Face K) (xs : List (Message K)) → R j g f xs → S j (without_own g) f xs)
      → (places places_ : List Place) (ms : List (Sent K)) (gs gs_ : List (Node K)) → places_ ≡ places → gs_ ≡ map node_shown gs → FacesHave R places ms gs
      → EachGateway (λ n (node : Node K). Each (λ f. S n node.rows f (printed_for (number_from 1 n f.number places_) ms)) node.rows.faces) 1 gs_
  faces_shown R S shows places places_ ms gs gs_ places_is gs_is all =
      subst (λ (xs : List (Node K)). EachGateway (λ n (node : Node K). Each (λ f. S n node.rows f (printed_for (number_from 1 n f.number places_) ms)) node.rows.faces) 1 xs) (sym gs_is)
      (subst (λ (ps : List Place). EachGateway (λ n (node : Node K). Each (λ f. S n node.rows f (printed_for (number_from 1 n f.number ps) ms)) node.rows.faces) 1 (map node_shown gs)) (sym places_is)
      (shown_faces (λ j g f. S j g f (printed_for (number_from 1 j f.number places) ms)) 1 gs
      (faces_weaker R (λ j g f xs. S j (without_own g) f xs) places ms shows 1 gs all)))

  pub each_face_weaker : (P Q : ℕ → Rows K → Face K → Type 0) → ((n : ℕ) (g : Rows K) (f : Face K) → P n g f → Q n g f) → (i : ℕ) (gs : List (Node K))
      → EachGateway (λ n (node : Node K). Each (P n node.rows) node.rows.faces) i gs → EachGateway (λ n (node : Node K). Each (Q n node.rows) node.rows.faces) i gs
  each_face_weaker P Q one i [] all = tt
  each_face_weaker P Q one i (node ∷ gs) all = (each_weaker (P i node.rows) (Q i node.rows) (λ f own. one i node.rows f own) node.rows.faces all.0, each_face_weaker P Q one (i + 1) gs all.1)

  -- sorted or not
  pub faces_sorted : (R : ℕ → Rows K → Face K → List (Message K) → Type 0) (places : List Place) (ms : List (Sent K)) (gs : List (Node K)) → FacesHave R places ms gs → FacesHave R places (sorted_by_face ms) gs
  faces_sorted R places ms gs all = of_all 1 gs all
    where
      of_all : (i : ℕ) (gs : List (Node K)) → EachFrom (λ j (node : Node K). Each (λ f. R j node.rows f (printed_for (number_from 1 j f.number places) ms)) node.rows.faces) i gs → EachFrom (λ j (node : Node K). Each (λ f. R j node.rows f (printed_for (number_from 1 j f.number places) (sorted_by_face ms))) node.rows.faces) i gs
      of_all i [] all = tt
      of_all i (node ∷ gs) all = (
        each_weaker (λ f. R i node.rows f (printed_for (number_from 1 i f.number places) ms)) (λ f. R i node.rows f (printed_for (number_from 1 i f.number places) (sorted_by_face ms)))
            (λ f own. subst (R i node.rows f) (sym (printed_sorted (number_from 1 i f.number places) ms)) own) node.rows.faces all.0,
        of_all (i + 1) gs all.1,
      )

  -- where nothing is printed
  pub faces_hear_nothing : (R : ℕ → Rows K → Face K → List (Message K) → Type 0) (places : List Place) (gs : List (Node K)) → EachFrom (λ j (node : Node K). Each (λ f. R j node.rows f []) node.rows.faces) 1 gs → FacesHave R places [] gs
  unfolding printed_for
  faces_hear_nothing R places gs all = all

  -- what holds of whatever is printed
  pub faces_any : (R : ℕ → Rows K → Face K → List (Message K) → Type 0) (places : List Place) (ms : List (Sent K)) (gs : List (Node K)) → ((j k : ℕ) (g : Rows K) (f : Face K) → R j g f (printed_for k ms)) → FacesHave R places ms gs
  faces_any R places ms gs one =
      each_from_always (λ j (node : Node K). Each (λ f. R j node.rows f (printed_for (number_from 1 j f.number places) ms)) node.rows.faces)
      (λ j node. each_always (λ f. R j node.rows f (printed_for (number_from 1 j f.number places) ms)) (λ f. one j (number_from 1 j f.number places) node.rows f) node.rows.faces) 1 gs

  -- A call's messages are for faces of its gateway alone.
  pub faces_called : (R : ℕ → Rows K → Face K → List (Message K) → Type 0) (n : ℕ) (node : Node K) (change : Rows K → Rows K) (places : List Place) (ss : Sends K) (ms : List (Sent K)) (gs : List (Node K)) → PrintsSends places n ss ms
      → nth n gs ≡ Some node → FacesArePlaced places n (change node.rows) → Each (λ f. R n (change node.rows) f (messages_for f.number ss)) (change node.rows).faces
      → EachFrom (λ j (x : Node K). FacesArePlaced places j x.rows) 1 gs → EachFrom (λ j (x : Node K). j ≢ n → Each (λ f. R j x.rows f []) x.rows.faces) 1 gs
      → FacesHave R places ms (at_nth n (λ (x : Node K). record x { rows = change x.rows }) gs)
  faces_called R n node change places ss ms gs prints at_ placed own all_placed others =
      each_from_at (λ j (x : Node K). FacesArePlaced places j x.rows × (j ≢ n → Each (λ f. R j x.rows f []) x.rows.faces)) (λ j (x : Node K). Each (λ f. R j x.rows f (printed_for (number_from 1 j f.number places) ms)) x.rows.faces) (λ (x : Node K). record x { rows = change x.rows }) 1 n n gs (nth_real n gs node at_) (omega arith)
      (λ j x apart both.
      each_both (λ f. is_placed j f.number places ≡ true) (λ f. R j x.rows f []) (λ f. R j x.rows f (printed_for (number_from 1 j f.number places) ms))
      (λ f there none_. subst (R j x.rows f) (sym (prints.other j f.number apart there)) none_) x.rows.faces both.0 (both.1 apart))
      (λ x is both.
      let e : Some node ≡ Some x = sym at_ ∙ is in
      let same_ : node ≡ x = cc in
      subst (λ (y : Node K). Each (λ f. R n (change y.rows) f (printed_for (number_from 1 n f.number places) ms)) (change y.rows).faces) same_
      (each_both (λ f. is_placed n f.number places ≡ true) (λ f. R n (change node.rows) f (messages_for f.number ss)) (λ f. R n (change node.rows) f (printed_for (number_from 1 n f.number places) ms))
      (λ f there has. subst (R n (change node.rows) f) (sym (prints.own f.number there)) has) (change node.rows).faces placed own))
      (each_from_both (λ j (x : Node K). FacesArePlaced places j x.rows) (λ j (x : Node K). j ≢ n → Each (λ f. R j x.rows f []) x.rows.faces) (λ j (x : Node K). FacesArePlaced places j x.rows × (j ≢ n → Each (λ f. R j x.rows f []) x.rows.faces)) (λ j x a b. (a, b)) 1 gs all_placed others)

module _ {K : Type 0} (cmp : K → K → Ordering) (matching : K → K → Bool) where
  -- Messages that are printed before a gateway makes a face aren't for that face.
  pub faces_still : (R : ℕ → Rows K → Face K → List (Message K) → Type 0) (n : ℕ) (node : Node K) (change : Rows K → Rows K) (new_ : Face K) (ms : List (Sent K)) (s : Fabric K) → nth n s.gateways ≡ Some node → FabricIsInOrder cmp matching s
      → (change node.rows).faces ≡ node.rows.faces ++ new_ ∷ [] → new_.number ≡ node.rows.made + 1 → ((f : Face K) (xs : List (Message K)) → R n node.rows f xs → R n (change node.rows) f xs) → R n (change node.rows) new_ []
      → Each (λ m. m.face ≤ length s.faces) ms → FacesHave R s.faces ms s.gateways → FacesHave R (with_place n s).faces ms (with_rows n change s).gateways
  faces_still R n node change new_ ms s at_ fine faces_ number_ goes_on last within all =
      each_from_at (λ j (x : Node K). GatewayIsInOrder cmp matching s.faces j x.rows × Each (λ f. R j x.rows f (printed_for (number_from 1 j f.number s.faces) ms)) x.rows.faces) (λ j (x : Node K). Each (λ f. R j x.rows f (printed_for (number_from 1 j f.number places) ms)) x.rows.faces) (λ (x : Node K). record x { rows = change x.rows }) 1 n n s.gateways (nth_real n s.gateways node at_) (omega arith)
      (λ j x apart both. still j x.rows both.0 both.1)
      (λ x is both.
      let e : Some node ≡ Some x = sym at_ ∙ is in
      let same_ : node ≡ x = cc in
      subst (λ (y : Node K). Each (λ f. R n (change y.rows) f (printed_for (number_from 1 n f.number places) ms)) (change y.rows).faces) same_
      (subst (Each (λ f. R n (change node.rows) f (printed_for (number_from 1 n f.number places) ms))) (sym faces_)
      (each_append (λ f. R n (change node.rows) f (printed_for (number_from 1 n f.number places) ms)) node.rows.faces (new_ ∷ [])
      (each_weaker (λ f. R n node.rows f (printed_for (number_from 1 n f.number places) ms)) (λ f. R n (change node.rows) f (printed_for (number_from 1 n f.number places) ms)) (λ f own. goes_on f (printed_for (number_from 1 n f.number places) ms) own) node.rows.faces
      (still n node.rows gateway (subst (λ (y : Node K). Each (λ f. R n y.rows f (printed_for (number_from 1 n f.number s.faces) ms)) y.rows.faces) (sym same_) both.1)))
      (subst (R n (change node.rows) new_) (sym nothing) last, tt))))
      (each_from_both (λ j (x : Node K). GatewayIsInOrder cmp matching s.faces j x.rows) (λ j (x : Node K). Each (λ f. R j x.rows f (printed_for (number_from 1 j f.number s.faces) ms)) x.rows.faces) (λ j (x : Node K). GatewayIsInOrder cmp matching s.faces j x.rows × Each (λ f. R j x.rows f (printed_for (number_from 1 j f.number s.faces) ms)) x.rows.faces) (λ j x a b. (a, b)) 1 s.gateways fine.gateways all)
    where
      p : Place
      p = record { gateway = n; face = next_face (nth n s.gateways) }

      places : List Place
      places = s.faces ++ p ∷ []

      gateway : GatewayIsInOrder cmp matching s.faces n node.rows
      gateway = gateway_in_order cmp matching s n node at_ fine

      still : (j : ℕ) (g : Rows K) → GatewayIsInOrder cmp matching s.faces j g → Each (λ f. R j g f (printed_for (number_from 1 j f.number s.faces) ms)) g.faces → Each (λ f. R j g f (printed_for (number_from 1 j f.number places) ms)) g.faces
      still j g ordered own =
          each_both (λ f. is_placed j f.number s.faces ≡ true) (λ f. R j g f (printed_for (number_from 1 j f.number s.faces) ms)) (λ f. R j g f (printed_for (number_from 1 j f.number places) ms))
          (λ f there has. subst (λ k. R j g f (printed_for k ms)) (sym (number_still 1 j f.number s.faces p there)) has) g.faces ordered.placed own

      nothing : printed_for (number_from 1 n new_.number places) ms ≡ []
      nothing =
          let p_is : p ≡ record { gateway = n; face = new_.number } = ap (λ k. record { gateway = n; face = k }) (ap next_face at_ ∙ sym number_) in
          let unplaced : is_placed n new_.number s.faces ≡ false = not_placed_yet n new_.number s.faces (each_weaker (λ q. q.face ≤ node.rows.made) (λ q. q.face < new_.number) (λ q low. omega arith) (places_of n s.faces) gateway.places_made) in
          let at_end : number_from 1 n new_.number places ≡ 1 + length s.faces = ap (λ q. number_from 1 n new_.number (s.faces ++ q ∷ [])) p_is ∙ number_new 1 n new_.number s.faces unplaced in
          ap (λ k. printed_for k ms) at_end ∙ printed_none (1 + length s.faces) ms (each_weaker (λ m. m.face ≤ length s.faces) (λ m. m.face < 1 + length s.faces) (λ m low. omega arith) ms within)
