-- The two faces of a link are closed one after another, and each line leaves the gateways in order.
use Rattle.std.proofs.Common.{◌≡◌, ℕ, ◌+◌, ◌-◌, Bool, true, false, cond, ◌==◌, not, List, [], ◌∷◌, map, filter, Option, Some, None, refl, sym, ap, ◌∙◌, subst, arith, eq-eqb, eqb-true, ne_eqb}
use Rattle.std.proofs.lemmas.Bool.{or_from}
use Rattle.std.specs.Cmp.{IsTotalOrder}
use Rattle.std.specs.List.{list_any}
use Rattle.std.specs.declared.cmp.Ordering.{Ordering}
use Rattle.zt_protocol.specs.Plain.{CloseFace}
use Rattle.zt_protocol.specs.declared.entries.Sent.{Sent}
use Rattle.zt_model.specs.Fabric.{CallAt, Fabric, Node, Place, after_closing, after_hearing, altered_at, call_at_place, closed_ends, closing_call, gateways_after_hearing, number_from, printed_for, rows_after_hearing, said_at, said_closing, with_rows}
use Rattle.zt_model.specs.Hearing.{heard_all}
use Rattle.zt_model.specs.Lists.{nth}
use Rattle.zt_model.specs.Rows.{Face, Rows}
use Rattle.zt_model.specs.Says.{altered, said}
use Rattle.zt_model.specs.Transcript.{Each}
use Rattle.zt_laws.specs.Order.{FabricIsInOrder, GatewayIsInOrder}
use Rattle.zt_laws.specs.Sound.{EachFrom, is_placed}
use Rattle.zt_laws.proofs.CallsOrder.{altered_faces, closed_apart, closed_in_order}
use Rattle.zt_laws.proofs.Closed.{closing_heard}
use Rattle.zt_laws.proofs.Ends.{after_hearing-append, heard_changed, nth_heard, nth_heard_none}
use Rattle.zt_laws.proofs.Entries.{nth_of_number}
use Rattle.zt_laws.proofs.Gateways.{after_hearing_nothing, prints_map}
use Rattle.zt_laws.proofs.LinesOrder.{called_at, gateway_in_order, in_order_called, in_order_rows}
use Rattle.zt_laws.proofs.Lists.{by_test, each_both, each_from_weaker, each_weaker, each_always, map_alike, never}
use Rattle.zt_laws.proofs.Numbered.{each_from_at, nth_real}
use Rattle.zt_laws.proofs.Sorting.{printed}

-- ---- facts of numbered members

pub each_from_always : {A : Type 0} (P : ℕ → A → Type 0) → ((j : ℕ) (x : A) → P j x) → (i : ℕ) (xs : List A) → EachFrom P i xs
each_from_always P h i [] = tt
each_from_always P h i (x ∷ xs) = (h i x, each_from_always P h (i + 1) xs)

pub each_from_both : {A : Type 0} (P Q R : ℕ → A → Type 0) → ((j : ℕ) (x : A) → P j x → Q j x → R j x) → (i : ℕ) (xs : List A) → EachFrom P i xs → EachFrom Q i xs → EachFrom R i xs
each_from_both P Q R h i [] ps qs = tt
each_from_both P Q R h i (x ∷ xs) ps qs = (h i x ps.0 qs.0, each_from_both P Q R h (i + 1) xs ps.1 qs.1)

-- a fact of each member by its number, with what the number says
each_from_nths : {A : Type 0} (P : ℕ → A → Type 0) (i : ℕ) (xs : List A) → ((m : ℕ) (x : A) → nth (m + 1) xs ≡ Some x → P (i + m) x) → EachFrom P i xs
each_from_nths P i [] h = tt
each_from_nths P i (x ∷ xs) h = (
  subst (λ j. P j x) (omega arith) (h 0 x refl),
  each_from_nths P (i + 1) xs
      (λ m y at_.
      let apart : (m + 1 + 1 == 1) ≡ false = ne_eqb (m + 1 + 1) 1 (λ e. omega arith) in
      let down : m + 1 + 1 - 1 ≡ m + 1 = omega arith in
      subst (λ j. P j y) (omega arith) (h (m + 1) y (ap (λ b. cond b (Some x) (nth (m + 1 + 1 - 1) xs)) apart ∙ ap (λ j. nth j xs) down ∙ at_))),
)

module _ {K : Type 0} (cmp : K → K → Ordering) (matching : K → K → Bool) where
  pub closing_case : (G : Option (CallAt K) → Type 0) (X : Fabric K) (face : ℕ) → G None → ((n k : ℕ) (node : Node K) → nth n X.gateways ≡ Some node → G (Some (record { gateway = n; rows = node.rows; call = CloseFace k }))) → G (closing_call X face)
  closing_case G X face nothing made = by_place (nth face X.faces)
    where
      by_place : (o : Option Place) → G (call_at_place X (CloseFace face) o)
      by_place None = nothing
      by_place (Some p) = called_at G X p.gateway (CloseFace p.face) nothing (λ node at_. made p.gateway p.face node at_)

  -- ---- closing and hearing can be exchanged

  rows_exchange : (n j : ℕ) (ms : List (Sent K)) (X : Fabric K) (g : Rows K) → rows_after_hearing cmp X ms j (altered cmp matching (CloseFace n) g) ≡ altered cmp matching (CloseFace n) (rows_after_hearing cmp X ms j g)
  rows_exchange n j ms X g = sym (closing_heard cmp matching n g.moment (λ k. printed_for (number_from 1 j k X.faces) ms) g refl)

  closing_commutes : (face : ℕ) (ms : List (Sent K)) (X : Fabric K) → after_hearing cmp ms (altered_at cmp matching X (closing_call X face)) ≡ altered_at cmp matching (after_hearing cmp ms X) (closing_call (after_hearing cmp ms X) face)
  unfolding gateways_after_hearing
  closing_commutes face ms X = by_place (nth face X.faces)
    where
      at : ℕ → ℕ → Option (Node K) → Option (CallAt K)
      at n k o = elim o [ None ↦ None | Some node ↦ Some (record { gateway = n; rows = node.rows; call = CloseFace k }) ]

      Commutes : ℕ → ℕ → Option (Node K) → Option (Node K) → Type 0
      Commutes n k o after = after_hearing cmp ms (altered_at cmp matching X (at n k o)) ≡ altered_at cmp matching (after_hearing cmp ms X) (at n k after)

      some : (n k : ℕ) (node x : Node K) → nth n X.gateways ≡ Some node → Commutes n k (Some node) (Some x)
      some n k node x at_ =
          ap (λ (gs : List (Node K)). record X { gateways = gs })
          (heard_changed cmp (λ j g. Unit {0}) X X ms n (altered cmp matching (CloseFace k)) (λ j g _. refl) 1 n X.gateways (nth_real n X.gateways node at_) (omega arith) (λ y y_at. rows_exchange k n ms X y.rows) (each_from_always (λ j (node : Node K). Unit {0}) (λ j node. tt) 1 X.gateways))

      by_node : (n k : ℕ) (o : Option (Node K)) → nth n X.gateways ≡ o → Commutes n k (nth n X.gateways) (nth n (after_hearing cmp ms X).gateways)
      by_node n k None at_ =
          subst (λ o. Commutes n k o (nth n (after_hearing cmp ms X).gateways)) (sym at_) (subst (λ o. Commutes n k None o) (sym (nth_heard_none cmp X ms 1 n X.gateways at_)) refl)
      by_node n k (Some node) at_ =
          let there = nth_heard cmp X ms 1 n X.gateways node at_ in
          subst (λ o. Commutes n k o (nth n (after_hearing cmp ms X).gateways)) (sym at_) (subst (λ o. Commutes n k (Some node) o) (sym there.1) (some n k node there.0 at_))

      by_place : (o : Option Place) → after_hearing cmp ms (altered_at cmp matching X (call_at_place X (CloseFace face) o)) ≡ altered_at cmp matching (after_hearing cmp ms X) (call_at_place (after_hearing cmp ms X) (CloseFace face) o)
      by_place None = refl
      by_place (Some p) = by_node p.gateway p.face (nth p.gateway X.gateways) refl

  pub closings_commute : (fs : List ℕ) (ms : List (Sent K)) (X : Fabric K) → after_hearing cmp ms (closed_ends cmp matching fs X) ≡ closed_ends cmp matching fs (after_hearing cmp ms X)
  unfolding closed_ends
  closings_commute [] ms X = refl
  closings_commute (face ∷ fs) ms X = closings_commute fs ms (altered_at cmp matching X (closing_call X face)) ∙ ap (closed_ends cmp matching fs) (closing_commutes face ms X)

  -- ---- messages to faces that aren't open

  -- no open face has the number
  abbrev pub Apart : ℕ → Fabric K → Type 0
  Apart face X = EachFrom (λ j (node : Node K). Each (λ f. (face == number_from 1 j f.number X.faces) ≡ false) node.rows.faces) 1 X.gateways

  abbrev pub is_of : List ℕ → Sent K → Bool
  is_of fs m = list_any (λ face. face == m.face) fs

  pub printed_but_for : (fs : List ℕ) (k : ℕ) (ms : List (Sent K)) → list_any (λ face. face == k) fs ≡ false → printed_for k (filter (λ m. not (is_of fs m)) ms) ≡ printed_for k ms
  unfolding printed_for
  printed_but_for fs k [] apart = refl
  printed_but_for fs k (m ∷ ms) apart =
      by_test (is_of fs m)
      (λ dropped.
      let miss : (k == m.face) ≡ false = by_test (k == m.face) (λ here. never (ap (λ j. list_any (λ face. face == j) fs) (eqb-true k m.face here) ∙ dropped) apart) (λ here. here) in
      rw (dropped, miss) (printed_but_for fs k ms apart))
      (λ kept. rw kept (by_test (k == m.face) (λ here. rw here (ap (λ xs. m.message ∷ xs) (printed_but_for fs k ms apart))) (λ here. rw here (printed_but_for fs k ms apart))))

  pub but_for_alike : (fs : List ℕ) (ms : List (Sent K)) (X : Fabric K) → EachFrom (λ j (node : Node K). Each (λ f. list_any (λ face. face == number_from 1 j f.number X.faces) fs ≡ false) node.rows.faces) 1 X.gateways → after_hearing cmp (filter (λ m. not (is_of fs m)) ms) X ≡ after_hearing cmp ms X
  unfolding gateways_after_hearing
  but_for_alike fs ms X apart = ap (λ (gs : List (Node K)). record X { gateways = gs }) (gateways 1 X.gateways apart)
    where
      rows : (j : ℕ) (g : Rows K) → Each (λ f. list_any (λ face. face == number_from 1 j f.number X.faces) fs ≡ false) g.faces → rows_after_hearing cmp X (filter (λ m. not (is_of fs m)) ms) j g ≡ rows_after_hearing cmp X ms j g
      rows j g all =
          ap (λ (hs : List (Face K)). record g { faces = hs })
          (map_alike (λ f. heard_all cmp g.moment (printed_for (number_from 1 j f.number X.faces) (filter (λ m. not (is_of fs m)) ms)) f) (λ f. heard_all cmp g.moment (printed_for (number_from 1 j f.number X.faces) ms) f) g.faces
          (each_weaker (λ f. list_any (λ face. face == number_from 1 j f.number X.faces) fs ≡ false) (λ f. heard_all cmp g.moment (printed_for (number_from 1 j f.number X.faces) (filter (λ m. not (is_of fs m)) ms)) f ≡ heard_all cmp g.moment (printed_for (number_from 1 j f.number X.faces) ms) f)
          (λ f none_. ap (λ xs. heard_all cmp g.moment xs f) (printed_but_for fs (number_from 1 j f.number X.faces) ms none_)) g.faces all))

      gateways : (k : ℕ) (gs : List (Node K)) → EachFrom (λ j (node : Node K). Each (λ f. list_any (λ face. face == number_from 1 j f.number X.faces) fs ≡ false) node.rows.faces) k gs → gateways_after_hearing cmp X (filter (λ m. not (is_of fs m)) ms) k gs ≡ gateways_after_hearing cmp X ms k gs
      gateways k [] all = refl
      gateways k (node ∷ gs) all =
          ap (λ (g : Rows K). record node { rows = g } ∷ gateways_after_hearing cmp X (filter (λ m. not (is_of fs m)) ms) (k + 1) gs) (rows k node.rows all.0)
          ∙ ap (λ rest. record node { rows = rows_after_hearing cmp X ms k node.rows } ∷ rest) (gateways (k + 1) gs all.1)

  pub all_apart : (fs : List ℕ) (X : Fabric K) → Each (λ face. Apart face X) fs → EachFrom (λ j (node : Node K). Each (λ f. list_any (λ face. face == number_from 1 j f.number X.faces) fs ≡ false) node.rows.faces) 1 X.gateways
  all_apart [] X all = each_from_always (λ j (node : Node K). Each (λ f. false ≡ false) node.rows.faces) (λ j node. each_always (λ f. false ≡ false) (λ f. refl) node.rows.faces) 1 X.gateways
  all_apart (face ∷ fs) X all =
      each_from_both (λ j (node : Node K). Each (λ f. (face == number_from 1 j f.number X.faces) ≡ false) node.rows.faces) (λ j (node : Node K). Each (λ f. list_any (λ face. face == number_from 1 j f.number X.faces) fs ≡ false) node.rows.faces)
      (λ j (node : Node K). Each (λ f. list_any (λ face. face == number_from 1 j f.number X.faces) (face ∷ fs) ≡ false) node.rows.faces)
      (λ j node one rest.
      each_both (λ f. (face == number_from 1 j f.number X.faces) ≡ false) (λ f. list_any (λ face. face == number_from 1 j f.number X.faces) fs ≡ false) (λ f. list_any (λ face. face == number_from 1 j f.number X.faces) (face ∷ fs) ≡ false)
      (λ f a b. or_from (face == number_from 1 j f.number X.faces) (list_any (λ face. face == number_from 1 j f.number X.faces) fs) a b) node.rows.faces one rest)
      1 X.gateways all.0 (all_apart fs X all.1)

  module _ (total : IsTotalOrder cmp) where
    -- a closed face leaves the fabric in order, before what is said then is heard
    pub closing_alone : (face : ℕ) (X : Fabric K) → FabricIsInOrder cmp matching X → FabricIsInOrder cmp matching (altered_at cmp matching X (closing_call X face))
    closing_alone face X fine =
        closing_case (λ at. FabricIsInOrder cmp matching (altered_at cmp matching X at)) X face fine
        (λ n k node at_.
        let gateway = gateway_in_order cmp matching X n node at_ fine in
        let after = altered_faces cmp matching total (λ j. is_placed n j X.faces ≡ true) (CloseFace k) node.rows refl gateway.rows.lists gateway.placed in
        in_order_rows cmp matching n node (altered cmp matching (CloseFace k)) X at_ (closed_in_order cmp matching total k node.rows gateway.rows) after.0 after.1 fine)

    -- no open face has the number of one that is closed
    apart_closed : (face : ℕ) (X : Fabric K) → FabricIsInOrder cmp matching X → Apart face (altered_at cmp matching X (closing_call X face))
    apart_closed face X fine = by_place (nth face X.faces) refl
      where
        -- the place of a face whose number it is
        place_at : (j k : ℕ) → is_placed j k X.faces ≡ true → (face == number_from 1 j k X.faces) ≡ true → nth face X.faces ≡ Some (record { gateway = j; face = k })
        place_at j k placed here =
            let is : face ≡ number_from 1 j k X.faces = eqb-true face (number_from 1 j k X.faces) here in
            let number_ : face ≡ number_from 1 j k X.faces + 1 - 1 = omega arith in
            ap (λ m. nth m X.faces) number_ ∙ nth_of_number 1 j k X.faces placed

        NotThere : ℕ → ℕ → Type 0
        NotThere j k = (face == number_from 1 j k X.faces) ≡ false

        unless : (j k : ℕ) → is_placed j k X.faces ≡ true → (nth face X.faces ≡ Some (record { gateway = j; face = k }) → ⊥) → NotThere j k
        unless j k placed bad = by_test (face == number_from 1 j k X.faces) (λ here. absurd (bad (place_at j k placed here))) (λ here. here)

        same_gateway : (p : Place) (j k : ℕ) → nth face X.faces ≡ Some p → nth face X.faces ≡ Some (record { gateway = j; face = k }) → (p.gateway ≡ j) × (p.face ≡ k)
        same_gateway p j k one two =
            let q : Place = record { gateway = j; face = k } in
            let e : Some p ≡ Some q = sym one ∙ two in
            let is : p ≡ q = cc in
            (ap (λ (r : Place). r.gateway) is, ap (λ (r : Place). r.face) is)

        no_place : nth face X.faces ≡ None → Apart face X
        no_place none_ =
            each_from_weaker (λ j (node : Node K). GatewayIsInOrder cmp matching X.faces j node.rows) (λ j node. Each (λ f. NotThere j f.number) node.rows.faces)
            (λ j node g. each_weaker (λ f. is_placed j f.number X.faces ≡ true) (λ f. NotThere j f.number) (λ f placed. unless j f.number placed (λ there. let bad : None ≡ Some (record { gateway = j; face = f.number }) = sym none_ ∙ there in cc)) node.rows.faces g.placed)
            1 X.gateways fine.gateways

        no_gateway : (p : Place) → nth face X.faces ≡ Some p → nth p.gateway X.gateways ≡ None → Apart face X
        no_gateway p at_ none_ =
            each_from_nths (λ j (node : Node K). Each (λ f. NotThere j f.number) node.rows.faces) 1 X.gateways
            (λ m node there.
            let j_is : 1 + m ≡ m + 1 = omega arith in
            subst (λ j. Each (λ f. NotThere j f.number) node.rows.faces) (sym j_is)
            (each_weaker (λ f. is_placed (m + 1) f.number X.faces ≡ true) (λ f. NotThere (m + 1) f.number)
            (λ f placed. unless (m + 1) f.number placed (λ it. let bad : None ≡ Some node = sym none_ ∙ ap (λ j. nth j X.gateways) (same_gateway p (m + 1) f.number at_ it).0 ∙ there in cc))
            node.rows.faces (gateway_in_order cmp matching X (m + 1) node there fine).placed))

        closed : (p : Place) (node : Node K) → nth face X.faces ≡ Some p → nth p.gateway X.gateways ≡ Some node → Apart face (with_rows p.gateway (altered cmp matching (CloseFace p.face)) X)
        closed p node at_ there =
            each_from_at (λ j (x : Node K). GatewayIsInOrder cmp matching X.faces j x.rows) (λ j (x : Node K). Each (λ f. NotThere j f.number) x.rows.faces) (λ (x : Node K). record x { rows = altered cmp matching (CloseFace p.face) x.rows }) 1 p.gateway p.gateway X.gateways (nth_real p.gateway X.gateways node there) (omega arith)
            (λ j x apart g. each_weaker (λ f. is_placed j f.number X.faces ≡ true) (λ f. NotThere j f.number) (λ f placed. unless j f.number placed (λ it. apart (sym (same_gateway p j f.number at_ it).0))) x.rows.faces g.placed)
            (λ x is g.
            each_both (λ f. is_placed p.gateway f.number X.faces ≡ true) (λ f. (p.face == f.number) ≡ false) (λ f. NotThere p.gateway f.number)
            (λ f placed gone. unless p.gateway f.number placed (λ it. never (eq-eqb p.face f.number (same_gateway p p.gateway f.number at_ it).1) gone))
            (altered cmp matching (CloseFace p.face) x.rows).faces (altered_faces cmp matching total (λ k. is_placed p.gateway k X.faces ≡ true) (CloseFace p.face) x.rows refl g.rows.lists g.placed).0 (closed_apart cmp matching total p.face x.rows))
            fine.gateways

        by_node : (p : Place) → nth face X.faces ≡ Some p → (o : Option (Node K)) → nth p.gateway X.gateways ≡ o → Apart face (altered_at cmp matching X (elim o [ None ↦ None | Some node ↦ Some (record { gateway = p.gateway; rows = node.rows; call = CloseFace p.face }) ]))
        by_node p at_ None there = no_gateway p at_ there
        by_node p at_ (Some node) there = closed p node at_ there

        by_place : (o : Option Place) → nth face X.faces ≡ o → Apart face (altered_at cmp matching X (call_at_place X (CloseFace face) o))
        by_place None at_ = no_place at_
        by_place (Some p) at_ = by_node p at_ (nth p.gateway X.gateways) refl

    -- closing another leaves it so
    apart_still : (face other : ℕ) (X : Fabric K) → FabricIsInOrder cmp matching X → Apart face X → Apart face (altered_at cmp matching X (closing_call X other))
    apart_still face other X fine apart =
        closing_case (λ at. Apart face (altered_at cmp matching X at)) X other apart
        (λ n k node at_.
        each_from_at (λ j (x : Node K). GatewayIsInOrder cmp matching X.faces j x.rows × Each (λ f. (face == number_from 1 j f.number X.faces) ≡ false) x.rows.faces) (λ j (x : Node K). Each (λ f. (face == number_from 1 j f.number X.faces) ≡ false) x.rows.faces) (λ (x : Node K). record x { rows = altered cmp matching (CloseFace k) x.rows }) 1 n n X.gateways (nth_real n X.gateways node at_) (omega arith)
        (λ j x _ both. both.1)
        (λ x is both. (altered_faces cmp matching total (λ m. (face == number_from 1 n m X.faces) ≡ false) (CloseFace k) x.rows refl both.0.rows.lists both.1).0)
        (each_from_both (λ j (x : Node K). GatewayIsInOrder cmp matching X.faces j x.rows) (λ j (x : Node K). Each (λ f. (face == number_from 1 j f.number X.faces) ≡ false) x.rows.faces) (λ j (x : Node K). GatewayIsInOrder cmp matching X.faces j x.rows × Each (λ f. (face == number_from 1 j f.number X.faces) ≡ false) x.rows.faces) (λ j x a b. (a, b)) 1 X.gateways fine.gateways apart))

    apart_ends : (fs : List ℕ) (face : ℕ) (X : Fabric K) → FabricIsInOrder cmp matching X → Apart face X → Apart face (closed_ends cmp matching fs X)
    unfolding closed_ends
    apart_ends [] face X fine apart = apart
    apart_ends (other ∷ fs) face X fine apart = apart_ends fs face (altered_at cmp matching X (closing_call X other)) (closing_alone other X fine) (apart_still face other X fine apart)

    pub ends_apart : (fs : List ℕ) (X : Fabric K) → FabricIsInOrder cmp matching X → Each (λ face. Apart face (closed_ends cmp matching fs X)) fs
    unfolding closed_ends
    ends_apart [] X fine = tt
    ends_apart (face ∷ fs) X fine =
        let Y = altered_at cmp matching X (closing_call X face) in
        let alone = closing_alone face X fine in
        (apart_ends fs face Y alone (apart_closed face X fine), ends_apart fs Y alone)

    -- ---- closing, and all that is said is heard

    pub closing_in_order : (face : ℕ) (X : Fabric K) → FabricIsInOrder cmp matching X → FabricIsInOrder cmp matching (after_closing cmp matching face X)
    closing_in_order face X fine =
        closing_case (λ at. FabricIsInOrder cmp matching (after_hearing cmp (said_at cmp matching X at) (altered_at cmp matching X at))) X face (subst (FabricIsInOrder cmp matching) (sym (after_hearing_nothing cmp X)) fine)
        (λ n k node at_. in_order_called cmp matching total n node (CloseFace k) X (map (printed X.faces n) (said cmp matching (CloseFace k) node.rows)) (prints_map X.faces n (said cmp matching (CloseFace k) node.rows)) at_ refl fine)

    closings_in_order : (fs : List ℕ) (X : Fabric K) → FabricIsInOrder cmp matching X → FabricIsInOrder cmp matching (after_hearing cmp (said_closing cmp matching fs X) (closed_ends cmp matching fs X))
    unfolding closed_ends said_closing
    closings_in_order [] X fine = subst (FabricIsInOrder cmp matching) (sym (after_hearing_nothing cmp X)) fine
    closings_in_order (face ∷ fs) X fine =
        let at = closing_call X face in
        let ms = said_at cmp matching X at in
        let Y = altered_at cmp matching X at in
        let H = after_hearing cmp ms Y in
        subst (FabricIsInOrder cmp matching)
        (sym (after_hearing-append cmp ms (said_closing cmp matching fs H) (closed_ends cmp matching fs Y) ∙ ap (after_hearing cmp (said_closing cmp matching fs H)) (closings_commute fs ms Y)))
        (closings_in_order fs H (closing_in_order face X fine))

    -- what is said to the closed faces is dropped
    pub unlinked_in_order : (fs : List ℕ) (X : Fabric K) → FabricIsInOrder cmp matching X
        → FabricIsInOrder cmp matching (after_hearing cmp (filter (λ m. not (list_any (λ face. face == m.face) fs)) (said_closing cmp matching fs X)) (closed_ends cmp matching fs X))
    unlinked_in_order fs X fine =
        subst (FabricIsInOrder cmp matching) (sym (but_for_alike fs (said_closing cmp matching fs X) (closed_ends cmp matching fs X) (all_apart fs (closed_ends cmp matching fs X) (ends_apart fs X fine)))) (closings_in_order fs X fine)
