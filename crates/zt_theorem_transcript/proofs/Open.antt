-- Each message of a line names an open face and its gateway.
use Rattle.std.proofs.Common.{◌≡◌, ◌≢◌, ℕ, ◌+◌, ◌-◌, ◌≤◌, Bool, true, false, cond, ◌==◌, ◌||◌, List, [], ◌∷◌, ◌++◌, map, Option, Some, None, refl, sym, ap, ◌∙◌, subst, arith, eqb-true, eq-eqb, ne_eqb}
use Rattle.std.proofs.lemmas.Bool.{eqb-false, or_left}
use Rattle.std.specs.Cmp.{IsTotalOrder}
use Rattle.std.specs.List.{list_any}
use Rattle.std.specs.declared.cmp.Ordering.{Ordering}
use Rattle.zt_region.specs.declared.region.Bound.{Bound}
use Rattle.zt_region.specs.declared.region.Region.{Region}
use Rattle.zt_region.specs.declared.region.WhatAmI.{WhatAmI}
use Rattle.zt_region.specs.declared.region.Zid.{Zid}
use Rattle.zt_protocol.specs.Plain.{PlainCall, NewTransport, CloseFace}
use Rattle.zt_protocol.specs.declared.entries.Sent.{Sent}
use Rattle.zt_protocol.specs.declared.messages.Message.{Message}
use Rattle.zt_model.specs.Fabric.{CallAt, Fabric, Node, Place, after_hearing, altered_at, at_nth, call_at, call_at_place, closed_ends, closing_call, gateways_after_hearing, number_from, number_of_place, next_face, opened_at, printed_for, opened_ends, opening_at, rows_after_hearing, said_at, said_closing, said_opening, with_place, with_rows}
use Rattle.zt_model.specs.Hearing.{heard_all}
use Rattle.zt_model.specs.Linking.{LinkEnd}
use Rattle.zt_model.specs.Lists.{is_some_and, nth}
use Rattle.zt_model.specs.Routing.{face_opened}
use Rattle.zt_model.specs.Rows.{Face, Rows}
use Rattle.zt_model.specs.Says.{altered, altered_by, find_face, parts_of, said}
use Rattle.zt_model.specs.Transcript.{Each, FaceAt, NamesOpenFace, face_numbered}
use Rattle.zt_laws.specs.Order.{FabricIsInOrder, GatewayIsInOrder, ListsAreInOrder}
use Rattle.zt_laws.specs.Shown.{node_shown}
use Rattle.zt_laws.specs.Sound.{RiseFrom, is_placed, opens_face, places_of, rows_after_call}
use Rattle.zt_laws.proofs.CallsOrder.{altered_faces}
use Rattle.zt_laws.proofs.Ends.{by_end, end_alone, end_in_order, ends_commute, said_within}
use Rattle.zt_laws.proofs.Entries.{found_where, has_number, nth_of_number}
use Rattle.zt_laws.proofs.Hearing.{heard_all-number}
use Rattle.zt_laws.proofs.Lists.{any-append, by_test, each_append, each_map, each_weaker, never}
use Rattle.zt_laws.proofs.LinesOrder.{called_at, gateway_in_order, opened_faces}
use Rattle.zt_laws.proofs.Numbered.{nth_real}
use Rattle.zt_laws.proofs.Places.{number_of_nth, placed_new, placed_still}
use Rattle.zt_laws.proofs.Sorting.{printed}
use Rattle.zt_laws.proofs.Unlinking.{closing_alone, closing_case, closing_in_order, closings_commute}
use Rattle.zt_theorem_visibility.proofs.Future.{nth_at, nth_map}
use Rattle.zt_theorem_transcript.proofs.Said.{HasFace, SameNumbers, closed_keeps, said_for_open, same_heard}

nth_front : {A : Type 0} (n : ℕ) (xs ys : List A) (x : A) → nth n xs ≡ Some x → nth n (xs ++ ys) ≡ Some x
nth_front n [] ys x at_ = cc
nth_front n (y ∷ xs) ys x at_ = by_test (n == 1) (λ here. rw here (rw here at at_)) (λ here. rw here (nth_front (n - 1) xs ys x (rw here at at_)))

neither : (a b : Bool) → (a || b) ≡ false → (a ≡ false) × (b ≡ false)
neither true b h = never refl h
neither false b h = (refl, h)

-- another member stays where one is changed
nth_at_other : {A : Type 0} (j n : ℕ) (change : A → A) (xs : List A) → 1 ≤ j → 1 ≤ n → (n == j) ≡ false → nth j (at_nth n change xs) ≡ nth j xs
nth_at_other j n change [] real_j real_n other = refl
nth_at_other j n change (x ∷ xs) real_j real_n other =
    by_test (n == 1) first (λ here. later here (λ own. nth_at_other (j - 1) (n - 1) change xs (less j real_j own) (less n real_n here) (apart_less own here)))
  where
    first : (n == 1) ≡ true → nth j (at_nth n change (x ∷ xs)) ≡ nth j (x ∷ xs)
    first here =
        let apart : (j == 1) ≡ false = by_test (j == 1) (λ own. never (eq-eqb n j (eqb-true n 1 here ∙ sym (eqb-true j 1 own))) other) (λ own. own) in
        ap (λ b. nth j (cond b (change x ∷ xs) (x ∷ at_nth (n - 1) change xs))) here
        ∙ ap (λ b. cond b (Some (change x)) (nth (j - 1) xs)) apart
        ∙ sym (ap (λ b. cond b (Some x) (nth (j - 1) xs)) apart)

    later : (n == 1) ≡ false → ((j == 1) ≡ false → nth (j - 1) (at_nth (n - 1) change xs) ≡ nth (j - 1) xs) → nth j (at_nth n change (x ∷ xs)) ≡ nth j (x ∷ xs)
    later here more =
        ap (λ b. nth j (cond b (change x ∷ xs) (x ∷ at_nth (n - 1) change xs))) here
        ∙ by_test (j == 1)
        (λ own. ap (λ b. cond b (Some x) (nth (j - 1) (at_nth (n - 1) change xs))) own ∙ sym (ap (λ b. cond b (Some x) (nth (j - 1) xs)) own))
        (λ own.
        ap (λ b. cond b (Some x) (nth (j - 1) (at_nth (n - 1) change xs))) own
        ∙ more own
        ∙ sym (ap (λ b. cond b (Some x) (nth (j - 1) xs)) own))

    less : (k : ℕ) → 1 ≤ k → (k == 1) ≡ false → 1 ≤ k - 1
    less k real other_ = let differ : k ≢ 1 = eqb-false k 1 other_ in omega (arith, differ)

    apart_less : (j == 1) ≡ false → (n == 1) ≡ false → (n - 1 == j - 1) ≡ false
    apart_less own here = ne_eqb (n - 1) (j - 1) (λ e. never (eq-eqb n j (let a : 1 ≤ j - 1 = less j real_j own in let b : 1 ≤ n - 1 = less n real_n here in omega arith)) other)

module _ {K : Type 0} where
  -- where the face of a message is
  pub record IsOpen (places : List Place) (gs : List (Node K)) (m : Sent K) : Type 0 where
    pub place : Place
    pub node : Node K
    pub place_is : nth m.face places ≡ Some place
    pub node_is : nth place.gateway gs ≡ Some node
    pub gateway_is : m.gateway ≡ place.gateway
    pub there : has_number place.face node.rows.faces ≡ true

  -- gateways that are there still, with all the faces that they had
  abbrev pub KeepFaces : List (Node K) → List (Node K) → Type 0
  KeepFaces gs hs = (j : ℕ) (x : Node K) → nth j gs ≡ Some x → (y : Node K) × (nth j hs ≡ Some y) × ((k : ℕ) → has_number k x.rows.faces ≡ true → has_number k y.rows.faces ≡ true)

  pub open_still : (places more : List Place) (gs hs : List (Node K)) (m : Sent K) → KeepFaces gs hs → IsOpen places gs m → IsOpen (places ++ more) hs m
  open_still places more gs hs m keep is =
      let kept = keep is.place.gateway is.node is.node_is in
      record { place = is.place; node = kept.0; place_is = nth_front m.face places more is.place is.place_is; node_is = kept.1; gateway_is = is.gateway_is; there = kept.2 is.place.face is.there }

  pub open_kept : (places : List Place) (gs hs : List (Node K)) (m : Sent K) → KeepFaces gs hs → IsOpen places gs m → IsOpen places hs m
  open_kept places gs hs m keep is =
      let kept = keep is.place.gateway is.node is.node_is in
      record { place = is.place; node = kept.0; place_is = is.place_is; node_is = kept.1; gateway_is = is.gateway_is; there = kept.2 is.place.face is.there }

  -- one gateway's faces stay, where its rows change
  pub keep_changed : (n : ℕ) (change : Rows K → Rows K) (gs : List (Node K)) → ((g : Rows K) (k : ℕ) → has_number k g.faces ≡ true → has_number k (change g).faces ≡ true) → KeepFaces gs (at_nth n (λ (x : Node K). record x { rows = change x.rows }) gs)
  keep_changed n change [] stays j x at_ = cc
  keep_changed n change (y ∷ gs) stays j x at_ = by_test (n == 1) first (λ here. later here (λ e. keep_changed (n - 1) change gs stays (j - 1) x e))
    where
      z : Node K
      z = record y { rows = change y.rows }

      rest : List (Node K)
      rest = at_nth (n - 1) (λ (x : Node K). record x { rows = change x.rows }) gs

      Kept : List (Node K) → Type 0
      Kept hs = (w : Node K) × (nth j hs ≡ Some w) × ((k : ℕ) → has_number k x.rows.faces ≡ true → has_number k w.rows.faces ≡ true)

      first : (n == 1) ≡ true → Kept (at_nth n (λ (x : Node K). record x { rows = change x.rows }) (y ∷ gs))
      first here =
          subst (λ b. Kept (cond b (z ∷ gs) (y ∷ rest))) (sym here)
          (by_test (j == 1)
          (λ own.
          let e : Some y ≡ Some x = ap (λ b. cond b (Some y) (nth (j - 1) gs)) (sym own) ∙ at_ in
          let is : y ≡ x = cc in
          (z, ap (λ b. cond b (Some z) (nth (j - 1) gs)) own, λ k there. stays y.rows k (subst (λ (w : Node K). has_number k w.rows.faces ≡ true) (sym is) there)))
          (λ own.
          let e : nth (j - 1) gs ≡ Some x = ap (λ b. cond b (Some y) (nth (j - 1) gs)) (sym own) ∙ at_ in
          (x, ap (λ b. cond b (Some z) (nth (j - 1) gs)) own ∙ e, λ k there. there)))

      later : (n == 1) ≡ false → (nth (j - 1) gs ≡ Some x → (w : Node K) × (nth (j - 1) rest ≡ Some w) × ((k : ℕ) → has_number k x.rows.faces ≡ true → has_number k w.rows.faces ≡ true)) → Kept (at_nth n (λ (x : Node K). record x { rows = change x.rows }) (y ∷ gs))
      later here of_rest =
          subst (λ b. Kept (cond b (z ∷ gs) (y ∷ rest))) (sym here)
          (by_test (j == 1)
          (λ own. let e : Some y ≡ Some x = ap (λ b. cond b (Some y) (nth (j - 1) gs)) (sym own) ∙ at_ in (x, ap (λ b. cond b (Some y) (nth (j - 1) rest)) own ∙ e, λ k there. there))
          (λ own.
          let e : nth (j - 1) gs ≡ Some x = ap (λ b. cond b (Some y) (nth (j - 1) gs)) (sym own) ∙ at_ in
          let more = of_rest e in
          (more.0, ap (λ b. cond b (Some y) (nth (j - 1) rest)) own ∙ more.1, more.2)))

  -- a message with its place names an open face, as a transcript shows it
  pub names_open : (places : List Place) (gs : List (Node K)) (A : Fabric K) (m : Sent K) → A.faces ≡ places → A.gateways ≡ map node_shown gs → IsOpen places gs m → NamesOpenFace A m
  unfolding face_numbered
  names_open places gs A m faces_ gateways_ is =
      let shown_ : nth is.place.gateway A.gateways ≡ Some (node_shown is.node) =
      ap (nth is.place.gateway) gateways_ ∙ nth_map node_shown is.place.gateway gs ∙ ap (λ (o : Option (Node K)). (let y : Option (Node K) = elim o [ None ↦ None | Some x ↦ Some (node_shown x) ] in y)) is.node_is in
      let found = found_where (λ f. is.place.face == f.number) is.node.rows.faces is.there in
      subst AtPlace (sym (ap (nth m.face) faces_ ∙ is.place_is)) (subst (AtNode is.place) (sym shown_) (subst (AtFace is.place (node_shown is.node)) (sym found.1) (eq-eqb m.gateway is.place.gateway is.gateway_is)))
    where
      AtFace : Place → Node K → Option (Face K) → Type 0
      AtFace p x o = (let at_face : Option (FaceAt K) = elim o [ None ↦ None | Some f ↦ Some (record { gateway = p.gateway; rows = x.rows; face = f }) ] in is_some_and at_face (λ x. m.gateway == x.gateway)) ≡ true

      AtNode : Place → Option (Node K) → Type 0
      AtNode p o = (let at_node : Option (FaceAt K) = elim o [ None ↦ None | Some x ↦ elim (find_face p.face x.rows) [ None ↦ None | Some f ↦ Some (record { gateway = p.gateway; rows = x.rows; face = f }) ] ] in is_some_and at_node (λ x. m.gateway == x.gateway)) ≡ true

      AtPlace : Option Place → Type 0
      AtPlace o =
          (let at_place : Option (FaceAt K) =
          elim o [ None ↦ None | Some p ↦ elim (nth p.gateway A.gateways) [ None ↦ None | Some x ↦ elim (find_face p.face x.rows) [ None ↦ None | Some f ↦ Some (record { gateway = p.gateway; rows = x.rows; face = f }) ] ] ] in
          is_some_and at_place (λ x. m.gateway == x.gateway)) ≡ true

module _ {K : Type 0} (cmp : K → K → Ordering) (matching : K → K → Bool) where
  -- ---- hearing

  heard_same : (s : Fabric K) (ms : List (Sent K)) (n : ℕ) (g : Rows K) → SameNumbers g (rows_after_hearing cmp s ms n g)
  heard_same s ms n g k = hears g.faces
    where
      hears : (fs : List (Face K)) → has_number k (map (λ f. heard_all cmp g.moment (printed_for (number_of_place s n f.number) ms) f) fs) ≡ has_number k fs
      hears [] = refl
      hears (f ∷ fs) = ap (λ m. (k == m) || has_number k (map (λ f. heard_all cmp g.moment (printed_for (number_of_place s n f.number) ms) f) fs)) (heard_all-number cmp g.moment (printed_for (number_of_place s n f.number) ms) f) ∙ ap (λ b. (k == f.number) || b) (hears fs)

  pub keep_heard : (s : Fabric K) (ms : List (Sent K)) (i : ℕ) (gs : List (Node K)) → KeepFaces gs (gateways_after_hearing cmp s ms i gs)
  unfolding gateways_after_hearing
  keep_heard s ms i [] j x at_ = cc
  keep_heard s ms i (y ∷ gs) j x at_ =
      let z : Node K = record y { rows = rows_after_hearing cmp s ms i y.rows } in
      let rest = gateways_after_hearing cmp s ms (i + 1) gs in
      by_test (j == 1)
      (λ own.
      let e : Some y ≡ Some x = ap (λ b. cond b (Some y) (nth (j - 1) gs)) (sym own) ∙ at_ in
      let is : y ≡ x = cc in
      (z, ap (λ b. cond b (Some z) (nth (j - 1) rest)) own, λ k there. heard_same s ms i y.rows k ∙ subst (λ (w : Node K). has_number k w.rows.faces ≡ true) (sym is) there))
      (λ own.
      let e : nth (j - 1) gs ≡ Some x = ap (λ b. cond b (Some y) (nth (j - 1) gs)) (sym own) ∙ at_ in
      let more = keep_heard s ms (i + 1) gs (j - 1) x e in
      (more.0, ap (λ b. cond b (Some z) (nth (j - 1) rest)) own ∙ more.1, more.2))

  -- what is open when messages are heard was open before
  keep_unheard : (s : Fabric K) (ms : List (Sent K)) (i : ℕ) (gs : List (Node K)) → KeepFaces (gateways_after_hearing cmp s ms i gs) gs
  unfolding gateways_after_hearing
  keep_unheard s ms i [] j x at_ = cc
  keep_unheard s ms i (y ∷ gs) j x at_ =
      let z : Node K = record y { rows = rows_after_hearing cmp s ms i y.rows } in
      let rest = gateways_after_hearing cmp s ms (i + 1) gs in
      by_test (j == 1)
      (λ own.
      let e : Some z ≡ Some x = ap (λ b. cond b (Some z) (nth (j - 1) rest)) (sym own) ∙ at_ in
      let is : z ≡ x = cc in
      (y, ap (λ b. cond b (Some y) (nth (j - 1) gs)) own, λ k there. sym (heard_same s ms i y.rows k) ∙ subst (λ (w : Node K). has_number k w.rows.faces ≡ true) (sym is) there))
      (λ own.
      let e : nth (j - 1) rest ≡ Some x = ap (λ b. cond b (Some z) (nth (j - 1) rest)) (sym own) ∙ at_ in
      let more = keep_unheard s ms (i + 1) gs (j - 1) x e in
      (more.0, ap (λ b. cond b (Some y) (nth (j - 1) gs)) own ∙ more.1, more.2))

  -- ---- one call

  placed_open : (places : List Place) (n k : ℕ) (node : Node K) (gs : List (Node K)) (message : Message K) → nth n gs ≡ Some node → is_placed n k places ≡ true → has_number k node.rows.faces ≡ true → IsOpen places gs (printed places n (k, message))
  placed_open places n k node gs message at_ placed there =
      let number_ : number_from 1 n k places + 1 - 1 ≡ number_from 1 n k places = omega arith in
      record {
        place = record { gateway = n; face = k };
        node = node;
        place_is = ap (λ j. nth j places) (sym number_) ∙ nth_of_number 1 n k places placed;
        node_is = at_;
        gateway_is = refl;
        there = there;
      }

  number_placed : (places : List Place) (n k : ℕ) (fs : List (Face K)) → Each (λ f. is_placed n f.number places ≡ true) fs → has_number k fs ≡ true → is_placed n k places ≡ true
  number_placed places n k [] placed there = never there refl
  number_placed places n k (f ∷ fs) placed there =
      by_test (k == f.number)
      (λ own. subst (λ j. is_placed n j places ≡ true) (sym (eqb-true k f.number own)) placed.0)
      (λ own. number_placed places n k fs placed.1 (rw own at there))

  -- the messages of a call, where all faces that it leaves have their places
  said_open_at : (total : IsTotalOrder cmp) (n : ℕ) (node : Node K) (c : PlainCall K) (change : Rows K → Rows K) (places : List Place) (gs : List (Node K)) → nth n gs ≡ Some node → ListsAreInOrder cmp matching node.rows → Each (λ f. is_placed n f.number places ≡ true) (altered cmp matching c node.rows).faces
      → ((k : ℕ) → has_number k (altered cmp matching c node.rows).faces ≡ true → has_number k (change node.rows).faces ≡ true)
      → Each (IsOpen places (at_nth n (λ (x : Node K). record x { rows = change x.rows }) gs)) (map (printed places n) (said cmp matching c node.rows))
  said_open_at total n node c change places gs at_ lists placed goes =
      let changed : Node K = record node { rows = change node.rows } in
      let before = (altered cmp matching c node.rows).faces in
      let hs = at_nth n (λ (x : Node K). record x { rows = change x.rows }) gs in
      let there_ = nth_at n (λ (x : Node K). record x { rows = change x.rows }) gs node at_ in
      each_map (IsOpen places hs) (printed places n) (said cmp matching c node.rows)
      (each_weaker (λ s. HasFace (rows_after_call cmp matching c node.rows) s.0) (λ s. IsOpen places hs (printed places n s))
      (λ s there.
      let own : has_number s.0 before ≡ true = sym (same_heard cmp matching (said cmp matching c node.rows) (altered cmp matching c node.rows) s.0) ∙ there in
      placed_open places n s.0 changed hs s.1 there_ (number_placed places n s.0 before placed own) (goes s.0 own))
      (said cmp matching c node.rows) (said_for_open cmp matching total c node.rows lists))

  -- ---- links

  keep_opened : (total : IsTotalOrder cmp) (n : ℕ) (zid : Zid) (whatami : WhatAmI) (region : Region) (bound : Bound) (first : ℕ) (gs : List (Node K)) → KeepFaces gs (at_nth n (λ (x : Node K). record x { rows = altered cmp matching (NewTransport zid whatami region bound first) x.rows }) gs)
  unfolding parts_of altered_by
  keep_opened total n zid whatami region bound first gs =
      keep_changed n (altered cmp matching (NewTransport zid whatami region bound first)) gs
      (λ g k there. any-append (λ f. k == f.number) g.faces (face_opened zid whatami region bound first g ∷ []) ∙ or_left (has_number k g.faces) (has_number k (face_opened zid whatami region bound first g ∷ [])) there)

  module _ (total : IsTotalOrder cmp) where
    -- the faces that a call leaves are there
    abbrev pub Goes : PlainCall K → (Rows K → Rows K) → Node K → Type 0
    Goes c change node = (k : ℕ) → has_number k (altered cmp matching c node.rows).faces ≡ true → has_number k (change node.rows).faces ≡ true

    -- what a new face is sent
    pub opening_said_open : (n : ℕ) (node : Node K) (c : PlainCall K) (change : Rows K → Rows K) (s : Fabric K) → nth n s.gateways ≡ Some node → opens_face c ≡ true → FabricIsInOrder cmp matching s → Goes c change node
        → Each (IsOpen (with_place n s).faces (with_rows n change s).gateways) (map (printed (with_place n s).faces n) (said cmp matching c node.rows))
    opening_said_open n node c change s at_ opens fine goes =
        let gateway = gateway_in_order cmp matching s n node at_ fine in
        let p : Place = record { gateway = n; face = next_face (nth n s.gateways) } in
        let places = s.faces ++ p ∷ [] in
        let p_face : p.face ≡ node.rows.made + 1 = ap next_face at_ in
        let new_ : is_placed n (node.rows.made + 1) places ≡ true = subst (λ k. is_placed n k places ≡ true) p_face (placed_new n p.face s.faces) in
        let after = opened_faces cmp matching total (λ k. is_placed n k places ≡ true) c node.rows opens new_ (each_weaker (λ f. is_placed n f.number s.faces ≡ true) (λ f. is_placed n f.number places ≡ true) (λ f there. placed_still n f.number s.faces p there) node.rows.faces gateway.placed) in
        said_open_at total n node c change places s.gateways at_ gateway.rows.lists after.0 goes

    -- what any other call says
    pub call_said_open : (n : ℕ) (node : Node K) (c : PlainCall K) (change : Rows K → Rows K) (s : Fabric K) → nth n s.gateways ≡ Some node → opens_face c ≡ false → FabricIsInOrder cmp matching s → Goes c change node
        → Each (IsOpen s.faces (with_rows n change s).gateways) (map (printed s.faces n) (said cmp matching c node.rows))
    call_said_open n node c change s at_ still fine goes =
        let gateway = gateway_in_order cmp matching s n node at_ fine in
        let after = altered_faces cmp matching total (λ k. is_placed n k s.faces ≡ true) c node.rows still gateway.rows.lists gateway.placed in
        said_open_at total n node c change s.faces s.gateways at_ gateway.rows.lists after.0 goes

    abbrev OpenIn : Fabric K → Sent K → Type 0
    OpenIn X = IsOpen X.faces X.gateways

    -- Opening faces leaves open what is.
    still_opened : (end : LinkEnd K) (X : Fabric K) (m : Sent K) → OpenIn X m → OpenIn (opened_at cmp matching (opening_at cmp matching X end) X) m
    still_opened end X m is =
        by_end cmp matching (λ c. OpenIn (opened_at cmp matching (elim c [ None ↦ None | Some call ↦ call_at X end.gateway call ]) X) m) end is
        (λ zid whatami region bound.
        let c : PlainCall K = NewTransport zid whatami region bound end.first in
        called_at (λ at. OpenIn (opened_at cmp matching at X) m) X end.gateway c is
        (λ node at_. open_still X.faces (record { gateway = end.gateway; face = next_face (nth end.gateway X.gateways) } ∷ []) X.gateways (with_rows end.gateway (altered cmp matching c) X).gateways m (keep_opened total end.gateway zid whatami region bound end.first X.gateways) is))

    all_still_opened : (ends : List (LinkEnd K)) (X : Fabric K) (m : Sent K) → OpenIn X m → OpenIn (opened_ends cmp matching ends X) m
    unfolding opened_ends
    all_still_opened [] X m is = is
    all_still_opened (end ∷ ends) X m is = all_still_opened ends (opened_at cmp matching (opening_at cmp matching X end) X) m (still_opened end X m is)

    end_said_open : (end : LinkEnd K) (X : Fabric K) → FabricIsInOrder cmp matching X → (let at = opening_at cmp matching X end in let Y = opened_at cmp matching at X in Each (OpenIn Y) (said_at cmp matching Y at))
    end_said_open end X fine =
        by_end cmp matching (λ c. (let at : Option (CallAt K) = elim c [ None ↦ None | Some call ↦ call_at X end.gateway call ] in let Y = opened_at cmp matching at X in Each (OpenIn Y) (said_at cmp matching Y at))) end tt
        (λ zid whatami region bound.
        let c : PlainCall K = NewTransport zid whatami region bound end.first in
        called_at (λ at. let Y = opened_at cmp matching at X in Each (OpenIn Y) (said_at cmp matching Y at)) X end.gateway c tt
        (λ node at_. opening_said_open end.gateway node c (altered cmp matching c) X at_ refl fine (λ k there. there)))

    -- what openings say
    pub ends_said_open : (ends : List (LinkEnd K)) (X : Fabric K) → Each (λ end. 1 ≤ end.first) ends → FabricIsInOrder cmp matching X → Each (OpenIn (opened_ends cmp matching ends X)) (said_opening cmp matching ends X)
    unfolding opened_ends said_opening
    ends_said_open [] X real fine = tt
    ends_said_open (end ∷ ends) X real fine =
        let at = opening_at cmp matching X end in
        let Y = opened_at cmp matching at X in
        let ms = said_at cmp matching Y at in
        let H = after_hearing cmp ms Y in
        let Z = opened_ends cmp matching ends Y in
        let alone = end_alone cmp matching total end X real.0 fine in
        let same_ = ends_commute cmp matching total ends ms Y real.1 alone.0 (said_within cmp matching total end X) in
        each_append (OpenIn Z) ms (said_opening cmp matching ends H)
        (each_weaker (OpenIn Y) (OpenIn Z) (λ m is. all_still_opened ends Y m is) ms (end_said_open end X fine))
        (each_weaker (OpenIn (opened_ends cmp matching ends H)) (OpenIn Z)
        (λ m is. open_kept Z.faces (after_hearing cmp ms Z).gateways Z.gateways m (keep_unheard Z ms 1 Z.gateways) (subst (λ (t : Fabric K). OpenIn t m) (sym same_) is))
        (said_opening cmp matching ends H) (ends_said_open ends H real.1 (end_in_order cmp matching total end X real.0 fine)))

    -- ---- what closings say

    -- A face that is closed leaves open what isn't for it.
    still_closed : (face : ℕ) (X : Fabric K) (m : Sent K) → FabricIsInOrder cmp matching X → (face == m.face) ≡ false → OpenIn X m → OpenIn (altered_at cmp matching X (closing_call X face)) m
    still_closed face X m fine other is = by_place (nth face X.faces) refl
      where
        Left : Option (CallAt K) → Type 0
        Left at = OpenIn (altered_at cmp matching X at) m

        p : Place
        p = is.place

        by_gateway : (q : Place) (node : Node K) → nth face X.faces ≡ Some q → nth q.gateway X.gateways ≡ Some node → Left (Some (record { gateway = q.gateway; rows = node.rows; call = CloseFace q.face }))
        by_gateway q node at_ there_ =
            let c : PlainCall K = CloseFace q.face in
            let change = λ (x : Node K). record x { rows = altered cmp matching c x.rows } in
            let hs = at_nth q.gateway change X.gateways in
            by_test (q.gateway == p.gateway)
            (λ own.
            let own_ : q.gateway ≡ p.gateway = eqb-true q.gateway p.gateway own in
            let e : Some node ≡ Some is.node = sym there_ ∙ ap (λ j. nth j X.gateways) own_ ∙ is.node_is in
            let node_ : node ≡ is.node = cc in
            let gateway = gateway_in_order cmp matching X q.gateway node there_ fine in
            let apart : (q.face == p.face) ≡ false = by_test (q.face == p.face) (λ same_. never (eq-eqb face m.face (same_place gateway own_ (eqb-true q.face p.face same_))) other) (λ differ. differ) in
            record {
              place = p;
              node = change node;
              place_is = is.place_is;
              node_is = ap (λ j. nth j hs) (sym own_) ∙ nth_at q.gateway change X.gateways node there_;
              gateway_is = is.gateway_is;
              there = closed_keeps cmp matching total q.face p.face node.rows gateway.rows.lists apart (subst (λ (x : Node K). has_number p.face x.rows.faces ≡ true) (sym node_) is.there);
            })
            (λ away.
            record {
              place = p;
              node = is.node;
              place_is = is.place_is;
              node_is = nth_at_other p.gateway q.gateway change X.gateways (nth_real p.gateway X.gateways is.node is.node_is) (nth_real q.gateway X.gateways node there_) away ∙ is.node_is;
              gateway_is = is.gateway_is;
              there = is.there;
            })
          where
            same_place : GatewayIsInOrder cmp matching X.faces q.gateway node.rows → q.gateway ≡ p.gateway → q.face ≡ p.face → face ≡ m.face
            same_place gateway own_ face_ =
                let rises = gateway.places_rise in
                sym (number_of_nth face X.faces q rises at_)
                ∙ ap (λ j. number_from 1 j q.face X.faces) own_
                ∙ ap (λ k. number_from 1 p.gateway k X.faces) face_
                ∙ number_of_nth m.face X.faces p (subst (λ j. RiseFrom (λ r. r.face) 1 (places_of j X.faces)) own_ rises) is.place_is

        by_node : (q : Place) → nth face X.faces ≡ Some q → (o : Option (Node K)) → nth q.gateway X.gateways ≡ o
            → Left (elim o [ None ↦ None | Some node ↦ Some (record { gateway = q.gateway; rows = node.rows; call = CloseFace q.face }) ])
        by_node q at_ None there_ = is
        by_node q at_ (Some node) there_ = by_gateway q node at_ there_

        by_place : (o : Option Place) → nth face X.faces ≡ o → Left (call_at_place X (CloseFace face) o)
        by_place None at_ = is
        by_place (Some q) at_ = by_node q at_ (nth q.gateway X.gateways) refl

    all_still_closed : (fs : List ℕ) (X : Fabric K) (m : Sent K) → FabricIsInOrder cmp matching X → list_any (λ face. face == m.face) fs ≡ false → OpenIn X m → OpenIn (closed_ends cmp matching fs X) m
    unfolding closed_ends
    all_still_closed [] X m fine away is = is
    all_still_closed (face ∷ fs) X m fine away is =
        let parts = neither (face == m.face) (list_any (λ face. face == m.face) fs) away in
        all_still_closed fs (altered_at cmp matching X (closing_call X face)) m (closing_alone cmp matching total face X fine) parts.1 (still_closed face X m fine parts.0 is)

    closing_said_open : (face : ℕ) (X : Fabric K) → FabricIsInOrder cmp matching X → (let at = closing_call X face in Each (OpenIn (altered_at cmp matching X at)) (said_at cmp matching X at))
    closing_said_open face X fine =
        closing_case cmp matching (λ at. Each (OpenIn (altered_at cmp matching X at)) (said_at cmp matching X at)) X face tt (λ n k node at_. call_said_open n node (CloseFace k) (altered cmp matching (CloseFace k)) X at_ refl fine (λ j there. there))

    -- what closings say to faces that they don't close
    pub closings_said_open : (fs : List ℕ) (X : Fabric K) → FabricIsInOrder cmp matching X → Each (λ m. list_any (λ face. face == m.face) fs ≡ false → OpenIn (closed_ends cmp matching fs X) m) (said_closing cmp matching fs X)
    unfolding closed_ends said_closing
    closings_said_open [] X fine = tt
    closings_said_open (face ∷ fs) X fine =
        let at = closing_call X face in
        let ms = said_at cmp matching X at in
        let Y = altered_at cmp matching X at in
        let H = after_hearing cmp ms Y in
        let Z = closed_ends cmp matching fs Y in
        let same_ = closings_commute cmp matching fs ms Y in
        let away_of = λ (m : Sent K) (h : list_any (λ face. face == m.face) (face ∷ fs) ≡ false). (neither (face == m.face) (list_any (λ face. face == m.face) fs) h).1 in
        each_append (λ m. list_any (λ face. face == m.face) (face ∷ fs) ≡ false → OpenIn Z m) ms (said_closing cmp matching fs H)
        (each_weaker (OpenIn Y) (λ m. list_any (λ face. face == m.face) (face ∷ fs) ≡ false → OpenIn Z m) (λ m is away. all_still_closed fs Y m (closing_alone cmp matching total face X fine) (away_of m away) is) ms (closing_said_open face X fine))
        (each_weaker (λ m. list_any (λ face. face == m.face) fs ≡ false → OpenIn (closed_ends cmp matching fs H) m) (λ m. list_any (λ face. face == m.face) (face ∷ fs) ≡ false → OpenIn Z m)
        (λ m one away. open_kept Z.faces (after_hearing cmp ms Z).gateways Z.gateways m (keep_unheard Z ms 1 Z.gateways) (subst (λ (t : Fabric K). OpenIn t m) (sym same_) (one (away_of m away))))
        (said_closing cmp matching fs H) (closings_said_open fs H (closing_in_order cmp matching total face X fine)))
