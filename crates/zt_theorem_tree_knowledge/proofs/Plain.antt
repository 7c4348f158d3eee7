-- Lines that make a gateway or open a plain face, in a script of trees.
use Rattle.std.proofs.Common.{◌≡◌, ℕ, ◌+◌, ◌≤◌, ◌<◌, Bool, true, false, not, List, [], ◌∷◌, ◌++◌, length, map, Option, Some, None, is_none, refl, sym, ap, ◌∙◌, subst, arith}
use Rattle.std.proofs.lemmas.Bool.{and_parts}
use Rattle.std.specs.Cmp.{IsTotalOrder}
use Rattle.std.specs.List.{list_any}
use Rattle.std.specs.declared.cmp.Ordering.{Ordering}
use Rattle.std.specs.declared.cmp.Ordering.TheVariants.{Equal}
use Rattle.zt_region.specs.declared.region.Bound.{Bound}
use Rattle.zt_region.specs.declared.region.Region.{Region}
use Rattle.zt_region.specs.declared.region.Region.TheVariants.{North, Local, South}
use Rattle.zt_region.specs.declared.region.WhatAmI.{WhatAmI}
use Rattle.zt_region.specs.declared.region.WhatAmI.TheVariants.{Router, Peer, Client}
use Rattle.zt_region.specs.declared.region.Zid.{Zid}
use Rattle.zt_region.specs.Region.{bound_eq, is_north, whatami_eq}
use Rattle.zt_region.specs.South.{PlainSouth}
use Rattle.zt_protocol.specs.Plain.{PlainCall, NewSession, NewTransport, PlainLine, Gateway, Session, Face as FaceLine}
use Rattle.zt_protocol.specs.declared.entries.Sent.{Sent}
use Rattle.zt_protocol.specs.declared.errors.Refusal.TheVariants as refusal
use Rattle.zt_protocol.specs.declared.messages.Message.{Message}
use Rattle.zt_model.specs.Fabric.{CallAt, Fabric, Node, Place, after_hearing, altered_by_line, line_causes, call_of, causes_of_call, is_full, new_rows, next_face, number_from, number_of_place, opened_at, said_at, said_by_line, sorted_by_face, with_gateway, with_place, with_session, with_waiting}
use Rattle.zt_model.specs.Hat.{hat_of}
use Rattle.zt_model.specs.Hearing.{heard_all, messages_for, rows_heard}
use Rattle.zt_model.specs.Linking.{is_end_of}
use Rattle.zt_model.specs.Lists.{nth}
use Rattle.zt_model.specs.Parts.{altered_by}
use Rattle.zt_model.specs.Refusals.{call_causes, first_cause}
use Rattle.zt_model.specs.Rows.{ById, Face}
use Rattle.zt_model.specs.Says.{altered, parts_of, said, said_by}
use Rattle.zt_model.specs.Transcript.{Each}
use Rattle.zt_model.specs.Strategy.{is_region_of}
use Rattle.zt_model.specs.TreePromises.{LeadsUpByLink, is_client_region, is_plain}
use Rattle.zt_model.proofs.Hats.{fits_south}
use Rattle.zt_laws.specs.Order.{FabricIsInOrder}
use Rattle.zt_laws.specs.Sound.{opens_face, places_of, rows_after_call}
use Rattle.zt_laws.proofs.Calls.{no_cause}
use Rattle.zt_laws.proofs.Entries.{nth-at_nth}
use Rattle.zt_laws.proofs.Gateways.{PrintsSends, after_hearing_nothing, prints_map, prints_sorted}
use Rattle.zt_laws.proofs.Hearing.{heard_all-number, heard_all-region}
use Rattle.zt_laws.proofs.Lists.{by_test, each_weaker, never}
use Rattle.zt_laws.proofs.LinesOrder.{gateway_in_order}
use Rattle.zt_laws.proofs.Places.{not_placed_yet, number_new}
use Rattle.zt_theorem_tree_invariant.specs.Facts.{IsTreeGateway, TreesAgree}
use Rattle.zt_theorem_tree_invariant.proofs.After.{with_nothing}
use Rattle.zt_theorem_tree_invariant.proofs.Making.{changes, opened_is}
use Rattle.zt_theorem_tree_invariant.proofs.Members.{each_gateway_nth, each_nth}
use Rattle.zt_theorem_tree_knowledge.proofs.Opening.{tree_after_session, tree_after_south}
use Rattle.zt_theorem_tree_knowledge.proofs.Opened.{after_opened, end_made, trees_after_gateway, trees_after_opened}
use Rattle.zt_theorem_tree_knowledge.proofs.Premise.{FacesMayFormTrees, IsOfClientsIfListed}

-- ---- tables

pub is_client : (mode : WhatAmI) → whatami_eq mode Client ≡ true → mode ≡ Client
is_client Router h = cc
is_client Peer h = cc
is_client Client h = refl

pub not_false : (b : Bool) → not b ≡ false → b ≡ true
not_false true h = refl
not_false false h = cc

-- a client's face
pub record IsBelow (region : Region) (whatami : WhatAmI) : Type 0 where
  pub id : ℕ
  pub region_is : region ≡ South id Client
  pub whatami_is : whatami ≡ Client

-- a client region that isn't to the north
pub is_below : (mode : WhatAmI) (region : Region) (whatami : WhatAmI) (bound : Bound) → (hat_of mode region).fits region whatami bound ≡ true → is_client_region region ≡ true → is_north region ≡ false → IsBelow region whatami
is_below mode North whatami bound fits_ client down = never refl down
is_below mode Local whatami bound fits_ client down = never fits_ refl
is_below mode (South id remote) whatami bound fits_ client down =
    let remote_is : remote ≡ Client = is_client remote client in
    let own : whatami ≡ remote = whatami_same whatami remote (and_parts (whatami_eq whatami remote) (bound_eq bound _) (sym (fits_south mode id remote whatami bound) ∙ fits_)).0 in
    record { id = id; region_is = ap (South id) remote_is; whatami_is = own ∙ remote_is }
  where
    whatami_same : (a b : WhatAmI) → whatami_eq a b ≡ true → a ≡ b
    whatami_same Router Router h = refl
    whatami_same Router Peer h = cc
    whatami_same Router Client h = cc
    whatami_same Peer Router h = cc
    whatami_same Peer Peer h = refl
    whatami_same Peer Client h = cc
    whatami_same Client Router h = cc
    whatami_same Client Peer h = cc
    whatami_same Client Client h = refl

each_last : {A B : Type 0} (P : B → Type 0) (make : A → B) (xs : List A) (x : A) → Each P (map make (xs ++ x ∷ [])) → P (make x)
each_last P make [] x all = all.0
each_last P make (y ∷ xs) x all = each_last P make xs x all.1

module _ {K : Type 0} (cmp : K → K → Ordering) (matching : K → K → Bool) (total : IsTotalOrder cmp) (equal_is_same : (a b : K) → cmp a b ≡ Equal → a ≡ b) (s : Fabric K) (fine : FabricIsInOrder cmp matching s) (agree : TreesAgree cmp matching s) where
  -- ---- the new face

  module _ (n : ℕ) (node : Node K) (at_n : nth n s.gateways ≡ Some node) (c : PlainCall K) (opens : opens_face c ≡ true) (ms : List (Sent K)) (prints : PrintsSends (with_place n s).faces n (said cmp matching c node.rows) ms) where
    abbrev opened_now : Fabric K
    opened_now = after_opened cmp matching total s fine agree n node at_n c opens ms prints

    node_now : nth n opened_now.gateways ≡ Some (changes cmp matching total s fine agree n node at_n c opens ms prints node)
    node_now = nth-at_nth n (changes cmp matching total s fine agree n node at_n c opens ms prints) s.gateways node at_n

    number_now : number_of_place opened_now n (node.rows.made + 1) ≡ 1 + length s.faces
    number_now =
        let gateway = gateway_in_order cmp matching s n node at_n fine in
        let below = each_weaker (λ (p : Place). p.face ≤ node.rows.made) (λ p. p.face < node.rows.made + 1) (λ p le. omega arith) (places_of n s.faces) gateway.places_made in
        ap (λ k. number_from 1 n (node.rows.made + 1) (s.faces ++ record { gateway = n; face = k } ∷ [])) (ap next_face at_n) ∙ number_new 1 n (node.rows.made + 1) s.faces (not_placed_yet n (node.rows.made + 1) s.faces below)

    -- a new face leads down, since it ends no link
    pub leads_down : FacesMayFormTrees opened_now → (f : Face K) → (altered cmp matching c node.rows).faces ≡ node.rows.faces ++ f ∷ [] → f.number ≡ node.rows.made + 1 → is_north f.region ≡ false
    unfolding rows_heard
    leads_down trees f faces_ made =
        let g = altered cmp matching c node.rows in
        let ss = said cmp matching c node.rows in
        let hears = λ (k : Face K). heard_all cmp g.moment (messages_for k.number ss) k in
        let all : Each (LeadsUpByLink opened_now n (rows_after_call cmp matching c node.rows)) (map hears g.faces) = each_gateway_nth (λ j (x : Node K). Each (LeadsUpByLink opened_now j x.rows) x.rows.faces) 1 n n opened_now.gateways (changes cmp matching total s fine agree n node at_n c opens ms prints node) (omega arith) trees.north node_now in
        let own : LeadsUpByLink opened_now n (rows_after_call cmp matching c node.rows) (hears f) = each_last (LeadsUpByLink opened_now n (rows_after_call cmp matching c node.rows)) hears node.rows.faces f (subst (λ (fs : List (Face K)). Each (LeadsUpByLink opened_now n (rows_after_call cmp matching c node.rows)) (map hears fs)) faces_ all) in
        let region_ : (hears f).region ≡ f.region = heard_all-region cmp g.moment (messages_for f.number ss) f in
        let number_ : (hears f).number ≡ node.rows.made + 1 = heard_all-number cmp g.moment (messages_for f.number ss) f ∙ made in
        by_test (is_north f.region)
        (λ up.
        let plain : is_plain opened_now n (hears f) ≡ false = (own (ap is_north region_ ∙ up)).1 in
        let ends : list_any (is_end_of (number_of_place opened_now n (hears f).number)) s.links ≡ true = not_false _ plain in
        let ends_new : list_any (is_end_of (1 + length s.faces)) s.links ≡ true = ap (λ k. list_any (is_end_of k) s.links) (sym (ap (number_of_place opened_now n) number_ ∙ number_now)) ∙ ends in
        let within = end_made s (1 + length s.faces) agree.links.made ends_new in
        absurd (omega arith))
        (λ down. down)

    -- and stands where clients do
    pub stands_below : FacesMayFormTrees opened_now → (f : Face K) → (altered cmp matching c node.rows).faces ≡ node.rows.faces ++ f ∷ [] → is_region_of (altered cmp matching c node.rows).regions f.region ≡ true → is_client_region f.region ≡ true
    unfolding rows_heard
    stands_below trees f faces_ listed =
        let g = altered cmp matching c node.rows in
        let ss = said cmp matching c node.rows in
        let hears = λ (k : Face K). heard_all cmp g.moment (messages_for k.number ss) k in
        let all : Each (IsOfClientsIfListed g) (map hears g.faces) = each_gateway_nth (λ j (x : Node K). Each (IsOfClientsIfListed x.rows) x.rows.faces) 1 n n opened_now.gateways (changes cmp matching total s fine agree n node at_n c opens ms prints node) (omega arith) trees.south node_now in
        let own : IsOfClientsIfListed g (hears f) = each_last (IsOfClientsIfListed g) hears node.rows.faces f (subst (λ (fs : List (Face K)). Each (IsOfClientsIfListed g) (map hears fs)) faces_ all) in
        let region_ : (hears f).region ≡ f.region = heard_all-region cmp g.moment (messages_for f.number ss) f in
        ap is_client_region (sym region_) ∙ own (ap (is_region_of g.regions) region_ ∙ listed)

  -- ---- lines

  abbrev Then : PlainLine K → Fabric K
  Then line = with_waiting (sorted_by_face (said_by_line cmp matching line s)) (after_hearing cmp (sorted_by_face (said_by_line cmp matching line s)) (altered_by_line cmp matching line s))

  pub nothing_said : (t : Fabric K) → with_waiting (sorted_by_face []) (after_hearing cmp (sorted_by_face []) t) ≡ t
  unfolding sorted_by_face
  nothing_said t = ap (with_waiting []) (after_hearing_nothing cmp t) ∙ ap (λ (w : ById (List (Message K))). record t { waiting = w }) (with_nothing t.waiting)

  pub after_gateway : (mode : WhatAmI) (zid : Zid) (regions : List Region) (south : PlainSouth) (name : Option (List ℕ)) (timeout : ℕ) (refused : List (Region × Region)) → TreesAgree cmp matching (Then (Gateway mode zid regions south name timeout refused))
  unfolding call_of said_by_line altered_by_line
  after_gateway mode zid regions south name timeout refused =
      let node : Node K = record { rows = new_rows mode zid regions timeout refused; south = south; name = name } in
      subst (TreesAgree cmp matching) (sym (nothing_said (with_gateway node s)))
      (trees_after_gateway cmp matching total s fine agree node refl (record { faces = tt; one_north = omega arith; own_rows = tt; dictionary = omega arith; drawn = tt; asks_above = tt }))

  pub after_session : (spent : Bool) (n first : ℕ) → first_cause (line_causes cmp matching spent (Session n first) s) ≡ None → TreesAgree cmp matching (Then (Session n first))
  unfolding line_causes call_of said_by_line altered_by_line parts_of said_by altered_by sorted_by_face
  after_session spent n first accepted = cases (nth n s.gateways) refl (no_cause _ _ _ accepted).0
    where
      G : Option (CallAt K) → Type 0
      G at = TreesAgree cmp matching (with_waiting (sorted_by_face (said_at cmp matching s at)) (after_hearing cmp (sorted_by_face (said_at cmp matching s at)) (with_session n first s)))

      cases : (o : Option (Node K)) → nth n s.gateways ≡ o → is_none o ≡ false → G (elim o [ None ↦ None | Some node ↦ Some (record { gateway = n; rows = node.rows; call = NewSession first }) ])
      cases None at_ known = never refl known
      cases (Some node) at_ known =
          let c : PlainCall K = NewSession first in
          let prints = prints_map (with_place n s).faces n (said cmp matching c node.rows) in
          subst (TreesAgree cmp matching) (sym (opened_is cmp matching total s fine agree n node at_ c refl [] prints))
          (trees_after_opened cmp matching total s fine agree n node at_ c refl [] prints
          (tree_after_session cmp matching total equal_is_same first node.rows (gateway_in_order cmp matching s n node at_ fine).rows (each_nth (λ (x : Node K). IsTreeGateway cmp matching x.rows) n s.gateways node agree.gateways at_)))

  pub after_face : (spent : Bool) (n : ℕ) (mode : WhatAmI) (zid : Zid) (region : Region) (bound : Bound) (first : ℕ) → first_cause (line_causes cmp matching spent (FaceLine n mode zid region bound first) s) ≡ None → FacesMayFormTrees (Then (FaceLine n mode zid region bound first)) → TreesAgree cmp matching (Then (FaceLine n mode zid region bound first))
  unfolding line_causes call_causes call_of said_by_line altered_by_line parts_of altered_by rows_heard
  after_face spent n mode zid region bound first accepted trees = cases (nth n s.gateways) refl accepted trees
    where
      c : PlainCall K
      c = NewTransport zid mode region bound first

      T : Option (CallAt K) → Fabric K
      T at = with_waiting (sorted_by_face (said_at cmp matching (opened_at cmp matching at s) at)) (after_hearing cmp (sorted_by_face (said_at cmp matching (opened_at cmp matching at s) at)) (opened_at cmp matching at s))

      cases : (o : Option (Node K)) → nth n s.gateways ≡ o
          → first_cause ((is_none o, refusal.UnknownGateway) ∷ causes_of_call cmp matching spent (elim o [ None ↦ None | Some node ↦ Some (record { gateway = n; rows = node.rows; call = c }) ]) ++ (is_full s.faces, refusal.NumbersSpent) ∷ []) ≡ None
          → FacesMayFormTrees (T (elim o [ None ↦ None | Some node ↦ Some (record { gateway = n; rows = node.rows; call = c }) ])) → TreesAgree cmp matching (T (elim o [ None ↦ None | Some node ↦ Some (record { gateway = n; rows = node.rows; call = c }) ]))
      cases None at_ accepted_ trees_ = never refl (no_cause _ _ _ accepted_).0
      cases (Some node) at_ accepted_ trees_ =
          let ms = sorted_by_face (said_at cmp matching (with_place n s) (Some (record { gateway = n; rows = node.rows; call = c }))) in
          let prints = prints_sorted (with_place n s).faces n (said cmp matching c node.rows) in
          let is = opened_is cmp matching total s fine agree n node at_ c refl ms prints in
          let now_ : FacesMayFormTrees (opened_now n node at_ c refl ms prints) = subst FacesMayFormTrees is trees_ in
          let one = no_cause _ _ _ accepted_ in
          let two = no_cause _ _ _ one.1 in
          let three = no_cause _ _ _ two.1 in
          let down = leads_down n node at_ c refl ms prints now_ _ refl refl in
          let below = is_below node.rows.mode region mode bound (not_false _ three.0) (stands_below n node at_ c refl ms prints now_ _ refl (not_false _ two.0)) down in
          let tree = tree_after_south cmp matching total equal_is_same zid below.id bound first node.rows (gateway_in_order cmp matching s n node at_ fine).rows (each_nth (λ (x : Node K). IsTreeGateway cmp matching x.rows) n s.gateways node agree.gateways at_) in
          let tree_c : IsTreeGateway cmp matching (rows_after_call cmp matching c node.rows) =
          subst (λ r. IsTreeGateway cmp matching (rows_after_call cmp matching (NewTransport zid mode r bound first) node.rows)) (sym below.region_is) (subst (λ m. IsTreeGateway cmp matching (rows_after_call cmp matching (NewTransport zid m (South below.id Client) bound first) node.rows)) (sym below.whatami_is) tree) in
          subst (TreesAgree cmp matching) (sym is) (trees_after_opened cmp matching total s fine agree n node at_ c refl ms prints tree_c)
