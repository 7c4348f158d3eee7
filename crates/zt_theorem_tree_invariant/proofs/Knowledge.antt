-- Where nothing waits, faces know what is plainly live in their tree.
use Rattle.std.proofs.Common.{◌≡◌, ℕ, zero, suc, ◌+◌, ◌<◌, Bool, true, false, ◌&&◌, ◌==◌, not, length, Option, Some, None, refl, sym, ap, ◌∙◌, subst, arith, ⊎_elim}
use Rattle.std.proofs.lemmas.Bool.{and_from, and_parts, or_cases, or_left, or_right}
use Rattle.std.specs.List.{list_any}
use Rattle.std.specs.declared.cmp.Ordering.{Ordering}
use Rattle.std.specs.declared.cmp.Ordering.TheVariants.{Less, Equal, Greater}
use Rattle.std.specs.Ordering.{is_eq, nat_cmp, ordering_then}
use Rattle.std.proofs.lemmas.Cmp.{ranked}
use Rattle.zt_region.specs.declared.region.Region.{Region}
use Rattle.zt_region.specs.declared.region.Region.TheVariants.{North}
use Rattle.zt_region.specs.declared.region.WhatAmI.{WhatAmI}
use Rattle.zt_region.specs.declared.region.WhatAmI.TheVariants.{Client}
use Rattle.zt_region.specs.Region.{is_north, region_eq, region_eq-refl, region_eq-same}
use Rattle.zt_protocol.specs.Interest.{is_current, is_future, has_tokens}
use Rattle.zt_model.specs.Fabric.{Fabric, Node}
use Rattle.zt_model.specs.Hat.{hat}
use Rattle.zt_model.specs.Lists.{is_some_and, nth, same}
use Rattle.zt_model.specs.Routing.{asks_same, expression_order}
use Rattle.zt_model.specs.Rows.{ById, Face, InterestRow, Rows}
use Rattle.zt_model.specs.Strategy.{Strategy, BrokerHat, ClientHat, PeerHat, RouterHat, strategy_of}
use Rattle.zt_model.specs.Linking.{is_end_of}
use Rattle.zt_model.specs.Parts.{find_face, is_routed}
use Rattle.zt_model.specs.Transcript.{Each, FaceAt, face_numbered}
use Rattle.zt_model.specs.TreePromises.{IsInTree, Itself, Beyond, IsPlainlyLive, KnowsItsTree, LeadsUpByLink, are_links_empty, is_plain_number}
use Rattle.zt_model.specs.Visible.{keeps, shows}
use Rattle.zt_model.specs.Wants.{asks_token, covers, is_about}
use Rattle.zt_model.proofs.Hats.{covers_is, shares_tokens_by_region, shows_others}
use Rattle.zt_laws.specs.Keeping.{AllKeepRight, FacesKeepRight, KeepsRight}
use Rattle.zt_laws.specs.Order.{FabricIsInOrder}
use Rattle.zt_laws.proofs.Hearing.{find_each}
use Rattle.zt_laws.proofs.Keys.{is_equal}
use Rattle.zt_laws.proofs.Lists.{any-filter, any_from_filter, any_member, any_weaker, by_test, never}
use Rattle.zt_laws.proofs.Seen.{owed_is}
use Rattle.zt_theorem_tree_invariant.specs.Facts.{AsksAbove, IsTreeFace, IsTreeGateway, TreesAgree, token_interests}
use Rattle.zt_theorem_tree_invariant.specs.Joints.{are_joined}
use Rattle.zt_theorem_tree_invariant.specs.Trees.{FacesFormTrees, RefusesNoFaces, has_face_in}
use Rattle.zt_theorem_tree_invariant.proofs.Admitted.{admitted_if_shown}
use Rattle.zt_theorem_tree_invariant.proofs.Climbing.{IsUnder, Same, StepUp, Up, any_found, at_gateway, is_at_its, joint_links, meet_at, walk}
use Rattle.zt_theorem_tree_invariant.proofs.Members.{each_gateway_nth, each_nth, is_there, number_is_its, some_face}
use Rattle.zt_theorem_tree_invariant.proofs.Quiet.{IsQuiet, gateway_of, is_live, is_shown_by, joined_back, quiet_joint, visible_by_faces}

-- a north-bound face is shown what stands elsewhere, and any other all
north_shows : (mode : WhatAmI) (region own : Region) → is_north own ≡ true → shows mode own region ≡ true → is_north region ≡ false
north_shows mode region own up shown =
    let own_is : own ≡ North = region_eq-same own North up in
    by_test (is_north region) (λ here. never (subst (λ r. shows mode r region ≡ true) own_is shown) (rw (shares_tokens_by_region mode Client North, here) refl)) (λ h. h)

shows_north : (mode : WhatAmI) (region own : Region) → is_north own ≡ true → is_north region ≡ false → shows mode own region ≡ true
shows_north mode region own up elsewhere = shows_others mode own region (ap (region_eq region) (region_eq-same own North up) ∙ elsewhere)

pub is_no_router : {K : Type 0} (g : Rows K) (f : Face K) → IsTreeFace g.mode f → is_routed g f ≡ false
is_no_router g f face =
    by_test (is_north f.region)
    (λ up. let leads = face.up up in rw (leads.own, region_eq-same f.region North up) refl)
    (λ down. goes_without (strategy_of g.mode f.region) (face.down down).shares)
  where
    -- the hat whose faces are shown each other's tokens goes by no trees
    goes_without : (s : Strategy) → (hat s).shares_tokens ≡ true → (hat s).goes_by_trees ≡ false
    goes_without BrokerHat shares = refl
    goes_without ClientHat shares = refl
    goes_without PeerHat shares = refl
    goes_without RouterHat shares = cc

-- interests that ask for the same are about the same expressions
module _ {K : Type 0} (cmp : K → K → Ordering) (matching : K → K → Bool) (equal_is_same : (a b : K) → cmp a b ≡ Equal → a ≡ b) where
  both_equal : (o p : Ordering) → is_eq (ordering_then o p) ≡ true → (is_eq o ≡ true) × (is_eq p ≡ true)
  both_equal Less p h = cc
  both_equal Equal p h = (refl, h)
  both_equal Greater p h = cc

  about_same : (a b : Option K) (e : K) → is_eq (expression_order cmp matching a b) ≡ true → is_about matching a e ≡ is_about matching b e
  about_same None None e h = refl
  about_same None (Some b) e h = cc
  about_same (Some a) None e h = cc
  about_same (Some a) (Some b) e h = ap (λ k. matching k e) (equal_is_same a b (is_equal (cmp a b) h))

  pub asks_alike : (a b : InterestRow K) (e : K) → asks_same cmp matching a b ≡ true → asks_token matching a e ≡ asks_token matching b e
  asks_alike a b e h =
      let parts = both_equal (expression_order cmp matching a.expr b.expr) (nat_cmp a.options.0 b.options.0) h in
      let bits : a.options.0 ≡ b.options.0 = ranked a.options.0 b.options.0 Equal (sym (is_equal (nat_cmp a.options.0 b.options.0) parts.1)) in
      ap (λ (n : ℕ). has_tokens (record { 0 = n }) && is_about matching a.expr e) bits ∙ ap (λ c. has_tokens b.options && c) (about_same a.expr b.expr e parts.0)

module _ {K : Type 0} (cmp : K → K → Ordering) (matching : K → K → Bool) (s : Fabric K) (fine : FabricIsInOrder cmp matching s) (agree : TreesAgree cmp matching s) (trees : FacesFormTrees s) (keep : AllKeepRight cmp matching s) (quiet : are_links_empty s ≡ true) where
  -- what holds of a face
  record Known (k : ℕ) (x : FaceAt K) : Type 0 where
    node : Node K
    node_is : nth x.gateway s.gateways ≡ Some node
    rows_are : node.rows ≡ x.rows
    gateway : IsTreeGateway cmp matching x.rows
    face : IsTreeFace x.rows.mode x.face
    keeps_ : KeepsRight cmp matching x.rows x.face
    refused : RefusesNoFaces x.gateway node
    stands : has_face_in x.rows x.face.region ≡ true

  known : (k : ℕ) (x : FaceAt K) → face_numbered s k ≡ Some x → Known k x
  known k x found =
      let at_ = is_there s k x found in
      let gateway = gateway_of cmp matching s k x agree found in
      let face = find_each (IsTreeFace x.rows.mode) (λ (f : Face K). x.face.number == f.number) x.rows.faces x.face gateway.faces at_.face_is in
      let keep_all : FacesKeepRight cmp matching x.rows = subst (FacesKeepRight cmp matching) at_.rows_are (each_nth (λ (node : Node K). FacesKeepRight cmp matching node.rows) x.gateway s.gateways at_.node keep at_.node_is) in
      record {
        node = at_.node;
        node_is = at_.node_is;
        rows_are = at_.rows_are;
        gateway = gateway;
        face = face;
        keeps_ = find_each (λ f. is_routed x.rows f ≡ false → KeepsRight cmp matching x.rows f) (λ (f : Face K). x.face.number == f.number) x.rows.faces x.face keep_all at_.face_is (is_no_router x.rows x.face face);
        refused = each_gateway_nth RefusesNoFaces 1 x.gateway x.gateway s.gateways at_.node (omega arith) trees.admitted at_.node_is;
        stands = any_found (λ (f : Face K). x.face.number == f.number) (λ f. region_eq f.region x.face.region) x.rows.faces x.face at_.face_is (region_eq-refl x.face.region);
      }

  -- some face of the gateway has the expression live
  abbrev LivesAt : ℕ → K → Type 0
  LivesAt n e = (node : Node K) × (nth n s.gateways ≡ Some node) × (list_any (is_live cmp e) node.rows.faces ≡ true)

  -- some face that leads down has
  abbrev LivesBelow : ℕ → K → Type 0
  LivesBelow n e = (node : Node K) × (nth n s.gateways ≡ Some node) × (list_any (λ f. not (is_north f.region) && is_live cmp e f) node.rows.faces ≡ true)

  -- what a face keeps is live at its gateway; what a face that leads up keeps, at one that leads down
  kept_lives : (k : ℕ) (x : FaceAt K) (e : K) → face_numbered s k ≡ Some x → keeps cmp x.face e ≡ true → LivesAt x.gateway e
  kept_lives k x e found kept =
      let here = known k x found in
      let seen = sym (visible_by_faces cmp x.rows x.face.region e here.gateway.own_rows) ∙ here.keeps_.kept_is_visible e kept in
      (here.node, here.node_is, any_weaker (is_shown_by cmp x.rows.mode x.face.region e) (is_live cmp e) (λ f h. (and_parts (is_live cmp e f) (shows x.rows.mode x.face.region f.region) h).0) here.node.rows.faces (rw (here.rows_are) seen))

  kept_lives_below : (k : ℕ) (x : FaceAt K) (e : K) → face_numbered s k ≡ Some x → is_north x.face.region ≡ true → keeps cmp x.face e ≡ true → LivesBelow x.gateway e
  kept_lives_below k x e found up kept =
      let here = known k x found in
      let seen = sym (visible_by_faces cmp x.rows x.face.region e here.gateway.own_rows) ∙ here.keeps_.kept_is_visible e kept in (
        here.node,
        here.node_is,
        any_weaker (is_shown_by cmp x.rows.mode x.face.region e) (λ f. not (is_north f.region) && is_live cmp e f)
            (λ f h. let parts = and_parts (is_live cmp e f) (shows x.rows.mode x.face.region f.region) h in and_from (not (is_north f.region)) (is_live cmp e f) (rw (north_shows x.rows.mode f.region x.face.region up parts.1) refl) parts.0)
            here.node.rows.faces (rw (here.rows_are) seen),
      )

  -- ---- what is kept is plainly live

  -- further from where it is seen
  beyond : (g h : ℕ) (e : K) → IsInTree s g h → IsPlainlyLive cmp matching s h e → IsPlainlyLive cmp matching s g e
  beyond g h e path live = record { face = live.face; at_gateway = live.at_gateway; place = live.place; in_tree = walk s g h live.at_gateway path live.in_tree; live = live.live }

  -- a step goes both ways
  down_step : (a b : ℕ) (x y : FaceAt K) → are_joined s a b ≡ true → face_numbered s a ≡ Some x → face_numbered s b ≡ Some y → IsInTree s y.gateway x.gateway
  down_step a b x y joined x_is y_is = Beyond y.gateway y.gateway x.gateway (Itself y.gateway) (joint_links s b a y x (joined_back s a b joined) y_is x_is)

  up_step : (a b : ℕ) (x y : FaceAt K) → are_joined s a b ≡ true → face_numbered s a ≡ Some x → face_numbered s b ≡ Some y → IsInTree s x.gateway y.gateway
  up_step a b x y joined x_is y_is = Beyond x.gateway x.gateway y.gateway (Itself x.gateway) (joint_links s a b x y joined x_is y_is)

  plainly : (k : ℕ) (x : FaceAt K) (e : K) → face_numbered s k ≡ Some x → is_live cmp e x.face ≡ true → is_plain_number s k ≡ true → IsPlainlyLive cmp matching s x.gateway e
  plainly k x e found live plain = record {
    face = k;
    at_gateway = x.gateway;
    place = is_at_its s k x found;
    in_tree = Itself x.gateway;
    live = rw (plain, found) live;
  }

  -- Downwards: a live token of a face that leads down is plainly live there or is told from below, where another is.
  -- The rank rises, and is bounded.
  lives_below : (fuel n : ℕ) (e : K) → length s.gateways < agree.forest.rank n + fuel → LivesBelow n e → IsPlainlyLive cmp matching s n e
  lives_below zero n e less lives = let within = agree.forest.within n in absurd (omega arith)
  lives_below (suc fuel) n e less lives =
      let node = lives.0 in
      let some = some_face cmp matching s n node (λ f. not (is_north f.region) && is_live cmp e f) fine lives.1 lives.2 in
      let y : FaceAt K = record { gateway = n; rows = node.rows; face = some.face } in
      let parts = and_parts (not (is_north some.face.region)) (is_live cmp e some.face) some.passes in
      by_test (is_plain_number s some.number)
      (λ plain. plainly some.number y e some.is parts.1 plain)
      (λ linked.
      let joined = agree.links.stay some.number y some.is (not_from linked) in
      let ends = agree.links.meet some.number joined.other joined.joined in
      let same_ : ends.one ≡ y = some_is (sym ends.one_is ∙ some.is) in
      let up : is_north ends.two.face.region ≡ true = ends.one_leads_up ∙ ap (λ (z : FaceAt K). not (is_north z.face.region)) same_ ∙ parts.0 in
      let back = joined_back s some.number joined.other joined.joined in
      let rank_ : agree.forest.rank n < agree.forest.rank ends.two.gateway = agree.forest.falls joined.other some.number ends.two y back ends.two_is some.is up in
      let q = quiet_joint cmp matching s joined.other some.number ends.two y agree quiet back ends.two_is some.is up in
      let kept : keeps cmp ends.two.face e ≡ true = ap (λ (rows : ById K). list_any (λ row. same cmp e row.1) rows) (sym q.live_above) ∙ parts.1 in
      beyond n ends.two.gateway e (down_step joined.other some.number ends.two y back ends.two_is some.is)
      (lives_below fuel ends.two.gateway e (omega arith) (kept_lives_below joined.other ends.two e ends.two_is up kept)))
    where
      not_from : {b : Bool} → not b ≡ false → b ≡ true
      not_from {b} h = by_test b (λ e. e) (λ e. let t : not b ≡ true = ap not e in never t h)

      some_is : {A : Type 0} {u v : A} → Some u ≡ Some v → u ≡ v
      some_is h = cc

  -- a face that leads up ends a link
  leads_up_by_link : (k : ℕ) (x : FaceAt K) → face_numbered s k ≡ Some x → is_north x.face.region ≡ true → list_any (is_end_of k) s.links ≡ true
  leads_up_by_link k x found up =
      let there = is_there s k x found in
      let faces = each_gateway_nth (λ n (node : Node K). Each (LeadsUpByLink s n node.rows) node.rows.faces) 1 x.gateway x.gateway s.gateways there.node (omega arith) trees.north there.node_is in
      let own = find_each (LeadsUpByLink s x.gateway there.node.rows) (λ (f : Face K). x.face.number == f.number) there.node.rows.faces x.face faces (ap (find_face x.face.number) there.rows_are ∙ there.face_is) in
      let plain : is_plain_number s k ≡ false = ap (is_plain_number s) (sym (number_is_its cmp matching s k x fine found)) ∙ (own up).1 in
      by_test (list_any (is_end_of k) s.links) (λ e. e) (λ e. let t : is_plain_number s k ≡ true = ap not e in never t plain)

  -- Upwards: a live token of a face that leads up is told from above, where some face has it live. The rank falls.
  lives : (fuel n : ℕ) (e : K) → agree.forest.rank n < fuel → LivesAt n e → IsPlainlyLive cmp matching s n e
  lives zero n e less at_ = absurd (omega arith)
  lives (suc fuel) n e less at_ =
      let node = at_.0 in
      let some = some_face cmp matching s n node (is_live cmp e) fine at_.1 at_.2 in
      let x : FaceAt K = record { gateway = n; rows = node.rows; face = some.face } in
      by_test (is_north some.face.region)
      (λ up.
      let g = known some.number x some.is in
      let plain = leads_up_by_link some.number x some.is up in
      let joined = agree.links.stay some.number x some.is plain in
      let ends = agree.links.meet some.number joined.other joined.joined in
      let rank_ : agree.forest.rank ends.two.gateway < agree.forest.rank n = agree.forest.falls some.number joined.other x ends.two joined.joined some.is ends.two_is up in
      let q = quiet_joint cmp matching s some.number joined.other x ends.two agree quiet joined.joined some.is ends.two_is up in
      let kept : keeps cmp ends.two.face e ≡ true = ap (λ (rows : ById K). list_any (λ row. same cmp e row.1) rows) (sym q.live_below) ∙ some.passes in
      beyond n ends.two.gateway e (up_step some.number joined.other x ends.two joined.joined some.is ends.two_is)
      (lives fuel ends.two.gateway e (omega arith) (kept_lives joined.other ends.two e ends.two_is kept)))
      (λ down.
      lives_below (length s.gateways + 1) n e (omega arith)
      (node, at_.1, any_found (λ f. some.face.number == f.number) (λ f. not (is_north f.region) && is_live cmp e f) node.rows.faces some.face (is_there s some.number x some.is).face_is (and_from (not (is_north some.face.region)) (is_live cmp e some.face) (ap not down) some.passes)))

  -- what a face keeps is plainly live in its tree
  pub kept_is_plainly_live : (k : ℕ) (x : FaceAt K) (e : K) → face_numbered s k ≡ Some x → keeps cmp x.face e ≡ true → IsPlainlyLive cmp matching s x.gateway e
  kept_is_plainly_live k x e found kept = lives (agree.forest.rank x.gateway + 1) x.gateway e (omega arith) (kept_lives k x e found kept)

  -- ---- what is plainly live is kept

  -- the upper face of a step leads down
  upper_leads_down : (b c : ℕ) (step : StepUp s b c) → is_north step.y.face.region ≡ false
  upper_leads_down b c step =
      let ends = agree.links.meet step.a step.b step.joined in
      let one_ : ends.one ≡ step.x = some_is (sym ends.one_is ∙ step.x_is) in
      let two_ : ends.two ≡ step.y = some_is (sym ends.two_is ∙ step.y_is) in
      ap (λ (z : FaceAt K). is_north z.face.region) (sym two_) ∙ ends.one_leads_up ∙ ap (λ (z : FaceAt K). not (is_north z.face.region)) one_ ∙ ap not step.up
    where
      some_is : {A : Type 0} {u v : A} → Some u ≡ Some v → u ≡ v
      some_is h = cc

  quiet_step : (b c : ℕ) (step : StepUp s b c) → IsQuiet step.x.face step.y.face
  quiet_step b c step = quiet_joint cmp matching s step.a step.b step.x step.y agree quiet step.joined step.x_is step.y_is step.up

  -- a face keeps what it covers and sees
  keeps_what_lives : (k : ℕ) (x : FaceAt K) (e : K) → face_numbered s k ≡ Some x → covers matching x.rows.mode x.face e ≡ true → list_any (is_shown_by cmp x.rows.mode x.face.region e) x.rows.faces ≡ true → keeps cmp x.face e ≡ true
  keeps_what_lives k x e found covered some =
      let here = known k x found in
      let refused : RefusesNoFaces x.gateway (record here.node { rows = x.rows }) = subst (λ (g : Rows K). RefusesNoFaces x.gateway (record here.node { rows = g })) here.rows_are here.refused in
      here.keeps_.admitted_is_kept e (admitted_if_shown cmp x.rows x.face.region e refused here.stands some) covered

  -- a face that leads down is shown all
  shown_all : (k : ℕ) (x : FaceAt K) (region : Region) → face_numbered s k ≡ Some x → is_north x.face.region ≡ false → shows x.rows.mode x.face.region region ≡ true
  shown_all k x region found down = rw (((known k x found).face.down down).shares) refl

  same_node : (n : ℕ) (one two : Node K) → nth n s.gateways ≡ Some one → nth n s.gateways ≡ Some two → one ≡ two
  same_node n one two one_is two_is = let e : Some one ≡ Some two = sym one_is ∙ two_is in cc

  -- all faces of the gateway of a face, by their node
  faces_of : (k : ℕ) (x : FaceAt K) (p : Face K → Bool) (n : ℕ) (node : Node K) → face_numbered s k ≡ Some x → x.gateway ≡ n → nth n s.gateways ≡ Some node → list_any p node.rows.faces ≡ list_any p x.rows.faces
  faces_of k x p n node found at_n node_is =
      let here = known k x found in
      let is : node ≡ here.node = same_node n node here.node node_is (ap (λ j. nth j s.gateways) (sym at_n) ∙ here.node_is) in
      ap (λ (z : Node K). list_any p z.rows.faces) is ∙ ap (λ (g : Rows K). list_any p g.faces) here.rows_are

  -- one face of a gateway passes, so some does
  passes_at : (k : ℕ) (x : FaceAt K) (p : Face K → Bool) (n : ℕ) → face_numbered s k ≡ Some x → x.gateway ≡ n → p x.face ≡ true → (node : Node K) × (nth n s.gateways ≡ Some node) × (list_any p node.rows.faces ≡ true)
  passes_at k x p n found at_n passes =
      let here = known k x found in
      let at_ = is_there s k x found in
      (here.node, ap (λ j. nth j s.gateways) (sym at_n) ∙ here.node_is, rw (here.rows_are) (any_found (λ (f : Face K). x.face.number == f.number) p x.rows.faces x.face at_.face_is passes))

  -- what is live below stays so on the way up
  step_lives : (b c : ℕ) (e : K) → StepUp s b c → LivesBelow b e → LivesBelow c e
  step_lives b c e step lives_ =
      let some : list_any (is_shown_by cmp step.x.rows.mode step.x.face.region e) step.x.rows.faces ≡ true =
      any_weaker (λ f. not (is_north f.region) && is_live cmp e f) (is_shown_by cmp step.x.rows.mode step.x.face.region e)
      (λ f h. let parts = and_parts (not (is_north f.region)) (is_live cmp e f) h in and_from (is_live cmp e f) (shows step.x.rows.mode step.x.face.region f.region) parts.1 (shows_north step.x.rows.mode f.region step.x.face.region step.up (not_true parts.0)))
      step.x.rows.faces (sym (faces_of step.a step.x (λ f. not (is_north f.region) && is_live cmp e f) b lives_.0 step.x_is step.start lives_.1) ∙ lives_.2) in
      let kept = keeps_what_lives step.a step.x e step.x_is (covers_is matching step.x.rows.mode step.x.face e ∙ or_left (is_north step.x.face.region) _ step.up) some in
      let live : is_live cmp e step.y.face ≡ true = ap (λ (rows : ById K). list_any (λ row. same cmp e row.1) rows) (quiet_step b c step).live_above ∙ kept in
      passes_at step.b step.y (λ f. not (is_north f.region) && is_live cmp e f) c step.y_is step.end_ (and_from (not (is_north step.y.face.region)) (is_live cmp e step.y.face) (ap not (upper_leads_down b c step)) live)
    where
      not_true : {b : Bool} → not b ≡ true → b ≡ false
      not_true {b} h = by_test b (λ e. let t : not b ≡ false = ap not e in never h t) (λ e. e)

  climb_lives : (h a : ℕ) (e : K) → IsUnder s h a → LivesBelow h e → LivesBelow a e
  climb_lives h a e (Same g) lives_ = lives_
  climb_lives h a e (Up g b c under step) lives_ = step_lives b c e step (climb_lives g b e under lives_)

  -- ---- interests on the way up

  -- the interest is one in what is there now, in tokens of the expression
  abbrev asks_now : K → ℕ × InterestRow K → Bool
  asks_now e row = is_current row.1.mode && asks_token matching row.1 e

  abbrev HoldsAt : ℕ → K → Type 0
  HoldsAt n e = (node : Node K) × (nth n s.gateways ≡ Some node) × (list_any (λ f. not (is_north f.region) && list_any (asks_now e) f.held) node.rows.faces ≡ true)

  module _ (equal_is_same : (a b : K) → cmp a b ≡ Equal → a ≡ b) where
    -- An interest that some face below holds was sent up, so the upper face of the step holds it.
    step_holds : (b c : ℕ) (e : K) (step : StepUp s b c) → HoldsAt b e → list_any (asks_now e) step.y.face.held ≡ true
    step_holds b c e step holds =
        let x = step.x in
        let here = known step.a x step.x_is in
        let at_ = is_there s step.a x step.x_is in
        let some : list_any (λ f. not (is_north f.region) && list_any (asks_now e) f.held) x.rows.faces ≡ true = sym (faces_of step.a x (λ f. not (is_north f.region) && list_any (asks_now e) f.held) b holds.0 step.x_is step.start holds.1) ∙ holds.2 in
        let up_row = λ (i : InterestRow K). λ (row : ℕ × InterestRow K). (is_current row.1.mode && is_future row.1.mode) && asks_same cmp matching i row.1 in
        let sent : list_any (λ row. has_tokens row.1.options && asks_now e row) x.face.locals ≡ true =
        any_member (λ f. is_north f.region ≡ false → Each (λ row. (is_current row.1.mode && has_tokens row.1.options) ≡ true → AsksAbove cmp matching x.rows row.1) f.held) (λ f. not (is_north f.region) && list_any (asks_now e) f.held) x.rows.faces here.gateway.asks_above some
        (λ f asks passes.
        let parts = and_parts (not (is_north f.region)) (list_any (asks_now e) f.held) passes in
        any_member (λ row. (is_current row.1.mode && has_tokens row.1.options) ≡ true → AsksAbove cmp matching x.rows row.1) (asks_now e) f.held (asks (not_true parts.0)) parts.1
        (λ row above now_.
        let both = and_parts (is_current row.1.mode) (asks_token matching row.1 e) now_ in
        let tokens = and_parts (has_tokens row.1.options) (is_about matching row.1.expr e) both.1 in
        let all = above (and_from (is_current row.1.mode) (has_tokens row.1.options) both.0 tokens.0) in
        let own = find_each (λ h. is_north h.region ≡ true → list_any (up_row row.1) h.locals ≡ true) (λ (h : Face K). x.face.number == h.number) x.rows.faces x.face all at_.face_is step.up in
        any_weaker (up_row row.1) (λ r. has_tokens r.1.options && asks_now e r)
        (λ r h.
        let two = and_parts (is_current r.1.mode && is_future r.1.mode) (asks_same cmp matching row.1 r.1) h in
        let about : asks_token matching r.1 e ≡ true = sym (asks_alike cmp matching equal_is_same row.1 r.1 e two.1) ∙ both.1 in
        and_from (has_tokens r.1.options) (asks_now e r) (and_parts (has_tokens r.1.options) (is_about matching r.1.expr e) about).0
        (and_from (is_current r.1.mode) (asks_token matching r.1 e) (and_parts (is_current r.1.mode) (is_future r.1.mode) two.0).0 about))
        x.face.locals own)) in
        let filtered : list_any (asks_now e) (token_interests x.face.locals) ≡ true = any-filter (asks_now e) (λ (row : ℕ × InterestRow K). has_tokens row.1.options) x.face.locals ∙ sent in
        any_from_filter (asks_now e) (λ (row : ℕ × InterestRow K). has_tokens row.1.options) step.y.face.held (ap (λ (rows : ById (InterestRow K)). list_any (asks_now e) rows) (quiet_step b c step).held_above ∙ filtered)
      where
        not_true : {b : Bool} → not b ≡ true → b ≡ false
        not_true {b} h = by_test b (λ e. let t : not b ≡ false = ap not e in never h t) (λ e. e)

    climb_holds : (g a : ℕ) (e : K) → IsUnder s g a → HoldsAt g e → HoldsAt a e
    climb_holds g a e (Same h) holds = holds
    climb_holds g a e (Up h b c under step) holds =
        passes_at step.b step.y (λ f. not (is_north f.region) && list_any (asks_now e) f.held) c step.y_is step.end_
        (and_from (not (is_north step.y.face.region)) (list_any (asks_now e) step.y.face.held) (ap not (upper_leads_down b c step)) (step_holds b c e step (climb_holds h b e under holds)))

    -- ---- down to the face that asked

    -- what is live at a gateway above reaches a face that covers it
    sinks : (g a : ℕ) (e : K) (k : ℕ) (z : FaceAt K) → face_numbered s k ≡ Some z → z.gateway ≡ g → is_north z.face.region ≡ false → list_any (asks_now e) z.face.held ≡ true → IsUnder s g a → LivesAt a e → keeps cmp z.face e ≡ true
    sinks g a e k z found at_g down holds (Same h) lives_ =
        keeps_what_lives k z e found (covers_is matching z.rows.mode z.face e ∙ or_right (is_north z.face.region) _ holds)
        (any_weaker (is_live cmp e) (is_shown_by cmp z.rows.mode z.face.region e) (λ f h. and_from (is_live cmp e f) (shows z.rows.mode z.face.region f.region) h (shown_all k z f.region found down)) z.rows.faces
        (sym (faces_of k z (is_live cmp e) h lives_.0 found at_g lives_.1) ∙ lives_.2))
    sinks g a e k z found at_g down holds (Up h b c under step) lives_ =
        let y = step.y in
        let y_down = upper_leads_down b c step in
        let below : HoldsAt h e = passes_at k z (λ f. not (is_north f.region) && list_any (asks_now e) f.held) h found at_g (and_from (not (is_north z.face.region)) (list_any (asks_now e) z.face.held) (ap not down) holds) in
        let held = step_holds b c e step (climb_holds h b e under below) in
        let kept =
        keeps_what_lives step.b y e step.y_is (covers_is matching y.rows.mode y.face e ∙ or_right (is_north y.face.region) _ held)
        (any_weaker (is_live cmp e) (is_shown_by cmp y.rows.mode y.face.region e) (λ f live. and_from (is_live cmp e f) (shows y.rows.mode y.face.region f.region) live (shown_all step.b y f.region step.y_is y_down)) y.rows.faces
        (sym (faces_of step.b y (is_live cmp e) c lives_.0 step.y_is step.end_ lives_.1) ∙ lives_.2)) in
        let live : is_live cmp e step.x.face ≡ true = ap (λ (rows : ById K). list_any (λ row. same cmp e row.1) rows) (quiet_step b c step).live_below ∙ kept in
        sinks h b e k z found at_g down holds under (passes_at step.a step.x (is_live cmp e) b step.x_is step.start live)

    -- a plain face leads down
    plain_leads_down : (k : ℕ) (x : FaceAt K) → face_numbered s k ≡ Some x → is_plain_number s k ≡ true → is_north x.face.region ≡ false
    plain_leads_down k x found plain = by_test (is_north x.face.region) (λ up. let t : is_plain_number s k ≡ false = ap not (leads_up_by_link k x found up) in never plain t) (λ h. h)

    pub plainly_live_is_kept : (k : ℕ) (x : FaceAt K) (e : K) → face_numbered s k ≡ Some x → is_plain_number s k ≡ true → covers matching x.rows.mode x.face e ≡ true → IsPlainlyLive cmp matching s x.gateway e → keeps cmp x.face e ≡ true
    plainly_live_is_kept k x e found plain covered live =
        let down = plain_leads_down k x found plain in
        let holds : list_any (asks_now e) x.face.held ≡ true = ⊎_elim (λ up. never up down) (λ h. h) (or_cases (is_north x.face.region) (list_any (asks_now e) x.face.held) (sym (covers_is matching x.rows.mode x.face e) ∙ covered)) in
        let parts = and_parts (is_plain_number s live.face) _ live.live in
        at_live (face_numbered s live.face) refl parts.1
        (λ w w_is w_live.
        let at_w : live.at_gateway ≡ w.gateway = at_gateway s live.face live.at_gateway w w_is live.place in
        let w_down = plain_leads_down live.face w w_is parts.0 in
        let below : LivesBelow live.at_gateway e = passes_at live.face w (λ f. not (is_north f.region) && is_live cmp e f) live.at_gateway w_is (sym at_w) (and_from (not (is_north w.face.region)) (is_live cmp e w.face) (ap not w_down) w_live) in
        let m = meet_at cmp matching s fine agree x.gateway live.at_gateway live.in_tree in
        let top = climb_lives live.at_gateway m.top e m.two below in
        sinks x.gateway m.top e k x found refl down holds m.one
        (top.0, top.1, any_weaker (λ f. not (is_north f.region) && is_live cmp e f) (is_live cmp e) (λ f h. (and_parts (not (is_north f.region)) (is_live cmp e f) h).1) top.0.rows.faces top.2))
      where
        at_live : {G : Type 0} (o : Option (FaceAt K)) → face_numbered s live.face ≡ o → is_some_and o (λ w. is_live cmp e w.face) ≡ true → ((w : FaceAt K) → face_numbered s live.face ≡ Some w → is_live cmp e w.face ≡ true → G) → G
        at_live None is h at_ = cc
        at_live (Some w) is h at_ = at_ w is h

    -- A plain face keeps, of what is owed to it, exactly what is plainly live in its tree.
    pub plain_face_knows : (k : ℕ) (x : FaceAt K) → face_numbered s k ≡ Some x → is_plain_number s k ≡ true → KnowsItsTree cmp matching s x.gateway x.face
    plain_face_knows k x found plain = record {
      kept_is_live = λ e owed kept. kept_is_plainly_live k x e found kept;
      live_is_kept = λ e owed live. plainly_live_is_kept k x e found plain (sym (owed_is matching x.rows.mode x.face e) ∙ owed) live;
    }
