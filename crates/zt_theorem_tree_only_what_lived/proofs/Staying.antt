-- An accepted interest of a plain face leaves each token live that was.
use Rattle.std.proofs.Common.{◌≡◌, ◌≢◌, ℕ, Bool, true, false, ◌==◌, not, List, [], Option, Some, None, is_none, refl, sym, ap, ◌∙◌, arith, eqb-true, eq-eqb}
use Rattle.std.proofs.lemmas.Bool.{and_from, and_parts}
use Rattle.std.specs.Cmp.{IsTotalOrder}
use Rattle.std.specs.List.{list_any}
use Rattle.std.specs.declared.cmp.Ordering.{Ordering}
use Rattle.std.specs.declared.cmp.Ordering.TheVariants.{Equal}
use Rattle.zt_region.specs.Region.{is_north}
use Rattle.zt_protocol.specs.Plain.{PlainCall, NewSession, NewTransport, DeclareToken, UndeclareToken, Interest, InterestFinal, DeclareFinal, CloseFace, Expire, SetTrees, SetEntities, PlainLine, Speak}
use Rattle.zt_protocol.specs.declared.entries.Sent.{Sent}
use Rattle.zt_protocol.specs.declared.messages.Message.{Message}
use Rattle.zt_protocol.specs.declared.interests.InterestMode.{InterestMode}
use Rattle.zt_protocol.specs.declared.interests.InterestOptions.{InterestOptions}
use Rattle.zt_model.specs.Fabric.{Fabric, Node, Place, at_nth, entry_of, fabric_after, is_linked_face, number_of_place}
use Rattle.zt_model.specs.Hearing.{heard_all, messages_for}
use Rattle.zt_model.specs.Linking.{is_end_of}
use Rattle.zt_model.specs.Lists.{is_some_and, nth, same}
use Rattle.zt_model.specs.Parts.{find_face}
use Rattle.zt_model.specs.Refusals.{call_causes, first_cause}
use Rattle.zt_model.specs.Routing.{asked_as, sent_as}
use Rattle.zt_model.specs.Rows.{ById, Face}
use Rattle.zt_model.specs.Says.{altered, row_of, said}
use Rattle.zt_model.specs.Transcript.{Each, FaceAt, face_numbered}
use Rattle.zt_model.specs.TreePromises.{LeadsUpByLink, is_live_at, is_plain_number}
use Rattle.zt_laws.specs.Order.{FabricIsInOrder}
use Rattle.zt_laws.specs.Sound.{opens_face, rows_after_call}
use Rattle.zt_laws.proofs.Calls.{no_cause}
use Rattle.zt_laws.proofs.Entries.{nth-at_nth}
use Rattle.zt_laws.proofs.Hearing.{find_each, find_passes, heard_all-live}
use Rattle.zt_laws.proofs.Lists.{by_test, never}
use Rattle.zt_laws.proofs.LinesOrder.{gateway_in_order}
use Rattle.zt_laws.proofs.Numbered.{nth_real}
use Rattle.zt_laws.proofs.Places.{number_of_nth}
use Rattle.zt_theorem_tree_invariant.specs.Facts.{TreesAgree}
use Rattle.zt_theorem_tree_invariant.specs.Trees.{FacesFormTrees}
use Rattle.zt_theorem_tree_invariant.proofs.Effects.{other_interest, own_interest}
use Rattle.zt_theorem_tree_invariant.proofs.Lasting.{LeftByCalls, stand_after, turned_by}
use Rattle.zt_theorem_tree_invariant.proofs.Lines.{is_linked, tree_rows}
use Rattle.zt_theorem_tree_invariant.proofs.Members.{each_gateway_nth, is_there, numbered}
use Rattle.zt_theorem_tree_invariant.proofs.Saying.{find_heard_at}
use Rattle.zt_theorem_tree_invariant.proofs.Turning.{nth_other}
use Rattle.zt_theorem_tree_only_what_lived.proofs.Calls.{LiveAt}

module _ {K : Type 0} (cmp : K → K → Ordering) (matching : K → K → Bool) (total : IsTotalOrder cmp) (equal_is_same : (a b : K) → cmp a b ≡ Equal → a ≡ b) (s : Fabric K) (fine : FabricIsInOrder cmp matching s) (agree : TreesAgree cmp matching s) (trees : FacesFormTrees s) where
  -- an interest of a face that ends no open link
  abbrev Asks : ℕ → PlainCall K → Type 0
  Asks j (Interest n id mode options e) = (k : ℕ) × (nth k s.faces ≡ Some (record { gateway = j; face = n })) × (is_linked_face s (Some k) ≡ false)
  Asks j _ = ⊥

  abbrev Stays : List (Sent K) → Fabric K → Type 0
  Stays ms t = (e : K) → LiveAt cmp matching s e → LiveAt cmp matching t e

  some_is : {A : Type 0} {u v : A} → Some u ≡ Some v → u ≡ v
  some_is h = cc

  -- a face and its tokens after a change of rows
  LivesOn : ℕ → Node K → Node K → Type 0
  LivesOn n node after = (f : Face K) → find_face n node.rows ≡ Some f → (h : Face K) × (find_face n after.rows ≡ Some h) × (h.live ≡ f.live)

  module _ (spent : Bool) (j : ℕ) (node : Node K) (at_j : nth j s.gateways ≡ Some node) (n id : ℕ) (mode : InterestMode) (options : InterestOptions) (ex : Option K) (plain : Asks j (Interest n id mode options ex)) (accepted : first_cause (call_causes cmp matching spent (Interest n id mode options ex) node.rows) ≡ None) where
    there : (f : Face K) × (find_face n node.rows ≡ Some f)
    unfolding call_causes
    there = cases (find_face n node.rows) refl (no_cause _ _ _ accepted).0
      where
        cases : (o : Option (Face K)) → find_face n node.rows ≡ o → is_none o ≡ false → (f : Face K) × (find_face n node.rows ≡ Some f)
        cases None is known = never refl known
        cases (Some f) is known = (f, is)

    is_plain_face : is_plain_number s plain.0 ≡ true
    is_plain_face =
        let place : Place = record { gateway = j; face = n } in
        let is : face_numbered s plain.0 ≡ Some (record { gateway = j; rows = node.rows; face = there.0 }) = numbered s plain.0 place node there.0 plain.1 at_j there.1 in
        by_test (list_any (is_end_of plain.0) s.links)
        (λ ends. let joint = agree.links.stay plain.0 _ is ends in never (is_linked cmp matching total s fine agree plain.0 joint.other joint.joined) plain.2)
        (λ none_. ap not none_)

    south : is_north there.0.region ≡ false
    south =
        let f = there.0 in
        let number_ : n ≡ f.number = eqb-true n f.number (find_passes (λ (h : Face K). n == h.number) node.rows.faces f there.1) in
        let own : LeadsUpByLink s j node.rows f = find_each (LeadsUpByLink s j node.rows) (λ (h : Face K). n == h.number) node.rows.faces f (each_gateway_nth (λ i (x : Node K). Each (LeadsUpByLink s i x.rows) x.rows.faces) 1 j j s.gateways node (omega arith) trees.north at_j) there.1 in
        let k_is : number_of_place s j n ≡ plain.0 = number_of_nth plain.0 s.faces (record { gateway = j; face = n }) (gateway_in_order cmp matching s j node at_j fine).places_rise plain.1 in
        by_test (is_north f.region)
        (λ up. never (ap (is_plain_number s) (ap (number_of_place s j) (sym number_) ∙ k_is) ∙ is_plain_face) (own up).1)
        (λ down. down)

    after : Node K
    after = record node { rows = rows_after_call cmp matching (Interest n id mode options ex) node.rows }

    lives_on : (p : ℕ) → LivesOn p node after
    unfolding LivesOn after
    lives_on p f found =
        let c : PlainCall K = Interest n id mode options ex in
        let rows = tree_rows cmp matching s j node fine agree at_j in
        let ss = said cmp matching c node.rows in
        let g = altered cmp matching c node.rows in
        by_test (n == p)
        (λ own.
        let is : n ≡ p = eqb-true n p own in
        let found_ : find_face n node.rows ≡ Some f = ap (λ i. find_face i node.rows) is ∙ found in
        let same_ : there.0 ≡ f = some_is (sym there.1 ∙ found_) in
        let down : is_north f.region ≡ false = ap (λ (h : Face K). is_north h.region) (sym same_) ∙ south in
        let acts = own_interest cmp matching n id mode options ex node.rows f rows found_ down in
        let h0 = asked_as (sent_as node.rows f.region mode) id (row_of cmp matching f mode options ex) f in
        let h = heard_all cmp g.moment (messages_for n ss) h0 in
        (h, ap (λ i. find_face i (rows_after_call cmp matching c node.rows)) (sym is) ∙ find_heard_at cmp ss g n h0 acts.altered_is, heard_all-live cmp g.moment (messages_for n ss) h0))
        (λ other.
        let apart : n ≢ p = λ is. never (ap (λ i. n == i) (sym is) ∙ eq-eqb n n refl) other in
        let hears = other_interest cmp matching n id mode options ex node.rows there.0 p f apart rows there.1 south found in
        let h = heard_all cmp g.moment (messages_for p ss) hears.after in
        (h, find_heard_at cmp ss g p hears.after hears.altered_is, heard_all-live cmp g.moment (messages_for p ss) hears.after ∙ hears.unmoved.live))

    stays : (w : ById (List (Message K))) (e : K) → LiveAt cmp matching s e → LiveAt cmp matching (record s { gateways = at_nth j (λ (x : Node K). record x { rows = rows_after_call cmp matching (Interest n id mode options ex) x.rows }) s.gateways; waiting = w }) e
    unfolding LivesOn after
    stays w e live =
        let k = live.0 in
        let parts = and_parts (is_plain_number s k) _ live.1 in
        let t = record s { gateways = at_nth j (λ (x : Node K). record x { rows = rows_after_call cmp matching (Interest n id mode options ex) x.rows }) s.gateways; waiting = w } in
        (k, and_from (is_plain_number s k) (is_some_and (face_numbered t k) (λ x. is_live_at cmp matching x.face e)) parts.0 (cases k (face_numbered s k) refl parts.1))
      where
        at_face : (k : ℕ) (x : FaceAt K) → face_numbered s k ≡ Some x → is_live_at cmp matching x.face e ≡ true → is_some_and (face_numbered (record s { gateways = at_nth j (λ (x : Node K). record x { rows = rows_after_call cmp matching (Interest n id mode options ex) x.rows }) s.gateways; waiting = w }) k) (λ x. is_live_at cmp matching x.face e) ≡ true
        at_face k x found lives =
            let change = λ (x : Node K). record x { rows = rows_after_call cmp matching (Interest n id mode options ex) x.rows } in
            let t = record s { gateways = at_nth j change s.gateways; waiting = w } in
            let th = is_there s k x found in
            let P = λ (o : Option (FaceAt K)). is_some_and o (λ y. is_live_at cmp matching y.face e) in
            let at_place : nth th.place.gateway s.gateways ≡ Some th.node = ap (λ i. nth i s.gateways) th.gateway_is ∙ th.node_is in
            let face_ : find_face th.place.face th.node.rows ≡ Some x.face = ap (λ i. find_face i th.node.rows) th.number_is ∙ ap (λ g. find_face x.face.number g) th.rows_are ∙ th.face_is in
            by_test (j == th.place.gateway)
            (λ here.
            let is : j ≡ th.place.gateway = eqb-true j th.place.gateway here in
            let same_ : th.node ≡ node = some_is (sym at_place ∙ ap (λ i. nth i s.gateways) (sym is) ∙ at_j) in
            let on = lives_on th.place.face x.face (ap (λ (y : Node K). find_face th.place.face y.rows) (sym same_) ∙ face_) in
            let now_ : nth th.place.gateway t.gateways ≡ Some (change node) = ap (λ i. nth i t.gateways) (sym is) ∙ nth-at_nth j change s.gateways node at_j in
            ap P (numbered t k th.place (change node) on.0 th.place_is now_ on.1) ∙ ap (λ rows. list_any (λ row. same cmp e row.1) rows) on.2 ∙ lives)
            (λ elsewhere.
            let apart : th.place.gateway ≢ j = λ is. never (ap (λ i. j == i) is ∙ eq-eqb j j refl) elsewhere in
            let now_ : nth th.place.gateway t.gateways ≡ Some th.node = nth_other th.place.gateway j change s.gateways th.node (nth_real j s.gateways node at_j) apart at_place in
            ap P (numbered t k th.place th.node x.face th.place_is now_ face_) ∙ lives)

        cases : (k : ℕ) (o : Option (FaceAt K)) → face_numbered s k ≡ o → is_some_and o (λ x. is_live_at cmp matching x.face e) ≡ true → is_some_and (face_numbered (record s { gateways = at_nth j (λ (x : Node K). record x { rows = rows_after_call cmp matching (Interest n id mode options ex) x.rows }) s.gateways; waiting = w }) k) (λ x. is_live_at cmp matching x.face e) ≡ true
        cases k None found lives = cc
        cases k (Some x) found lives = at_face k x found lives

  calls_stay : LeftByCalls cmp matching total equal_is_same s fine agree Asks Stays
  calls_stay = λ spent j node c w waits at_j still open_ accepted plain less. by_call spent j node c w at_j still accepted plain
    where
      by_call : (spent : Bool) (j : ℕ) (node : Node K) (c : PlainCall K) (w : ById (List (Message K))) (at_j : nth j s.gateways ≡ Some node) (still : opens_face c ≡ false) → first_cause (call_causes cmp matching spent c node.rows) ≡ None → Asks j c → (e : K) → LiveAt cmp matching s e → LiveAt cmp matching (turned_by cmp matching total equal_is_same s fine agree j node c w at_j still) e
      by_call spent j node (NewSession first) w at_j still accepted plain = elim plain [ ]
      by_call spent j node (NewTransport zid whatami region remote_bound first) w at_j still accepted plain = elim plain [ ]
      by_call spent j node (DeclareToken face id expr _ interest) w at_j still accepted plain = elim plain [ ]
      by_call spent j node (UndeclareToken face id expr _) w at_j still accepted plain = elim plain [ ]
      by_call spent j node (InterestFinal face id) w at_j still accepted plain = elim plain [ ]
      by_call spent j node (DeclareFinal face interest) w at_j still accepted plain = elim plain [ ]
      by_call spent j node (CloseFace face) w at_j still accepted plain = elim plain [ ]
      by_call spent j node (Expire now) w at_j still accepted plain = elim plain [ ]
      by_call spent j node (SetTrees region table) w at_j still accepted plain = elim plain [ ]
      by_call spent j node (SetEntities face subscribers queryables) w at_j still accepted plain = elim plain [ ]
      by_call spent j node (Interest n id mode options ex) w at_j still accepted plain = stays spent j node at_j n id mode options ex plain accepted _

  waiting_stays : (w : ById (List (Message K))) → Stays [] (record s { waiting = w })
  unfolding face_numbered
  waiting_stays w e live = live

  pub asks_stay : (n id : ℕ) (mode : InterestMode) (options : InterestOptions) (ex : Option K) (e : K) → LiveAt cmp matching s e
      → (let line : PlainLine K = Speak (Interest n id mode options ex) in LiveAt cmp matching (fabric_after cmp matching line (entry_of cmp matching line s) s) e)
  asks_stay n id mode options ex =
      stand_after cmp matching total equal_is_same s fine agree Asks Stays (λ e live. live) (λ w waits less. waiting_stays w) calls_stay (Speak (Interest n id mode options ex)) (λ place k is at_ plain. (k, at_, plain)) refl
