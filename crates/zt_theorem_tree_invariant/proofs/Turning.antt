-- A call is made at a gateway of a fabric: what becomes of each joint.
use Rattle.std.proofs.Common.{◌≡◌, ◌≢◌, ℕ, ◌-◌, ◌≤◌, Bool, true, false, ◌==◌, List, [], ◌∷◌, ◌++◌, map, Option, Some, None, option_map, refl, sym, ap, ◌∙◌, subst, eq-eqb, eqb-true, ne_eqb, arith}
use Rattle.std.specs.Cmp.{IsTotalOrder}
use Rattle.std.specs.declared.cmp.Ordering.{Ordering}
use Rattle.zt_region.specs.Region.{is_north}
use Rattle.zt_protocol.specs.Plain.{PlainCall}
use Rattle.zt_protocol.specs.declared.entries.Sent.{Sent}
use Rattle.zt_protocol.specs.declared.messages.Message.{Message}
use Rattle.zt_model.specs.Fabric.{Fabric, Node, at_nth, number_from, printed_for, with_rows}
use Rattle.zt_model.specs.Hearing.{heard_all, messages_for}
use Rattle.zt_model.specs.Linking.{waiting_of}
use Rattle.zt_model.specs.Lists.{at_id, has_id, nth}
use Rattle.zt_model.specs.Parts.{find_face}
use Rattle.zt_model.specs.Rows.{ById, Face}
use Rattle.zt_model.specs.Says.{altered, said}
use Rattle.zt_model.specs.Transcript.{FaceAt, face_numbered}
use Rattle.zt_laws.specs.Kept.{told_of}
use Rattle.zt_laws.specs.Order.{FabricIsInOrder}
use Rattle.zt_laws.specs.Sound.{CallHasFirstIds, is_placed, rows_after_call}
use Rattle.zt_laws.proofs.Entries.{nth-at_nth}
use Rattle.zt_laws.proofs.Gateways.{PrintsSends}
use Rattle.zt_laws.proofs.Hearing.{find_each, find_passes}
use Rattle.zt_laws.proofs.Lists.{by_test, never}
use Rattle.zt_laws.proofs.LinesOrder.{gateway_in_order}
use Rattle.zt_laws.proofs.NextIds.{DrawNext, call_draws}
use Rattle.zt_laws.proofs.Numbered.{nth_real}
use Rattle.zt_laws.proofs.PartsOrder.{each_of_map}
use Rattle.zt_theorem_tree_invariant.specs.Facts.{JointAgrees}
use Rattle.zt_theorem_tree_invariant.proofs.Effects.{Hears}
use Rattle.zt_theorem_tree_invariant.proofs.Members.{is_there, number_is_its, numbered}
use Rattle.zt_theorem_tree_invariant.proofs.Saying.{SaidWell, find_heard_at, lower_hears_all, upper_hears_all}
use Rattle.zt_theorem_tree_invariant.proofs.Speaks.{lower_like, upper_like}
use Rattle.zt_theorem_tree_invariant.proofs.Tracking.{Unmoved, thin, unmoved_itself}

-- ---- lists by number

one_more : (n : ℕ) → 1 ≤ n → (n == 1) ≡ false → 1 ≤ n - 1
one_more n real h = grind (arith, real, h, eq-eqb n 1)

pub nth_other : {A : Type 0} (i n : ℕ) (change : A → A) (xs : List A) (x : A) → 1 ≤ n → i ≢ n → nth i xs ≡ Some x → nth i (at_nth n change xs) ≡ Some x
nth_other i n change [] x real apart at_ = cc
nth_other i n change (y ∷ xs) x real apart at_ =
    by_test (i == 1)
    (λ own.
    let first : Some y ≡ Some x = rw own at at_ in
    let miss : (n == 1) ≡ false = ne_eqb n 1 (λ is. apart (eqb-true i 1 own ∙ sym is)) in
    rw miss (rw own first))
    (λ own.
    let rest : nth (i - 1) xs ≡ Some x = rw own at at_ in
    let up : 1 ≤ i - 1 = nth_real (i - 1) xs x rest in
    by_test (n == 1)
    (λ here. rw here (rw own rest))
    (λ here.
    let more : 1 ≤ n - 1 = one_more n real here in
    rw here (rw own (nth_other (i - 1) (n - 1) change xs x more (λ is. apart (omega arith)) rest))))

-- what waits under an id, once all that waits was added to
at_id_map : {A : Type 0} (k : ℕ) (add : ℕ → A → A) (rows : ById A) → at_id k (map (λ row. (row.0, add row.0 row.1)) rows) ≡ option_map (add k) (at_id k rows)
at_id_map k add [] = refl
at_id_map k add (row ∷ rows) =
    by_test (k == row.0)
    (λ here. rw here (ap (λ n. Some (add n row.1)) (sym (eqb-true k row.0 here))))
    (λ here. rw here (at_id_map k add rows))

module _ {K : Type 0} where
  -- what waits for a face
  abbrev pub queue : ById (List (Message K)) → ℕ → List (Message K)
  queue w k = elim (at_id k w) [ None ↦ [] | Some ms ↦ ms ]

  pub queue_added : (w : ById (List (Message K))) (ms : List (Sent K)) (k : ℕ) → has_id k w ≡ true → queue (map (λ row. (row.0, row.1 ++ printed_for row.0 ms)) w) k ≡ queue w k ++ printed_for k ms
  queue_added w ms k there =
      ap (λ (o : Option (List (Message K))). (let q : List (Message K) = elim o [ None ↦ [] | Some xs ↦ xs ] in q)) (at_id_map k (λ n xs. xs ++ printed_for n ms) w) ∙ by_row (at_id k w) (found w there)
    where
      found : (w : ById (List (Message K))) → has_id k w ≡ true → (xs : List (Message K)) × (at_id k w ≡ Some xs)
      found [] h = cc
      found (row ∷ rows) h = by_test (k == row.0) (λ here. rw here (row.1, refl)) (λ here. rw here (found rows (rw here at h)))

      by_row : (o : Option (List (Message K))) → ((xs : List (Message K)) × (o ≡ Some xs)) → (let q : List (Message K) = elim (option_map (λ xs. xs ++ printed_for k ms) o) [ None ↦ [] | Some xs ↦ xs ] in q) ≡ (let q : List (Message K) = elim o [ None ↦ [] | Some xs ↦ xs ] in q) ++ printed_for k ms
      by_row None some = let bad = some.1 in cc
      by_row (Some xs) some = refl

-- what a face becomes when a call is made, with what it is sent
pub record TurnsTo {K : Type 0} (cmp : K → K → Ordering) (s t : Fabric K) (w : ById (List (Message K))) (k : ℕ) (z : FaceAt K) : Type 0 where
  pub now : ℕ
  pub after : Face K
  pub says : List (Message K)
  pub region : after.region ≡ z.face.region
  pub heard_is : (u : FaceAt K) → face_numbered t k ≡ Some u → u.face ≡ heard_all cmp now says after
  pub waits : waiting_of t k ≡ queue w k ++ says
  pub well : SaidWell cmp (is_north z.face.region) says after.told after.asks
  pub drawn : DrawNext cmp says (told_of after)

module _ {K : Type 0} (cmp : K → K → Ordering) (matching : K → K → Bool) (total : IsTotalOrder cmp) (s : Fabric K) (fine : FabricIsInOrder cmp matching s) (j : ℕ) (node : Node K) (at_j : nth j s.gateways ≡ Some node) (c : PlainCall K) (real : CallHasFirstIds c) (ms : List (Sent K)) (w : ById (List (Message K)))
    (prints : PrintsSends s.faces j (said cmp matching c node.rows) ms) where
  -- the fabric after the call, with what waited before it
  abbrev pub turned : Fabric K
  turned = record (with_rows j (rows_after_call cmp matching c) s) { waiting = map (λ row. (row.0, row.1 ++ printed_for row.0 ms)) w }

  abbrev change : Node K → Node K
  change x = record x { rows = rows_after_call cmp matching c x.rows }

  some_is : {A : Type 0} {u v : A} → Some u ≡ Some v → u ≡ v
  some_is h = cc

  -- the messages that are printed for a face
  printed_at : (k : ℕ) (z : FaceAt K) → face_numbered s k ≡ Some z → z.gateway ≡ j → printed_for k ms ≡ messages_for z.face.number (said cmp matching c node.rows)
  printed_at k z found here =
      let at_ = is_there s k z found in
      let gateway = gateway_in_order cmp matching s z.gateway at_.node at_.node_is fine in
      let placed : is_placed z.gateway z.face.number s.faces ≡ true = find_each (λ f. is_placed z.gateway f.number s.faces ≡ true) (λ (f : Face K). z.face.number == f.number) at_.node.rows.faces z.face gateway.placed (ap (find_face z.face.number) at_.rows_are ∙ at_.face_is) in
      ap (λ n. printed_for n ms) (sym (number_is_its cmp matching s k z fine found) ∙ ap (λ g. number_from 1 g z.face.number s.faces) here)
      ∙ prints.own z.face.number (ap (λ g. is_placed g z.face.number s.faces) (sym here) ∙ placed)

  printed_elsewhere : (k : ℕ) (z : FaceAt K) → face_numbered s k ≡ Some z → z.gateway ≢ j → printed_for k ms ≡ []
  printed_elsewhere k z found apart =
      let at_ = is_there s k z found in
      let gateway = gateway_in_order cmp matching s z.gateway at_.node at_.node_is fine in
      let placed : is_placed z.gateway z.face.number s.faces ≡ true = find_each (λ f. is_placed z.gateway f.number s.faces ≡ true) (λ (f : Face K). z.face.number == f.number) at_.node.rows.faces z.face gateway.placed (ap (find_face z.face.number) at_.rows_are ∙ at_.face_is) in
      ap (λ n. printed_for n ms) (sym (number_is_its cmp matching s k z fine found)) ∙ prints.other z.gateway z.face.number apart placed

  -- a face of another gateway
  pub turns_elsewhere : (k : ℕ) (z : FaceAt K) → face_numbered s k ≡ Some z → z.gateway ≢ j → has_id k w ≡ true → (t : TurnsTo cmp s turned w k z) × (t.after ≡ z.face)
  unfolding heard_all
  turns_elsewhere k z found apart there =
      let at_ = is_there s k z found in
      let node_still : nth at_.place.gateway turned.gateways ≡ Some at_.node = ap (λ g. nth g turned.gateways) at_.gateway_is ∙ nth_other z.gateway j change s.gateways at_.node (nth_real j s.gateways node at_j) apart at_.node_is in
      let face_still : find_face at_.place.face at_.node.rows ≡ Some z.face = ap (λ n. find_face n at_.node.rows) at_.number_is ∙ ap (find_face z.face.number) at_.rows_are ∙ at_.face_is in
      let is = numbered turned k at_.place at_.node z.face at_.place_is node_still face_still in
      let t : TurnsTo cmp s turned w k z = record {
        now = 0;
        after = z.face;
        says = [];
        region = refl;
        heard_is = λ u u_is. ap (λ (v : FaceAt K). v.face) (some_is (sym u_is ∙ is));
        waits = queue_added w ms k there ∙ ap (λ xs. queue w k ++ xs) (printed_elsewhere k z found apart);
        well = tt;
        drawn = tt;
      } in
      (t, refl)

  -- a face of the gateway: what the call itself makes of it, and what it is sent then
  pub turns_here : (k : ℕ) (z : FaceAt K) (h : Face K) → face_numbered s k ≡ Some z → z.gateway ≡ j → has_id k w ≡ true → find_face z.face.number (altered cmp matching c node.rows) ≡ Some h → h.region ≡ z.face.region
      → SaidWell cmp (is_north z.face.region) (messages_for z.face.number (said cmp matching c node.rows)) h.told h.asks → (t : TurnsTo cmp s turned w k z) × (t.after ≡ h)
  turns_here k z h found here there altered_is region_ well =
      let at_ = is_there s k z found in
      let p = z.face.number in
      let ss = said cmp matching c node.rows in
      let g = altered cmp matching c node.rows in
      let place_here : at_.place.gateway ≡ j = at_.gateway_is ∙ here in
      let node_now : nth at_.place.gateway turned.gateways ≡ Some (change node) = ap (λ i. nth i turned.gateways) place_here ∙ nth-at_nth j change s.gateways node at_j in
      let face_now : find_face at_.place.face (change node).rows ≡ Some (heard_all cmp g.moment (messages_for p ss) h) = ap (λ n. find_face n (change node).rows) at_.number_is ∙ find_heard_at cmp ss g p h altered_is in
      let is = numbered turned k at_.place (change node) (heard_all cmp g.moment (messages_for p ss) h) at_.place_is node_now face_now in
      let drawn_all = call_draws cmp total matching c node.rows real (gateway_in_order cmp matching s j node at_j fine).rows in
      let number_ : p ≡ h.number = eqb-true p h.number (find_passes (λ (f : Face K). p == f.number) g.faces h altered_is) in
      let drawn_own = find_each (λ f. DrawNext cmp (messages_for f.number ss) (told_of f)) (λ (f : Face K). p == f.number) g.faces h (each_of_map (λ t. DrawNext cmp (messages_for t.number ss) t) told_of g.faces drawn_all) altered_is in
      let t : TurnsTo cmp s turned w k z = record {
        now = g.moment;
        after = h;
        says = messages_for p ss;
        region = region_;
        heard_is = λ u u_is. ap (λ (v : FaceAt K). v.face) (some_is (sym u_is ∙ is));
        waits = queue_added w ms k there ∙ ap (λ xs. queue w k ++ xs) (printed_at k z found here);
        well = well;
        drawn = subst (λ n. DrawNext cmp (messages_for n ss) (told_of h)) (sym number_) drawn_own;
      } in
      (t, refl)

  -- ---- joints

  -- once the call itself has changed the ends, they hear what is said
  pub joint_turns : (a b : ℕ) (x y x2 y2 : FaceAt K) → (tx : TurnsTo cmp s turned w a x) → (ty : TurnsTo cmp s turned w b y) → face_numbered turned a ≡ Some x2 → face_numbered turned b ≡ Some y2
      → is_north x.face.region ≡ true → is_north y.face.region ≡ false → JointAgrees cmp tx.after ty.after (queue w a) (queue w b) → JointAgrees cmp x2.face y2.face (waiting_of turned a) (waiting_of turned b)
  joint_turns a b x y x2 y2 tx ty x_is y_is up down j0 =
      let one = lower_hears_all cmp tx.now tx.says tx.after ty.after (queue w a) (queue w b) (subst (λ side. SaidWell cmp side tx.says tx.after.told tx.after.asks) up tx.well) tx.drawn j0 in
      let two = upper_hears_all cmp ty.now ty.says (heard_all cmp tx.now tx.says tx.after) ty.after (queue w a ++ tx.says) (queue w b) (subst (λ side. SaidWell cmp side ty.says ty.after.told ty.after.asks) down ty.well) ty.drawn one in
      subst (λ f. JointAgrees cmp f y2.face (waiting_of turned a) (waiting_of turned b)) (sym (tx.heard_is x2 x_is))
      (subst (λ f. JointAgrees cmp (heard_all cmp tx.now tx.says tx.after) f (waiting_of turned a) (waiting_of turned b)) (sym (ty.heard_is y2 y_is))
      (subst (λ xs. JointAgrees cmp (heard_all cmp tx.now tx.says tx.after) (heard_all cmp ty.now ty.says ty.after) xs (waiting_of turned b)) (sym tx.waits)
      (subst (λ xs. JointAgrees cmp (heard_all cmp tx.now tx.says tx.after) (heard_all cmp ty.now ty.says ty.after) (queue w a ++ tx.says) xs) (sym ty.waits) two)))

  -- a face that the call itself leaves as it is
  pub record Quietly (k : ℕ) (z : FaceAt K) : Type 0 where
    pub turns : TurnsTo cmp s turned w k z
    pub unmoved : Unmoved z.face turns.after

  pub quietly : (k : ℕ) (z : FaceAt K) → face_numbered s k ≡ Some z → has_id k w ≡ true → (z.gateway ≡ j → Hears cmp matching c node.rows z.face.number z.face) → Quietly k z
  quietly k z found there hears =
      by_test (z.gateway == j)
      (λ here.
      let is : z.gateway ≡ j = eqb-true z.gateway j here in
      let h = hears is in
      let to = turns_here k z h.after found is there h.altered_is h.unmoved.region (subst (λ asks. SaidWell cmp (is_north z.face.region) (messages_for z.face.number (said cmp matching c node.rows)) h.after.told asks) (sym h.unmoved.asks) (subst (λ told. SaidWell cmp (is_north z.face.region) (messages_for z.face.number (said cmp matching c node.rows)) told z.face.asks) (sym h.unmoved.told) h.well)) in
      record { turns = to.0; unmoved = subst (Unmoved z.face) (sym to.1) h.unmoved })
      (λ apart.
      let to = turns_elsewhere k z found (λ is. never (eq-eqb z.gateway j is) apart) there in
      record { turns = to.0; unmoved = subst (Unmoved z.face) (sym to.1) (unmoved_itself z.face) })

  -- a joint whose ends the call itself leaves as they are
  pub joint_stays : (a b : ℕ) (x y x2 y2 : FaceAt K) → Quietly a x → Quietly b y → face_numbered turned a ≡ Some x2 → face_numbered turned b ≡ Some y2 → is_north x.face.region ≡ true → is_north y.face.region ≡ false
      → JointAgrees cmp x.face y.face (queue w a) (queue w b) → JointAgrees cmp x2.face y2.face (waiting_of turned a) (waiting_of turned b)
  joint_stays a b x y x2 y2 qx qy x_is y_is up down j0 =
      joint_turns a b x y x2 y2 qx.turns qy.turns x_is y_is up down
      (upper_like cmp qx.turns.after y.face qy.turns.after (queue w a) (queue w b) qy.unmoved.live qy.unmoved.told qy.unmoved.next qy.unmoved.held qy.unmoved.asks
      (lower_like cmp x.face qx.turns.after y.face (queue w a) (queue w b) qx.unmoved.live qx.unmoved.told qx.unmoved.next qx.unmoved.locals (λ P all. thin P x.face qx.turns.after qx.unmoved all) j0))
