-- Calls and steps leave links and ranks as they are.
use Rattle.std.proofs.Common.{◌≡◌, ◌≢◌, ℕ, ◌-◌, ◌≤◌, ◌<◌, Bool, true, false, if◌then◌else◌, ◌||◌, ◌==◌, not, List, [], ◌∷◌, ◌++◌, length, map, Option, Some, None, option_map, refl, sym, ap, ◌∙◌, subst, eq-eqb, eqb-true}
use Rattle.std.specs.Cmp.{IsTotalOrder}
use Rattle.std.specs.declared.cmp.Ordering.{Ordering}
use Rattle.zt_region.specs.Region.{is_north}
use Rattle.zt_protocol.specs.Plain.{PlainCall, NewSession, NewTransport, DeclareToken, UndeclareToken, Interest, InterestFinal, DeclareFinal, CloseFace, Expire, SetTrees, SetEntities}
use Rattle.zt_protocol.specs.declared.entries.Sent.{Sent}
use Rattle.zt_protocol.specs.declared.messages.Message.{Message}
use Rattle.zt_model.specs.Fabric.{Fabric, Node, at_nth, call_face, printed_for}
use Rattle.zt_model.specs.Hearing.{heard_all, messages_for, rows_heard}
use Rattle.zt_model.specs.Lists.{at_id, has_id, nth}
use Rattle.zt_model.specs.Parts.{find_face}
use Rattle.zt_model.specs.Refusals.{call_causes, first_cause, is_unknown_token}
use Rattle.zt_model.specs.Rows.{ById, Face, Rows}
use Rattle.zt_model.specs.Says.{altered, said}
use Rattle.zt_model.specs.Telling.{registered, registers, undeclared, unregistered}
use Rattle.zt_model.specs.Transcript.{Each, FaceAt, face_numbered}
use Rattle.zt_laws.specs.Order.{FabricIsInOrder}
use Rattle.zt_laws.specs.Sound.{CallHasFirstIds, opens_face, rows_after_call}
use Rattle.zt_laws.proofs.Calls.{no_cause, not_on_face}
use Rattle.zt_laws.proofs.CallsOrder.{altered_faces}
use Rattle.zt_laws.proofs.Entries.{nth-at_nth}
use Rattle.zt_laws.proofs.Gateways.{PrintsSends}
use Rattle.zt_laws.proofs.Hearing.{find_each, find_passes, heard_all-number, heard_all-region}
use Rattle.zt_laws.proofs.Lists.{by_test, each_map, each_weaker, never, of_cond}
use Rattle.zt_laws.proofs.LinesOrder.{gateway_in_order}
use Rattle.zt_laws.proofs.Numbered.{length-at_nth, nth_real}
use Rattle.zt_laws.proofs.ToldFrom.{found_by_number}
use Rattle.zt_theorem_tree_invariant.specs.Facts.{TreesAgree}
use Rattle.zt_theorem_tree_invariant.specs.Joints.{IsForest, LinksStand, are_joined}
use Rattle.zt_theorem_tree_invariant.proofs.Effects.{Acts, Hears, own_declare, own_final, own_finish, own_interest, own_undeclare, any_entities}
use Rattle.zt_theorem_tree_invariant.proofs.Lines.{hears_call, interest_from, tree_rows}
use Rattle.zt_theorem_tree_invariant.proofs.Members.{is_there, numbered}
use Rattle.zt_theorem_tree_invariant.proofs.Quiet.{joined_back}
use Rattle.zt_theorem_tree_invariant.proofs.Saying.{TreeRows, find_heard_at, find_map}
use Rattle.zt_theorem_tree_invariant.proofs.Steps.{found_at, not_true}
use Rattle.zt_theorem_tree_invariant.proofs.Turning.{nth_other, turned}

abbrev pub closes_face : {K : Type 0} → PlainCall K → Bool
closes_face (CloseFace n) = true
closes_face _ = false

-- the call closes another face, or none
abbrev pub LeavesOpen : {K : Type 0} → PlainCall K → ℕ → Type 0
LeavesOpen c p = closes_face c ≡ true → (n : ℕ) → call_face c ≡ Some n → n ≢ p

the_same : {A : Type 0} {u v : A} → Some u ≡ Some v → u ≡ v
the_same h = cc

nth_none : {A : Type 0} (i n : ℕ) (change : A → A) (xs : List A) → nth i xs ≡ None → nth i (at_nth n change xs) ≡ None
nth_none i n change [] none_ = refl
nth_none {A} i n change (x ∷ xs) none_ =
    by_test (i == 1)
    (λ own. let bad : Some x ≡ None = rw own at none_ in cc)
    (λ own.
    let rest : nth (i - 1) xs ≡ None = rw own at none_ in
    of_cond (λ (ys : List A). nth i ys ≡ None) (n == 1) (change x ∷ xs) (x ∷ at_nth (n - 1) change xs) (λ _. rw own rest) (λ _. rw own (nth_none (i - 1) (n - 1) change xs rest)))

pub nth_before : {A : Type 0} (i n : ℕ) (change : A → A) (xs : List A) (y : A) → 1 ≤ n → i ≢ n → nth i (at_nth n change xs) ≡ Some y → nth i xs ≡ Some y
nth_before {A} i n change xs y real apart at_ = by_before (nth i xs) refl
  where
    by_before : (o : Option A) → nth i xs ≡ o → nth i xs ≡ Some y
    by_before None is = let bad : None ≡ Some y = sym (nth_none i n change xs is) ∙ at_ in cc
    by_before (Some x) is = is ∙ sym (nth_other i n change xs x real apart is) ∙ at_

module _ {K : Type 0} (cmp : K → K → Ordering) (matching : K → K → Bool) (total : IsTotalOrder cmp) where
  -- a face that a call leaves open, in its region
  record Stays (c : PlainCall K) (g : Rows K) (p : ℕ) (f : Face K) : Type 0 where
    after : Face K
    altered_is : find_face p (altered cmp matching c g) ≡ Some after
    region : after.region ≡ f.region

  acted : (c : PlainCall K) (g : Rows K) (n p : ℕ) (f after : Face K) → n ≡ p → Acts cmp matching c g n f after → after.region ≡ f.region → Stays c g p f
  acted c g n p f after is acts region_ = record { after = after; altered_is = ap (λ k. find_face k (altered cmp matching c g)) (sym is) ∙ acts.altered_is; region = region_ }

  heard_there : (c : PlainCall K) (g : Rows K) (p : ℕ) (f : Face K) → Hears cmp matching c g p f → Stays c g p f
  heard_there c g p f h = record { after = h.after; altered_is = h.altered_is; region = h.unmoved.region }

  -- by whether the call names the face
  by_name : (spent : Bool) (c : PlainCall K) (g : Rows K) (n p : ℕ) (f : Face K) → TreeRows cmp g → first_cause (call_causes cmp matching spent c g) ≡ None → opens_face c ≡ false → call_face c ≡ Some n → find_face p g ≡ Some f → (n ≡ p → find_face n g ≡ Some f → Stays c g p f) → Stays c g p f
  by_name spent c g n p f rows accepted still names found own =
      by_test (n == p)
      (λ here. let is = eqb-true n p here in own is (ap (λ k. find_face k g) is ∙ found))
      (λ apart. heard_there c g p f (hears_call cmp matching spent c g p f rows accepted still (λ k k_is is. let both : Some k ≡ Some n = sym k_is ∙ names in never (eq-eqb n p (sym (the_same both) ∙ is)) apart) found))

  stays : (spent : Bool) (c : PlainCall K) (g : Rows K) (p : ℕ) (f : Face K) → TreeRows cmp g → first_cause (call_causes cmp matching spent c g) ≡ None → opens_face c ≡ false → LeavesOpen c p → find_face p g ≡ Some f → Stays c g p f
  unfolding call_causes
  stays spent (NewSession first) g p f rows accepted still open_ found = never refl still
  stays spent (NewTransport zid whatami region bound first) g p f rows accepted still open_ found = never refl still
  stays spent (CloseFace n) g p f rows accepted still open_ found = heard_there (CloseFace n) g p f (hears_call cmp matching spent (CloseFace n) g p f rows accepted refl (open_ refl) found)
  stays spent (DeclareToken n id e node interest) g p f rows accepted still open_ found =
      by_name spent (DeclareToken n id e node interest) g n p f rows accepted refl refl found
      (λ is own. acted (DeclareToken n id e node interest) g n p f (if registers f interest then registered id e f else f) is (own_declare cmp matching n id node e interest g f rows own)
      (of_cond (λ (h : Face K). h.region ≡ f.region) (registers f interest) (registered id e f) f (λ _. refl) (λ _. refl)))
  stays spent (UndeclareToken n id given node) g p f rows accepted still open_ found =
      by_name spent (UndeclareToken n id given node) g n p f rows accepted refl refl found
      (λ is own.
      let three = no_cause _ _ _ (no_cause _ _ _ (no_cause _ _ _ accepted).1).1 in
      let named = some_named given (not_on_face n g (is_unknown_token id given) f own three.0) in
      acted (UndeclareToken n id given node) g n p f (unregistered id f) is (own_undeclare cmp matching n id node given g f rows own named.0 named.1) refl)
    where
      at_live : (e : K) (o : Option K) → at_id id f.live ≡ o → (x : K) × (undeclared cmp matching id (Some e) f ≡ Some x)
      at_live e None at_ = (e, ap (λ o. (let r : Option K = elim o [ None ↦ Some e | Some k ↦ Some k ] in r)) at_)
      at_live e (Some x) at_ = (x, ap (λ o. (let r : Option K = elim o [ None ↦ Some e | Some k ↦ Some k ] in r)) at_)

      some_named : (o : Option K) → is_unknown_token id o f ≡ false → (x : K) × (undeclared cmp matching id o f ≡ Some x)
      some_named None known = let there = found_at id f.live (not_true known) in (there.0, ap (λ o. (let r : Option K = elim o [ None ↦ None | Some k ↦ Some k ] in r)) there.1)
      some_named (Some e) known = at_live e (at_id id f.live) refl
  stays spent (Interest n id mode options e) g p f rows accepted still open_ found =
      by_name spent (Interest n id mode options e) g n p f rows accepted refl refl found
      (λ is own.
      let from = interest_from cmp matching spent n id mode options e g rows accepted in
      let same_ : from.0 ≡ f = the_same (sym from.1.0 ∙ own) in
      acted (Interest n id mode options e) g n p f _ is (own_interest cmp matching n id mode options e g f rows own (ap (λ (h : Face K). is_north h.region) (sym same_) ∙ from.1.1)) refl)
  stays spent (InterestFinal n id) g p f rows accepted still open_ found =
      by_name spent (InterestFinal n id) g n p f rows accepted refl refl found
      (λ is own.
      let two = no_cause _ _ _ (no_cause _ _ _ accepted).1 in
      let there = found_at id f.held (not_true (not_on_face n g (λ h. not (has_id id h.held)) f own two.0)) in
      acted (InterestFinal n id) g n p f _ is (own_final cmp matching n id g f there.0 rows own there.1) refl)
  stays spent (DeclareFinal n id) g p f rows accepted still open_ found =
      by_name spent (DeclareFinal n id) g n p f rows accepted refl refl found
      (λ is own. let h = own_finish cmp matching n id g f rows own in record { after = h.after; altered_is = ap (λ k. find_face k (altered cmp matching (DeclareFinal n id) g)) (sym is) ∙ h.altered_is; region = h.unmoved.region })
  stays spent (Expire now) g p f rows accepted still open_ found = heard_there (Expire now) g p f (hears_call cmp matching spent (Expire now) g p f rows accepted refl (λ k k_is is. let bad : None ≡ Some k = k_is in cc) found)
  stays spent (SetTrees region t) g p f rows accepted still open_ found = heard_there (SetTrees region t) g p f (hears_call cmp matching spent (SetTrees region t) g p f rows accepted refl (λ k k_is is. let bad : None ≡ Some k = k_is in cc) found)
  stays spent (SetEntities n subscribers queryables) g p f rows accepted still open_ found = heard_there (SetEntities n subscribers queryables) g p f (any_entities cmp matching n subscribers queryables g p f rows found)

  module _ (s : Fabric K) (fine : FabricIsInOrder cmp matching s) (agree : TreesAgree cmp matching s) (j : ℕ) (node : Node K) (at_j : nth j s.gateways ≡ Some node) (c : PlainCall K) (real : CallHasFirstIds c) (still : opens_face c ≡ false) (open_ : (k b : ℕ) (z : FaceAt K) → face_numbered s k ≡ Some z → are_joined s k b ≡ true → z.gateway ≡ j → LeavesOpen c z.face.number) (spent : Bool) (accepted : first_cause (call_causes cmp matching spent c node.rows) ≡ None)
      (ms : List (Sent K)) (w : ById (List (Message K))) (prints : PrintsSends s.faces j (said cmp matching c node.rows) ms) where
    abbrev then_ : Fabric K
    then_ = turned cmp matching total s fine j node at_j c real ms w prints

    abbrev changes : Node K → Node K
    changes x = record x { rows = rows_after_call cmp matching c x.rows }

    -- an end of a joint is open after the call, at its gateway and in its region
    pub record After (k : ℕ) (z : FaceAt K) : Type 0 where
      pub face : FaceAt K
      pub is : face_numbered then_ k ≡ Some face
      pub gateway : face.gateway ≡ z.gateway
      pub region : face.face.region ≡ z.face.region

    pub still_there : (k b : ℕ) (z : FaceAt K) → face_numbered s k ≡ Some z → are_joined s k b ≡ true → After k z
    still_there k b z found joined =
        let at_ = is_there s k z found in
        by_test (z.gateway == j)
        (λ here.
        let at_z : z.gateway ≡ j = eqb-true z.gateway j here in
        let place_here : at_.place.gateway ≡ j = at_.gateway_is ∙ at_z in
        let node_same : at_.node ≡ node = the_same (sym at_.node_is ∙ ap (λ g. nth g s.gateways) at_z ∙ at_j) in
        let there : find_face z.face.number node.rows ≡ Some z.face = ap (λ (x : Node K). find_face z.face.number x.rows) (sym node_same) ∙ ap (find_face z.face.number) at_.rows_are ∙ at_.face_is in
        let st = stays spent c node.rows z.face.number z.face (tree_rows cmp matching s j node fine agree at_j) accepted still (open_ k b z found joined at_z) there in
        let ss = said cmp matching c node.rows in
        let g = altered cmp matching c node.rows in
        let h = heard_all cmp g.moment (messages_for z.face.number ss) st.after in
        record {
          face = record { gateway = at_.place.gateway; rows = (changes node).rows; face = h };
          is =
              numbered then_ k at_.place (changes node) h at_.place_is (ap (λ i. nth i then_.gateways) place_here ∙ nth-at_nth j changes s.gateways node at_j)
              (ap (λ n. find_face n (changes node).rows) at_.number_is ∙ find_heard_at cmp ss g z.face.number st.after st.altered_is);
          gateway = at_.gateway_is;
          region = heard_all-region cmp g.moment (messages_for z.face.number ss) st.after ∙ st.region;
        })
        (λ apart.
        record {
          face = record { gateway = at_.place.gateway; rows = at_.node.rows; face = z.face };
          is =
              numbered then_ k at_.place at_.node z.face at_.place_is
              (ap (λ g. nth g then_.gateways) at_.gateway_is ∙ nth_other z.gateway j changes s.gateways at_.node (nth_real j s.gateways node at_j) (λ is. never (eq-eqb z.gateway j is) apart) at_.node_is)
              (ap (λ n. find_face n at_.node.rows) at_.number_is ∙ ap (find_face z.face.number) at_.rows_are ∙ at_.face_is);
          gateway = at_.gateway_is;
          region = refl;
        })

    -- and a face after the call was open before
    abbrev HasBefore : ℕ → Type 0
    HasBefore n = (f : Face K) × (find_face n node.rows ≡ Some f)

    -- no call makes a face of a number that none had
    numbered_before : (n : ℕ) (h : Face K) → find_face n (altered cmp matching c node.rows) ≡ Some h → HasBefore n
    numbered_before n h found =
        let lists = (gateway_in_order cmp matching s j node at_j fine).rows.lists in
        let before = each_weaker (λ f. find_face f.number node.rows ≡ Some f) (λ f. HasBefore f.number) (λ f is. (f, is)) node.rows.faces (found_by_number 1 node.rows.faces lists.faces_rise) in
        let all = (altered_faces cmp matching total HasBefore c node.rows still lists before).0 in
        let own = find_each (λ f. HasBefore f.number) (λ (f : Face K). n == f.number) (altered cmp matching c node.rows).faces h all found in
        subst HasBefore (sym (eqb-true n h.number (find_passes (λ (f : Face K). n == f.number) (altered cmp matching c node.rows).faces h found))) own

    heard_before : (n : ℕ) (y : Face K) → find_face n (rows_heard cmp (said cmp matching c node.rows) (altered cmp matching c node.rows)) ≡ Some y → HasBefore n
    unfolding rows_heard
    heard_before n y there = by_found (find_face n (altered cmp matching c node.rows)) refl
      where
        by_found : (o : Option (Face K)) → find_face n (altered cmp matching c node.rows) ≡ o → HasBefore n
        by_found (Some h) is = numbered_before n h is
        by_found None is =
            let gone : find_face n (rows_heard cmp (said cmp matching c node.rows) (altered cmp matching c node.rows)) ≡ None =
            find_map cmp n (λ h. heard_all cmp (altered cmp matching c node.rows).moment (messages_for h.number (said cmp matching c node.rows)) h) (altered cmp matching c node.rows).faces
            (λ h. heard_all-number cmp (altered cmp matching c node.rows).moment (messages_for h.number (said cmp matching c node.rows)) h)
            ∙ ap (option_map (λ h. heard_all cmp (altered cmp matching c node.rows).moment (messages_for h.number (said cmp matching c node.rows)) h)) is in
            let bad : None ≡ Some y = sym gone ∙ there in
            cc

    pub was_there : (k : ℕ) (x : FaceAt K) → face_numbered then_ k ≡ Some x → (z : FaceAt K) × (face_numbered s k ≡ Some z)
    was_there k x found =
        let at_ = is_there then_ k x found in
        by_test (x.gateway == j)
        (λ here.
        let at_x : x.gateway ≡ j = eqb-true x.gateway j here in
        let node_now : nth j then_.gateways ≡ Some (changes node) = nth-at_nth j changes s.gateways node at_j in
        let node_same : at_.node ≡ changes node = the_same (sym at_.node_is ∙ ap (λ g. nth g then_.gateways) at_x ∙ node_now) in
        let rows_same : x.rows ≡ rows_after_call cmp matching c node.rows = sym at_.rows_are ∙ ap (λ (y : Node K). y.rows) node_same in
        let p = x.face.number in
        let there : find_face p (rows_heard cmp (said cmp matching c node.rows) (altered cmp matching c node.rows)) ≡ Some x.face = ap (find_face p) (sym rows_same) ∙ at_.face_is in
        let z_there = heard_before p x.face there in
        let place_here : at_.place.gateway ≡ j = at_.gateway_is ∙ at_x in
        (record { gateway = at_.place.gateway; rows = node.rows; face = z_there.0 }, numbered s k at_.place node z_there.0 at_.place_is (ap (λ i. nth i s.gateways) place_here ∙ at_j) (ap (λ n. find_face n node.rows) at_.number_is ∙ z_there.1)))
        (λ apart.
        let node_before : nth x.gateway s.gateways ≡ Some at_.node = nth_before x.gateway j changes s.gateways at_.node (nth_real j s.gateways node at_j) (λ is. never (eq-eqb x.gateway j is) apart) at_.node_is in
        (record { gateway = at_.place.gateway; rows = at_.node.rows; face = x.face }, numbered s k at_.place at_.node x.face at_.place_is (ap (λ g. nth g s.gateways) at_.gateway_is ∙ node_before) (ap (λ n. find_face n at_.node.rows) at_.number_is ∙ ap (find_face x.face.number) at_.rows_are ∙ at_.face_is)))

    -- ---- links and ranks

    has_added : (k : ℕ) (rows : ById (List (Message K))) → has_id k (map (λ row. (row.0, row.1 ++ printed_for row.0 ms)) rows) ≡ has_id k rows
    has_added k [] = refl
    has_added k (row ∷ rows) = ap (λ b. (k == row.0) || b) (has_added k rows)

    pub links_stand : ((k : ℕ) → has_id k s.waiting ≡ true → has_id k w ≡ true) → Each (λ row. row.0 ≤ length s.faces) w → LinksStand then_
    links_stand waits rows = record {
      meet = λ a b joined.
          let ends = agree.links.meet a b joined in
          let one = still_there a b ends.one ends.one_is joined in
          let two = still_there b a ends.two ends.two_is (joined_back s a b joined) in
          record { one = one.face; two = two.face; one_is = one.is; two_is = two.is; one_leads_up = ap is_north two.region ∙ ends.one_leads_up ∙ ap not (ap is_north (sym one.region)) };
      once = agree.links.once;
      stay = λ a x found some.
          let z = was_there a x found in
          let j0 = agree.links.stay a z.0 z.1 some in
          record { other = j0.other; joined = j0.joined };
      wait = λ a b joined. has_added a w ∙ waits a (agree.links.wait a b joined);
      made = agree.links.made;
      rise = agree.links.rise;
      rows = each_map (λ (row : ℕ × List (Message K)). row.0 ≤ length s.faces) (λ row. (row.0, row.1 ++ printed_for row.0 ms)) w rows;
    }

    pub ranks_stand : IsForest then_
    ranks_stand = record {
      rank = agree.forest.rank;
      within = λ n. subst (λ k. agree.forest.rank n ≤ k) (sym (length-at_nth j changes s.gateways)) (agree.forest.within n);
      falls = λ a b x y joined x_is y_is up.
          let zx = was_there a x x_is in
          let zy = was_there b y y_is in
          let ax = still_there a b zx.0 zx.1 joined in
          let ay = still_there b a zy.0 zy.1 (joined_back s a b joined) in
          let x_same : x ≡ ax.face = the_same (sym x_is ∙ ax.is) in
          let y_same : y ≡ ay.face = the_same (sym y_is ∙ ay.is) in
          let up_before : is_north zx.0.face.region ≡ true = ap is_north (sym ax.region) ∙ ap (λ (v : FaceAt K). is_north v.face.region) (sym x_same) ∙ up in
          let less = agree.forest.falls a b zx.0 zy.0 joined zx.1 zy.1 up_before in
          subst (λ g. agree.forest.rank y.gateway < agree.forest.rank g) (sym (ap (λ (v : FaceAt K). v.gateway) x_same ∙ ax.gateway))
          (subst (λ g. agree.forest.rank g < agree.forest.rank zx.0.gateway) (sym (ap (λ (v : FaceAt K). v.gateway) y_same ∙ ay.gateway)) less);
    }
