-- A token that is carried up a way stays so through a call, where its expression is live at the first face after it.
use Rattle.std.proofs.Common.{◌≡◌, ◌≢◌, ◌⊎◌, inl, inr, ℕ, ◌≤◌, Bool, true, false, ◌&&◌, ◌==◌, not, List, [], ◌∷◌, ◌++◌, Option, Some, None, refl, sym, ap, ◌∙◌, subst, eqb-true, eq-eqb}
use Rattle.std.proofs.lemmas.Bool.{and_from, and_parts}
use Rattle.std.specs.Cmp.{IsTotalOrder}
use Rattle.std.specs.List.{list_any}
use Rattle.std.specs.declared.cmp.Ordering.{Ordering}
use Rattle.std.specs.declared.cmp.Ordering.TheVariants.{Equal}
use Rattle.zt_region.specs.declared.region.WhatAmI.TheVariants.{Client}
use Rattle.zt_region.specs.Region.{is_north}
use Rattle.zt_protocol.specs.Plain.{PlainCall, NewSession, NewTransport, DeclareToken, UndeclareToken, Interest, InterestFinal, DeclareFinal, CloseFace, Expire, SetTrees, SetEntities}
use Rattle.zt_protocol.specs.declared.entries.Sent.{Sent}
use Rattle.zt_protocol.specs.declared.messages.Message.{Message}
use Rattle.zt_protocol.specs.declared.messages.Message.TheVariants as message
use Rattle.zt_model.specs.Fabric.{Fabric, Node, call_face, printed_for}
use Rattle.zt_model.specs.Hearing.{heard_all, messages_for}
use Rattle.zt_model.specs.Linking.{call_of_message, waiting_of}
use Rattle.zt_model.specs.Lists.{has_id, nth, same}
use Rattle.zt_model.specs.Parts.{find_face, with_face}
use Rattle.zt_model.specs.Refusals.{call_causes, first_cause, is_unknown_token}
use Rattle.zt_model.specs.Rows.{ById, Face}
use Rattle.zt_model.specs.Says.{altered, said, unregistered}
use Rattle.zt_model.specs.Transcript.{Each, FaceAt, face_numbered}
use Rattle.zt_laws.specs.Order.{FabricIsInOrder}
use Rattle.zt_laws.specs.Sound.{CallHasFirstIds, opens_face, rows_after_call}
use Rattle.zt_laws.proofs.Calls.{no_cause, not_on_face}
use Rattle.zt_laws.proofs.Gateways.{PrintsSends}
use Rattle.zt_laws.proofs.Hearing.{find_each, heard_all-live}
use Rattle.zt_laws.proofs.Lists.{any_weaker, by_test, each_append, never}
use Rattle.zt_theorem_tree_invariant.specs.Facts.{IsTreeFace, TreesAgree}
use Rattle.zt_theorem_tree_invariant.specs.Joints.{are_joined}
use Rattle.zt_theorem_tree_invariant.proofs.Effects.{own_undeclare}
use Rattle.zt_theorem_tree_invariant.proofs.Lines.{tree_rows}
use Rattle.zt_theorem_tree_invariant.proofs.Quiet.{is_live, joined_back}
use Rattle.zt_theorem_tree_invariant.proofs.Saying.{find_heard_at}
use Rattle.zt_theorem_tree_invariant.proofs.Standing.{After, LeavesOpen, still_there}
use Rattle.zt_theorem_tree_invariant.proofs.Tracking.{find_with_face}
use Rattle.zt_theorem_tree_invariant.proofs.Turning.{queue}
use Rattle.zt_theorem_tree_all_that_stays.specs.Steady.{IsTold, LeavesRow, has_row}
use Rattle.zt_theorem_tree_all_that_stays.specs.Ways.{IsAbove, IsCarried, IsCarriedUp, LivesAt}
use Rattle.zt_theorem_tree_all_that_stays.proofs.Parts.{sent_to}
use Rattle.zt_theorem_tree_all_that_stays.proofs.Stays.{SparesRow, is_left, named_undeclared}
use Rattle.zt_theorem_tree_all_that_stays.proofs.Told.{Spares, Tells, Told, leaves_row}
use Rattle.zt_theorem_tree_all_that_stays.proofs.Views.{IsSpoken, IsUnspoken, Speaks, any_of, closed_is_gone, elsewhere, leaves_open, of_own, own_of, printed_elsewhere, printed_here, rows_before, rows_then, same_place, still_waits, then_, waits_then}

-- the call makes time go on
abbrev pub expires : {K : Type 0} → PlainCall K → Bool
expires (Expire now) = true
expires _ = false

module _ {K : Type 0} (cmp : K → K → Ordering) (matching : K → K → Bool) (total : IsTotalOrder cmp) (equal_is_same : (a b : K) → cmp a b ≡ Equal → a ≡ b) (e : K) (s : Fabric K) (fine : FabricIsInOrder cmp matching s) (agree : TreesAgree cmp matching s) (j : ℕ) (node : Node K) (at_j : nth j s.gateways ≡ Some node)
    (c : PlainCall K) (real : CallHasFirstIds c) (still : opens_face c ≡ false) (timeless : expires c ≡ false) (spent : Bool) (accepted : first_cause (call_causes cmp matching spent c node.rows) ≡ None) (ms : List (Sent K)) (w : ById (List (Message K))) (prints : PrintsSends s.faces j (said cmp matching c node.rows) ms)
    (waits : (k : ℕ) → has_id k s.waiting ≡ true → has_id k w ≡ true) (speaks : Speaks cmp matching total s fine j node at_j c real ms w prints) (order : FabricIsInOrder cmp matching (then_ cmp matching total s fine j node at_j c real ms w prints)) where
  abbrev t : Fabric K
  t = then_ cmp matching total s fine j node at_j c real ms w prints

  the_same : {A : Type 0} {u v : A} → Some u ≡ Some v → u ≡ v
  the_same h = cc

  -- ---- the call spares the row

  undeclares : (n k tree_node : ℕ) (given : Option K) (own : Face K) (after : Face K) → c ≡ UndeclareToken n k given tree_node → find_face own.number node.rows ≡ Some own → is_north own.region ≡ false → is_live cmp e own ≡ true
      → find_face own.number (rows_after_call cmp matching c node.rows) ≡ Some after → is_live cmp e after ≡ true → list_any (λ (f : Face K). (own.number == f.number) && (not (is_north f.region) && is_live cmp e f)) (with_face n (unregistered k) node.rows).faces ≡ true
  unfolding call_causes
  undeclares n k tree_node given own after is found down live found_after live_after =
      let q = own.number in
      let rows = tree_rows cmp matching s j node fine agree at_j in
      let left = find_with_face cmp matching q n (unregistered k) node.rows own (λ f. refl) found in
      by_test (n == q)
      (λ here.
      let n_is : n ≡ q = eqb-true n q here in
      let found_n : find_face n node.rows ≡ Some own = ap (λ i. find_face i node.rows) n_is ∙ found in
      let accepted_ : first_cause (call_causes cmp matching spent (UndeclareToken n k given tree_node) node.rows) ≡ None = subst (λ d. first_cause (call_causes cmp matching spent d node.rows) ≡ None) is accepted in
      let three = no_cause _ _ _ (no_cause _ _ _ (no_cause _ _ _ accepted_).1).1 in
      let named = named_undeclared cmp matching total k own given (not_on_face n node.rows (is_unknown_token k given) own found_n three.0) in
      let acts = own_undeclare cmp matching n k tree_node given node.rows own rows found_n named.0 named.1 in
      let d : PlainCall K = UndeclareToken n k given tree_node in
      let h = heard_all cmp (altered cmp matching d node.rows).moment (messages_for n (said cmp matching d node.rows)) (unregistered k own) in
      let found_h : find_face q (rows_after_call cmp matching c node.rows) ≡ Some h = ap (λ i. find_face i (rows_after_call cmp matching c node.rows)) (sym n_is) ∙ ap (λ (a : PlainCall K). find_face n (rows_after_call cmp matching a node.rows)) is ∙ find_heard_at cmp (said cmp matching d node.rows) (altered cmp matching d node.rows) n (unregistered k own) acts.altered_is in
      let same_ : h ≡ after = the_same (sym found_h ∙ found_after) in
      let live_h : is_live cmp e (unregistered k own) ≡ true = ap (list_any (λ row. same cmp e row.1)) (sym (heard_all-live cmp (altered cmp matching d node.rows).moment (messages_for n (said cmp matching d node.rows)) (unregistered k own))) ∙ ap (is_live cmp e) same_ ∙ live_after in
      any_of (λ f. not (is_north f.region) && is_live cmp e f) q (with_face n (unregistered k) node.rows).faces (unregistered k own) (left ∙ rw here refl) (and_from (not (is_north own.region)) (is_live cmp e (unregistered k own)) (ap not down) live_h))
      (λ apart. any_of (λ f. not (is_north f.region) && is_live cmp e f) q (with_face n (unregistered k) node.rows).faces own (left ∙ rw apart refl) (and_from (not (is_north own.region)) (is_live cmp e own) (ap not down) live))

  spares_by : (p : ℕ) (id : ℕ) (row_real : 1 ≤ id) (own : Face K) (after : Face K) → find_face own.number node.rows ≡ Some own → is_north own.region ≡ false → is_live cmp e own ≡ true → find_face own.number (rows_after_call cmp matching c node.rows) ≡ Some after → is_live cmp e after ≡ true
      → Spares cmp matching total equal_is_same id e row_real p own.number c node.rows
  spares_by p id row_real own after found down live found_after live_after = cases c refl
    where
      cases : (d : PlainCall K) → c ≡ d → Spares cmp matching total equal_is_same id e row_real p own.number d node.rows
      cases (DeclareToken n k x tree_node interest) is = tt
      cases (UndeclareToken n k given tree_node) is = undeclares n k tree_node given own after is found down live found_after live_after
      cases (Interest n k mode options x) is = tt
      cases (InterestFinal n k) is = tt
      cases (DeclareFinal n k) is = tt
      cases (CloseFace n) is =
          by_test (n == own.number)
          (λ here.
          let gone = ap (λ i. find_face i (rows_after_call cmp matching c node.rows)) (sym (eqb-true n own.number here)) ∙ ap (λ (a : PlainCall K). find_face n (rows_after_call cmp matching a node.rows)) is ∙ closed_is_gone cmp matching n node.rows in
          let bad : None ≡ Some after = sym gone ∙ found_after in
          cc)
          (λ apart. apart)
      cases (SetTrees region table) is = tt
      cases (SetEntities n subscribers queryables) is = tt
      cases (NewSession first) is = never (ap opens_face is) still
      cases (NewTransport zid whatami region bound first) is = never (ap opens_face is) still
      cases (Expire now) is = never (ap expires is) timeless

  -- what a face above speaks spares its row
  spoken_spares : (n p : ℕ) (id : ℕ) (m : Message K) → LeavesRow cmp id e m → call_of_message n m ≡ Some c → SparesRow cmp matching total c p id e
  spoken_spares n p id (message.DeclareToken k x i tree_node) leaves is = let same_ : DeclareToken n k x tree_node i ≡ c = the_same is in subst (λ d. SparesRow cmp matching total d p id e) same_ (λ _. leaves)
  spoken_spares n p id (message.UndeclareToken k None tree_node) leaves is = let same_ : UndeclareToken n k None tree_node ≡ c = the_same is in subst (λ d. SparesRow cmp matching total d p id e) same_ (λ _. leaves)
  spoken_spares n p id (message.UndeclareToken k (Some x) tree_node) leaves is = absurd leaves
  spoken_spares n p id (message.DeclareFinal k) leaves is = let same_ : DeclareFinal n k ≡ c = the_same is in subst (λ d. SparesRow cmp matching total d p id e) same_ tt
  spoken_spares n p id (message.Interest k mode options x) leaves is = let same_ : Interest n k mode options x ≡ c = the_same is in subst (λ d. SparesRow cmp matching total d p id e) same_ tt
  spoken_spares n p id (message.InterestFinal k) leaves is = let same_ : InterestFinal n k ≡ c = the_same is in subst (λ d. SparesRow cmp matching total d p id e) same_ tt
  spoken_spares n p id (message.DeclareSubscriber number x i) leaves is = cc
  spoken_spares n p id (message.DeclareQueryable number x info i) leaves is = cc

  unnamed_spares : (p id : ℕ) → ((n : ℕ) → call_face c ≡ Some n → n ≢ p) → SparesRow cmp matching total c p id e
  unnamed_spares p id unnamed = cases c unnamed
    where
      cases : (d : PlainCall K) → ((n : ℕ) → call_face d ≡ Some n → n ≢ p) → SparesRow cmp matching total d p id e
      cases (DeclareToken n k x tree_node interest) other = λ is. absurd (other n refl is)
      cases (UndeclareToken n k given tree_node) other = λ is. absurd (other n refl is)
      cases (Interest n k mode options x) other = tt
      cases (InterestFinal n k) other = tt
      cases (DeclareFinal n k) other = tt
      cases (CloseFace n) other = tt
      cases (SetTrees region table) other = tt
      cases (SetEntities n subscribers queryables) other = tt
      cases (NewSession first) other = tt
      cases (NewTransport zid whatami region bound first) other = tt
      cases (Expire now) other = tt

  -- ---- a joint

  abbrev open_ : (k b : ℕ) (z : FaceAt K) → face_numbered s k ≡ Some z → are_joined s k b ≡ true → z.gateway ≡ j → LeavesOpen c z.face.number
  open_ = leaves_open cmp matching total s fine j node at_j c real ms w prints speaks

  module _ (k a b : ℕ) (carried : IsCarried cmp matching e s k a b) (lives : LivesAt cmp matching e s k) (lives_then : LivesAt cmp matching e t k) where
    abbrev above : IsAbove s k a b carried.own carried.lower carried.upper
    above = carried.above

    abbrev lower : FaceAt K
    lower = carried.lower

    abbrev upper : FaceAt K
    upper = carried.upper

    own_same : lives.own ≡ carried.own
    own_same = the_same (sym lives.own_is ∙ above.own_is)

    own_down : is_north carried.own.face.region ≡ false
    own_down = above.down

    own_live : is_live cmp e carried.own.face ≡ true
    own_live = ap (λ (z : FaceAt K). is_live cmp e z.face) (sym own_same) ∙ lives.live

    back : are_joined s b a ≡ true
    back = joined_back s a b above.joined

    abbrev lower_then : After cmp matching total s fine agree j node at_j c real still open_ spent accepted ms w prints a lower
    lower_then = still_there cmp matching total s fine agree j node at_j c real still open_ spent accepted ms w prints a b lower above.lower_is above.joined

    abbrev upper_then : After cmp matching total s fine agree j node at_j c real still open_ spent accepted ms w prints b upper
    upper_then = still_there cmp matching total s fine agree j node at_j c real still open_ spent accepted ms w prints b a upper above.upper_is back

    -- the row that was told, and what rises
    abbrev Tells_ : FaceAt K → Type 0
    Tells_ z = IsTold cmp carried.id e z.face × Each (LeavesRow cmp carried.id e) (waiting_of t a)

    abbrev waits_a : waiting_of t a ≡ queue w a ++ printed_for a ms
    waits_a = waits_then cmp matching total s fine j node at_j c real ms w prints a (waits a (agree.links.wait a b above.joined))

    rising_left : Each (LeavesRow cmp carried.id e) (queue w a)
    rising_left = still_waits cmp matching total s fine j node at_j c real ms w prints (LeavesRow cmp carried.id e) a upper (speaks b a upper above.upper_is back) carried.rising

    tells_here : lower.gateway ≡ j → Tells_ lower_then.face
    tells_here here =
        let g = node.rows in
        let rows = tree_rows cmp matching s j node fine agree at_j in
        let own_here : carried.own.gateway ≡ j = sym above.beside ∙ here in
        let found_own = rows_before cmp matching total s fine j node at_j c real ms w prints k carried.own above.own_is own_here in
        let found_low = rows_before cmp matching total s fine j node at_j c real ms w prints a lower above.lower_is here in
        let place_own = same_place cmp matching total s fine j node at_j c real ms w prints k carried.own lives_then.own above.own_is lives_then.own_is in
        let then_own : find_face carried.own.face.number (rows_after_call cmp matching c g) ≡ Some lives_then.own.face = ap (λ n. find_face n (rows_after_call cmp matching c g)) (sym place_own.1) ∙ rows_then cmp matching total s fine j node at_j c real ms w prints k lives_then.own lives_then.own_is (place_own.0 ∙ own_here) in
        let p = lower.face.number in
        let q = carried.own.face.number in
        let client : g.mode ≡ Client = ((find_each (IsTreeFace g.mode) (λ (h : Face K). p == h.number) g.faces lower.face rows.faces found_low).up above.up).own in
        let tells : Tells cmp matching total equal_is_same carried.id e carried.real p q true g = record {
          client = client;
          told = own_of (Told cmp matching total equal_is_same carried.id e carried.real) p g lower.face rows.rises found_low carried.told;
          live = λ _. any_of (λ f. not (is_north f.region) && is_live cmp e f) q g.faces carried.own.face found_own (and_from (not (is_north carried.own.face.region)) (is_live cmp e carried.own.face) (ap not own_down) own_live);
        } in
        let left = leaves_row cmp matching total equal_is_same carried.id e carried.real p q spent c g rows accepted tells (spares_by p carried.id carried.real carried.own.face lives_then.own.face found_own own_down own_live then_own lives_then.live) in
        let place_low = same_place cmp matching total s fine j node at_j c real ms w prints a lower lower_then.face above.lower_is lower_then.is in
        let then_low : find_face p (rows_after_call cmp matching c g) ≡ Some lower_then.face.face = ap (λ n. find_face n (rows_after_call cmp matching c g)) (sym place_low.1) ∙ rows_then cmp matching total s fine j node at_j c real ms w prints a lower_then.face lower_then.is (place_low.0 ∙ here) in
        let says : printed_for a ms ≡ messages_for p (said cmp matching c g) = printed_here cmp matching total s fine j node at_j c real ms w prints a lower above.lower_is here in (
          of_own (Told cmp matching total equal_is_same carried.id e carried.real) p (rows_after_call cmp matching c g) lower_then.face.face then_low left.1.told,
          subst (Each (LeavesRow cmp carried.id e)) (sym waits_a)
              (each_append (LeavesRow cmp carried.id e) (queue w a) (printed_for a ms) rising_left (subst (Each (LeavesRow cmp carried.id e)) (sym says) (sent_to p (LeavesRow cmp carried.id e) p (said cmp matching c g) (eq-eqb p p refl) left.0))),
        )

    tells_elsewhere : lower.gateway ≢ j → Tells_ lower_then.face
    tells_elsewhere apart = (
      subst (IsTold cmp carried.id e) (sym (elsewhere cmp matching total s fine j node at_j c real ms w prints a lower lower_then.face above.lower_is lower_then.is apart)) carried.told,
      subst (Each (LeavesRow cmp carried.id e)) (sym (waits_a ∙ ap (λ ns. queue w a ++ ns) (printed_elsewhere cmp matching total s fine j node at_j c real ms w prints a lower above.lower_is apart) ∙ no_more (queue w a))) rising_left,
    )
      where
        no_more : (ns : List (Message K)) → ns ++ [] ≡ ns
        no_more [] = refl
        no_more (m ∷ ns) = ap (λ xs. m ∷ xs) (no_more ns)

    -- the row that is live above
    spares_above : upper.gateway ≡ j → SparesRow cmp matching total c upper.face.number carried.id e
    spares_above here = cases (speaks b a upper above.upper_is back)
      where
        cases : IsUnspoken cmp matching total s fine j node at_j c real ms w prints a upper ⊎ IsSpoken cmp matching total s fine j node at_j c real ms w prints a upper → SparesRow cmp matching total c upper.face.number carried.id e
        cases (inl un) = unnamed_spares upper.face.number carried.id (un.unnamed here)
        cases (inr sp) = spoken_spares upper.face.number upper.face.number carried.id sp.message (subst (Each (LeavesRow cmp carried.id e)) sp.oldest carried.rising).0 sp.says

    live_above : has_row cmp carried.id e upper_then.face.face.live ≡ true
    live_above =
        by_test (upper.gateway == j)
        (λ same_.
        let here : upper.gateway ≡ j = eqb-true upper.gateway j same_ in
        let g = node.rows in
        let p = upper.face.number in
        let found_up = rows_before cmp matching total s fine j node at_j c real ms w prints b upper above.upper_is here in
        let left = is_left cmp matching total spent c g p upper.face (tree_rows cmp matching s j node fine agree at_j) accepted still (open_ b a upper above.upper_is back here) found_up in
        let h = heard_all cmp (altered cmp matching c g).moment (messages_for p (said cmp matching c g)) left.after in
        let found_h : find_face p (rows_after_call cmp matching c g) ≡ Some h = find_heard_at cmp (said cmp matching c g) (altered cmp matching c g) p left.after left.altered_is in
        let place_up = same_place cmp matching total s fine j node at_j c real ms w prints b upper upper_then.face above.upper_is upper_then.is in
        let then_up : find_face p (rows_after_call cmp matching c g) ≡ Some upper_then.face.face = ap (λ n. find_face n (rows_after_call cmp matching c g)) (sym place_up.1) ∙ rows_then cmp matching total s fine j node at_j c real ms w prints b upper_then.face upper_then.is (place_up.0 ∙ here) in
        let is : h ≡ upper_then.face.face = the_same (sym found_h ∙ then_up) in
        ap (λ (f : Face K). has_row cmp carried.id e f.live) (sym is) ∙ ap (has_row cmp carried.id e) (heard_all-live cmp (altered cmp matching c g).moment (messages_for p (said cmp matching c g)) left.after) ∙ left.row carried.id e (spares_above here) carried.live)
        (λ apart. ap (λ (f : Face K). has_row cmp carried.id e f.live) (elsewhere cmp matching total s fine j node at_j c real ms w prints b upper upper_then.face above.upper_is upper_then.is (λ is. never (eq-eqb upper.gateway j is) apart)) ∙ carried.live)

    upper_down : is_north upper_then.face.face.region ≡ false
    upper_down =
        let ends = agree.links.meet a b above.joined in
        let one : ends.one ≡ lower = the_same (sym ends.one_is ∙ above.lower_is) in
        let two : ends.two ≡ upper = the_same (sym ends.two_is ∙ above.upper_is) in
        ap is_north upper_then.region ∙ ap (λ (z : FaceAt K). is_north z.face.region) (sym two) ∙ ends.one_leads_up ∙ ap (λ (z : FaceAt K). not (is_north z.face.region)) one ∙ ap not above.up

    pub carried_then : IsCarried cmp matching e t k a b × LivesAt cmp matching e t b
    carried_then =
        let tells = by_test (lower.gateway == j) (λ same_. tells_here (eqb-true lower.gateway j same_)) (λ apart. tells_elsewhere (λ is. never (eq-eqb lower.gateway j is) apart)) in
        let place_own = same_place cmp matching total s fine j node at_j c real ms w prints k carried.own lives_then.own above.own_is lives_then.own_is in (
          record {
            own = lives_then.own;
            lower = lower_then.face;
            upper = upper_then.face;
            above = record { own_is = lives_then.own_is; lower_is = lower_then.is; upper_is = upper_then.is; down = lives_then.down; up = ap is_north lower_then.region ∙ above.up; joined = above.joined; beside = lower_then.gateway ∙ above.beside ∙ sym place_own.0 };
            id = carried.id;
            real = carried.real;
            told = tells.0;
            live = live_above;
            rising = tells.1;
          },
          record { own = upper_then.face; own_is = upper_then.is; down = upper_down; live = any_weaker (λ row. (carried.id == row.0) && same cmp e row.1) (λ row. same cmp e row.1) (λ row both. (and_parts (carried.id == row.0) (same cmp e row.1) both).1) upper_then.face.face.live live_above },
        )

  -- ---- the whole way

  -- the gateway at the end of the way has the expression live at a face that leads down
  pub carried_up : (way : List (ℕ × ℕ)) (k top : ℕ) → IsCarriedUp cmp matching e s k way top → LivesAt cmp matching e s k → LivesAt cmp matching e t k → IsCarriedUp cmp matching e t k way top
  carried_up [] k top up lives lives_then =
      let own_is : lives.own ≡ up.0 = the_same (sym lives.own_is ∙ up.1) in
      (lives_then.own, lives_then.own_is, (same_place cmp matching total s fine j node at_j c real ms w prints k up.0 lives_then.own up.1 lives_then.own_is).0 ∙ up.2)
  carried_up (step ∷ way) k top up lives lives_then =
      let one = carried_then k step.0 step.1 up.0 lives lives_then in
      (one.0, carried_up way step.1 top up.1 (lives_above step.0 step.1 k up.0) one.1)
    where
      lives_above : (a b k : ℕ) → IsCarried cmp matching e s k a b → LivesAt cmp matching e s b
      lives_above a b k carried =
          let ends = agree.links.meet a b carried.above.joined in
          let one : ends.one ≡ carried.lower = the_same (sym ends.one_is ∙ carried.above.lower_is) in
          let two : ends.two ≡ carried.upper = the_same (sym ends.two_is ∙ carried.above.upper_is) in
          record {
            own = carried.upper;
            own_is = carried.above.upper_is;
            down = ap (λ (z : FaceAt K). is_north z.face.region) (sym two) ∙ ends.one_leads_up ∙ ap (λ (z : FaceAt K). not (is_north z.face.region)) one ∙ ap not carried.above.up;
            live = any_weaker (λ row. (carried.id == row.0) && same cmp e row.1) (λ row. same cmp e row.1) (λ row both. (and_parts (carried.id == row.0) (same cmp e row.1) both).1) carried.upper.face.live carried.live;
          }
