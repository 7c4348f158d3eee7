-- What lines that make a gateway, a face or a link leave as it was: open faces, what waits for them, and closed ones.
use Rattle.std.proofs.Common.{◌≡◌, ℕ, ◌≤◌, ◌+◌, ◌-◌, Bool, true, false, ◌==◌, List, [], ◌∷◌, ◌++◌, map, Option, Some, None, option_map, refl, sym, ap, ◌∙◌, subst, arith, eqb-true, eq-eqb, ne_eqb}
use Rattle.std.specs.declared.cmp.Ordering.{Ordering}
use Rattle.zt_protocol.specs.Plain.{PlainCall, NewSession, NewTransport, DeclareToken, UndeclareToken, Interest, InterestFinal, DeclareFinal, CloseFace, Expire, SetTrees, SetEntities}
use Rattle.zt_protocol.specs.declared.entries.Sent.{Sent}
use Rattle.zt_protocol.specs.declared.messages.Message.{Message}
use Rattle.zt_model.specs.Fabric.{Fabric, Node, Place, number_from, printed_for}
use Rattle.zt_model.specs.Hearing.{heard_all, messages_for, rows_heard}
use Rattle.zt_model.specs.Lists.{first_where, nth}
use Rattle.zt_model.specs.Parts.{Sends, altered_by, find_face, said_by, to_face}
use Rattle.zt_model.specs.Rows.{Face, Rows}
use Rattle.zt_model.specs.Says.{altered, parts_of, said}
use Rattle.zt_model.specs.Transcript.{Each}
use Rattle.zt_laws.specs.Order.{FabricIsInOrder}
use Rattle.zt_laws.specs.Sound.{is_placed, opens_face, places_of, rows_after_call}
use Rattle.zt_laws.proofs.Gateways.{PrintsSends}
use Rattle.zt_laws.proofs.Hearing.{heard_all-number, messages_for-append, messages_for_other}
use Rattle.zt_laws.proofs.LinesOrder.{gateway_in_order}
use Rattle.zt_laws.proofs.Lists.{by_test, never}
use Rattle.zt_laws.proofs.Places.{nth_placed, number_of_nth, number_still, placed_still}
use Rattle.zt_theorem_tree_invariant.proofs.Saying.{find_heard_at, find_map}

-- the place of a face of a gateway has what all places there have
pub placed_fact : (P : Place → Type 0) (n k : ℕ) (ps : List Place) (p : Place) → nth k ps ≡ Some p → p.gateway ≡ n → Each P (places_of n ps) → P p
placed_fact P n k [] p at_ here all = cc
placed_fact P n k (q ∷ ps) p at_ here all =
    by_test (k == 1)
    (λ first.
    let e : Some q ≡ Some p = rw first at at_ in
    let is : q ≡ p = cc in
    let own : (n == q.gateway) ≡ true = eq-eqb n q.gateway (sym here ∙ ap (λ (r : Place). r.gateway) (sym is)) in
    subst P is ((rw own at all).0))
    (λ later. placed_fact P n (k - 1) ps p (rw later at at_) here (rest all))
  where
    rest : Each P (places_of n (q ∷ ps)) → Each P (places_of n ps)
    rest all_ = by_test (n == q.gateway) (λ own. (rw own at all_).1) (λ other. rw other at all_)

module _ {K : Type 0} (cmp : K → K → Ordering) (matching : K → K → Bool) (c : PlainCall K) (g : Rows K) (opens : opens_face c ≡ true) where
  made_by : (f : Face K) × ((altered cmp matching c g).faces ≡ g.faces ++ f ∷ []) × (f.number ≡ g.made + 1)
  unfolding parts_of altered_by
  made_by = by_call c opens
    where
      by_call : (d : PlainCall K) → opens_face d ≡ true → (f : Face K) × ((altered cmp matching d g).faces ≡ g.faces ++ f ∷ []) × (f.number ≡ g.made + 1)
      by_call (NewSession first) o = (_, refl, refl)
      by_call (NewTransport zid whatami region bound first) o = (_, refl, refl)
      by_call (DeclareToken k id e m i) o = never o refl
      by_call (UndeclareToken k id e m) o = never o refl
      by_call (Interest k id mode options e) o = never o refl
      by_call (InterestFinal k id) o = never o refl
      by_call (DeclareFinal k id) o = never o refl
      by_call (CloseFace k) o = never o refl
      by_call (Expire now) o = never o refl
      by_call (SetTrees region t) o = never o refl
      by_call (SetEntities k subscribers queryables) o = never o refl

  module _ (p : ℕ) (within : p ≤ g.made) where
    sent_elsewhere : (rule : Face K → List (Message K)) (h : Rows K) → messages_for p (to_face (g.made + 1) rule h) ≡ []
    unfolding to_face messages_for
    sent_elsewhere rule h = cases (find_face (g.made + 1) h)
      where
        cases : (o : Option (Face K)) → messages_for p (let ss : Sends K = elim o [ None ↦ [] | Some f ↦ map (λ m. (g.made + 1, m)) (rule f) ] in ss) ≡ []
        cases None = refl
        cases (Some f) = messages_for_other p (g.made + 1) (rule f) (ne_eqb p (g.made + 1) (λ is. omega arith))

    -- nothing is said to other faces
    pub says_elsewhere : messages_for p (said cmp matching c g) ≡ []
    unfolding parts_of said_by messages_for
    says_elsewhere = by_call c opens
      where
        nothing : (rule one two : Face K → List (Message K)) (a h k : Rows K) → messages_for p (to_face (g.made + 1) rule a ++ (to_face (g.made + 1) one h ++ (to_face (g.made + 1) two k ++ []))) ≡ []
        nothing rule one two a h k =
            messages_for-append p (to_face (g.made + 1) rule a) (to_face (g.made + 1) one h ++ (to_face (g.made + 1) two k ++ []))
            ∙ ap (λ xs. xs ++ messages_for p (to_face (g.made + 1) one h ++ (to_face (g.made + 1) two k ++ []))) (sent_elsewhere rule a)
            ∙ messages_for-append p (to_face (g.made + 1) one h) (to_face (g.made + 1) two k ++ [])
            ∙ ap (λ xs. xs ++ messages_for p (to_face (g.made + 1) two k ++ [])) (sent_elsewhere one h)
            ∙ messages_for-append p (to_face (g.made + 1) two k) []
            ∙ ap (λ xs. xs ++ messages_for p []) (sent_elsewhere two k)

        by_call : (d : PlainCall K) → opens_face d ≡ true → messages_for p (said cmp matching d g) ≡ []
        by_call (NewSession first) o = refl
        by_call (NewTransport zid whatami region bound first) o = nothing _ _ _ _ _ _
        by_call (DeclareToken k id e m i) o = never o refl
        by_call (UndeclareToken k id e m) o = never o refl
        by_call (Interest k id mode options e) o = never o refl
        by_call (InterestFinal k id) o = never o refl
        by_call (DeclareFinal k id) o = never o refl
        by_call (CloseFace k) o = never o refl
        by_call (Expire now) o = never o refl
        by_call (SetTrees region t) o = never o refl
        by_call (SetEntities k subscribers queryables) o = never o refl

    find_before : (f : Face K) (fs : List (Face K)) → f.number ≡ g.made + 1 → first_where (λ k. p == k.number) (fs ++ f ∷ []) ≡ first_where (λ k. p == k.number) fs
    find_before f [] number_ = let miss : (p == f.number) ≡ false = ne_eqb p f.number (λ is. omega arith) in rw miss refl
    find_before f (k ∷ fs) number_ = by_test (p == k.number) (λ here. rw here refl) (λ here. rw here (find_before f fs number_))

    heard_nothing : (now : ℕ) (f : Face K) → heard_all cmp now [] f ≡ f
    unfolding heard_all
    heard_nothing now f = refl

    altered_found : find_face p (altered cmp matching c g) ≡ find_face p g
    altered_found = ap (first_where (λ k. p == k.number)) made_by.1 ∙ find_before made_by.0 g.faces made_by.2

    -- other faces are as they were
    pub found_stays : (f : Face K) → find_face p g ≡ Some f → find_face p (rows_after_call cmp matching c g) ≡ Some f
    found_stays f found =
        find_heard_at cmp (said cmp matching c g) (altered cmp matching c g) p f (altered_found ∙ found)
        ∙ ap (λ ms. Some (heard_all cmp (altered cmp matching c g).moment ms f)) says_elsewhere ∙ ap Some (heard_nothing (altered cmp matching c g).moment f)

    pub none_stays : find_face p g ≡ None → find_face p (rows_after_call cmp matching c g) ≡ None
    unfolding rows_heard
    none_stays none_ =
        find_map cmp p (λ h. heard_all cmp (altered cmp matching c g).moment (messages_for h.number (said cmp matching c g)) h) (altered cmp matching c g).faces (λ h. heard_all-number cmp (altered cmp matching c g).moment (messages_for h.number (said cmp matching c g)) h)
        ∙ ap (option_map (λ h. heard_all cmp (altered cmp matching c g).moment (messages_for h.number (said cmp matching c g)) h)) (altered_found ∙ none_)

-- what is printed for a face that was made before is nothing
module _ {K : Type 0} (cmp : K → K → Ordering) (matching : K → K → Bool) (X : Fabric K) (fine : FabricIsInOrder cmp matching X) (n : ℕ) (node : Node K) (at_n : nth n X.gateways ≡ Some node) (c : PlainCall K) (opens : opens_face c ≡ true) (new_ : Place) (ms : List (Sent K))
    (prints : PrintsSends (X.faces ++ new_ ∷ []) n (said cmp matching c node.rows) ms) (k : ℕ) (p : Place) (place_is : nth k X.faces ≡ Some p) (node_p : Node K) (node_is : nth p.gateway X.gateways ≡ Some node_p) where
  pub within : p.gateway ≡ n → p.face ≤ node.rows.made
  within here = placed_fact (λ q. q.face ≤ node.rows.made) n k X.faces p place_is here (gateway_in_order cmp matching X n node at_n fine).places_made

  pub opened_prints_none : printed_for k ms ≡ []
  opened_prints_none =
      let order = gateway_in_order cmp matching X p.gateway node_p node_is fine in
      let placed = nth_placed k X.faces p place_is in
      let placed_now = placed_still p.gateway p.face X.faces new_ placed in
      let number_ : number_from 1 p.gateway p.face (X.faces ++ new_ ∷ []) ≡ k = number_still 1 p.gateway p.face X.faces new_ placed ∙ number_of_nth k X.faces p order.places_rise place_is in
      by_test (p.gateway == n)
      (λ same_.
      let here : p.gateway ≡ n = eqb-true p.gateway n same_ in
      ap (λ m. printed_for m ms) (sym number_) ∙ ap (λ g. printed_for (number_from 1 g p.face (X.faces ++ new_ ∷ [])) ms) here ∙ prints.own p.face (ap (λ g. is_placed g p.face (X.faces ++ new_ ∷ [])) (sym here) ∙ placed_now)
      ∙ says_elsewhere cmp matching c node.rows opens p.face (within here))
      (λ apart. ap (λ m. printed_for m ms) (sym number_) ∙ prints.other p.gateway p.face (λ is. never (eq-eqb p.gateway n is) apart) placed_now)
