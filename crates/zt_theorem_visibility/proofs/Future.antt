-- Each turn of a transcript tells the future: who wants a token keeps it after its declaration.
use Rattle.std.proofs.Common.{◌≡◌, ℕ, ◌-◌, Bool, true, false, not, ◌&&◌, ◌==◌, List, [], ◌∷◌, map, Option, Some, None, Ok, refl, sym, ap, ◌∙◌, subst}
use Rattle.std.proofs.lemmas.Bool.{and_parts, not-true}
use Rattle.std.specs.Cmp.{IsTotalOrder}
use Rattle.std.specs.Option.{option_to_list}
use Rattle.std.specs.declared.cmp.Ordering.{Ordering}
use Rattle.zt_region.specs.declared.region.Region.{Region}
use Rattle.zt_protocol.specs.Plain.{PlainCall, NewSession, NewTransport, DeclareToken, UndeclareToken, Interest, InterestFinal, DeclareFinal, CloseFace, Expire, SetTrees, SetEntities, PlainLine, Gateway, Session, Face as FaceLine, Link as LinkLine, Unlink, Step, Speak, Moment, SetTreesAt}
use Rattle.zt_protocol.specs.declared.entries.Sent.{Sent}
use Rattle.zt_protocol.specs.declared.errors.Refusal.{Refusal}
use Rattle.zt_protocol.specs.declared.messages.Message.{Message}
use Rattle.zt_model.specs.Fabric.{CallAt, Fabric, Node, Place, after_hearing, altered_at, altered_by_line, at_nth, both_ends, line_causes, call_at, call_at_place, call_face, call_of, call_of_face, call_of_step, causes_of_call, closing_call, entries_from, entry_by, entry_of, fabric_after, gateways_after_hearing, line_causes, line_spends_ids, opening_at, said_at, said_by_line, sorted_by_face, table_at, with_call_face, with_rows, with_waiting, without_message}
use Rattle.zt_model.specs.Linking.{LinkEnd, call_of_message, link_ends, oldest, speaking_end}
use Rattle.zt_model.specs.Lists.{nth}
use Rattle.zt_model.specs.Places.{Link}
use Rattle.zt_model.specs.Promises.{TellsAfter, TellsOfRouters, TellsTheFuture, TellsWhoWants, calls_in, turns_from}
use Rattle.zt_model.specs.Refusals.{call_causes, first_cause}
use Rattle.zt_model.specs.Rows.{ById, Face, Rows}
use Rattle.zt_model.specs.Says.{altered, find_face, is_routed, registers, said}
use Rattle.zt_model.specs.Transcript.{Each, openings, with_opening}
use Rattle.zt_laws.specs.Order.{FabricIsInOrder, RowsAreInOrder}
use Rattle.zt_laws.specs.Shown.{as_shown, call_shown, node_shown, without_own}
use Rattle.zt_laws.specs.Sound.{HasFirstIds, is_placed, opens_face, rows_after_call}
use Rattle.zt_laws.proofs.AllLines.{without_message_is}
use Rattle.zt_laws.proofs.Calls.{no_cause}
use Rattle.zt_laws.proofs.CallsOrder.{altered_faces}
use Rattle.zt_laws.proofs.Ends.{by_end}
use Rattle.zt_laws.proofs.Gateways.{prints_sorted}
use Rattle.zt_laws.proofs.LinesOrder.{after_prints, called_at, called_by_speaker, called_by_step, faces_placed, gateway_in_order}
use Rattle.zt_laws.proofs.Lists.{by_test, each_append}
use Rattle.zt_laws.proofs.PartsOrder.{each_flat_map}
use Rattle.zt_laws.proofs.ShownLines.{turns_have}
use Rattle.zt_laws.proofs.Unlinking.{closing_case}
use Rattle.zt_theorem_visibility.proofs.Reaching.{plain_reach, routed_reach}

-- the member at a position, where that is changed
pub nth_at : {A : Type 0} (n : ℕ) (change : A → A) (xs : List A) (x : A) → nth n xs ≡ Some x → nth n (at_nth n change xs) ≡ Some (change x)
nth_at n change [] x at_ = cc
nth_at n change (y ∷ ys) x at_ =
    by_test (n == 1)
    (λ here. let e : Some y ≡ Some x = rw here at at_ in let is : y ≡ x = cc in rw here (rw here (ap (λ z. Some (change z)) is)))
    (λ here. rw here (rw here (nth_at (n - 1) change ys x (rw here at at_))))

pub nth_map : {A B : Type 0} (f : A → B) (n : ℕ) (xs : List A) → nth n (map f xs) ≡ (let y : Option B = elim (nth n xs) [ None ↦ None | Some x ↦ Some (f x) ] in y)
nth_map f n [] = refl
nth_map f n (x ∷ xs) = by_test (n == 1) (λ here. rw here refl) (λ here. rw here (nth_map f (n - 1) xs))

module _ {K : Type 0} where
  -- ---- the calls of lines, as a transcript shows them

  pub call_at_shown : (s : Fabric K) (n : ℕ) (c : PlainCall K) → call_at (as_shown s) n c ≡ call_shown (call_at s n c)
  call_at_shown s n c = ap found (nth_map node_shown n s.gateways) ∙ by_node (nth n s.gateways)
    where
      found : Option (Node K) → Option (CallAt K)
      found o = elim o [ None ↦ None | Some node ↦ Some (record { gateway = n; rows = node.rows; call = c }) ]

      by_node : (o : Option (Node K)) → found (elim o [ None ↦ None | Some node ↦ Some (node_shown node) ]) ≡ call_shown (found o)
      by_node None = refl
      by_node (Some node) = refl

  pub call_at_place_shown : (s : Fabric K) (c : PlainCall K) (o : Option Place) → call_at_place (as_shown s) c o ≡ call_shown (call_at_place s c o)
  call_at_place_shown s c None = refl
  call_at_place_shown s c (Some p) = call_at_shown s p.gateway (with_call_face p.face c)

  pub call_of_face_shown : (s : Fabric K) (c : PlainCall K) (o : Option ℕ) → call_of_face (as_shown s) c o ≡ call_shown (call_of_face s c o)
  call_of_face_shown s c None = refl
  call_of_face_shown s c (Some face) = call_at_place_shown s c (nth face s.faces)

  pub call_of_step_shown : (s : Fabric K) (back : Bool) (o : Option Link) → call_of_step (as_shown s) back o ≡ call_shown (call_of_step s back o)
  call_of_step_shown s back None = refl
  call_of_step_shown s back (Some link) = by_oldest (oldest s link back)
    where
      by_call : (o : Option (PlainCall K)) (p : Option Place)
          → (let at : Option (CallAt K) = elim o [ None ↦ None | Some call ↦ call_at_place (as_shown s) call p ] in at) ≡ call_shown (elim o [ None ↦ None | Some call ↦ call_at_place s call p ])
      by_call None p = refl
      by_call (Some call) p = call_at_place_shown s call p

      by_oldest : (o : Option (Message K))
          → (let at : Option (CallAt K) = elim o [ None ↦ None | Some m ↦ elim (call_of_message 0 m) [ None ↦ None | Some call ↦ call_at_place (as_shown s) call (nth (speaking_end link back) s.faces) ] ] in at)
          ≡ call_shown (elim o [ None ↦ None | Some m ↦ elim (call_of_message 0 m) [ None ↦ None | Some call ↦ call_at_place s call (nth (speaking_end link back) s.faces) ] ])
      by_oldest None = refl
      by_oldest (Some m) = by_call (call_of_message 0 m) (nth (speaking_end link back) s.faces)

module _ {K : Type 0} (cmp : K → K → Ordering) (matching : K → K → Bool) (total : IsTotalOrder cmp) where
  -- what a test of declarations has to do with the machine's rows
  pub record IsReached (test : Rows K → Face K → Option ℕ → Bool) : Type 0 where
    pub aside : (g : Rows K) (f : Face K) (interest : Option ℕ) → test (without_own g) f interest ≡ test g f interest
    pub reaches : (spent : Bool) (n id node : ℕ) (e : K) (interest : Option ℕ) (f : Face K) (g : Rows K) → RowsAreInOrder cmp matching g
        → first_cause (call_causes cmp matching spent (DeclareToken n id e node interest) g) ≡ None → find_face n g ≡ Some f → test g f interest ≡ true
        → TellsWhoWants cmp matching f.region e (rows_after_call cmp matching (DeclareToken n id e node interest) g)

  -- a gateway's rows, where it is there
  abbrev Reach : Region → K → Option (Node K) → Type 0
  Reach source e o = elim o [ None ↦ Unit {0} | Some node ↦ TellsWhoWants cmp matching source e node.rows ]

  reach_shown : (source : Region) (e : K) (o : Option (Node K)) → Reach source e o → Reach source e (elim o [ None ↦ None | Some node ↦ Some (node_shown node) ])
  reach_shown source e None is = tt
  reach_shown source e (Some node) is = is

  module _ (test : Rows K → Face K → Option ℕ → Bool) (reached : IsReached test) where
    -- the gateway's rows after a declaration of a face, where that is open and passes the test
    abbrev ReachFrom : Rows K → Option ℕ → ℕ → K → List (Node K) → Option (Face K) → Type 0
    ReachFrom g interest n e gs o = elim o [ None ↦ Unit {0} | Some from ↦ test g from interest ≡ true → Reach from.region e (nth n gs) ]

    -- a call that is made where no cause holds
    call_tells : (spent : Bool) (n : ℕ) (node : Node K) (c : PlainCall K) (s : Fabric K) (waiting : ById (List (Message K))) → nth n s.gateways ≡ Some node → opens_face c ≡ false → FabricIsInOrder cmp matching s
        → first_cause (call_causes cmp matching spent c node.rows) ≡ None
        → (let at : Option (CallAt K) = Some (record { gateway = n; rows = node.rows; call = c }) in
        let ms = sorted_by_face (said_at cmp matching s at) in
        TellsAfter cmp matching test (as_shown (with_waiting ms (after_hearing cmp ms (altered_at cmp matching (record s { waiting = waiting }) at)))) (record { gateway = n; rows = without_own node.rows; call = c }))
    unfolding gateways_after_hearing
    call_tells spent n node (DeclareToken k id e nd interest) s waiting at_ still fine accepted =
        let c : PlainCall K = DeclareToken k id e nd interest in
        let ms = sorted_by_face (said_at cmp matching s (Some (record { gateway = n; rows = node.rows; call = c }))) in
        let gateway = gateway_in_order cmp matching s n node at_ fine in
        let placed = altered_faces cmp matching total (λ j. is_placed n j s.faces ≡ true) c node.rows still gateway.rows.lists gateway.placed in
        let is : after_hearing cmp ms (with_rows n (altered cmp matching c) s) ≡ with_rows n (rows_after_call cmp matching c) s =
        after_prints cmp matching n node c s ms (prints_sorted s.faces n (said cmp matching c node.rows)) at_ placed.0 (faces_placed cmp matching s fine) in
        let there : nth n (with_rows n (rows_after_call cmp matching c) s).gateways ≡ Some (record node { rows = rows_after_call cmp matching c node.rows }) =
        nth_at n (λ (x : Node K). record x { rows = rows_after_call cmp matching c x.rows }) s.gateways node at_ in
        elim (find_face k node.rows) as (λ o. find_face k node.rows ≡ o
        → ReachFrom (without_own node.rows) interest n e (map node_shown (after_hearing cmp ms (with_rows n (altered cmp matching c) s)).gateways) o) [
          | None ↦ λ _. tt
          | Some from ↦ λ found passes.
              let own : TellsWhoWants cmp matching from.region e (rows_after_call cmp matching c node.rows) =
              reached.reaches spent k id nd e interest from node.rows gateway.rows accepted found (sym (reached.aside node.rows from interest) ∙ passes) in
              let here : Reach from.region e (nth n (with_rows n (rows_after_call cmp matching c) s).gateways) = subst (Reach from.region e) (sym there) own in
              let heard_ : Reach from.region e (nth n (after_hearing cmp ms (with_rows n (altered cmp matching c) s)).gateways) = subst (λ (t : Fabric K). Reach from.region e (nth n t.gateways)) (sym is) here in
              let gs = (after_hearing cmp ms (with_rows n (altered cmp matching c) s)).gateways in
              subst (Reach from.region e) (sym (nth_map node_shown n gs)) (reach_shown from.region e (nth n gs) heard_)
        ] refl
    call_tells spent n node (NewSession first) s waiting at_ still fine accepted = tt
    call_tells spent n node (NewTransport zid whatami region bound first) s waiting at_ still fine accepted = tt
    call_tells spent n node (UndeclareToken k id e nd) s waiting at_ still fine accepted = tt
    call_tells spent n node (Interest k id mode options e) s waiting at_ still fine accepted = tt
    call_tells spent n node (InterestFinal k id) s waiting at_ still fine accepted = tt
    call_tells spent n node (DeclareFinal k id) s waiting at_ still fine accepted = tt
    call_tells spent n node (CloseFace k) s waiting at_ still fine accepted = tt
    call_tells spent n node (Expire now) s waiting at_ still fine accepted = tt
    call_tells spent n node (SetTrees region t) s waiting at_ still fine accepted = tt
    call_tells spent n node (SetEntities k subscribers queryables) s waiting at_ still fine accepted = tt

    abbrev Tells : Fabric K → Option (CallAt K) → Type 0
    Tells after o = Each (TellsAfter cmp matching test (as_shown after)) (option_to_list o)

    -- the call of a line, with a fabric of other waiting messages
    abbrev Called : Bool → ById (List (Message K)) → Fabric K → Option (CallAt K) → Type 0
    Called spent waiting s at =
        first_cause (causes_of_call cmp matching spent at) ≡ None
        → (let ms = sorted_by_face (said_at cmp matching s at) in Tells (with_waiting ms (after_hearing cmp ms (altered_at cmp matching (record s { waiting = waiting }) at))) (call_shown at))

    -- calls that open or close a face declare nothing
    openings_tell : (after : Fabric K) (ends : List (LinkEnd K)) (X : Fabric K) → Each (TellsAfter cmp matching test after) (openings cmp matching ends X)
    unfolding openings
    openings_tell after [] X = tt
    openings_tell after (end ∷ ends) X =
        let at = opening_at cmp matching X end in
        each_append (TellsAfter cmp matching test after) (option_to_list at) (openings cmp matching ends (with_opening cmp matching at X))
        (by_end cmp matching (λ c. Each (TellsAfter cmp matching test after) (option_to_list (elim c [ None ↦ None | Some call ↦ call_at X end.gateway call ]))) end tt
        (λ zid whatami region bound. called_at (λ o. Each (TellsAfter cmp matching test after) (option_to_list o)) X end.gateway (NewTransport zid whatami region bound end.first) tt (λ node at_. (tt, tt))))
        (openings_tell after ends (with_opening cmp matching at X))

    line_tells : (spent : Bool) (line : PlainLine K) (s : Fabric K) → first_cause (line_causes cmp matching spent line s) ≡ None → FabricIsInOrder cmp matching s
        → (let ms = sorted_by_face (said_by_line cmp matching line s) in
        let after = as_shown (with_waiting ms (after_hearing cmp ms (altered_by_line cmp matching line s))) in
        Each (TellsAfter cmp matching test after) (calls_in cmp matching (record { line = line; entry = Ok ms; before = as_shown s; after = after })))
    unfolding calls_in call_of altered_by_line said_by_line line_causes
    line_tells spent (Gateway mode zid regions south name timeout refused) s accepted fine = tt
    line_tells spent (Session n first) s accepted fine =
        let ms = sorted_by_face (said_by_line cmp matching (Session n first) s) in
        let after = as_shown (with_waiting ms (after_hearing cmp ms (altered_by_line cmp matching (Session n first) s))) in
        called_at (λ o. Each (TellsAfter cmp matching test after) (option_to_list o)) (as_shown s) n (NewSession first) tt (λ node at_. (tt, tt))
    line_tells spent (FaceLine n mode zid region bound first) s accepted fine =
        let line : PlainLine K = FaceLine n mode zid region bound first in
        let ms = sorted_by_face (said_by_line cmp matching line s) in
        let after = as_shown (with_waiting ms (after_hearing cmp ms (altered_by_line cmp matching line s))) in
        called_at (λ o. Each (TellsAfter cmp matching test after) (option_to_list o)) (as_shown s) n (NewTransport zid mode region bound first) tt (λ node at_. (tt, tt))
    line_tells spent (LinkLine one two first back) s accepted fine =
        let line : PlainLine K = LinkLine one two first back in
        let ms = sorted_by_face (said_by_line cmp matching line s) in
        openings_tell (as_shown (with_waiting ms (after_hearing cmp ms (altered_by_line cmp matching line s)))) (link_ends (as_shown s) one two first back) (as_shown s)
    line_tells spent (Unlink link) s accepted fine =
        let line : PlainLine K = Unlink link in
        let ms = sorted_by_face (said_by_line cmp matching line s) in
        let after = as_shown (with_waiting ms (after_hearing cmp ms (altered_by_line cmp matching line s))) in
        each_flat_map (TellsAfter cmp matching test after) (λ face. option_to_list (closing_call (as_shown s) face)) (both_ends cmp matching (as_shown s) link)
        (λ face. closing_case cmp matching (λ o. Each (TellsAfter cmp matching test after) (option_to_list o)) (as_shown s) face tt (λ n k node at_. (tt, tt)))
    line_tells spent (Step link back) s accepted fine =
        let one = no_cause _ _ _ accepted in
        let two = no_cause _ _ _ one.1 in
        let taken = without_message_is cmp matching link back s in
        let at = call_of_step s back (nth link s.links) in
        let ms = sorted_by_face (said_at cmp matching s at) in
        subst (λ o. Tells (with_waiting ms (after_hearing cmp ms (altered_at cmp matching (without_message link back s) at))) o) (sym (call_of_step_shown s back (nth link s.links)))
        (subst (λ (t : Fabric K). Tells (with_waiting ms (after_hearing cmp ms (altered_at cmp matching t at))) (call_shown at)) (sym taken.1)
        (called_by_step (Called spent taken.0 s) s back (nth link s.links) (λ _. tt) (λ n node c at_ still none_. (call_tells spent n node c s taken.0 at_ still fine none_, tt)) two.1))
    line_tells spent (Speak c) s accepted fine =
        let one = no_cause _ _ _ accepted in
        let two = no_cause _ _ _ one.1 in
        let at = call_of_face s c (call_face c) in
        let ms = sorted_by_face (said_at cmp matching s at) in
        subst (λ o. Tells (with_waiting ms (after_hearing cmp ms (altered_at cmp matching s at))) o) (sym (call_of_face_shown s c (call_face c)))
        (called_by_speaker (Called spent s.waiting s) s c (λ _. tt) (λ n node d at_ still none_. (call_tells spent n node d s s.waiting at_ still fine none_, tt)) two.1)
    line_tells spent (Moment n now) s accepted fine =
        let line : PlainLine K = Moment n now in
        let ms = sorted_by_face (said_by_line cmp matching line s) in
        let after = as_shown (with_waiting ms (after_hearing cmp ms (altered_by_line cmp matching line s))) in
        called_at (λ o. Each (TellsAfter cmp matching test after) (option_to_list o)) (as_shown s) n (Expire now) tt (λ node at_. (tt, tt))
    line_tells spent (SetTreesAt n region t) s accepted fine =
        let line : PlainLine K = SetTreesAt n region t in
        let ms = sorted_by_face (said_by_line cmp matching line s) in
        let after = as_shown (with_waiting ms (after_hearing cmp ms (altered_by_line cmp matching line s))) in
        called_at (λ o. Each (TellsAfter cmp matching test after) (option_to_list o)) (as_shown s) n (SetTrees region (table_at (as_shown s) n t)) tt (λ node at_. (tt, tt))

    turn_tells : (line : PlainLine K) (s : Fabric K) → FabricIsInOrder cmp matching s
        → (let entry = entry_of cmp matching line s in
        let after = as_shown (fabric_after cmp matching line entry s) in
        Each (TellsAfter cmp matching test after) (calls_in cmp matching (record { line = line; entry = entry; before = as_shown s; after = after })))
    unfolding entry_of fabric_after calls_in
    turn_tells line s fine = cases (first_cause (line_causes cmp matching spent line s)) refl
      where
        spent : Bool
        spent = line_spends_ids cmp matching line s

        ms : List (Sent K)
        ms = sorted_by_face (said_by_line cmp matching line s)

        cases : (o : Option Refusal) → first_cause (line_causes cmp matching spent line s) ≡ o
            → (let entry = entry_by cmp matching o ms in
            let after = as_shown (fabric_after cmp matching line entry s) in
            Each (TellsAfter cmp matching test after) (calls_in cmp matching (record { line = line; entry = entry; before = as_shown s; after = after })))
        cases None accepted = line_tells spent line s accepted fine
        cases (Some r) refused = tt

    turns_tell : (lines : List (PlainLine K)) (s : Fabric K) → Each HasFirstIds lines → FabricIsInOrder cmp matching s
        → Each (λ t. Each (TellsAfter cmp matching test t.after) (calls_in cmp matching t)) (turns_from cmp matching lines (entries_from cmp matching lines s) (as_shown s))
    turns_tell lines s real fine =
        turns_have cmp matching total (λ t. Each (TellsAfter cmp matching test t.after) (calls_in cmp matching t)) (λ x. Unit {0})
        (λ line x first ordered _. (turn_tells line x ordered, tt)) lines s real fine tt

  pub future_told : (lines : List (PlainLine K)) (s : Fabric K) → Each HasFirstIds lines → FabricIsInOrder cmp matching s
      → Each (TellsTheFuture cmp matching) (turns_from cmp matching lines (entries_from cmp matching lines s) (as_shown s))
  future_told lines s real fine =
      turns_tell (λ g f interest. not (is_routed g f) && registers f interest)
      (record {
        aside = λ g f interest. refl;
        reaches = λ spent n id node e interest f g ordered accepted found passes.
            let parts = and_parts (not (is_routed g f)) (registers f interest) passes in
            plain_reach cmp matching total n id node e interest f g ordered found (not-true (is_routed g f) parts.0) parts.1;
      })
      lines s real fine

  pub routers_told : (lines : List (PlainLine K)) (s : Fabric K) → Each HasFirstIds lines → FabricIsInOrder cmp matching s
      → Each (TellsOfRouters cmp matching) (turns_from cmp matching lines (entries_from cmp matching lines s) (as_shown s))
  routers_told lines s real fine =
      turns_tell (λ g f interest. is_routed g f)
      (record {
        aside = λ g f interest. refl;
        reaches = λ spent n id node e interest f g ordered accepted found passes. routed_reach cmp matching total spent n id node e interest f g ordered accepted found passes;
      })
      lines s real fine
