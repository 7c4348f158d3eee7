-- Calls and steps, in a fabric of trees in which all tokens are of a kind: what they print in answer is of that kind, and all
-- tokens are then, or are live at a plain face.
use Rattle.std.proofs.Common.{◌≡◌, ◌⊎◌, inl, inr, ℕ, Bool, true, false, if◌then◌else◌, ◌&&◌, ◌||◌, ◌==◌, not, List, [], ◌∷◌, ◌++◌, map, Option, Some, None, is_none, is_some, refl, sym, ap, ◌∙◌, subst, arith, eqb-true, ⊎_elim}
use Rattle.std.proofs.lemmas.Bool.{and_from}
use Rattle.std.specs.Cmp.{IsTotalOrder}
use Rattle.std.specs.List.{list_any}
use Rattle.std.specs.declared.cmp.Ordering.{Ordering}
use Rattle.std.specs.declared.cmp.Ordering.TheVariants.{Equal}
use Rattle.zt_region.specs.declared.region.Bound.{Bound}
use Rattle.zt_region.specs.declared.region.Region.{Region}
use Rattle.zt_region.specs.declared.region.WhatAmI.{WhatAmI}
use Rattle.zt_region.specs.declared.region.Zid.{Zid}
use Rattle.zt_region.specs.Region.{is_north, region_eq, region_eq-same}
use Rattle.zt_region.specs.South.{PlainSouth}
use Rattle.zt_protocol.specs.Plain.{PlainCall, NewSession, NewTransport, DeclareToken, UndeclareToken, Interest, InterestFinal, DeclareFinal, CloseFace, Expire, SetTrees, SetEntities, Trees, PlainEntry, PlainLine, Gateway, Session, Face as FaceLine, Link as LinkLine, Unlink, Step, Speak, Moment, SetTreesAt}
use Rattle.zt_protocol.specs.declared.entries.Sent.{Sent}
use Rattle.zt_protocol.specs.declared.errors.Refusal.{Refusal}
use Rattle.zt_protocol.specs.declared.messages.Message.{Message}
use Rattle.zt_protocol.specs.declared.messages.Message.TheVariants as message
use Rattle.zt_model.specs.Fabric.{CallAt, Fabric, Node, Place, after_hearing, after_refusal, altered_by_line, at_nth, line_causes, call_of, entry_by, entry_of, fabric_after, is_linked_face, line_causes, line_spends_ids, new_rows, number_of_place, opened_at, printed_message, said_at, said_by_line, sorted_by_face, with_gateway, with_place, with_rows, with_session, with_waiting}
use Rattle.zt_model.specs.Hat.{hat_of}
use Rattle.zt_model.specs.Hearing.{heard_all, messages_for}
use Rattle.zt_model.specs.Linking.{is_end_of}
use Rattle.zt_model.specs.Lists.{is_some_and, nth, same}
use Rattle.zt_model.specs.Parts.{find_face}
use Rattle.zt_model.specs.Refusals.{call_causes, first_cause}
use Rattle.zt_model.specs.Rows.{ById, Face, Rows}
use Rattle.zt_model.specs.Strategy.{is_region_of}
use Rattle.zt_theorem_tree_invariant.proofs.Knowledge.{is_no_router}
use Rattle.zt_model.specs.Says.{altered, altered_by, parts_of, registered, registers, said, said_by}
use Rattle.zt_model.specs.Transcript.{Each, face_numbered, messages_of}
use Rattle.zt_model.specs.TreePromises.{LeadsUpByLink, is_live_at, is_plain_number, is_plainly_live_at}
use Rattle.zt_laws.specs.Order.{FabricIsInOrder}
use Rattle.zt_laws.specs.Sound.{HasFirstIds, opens_face, rows_after_call}
use Rattle.zt_laws.proofs.Calls.{no_cause, not_on_face}
use Rattle.zt_laws.proofs.Entries.{nth-at_nth}
use Rattle.zt_laws.proofs.Gateways.{PrintsSends, prints_map, prints_sorted}
use Rattle.zt_laws.proofs.Hearing.{find_each, find_passes, heard_all-live}
use Rattle.zt_laws.proofs.Keys.{same_itself}
use Rattle.zt_laws.proofs.Lists.{by_test, each_append, each_map, each_weaker, never}
use Rattle.zt_laws.proofs.LinesOrder.{called_at, gateway_in_order}
use Rattle.zt_laws.proofs.Places.{number_of_nth}
use Rattle.zt_laws.proofs.Sorting.{printed, sorted_each}
use Rattle.zt_theorem_tree_invariant.specs.Facts.{IsTreeFace, TreesAgree}
use Rattle.zt_theorem_tree_invariant.specs.Joints.{is_call_or_step}
use Rattle.zt_theorem_tree_invariant.specs.Trees.{FacesFormTrees}
use Rattle.zt_theorem_tree_invariant.proofs.Effects.{own_declare}
use Rattle.zt_theorem_tree_invariant.proofs.Lasting.{IsLess, LeftByCalls, LineSaid, MessageSaid, printed_by, stand_after, turned_by}
use Rattle.zt_theorem_tree_invariant.proofs.Lines.{is_linked, tree_rows}
use Rattle.zt_theorem_tree_invariant.proofs.Making.{opened_is}
use Rattle.zt_theorem_tree_invariant.proofs.Members.{each_gateway_nth, numbered}
use Rattle.zt_theorem_tree_invariant.proofs.Saying.{find_heard_at}
use Rattle.zt_theorem_tree_knowledge.proofs.Asking.{any_put_own}
use Rattle.zt_theorem_tree_knowledge.proofs.Linked.{LinkIs}
use Rattle.zt_theorem_tree_knowledge.proofs.Linking.{link_comes_to}
use Rattle.zt_theorem_tree_knowledge.proofs.Opened.{after_opened}
use Rattle.zt_theorem_tree_knowledge.proofs.Plain.{nothing_said}
use Rattle.zt_theorem_tree_knowledge.proofs.Queues.{added}
use Rattle.zt_theorem_tree_only_what_lived.specs.Tokens.{CallIn, IsIn, TokenIn}
use Rattle.zt_theorem_tree_only_what_lived.proofs.Answers.{AnswerIn, plain_answers_none}
use Rattle.zt_theorem_tree_only_what_lived.proofs.Everywhere.{Everywhere, PrintsIn, Queues, added_in, everywhere_weaker, oldest_in, printed_in, says_in, sends_in, sorted_in, taken_in, turned_in}

module _ {K : Type 0} (cmp : K → K → Ordering) (matching : K → K → Bool) where
  -- live at some plain face
  abbrev pub LiveAt : Fabric K → K → Type 0
  LiveAt s e = (k : ℕ) × (is_plainly_live_at cmp matching s k e ≡ true)

  -- of the kind, or live at some plain face
  abbrev pub OrLive : (K → Type 0) → Fabric K → K → Type 0
  OrLive Q s e = Q e ⊎ LiveAt s e

  abbrev pub AnswersIn : (K → Type 0) → List (Sent K) → Type 0
  AnswersIn Q ms = Each (λ m. AnswerIn Q m.message) ms

  answer_of_token : (Q : K → Type 0) (m : Message K) → TokenIn Q m → AnswerIn Q m
  answer_of_token Q (message.DeclareToken id e None node) own = tt
  answer_of_token Q (message.DeclareToken id e (Some i) node) own = own
  answer_of_token Q (message.UndeclareToken id e node) own = tt
  answer_of_token Q (message.DeclareFinal id) own = tt
  answer_of_token Q (message.Interest id mode options e) own = tt
  answer_of_token Q (message.InterestFinal id) own = tt
  answer_of_token Q (message.DeclareSubscriber id e i) own = tt
  answer_of_token Q (message.DeclareQueryable id e info i) own = tt

  pub answers_of_prints : (Q : K → Type 0) (ms : List (Sent K)) → PrintsIn Q ms → AnswersIn Q ms
  answers_of_prints Q ms all = each_weaker (λ m. TokenIn Q m.message) (λ m. AnswerIn Q m.message) (λ m own. answer_of_token Q m.message own) ms all

  module _ (total : IsTotalOrder cmp) (equal_is_same : (a b : K) → cmp a b ≡ Equal → a ≡ b) (s : Fabric K) (fine : FabricIsInOrder cmp matching s) (agree : TreesAgree cmp matching s) (trees : FacesFormTrees s) (Q : K → Type 0) (all : Everywhere Q s) where
    -- a face of the place that ends no open link
    abbrev pub IsPlainPlace : ℕ → ℕ → Type 0
    IsPlainPlace j n = (k : ℕ) × (nth k s.faces ≡ Some (record { gateway = j; face = n })) × (is_linked_face s (Some k) ≡ false)

    -- a token is of the kind, or a plain face declares it
    abbrev pub Comes : ℕ → PlainCall K → Type 0
    Comes j (DeclareToken n id e node interest) = Q e ⊎ IsPlainPlace j n
    Comes j _ = Unit {0}

    module _ (spent : Bool) (j : ℕ) (node : Node K) (at_j : nth j s.gateways ≡ Some node) (n id tree_node : ℕ) (e : K) (interest : Option ℕ) (plain : IsPlainPlace j n) (accepted : first_cause (call_causes cmp matching spent (DeclareToken n id e tree_node interest) node.rows) ≡ None) where
      there : (f : Face K) × (find_face n node.rows ≡ Some f)
      unfolding call_causes
      there = cases (find_face n node.rows) refl (no_cause _ _ _ accepted).0
        where
          cases : (o : Option (Face K)) → find_face n node.rows ≡ o → is_none o ≡ false → (f : Face K) × (find_face n node.rows ≡ Some f)
          cases None is known = never refl known
          cases (Some f) is known = (f, is)

      -- it ends no link at all
      is_plain_face : is_plain_number s plain.0 ≡ true
      is_plain_face =
          let place : Place = record { gateway = j; face = n } in
          let is : face_numbered s plain.0 ≡ Some (record { gateway = j; rows = node.rows; face = there.0 }) = numbered s plain.0 place node there.0 plain.1 at_j there.1 in
          by_test (list_any (is_end_of plain.0) s.links)
          (λ ends. let joint = agree.links.stay plain.0 _ is ends in never (is_linked cmp matching total s fine agree plain.0 joint.other joint.joined) plain.2)
          (λ none_. ap not none_)

      -- it leads down
      south : (f : Face K) → find_face n node.rows ≡ Some f → is_north f.region ≡ false
      south f found =
          let number_ : n ≡ f.number = eqb-true n f.number (find_passes (λ (h : Face K). n == h.number) node.rows.faces f found) in
          let own : LeadsUpByLink s j node.rows f = find_each (LeadsUpByLink s j node.rows) (λ (h : Face K). n == h.number) node.rows.faces f (each_gateway_nth (λ i (x : Node K). Each (LeadsUpByLink s i x.rows) x.rows.faces) 1 j j s.gateways node (omega arith) trees.north at_j) found in
          let k_is : number_of_place s j n ≡ plain.0 = number_of_nth plain.0 s.faces (record { gateway = j; face = n }) (gateway_in_order cmp matching s j node at_j fine).places_rise plain.1 in
          by_test (is_north f.region)
          (λ up. never (ap (is_plain_number s) (ap (number_of_place s j) (sym number_) ∙ k_is) ∙ is_plain_face) (own up).1)
          (λ down. down)

      pub answers_nobody : interest ≡ None
      unfolding call_causes
      answers_nobody =
          let two = no_cause _ _ _ (no_cause _ _ _ accepted).1 in
          let test : (is_some interest && not (is_north there.0.region)) ≡ false = not_on_face n node.rows (λ f. is_some interest && not (is_north f.region)) there.0 there.1 two.0 in
          cases interest (ap (λ b. is_some interest && not b) (sym (south there.0 there.1)) ∙ test)
        where
          cases : (i : Option ℕ) → (is_some i && true) ≡ false → i ≡ None
          cases None h = refl
          cases (Some x) h = never refl h

      -- after the call its token is live at the plain face
      pub live_then : (ms : List (Sent K)) (w : ById (List (Message K))) → LiveAt (record s { gateways = at_nth j (λ (x : Node K). record x { rows = rows_after_call cmp matching (DeclareToken n id e tree_node interest) x.rows }) s.gateways; waiting = w }) e
      live_then ms w =
          let c : PlainCall K = DeclareToken n id e tree_node interest in
          let t = record s { gateways = at_nth j (λ (x : Node K). record x { rows = rows_after_call cmp matching c x.rows }) s.gateways; waiting = w } in
          let change = λ (x : Node K). record x { rows = rows_after_call cmp matching c x.rows } in
          let f = there.0 in
          let acts = own_declare cmp matching n id tree_node e interest node.rows f (tree_rows cmp matching s j node fine agree at_j) there.1 in
          let registers_ : (if registers f interest then registered id e f else f) ≡ registered id e f = ap (λ i. (if registers f i then registered id e f else f)) answers_nobody in
          let g = altered cmp matching c node.rows in
          let ss = said cmp matching c node.rows in
          let h = heard_all cmp g.moment (messages_for n ss) (registered id e f) in
          let now_ : find_face n (change node).rows ≡ Some h = find_heard_at cmp ss g n (registered id e f) (acts.altered_is ∙ ap Some registers_) in
          let place : Place = record { gateway = j; face = n } in
          let is : face_numbered t plain.0 ≡ Some (record { gateway = j; rows = (change node).rows; face = h }) = numbered t plain.0 place (change node) h plain.1 (nth-at_nth j change s.gateways node at_j) now_ in
          let live : list_any (λ row. same cmp e row.1) h.live ≡ true = ap (list_any (λ row. same cmp e row.1)) (heard_all-live cmp g.moment (messages_for n ss) (registered id e f)) ∙ any_put_own (λ row. same cmp e row.1) id e f.live (same_itself cmp total e) in
          (plain.0, and_from (is_plain_number s plain.0) (is_some_and (face_numbered t plain.0) (λ x. is_live_at cmp matching x.face e)) is_plain_face (ap (λ o. is_some_and o (λ x. is_live_at cmp matching x.face e)) is ∙ live))

    -- what is printed, and what is left
    abbrev pub Leaves : List (Sent K) → Fabric K → Type 0
    Leaves ms t = Everywhere (OrLive Q t) t × AnswersIn Q ms

    less_in : (R : K → Type 0) → ((e : K) → Q e → R e) → (w : ById (List (Message K))) → IsLess cmp matching total equal_is_same s fine agree w → Queues R w
    less_in R h w less =
        let own = (everywhere_weaker Q R h s all).waiting in
        ⊎_elim (λ is. subst (Queues R) (sym is) own) (λ some. subst (Queues R) (sym some.1) (taken_in R some.0 s.waiting own)) less

    waiting_less : (w : ById (List (Message K))) → IsLess cmp matching total equal_is_same s fine agree w → Leaves [] (record s { waiting = w })
    waiting_less w less =
        let t = record s { waiting = w } in
        (record { gateways = (everywhere_weaker Q (OrLive Q t) (λ e own. inl own) s all).gateways; waiting = less_in (OrLive Q t) (λ e own. inl own) w less }, tt)

    -- a table is of a region that goes by trees, and no face of a tree is of one
    apart_tree : (spent : Bool) (j : ℕ) (node : Node K) (at_j : nth j s.gateways ≡ Some node) (region : Region) (t : Trees) → first_cause (call_causes cmp matching spent (SetTrees region t) node.rows) ≡ None → Each (λ f. region_eq f.region region ≡ false) node.rows.faces
    unfolding call_causes
    apart_tree spent j node at_j region t accepted =
        let two = (no_cause _ _ _ (no_cause _ _ _ accepted).1).0 in
        let hat : (hat_of node.rows.mode region).goes_by_trees ≡ true = second (is_region_of node.rows.regions region) (hat_of node.rows.mode region).goes_by_trees two in
        each_weaker (λ f. IsTreeFace node.rows.mode f) (λ f. region_eq f.region region ≡ false)
        (λ f face.
        by_test (region_eq f.region region)
        (λ same_. never (ap (λ r. (hat_of node.rows.mode r).goes_by_trees) (region_eq-same f.region region same_) ∙ hat) (is_no_router node.rows f face))
        (λ other. other))
        node.rows.faces (tree_rows cmp matching s j node fine agree at_j).faces
      where
        second : (a b : Bool) → (not a || not b) ≡ false → b ≡ true
        second a true h = refl
        second true false h = never refl h
        second false false h = never refl h

    answers_by : (spent : Bool) (j : ℕ) (node : Node K) (at_j : nth j s.gateways ≡ Some node) (c : PlainCall K) → first_cause (call_causes cmp matching spent c node.rows) ≡ None → Comes j c → Each (λ t. AnswerIn Q t.1) (said cmp matching c node.rows)
    answers_by spent j node at_j c accepted comes = cases c accepted comes
      where
        kind : (d : PlainCall K) → CallIn Q node.rows d → Each (λ t. AnswerIn Q t.1) (said cmp matching d node.rows)
        kind d own = each_weaker (λ t. TokenIn Q t.1) (λ t. AnswerIn Q t.1) (λ t o. answer_of_token Q t.1 o) (said cmp matching d node.rows) (says_in cmp matching Q j node d s at_j own all)

        cases : (d : PlainCall K) → first_cause (call_causes cmp matching spent d node.rows) ≡ None → Comes j d → Each (λ t. AnswerIn Q t.1) (said cmp matching d node.rows)
        cases (DeclareToken n id e tree_node None) accepted_ comes_ = plain_answers_none cmp matching Q n id tree_node e node.rows
        cases (DeclareToken n id e tree_node (Some i)) accepted_ (inl own) = kind (DeclareToken n id e tree_node (Some i)) own
        cases (DeclareToken n id e tree_node (Some i)) accepted_ (inr plain) = let bad : Some i ≡ None = answers_nobody spent j node at_j n id tree_node e (Some i) plain accepted_ in cc
        cases (NewSession first) accepted_ comes_ = kind (NewSession first) tt
        cases (NewTransport zid whatami region bound first) accepted_ comes_ = kind (NewTransport zid whatami region bound first) tt
        cases (UndeclareToken n id given tree_node) accepted_ comes_ = kind (UndeclareToken n id given tree_node) tt
        cases (Interest n id mode options e) accepted_ comes_ = kind (Interest n id mode options e) tt
        cases (InterestFinal n id) accepted_ comes_ = kind (InterestFinal n id) tt
        cases (DeclareFinal n id) accepted_ comes_ = kind (DeclareFinal n id) tt
        cases (CloseFace n) accepted_ comes_ = kind (CloseFace n) tt
        cases (Expire now) accepted_ comes_ = kind (Expire now) tt
        cases (SetTrees region t) accepted_ comes_ = kind (SetTrees region t) (apart_tree spent j node at_j region t accepted_)
        cases (SetEntities n subscribers queryables) accepted_ comes_ = kind (SetEntities n subscribers queryables) tt

    calls_leave : LeftByCalls cmp matching total equal_is_same s fine agree Comes Leaves
    calls_leave = λ spent j node c w waits at_j still open_ accepted comes less.
        let ms = printed_by cmp matching total equal_is_same s fine agree j node c in
        let t = turned_by cmp matching total equal_is_same s fine agree j node c w at_j still in
        let R = OrLive Q t in
        let more = everywhere_weaker Q R (λ e own. inl own) s all in
        let own = token_then spent j node at_j c accepted comes w in
        let prints : PrintsIn R ms = sorted_in R (map (printed_message s j) (said cmp matching c node.rows)) (sends_in R (printed_message s j) (λ m. refl) (said cmp matching c node.rows) (says_in cmp matching R j node c s at_j own more)) in (
          record { gateways = turned_in cmp matching R j node c s at_j own more; waiting = added_in R ms w prints (less_in R (λ e q. inl q) w less) },
          sorted_each (λ m. AnswerIn Q m.message) (map (printed_message s j) (said cmp matching c node.rows)) (each_map (λ m. AnswerIn Q m.message) (printed_message s j) (said cmp matching c node.rows) (answers_by spent j node at_j c accepted comes)),
        )
      where
        token_then : (spent : Bool) (j : ℕ) (node : Node K) (at_j : nth j s.gateways ≡ Some node) (c : PlainCall K) → first_cause (call_causes cmp matching spent c node.rows) ≡ None → Comes j c → (w : ById (List (Message K)))
            → (let t = record s { gateways = at_nth j (λ (x : Node K). record x { rows = rows_after_call cmp matching c x.rows }) s.gateways; waiting = added (printed_by cmp matching total equal_is_same s fine agree j node c) w } in CallIn (OrLive Q t) node.rows c)
        token_then spent j node at_j (DeclareToken n id e tree_node interest) accepted (inl own) w = inl own
        token_then spent j node at_j (DeclareToken n id e tree_node interest) accepted (inr plain) w = inr (live_then spent j node at_j n id tree_node e interest plain accepted [] _)
        token_then spent j node at_j (NewSession first) accepted comes w = tt
        token_then spent j node at_j (NewTransport zid whatami region bound first) accepted comes w = tt
        token_then spent j node at_j (UndeclareToken n id given tree_node) accepted comes w = tt
        token_then spent j node at_j (Interest n id mode options e) accepted comes w = tt
        token_then spent j node at_j (InterestFinal n id) accepted comes w = tt
        token_then spent j node at_j (DeclareFinal n id) accepted comes w = tt
        token_then spent j node at_j (CloseFace n) accepted comes w = tt
        token_then spent j node at_j (Expire now) accepted comes w = tt
        token_then spent j node at_j (SetTrees region t) accepted comes w = apart_tree spent j node at_j region t accepted
        token_then spent j node at_j (SetEntities n subscribers queryables) accepted comes w = tt

    -- A call or a step: answers of the kind, and tokens of it or live.
    call_leaves : (line : PlainLine K) → LineSaid cmp matching total equal_is_same s fine agree Comes line → is_call_or_step line ≡ true → Leaves (messages_of (entry_of cmp matching line s)) (fabric_after cmp matching line (entry_of cmp matching line s) s)
    call_leaves line comes leaves =
        stand_after cmp matching total equal_is_same s fine agree Comes Leaves (everywhere_weaker Q (OrLive Q s) (λ e own. inl own) s all, tt) (λ w waits less. waiting_less w less) calls_leave line comes leaves

    -- the calls of a line are so
    comes_by_message : (m : Message K) → TokenIn Q m → MessageSaid cmp matching total equal_is_same s fine agree Comes m
    comes_by_message (message.DeclareToken id e i n) own = λ j f. inl own
    comes_by_message (message.UndeclareToken id e n) own = λ j f. tt
    comes_by_message (message.DeclareFinal id) own = λ j f. tt
    comes_by_message (message.Interest id mode options e) own = λ j f. tt
    comes_by_message (message.InterestFinal id) own = λ j f. tt
    comes_by_message (message.DeclareSubscriber id e i) own = λ j f. tt
    comes_by_message (message.DeclareQueryable id e info i) own = λ j f. tt

    comes_by_face : (call : PlainCall K) → LineSaid cmp matching total equal_is_same s fine agree Comes (Speak call)
    comes_by_face (DeclareToken k id e node interest) = λ place n is at_ plain. inr (n, at_, plain)
    comes_by_face (UndeclareToken k id given node) = λ place n is at_ plain. tt
    comes_by_face (Interest k id mode options e) = λ place n is at_ plain. tt
    comes_by_face (InterestFinal k id) = λ place n is at_ plain. tt
    comes_by_face (DeclareFinal k id) = λ place n is at_ plain. tt
    comes_by_face (CloseFace k) = λ place n is at_ plain. tt
    comes_by_face (SetEntities k subscribers queryables) = λ place n is at_ plain. tt
    comes_by_face (NewSession first) = λ place n is at_ plain. tt
    comes_by_face (NewTransport zid whatami region bound first) = λ place n is at_ plain. tt
    comes_by_face (Expire now) = λ place n is at_ plain. tt
    comes_by_face (SetTrees region t) = λ place n is at_ plain. tt

    comes_by_line : (line : PlainLine K) → LineSaid cmp matching total equal_is_same s fine agree Comes line
    comes_by_line (Step n back) = λ q m rest is. comes_by_message m (oldest_in Q s q m rest all.waiting is)
    comes_by_line (Speak call) = comes_by_face call
    comes_by_line (Moment n now) = tt
    comes_by_line (SetTreesAt n region t) = tt
    comes_by_line (Gateway mode zid regions south name timeout refused) = tt
    comes_by_line (Session n first) = tt
    comes_by_line (FaceLine n mode zid region bound first) = tt
    comes_by_line (LinkLine one two first back) = tt
    comes_by_line (Unlink link) = tt

    -- ---- lines that make something

    made_in : (ms : List (Sent K)) (t : Fabric K) → Everywhere Q t → PrintsIn Q ms → Leaves ms t
    made_in ms t in_ prints = (everywhere_weaker Q (OrLive Q t) (λ e own. inl own) t in_, answers_of_prints Q ms prints)

    opening_in : (g : Rows K) (c : PlainCall K) → opens_face c ≡ true → CallIn Q g c
    opening_in g (NewSession first) opens = tt
    opening_in g (NewTransport zid whatami region bound first) opens = tt
    opening_in g (DeclareToken n id e node interest) opens = never opens refl
    opening_in g (UndeclareToken n id given node) opens = tt
    opening_in g (Interest n id mode options e) opens = tt
    opening_in g (InterestFinal n id) opens = tt
    opening_in g (DeclareFinal n id) opens = tt
    opening_in g (CloseFace n) opens = tt
    opening_in g (Expire now) opens = tt
    opening_in g (SetTrees region t) opens = never opens refl
    opening_in g (SetEntities n subscribers queryables) opens = tt

    abbrev Then : PlainLine K → Fabric K
    Then line = with_waiting (sorted_by_face (said_by_line cmp matching line s)) (after_hearing cmp (sorted_by_face (said_by_line cmp matching line s)) (altered_by_line cmp matching line s))

    abbrev ThenLeaves : PlainLine K → Type 0
    ThenLeaves line = Leaves (sorted_by_face (said_by_line cmp matching line s)) (Then line)

    gateway_leaves : (mode : WhatAmI) (zid : Zid) (regions : List Region) (south : PlainSouth) (name : Option (List ℕ)) (timeout : ℕ) (refused : List (Region × Region)) → ThenLeaves (Gateway mode zid regions south name timeout refused)
    unfolding call_of said_by_line altered_by_line sorted_by_face
    gateway_leaves mode zid regions south name timeout refused =
        let node : Node K = record { rows = new_rows mode zid regions timeout refused; south = south; name = name } in
        subst (Leaves []) (sym (nothing_said cmp matching total equal_is_same s fine agree (with_gateway node s)))
        (made_in [] (with_gateway node s) (record { gateways = each_append (λ (x : Node K). IsIn Q x.rows) s.gateways (node ∷ []) all.gateways (record { live = tt; routed = tt }, tt); waiting = all.waiting }) tt)

    -- a face is opened
    opened_in : (n : ℕ) (node : Node K) (at_n : nth n s.gateways ≡ Some node) (c : PlainCall K) (opens : opens_face c ≡ true) (ms : List (Sent K)) (prints : PrintsSends (with_place n s).faces n (said cmp matching c node.rows) ms) → PrintsIn Q ms
        → Leaves ms (with_waiting ms (after_hearing cmp ms (with_rows n (altered cmp matching c) (with_place n s))))
    opened_in n node at_n c opens ms prints in_ =
        subst (Leaves ms) (sym (opened_is cmp matching total s fine agree n node at_n c opens ms prints))
        (made_in ms (after_opened cmp matching total s fine agree n node at_n c opens ms prints) (record { gateways = turned_in cmp matching Q n node c s at_n (opening_in node.rows c opens) all; waiting = added_in Q ms s.waiting in_ all.waiting }) in_)

    session_leaves : (spent : Bool) (n first : ℕ) → first_cause (line_causes cmp matching spent (Session n first) s) ≡ None → ThenLeaves (Session n first)
    unfolding line_causes call_of said_by_line altered_by_line parts_of said_by altered_by sorted_by_face
    session_leaves spent n first accepted = cases (nth n s.gateways) refl (no_cause _ _ _ accepted).0
      where
        G : Option (CallAt K) → Type 0
        G at = Leaves (sorted_by_face (said_at cmp matching s at)) (with_waiting (sorted_by_face (said_at cmp matching s at)) (after_hearing cmp (sorted_by_face (said_at cmp matching s at)) (with_session n first s)))

        cases : (o : Option (Node K)) → nth n s.gateways ≡ o → is_none o ≡ false → G (elim o [ None ↦ None | Some node ↦ Some (record { gateway = n; rows = node.rows; call = NewSession first }) ])
        cases None at_ known = never refl known
        cases (Some node) at_ known = opened_in n node at_ (NewSession first) refl [] (prints_map (with_place n s).faces n (said cmp matching (NewSession first) node.rows)) tt

    face_leaves : (n : ℕ) (mode : WhatAmI) (zid : Zid) (region : Region) (bound : Bound) (first : ℕ) → ThenLeaves (FaceLine n mode zid region bound first)
    unfolding call_of said_by_line altered_by_line sorted_by_face
    face_leaves n mode zid region bound first =
        let c : PlainCall K = NewTransport zid mode region bound first in
        let T = λ (at : Option (CallAt K)). Leaves (sorted_by_face (said_at cmp matching (opened_at cmp matching at s) at)) (with_waiting (sorted_by_face (said_at cmp matching (opened_at cmp matching at s) at)) (after_hearing cmp (sorted_by_face (said_at cmp matching (opened_at cmp matching at s) at)) (opened_at cmp matching at s))) in
        called_at T s n c (subst (Leaves []) (sym (nothing_said cmp matching total equal_is_same s fine agree s)) (made_in [] s all tt))
        (λ node at_.
        let ss = map (printed (with_place n s).faces n) (said cmp matching c node.rows) in
        opened_in n node at_ c refl (sorted_by_face ss) (prints_sorted (with_place n s).faces n (said cmp matching c node.rows)) (sorted_in Q ss (sends_in Q (printed (with_place n s).faces n) (λ m. refl) (said cmp matching c node.rows) (says_in cmp matching Q n node c s at_ tt all))))

    link_leaves : (line : PlainLine K) → LinkIs cmp matching s (Then line) (said_by_line cmp matching line s) → ThenLeaves line
    link_leaves line is =
        let first_in = opening_in is.node1.rows is.call1 is.opens1 in
        let second_in = opening_in is.node2.rows is.call2 is.opens2 in
        let M1 = map (printed is.places1 is.one) (said cmp matching is.call1 is.node1.rows) in
        let M2 = map (printed is.places2 is.two) (said cmp matching is.call2 is.node2.rows) in
        let prints1 : PrintsIn Q M1 = sends_in Q (printed is.places1 is.one) (λ m. refl) (said cmp matching is.call1 is.node1.rows) (says_in cmp matching Q is.one is.node1 is.call1 s is.at1 first_in all) in
        let middle : Fabric K = record s { gateways = at_nth is.one (λ (x : Node K). record x { rows = rows_after_call cmp matching is.call1 x.rows }) s.gateways } in
        let middle_in : Everywhere Q middle = record { gateways = turned_in cmp matching Q is.one is.node1 is.call1 s is.at1 first_in all; waiting = all.waiting } in
        let prints2 : PrintsIn Q M2 = sends_in Q (printed is.places2 is.two) (λ m. refl) (said cmp matching is.call2 is.node2.rows) (says_in cmp matching Q is.two is.node2 is.call2 middle is.still second_in middle_in) in
        let both : PrintsIn Q (said_by_line cmp matching line s) = subst (PrintsIn Q) (sym is.said_is) (each_append (λ (m : Sent K). TokenIn Q m.message) M1 (M2 ++ []) prints1 (each_append (λ (m : Sent K). TokenIn Q m.message) M2 [] prints2 tt)) in
        let ms = sorted_by_face (said_by_line cmp matching line s) in
        let prints : PrintsIn Q ms = sorted_in Q (said_by_line cmp matching line s) both in
        made_in ms (Then line)
        (record {
          gateways = subst (λ (gs : List (Node K)). Each (λ (x : Node K). IsIn Q x.rows) gs) (sym is.gateways_are) (turned_in cmp matching Q is.two is.node2 is.call2 middle is.still second_in middle_in);
          waiting = subst (Queues Q) (sym is.waiting_is)
              (each_append (λ (row : ℕ × List (Message K)). Each (TokenIn Q) row.1) (added M2 (added M1 s.waiting)) _ (added_in Q M2 (added M1 s.waiting) prints2 (added_in Q M1 s.waiting prints1 all.waiting)) (printed_in Q is.face1 ms prints, (printed_in Q is.face2 ms prints, tt)));
        })
        prints

    -- ---- every line but an unlinking

    abbrev After : PlainLine K → Fabric K
    After line = fabric_after cmp matching line (entry_of cmp matching line s) s

    itself : Leaves [] s
    itself = (everywhere_weaker Q (OrLive Q s) (λ e own. inl own) s all, tt)

    by_entry : (line : PlainLine K) → ((r : Refusal) → after_refusal cmp matching line r s ≡ s) → (first_cause (line_causes cmp matching (line_spends_ids cmp matching line s) line s) ≡ None → FacesFormTrees (Then line) → ThenLeaves line)
        → FacesFormTrees (After line) → Leaves (messages_of (entry_of cmp matching line s)) (After line)
    unfolding fabric_after entry_of
    by_entry line still accepted_ trees_ = cases (first_cause (line_causes cmp matching (line_spends_ids cmp matching line s) line s)) refl trees_
      where
        entry : Option Refusal → PlainEntry K
        entry o = entry_by cmp matching o (sorted_by_face (said_by_line cmp matching line s))

        cases : (o : Option Refusal) → first_cause (line_causes cmp matching (line_spends_ids cmp matching line s) line s) ≡ o → FacesFormTrees (fabric_after cmp matching line (entry o) s) → Leaves (messages_of (entry o)) (fabric_after cmp matching line (entry o) s)
        cases None accepted now_ = accepted_ accepted now_
        cases (Some r) refused now_ = subst (Leaves []) (sym (still r)) itself

    abbrev pub is_no_unlink : PlainLine K → Bool
    is_no_unlink (Unlink n) = false
    is_no_unlink _ = true

    pub line_leaves : (line : PlainLine K) → is_no_unlink line ≡ true → HasFirstIds line → FacesFormTrees (After line) → Leaves (messages_of (entry_of cmp matching line s)) (After line)
    line_leaves (Step n back) no_ real now_ = call_leaves (Step n back) (comes_by_line (Step n back)) refl
    line_leaves (Speak call) no_ real now_ = call_leaves (Speak call) (comes_by_line (Speak call)) refl
    line_leaves (Moment n now) no_ real now_ = call_leaves (Moment n now) tt refl
    line_leaves (SetTreesAt n region t) no_ real now_ = call_leaves (SetTreesAt n region t) tt refl
    line_leaves (Gateway mode zid regions south name timeout refused) no_ real now_ = by_entry (Gateway mode zid regions south name timeout refused) (λ r. refl) (λ accepted _. gateway_leaves mode zid regions south name timeout refused) now_
    line_leaves (Session n first) no_ real now_ = by_entry (Session n first) (λ r. refl) (λ accepted _. session_leaves (line_spends_ids cmp matching (Session n first) s) n first accepted) now_
    line_leaves (FaceLine n mode zid region bound first) no_ real now_ = by_entry (FaceLine n mode zid region bound first) (λ r. refl) (λ accepted _. face_leaves n mode zid region bound first) now_
    line_leaves (LinkLine one two first back) no_ real now_ =
        by_entry (LinkLine one two first back) (λ r. refl)
        (λ accepted then_. link_leaves (LinkLine one two first back) (link_comes_to cmp matching total equal_is_same s fine agree one two first back real.0 real.1 (line_spends_ids cmp matching (LinkLine one two first back) s) accepted then_)) now_
    line_leaves (Unlink n) no_ real now_ = never no_ refl
