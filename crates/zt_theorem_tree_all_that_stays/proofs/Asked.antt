-- The asking itself, where nothing waits: the ask is answered at once, or it stands and is pursued.
use Rattle.std.proofs.Common.{◌≡◌, ◌≢◌, ◌⊎◌, inl, inr, ℕ, Bool, true, false, if◌then◌else◌, ◌&&◌, ◌||◌, ◌==◌, not, List, [], ◌∷◌, Option, Some, None, refl, sym, ap, ◌∙◌, subst, eqb-true, eq-eqb, ⊎_elim}
use Rattle.std.proofs.lemmas.Bool.{and_parts}
use Rattle.std.proofs.lemmas.Nat.{and_assoc}
use Rattle.std.specs.Cmp.{IsTotalOrder}
use Rattle.std.specs.List.{list_any}
use Rattle.std.specs.declared.cmp.Ordering.{Ordering}
use Rattle.std.specs.declared.cmp.Ordering.TheVariants.{Equal}
use Rattle.zt_region.specs.declared.region.WhatAmI.{WhatAmI}
use Rattle.zt_region.specs.declared.region.WhatAmI.TheVariants.{Peer}
use Rattle.zt_region.specs.Region.{is_north, whatami_eq}
use Rattle.zt_protocol.specs.Interest.{has_queryables, has_subscribers, has_tokens, is_current, is_future, without_aggregate}
use Rattle.zt_protocol.specs.Plain.{PlainCall, Interest, PlainEntry, PlainLine, Speak}
use Rattle.zt_protocol.specs.declared.entries.Sent.{Sent}
use Rattle.zt_protocol.specs.declared.errors.Refusal.{Refusal}
use Rattle.zt_protocol.specs.declared.interests.InterestMode.{InterestMode}
use Rattle.zt_protocol.specs.declared.interests.InterestOptions.{InterestOptions}
use Rattle.zt_model.specs.Fabric.{CallAt, Fabric, Node, Place, after_hearing, altered_by_line, line_causes, call_at_place, call_of, causes_of_call, entry_by, entry_of, fabric_after, is_linked_face, line_causes, line_spends_ids, printed_for, said_at, said_by_line, sorted_by_face, with_waiting}
use Rattle.zt_model.specs.Hearing.{heard_all, messages_for}
use Rattle.zt_model.specs.Lists.{nth, same}
use Rattle.zt_model.specs.Parts.{find_face}
use Rattle.zt_model.specs.Promises.{is_accepted}
use Rattle.zt_model.specs.Refusals.{call_causes, first_cause, is_illegal_current}
use Rattle.zt_model.specs.Routing.{asked_as, sent_as}
use Rattle.zt_model.specs.Rows.{Face, InterestRow}
use Rattle.zt_model.specs.Says.{altered, row_of, said}
use Rattle.zt_model.specs.Shown.{interest_kept}
use Rattle.zt_model.specs.Transcript.{Each, FaceAt, face_numbered, messages_of}
use Rattle.zt_model.specs.TreePromises.{IsInTree, are_links_empty, is_at_gateway, is_live_at, is_plain_number}
use Rattle.zt_model.specs.Wants.{is_about, kept_options}
use Rattle.zt_laws.specs.Keeping.{AllKeepRight}
use Rattle.zt_laws.specs.Order.{FabricIsInOrder}
use Rattle.zt_laws.specs.Sound.{rows_after_call}
use Rattle.zt_laws.proofs.Calls.{no_cause}
use Rattle.zt_laws.proofs.Gateways.{prints_sorted}
use Rattle.zt_laws.proofs.Hearing.{heard_all-live}
use Rattle.zt_laws.proofs.Lists.{any_weaker, by_test, never}
use Rattle.zt_laws.proofs.LinesOrder.{calls_nothing}
use Rattle.zt_theorem_tree_invariant.specs.Facts.{TreesAgree}
use Rattle.zt_theorem_tree_invariant.specs.Trees.{FacesFormTrees}
use Rattle.zt_theorem_tree_invariant.proofs.After.{after_call}
use Rattle.zt_theorem_tree_invariant.proofs.Climbing.{at_gateway, meet_at}
use Rattle.zt_theorem_tree_invariant.proofs.Effects.{other_interest, own_interest}
use Rattle.zt_theorem_tree_invariant.proofs.Lasting.{printed_by, turned_by}
use Rattle.zt_theorem_tree_invariant.proofs.Lines.{after_is, is_linked, same_number, tree_rows}
use Rattle.zt_theorem_tree_invariant.proofs.Members.{is_there}
use Rattle.zt_theorem_tree_invariant.proofs.Saying.{find_heard_at}
use Rattle.zt_theorem_tree_invariant.proofs.Standing.{was_there}
use Rattle.zt_theorem_tree_all_that_stays.specs.Steady.{AnswersFirst, IsNoFinal}
use Rattle.zt_theorem_tree_all_that_stays.specs.Ways.{IsCarriedUp, IsFollowed, LeadsUpTo, LivesAt}
use Rattle.zt_theorem_tree_all_that_stays.proofs.Anew.{new_is_answered, new_is_followed}
use Rattle.zt_theorem_tree_all_that_stays.proofs.Beginning.{carried_of, plain_down, way_of}
use Rattle.zt_theorem_tree_all_that_stays.proofs.Carrying.{carried_up}
use Rattle.zt_theorem_tree_all_that_stays.proofs.Leading.{leads_then}
use Rattle.zt_theorem_tree_all_that_stays.proofs.Turning.{Stands}
use Rattle.zt_theorem_tree_all_that_stays.proofs.Views.{Speaks, leaves_open, rows_before, still_elsewhere, still_open}

-- what is legal stays so with the options that are kept
legal_kept : (mode : InterestMode) (who : WhatAmI) (options : InterestOptions) → is_illegal_current mode options ≡ false → is_illegal_current mode (kept_options who options) ≡ false
legal_kept mode who options legal = cases (whatami_eq who Peer || has_tokens options)
  where
    cases : (b : Bool) → is_illegal_current mode (if b then without_aggregate options else options) ≡ false
    cases true =
        ap (λ n. not (is_future mode) && (((n == 2) || has_queryables (without_aggregate options)) || not (has_tokens (without_aggregate options)))) (and_assoc 2 options.0 239)
        ∙ ap (λ n. not (is_future mode) && ((has_subscribers options || (n == 4)) || not (has_tokens (without_aggregate options)))) (and_assoc 4 options.0 239)
        ∙ ap (λ n. not (is_future mode) && ((has_subscribers options || has_queryables options) || not (n == 8))) (and_assoc 8 options.0 239)
        ∙ legal
    cases false = legal

module _ {K : Type 0} (cmp : K → K → Ordering) (matching : K → K → Bool) (total : IsTotalOrder cmp) (equal_is_same : (a b : K) → cmp a b ≡ Equal → a ≡ b) (e : K) (i : InterestRow K) (about : is_about matching i.expr e ≡ true) (tokens : has_tokens i.options ≡ true) (current : is_current i.mode ≡ true) (s : Fabric K) (fine : FabricIsInOrder cmp matching s)
    (agree : TreesAgree cmp matching s) (trees : FacesFormTrees s) (quiet : are_links_empty s ≡ true) (keep : AllKeepRight cmp matching s) (k id q : ℕ) (plain : is_plain_number s k ≡ true) (z : FaceAt K) (z_is : face_numbered s k ≡ Some z) (options : InterestOptions) (kept : i ≡ interest_kept z.face i.mode options i.expr)
    (own other : ℕ) (own_at : is_at_gateway s k own ≡ true) (tree : IsInTree s own other) (other_at : is_at_gateway s q other ≡ true) where
  -- it is answered, or stands at the end of some way and is sent no final
  abbrev pub Asked : List (Sent K) → Fabric K → Type 0
  Asked ms t = (is_illegal_current i.mode i.options ≡ false) × (AnswersFirst cmp id e (printed_for k ms) ⊎ ((way : List (ℕ × ℕ)) × (up : List (ℕ × ℕ)) × (top : ℕ) × Stands cmp matching total equal_is_same e i k id q way up top t × Each (IsNoFinal id) (printed_for k ms)))

  abbrev pub Asks : List (Sent K) → Fabric K → Type 0
  Asks ms t = FabricIsInOrder cmp matching t → is_plain_number t q ≡ true → LivesAt cmp matching e t q → Asked ms t

  the_same : {A : Type 0} {u v : A} → Some u ≡ Some v → u ≡ v
  the_same h = cc

  abbrev line : PlainLine K
  line = Speak (Interest k id i.mode options i.expr)

  abbrev j : ℕ
  j = z.gateway

  abbrev n : ℕ
  n = z.face.number

  abbrev c : PlainCall K
  c = Interest n id i.mode options i.expr

  -- the face at the gateway to which the expression is carried
  end_lives : (top : ℕ) (way : List (ℕ × ℕ)) (m : ℕ) → IsCarriedUp cmp matching e s m way top → LivesAt cmp matching e s m → (p : ℕ) × ((l : LivesAt cmp matching e s p) × (l.own.gateway ≡ top))
  end_lives top [] m u lives = let is : u.0 ≡ lives.own = the_same (sym u.1 ∙ lives.own_is) in (m, (lives, ap (λ (x : FaceAt K). x.gateway) (sym is) ∙ u.2))
  end_lives top (step ∷ way) m u lives =
      let on = u.0 in
      let ends = agree.links.meet step.0 step.1 on.above.joined in
      let one : ends.one ≡ on.lower = the_same (sym ends.one_is ∙ on.above.lower_is) in
      let two : ends.two ≡ on.upper = the_same (sym ends.two_is ∙ on.above.upper_is) in
      end_lives top way step.1 u.1 (record {
        own = on.upper;
        own_is = on.above.upper_is;
        down = ap (λ (x : FaceAt K). is_north x.face.region) (sym two) ∙ ends.one_leads_up ∙ ap (λ (x : FaceAt K). not (is_north x.face.region)) one ∙ ap not on.above.up;
        live = any_weaker (λ row. (on.id == row.0) && same cmp e row.1) (λ row. same cmp e row.1) (λ row both. (and_parts (on.id == row.0) (same cmp e row.1) both).1) on.upper.face.live on.live;
      })

  down : is_north z.face.region ≡ false
  down = plain_down cmp matching total equal_is_same s fine agree trees k z z_is plain

  own_row : row_of cmp matching z.face i.mode options i.expr ≡ i
  own_row = sym kept

  module _ (node : Node K) (at_j : nth j s.gateways ≡ Some node) (found : find_face n node.rows ≡ Some z.face) (spent : Bool) (accepted : first_cause (call_causes cmp matching spent c node.rows) ≡ None)
      (speaks : Speaks cmp matching total s fine j node at_j c (calls_nothing cmp matching total c refl) (printed_by cmp matching total equal_is_same s fine agree j node c) s.waiting (prints_sorted s.faces j (said cmp matching c node.rows))) where
    abbrev ms : List (Sent K)
    ms = printed_by cmp matching total equal_is_same s fine agree j node c

    abbrev t : Fabric K
    t = turned_by cmp matching total equal_is_same s fine agree j node c s.waiting at_j refl

    legal : is_illegal_current i.mode i.options ≡ false
    unfolding call_causes
    legal = ap (λ (r : InterestRow K). is_illegal_current i.mode r.options) kept ∙ legal_kept i.mode z.face.mode options (no_cause _ _ _ (no_cause _ _ _ (no_cause _ _ _ (no_cause _ _ _ accepted).1).1).1).0

    -- ---- tokens are live as they were

    -- a face of the gateway, and its tokens then
    lives_on : (p : ℕ) (f : Face K) → find_face p node.rows ≡ Some f → (h : Face K) × (find_face p (rows_after_call cmp matching c node.rows) ≡ Some h) × (h.live ≡ f.live)
    lives_on p f found_p =
        let rows = tree_rows cmp matching s j node fine agree at_j in
        let ss = said cmp matching c node.rows in
        let g = altered cmp matching c node.rows in
        by_test (n == p)
        (λ same_.
        let is : n ≡ p = eqb-true n p same_ in
        let is_z : z.face ≡ f = the_same (sym found ∙ ap (λ m. find_face m node.rows) is ∙ found_p) in
        let acts = own_interest cmp matching n id i.mode options i.expr node.rows z.face rows found down in
        let h0 = asked_as (sent_as node.rows z.face.region i.mode) id (row_of cmp matching z.face i.mode options i.expr) z.face in
        let h = heard_all cmp g.moment (messages_for n ss) h0 in
        (h, ap (λ m. find_face m (rows_after_call cmp matching c node.rows)) (sym is) ∙ find_heard_at cmp ss g n h0 acts.altered_is, heard_all-live cmp g.moment (messages_for n ss) h0 ∙ ap (λ (x : Face K). x.live) is_z))
        (λ other_.
        let apart : n ≢ p = λ is. never (ap (λ m. n == m) (sym is) ∙ eq-eqb n n refl) other_ in
        let hears = other_interest cmp matching n id i.mode options i.expr node.rows z.face p f apart rows found down found_p in
        let h = heard_all cmp g.moment (messages_for p ss) hears.after in
        (h, find_heard_at cmp ss g p hears.after hears.altered_is, heard_all-live cmp g.moment (messages_for p ss) hears.after ∙ hears.unmoved.live))

    lives_before : is_plain_number s q ≡ true → LivesAt cmp matching e t q → LivesAt cmp matching e s q
    lives_before plain_q lives =
        let real = calls_nothing cmp matching total c refl in
        let prints = prints_sorted s.faces j (said cmp matching c node.rows) in
        let opens = leaves_open cmp matching total s fine j node at_j c real ms s.waiting prints speaks in
        let w = was_there cmp matching total s fine agree j node at_j c real refl opens spent accepted ms s.waiting prints q lives.own lives.own_is in
        let low = plain_down cmp matching total equal_is_same s fine agree trees q w.0 w.1 plain_q in
        let live_of = λ (f : Face K). is_live_at cmp matching f e in
        by_test (w.0.gateway == j)
        (λ same_.
        let here : w.0.gateway ≡ j = eqb-true w.0.gateway j same_ in
        let on = lives_on w.0.face.number w.0.face (rows_before cmp matching total s fine j node at_j c real ms s.waiting prints q w.0 w.1 here) in
        let y = still_open cmp matching total s fine j node at_j c real ms s.waiting prints q w.0 on.0 w.1 here on.1 in
        let is : y.0 ≡ lives.own = the_same (sym y.1 ∙ lives.own_is) in
        record { own = w.0; own_is = w.1; down = low; live = ap (λ rows. list_any (λ row. same cmp e row.1) rows) (sym on.2) ∙ ap live_of (sym y.2) ∙ ap (λ (x : FaceAt K). live_of x.face) is ∙ lives.live })
        (λ apart_.
        let y = still_elsewhere cmp matching total s fine j node at_j c real ms s.waiting prints q w.0 w.1 (λ is. never (eq-eqb w.0.gateway j is) apart_) in
        let is : y.0 ≡ lives.own = the_same (sym y.1 ∙ lives.own_is) in
        record { own = w.0; own_is = w.1; down = low; live = ap live_of (sym y.2) ∙ ap (λ (x : FaceAt K). live_of x.face) is ∙ lives.live })

    -- ---- up the way

    module _ (order : FabricIsInOrder cmp matching (turned_by cmp matching total equal_is_same s fine agree j node c s.waiting at_j refl)) (lives : LivesAt cmp matching e s q) (lives_then : LivesAt cmp matching e (turned_by cmp matching total equal_is_same s fine agree j node c s.waiting at_j refl) q)
        (up : List (ℕ × ℕ)) (top : ℕ) (carried : IsCarriedUp cmp matching e s q up top) where
      by_way : (way : List (ℕ × ℕ)) → LeadsUpTo s k way top → Asked ms t
      by_way [] leads =
          let is : leads.0 ≡ z = the_same (sym leads.1 ∙ z_is) in
          let at_top = end_lives top up q carried lives in
          let beside : at_top.1.0.own.gateway ≡ j = at_top.1.1 ∙ sym leads.2 ∙ ap (λ (x : FaceAt K). x.gateway) is in
          (legal, inl (new_is_answered cmp matching total equal_is_same e i about tokens current s fine agree j node at_j c (calls_nothing cmp matching total c refl) refl refl spent accepted ms s.waiting (prints_sorted s.faces j (said cmp matching c node.rows)) (λ m h. h) speaks k z z_is down refl id options refl own_row at_top.0 at_top.1.0 beside))
      by_way (step ∷ way) leads =
          let real = calls_nothing cmp matching total c refl in
          let prints = prints_sorted s.faces j (said cmp matching c node.rows) in
          let is : z ≡ leads.0.own = the_same (sym z_is ∙ leads.0.above.own_is) in
          let asks : c ≡ Interest leads.0.own.face.number id i.mode options i.expr = ap (λ (x : FaceAt K). Interest x.face.number id i.mode options i.expr) is in
          let on = new_is_followed cmp matching total equal_is_same e i about tokens current s fine agree j node at_j c real refl refl spent accepted ms s.waiting prints (λ m h. h) speaks k step.0 step.1 leads.0 (ap (λ (x : FaceAt K). x.gateway) (sym is)) id options asks (ap (λ (x : FaceAt K). row_of cmp matching x.face i.mode options i.expr) (sym is) ∙ own_row) (λ p. IsFollowed cmp matching e i t way step.1 p) in (
            legal,
            ⊎_elim
                (λ both.
                inr (
                  step ∷ way,
                  up,
                  top,
                  inl (
                    plain,
                    record {
                      carried = carried_up cmp matching total equal_is_same e s fine agree j node at_j c real refl refl spent accepted ms s.waiting prints (λ m h. h) speaks order up q top carried lives lives_then;
                      lives = lives_then;
                      leads = leads_then cmp matching total equal_is_same s fine agree j node at_j c real refl refl spent accepted ms s.waiting prints (λ m h. h) speaks (step ∷ way) k top both.0.own leads both.0.above.own_is both.0.above.down;
                      followed = both.0;
                    },
                  ),
                  both.1,
                ))
                (λ first. inl first)
                on,
          )

    asks_here : Asks ms t
    asks_here = λ order plain_q lives_then.
        let lives = lives_before plain_q lives_then in
        let m = meet_at cmp matching s fine agree own other tree in
        let way = way_of cmp matching total equal_is_same s fine agree trees quiet k z m.top z_is down own (at_gateway s k own z z_is own_at) m.one in
        let up = carried_of cmp matching total equal_is_same s fine agree trees quiet keep e q m.top lives other (at_gateway s q other lives.own lives.own_is other_at) m.two in
        by_way order lives lives_then up.0 m.top up.1 way.0 way.1

  -- ---- the line

  place_is : nth k s.faces ≡ Some (record { gateway = j; face = n })
  place_is =
      let th = is_there s k z z_is in
      th.place_is ∙ ap (λ g. Some (let p : Place = record { gateway = g; face = th.place.face } in p)) th.gateway_is ∙ ap (λ f. Some (let p : Place = record { gateway = j; face = f } in p)) th.number_is

  abbrev Follows : Option (CallAt K) → Type 0
  Follows at = Asks (sorted_by_face (said_at cmp matching s at)) (after_call cmp matching total equal_is_same s fine agree s at)

  called_here : (spent : Bool) → is_linked_face s (Some k) ≡ false → first_cause (causes_of_call cmp matching spent (Some (record { gateway = j; rows = (is_there s k z z_is).node.rows; call = c }))) ≡ None → Follows (Some (record { gateway = j; rows = (is_there s k z z_is).node.rows; call = c }))
  called_here spent alone accepted =
      let th = is_there s k z z_is in
      let node = th.node in
      let found : find_face n node.rows ≡ Some z.face = ap (find_face n) th.rows_are ∙ th.face_is in
      let speaks : Speaks cmp matching total s fine j node th.node_is c (calls_nothing cmp matching total c refl) (printed_by cmp matching total equal_is_same s fine agree j node c) s.waiting (prints_sorted s.faces j (said cmp matching c node.rows)) =
      λ a b u u_is link_.
      inl (record {
        queue_is = refl;
        unnamed = λ here m m_is is.
            let m_n : n ≡ m = the_same m_is in
            let same_ : a ≡ k = same_number cmp matching total s fine agree k a (record { gateway = j; face = n }) u place_is u_is here (sym is ∙ sym m_n) node th.node_is in
            never (subst (λ x. is_linked_face s (Some x) ≡ true) same_ (is_linked cmp matching total s fine agree a b link_)) alone;
      }) in
      subst (Asks (printed_by cmp matching total equal_is_same s fine agree j node c)) (sym (after_is cmp matching total s fine agree j node c (printed_by cmp matching total equal_is_same s fine agree j node c) s.waiting th.node_is refl (prints_sorted s.faces j (said cmp matching c node.rows))))
      (asks_here node th.node_is found spent accepted speaks)

  at_call : (spent : Bool) → is_linked_face s (Some k) ≡ false → (at : Option (CallAt K)) → at ≡ Some (record { gateway = j; rows = (is_there s k z z_is).node.rows; call = c }) → first_cause (causes_of_call cmp matching spent at) ≡ None → Follows at
  at_call spent alone at is = subst (λ a. first_cause (causes_of_call cmp matching spent a) ≡ None → Follows a) (sym is) (called_here spent alone)

  call_is : call_at_place s (Interest k id i.mode options i.expr) (nth k s.faces) ≡ Some (record { gateway = j; rows = (is_there s k z z_is).node.rows; call = c })
  call_is =
      let th = is_there s k z z_is in
      let by_node = λ (o : Option (Node K)). (let r : Option (CallAt K) = elim o [ None ↦ None | Some node ↦ Some (record { gateway = j; rows = node.rows; call = c }) ] in r) in
      ap (call_at_place s (Interest k id i.mode options i.expr)) place_is ∙ ap by_node th.node_is

  accepted_line : (spent : Bool) → first_cause (line_causes cmp matching spent line s) ≡ None → Asks (sorted_by_face (said_by_line cmp matching line s)) (with_waiting (sorted_by_face (said_by_line cmp matching line s)) (after_hearing cmp (sorted_by_face (said_by_line cmp matching line s)) (altered_by_line cmp matching line s)))
  unfolding line_causes call_of said_by_line altered_by_line
  accepted_line spent accepted =
      let two = no_cause _ _ _ (no_cause _ _ _ accepted).1 in
      at_call spent two.0 (call_at_place s (Interest k id i.mode options i.expr) (nth k s.faces)) call_is two.1

  pub asked_line : is_accepted (entry_of cmp matching line s) ≡ true → Asks (messages_of (entry_of cmp matching line s)) (fabric_after cmp matching line (entry_of cmp matching line s) s)
  unfolding fabric_after entry_of
  asked_line ok = cases (first_cause (line_causes cmp matching (line_spends_ids cmp matching line s) line s)) refl ok
    where
      entry : Option Refusal → PlainEntry K
      entry o = entry_by cmp matching o (sorted_by_face (said_by_line cmp matching line s))

      cases : (o : Option Refusal) → first_cause (line_causes cmp matching (line_spends_ids cmp matching line s) line s) ≡ o → is_accepted (entry o) ≡ true → Asks (messages_of (entry o)) (fabric_after cmp matching line (entry o) s)
      cases None accepted yes_ = accepted_line (line_spends_ids cmp matching line s) accepted
      cases (Some r) refused yes_ = never yes_ refl
