-- An accepted link: both faces are opened, and then joined.
use Rattle.std.proofs.Common.{◌≡◌, ◌≢◌, ℕ, ◌+◌, ◌-◌, ◌≤◌, ◌<◌, Bool, true, false, ◌==◌, not, List, [], ◌∷◌, ◌++◌, length, map, Option, Some, None, Ok, Err, refl, sym, ap, ◌∙◌, subst, arith, eqb-true, ne_eqb, append-nil, length-append, ⊎_elim}
use Rattle.std.specs.Cmp.{IsTotalOrder}
use Rattle.std.specs.declared.cmp.Ordering.{Ordering}
use Rattle.zt_region.specs.declared.region.Bound.{Bound}
use Rattle.zt_region.specs.declared.region.Region.{Region}
use Rattle.zt_region.specs.declared.region.WhatAmI.TheVariants.{Client}
use Rattle.zt_region.specs.Region.{is_north}
use Rattle.zt_region.specs.Tables.{RegionAnswer}
use Rattle.zt_protocol.specs.Plain.{NewTransport, PlainCall, PlainLine, Link as LinkLine}
use Rattle.zt_protocol.specs.declared.entries.Sent.{Sent}
use Rattle.zt_protocol.specs.declared.messages.Message.{Message}
use Rattle.zt_model.specs.Fabric.{CallAt, Fabric, Link, Node, Place, after_hearing, after_opening, altered_by_line, at_nth, call_at, gateways_after_hearing, next_face, number_from, opened_at, opened_ends, opening_at, printed_for, said_at, said_by_line, said_opening, sorted_by_face, with_place, with_rows, with_waiting}
use Rattle.zt_model.specs.Hearing.{heard_all, messages_for}
use Rattle.zt_model.specs.Linking.{LinkEnd, climbs_to, end_region, link_ends, with_link}
use Rattle.zt_model.specs.Lists.{nth}
use Rattle.zt_model.specs.Parts.{find_face}
use Rattle.zt_model.specs.Rows.{ById, Face}
use Rattle.zt_model.specs.Says.{altered, said}
use Rattle.zt_model.specs.Transcript.{Each, FaceAt, face_numbered}
use Rattle.zt_laws.specs.Order.{FabricIsInOrder}
use Rattle.zt_laws.specs.Sound.{is_placed, opens_face, places_of, rows_after_call}
use Rattle.zt_laws.proofs.Ends.{after_hearing-append, end_alone, ends_commute, opened_elsewhere, printed_for-append, printed_none, said_within}
use Rattle.zt_laws.proofs.Entries.{nth-at_nth}
use Rattle.zt_laws.proofs.Gateways.{PrintsSends, after_hearing_nothing, prints_map}
use Rattle.zt_laws.proofs.Hearing.{heard_all-region}
use Rattle.zt_laws.proofs.Interleaving.{hearing_alike}
use Rattle.zt_laws.proofs.Lists.{by_test, each_always, each_map, each_weaker, map-append, never}
use Rattle.zt_laws.proofs.LinesOrder.{gateway_in_order, in_order_opened}
use Rattle.zt_laws.proofs.Numbered.{length-at_nth, nth_real}
use Rattle.zt_laws.proofs.Places.{not_placed_yet, number_new, number_still, placed_new, placed_still}
use Rattle.zt_laws.proofs.Sorting.{printed, printed_sorted}
use Rattle.zt_theorem_tree_invariant.specs.Facts.{IsTreeGateway, JointAgrees, TreesAgree}
use Rattle.zt_theorem_tree_invariant.specs.Joints.{IsForest, are_joined}
use Rattle.zt_theorem_tree_invariant.proofs.Climbing.{StepUp}
use Rattle.zt_theorem_tree_invariant.proofs.Making.{changes, nth_front, opened_is, seen}
use Rattle.zt_theorem_tree_invariant.proofs.Members.{each_nth, is_there, numbered}
use Rattle.zt_theorem_tree_invariant.proofs.Turning.{nth_other}
use Rattle.zt_theorem_tree_knowledge.proofs.LineCalls.{the_one}
use Rattle.zt_theorem_tree_knowledge.proofs.Fresh.{fresh, fresh_agrees_above, fresh_below, fresh_heard, nothing_said}
use Rattle.zt_theorem_tree_knowledge.proofs.Joined.{joined_agrees, joined_fabric, old_or_new}
use Rattle.zt_theorem_tree_knowledge.proofs.Opened.{after_opened, trees_after_opened}
use Rattle.zt_theorem_tree_knowledge.proofs.Queues.{added, queues_same}
use Rattle.zt_theorem_tree_knowledge.proofs.Ranks.{new_link, new_rank, new_step, new_within}

nth_last : {A : Type 0} (xs : List A) (x : A) → nth (length xs + 1) (xs ++ x ∷ []) ≡ Some x
nth_last [] x = refl
nth_last (y ∷ xs) x =
    let more : length (y ∷ xs) + 1 ≡ length xs + 1 + 1 = omega arith in
    let miss : (length xs + 1 + 1 == 1) ≡ false = ne_eqb (length xs + 1 + 1) 1 (λ e. omega arith) in
    let down : length xs + 1 + 1 - 1 ≡ length xs + 1 = omega arith in
    ap (λ n. nth n (y ∷ (xs ++ x ∷ []))) more ∙ rw miss (ap (λ n. nth n (xs ++ x ∷ [])) down ∙ nth_last xs x)

nth_within : {A : Type 0} (n : ℕ) (xs : List A) (x : A) → nth n xs ≡ Some x → n ≤ length xs
nth_within n [] x at_ = cc
nth_within n (y ∷ xs) x at_ =
    by_test (n == 1)
    (λ here. let is : n ≡ 1 = eqb-true n 1 here in omega arith)
    (λ here. let rest = nth_within (n - 1) xs x (rw here at at_) in omega arith)

-- What an accepted link comes to: two calls at two gateways, each of which opens a face.
pub record LinkIs {K : Type 0} (cmp : K → K → Ordering) (matching : K → K → Bool) (s t : Fabric K) (said_ : List (Sent K)) : Type 0 where
  pub one : ℕ
  pub two : ℕ
  pub node1 : Node K
  pub node2 : Node K
  pub call1 : PlainCall K
  pub call2 : PlainCall K
  pub places1 : List Place
  pub places2 : List Place
  pub face1 : ℕ
  pub face2 : ℕ
  pub opens1 : opens_face call1 ≡ true
  pub opens2 : opens_face call2 ≡ true
  pub at1 : nth one s.gateways ≡ Some node1
  pub at2 : nth two s.gateways ≡ Some node2
  pub said_is : said_ ≡ map (printed places1 one) (said cmp matching call1 node1.rows) ++ (map (printed places2 two) (said cmp matching call2 node2.rows) ++ [])
  pub gateways_are : t.gateways ≡ at_nth two (λ (x : Node K). record x { rows = rows_after_call cmp matching call2 x.rows }) (at_nth one (λ (x : Node K). record x { rows = rows_after_call cmp matching call1 x.rows }) s.gateways)
  pub still : nth two (at_nth one (λ (x : Node K). record x { rows = rows_after_call cmp matching call1 x.rows }) s.gateways) ≡ Some node2
  pub waiting_is : t.waiting ≡ added (map (printed places2 two) (said cmp matching call2 node2.rows)) (added (map (printed places1 one) (said cmp matching call1 node1.rows)) s.waiting)
      ++ (face1, printed_for face1 (sorted_by_face said_)) ∷ (face2, printed_for face2 (sorted_by_face said_)) ∷ []

module _ {K : Type 0} (cmp : K → K → Ordering) (matching : K → K → Bool) (total : IsTotalOrder cmp) (s : Fabric K) (fine : FabricIsInOrder cmp matching s) (agree : TreesAgree cmp matching s) (one two first back : ℕ) (real1 : 1 ≤ first) (real2 : 1 ≤ back) (a b : Node K) (at_one : nth one s.gateways ≡ Some a) (at_two : nth two s.gateways ≡ Some b)
    (r1 r2 : Region) (b1 b2 : Bound) (given1 : end_region a b ≡ Ok (r1, b1)) (given2 : end_region b a ≡ Ok (r2, b2)) (apart : two ≢ one) where
  abbrev pub c1 : PlainCall K
  c1 = NewTransport b.rows.zid b.rows.mode r1 b1 first

  abbrev pub c2 : PlainCall K
  c2 = NewTransport a.rows.zid a.rows.mode r2 b2 back

  abbrev e1 : LinkEnd K
  e1 = record { gateway = one; node = a; beyond = two; other = b; first = first }

  abbrev e2 : LinkEnd K
  e2 = record { gateway = two; node = b; beyond = one; other = a; first = back }

  abbrev A1 : CallAt K
  A1 = record { gateway = one; rows = a.rows; call = c1 }

  abbrev A2 : CallAt K
  A2 = record { gateway = two; rows = b.rows; call = c2 }

  abbrev M1 : List (Sent K)
  M1 = map (printed (with_place one s).faces one) (said cmp matching c1 a.rows)

  prints1 : PrintsSends (with_place one s).faces one (said cmp matching c1 a.rows) M1
  prints1 = prints_map (with_place one s).faces one (said cmp matching c1 a.rows)

  made1 : Each (λ f. f.number ≤ a.rows.made) a.rows.faces
  made1 = (gateway_in_order cmp matching s one a at_one fine).rows.lists.faces_made

  module _ (tree1 : IsTreeGateway cmp matching (rows_after_call cmp matching c1 a.rows)) (tree2 : IsTreeGateway cmp matching (rows_after_call cmp matching c2 b.rows)) where
    -- ---- the first face is opened, and then the second

    abbrev t1 : Fabric K
    t1 = after_opened cmp matching total s fine agree one a at_one c1 refl M1 prints1

    agree1 : TreesAgree cmp matching t1
    agree1 = trees_after_opened cmp matching total s fine agree one a at_one c1 refl M1 prints1 tree1

    fine1 : FabricIsInOrder cmp matching t1
    fine1 =
        let order = in_order_opened cmp matching total one a c1 s M1 prints1 at_one refl real1 fine in
        let waiting_too : FabricIsInOrder cmp matching (with_waiting M1 (after_hearing cmp M1 (with_rows one (altered cmp matching c1) (with_place one s)))) = record { gateways = order.gateways; places_exist = order.places_exist } in
        subst (FabricIsInOrder cmp matching) (opened_is cmp matching total s fine agree one a at_one c1 refl M1 prints1) waiting_too

    abbrev change1 : Node K → Node K
    change1 = changes cmp matching total s fine agree one a at_one c1 refl M1 prints1

    at_two1 : nth two t1.gateways ≡ Some b
    at_two1 = nth_other two one change1 s.gateways b (nth_real one s.gateways a at_one) apart at_two

    made2 : Each (λ f. f.number ≤ b.rows.made) b.rows.faces
    made2 = (gateway_in_order cmp matching s two b at_two fine).rows.lists.faces_made

    abbrev M2 : List (Sent K)
    M2 = map (printed (with_place two t1).faces two) (said cmp matching c2 b.rows)

    prints2 : PrintsSends (with_place two t1).faces two (said cmp matching c2 b.rows) M2
    prints2 = prints_map (with_place two t1).faces two (said cmp matching c2 b.rows)

    abbrev t2 : Fabric K
    t2 = after_opened cmp matching total t1 fine1 agree1 two b at_two1 c2 refl M2 prints2

    agree2 : TreesAgree cmp matching t2
    agree2 = trees_after_opened cmp matching total t1 fine1 agree1 two b at_two1 c2 refl M2 prints2 tree2

    abbrev change2 : Node K → Node K
    change2 = changes cmp matching total t1 fine1 agree1 two b at_two1 c2 refl M2 prints2

    -- ---- the two faces

    abbrev k : ℕ
    k = length s.faces + 1

    abbrev P1 : Place
    P1 = record { gateway = one; face = next_face (nth one s.gateways) }

    abbrev P2 : Place
    P2 = record { gateway = two; face = next_face (nth two t1.gateways) }

    abbrev f1 : Face K
    f1 = heard_all cmp a.rows.moment (messages_for (a.rows.made + 1) (said cmp matching c1 a.rows)) (fresh cmp matching b.rows.zid b.rows.mode r1 b1 first a.rows made1)

    abbrev f2 : Face K
    f2 = heard_all cmp b.rows.moment (messages_for (b.rows.made + 1) (said cmp matching c2 b.rows)) (fresh cmp matching a.rows.zid a.rows.mode r2 b2 back b.rows made2)

    abbrev x : FaceAt K
    x = record { gateway = one; rows = (change1 a).rows; face = f1 }

    abbrev y : FaceAt K
    y = record { gateway = two; rows = (change2 b).rows; face = f2 }

    longer : length (s.faces ++ P1 ∷ []) ≡ k
    longer = omega (arith, length-append s.faces (P1 ∷ []))

    x_is : face_numbered t2 k ≡ Some x
    x_is =
        numbered t2 k P1 (change1 a) f1 (nth_front k (s.faces ++ P1 ∷ []) (P2 ∷ []) P1 (nth_last s.faces P1))
        (nth_other one two change2 t1.gateways (change1 a) (nth_real two t1.gateways b at_two1) (λ is. apart (sym is)) (nth-at_nth one change1 s.gateways a at_one))
        (ap (λ n. find_face n (rows_after_call cmp matching c1 a.rows)) (ap next_face at_one) ∙ fresh_heard cmp matching b.rows.zid b.rows.mode r1 b1 first a.rows made1)

    y_is : face_numbered t2 (k + 1) ≡ Some y
    y_is =
        numbered t2 (k + 1) P2 (change2 b) f2 (ap (λ n. nth (n + 1) t2.faces) (sym longer) ∙ nth_last (s.faces ++ P1 ∷ []) P2) (nth-at_nth two change2 t1.gateways b at_two1)
        (ap (λ n. find_face n (rows_after_call cmp matching c2 b.rows)) (ap next_face at_two1) ∙ fresh_heard cmp matching a.rows.zid a.rows.mode r2 b2 back b.rows made2)

    x_region : is_north f1.region ≡ is_north r1
    x_region = ap is_north (heard_all-region cmp a.rows.moment (messages_for (a.rows.made + 1) (said cmp matching c1 a.rows)) (fresh cmp matching b.rows.zid b.rows.mode r1 b1 first a.rows made1))

    y_region : is_north f2.region ≡ is_north r2
    y_region = ap is_north (heard_all-region cmp b.rows.moment (messages_for (b.rows.made + 1) (said cmp matching c2 b.rows)) (fresh cmp matching a.rows.zid a.rows.mode r2 b2 back b.rows made2))

    -- ---- what waits for them

    abbrev ms : List (Sent K)
    ms = sorted_by_face (M1 ++ (M2 ++ []))

    printed_both : (n : ℕ) → printed_for n ms ≡ printed_for n M1 ++ printed_for n M2
    printed_both n = printed_sorted n (M1 ++ (M2 ++ [])) ∙ printed_for-append n M1 (M2 ++ []) ∙ ap (λ xs. printed_for n M1 ++ printed_for n xs) (append-nil M2)

    places1 : Each (λ p. p.face < a.rows.made + 1) (places_of one s.faces)
    places1 = each_weaker (λ (p : Place). p.face ≤ a.rows.made) (λ p. p.face < a.rows.made + 1) (λ p le. omega arith) (places_of one s.faces) (gateway_in_order cmp matching s one a at_one fine).places_made

    number1 : number_from 1 one (a.rows.made + 1) (s.faces ++ P1 ∷ []) ≡ k
    number1 =
        let is = number_new 1 one (a.rows.made + 1) s.faces (not_placed_yet one (a.rows.made + 1) s.faces places1) in
        let all : 1 + length s.faces ≡ length s.faces + 1 = omega arith in
        ap (λ n. number_from 1 one (a.rows.made + 1) (s.faces ++ record { gateway = one; face = n } ∷ [])) (ap next_face at_one) ∙ is ∙ all

    placed1 : is_placed one (a.rows.made + 1) (s.faces ++ P1 ∷ []) ≡ true
    placed1 = subst (λ n. is_placed one (a.rows.made + 1) (s.faces ++ record { gateway = one; face = n } ∷ []) ≡ true) (sym (ap next_face at_one)) (placed_new one (a.rows.made + 1) s.faces)

    places2 : Each (λ p. p.face < b.rows.made + 1) (places_of two t1.faces)
    places2 = each_weaker (λ (p : Place). p.face ≤ b.rows.made) (λ p. p.face < b.rows.made + 1) (λ p le. omega arith) (places_of two t1.faces) (gateway_in_order cmp matching t1 two b at_two1 fine1).places_made

    number2 : number_from 1 two (b.rows.made + 1) (t1.faces ++ P2 ∷ []) ≡ k + 1
    number2 =
        let is = number_new 1 two (b.rows.made + 1) t1.faces (not_placed_yet two (b.rows.made + 1) t1.faces places2) in
        let all : 1 + length t1.faces ≡ k + 1 = omega (arith, longer) in
        ap (λ n. number_from 1 two (b.rows.made + 1) (t1.faces ++ record { gateway = two; face = n } ∷ [])) (ap next_face at_two1) ∙ is ∙ all

    placed2 : is_placed two (b.rows.made + 1) (t1.faces ++ P2 ∷ []) ≡ true
    placed2 = subst (λ n. is_placed two (b.rows.made + 1) (t1.faces ++ record { gateway = two; face = n } ∷ []) ≡ true) (sym (ap next_face at_two1)) (placed_new two (b.rows.made + 1) t1.faces)

    queue1 : printed_for k ms ≡ messages_for (a.rows.made + 1) (said cmp matching c1 a.rows)
    queue1 =
        let own : printed_for k M1 ≡ messages_for (a.rows.made + 1) (said cmp matching c1 a.rows) = ap (λ n. printed_for n M1) (sym number1) ∙ prints1.own (a.rows.made + 1) placed1 in
        let other : printed_for k M2 ≡ [] = ap (λ n. printed_for n M2) (sym (number_still 1 one (a.rows.made + 1) t1.faces P2 placed1 ∙ number1)) ∙ prints2.other one (a.rows.made + 1) (λ is. apart (sym is)) (placed_still one (a.rows.made + 1) t1.faces P2 placed1) in
        printed_both k ∙ ap (λ xs. xs ++ printed_for k M2) own ∙ ap (λ xs. messages_for (a.rows.made + 1) (said cmp matching c1 a.rows) ++ xs) other ∙ append-nil (messages_for (a.rows.made + 1) (said cmp matching c1 a.rows))

    opening1 : opening_at cmp matching s e1 ≡ Some A1
    opening1 =
        ap (λ (o : RegionAnswer). (let at : Option (CallAt K) = elim (let c : Option (PlainCall K) = elim o [ Ok given ↦ Some (NewTransport b.rows.zid b.rows.mode given.0 given.1 first) | Err e ↦ None ] in c) [ None ↦ None | Some call ↦ call_at s one call ] in at)) given1
        ∙ ap (λ (o : Option (Node K)). (let at : Option (CallAt K) = elim o [ None ↦ None | Some node ↦ Some (record { gateway = one; rows = node.rows; call = c1 }) ] in at)) at_one

    within1 : Each (λ m. m.face ≤ k) M1
    within1 =
        subst (λ n. Each (λ (m : Sent K). m.face ≤ n) M1) longer
        (subst (λ at. Each (λ m. m.face ≤ length (opened_at cmp matching at s).faces) (said_at cmp matching (opened_at cmp matching at s) at)) opening1 (said_within cmp matching total e1 s))

    queue2 : printed_for (k + 1) ms ≡ messages_for (b.rows.made + 1) (said cmp matching c2 b.rows)
    queue2 =
        let own : printed_for (k + 1) M2 ≡ messages_for (b.rows.made + 1) (said cmp matching c2 b.rows) = ap (λ n. printed_for n M2) (sym number2) ∙ prints2.own (b.rows.made + 1) placed2 in
        let other : printed_for (k + 1) M1 ≡ [] = printed_none (k + 1) M1 (each_weaker (λ m. m.face ≤ k) (λ m. m.face < k + 1) (λ m le. omega arith) M1 within1) in
        printed_both (k + 1) ∙ ap (λ xs. xs ++ printed_for (k + 1) M2) other ∙ own

    -- ---- they agree

    abbrev said1 : List (Message K)
    said1 = messages_for (a.rows.made + 1) (said cmp matching c1 a.rows)

    abbrev said2 : List (Message K)
    said2 = messages_for (b.rows.made + 1) (said cmp matching c2 b.rows)

    tree_a : IsTreeGateway cmp matching a.rows
    tree_a = each_nth (λ (node : Node K). IsTreeGateway cmp matching node.rows) one s.gateways a agree.gateways at_one

    tree_b : IsTreeGateway cmp matching b.rows
    tree_b = each_nth (λ (node : Node K). IsTreeGateway cmp matching node.rows) two s.gateways b agree.gateways at_two

    silent1 : is_north r1 ≡ false → said1 ≡ []
    unfolding messages_for
    silent1 down = ap (messages_for (a.rows.made + 1)) (nothing_said cmp matching b.rows.zid b.rows.mode r1 b1 first a.rows made1 down)

    silent2 : is_north r2 ≡ false → said2 ≡ []
    unfolding messages_for
    silent2 down = ap (messages_for (b.rows.made + 1)) (nothing_said cmp matching a.rows.zid a.rows.mode r2 b2 back b.rows made2 down)

    first_below : is_north r1 ≡ true → is_north r2 ≡ false → a.rows.mode ≡ Client → JointAgrees cmp f1 f2 (printed_for k ms) (printed_for (k + 1) ms)
    first_below up down client =
        let is = fresh_below cmp matching a.rows.zid a.rows.mode r2 b2 back b.rows made2 down in
        let own = fresh_agrees_above cmp matching total b.rows.zid b.rows.mode r1 b1 first a.rows made1 (fresh cmp matching a.rows.zid a.rows.mode r2 b2 back b.rows made2) up client real1 tree_a (gateway_in_order cmp matching s one a at_one fine).rows refl refl refl refl in
        subst (λ xs. JointAgrees cmp f1 f2 xs (printed_for (k + 1) ms)) (sym queue1)
        (subst (λ xs. JointAgrees cmp f1 f2 said1 xs) (sym (queue2 ∙ silent2 down))
        (subst (λ f. JointAgrees cmp f1 f said1 []) (sym is) own))

    second_below : is_north r1 ≡ false → is_north r2 ≡ true → b.rows.mode ≡ Client → JointAgrees cmp f2 f1 (printed_for (k + 1) ms) (printed_for k ms)
    second_below down up client =
        let is = fresh_below cmp matching b.rows.zid b.rows.mode r1 b1 first a.rows made1 down in
        let own = fresh_agrees_above cmp matching total a.rows.zid a.rows.mode r2 b2 back b.rows made2 (fresh cmp matching b.rows.zid b.rows.mode r1 b1 first a.rows made1) up client real2 tree_b (gateway_in_order cmp matching s two b at_two fine).rows refl refl refl refl in
        subst (λ xs. JointAgrees cmp f2 f1 xs (printed_for k ms)) (sym queue2)
        (subst (λ xs. JointAgrees cmp f2 f1 said2 xs) (sym (queue1 ∙ silent1 down))
        (subst (λ f. JointAgrees cmp f2 f said2 []) (sym is) own))

    -- ---- the line comes to this

    abbrev o1 : Fabric K
    o1 = with_rows one (rows_after_call cmp matching c1) (with_place one s)

    abbrev o2 : Fabric K
    o2 = with_rows two (rows_after_call cmp matching c2) (with_place two o1)

    abbrev ends : List (LinkEnd K)
    ends = e1 ∷ e2 ∷ []

    opened1 : after_opening cmp matching (opening_at cmp matching s e1) s ≡ o1
    opened1 =
        ap (λ at. after_opening cmp matching at s) opening1
        ∙ ap (λ (t : Fabric K). record t { waiting = s.waiting }) (opened_is cmp matching total s fine agree one a at_one c1 refl M1 prints1)

    opening2 : opening_at cmp matching o1 e2 ≡ Some A2
    opening2 =
        ap (λ (o : RegionAnswer). (let at : Option (CallAt K) = elim (let c : Option (PlainCall K) = elim o [ Ok given ↦ Some (NewTransport a.rows.zid a.rows.mode given.0 given.1 back) | Err e ↦ None ] in c) [ None ↦ None | Some call ↦ call_at o1 two call ] in at)) given2
        ∙ ap (λ (o : Option (Node K)). (let at : Option (CallAt K) = elim o [ None ↦ None | Some node ↦ Some (record { gateway = two; rows = node.rows; call = c2 }) ] in at)) at_two1

    opened2 : after_opening cmp matching (opening_at cmp matching o1 e2) o1 ≡ o2
    unfolding gateways_after_hearing
    opened2 =
        ap (λ at. after_opening cmp matching at o1) opening2
        ∙ ap (λ (t : Fabric K). record t { waiting = s.waiting }) (opened_is cmp matching total t1 fine1 agree1 two b at_two1 c2 refl M2 prints2)

    order1 : FabricIsInOrder cmp matching o1
    order1 = record { gateways = fine1.gateways; places_exist = fine1.places_exist }

    -- an end is opened, and then others
    end_then : (end : LinkEnd K) (others : List (LinkEnd K)) (X Y : Fabric K) → 1 ≤ end.first → Each (λ e. 1 ≤ e.first) others → FabricIsInOrder cmp matching X → after_opening cmp matching (opening_at cmp matching X end) X ≡ Y
        → after_hearing cmp (said_opening cmp matching (end ∷ others) X) (opened_ends cmp matching (end ∷ others) X) ≡ after_hearing cmp (said_opening cmp matching others Y) (opened_ends cmp matching others Y)
    unfolding opened_ends said_opening
    end_then end others X Y real more order is =
        let at = opening_at cmp matching X end in
        let Z = opened_at cmp matching at X in
        let said_ = said_at cmp matching Z at in
        let H = after_hearing cmp said_ Z in
        let alone = end_alone cmp matching total end X real order in
        after_hearing-append cmp said_ (said_opening cmp matching others H) (opened_ends cmp matching others Z)
        ∙ ap (after_hearing cmp (said_opening cmp matching others H)) (ends_commute cmp matching total others said_ Z more alone.0 (said_within cmp matching total end X))
        ∙ ap (λ W. after_hearing cmp (said_opening cmp matching others W) (opened_ends cmp matching others W)) is

    both_opened : after_hearing cmp (said_opening cmp matching ends s) (opened_ends cmp matching ends s) ≡ o2
    unfolding opened_ends said_opening
    both_opened = end_then e1 (e2 ∷ []) s o1 real1 (real2, tt) fine opened1 ∙ end_then e2 [] o1 o2 real2 tt order1 opened2 ∙ after_hearing_nothing cmp o2

    said_is : said_opening cmp matching ends s ≡ M1 ++ (M2 ++ [])
    unfolding said_opening
    said_is =
        ap (λ at. said_at cmp matching (opened_at cmp matching at s) at ++ said_opening cmp matching (e2 ∷ []) (after_opening cmp matching (opening_at cmp matching s e1) s)) opening1
        ∙ ap (λ X. M1 ++ (said_at cmp matching (opened_at cmp matching (opening_at cmp matching X e2) X) (opening_at cmp matching X e2) ++ [])) opened1
        ∙ ap (λ at. M1 ++ (said_at cmp matching (opened_at cmp matching at o1) at ++ [])) opening2

    abbrev L : Link
    L = record { one = k; two = k + 1; is_open = true }

    abbrev Q : ById (List (Message K))
    Q = (k, printed_for k ms) ∷ (k + 1, printed_for (k + 1) ms) ∷ []

    abbrev t3 : Fabric K
    t3 = record t2 { links = s.links ++ L ∷ []; waiting = t2.waiting ++ Q }

    queues_are : added ms (s.waiting ++ (k, []) ∷ (k + 1, []) ∷ []) ≡ t2.waiting ++ Q
    queues_are =
        map-append (λ row. (row.0, row.1 ++ printed_for row.0 ms)) s.waiting ((k, []) ∷ (k + 1, []) ∷ [])
        ∙ ap (λ w. w ++ Q) (queues_same ms M1 M2 s.waiting (each_always (λ row. printed_for row.0 ms ≡ printed_for row.0 M1 ++ printed_for row.0 M2) (λ row. printed_both row.0) s.waiting))

    heard_elsewhere : (xs : List (Sent K)) (Y : Fabric K) (links : List Link) (w : ById (List (Message K))) → after_hearing cmp xs (record Y { links = links; waiting = w }) ≡ record (after_hearing cmp xs Y) { links = links; waiting = w }
    unfolding gateways_after_hearing
    heard_elsewhere xs Y links w = refl

    abbrev pub line : PlainLine K
    line = LinkLine one two first back

    abbrev pub Then : Fabric K
    Then = with_waiting (sorted_by_face (said_by_line cmp matching line s)) (after_hearing cmp (sorted_by_face (said_by_line cmp matching line s)) (altered_by_line cmp matching line s))

    then_is : Then ≡ t3
    unfolding said_by_line altered_by_line
    then_is =
        let ends_are : link_ends s one two first back ≡ ends =
        ap (λ (o : Option (Node K)). (let es : List (LinkEnd K) = elim o [ None ↦ [] | Some p ↦ elim (nth two s.gateways) [ None ↦ [] | Some q ↦ record { gateway = one; node = p; beyond = two; other = q; first = first } ∷ record { gateway = two; node = q; beyond = one; other = p; first = back } ∷ [] ] ] in es)) at_one
        ∙ ap (λ (o : Option (Node K)). (let es : List (LinkEnd K) = elim o [ None ↦ [] | Some q ↦ record { gateway = one; node = a; beyond = two; other = q; first = first } ∷ record { gateway = two; node = q; beyond = one; other = a; first = back } ∷ [] ] in es)) at_two in
        let linked = with_link s in
        let said_of = λ (es : List (LinkEnd K)). sorted_by_face (said_opening cmp matching es s) in
        let all = said_opening cmp matching ends s in
        ap (λ es. with_waiting (said_of es) (after_hearing cmp (said_of es) (opened_ends cmp matching es linked))) ends_are
        ∙ ap (λ Y. with_waiting (said_of ends) (after_hearing cmp (said_of ends) Y)) (opened_elsewhere cmp matching total ends linked.links linked.waiting s)
        ∙ ap (with_waiting (said_of ends)) (heard_elsewhere (said_of ends) (opened_ends cmp matching ends s) linked.links linked.waiting)
        ∙ ap (λ (Y : Fabric K). with_waiting (said_of ends) (record Y { links = linked.links; waiting = linked.waiting })) (hearing_alike cmp (said_of ends) all (opened_ends cmp matching ends s) (λ n. printed_sorted n all) ∙ both_opened)
        ∙ ap (λ xs. with_waiting (sorted_by_face xs) (record o2 { links = linked.links; waiting = linked.waiting })) said_is
        ∙ ap (λ (w : ById (List (Message K))). record o2 { links = linked.links; waiting = w }) queues_are

    line_said : said_by_line cmp matching line s ≡ M1 ++ (M2 ++ [])
    unfolding said_by_line
    line_said =
        let ends_are : link_ends s one two first back ≡ ends =
        ap (λ (o : Option (Node K)). (let es : List (LinkEnd K) = elim o [ None ↦ [] | Some p ↦ elim (nth two s.gateways) [ None ↦ [] | Some q ↦ record { gateway = one; node = p; beyond = two; other = q; first = first } ∷ record { gateway = two; node = q; beyond = one; other = p; first = back } ∷ [] ] ] in es)) at_one
        ∙ ap (λ (o : Option (Node K)). (let es : List (LinkEnd K) = elim o [ None ↦ [] | Some q ↦ record { gateway = one; node = a; beyond = two; other = q; first = first } ∷ record { gateway = two; node = q; beyond = one; other = a; first = back } ∷ [] ] in es)) at_two in
        ap (λ es. said_opening cmp matching es s) ends_are ∙ said_is

    -- what the line comes to
    pub link_is : LinkIs cmp matching s Then (said_by_line cmp matching line s)
    link_is = record {
      one = one;
      two = two;
      node1 = a;
      node2 = b;
      call1 = c1;
      call2 = c2;
      places1 = (with_place one s).faces;
      places2 = (with_place two t1).faces;
      face1 = k;
      face2 = k + 1;
      opens1 = refl;
      opens2 = refl;
      at1 = at_one;
      at2 = at_two;
      said_is = line_said;
      gateways_are = ap (λ (t : Fabric K). t.gateways) then_is;
      still = at_two1;
      waiting_is = ap (λ (t : Fabric K). t.waiting) then_is ∙ ap (λ xs. t2.waiting ++ (k, printed_for k (sorted_by_face xs)) ∷ (k + 1, printed_for (k + 1) (sorted_by_face xs)) ∷ []) (sym line_said);
    }

    -- ---- all of it is kept

    -- a face that was there, in the fabric in which both are opened
    seen_there : (n : ℕ) (z u : FaceAt K) → face_numbered s n ≡ Some z → face_numbered t2 n ≡ Some u → (u.gateway ≡ z.gateway) × (u.face ≡ z.face)
    seen_there n z u z_is u_is =
        let first_ = seen cmp matching total s fine agree one a at_one c1 refl M1 prints1 n z z_is in
        let second_ = seen cmp matching total t1 fine1 agree1 two b at_two1 c2 refl M2 prints2 n first_.0 first_.1.0 in
        let is : u ≡ second_.0 = the_one (sym u_is ∙ second_.1.0) in
        (ap (λ (v : FaceAt K). v.gateway) is ∙ second_.1.2 ∙ first_.1.2, ap (λ (v : FaceAt K). v.face) is ∙ second_.1.1 ∙ first_.1.1)

    old_step : (n m : ℕ) (u v : FaceAt K) → are_joined s n m ≡ true → face_numbered t2 n ≡ Some u → face_numbered t2 m ≡ Some v → is_north u.face.region ≡ true → StepUp s u.gateway v.gateway × (1 ≤ v.gateway) × (v.gateway ≤ length s.gateways)
    old_step n m u v joined u_is v_is up =
        let both = agree.links.meet n m joined in
        let su = seen_there n both.one u both.one_is u_is in
        let sv = seen_there m both.two v both.two_is v_is in
        let there = is_there s m both.two both.two_is in (
          record { a = n; b = m; x = both.one; y = both.two; joined = joined; x_is = both.one_is; y_is = both.two_is; up = ap (λ (f : Face K). is_north f.region) (sym su.1) ∙ up; start = sym su.0; end_ = sym sv.0 },
          subst (λ g. 1 ≤ g) (sym sv.0) (nth_real both.two.gateway s.gateways there.node there.node_is),
          subst (λ g. g ≤ length s.gateways) (sym sv.0) (nth_within both.two.gateway s.gateways there.node there.node_is),
        )

    same_length : length t2.gateways ≡ length s.gateways
    same_length = length-at_nth two change2 t1.gateways ∙ length-at_nth one change1 s.gateways

    long : length t2.faces ≡ k + 1
    long = length-append t1.faces (P2 ∷ []) ∙ ap (λ n. n + 1) longer

    below : Each (λ (link : Link). link.two < k) s.links
    below = each_weaker (λ (link : Link). (link.one ≤ length s.faces) × (link.two ≤ length s.faces)) (λ link. link.two < k) (λ link le. let two_ : link.two ≤ length s.faces = le.1 in omega arith) s.links agree.links.made

    rows_below : Each (λ row. row.0 < k) t2.waiting
    rows_below =
        each_map (λ (row : ℕ × List (Message K)). row.0 < k) (λ row. (row.0, row.1 ++ printed_for row.0 M2)) t1.waiting
        (each_map (λ (row : ℕ × List (Message K)). row.0 < k) (λ row. (row.0, row.1 ++ printed_for row.0 M1)) s.waiting (each_weaker (λ row. row.0 ≤ length s.faces) (λ row. row.0 < k) (λ row le. omega arith) s.waiting agree.links.rows))

    module _ (one_up : is_north r2 ≡ not (is_north r1)) (x_low : is_north r1 ≡ true → JointAgrees cmp f1 f2 (printed_for k ms) (printed_for (k + 1) ms)) (y_low : is_north r2 ≡ true → JointAgrees cmp f2 f1 (printed_for (k + 1) ms) (printed_for k ms))
        (child parent : ℕ) (low : climbs_to (length s.gateways) s parent child ≡ false) (real : 1 ≤ parent) (within : parent ≤ length s.gateways) (x_up : is_north r1 ≡ true → (one ≡ child) × (two ≡ parent)) (y_up : is_north r2 ≡ true → (two ≡ child) × (one ≡ parent)) where
      one_up_too : is_north f2.region ≡ not (is_north f1.region)
      one_up_too = y_region ∙ one_up ∙ ap not (sym x_region)

      abbrev both_joined : Fabric K
      both_joined = joined_fabric cmp matching t2 agree2 k long below rows_below (omega arith) (printed_for k ms) (printed_for (k + 1) ms) x y x_is y_is one_up_too (λ up. x_low (sym x_region ∙ up)) (λ up. y_low (sym y_region ∙ up))

      forest : IsForest both_joined
      unfolding face_numbered
      forest = record {
        rank = new_rank cmp matching s fine agree child parent low;
        within = λ g. subst (λ n. new_rank cmp matching s fine agree child parent low g ≤ n) (sym same_length) (new_within cmp matching s fine agree child parent low g);
        falls = λ n m u v joined u_is v_is up.
            ⊎_elim
            (λ old. let step = old_step n m u v old u_is v_is up in new_step cmp matching s fine agree child parent low u.gateway v.gateway step.1 step.2 step.0)
            (λ is_new.
            ⊎_elim
            (λ straight.
            let u_same : x ≡ u = the_one (sym x_is ∙ ap (face_numbered t2) (sym straight.0) ∙ u_is) in
            let v_same : y ≡ v = the_one (sym y_is ∙ ap (face_numbered t2) (sym straight.1) ∙ v_is) in
            let gs = x_up (sym x_region ∙ ap (λ (w : FaceAt K). is_north w.face.region) u_same ∙ up) in
            lower_first u v (ap (λ (w : FaceAt K). w.gateway) (sym u_same) ∙ gs.0) (ap (λ (w : FaceAt K). w.gateway) (sym v_same) ∙ gs.1))
            (λ crossed.
            let u_same : y ≡ u = the_one (sym y_is ∙ ap (face_numbered t2) (sym crossed.0) ∙ u_is) in
            let v_same : x ≡ v = the_one (sym x_is ∙ ap (face_numbered t2) (sym crossed.1) ∙ v_is) in
            let gs = y_up (sym y_region ∙ ap (λ (w : FaceAt K). is_north w.face.region) u_same ∙ up) in
            lower_first u v (ap (λ (w : FaceAt K). w.gateway) (sym u_same) ∙ gs.0) (ap (λ (w : FaceAt K). w.gateway) (sym v_same) ∙ gs.1))
            is_new)
            (old_or_new cmp matching t2 agree2 k long below rows_below (omega arith) (printed_for k ms) (printed_for (k + 1) ms) x y x_is y_is one_up_too (λ up_. x_low (sym x_region ∙ up_)) (λ up_. y_low (sym y_region ∙ up_)) n m joined);
      }
        where
          lower_first : (u v : FaceAt K) → u.gateway ≡ child → v.gateway ≡ parent → new_rank cmp matching s fine agree child parent low v.gateway < new_rank cmp matching s fine agree child parent low u.gateway
          lower_first u v u_is v_is =
              subst (λ g. new_rank cmp matching s fine agree child parent low v.gateway < new_rank cmp matching s fine agree child parent low g) (sym u_is)
              (subst (λ g. new_rank cmp matching s fine agree child parent low g < new_rank cmp matching s fine agree child parent low child) (sym v_is) (new_link cmp matching s fine agree child parent low real within))

      trees_after_link : TreesAgree cmp matching Then
      trees_after_link = subst (TreesAgree cmp matching) (sym then_is) (joined_agrees cmp matching t2 agree2 k long below rows_below (omega arith) (printed_for k ms) (printed_for (k + 1) ms) x y x_is y_is one_up_too (λ up. x_low (sym x_region ∙ up)) (λ up. y_low (sym y_region ∙ up)) forest)

    -- the first end leads up
    pub first_leads_up : is_north r1 ≡ true → is_north r2 ≡ false → a.rows.mode ≡ Client → climbs_to (length s.gateways) s two one ≡ false → TreesAgree cmp matching Then
    first_leads_up up down client low =
        trees_after_link (down ∙ ap not (sym up)) (λ _. first_below up down client) (λ up2. never up2 down) one two low (nth_real two s.gateways b at_two) (nth_within two s.gateways b at_two) (λ _. (refl, refl)) (λ up2. never up2 down)

    -- the second does
    pub second_leads_up : is_north r1 ≡ false → is_north r2 ≡ true → b.rows.mode ≡ Client → climbs_to (length s.gateways) s one two ≡ false → TreesAgree cmp matching Then
    second_leads_up down up client low =
        trees_after_link (up ∙ ap not (sym down)) (λ up1. never up1 down) (λ _. second_below down up client) two one low (nth_real one s.gateways a at_one) (nth_within one s.gateways a at_one) (λ up1. never up1 down) (λ _. (refl, refl))
