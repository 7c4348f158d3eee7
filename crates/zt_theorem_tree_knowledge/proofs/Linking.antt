-- A link line of a script of trees: one of its ends leads up, at a client gateway that doesn't lie above the other.
use Rattle.std.proofs.Common.{◌≡◌, ◌≢◌, ℕ, ◌+◌, ◌≤◌, Bool, true, false, ◌&&◌, ◌||◌, not, nat_le, List, [], ◌∷◌, length, Option, Some, None, is_none, option_map, Ok, Err, Result, refl, sym, ap, ◌∙◌, subst}
use Rattle.std.proofs.lemmas.Bool.{and_from, or_left, or_right}
use Rattle.std.specs.Cmp.{IsTotalOrder}
use Rattle.std.specs.List.{list_any}
use Rattle.std.specs.Result.{result_map_both}
use Rattle.std.specs.declared.cmp.Ordering.{Ordering}
use Rattle.std.specs.declared.cmp.Ordering.TheVariants.{Equal}
use Rattle.zt_region.specs.declared.region.Bound.{Bound}
use Rattle.zt_region.specs.declared.region.Bound.TheVariants.{North as NorthBound, South as SouthBound}
use Rattle.zt_region.specs.declared.region.Region.{Region}
use Rattle.zt_region.specs.declared.region.Region.TheVariants.{North, South}
use Rattle.zt_region.specs.declared.region.RegionError.{RegionError}
use Rattle.zt_region.specs.declared.region.WhatAmI.TheVariants.{Client}
use Rattle.zt_region.specs.Region.{bound_eq, bound_of, is_north, region_eq-same, whatami_eq}
use Rattle.zt_region.specs.South.{transient_region}
use Rattle.zt_region.specs.Tables.{RegionAnswer, agreed_after}
use Rattle.zt_protocol.specs.Plain.{NewTransport, PlainLine, Link as LinkLine}
use Rattle.zt_protocol.specs.declared.errors.Refusal.TheVariants as refusal
use Rattle.zt_model.specs.Fabric.{Fabric, Node, after_hearing, altered_by_line, line_causes, is_full, is_unknown_gateway, said_by_line, sorted_by_face, with_waiting}
use Rattle.zt_model.specs.Hat.{hat_of, north_hat}
use Rattle.zt_model.specs.Linking.{LinkEnd, climbs_to, closes_loop, end_region, is_answer, is_end, is_refused_end, link_ends, peer_of}
use Rattle.zt_model.specs.Lists.{nth}
use Rattle.zt_model.specs.Refusals.{GREATEST_NUMBER, first_cause, is_north_taken}
use Rattle.zt_model.specs.Strategy.{is_region_of}
use Rattle.zt_model.specs.TreePromises.{is_client_region}
use Rattle.zt_model.proofs.Hats.{north_taken_is}
use Rattle.zt_laws.specs.Order.{FabricIsInOrder}
use Rattle.zt_laws.specs.Sound.{rows_after_call}
use Rattle.zt_laws.proofs.Calls.{no_cause}
use Rattle.zt_laws.proofs.Lists.{by_test, each_fails, never}
use Rattle.zt_laws.proofs.LinesOrder.{gateway_in_order}
use Rattle.zt_theorem_tree_invariant.specs.Facts.{IsTreeGateway, TreesAgree}
use Rattle.zt_theorem_tree_invariant.specs.Trees.{FacesFormTrees}
use Rattle.zt_theorem_tree_invariant.proofs.Members.{each_nth}
use Rattle.zt_theorem_tree_knowledge.proofs.Opening.{tree_after_north, tree_after_south}
use Rattle.zt_theorem_tree_knowledge.proofs.Both.{EndFacts, facts_alone, facts_apart}
use Rattle.zt_theorem_tree_knowledge.proofs.LineCalls.{the_one}
use Rattle.zt_theorem_tree_knowledge.proofs.Linked.{LinkIs, first_leads_up, link_is, second_leads_up}
use Rattle.zt_theorem_tree_knowledge.proofs.Plain.{IsBelow, is_below, not_false}
use Rattle.zt_theorem_tree_knowledge.proofs.Regions.{given_end, one_up_of_clients}
use Rattle.zt_theorem_tree_knowledge.proofs.Premise.{FacesMayFormTrees, may_by_faces}

not_itself : {G : Type 0} (b : Bool) → b ≡ not b → G
not_itself true h = cc
not_itself false h = cc

or_false : (p q : Bool) → (p || q) ≡ false → (p ≡ false) × (q ≡ false)
or_false true q h = never refl h
or_false false q h = (refl, h)

south_bound : (b : Bound) → bound_eq b SouthBound ≡ true → b ≡ SouthBound
south_bound NorthBound h = cc
south_bound SouthBound h = refl

-- the region of an end is given by both transient regions
region_given : {K : Type 0} (own other : Node K) → end_region own other ≡ given_end own.rows.mode other.rows.mode (transient_region (peer_of other) own.rows.mode own.south) (transient_region (peer_of own) other.rows.mode other.south)
unfolding end_region
region_given own other = cases (transient_region (peer_of own) other.rows.mode other.south)
  where
    mine : Result (Option Region) RegionError
    mine = transient_region (peer_of other) own.rows.mode own.south

    cases : (t : Result (Option Region) RegionError) → (let r : RegionAnswer = elim (result_map_both (option_map bound_of) (λ e. e) t) [ Ok bound ↦ agreed_after own.rows.mode other.rows.mode mine bound | Err e ↦ Err e ] in r) ≡ given_end own.rows.mode other.rows.mode mine t
    cases (Ok theirs) = refl
    cases (Err e) = refl

module _ {K : Type 0} (cmp : K → K → Ordering) (matching : K → K → Bool) (total : IsTotalOrder cmp) (equal_is_same : (a b : K) → cmp a b ≡ Equal → a ≡ b) (s : Fabric K) (fine : FabricIsInOrder cmp matching s) (agree : TreesAgree cmp matching s) (one two first back : ℕ) (real1 : 1 ≤ first) (real2 : 1 ≤ back) where
  abbrev line : PlainLine K
  line = LinkLine one two first back

  abbrev Then : Fabric K
  Then = with_waiting (sorted_by_face (said_by_line cmp matching line s)) (after_hearing cmp (sorted_by_face (said_by_line cmp matching line s)) (altered_by_line cmp matching line s))

  -- what is asked of an end
  record EndFits (own other : Node K) (r : Region) (bound : Bound) (beyond at : ℕ) : Type 0 where
    listed : is_region_of own.rows.regions r ≡ true
    fitting : (hat_of own.rows.mode r).fits r other.rows.mode bound ≡ true
    free : is_north_taken r own.rows ≡ false
    apart : ((north_hat own.rows.mode).has_one_face && (is_north r && climbs_to (length s.gateways) s beyond at)) ≡ false

  module _ (a b : Node K) (at_one : nth one s.gateways ≡ Some a) (at_two : nth two s.gateways ≡ Some b) (r1 r2 : Region) (b1 b2 : Bound) (given1 : end_region a b ≡ Ok (r1, b1)) (given2 : end_region b a ≡ Ok (r2, b2)) (fits1 : EndFits a b r1 b1 two one) (fits2 : EndFits b a r2 b2 one two) (trees : FacesMayFormTrees Then) where
    -- both are clients: one end leads up
    of_clients : a.rows.mode ≡ Client → b.rows.mode ≡ Client → is_north r2 ≡ not (is_north r1)
    of_clients client_a client_b =
        let t1 = transient_region (peer_of b) a.rows.mode a.south in
        let t2 = transient_region (peer_of a) b.rows.mode b.south in
        one_up_of_clients t1 t2 r1 r2 b1 b2
        (subst (λ m. given_end Client m t1 t2 ≡ Ok (r1, b1)) client_b (subst (λ m. given_end m b.rows.mode t1 t2 ≡ Ok (r1, b1)) client_a (sym (region_given a b) ∙ given1)))
        (subst (λ m. given_end Client m t2 t1 ≡ Ok (r2, b2)) client_a (subst (λ m. given_end m a.rows.mode t2 t1 ≡ Ok (r2, b2)) client_b (sym (region_given b a) ∙ given2)))
        (subst (λ m. (hat_of Client r1).fits r1 m b1 ≡ true) client_b (subst (λ m. (hat_of m r1).fits r1 b.rows.mode b1 ≡ true) client_a fits1.fitting))
        (subst (λ m. (hat_of Client r2).fits r2 m b2 ≡ true) client_a (subst (λ m. (hat_of m r2).fits r2 a.rows.mode b2 ≡ true) client_b fits2.fitting))

    below1 : EndFacts a r1 → is_north r1 ≡ false → IsBelow r1 b.rows.mode
    below1 facts down = is_below a.rows.mode r1 b.rows.mode b1 fits1.fitting (facts.serves fits1.listed) down

    below2 : EndFacts b r2 → is_north r2 ≡ false → IsBelow r2 a.rows.mode
    below2 facts down = is_below b.rows.mode r2 a.rows.mode b2 fits2.fitting (facts.serves fits2.listed) down

    one_up : EndFacts a r1 → EndFacts b r2 → is_north r2 ≡ not (is_north r1)
    one_up facts_a facts_b =
        by_test (is_north r1)
        (λ up1. by_test (is_north r2) (λ up2. of_clients (facts_a.client up1) (facts_b.client up2)) (λ down2. down2 ∙ ap not (sym up1)))
        (λ down1. by_test (is_north r2) (λ up2. up2 ∙ ap not (sym down1)) (λ down2. of_clients (below2 facts_b down2).whatami_is (below1 facts_a down1).whatami_is))

    -- so they stand at two gateways
    apart : two ≢ one
    apart same_ =
        let nodes : a ≡ b = the_one (sym at_one ∙ ap (λ n. nth n s.gateways) (sym same_) ∙ at_two) in
        let both : Ok (r1, b1) ≡ Ok (r2, b2) = sym given1 ∙ ap (λ n. end_region n b) nodes ∙ ap (end_region b) (sym nodes) ∙ given2 in
        let regions : r1 ≡ r2 = first_of_pair both in
        let facts_b = facts_alone cmp matching total s fine one two first back real1 real2 a b at_one at_two r1 r2 b1 b2 given1 given2 same_ nodes trees in
        let facts_a : EndFacts a r1 = record { client = λ up. ap (λ (n : Node K). n.rows.mode) nodes ∙ facts_b.client (ap is_north (sym regions) ∙ up); serves = λ listed. ap is_client_region regions ∙ facts_b.serves (ap (λ (n : Node K). is_region_of n.rows.regions r2) (sym nodes) ∙ ap (is_region_of a.rows.regions) (sym regions) ∙ listed) } in
        not_itself (is_north r1) (ap is_north regions ∙ one_up facts_a facts_b)
      where
        first_of_pair : {r q : Region} {c d : Bound} → (let x : RegionAnswer = Ok (r, c) in let y : RegionAnswer = Ok (q, d) in x ≡ y) → r ≡ q
        first_of_pair h = ap (λ (o : RegionAnswer). (let r : Region = elim o [ Ok given ↦ given.0 | Err e ↦ North ] in r)) h

    -- each gateway is one of trees still
    tree_at : (own other : Node K) (n m : ℕ) (at_n : nth n s.gateways ≡ Some own) (r : Region) (bound : Bound) (start : ℕ) → EndFits own other r bound m n → EndFacts own r → IsTreeGateway cmp matching (rows_after_call cmp matching (NewTransport other.rows.zid other.rows.mode r bound start) own.rows)
    tree_at own other n m at_n r bound start end facts =
        let ordered = (gateway_in_order cmp matching s n own at_n fine).rows in
        let tree = each_nth (λ (x : Node K). IsTreeGateway cmp matching x.rows) n s.gateways own agree.gateways at_n in
        by_test (is_north r)
        (λ up.
        let region : r ≡ North = region_eq-same r North up in
        let client = facts.client up in
        let fits_ : (hat_of Client North).fits North other.rows.mode bound ≡ true = subst (λ q. (hat_of Client q).fits q other.rows.mode bound ≡ true) region (subst (λ k. (hat_of k r).fits r other.rows.mode bound ≡ true) client end.fitting) in
        let south = south_bound bound fits_ in
        let free_ : (whatami_eq own.rows.mode Client && (is_north r && list_any (λ f. is_north f.region) own.rows.faces)) ≡ false = sym (north_taken_is r own.rows) ∙ end.free in
        let none_ : list_any (λ f. is_north f.region) own.rows.faces ≡ false = by_test (list_any (λ f. is_north f.region) own.rows.faces) (λ some. never (and_from (whatami_eq own.rows.mode Client) (is_north r && list_any (λ f. is_north f.region) own.rows.faces) (ap (λ k. whatami_eq k Client) client) (and_from (is_north r) (list_any (λ f. is_north f.region) own.rows.faces) up some)) free_) (λ e. e) in
        subst (λ q. IsTreeGateway cmp matching (rows_after_call cmp matching (NewTransport other.rows.zid other.rows.mode q bound start) own.rows)) (sym region)
        (subst (λ c. IsTreeGateway cmp matching (rows_after_call cmp matching (NewTransport other.rows.zid other.rows.mode North c start) own.rows)) (sym south) (tree_after_north cmp matching total equal_is_same other.rows.zid other.rows.mode start own.rows client none_ ordered tree)))
        (λ down.
        let below = is_below own.rows.mode r other.rows.mode bound end.fitting (facts.serves end.listed) down in
        subst (λ q. IsTreeGateway cmp matching (rows_after_call cmp matching (NewTransport other.rows.zid other.rows.mode q bound start) own.rows)) (sym below.region_is)
        (subst (λ k. IsTreeGateway cmp matching (rows_after_call cmp matching (NewTransport other.rows.zid k (South below.id Client) bound start) own.rows)) (sym below.whatami_is) (tree_after_south cmp matching total equal_is_same other.rows.zid below.id bound start own.rows ordered tree)))

    -- a client gateway's new parent doesn't lie below it
    low_at : (own other : Node K) (r : Region) (bound : Bound) (beyond at : ℕ) → EndFits own other r bound beyond at → is_north r ≡ true → own.rows.mode ≡ Client → climbs_to (length s.gateways) s beyond at ≡ false
    low_at own other r bound beyond at end up client =
        let loop_ : ((north_hat own.rows.mode).has_one_face && (is_north r && climbs_to (length s.gateways) s beyond at)) ≡ false = end.apart in
        by_test (climbs_to (length s.gateways) s beyond at) (λ climbs. never (and_from (north_hat own.rows.mode).has_one_face (is_north r && climbs_to (length s.gateways) s beyond at) (ap (λ k. (north_hat k).has_one_face) client) (and_from (is_north r) (climbs_to (length s.gateways) s beyond at) up climbs)) loop_) (λ e. e)

    -- what the line comes to
    shape : LinkIs cmp matching s Then (said_by_line cmp matching line s)
    shape =
        let facts = facts_apart cmp matching total s fine one two first back real1 real2 a b at_one at_two r1 r2 b1 b2 given1 given2 apart trees in
        link_is cmp matching total s fine agree one two first back real1 real2 a b at_one at_two r1 r2 b1 b2 given1 given2 apart (tree_at a b one two at_one r1 b1 first fits1 facts.0) (tree_at b a two one at_two r2 b2 back fits2 facts.1)

    linked : TreesAgree cmp matching Then
    linked =
        let facts = facts_apart cmp matching total s fine one two first back real1 real2 a b at_one at_two r1 r2 b1 b2 given1 given2 apart trees in
        let tree1 = tree_at a b one two at_one r1 b1 first fits1 facts.0 in
        let tree2 = tree_at b a two one at_two r2 b2 back fits2 facts.1 in
        let up_is = one_up facts.0 facts.1 in
        by_test (is_north r1)
        (λ up. let client = facts.0.client up in first_leads_up cmp matching total s fine agree one two first back real1 real2 a b at_one at_two r1 r2 b1 b2 given1 given2 apart tree1 tree2 up (up_is ∙ ap not up) client (low_at a b r1 b1 two one fits1 up client))
        (λ down.
        let up2 : is_north r2 ≡ true = up_is ∙ ap not down in
        let client = facts.1.client up2 in
        second_leads_up cmp matching total s fine agree one two first back real1 real2 a b at_one at_two r1 r2 b1 b2 given1 given2 apart tree1 tree2 down up2 client (low_at b a r2 b2 one two fits2 up2 client))

  -- ---- the causes of a link

  -- no cause holds of these ends
  abbrev Accepts : Bool → List (LinkEnd K) → Type 0
  Accepts spent ends =
      first_cause
      ((is_unknown_gateway s one || is_unknown_gateway s two, refusal.UnknownGateway)
      ∷ (list_any (is_end (λ end region bound. not (is_region_of end.node.rows.regions region))) ends, refusal.NoSuchRegion)
      ∷ (list_any is_refused_end ends || list_any (is_end (λ end region bound. not ((hat_of end.node.rows.mode region).fits region end.other.rows.mode bound))) ends, refusal.RegionConflict)
      ∷ (list_any (is_end (λ end region bound. is_north_taken region end.node.rows)) ends, refusal.NorthTaken)
      ∷ (list_any (is_end (closes_loop s)) ends, refusal.WouldLoop)
      ∷ (spent, refusal.IdsSpent)
      ∷ (nat_le GREATEST_NUMBER (length s.faces + 1) || is_full s.links, refusal.NumbersSpent)
      ∷ [])
      ≡ None

  module _ (a b : Node K) (at_one : nth one s.gateways ≡ Some a) (at_two : nth two s.gateways ≡ Some b) where
    abbrev e1 : LinkEnd K
    e1 = record { gateway = one; node = a; beyond = two; other = b; first = first }

    abbrev e2 : LinkEnd K
    e2 = record { gateway = two; node = b; beyond = one; other = a; first = back }

    both_ends_fail : (test : LinkEnd K → Bool) → list_any test (e1 ∷ e2 ∷ []) ≡ false → (test e1 ≡ false) × (test e2 ≡ false)
    both_ends_fail test none_ = let all = each_fails test (e1 ∷ e2 ∷ []) none_ in (all.0, all.1.0)

    -- a test of an end, once it was given its region
    at_given : (test : Region → Bound → Bool) (o : RegionAnswer) (r : Region) (bound : Bound) → o ≡ Ok (r, bound) → is_answer o test ≡ false → test r bound ≡ false
    at_given test o r bound given fails = ap (λ x. is_answer x test) (sym given) ∙ fails

    accepted_link : (spent : Bool) → Accepts spent (e1 ∷ e2 ∷ []) → FacesMayFormTrees Then → TreesAgree cmp matching Then × LinkIs cmp matching s Then (said_by_line cmp matching line s)
    accepted_link spent accepted trees =
        let known = no_cause _ _ _ accepted in
        let region = no_cause _ _ _ known.1 in
        let conflict = no_cause _ _ _ region.1 in
        let north = no_cause _ _ _ conflict.1 in
        let loop_ = no_cause _ _ _ north.1 in
        let conflicts = or_false (list_any is_refused_end (e1 ∷ e2 ∷ [])) (list_any (is_end (λ end region bound. not ((hat_of end.node.rows.mode region).fits region end.other.rows.mode bound))) (e1 ∷ e2 ∷ [])) conflict.0 in
        cases (end_region a b) refl (end_region b a) refl (both_ends_fail (is_end (λ end region bound. not (is_region_of end.node.rows.regions region))) region.0) (both_ends_fail is_refused_end conflicts.0)
        (both_ends_fail (is_end (λ end region bound. not ((hat_of end.node.rows.mode region).fits region end.other.rows.mode bound))) conflicts.1) (both_ends_fail (is_end (λ end region bound. is_north_taken region end.node.rows)) north.0) (both_ends_fail (is_end (closes_loop s)) loop_.0)
      where
        refused : RegionAnswer → Bool
        refused o = elim o [ Ok given ↦ false | Err e ↦ true ]

        cases : (o1 : RegionAnswer) → end_region a b ≡ o1 → (o2 : RegionAnswer) → end_region b a ≡ o2
            → (is_end (λ end region bound. not (is_region_of end.node.rows.regions region)) e1 ≡ false) × (is_end (λ end region bound. not (is_region_of end.node.rows.regions region)) e2 ≡ false) → (is_refused_end e1 ≡ false) × (is_refused_end e2 ≡ false)
            → (is_end (λ end region bound. not ((hat_of end.node.rows.mode region).fits region end.other.rows.mode bound)) e1 ≡ false) × (is_end (λ end region bound. not ((hat_of end.node.rows.mode region).fits region end.other.rows.mode bound)) e2 ≡ false)
            → (is_end (λ end region bound. is_north_taken region end.node.rows) e1 ≡ false) × (is_end (λ end region bound. is_north_taken region end.node.rows) e2 ≡ false)
            → (is_end (closes_loop s) e1 ≡ false) × (is_end (closes_loop s) e2 ≡ false) → TreesAgree cmp matching Then × LinkIs cmp matching s Then (said_by_line cmp matching line s)
        cases (Ok x1) given1 (Ok x2) given2 listed refused_ fitting free apart_ =
            let fits1 : EndFits a b x1.0 x1.1 two one = record {
              listed = not_false _ (at_given (λ region bound. not (is_region_of a.rows.regions region)) (end_region a b) x1.0 x1.1 given1 listed.0);
              fitting = not_false _ (at_given (λ region bound. not ((hat_of a.rows.mode region).fits region b.rows.mode bound)) (end_region a b) x1.0 x1.1 given1 fitting.0);
              free = at_given (λ region bound. is_north_taken region a.rows) (end_region a b) x1.0 x1.1 given1 free.0;
              apart = at_given (closes_loop s e1) (end_region a b) x1.0 x1.1 given1 apart_.0;
            } in
            let fits2 : EndFits b a x2.0 x2.1 one two = record {
              listed = not_false _ (at_given (λ region bound. not (is_region_of b.rows.regions region)) (end_region b a) x2.0 x2.1 given2 listed.1);
              fitting = not_false _ (at_given (λ region bound. not ((hat_of b.rows.mode region).fits region a.rows.mode bound)) (end_region b a) x2.0 x2.1 given2 fitting.1);
              free = at_given (λ region bound. is_north_taken region b.rows) (end_region b a) x2.0 x2.1 given2 free.1;
              apart = at_given (closes_loop s e2) (end_region b a) x2.0 x2.1 given2 apart_.1;
            } in
            (linked a b at_one at_two x1.0 x2.0 x1.1 x2.1 given1 given2 fits1 fits2 trees, shape a b at_one at_two x1.0 x2.0 x1.1 x2.1 given1 given2 fits1 fits2 trees)
        cases (Err e) given1 o2 given2 listed refused_ fitting free apart_ = never (ap refused given1) refused_.0
        cases (Ok x1) given1 (Err e) given2 listed refused_ fitting free apart_ = never (ap refused given2) refused_.1

  both_after : (spent : Bool) → first_cause (line_causes cmp matching spent line s) ≡ None → FacesMayFormTrees Then → TreesAgree cmp matching Then × LinkIs cmp matching s Then (said_by_line cmp matching line s)
  unfolding line_causes
  both_after spent accepted trees = cases (nth one s.gateways) refl (nth two s.gateways) refl
    where
      accepts : Accepts spent (link_ends s one two first back)
      accepts = accepted

      cases : (o1 : Option (Node K)) → nth one s.gateways ≡ o1 → (o2 : Option (Node K)) → nth two s.gateways ≡ o2 → TreesAgree cmp matching Then × LinkIs cmp matching s Then (said_by_line cmp matching line s)
      cases None at_one o2 at_two = never (or_left (is_unknown_gateway s one) (is_unknown_gateway s two) (ap is_none at_one)) (no_cause _ _ _ accepted).0
      cases (Some a) at_one None at_two = never (or_right (is_unknown_gateway s one) (is_unknown_gateway s two) (ap is_none at_two)) (no_cause _ _ _ accepted).0
      cases (Some a) at_one (Some b) at_two =
          let ends_are : link_ends s one two first back ≡ e1 a b at_one at_two ∷ e2 a b at_one at_two ∷ [] =
          ap (λ (o : Option (Node K)). (let es : List (LinkEnd K) = elim o [ None ↦ [] | Some p ↦ elim (nth two s.gateways) [ None ↦ [] | Some q ↦ record { gateway = one; node = p; beyond = two; other = q; first = first } ∷ record { gateway = two; node = q; beyond = one; other = p; first = back } ∷ [] ] ] in es)) at_one
          ∙ ap (λ (o : Option (Node K)). (let es : List (LinkEnd K) = elim o [ None ↦ [] | Some q ↦ record { gateway = one; node = a; beyond = two; other = q; first = first } ∷ record { gateway = two; node = q; beyond = one; other = a; first = back } ∷ [] ] in es)) at_two in
          accepted_link a b at_one at_two spent (subst (Accepts spent) ends_are accepts) trees

  -- An accepted link of a script of trees keeps all that is true of trees.
  pub after_link : (spent : Bool) → first_cause (line_causes cmp matching spent line s) ≡ None → FacesMayFormTrees Then → TreesAgree cmp matching Then
  after_link spent accepted trees = (both_after spent accepted trees).0

  pub link_comes_to : (spent : Bool) → first_cause (line_causes cmp matching spent line s) ≡ None → FacesFormTrees Then → LinkIs cmp matching s Then (said_by_line cmp matching line s)
  link_comes_to spent accepted trees = (both_after spent accepted (may_by_faces Then trees)).1
