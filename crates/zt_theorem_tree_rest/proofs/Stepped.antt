-- Each step that takes a message lessens the steps that are left, and what steps need is true after it.
use Rattle.std.proofs.Common.{◌≡◌, ◌≢◌, ◌⊎◌, inl, inr, ℕ, Bool, true, false, not, nat_lt, List, [], ◌∷◌, map, Option, Some, None, Err, is_some, refl, sym, ap, ◌∙◌, subst, ⊎_elim}
use Rattle.std.specs.Cmp.{IsTotalOrder}
use Rattle.std.specs.declared.cmp.Ordering.{Ordering}
use Rattle.std.specs.declared.cmp.Ordering.TheVariants.{Equal}
use Rattle.zt_region.specs.Region.{is_north}
use Rattle.zt_protocol.specs.Plain.{PlainCall, NewSession, NewTransport, DeclareToken, UndeclareToken, Interest, InterestFinal, DeclareFinal, CloseFace, Expire, SetTrees, SetEntities, Step}
use Rattle.zt_protocol.specs.Refusal.{number_of}
use Rattle.zt_protocol.specs.declared.errors.Refusal.{Refusal}
use Rattle.zt_protocol.specs.declared.errors.Refusal.TheVariants as refusal
use Rattle.zt_protocol.specs.declared.messages.Message.{Message}
use Rattle.zt_protocol.specs.declared.messages.Message.TheVariants as message
use Rattle.zt_model.specs.Fabric.{CallAt, Fabric, Link, Node, altered_by_line, line_causes, call_of, call_of_step, entry_by, entry_of, fabric_after, line_causes, line_spends_ids, printed_message, said_by_line, sorted_by_face, with_call_face, with_waiting, without_message}
use Rattle.zt_model.specs.Linking.{call_of_message, oldest, sending_end, speaking_end, waiting_of}
use Rattle.zt_model.specs.Lists.{is_among, is_some_and, nth}
use Rattle.zt_model.specs.Parts.{find_face}
use Rattle.zt_model.specs.Refusals.{Causes, first_cause}
use Rattle.zt_model.specs.Rows.{ById, Rows}
use Rattle.zt_model.specs.Says.{said}
use Rattle.zt_model.specs.Transcript.{Each, FaceAt, face_numbered}
use Rattle.zt_laws.specs.Order.{FabricIsInOrder}
use Rattle.zt_laws.proofs.Calls.{no_cause}
use Rattle.zt_laws.proofs.Gateways.{after_hearing_nothing}
use Rattle.zt_laws.proofs.Lists.{by_test, never}
use Rattle.zt_theorem_soundness.proofs.Sound.{sound_after_line}
use Rattle.zt_theorem_tree_invariant.specs.Facts.{IsForAbove, IsForBelow, TreesAgree}
use Rattle.zt_theorem_tree_invariant.specs.Joints.{are_joined}
use Rattle.zt_theorem_tree_invariant.proofs.After.{after_call, joined_ends, some_oldest, step_is, with_nothing}
use Rattle.zt_theorem_tree_invariant.proofs.Lasting.{IsLess, LeftByCalls, MessageSaid, printed_by, stand_after}
use Rattle.zt_theorem_tree_invariant.proofs.Quiet.{joined_back}
use Rattle.zt_theorem_tree_invariant.proofs.Stepping.{taken}
use Rattle.zt_theorem_tree_knowledge.proofs.LineCalls.{trees_after_call}
use Rattle.zt_theorem_tree_only_what_lived.specs.Tokens.{CallIn, TokenIn}
use Rattle.zt_theorem_tree_only_what_lived.proofs.Everywhere.{Everywhere, Queues, added_in, oldest_in, says_in, sends_in, sorted_in, taken_in, turned_in}
use Rattle.zt_theorem_tree_rest.specs.Steps.{takes_message}
use Rattle.zt_theorem_tree_rest.proofs.OneStep.{Lessens, dropped, fallen_final, fallen_token, fallen_untoken, real_weight, risen_end, risen_interest, risen_token, risen_untoken}
use Rattle.zt_theorem_tree_rest.proofs.Queues.{stand_by}
use Rattle.zt_theorem_tree_rest.proofs.Since.{Since}

module _ {K : Type 0} (cmp : K → K → Ordering) (matching : K → K → Bool) (total_order : IsTotalOrder cmp) (equal_is_same : (a b : K) → cmp a b ≡ Equal → a ≡ b) (tokens : List K) (s0 : Fabric K) (fine0 : FabricIsInOrder cmp matching s0) (agree0 : TreesAgree cmp matching s0)
    (s : Fabric K) (since : Since cmp matching tokens s0 s) where
  abbrev fine : FabricIsInOrder cmp matching s
  fine = since.sound.order

  abbrev agree : TreesAgree cmp matching s
  agree = since.agree

  abbrev pub Less : Fabric K → Type 0
  Less t = Lessens cmp matching total_order equal_is_same tokens s0 fine0 agree0 s since t

  abbrev IsToken : K → Type 0
  IsToken e = is_among cmp e tokens ≡ true

  abbrev after : Fabric K → Option (CallAt K) → Fabric K
  after t at = after_call cmp matching total_order equal_is_same s fine agree t at

  some_is : {A : Type 0} {u v : A} → Some u ≡ Some v → u ≡ v
  some_is h = cc

  less_no_call : (t : Fabric K) → Less t → Less (after t None)
  unfolding sorted_by_face
  less_no_call t less = subst Less (sym (ap (with_waiting []) (after_hearing_nothing cmp t) ∙ ap (λ (w : ById (List (Message K))). record t { waiting = w }) (with_nothing t.waiting))) less

  module _ (q0 q1 : ℕ) (joined : are_joined s q1 q0 ≡ true) (z : FaceAt K) (z_is : face_numbered s q1 ≡ Some z) (node : Node K) (at_j : nth z.gateway s.gateways ≡ Some node) (found : find_face z.face.number node.rows ≡ Some z.face) where
    abbrev call_there : Message K → Option (CallAt K)
    call_there m = elim (call_of_message 0 m) [ None ↦ None | Some call ↦ Some (record { gateway = z.gateway; rows = node.rows; call = with_call_face z.face.number call }) ]

    -- which way a message goes that waits
    goes : (m : Message K) (rest : List (Message K)) → waiting_of s q0 ≡ m ∷ rest → (next : ℕ) × ((is_north z.face.region ≡ true → IsForBelow next m) × (is_north z.face.region ≡ false → IsForAbove m))
    goes m rest is =
        let ends = agree.links.meet q1 q0 joined in
        let own : ends.one ≡ z = some_is (sym ends.one_is ∙ z_is) in
        let turned_ : is_north ends.two.face.region ≡ not (is_north z.face.region) = ends.one_leads_up ∙ ap (λ (x : FaceAt K). not (is_north x.face.region)) own in (
          z.face.next,
          (
            λ north. let j = agree.joints q1 q0 z ends.two joined z_is ends.two_is north in (subst (Each (IsForBelow z.face.next)) is j.for_below).0,
            λ south. let j = agree.joints q0 q1 ends.two z (joined_back s q1 q0 joined) ends.two_is z_is (turned_ ∙ ap not south) in (subst (Each IsForAbove) is j.for_above).0,
          ),
        )

    spoken : (m : Message K) (rest : List (Message K)) → waiting_of s q0 ≡ m ∷ rest → TokenIn IsToken m → (next : ℕ) → (is_north z.face.region ≡ true → IsForBelow next m) → (is_north z.face.region ≡ false → IsForAbove m) → Less (after (record s { waiting = taken q0 s.waiting }) (call_there m))
    spoken (message.DeclareToken id e i n) rest is there next below above =
        by_test (is_north z.face.region)
        (λ north. fallen_token cmp matching total_order equal_is_same tokens s0 fine0 agree0 s since q0 q1 joined z z_is node at_j found (message.DeclareToken id e i n) rest is north id n e i there refl)
        (λ south. risen_token cmp matching total_order equal_is_same tokens s0 fine0 agree0 s since q0 q1 joined z z_is node at_j found (message.DeclareToken id e i n) rest is south id n e i there refl)
    spoken (message.UndeclareToken id e n) rest is there next below above =
        by_test (is_north z.face.region)
        (λ north. fallen_untoken cmp matching total_order equal_is_same tokens s0 fine0 agree0 s since q0 q1 joined z z_is node at_j found (message.UndeclareToken id e n) rest is north id n e refl)
        (λ south. risen_untoken cmp matching total_order equal_is_same tokens s0 fine0 agree0 s since q0 q1 joined z z_is node at_j found (message.UndeclareToken id e n) rest is south id n e refl)
    spoken (message.DeclareFinal id) rest is there next below above =
        by_test (is_north z.face.region)
        (λ north. fallen_final cmp matching total_order equal_is_same tokens s0 fine0 agree0 s since q0 q1 joined z z_is node at_j found (message.DeclareFinal id) rest is north id refl)
        (λ south. absurd (above south))
    spoken (message.Interest id mode options e) rest is there next below above =
        by_test (is_north z.face.region) (λ north. absurd (below north))
        (λ south. risen_interest cmp matching total_order equal_is_same tokens s0 fine0 agree0 s since q0 q1 joined z z_is node at_j found (message.Interest id mode options e) rest is south id mode options e refl)
    spoken (message.InterestFinal id) rest is there next below above =
        by_test (is_north z.face.region) (λ north. absurd (below north))
        (λ south. risen_end cmp matching total_order equal_is_same tokens s0 fine0 agree0 s since q0 q1 joined z z_is node at_j found (message.InterestFinal id) rest is south id refl)
    spoken (message.DeclareSubscriber id e i) rest is there next below above = less_no_call (record s { waiting = taken q0 s.waiting }) (lost (message.DeclareSubscriber id e i) rest is)
      where
        lost : (m : Message K) (rest : List (Message K)) → waiting_of s q0 ≡ m ∷ rest → Less (record s { waiting = taken q0 s.waiting })
        lost m rest is = dropped cmp matching total_order equal_is_same tokens s0 fine0 agree0 s since q0 m rest is (real_weight cmp matching total_order equal_is_same tokens s0 fine0 agree0 s since q0 q1 joined z z_is node at_j found m rest is)
    spoken (message.DeclareQueryable id e info i) rest is there next below above = less_no_call (record s { waiting = taken q0 s.waiting }) (lost (message.DeclareQueryable id e info i) rest is)
      where
        lost : (m : Message K) (rest : List (Message K)) → waiting_of s q0 ≡ m ∷ rest → Less (record s { waiting = taken q0 s.waiting })
        lost m rest is = dropped cmp matching total_order equal_is_same tokens s0 fine0 agree0 s since q0 m rest is (real_weight cmp matching total_order equal_is_same tokens s0 fine0 agree0 s since q0 q1 joined z z_is node at_j found m rest is)

    pub accepted_lessens : (m : Message K) (rest : List (Message K)) → waiting_of s q0 ≡ m ∷ rest → Less (after (record s { waiting = taken q0 s.waiting }) (call_there m))
    accepted_lessens m rest is =
        let way = goes m rest is in
        spoken m rest is (oldest_in IsToken s q0 m rest since.everywhere.waiting is) way.0 way.1.0 way.1.1

    pub refused_lessens : (m : Message K) (rest : List (Message K)) → waiting_of s q0 ≡ m ∷ rest → Less (record s { waiting = taken q0 s.waiting })
    refused_lessens m rest is = dropped cmp matching total_order equal_is_same tokens s0 fine0 agree0 s since q0 m rest is (real_weight cmp matching total_order equal_is_same tokens s0 fine0 agree0 s since q0 q1 joined z z_is node at_j found m rest is)

  -- ---- the line

  not_not : {b : Bool} → not b ≡ false → b ≡ true
  not_not {b} h = by_test b (λ e. e) (λ e. let t : not b ≡ true = ap not e in never t h)

  accepted_step : (n : ℕ) (back : Bool) (o : Option Link) → nth n s.links ≡ o → is_some_and o (λ l. l.is_open) ≡ true → is_some_and o (λ l. is_some (oldest s l back)) ≡ true
      → Less (after (let t : Fabric K = elim o [ None ↦ s | Some l ↦ record s { waiting = taken (sending_end l back) s.waiting } ] in t) (call_of_step s back o))
  accepted_step n back None at_ open_ there = never open_ refl
  accepted_step n back (Some l) at_ open_ there =
      let joined = joined_ends cmp matching total_order equal_is_same s fine agree n l back at_ open_ in
      let old = some_oldest cmp matching total_order equal_is_same s fine agree n l back there in
      let is = step_is cmp matching total_order equal_is_same s fine agree back l old.0 old.1 joined old.2 in
      subst (λ at. Less (after (record s { waiting = taken (sending_end l back) s.waiting }) at)) (sym is.call_is)
      (accepted_lessens (sending_end l back) (speaking_end l back) joined is.z is.z_is is.node is.at_j is.found old.0 old.1 old.2)

  refused_step : (n : ℕ) (back : Bool) (o : Option Link) → nth n s.links ≡ o → is_some_and o (λ l. l.is_open) ≡ true → is_some_and o (λ l. is_some (oldest s l back)) ≡ true
      → Less (let t : Fabric K = elim o [ None ↦ s | Some l ↦ record s { waiting = taken (sending_end l back) s.waiting } ] in t)
  refused_step n back None at_ open_ there = never open_ refl
  refused_step n back (Some l) at_ open_ there =
      let joined = joined_ends cmp matching total_order equal_is_same s fine agree n l back at_ open_ in
      let old = some_oldest cmp matching total_order equal_is_same s fine agree n l back there in
      let is = step_is cmp matching total_order equal_is_same s fine agree back l old.0 old.1 joined old.2 in
      refused_lessens (sending_end l back) (speaking_end l back) joined is.z is.z_is is.node is.at_j is.found old.0 old.1 old.2

  skip_to : (b : Bool) (cause : Refusal) (causes : Causes) (r : Refusal) → first_cause ((b, cause) ∷ causes) ≡ Some r → ((b ≡ true) × (r ≡ cause)) ⊎ ((b ≡ false) × (first_cause causes ≡ Some r))
  unfolding first_cause
  skip_to true cause causes r h = let is : cause ≡ r = cc in inl (refl, sym is)
  skip_to false cause causes r h = inr (refl, h)

  -- A step that takes a message lessens the steps that are left.
  pub step_lessens : (n : ℕ) (back : Bool) → (let entry = entry_of cmp matching (Step n back) s in takes_message entry ≡ true → Less (fabric_after cmp matching (Step n back) entry s))
  unfolding fabric_after entry_of line_causes said_by_line altered_by_line call_of
  step_lessens n back = cases (first_cause (line_causes cmp matching spent (Step n back) s)) refl
    where
      spent : Bool
      spent = line_spends_ids cmp matching (Step n back) s

      far : (r : Refusal) → nat_lt 3 (number_of r) ≡ true → first_cause (line_causes cmp matching spent (Step n back) s) ≡ Some r → Less (without_message n back s)
      far r more refused =
          ⊎_elim (λ first. never (ap (λ x. nat_lt 3 (number_of x)) (sym first.1) ∙ more) refl)
          (λ two.
          ⊎_elim (λ first. never (ap (λ x. nat_lt 3 (number_of x)) (sym first.1) ∙ more) refl)
          (λ three. refused_step n back (nth n s.links) refl (not_not two.0) (not_not three.0))
          (skip_to _ refusal.EmptyLink _ r two.1))
          (skip_to _ refusal.UnknownLink _ r refused)

      cases : (o : Option Refusal) → first_cause (line_causes cmp matching spent (Step n back) s) ≡ o → (let entry = entry_by cmp matching o (sorted_by_face (said_by_line cmp matching (Step n back) s)) in takes_message entry ≡ true → Less (fabric_after cmp matching (Step n back) entry s))
      cases None accepted = λ takes.
          let one = no_cause _ _ _ accepted in
          let two = no_cause _ _ _ one.1 in
          accepted_step n back (nth n s.links) refl (not_not one.0) (not_not two.0)
      cases (Some r) refused = λ takes. rw takes (far r takes refused)

  -- ---- what steps need is true after one

  -- the tokens of calls are those that were there
  abbrev Comes : ℕ → PlainCall K → Type 0
  Comes j (DeclareToken n id e node interest) = IsToken e
  Comes j (SetTrees region table) = ⊥
  Comes j _ = Unit {0}

  comes_in : (g : Rows K) (j : ℕ) (c : PlainCall K) → Comes j c → CallIn IsToken g c
  comes_in g j (DeclareToken n id e node interest) own = own
  comes_in g j (NewSession first) own = tt
  comes_in g j (NewTransport zid whatami region bound first) own = tt
  comes_in g j (UndeclareToken n id given node) own = tt
  comes_in g j (Interest n id mode options e) own = tt
  comes_in g j (InterestFinal n id) own = tt
  comes_in g j (DeclareFinal n id) own = tt
  comes_in g j (CloseFace n) own = tt
  comes_in g j (Expire now) own = tt
  comes_in g j (SetTrees region t) own = absurd own
  comes_in g j (SetEntities n subscribers queryables) own = tt

  comes_by_message : (m : Message K) → TokenIn IsToken m → MessageSaid cmp matching total_order equal_is_same s fine agree Comes m
  comes_by_message (message.DeclareToken id e i n) own = λ j f. own
  comes_by_message (message.UndeclareToken id e n) own = λ j f. tt
  comes_by_message (message.DeclareFinal id) own = λ j f. tt
  comes_by_message (message.Interest id mode options e) own = λ j f. tt
  comes_by_message (message.InterestFinal id) own = λ j f. tt
  comes_by_message (message.DeclareSubscriber id e i) own = λ j f. tt
  comes_by_message (message.DeclareQueryable id e info i) own = λ j f. tt

  less_in : (w : ById (List (Message K))) → IsLess cmp matching total_order equal_is_same s fine agree w → Queues IsToken w
  less_in w less = ⊎_elim (λ is. subst (Queues IsToken) (sym is) since.everywhere.waiting) (λ some. subst (Queues IsToken) (sym some.1) (taken_in IsToken some.0 s.waiting since.everywhere.waiting)) less

  calls_in : LeftByCalls cmp matching total_order equal_is_same s fine agree Comes (λ ms t. Everywhere IsToken t)
  calls_in = λ spent j node c w waits at_j still open_ accepted comes less.
      let ms = printed_by cmp matching total_order equal_is_same s fine agree j node c in
      let own = comes_in node.rows j c comes in
      let ss = said cmp matching c node.rows in
      let prints = sorted_in IsToken (map (printed_message s j) ss) (sends_in IsToken (printed_message s j) (λ m. refl) ss (says_in cmp matching IsToken j node c s at_j own since.everywhere)) in
      record { gateways = turned_in cmp matching IsToken j node c s at_j own since.everywhere; waiting = added_in IsToken ms w prints (less_in w less) }

  tokens_stay : (n : ℕ) (back : Bool) → Everywhere IsToken (fabric_after cmp matching (Step n back) (entry_of cmp matching (Step n back) s) s)
  tokens_stay n back =
      stand_after cmp matching total_order equal_is_same s fine agree Comes (λ ms t. Everywhere IsToken t) since.everywhere
      (λ w waits less. record { gateways = since.everywhere.gateways; waiting = less_in w less }) calls_in (Step n back)
      (λ q m rest is. comes_by_message m (oldest_in IsToken s q m rest since.everywhere.waiting is)) refl

  -- A step that takes a message, and isn't refused for want of ids, leaves what steps need.
  pub since_step : (n : ℕ) (back : Bool) → (let entry = entry_of cmp matching (Step n back) s in takes_message entry ≡ true → entry ≢ Err refusal.IdsSpent → Since cmp matching tokens s0 (fabric_after cmp matching (Step n back) entry s))
  since_step n back = λ takes other.
      let less = step_lessens n back takes in
      record {
        links = less.links ∙ since.links;
        places = less.places ∙ since.places;
        framed = less.framed ∙ since.framed;
        sound = sound_after_line cmp matching total_order equal_is_same (Step n back) s tt since.sound;
        agree = trees_after_call cmp matching total_order equal_is_same s fine agree (Step n back) refl other;
        everywhere = tokens_stay n back;
        queued = stand_by (fabric_after cmp matching (Step n back) (entry_of cmp matching (Step n back) s) s) s less.links less.numbers since.queued;
      }
