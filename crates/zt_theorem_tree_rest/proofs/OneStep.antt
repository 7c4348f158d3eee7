-- A step brings about less than it takes away.
use Rattle.std.proofs.Common.{◌≡◌, ℕ, ◌+◌, ◌*◌, ◌-◌, ◌≤◌, Bool, true, false, not, if◌then◌else◌, ◌==◌, List, [], ◌∷◌, length, map, Option, Some, None, refl, sym, ap, ◌∙◌, subst, arith}
use Rattle.std.specs.Cmp.{IsTotalOrder}
use Rattle.std.specs.declared.cmp.Ordering.{Ordering}
use Rattle.std.specs.declared.cmp.Ordering.TheVariants.{Equal}
use Rattle.zt_region.specs.declared.region.WhatAmI.{WhatAmI}
use Rattle.zt_region.specs.Region.{is_north}
use Rattle.zt_protocol.specs.Plain.{PlainCall, DeclareToken, UndeclareToken, Interest, InterestFinal, DeclareFinal}
use Rattle.zt_protocol.specs.declared.interests.InterestMode.{InterestMode}
use Rattle.zt_protocol.specs.declared.interests.InterestOptions.{InterestOptions}
use Rattle.zt_protocol.specs.declared.messages.Message.{Message}
use Rattle.zt_protocol.specs.declared.messages.Message.TheVariants as message
use Rattle.zt_model.specs.Fabric.{Fabric, Node, at_nth, number_of_place, printed_message}
use Rattle.zt_model.specs.Linking.{waiting_of}
use Rattle.zt_model.specs.Lists.{is_among, nth}
use Rattle.zt_model.specs.Parts.{Sends, find_face, is_routed}
use Rattle.zt_model.specs.Rows.{Rows}
use Rattle.zt_model.specs.Says.{parts_of, said}
use Rattle.zt_model.specs.Transcript.{FaceAt, face_numbered}
use Rattle.zt_laws.specs.Order.{FabricIsInOrder}
use Rattle.zt_laws.specs.Sound.{RiseFrom, opens_face, rows_after_call}
use Rattle.zt_laws.proofs.Gateways.{prints_sorted}
use Rattle.zt_laws.proofs.Lists.{by_test}
use Rattle.zt_theorem_soundness.specs.Ran.{ran}
use Rattle.zt_theorem_soundness.specs.Sound.{IsSound}
use Rattle.zt_theorem_soundness.proofs.CallsRun.{call_runs}
use Rattle.zt_theorem_tree_invariant.specs.Facts.{IsTreeGateway, TreesAgree}
use Rattle.zt_theorem_tree_invariant.specs.Joints.{are_joined}
use Rattle.zt_theorem_tree_invariant.proofs.After.{after_call}
use Rattle.zt_theorem_tree_invariant.proofs.Lasting.{printed_by, turned_by}
use Rattle.zt_theorem_tree_invariant.proofs.Lines.{after_is}
use Rattle.zt_theorem_tree_invariant.proofs.Members.{each_nth, number_is_its}
use Rattle.zt_theorem_tree_invariant.proofs.Quiet.{joined_back}
use Rattle.zt_theorem_tree_invariant.proofs.Stepping.{taken}
use Rattle.zt_theorem_tree_only_what_lived.specs.Tokens.{IsIn}
use Rattle.zt_theorem_tree_rest.specs.Steps.{steps_to_end, steps_down_from, most_answers, steps_beyond, steps_up_from, steps_left}
use Rattle.zt_theorem_tree_rest.proofs.Arithmetic.{interest_fits, token_fits}
use Rattle.zt_theorem_tree_rest.proofs.AtGateway.{Down, Entities, Up, down_member, entities_are, framed, live_rise, looks, os, outside, plain, rises, told_tokens, up_once}
use Rattle.zt_theorem_tree_rest.proofs.Calls.{NoRouters}
use Rattle.zt_theorem_tree_rest.proofs.Directions.{fallen_declare, fallen_undeclare, risen_declare, risen_undeclare}
use Rattle.zt_theorem_tree_rest.proofs.Frames.{Frame, Framed, Outline, RunsWithin, frame_of, outline}
use Rattle.zt_theorem_tree_rest.proofs.Interests.{end_runs, interest_most, interest_runs}
use Rattle.zt_theorem_tree_rest.proofs.Queues.{numbers_added, numbers_of, numbers_taken, rise_by_numbers}
use Rattle.zt_theorem_tree_rest.proofs.Sends.{cost, owed_by}
use Rattle.zt_theorem_tree_rest.proofs.Since.{Since, Was, dues_changed, end_price, face_was, left_is, node_was, price, price_at_most, frames, weight}
use Rattle.zt_theorem_tree_rest.proofs.Sums.{times, times_is, total}
use Rattle.zt_theorem_tree_rest.proofs.Tokens.{finish_runs}
use Rattle.zt_theorem_tree_rest.proofs.Waiting.{added_pays, printed as printed_weight, sorted_total, taken_pays}
use Rattle.zt_theorem_tree_rest.proofs.Weights.{entities_by_faces, falls_by_faces, falls_to, rises_by_faces, rises_to}

frames_changed : {K : Type 0} (n : ℕ) (change : Node K → Node K) (gs : List (Node K)) (node : Node K) → nth n gs ≡ Some node → frame_of (change node).rows ≡ frame_of node.rows → frames (at_nth n change gs) ≡ frames gs
frames_changed n change [] node at_ same_ = refl
frames_changed n change (x ∷ gs) node at_ same_ =
    by_test (n == 1)
    (λ here.
    let first : Some x ≡ Some node = rw here at at_ in
    let is : x ≡ node = cc in
    let own : frame_of (change x).rows ≡ frame_of x.rows = subst (λ y. frame_of (change y).rows ≡ frame_of y.rows) (sym is) same_ in
    rw here (ap (λ o. o ∷ frames gs) own))
    (λ here. rw here (ap (λ rest. frame_of x.rows ∷ rest) (frames_changed (n - 1) change gs node (rw here at at_) same_)))

module _ {K : Type 0} (cmp : K → K → Ordering) (matching : K → K → Bool) (total_order : IsTotalOrder cmp) (equal_is_same : (a b : K) → cmp a b ≡ Equal → a ≡ b) (tokens : List K) (s0 : Fabric K) (fine0 : FabricIsInOrder cmp matching s0) (agree0 : TreesAgree cmp matching s0)
    (s : Fabric K) (since : Since cmp matching tokens s0 s) where
  abbrev pub fine : FabricIsInOrder cmp matching s
  fine = since.sound.order

  abbrev pub agree : TreesAgree cmp matching s
  agree = since.agree

  abbrev Price : ℕ → ℕ → ℕ
  Price = price cmp matching tokens s0

  abbrev EndPrice : ℕ → ℕ
  EndPrice = end_price cmp matching tokens s0

  abbrev Weight : ℕ → Message K → ℕ
  Weight = weight cmp matching tokens s0

  -- what a fabric is after a step: fewer steps are left, and the frame is the same
  pub record Lessens (t : Fabric K) : Type 0 where
    pub fewer : steps_left cmp tokens s0 t + 1 ≤ steps_left cmp tokens s0 s
    pub links : t.links ≡ s.links
    pub places : t.faces ≡ s.faces
    pub framed : frames t.gateways ≡ frames s.gateways
    pub numbers : numbers_of t.waiting ≡ numbers_of s.waiting

  -- a message that comes to nothing
  pub dropped : (q : ℕ) (m : Message K) (rest : List (Message K)) → waiting_of s q ≡ m ∷ rest → 1 ≤ Weight q m → Lessens (record s { waiting = taken q s.waiting })
  dropped q m rest is real =
      let t : Fabric K = record s { waiting = taken q s.waiting } in
      let now_ = left_is cmp matching tokens s0 t in
      let then_ = left_is cmp matching tokens s0 s in
      let pays = taken_pays Weight q m rest s.waiting is in
      record { fewer = omega arith; links = refl; places = refl; framed = refl; numbers = numbers_taken q s.waiting }

  -- a message whose call is accepted
  printed_cost : (j : ℕ) (ss : Sends K) → printed_weight Weight (map (printed_message s j) ss) ≤ cost cmp tokens (Price j) (EndPrice j) ss
  printed_cost j [] = omega arith
  printed_cost j (x ∷ ss) =
      let rest = printed_cost j ss in
      let one = price_at_most cmp matching tokens s0 j x.0 x.1 in
      let at_ : Weight (number_of_place s j x.0) x.1 ≡ Weight (number_of_place s0 j x.0) x.1 = ap (λ ps. Weight (number_of_place (record s0 { faces = ps }) j x.0) x.1) since.places in
      omega arith

  pub called : (j : ℕ) (node : Node K) (at_j : nth j s.gateways ≡ Some node) (c : PlainCall K) (still : opens_face c ≡ false) (q : ℕ) (m : Message K) (rest : List (Message K)) (most : ℕ) → waiting_of s q ≡ m ∷ rest
      → RunsWithin cmp matching tokens (Price j) (EndPrice j) (parts_of cmp matching c node.rows) node.rows most → most + 1 ≤ Weight q m → Lessens (turned_by cmp matching total_order equal_is_same s fine agree j node c (taken q s.waiting) at_j still)
  called j node at_j c still q m rest most is runs within =
      let t = turned_by cmp matching total_order equal_is_same s fine agree j node c (taken q s.waiting) at_j still in
      let ms = printed_by cmp matching total_order equal_is_same s fine agree j node c in
      let change = λ (x : Node K). record x { rows = rows_after_call cmp matching c x.rows } in
      let queued_ = rise_by_numbers 0 (taken q s.waiting) s.waiting (numbers_taken q s.waiting) since.queued.rise in
      let now_ = left_is cmp matching tokens s0 t in
      let then_ = left_is cmp matching tokens s0 s in
      let pays = taken_pays Weight q m rest s.waiting is in
      let adds = added_pays Weight ms (taken q s.waiting) queued_ in
      let sorted_ : printed_weight Weight ms ≡ printed_weight Weight (map (printed_message s j) (said cmp matching c node.rows)) = sorted_total Weight (map (printed_message s j) (said cmp matching c node.rows)) in
      let costs = printed_cost j (said cmp matching c node.rows) in
      let due = dues_changed cmp matching tokens s0 1 j j change s.gateways node (omega arith) at_j in
      let ran_ : owed_by cmp tokens (Price j) (EndPrice j) (rows_after_call cmp matching c node.rows).faces ≡ owed_by cmp tokens (Price j) (EndPrice j) (ran cmp (parts_of cmp matching c node.rows) node.rows).faces = ap (λ (g : Rows K). owed_by cmp tokens (Price j) (EndPrice j) g.faces) (call_runs cmp matching c node.rows) in
      let run = runs.within in
      record {
        fewer = omega arith;
        links = refl;
        places = refl;
        framed = frames_changed j change s.gateways node at_j (ap frame_of (call_runs cmp matching c node.rows) ∙ runs.frame);
        numbers = numbers_added ms (taken q s.waiting) ∙ numbers_taken q s.waiting;
      }

  -- ---- at the gateway where a message is spoken

  module _ (q0 q1 : ℕ) (joined : are_joined s q1 q0 ≡ true) (z : FaceAt K) (z_is : face_numbered s q1 ≡ Some z) (node : Node K) (at_j : nth z.gateway s.gateways ≡ Some node) (found : find_face z.face.number node.rows ≡ Some z.face) (m : Message K) (rest : List (Message K)) (oldest_is : waiting_of s q0 ≡ m ∷ rest) where
    abbrev j : ℕ
    j = z.gateway

    abbrev T : ℕ
    T = length tokens

    sound_ : IsSound cmp matching node.rows
    sound_ = each_nth (λ (x : Node K). IsSound cmp matching x.rows) j s.gateways node since.sound.gateways at_j

    tree_ : IsTreeGateway cmp matching node.rows
    tree_ = each_nth (λ (x : Node K). IsTreeGateway cmp matching x.rows) j s.gateways node agree.gateways at_j

    in_ : IsIn (λ e. is_among cmp e tokens ≡ true) node.rows
    in_ = each_nth (λ (x : Node K). IsIn (λ e. is_among cmp e tokens ≡ true) x.rows) j s.gateways node since.everywhere.gateways at_j

    -- the two faces then
    joined0 : are_joined s0 q1 q0 ≡ true
    joined0 = subst (λ ls. are_joined (record s0 { links = ls }) q1 q0 ≡ true) since.links joined

    was : Was cmp matching tokens s0 q1 z
    was = face_was cmp matching tokens s0 s since.places since.framed q1 z z_is

    abbrev other : FaceAt K
    other = (agree0.links.meet q1 q0 joined0).two

    other_is : face_numbered s0 q0 ≡ Some other
    other_is = (agree0.links.meet q1 q0 joined0).two_is

    region_was : is_north was.face.face.region ≡ is_north z.face.region
    region_was = ap (λ (o : Outline K). is_north o.region) was.alike

    turned_ : is_north other.face.region ≡ not (is_north z.face.region)
    turned_ =
        let one : (agree0.links.meet q1 q0 joined0).one ≡ was.face = (let e : Some (agree0.links.meet q1 q0 joined0).one ≡ Some was.face = sym (agree0.links.meet q1 q0 joined0).one_is ∙ was.is in cc) in
        (agree0.links.meet q1 q0 joined0).one_leads_up ∙ ap (λ (x : FaceAt K). not (is_north x.face.region)) one ∙ ap not region_was

    outlines_ : (node0 : Node K) × (nth j s0.gateways ≡ Some node0) × (map outline node.rows.faces ≡ map outline node0.rows.faces)
    outlines_ = let was_ = node_was cmp matching tokens s0 s since.framed j node at_j in (was_.0, was_.1, ap (λ (f : Frame K). f.outlines) was_.2)

    abbrev OS : List (Outline K)
    OS = os cmp matching tokens total_order equal_is_same node.rows sound_ tree_ in_

    abbrev DOWN : ℕ
    DOWN = Down cmp matching tokens total_order equal_is_same node.rows sound_ tree_ in_ (Price j) (EndPrice j)

    abbrev UP : ℕ
    UP = Up cmp matching tokens total_order equal_is_same node.rows sound_ tree_ in_ (Price j) (EndPrice j)

    falls_are : steps_down_from s0 j ≡ 1 + DOWN
    falls_are = falls_by_faces cmp matching s0 fine0 agree0 T j outlines_.0 outlines_.1 ∙ ap (λ xs. 1 + total (λ (o : Outline K). if is_north o.region then 0 else Price j o.number) xs) (sym outlines_.2)

    entities_are_ : most_answers T s0 j ≡ 3 * T + Entities cmp matching tokens total_order equal_is_same node.rows sound_ tree_ in_ (Price j) (EndPrice j) + 2
    entities_are_ = ap (λ k. 3 * T + k + 2) (entities_by_faces cmp matching s0 fine0 agree0 j outlines_.0 outlines_.1 ∙ ap (λ xs. total (λ (o : Outline K). length o.subscribers + length o.queryables) xs) (sym outlines_.2))

    rises_are : steps_up_from T s0 j ≡ (3 * T + Entities cmp matching tokens total_order equal_is_same node.rows sound_ tree_ in_ (Price j) (EndPrice j) + 2) * steps_down_from s0 j + UP
    rises_are = rises_by_faces cmp matching s0 fine0 agree0 T j outlines_.0 outlines_.1 ∙ ap (λ k. most_answers T s0 j * steps_down_from s0 j + k) (ap (λ xs. total (λ (o : Outline K). if is_north o.region then Price j o.number else 0) xs) (sym outlines_.2)) ∙ ap (λ k. k * steps_down_from s0 j + UP) entities_are_

    abbrev Then : PlainCall K → Type 0
    Then c = Lessens (after_call cmp matching total_order equal_is_same s fine agree (record s { waiting = taken q0 s.waiting }) (Some (record { gateway = j; rows = node.rows; call = c })))

    -- a call's cost is within what its message weighs
    then_ : (c : PlainCall K) (still : opens_face c ≡ false) (most : ℕ) → RunsWithin cmp matching tokens (Price j) (EndPrice j) (parts_of cmp matching c node.rows) node.rows most → most + 1 ≤ Weight q0 m → Then c
    then_ c still most runs within =
        subst Lessens (sym (after_is cmp matching total_order s fine agree j node c (printed_by cmp matching total_order equal_is_same s fine agree j node c) (taken q0 s.waiting) at_j still (prints_sorted s.faces j (said cmp matching c node.rows))))
        (called j node at_j c still q0 m rest most oldest_is runs within)

    abbrev Mode : WhatAmI
    Mode = node.rows.mode

    abbrev rises_ : RiseFrom (λ (o : Outline K). o.number) 1 OS
    rises_ = rises cmp matching tokens total_order equal_is_same node.rows sound_ tree_ in_

    abbrev plain_ : NoRouters Mode OS
    plain_ = plain cmp matching tokens total_order equal_is_same node.rows sound_ tree_ in_

    framed_ : Framed Mode OS node.rows
    framed_ = framed cmp matching tokens total_order equal_is_same node.rows sound_ tree_ in_

    outside_ : is_routed node.rows z.face ≡ false
    outside_ = outside cmp matching tokens total_order equal_is_same node.rows sound_ tree_ in_ z.face.number z.face found

    -- what a message weighs that ends no interest
    abbrev IsMildly : Type 0
    IsMildly = Weight q0 m ≡ steps_beyond T s0 q0

    -- ---- what falls

    module _ (north : is_north z.face.region ≡ true) where
      fallen_weight : steps_beyond T s0 q0 ≡ 1 + DOWN
      fallen_weight =
          let south : is_north other.face.region ≡ false = turned_ ∙ ap not north in
          falls_to cmp matching s0 fine0 agree0 T q0 q1 other was.face (joined_back s0 q1 q0 joined0) other_is was.is south ∙ ap (steps_down_from s0) was.gateway ∙ falls_are

      fallen : (c : PlainCall K) (still : opens_face c ≡ false) (most : ℕ) → IsMildly → most ≤ DOWN → RunsWithin cmp matching tokens (Price j) (EndPrice j) (parts_of cmp matching c node.rows) node.rows most → Then c
      fallen c still most mild less runs = let weighs = fallen_weight in then_ c still most runs (omega arith)

      pub fallen_token : (id n : ℕ) (e : K) (i : Option ℕ) → is_among cmp e tokens ≡ true → IsMildly → Then (DeclareToken z.face.number id e n i)
      fallen_token id n e i there mild =
          fallen (DeclareToken z.face.number id e n i) refl DOWN mild (omega arith)
          (fallen_declare cmp matching tokens (Price j) (EndPrice j) Mode OS rises_ plain_ total_order equal_is_same z.face.number id n e i z.face node.rows framed_ found outside_ north there)

      pub fallen_untoken : (id n : ℕ) (given : Option K) → IsMildly → Then (UndeclareToken z.face.number id given n)
      fallen_untoken id n given mild =
          fallen (UndeclareToken z.face.number id given n) refl DOWN mild (omega arith)
          (fallen_undeclare cmp matching tokens (Price j) (EndPrice j) Mode OS rises_ plain_ total_order equal_is_same z.face.number id n given z.face node.rows framed_ found outside_
          (live_rise cmp matching tokens total_order equal_is_same node.rows sound_ tree_ in_ z.face.number z.face found) north (looks cmp matching tokens total_order equal_is_same node.rows sound_ tree_ in_ (Price j) (EndPrice j)))

      pub fallen_final : (id : ℕ) → IsMildly → Then (DeclareFinal z.face.number id)
      fallen_final id mild =
          fallen (DeclareFinal z.face.number id) refl 0 mild (omega arith)
          (finish_runs cmp matching tokens (Price j) (EndPrice j) Mode OS rises_ plain_ z.face.number id z.face node.rows framed_ found)

    -- ---- what rises

    module _ (south : is_north z.face.region ≡ false) where
      risen_weight : steps_beyond T s0 q0 ≡ (3 * T + Entities cmp matching tokens total_order equal_is_same node.rows sound_ tree_ in_ (Price j) (EndPrice j) + 2) * steps_down_from s0 j + UP
      risen_weight =
          let north : is_north other.face.region ≡ true = turned_ ∙ ap not south in
          rises_to cmp matching s0 fine0 agree0 T q0 q1 other was.face (joined_back s0 q1 q0 joined0) other_is was.is north ∙ ap (steps_up_from T s0) was.gateway ∙ rises_are

      risen : (c : PlainCall K) (still : opens_face c ≡ false) → IsMildly → RunsWithin cmp matching tokens (Price j) (EndPrice j) (parts_of cmp matching c node.rows) node.rows (DOWN + UP) → Then c
      risen c still mild runs =
          let weighs = risen_weight in
          let fits = token_fits T (Entities cmp matching tokens total_order equal_is_same node.rows sound_ tree_ in_ (Price j) (EndPrice j)) DOWN (steps_down_from s0 j) UP falls_are in
          then_ c still (DOWN + UP) runs (omega arith)

      pub risen_token : (id n : ℕ) (e : K) (i : Option ℕ) → is_among cmp e tokens ≡ true → IsMildly → Then (DeclareToken z.face.number id e n i)
      risen_token id n e i there mild =
          risen (DeclareToken z.face.number id e n i) refl mild
          (risen_declare cmp matching tokens (Price j) (EndPrice j) Mode OS rises_ plain_ total_order equal_is_same z.face.number id n e i z.face node.rows framed_ found outside_ there)

      pub risen_untoken : (id n : ℕ) (given : Option K) → IsMildly → Then (UndeclareToken z.face.number id given n)
      risen_untoken id n given mild =
          risen (UndeclareToken z.face.number id given n) refl mild
          (risen_undeclare cmp matching tokens (Price j) (EndPrice j) Mode OS rises_ plain_ total_order equal_is_same z.face.number id n given z.face node.rows framed_ found outside_)

      pub risen_interest : (id : ℕ) (mode : InterestMode) (options : InterestOptions) (e : Option K) → IsMildly → Then (Interest z.face.number id mode options e)
      risen_interest id mode options e mild =
          let p = Price j z.face.number in
          let weighs = risen_weight in
          let entities = Entities cmp matching tokens total_order equal_is_same node.rows sound_ tree_ in_ (Price j) (EndPrice j) in
          let member = down_member cmp matching tokens total_order equal_is_same node.rows sound_ tree_ in_ (Price j) (EndPrice j) z.face.number z.face found south in
          let fits = interest_fits T entities p DOWN (steps_down_from s0 j) UP member falls_are in
          let once = up_once cmp matching tokens total_order equal_is_same node.rows sound_ tree_ in_ (Price j) (EndPrice j) in
          let sum = entities_are cmp matching tokens total_order equal_is_same node.rows sound_ tree_ in_ (Price j) (EndPrice j) p in
          let count = times_is p tokens in
          then_ (Interest z.face.number id mode options e) refl (interest_most cmp matching tokens (Price j) (EndPrice j) Mode OS rises_ plain_ total_order equal_is_same z.face.number)
          (interest_runs cmp matching tokens (Price j) (EndPrice j) Mode OS rises_ plain_ total_order equal_is_same z.face.number id mode options e z.face node.rows framed_ found in_) (omega arith)

      its_number : number_of_place s0 j z.face.number ≡ q1
      its_number = ap (λ g. number_of_place s0 g z.face.number) (sym was.gateway) ∙ ap (λ (o : Outline K). number_of_place s0 was.face.gateway o.number) (sym was.alike) ∙ number_is_its cmp matching s0 q1 was.face fine0 was.is

      pub risen_end : (id : ℕ) → m ≡ message.InterestFinal id → Then (InterestFinal z.face.number id)
      risen_end id is =
          let p = Price j z.face.number in
          let down_was : is_north was.face.face.region ≡ false = region_was ∙ south in
          let price_is : p ≡ steps_down_from s0 other.gateway = ap (steps_beyond T s0) its_number ∙ falls_to cmp matching s0 fine0 agree0 T q1 q0 was.face other joined0 was.is other_is down_was in
          let weighs : Weight q0 m ≡ steps_to_end T s0 other.gateway = ap (Weight q0) is ∙ ap (λ (o : Option (FaceAt K)). (let n : ℕ = elim o [ None ↦ 0 | Some x ↦ steps_to_end T s0 x.gateway ] in n)) other_is in
          let at_ : T * p ≡ T * steps_down_from s0 other.gateway = ap (λ k. T * k) price_is in
          let count = times_is p tokens in
          then_ (InterestFinal z.face.number id) refl (times p tokens)
          (end_runs cmp matching tokens (Price j) (EndPrice j) Mode OS rises_ plain_ total_order equal_is_same z.face.number id z.face node.rows framed_ found (told_tokens cmp matching tokens total_order equal_is_same node.rows sound_ tree_ in_)) (omega arith)

    -- ---- each message weighs something

    pub real_weight : 1 ≤ Weight q0 m
    real_weight = by_message m
      where
        passes : 1 ≤ steps_beyond T s0 q0
        passes =
            by_test (is_north z.face.region) (λ north. let is = fallen_weight north in omega arith)
            (λ south.
            let is = risen_weight south in
            let fits = token_fits T (Entities cmp matching tokens total_order equal_is_same node.rows sound_ tree_ in_ (Price j) (EndPrice j)) DOWN (steps_down_from s0 j) UP falls_are in
            omega arith)

        by_message : (x : Message K) → 1 ≤ Weight q0 x
        by_message (message.DeclareToken id e interest n) = passes
        by_message (message.UndeclareToken id e n) = passes
        by_message (message.DeclareFinal id) = passes
        by_message (message.Interest id mode options e) = passes
        by_message (message.DeclareSubscriber id e interest) = passes
        by_message (message.DeclareQueryable id e info interest) = passes
        by_message (message.InterestFinal id) =
            let weighs : Weight q0 (message.InterestFinal id) ≡ steps_to_end T s0 other.gateway = ap (λ (o : Option (FaceAt K)). (let n : ℕ = elim o [ None ↦ 0 | Some x ↦ steps_to_end T s0 x.gateway ] in n)) other_is in
            omega arith
