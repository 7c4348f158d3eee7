-- A fabric some steps after another: its links and the outlines of its faces are the same.
use Rattle.std.proofs.Common.{◌≡◌, ℕ, ◌+◌, ◌*◌, ◌-◌, ◌≤◌, Bool, true, not, ◌==◌, List, [], ◌∷◌, length, map, filter, Option, Some, None, option_map, refl, sym, ap, ◌∙◌, subst, arith, eqb-true}
use Rattle.std.specs.List.{sum_by}
use Rattle.std.specs.declared.cmp.Ordering.{Ordering}
use Rattle.zt_protocol.specs.declared.messages.Message.{Message}
use Rattle.zt_protocol.specs.declared.messages.Message.TheVariants as message
use Rattle.zt_model.specs.Fabric.{Fabric, Node, Place, at_nth, number_of_place}
use Rattle.zt_model.specs.Lists.{first_where, is_among, nth}
use Rattle.zt_model.specs.Parts.{find_face}
use Rattle.zt_model.specs.Rows.{Ask, ById, Face}
use Rattle.zt_model.specs.Transcript.{FaceAt, face_numbered}
use Rattle.zt_laws.specs.Sound.{is_placed}
use Rattle.zt_laws.proofs.Entries.{nth_of_number}
use Rattle.zt_laws.proofs.Lists.{by_test, each_always}
use Rattle.zt_laws.proofs.Numbered.{nth_real}
use Rattle.zt_theorem_soundness.specs.Lines.{EachGatewayIs}
use Rattle.zt_theorem_soundness.specs.Sound.{IsSound}
use Rattle.zt_theorem_tree_invariant.specs.Facts.{TreesAgree}
use Rattle.zt_theorem_tree_invariant.proofs.Members.{is_there, numbered}
use Rattle.zt_theorem_tree_only_what_lived.proofs.Everywhere.{Everywhere}
use Rattle.zt_theorem_tree_rest.specs.Steps.{QueuesStand, steps_to_end, steps_beyond, steps_due, steps_due_from, steps_left, steps_of, steps_of_queue, unanswered}
use Rattle.zt_theorem_tree_rest.proofs.Frames.{Frame, Outline, frame_of, outline}
use Rattle.zt_theorem_tree_rest.proofs.Prices.{left, message_price, owed}
use Rattle.zt_theorem_tree_rest.proofs.Sends.{owed_by}
use Rattle.zt_theorem_tree_rest.proofs.Sums.{times, times_is, total, total_alike, total_is}
use Rattle.zt_theorem_tree_rest.proofs.Waiting.{no_number, queues}

some_is : {A : Type 0} {u v : A} → Some u ≡ Some v → u ≡ v
some_is h = cc

nth-map : {A B : Type 0} (n : ℕ) (f : A → B) (xs : List A) → nth n (map f xs) ≡ option_map f (nth n xs)
nth-map n f [] = refl
nth-map n f (x ∷ xs) = by_test (n == 1) (λ here. rw here refl) (λ here. rw here (nth-map (n - 1) f xs))

nth_zero : {A : Type 0} (xs : List A) → nth 0 xs ≡ None
nth_zero [] = refl
nth_zero (x ∷ xs) = nth_zero xs

-- the frames of all gateways
abbrev pub frames : {K : Type 0} → List (Node K) → List (Frame K)
frames gs = map (λ node. frame_of node.rows) gs

module _ {K : Type 0} (cmp : K → K → Ordering) (matching : K → K → Bool) (tokens : List K) (s0 : Fabric K) where
  -- What stays true while steps follow one another, with what calls need: all is sound, trees agree, the tokens are those
  -- that were there, and the queues are of different faces.
  pub record Since (s : Fabric K) : Type 0 where
    pub links : s.links ≡ s0.links
    pub places : s.faces ≡ s0.faces
    pub framed : frames s.gateways ≡ frames s0.gateways
    pub sound : EachGatewayIs cmp matching (IsSound cmp matching) s
    pub agree : TreesAgree cmp matching s
    pub everywhere : Everywhere (λ e. is_among cmp e tokens ≡ true) s
    pub queued : QueuesStand s

  -- ---- gateways and faces then and now

  pub node_was : (s : Fabric K) → frames s.gateways ≡ frames s0.gateways → (j : ℕ) (node : Node K) → nth j s.gateways ≡ Some node
      → (node0 : Node K) × (nth j s0.gateways ≡ Some node0) × (frame_of node.rows ≡ frame_of node0.rows)
  node_was s same_ j node at_ =
      let make = λ (x : Node K). frame_of x.rows in
      by_node (nth j s0.gateways) refl
      (sym (ap (option_map make) at_) ∙ sym (nth-map j make s.gateways) ∙ ap (nth j) same_ ∙ nth-map j make s0.gateways)
    where
      by_node : (o : Option (Node K)) → nth j s0.gateways ≡ o → Some (frame_of node.rows) ≡ option_map (λ (x : Node K). frame_of x.rows) (nth j s0.gateways)
          → (node0 : Node K) × (nth j s0.gateways ≡ Some node0) × (frame_of node.rows ≡ frame_of node0.rows)
      by_node None is e = let bad : Some (frame_of node.rows) ≡ None = e ∙ ap (option_map (λ (x : Node K). frame_of x.rows)) is in cc
      by_node (Some node0) is e = (node0, is, some_is (e ∙ ap (option_map (λ (x : Node K). frame_of x.rows)) is))

  pub found_outline : (n : ℕ) (fs : List (Face K)) → option_map outline (first_where (λ (f : Face K). n == f.number) fs) ≡ first_where (λ (o : Outline K). n == o.number) (map outline fs)
  found_outline n [] = refl
  found_outline n (f ∷ fs) = by_test (n == f.number) (λ here. rw here refl) (λ here. rw here (found_outline n fs))

  found_alike : (n : ℕ) (fs gs : List (Face K)) (f : Face K) → map outline fs ≡ map outline gs → first_where (λ (h : Face K). n == h.number) fs ≡ Some f → (g : Face K) × (first_where (λ (h : Face K). n == h.number) gs ≡ Some g) × (outline g ≡ outline f)
  found_alike n fs gs f same_ at_ =
      by_face (first_where (λ (h : Face K). n == h.number) gs) refl
      (sym (ap (option_map outline) at_) ∙ found_outline n fs ∙ ap (first_where (λ (o : Outline K). n == o.number)) same_ ∙ sym (found_outline n gs))
    where
      by_face : (o : Option (Face K)) → first_where (λ (h : Face K). n == h.number) gs ≡ o → Some (outline f) ≡ option_map outline (first_where (λ (h : Face K). n == h.number) gs) → (g : Face K) × (first_where (λ (h : Face K). n == h.number) gs ≡ Some g) × (outline g ≡ outline f)
      by_face None is e = let bad : Some (outline f) ≡ None = e ∙ ap (option_map outline) is in cc
      by_face (Some g) is e = (g, is, sym (some_is (e ∙ ap (option_map outline) is)))

  -- a face then
  pub record Was (k : ℕ) (z : FaceAt K) : Type 0 where
    pub face : FaceAt K
    pub is : face_numbered s0 k ≡ Some face
    pub gateway : face.gateway ≡ z.gateway
    pub alike : outline face.face ≡ outline z.face

  pub face_was : (s : Fabric K) → s.faces ≡ s0.faces → frames s.gateways ≡ frames s0.gateways → (k : ℕ) (z : FaceAt K) → face_numbered s k ≡ Some z → Was k z
  face_was s places same_ k z found =
      let at_ = is_there s k z found in
      let was = node_was s same_ z.gateway at_.node at_.node_is in
      let here : find_face at_.place.face at_.node.rows ≡ Some z.face = ap (λ n. find_face n at_.node.rows) at_.number_is ∙ ap (find_face z.face.number) at_.rows_are ∙ at_.face_is in
      let face_ = found_alike at_.place.face at_.node.rows.faces was.0.rows.faces z.face (ap (λ (f : Frame K). f.outlines) was.2) here in
      record {
        face = record { gateway = at_.place.gateway; rows = was.0.rows; face = face_.0 };
        is = numbered s0 k at_.place was.0 face_.0 (ap (nth k) (sym places) ∙ at_.place_is) (ap (λ g. nth g s0.gateways) at_.gateway_is ∙ was.1) face_.1;
        gateway = at_.gateway_is;
        alike = face_.2;
      }

  -- ---- what is left, as sums

  abbrev pub price : ℕ → ℕ → ℕ
  price j k = steps_beyond (length tokens) s0 (number_of_place s0 j k)

  abbrev pub end_price : ℕ → ℕ
  end_price j = steps_to_end (length tokens) s0 j

  abbrev pub weight : ℕ → Message K → ℕ
  weight k m = steps_of (length tokens) s0 k m

  abbrev pub dues : ℕ → List (Node K) → ℕ
  dues i [] = 0
  dues i (node ∷ nodes) = owed_by cmp tokens (price i) (end_price i) node.rows.faces + dues (i + 1) nodes

  due_is : (n : ℕ) (f : Face K) → steps_due cmp tokens s0 n f ≡ owed cmp tokens (price n) (end_price n) f
  due_is n f =
      let one = times_is (end_price n) f.locals in
      let two = total_is (λ row. (1 + unanswered cmp tokens row.1) * price n f.number) f.asks in
      let three = total_alike (λ row. (1 + unanswered cmp tokens row.1) * price n f.number) (λ row. left cmp tokens (price n) (end_price n) f.number row.1) f.asks
      (each_always (λ (row : ℕ × Ask K). (1 + unanswered cmp tokens row.1) * price n f.number ≡ left cmp tokens (price n) (end_price n) f.number row.1)
      (λ row. one_more (price n f.number) (filter (λ e. not (is_among cmp e row.1.answered)) tokens)) f.asks) in
      omega arith
    where
      one_more : (p : ℕ) (es : List K) → (1 + length es) * p ≡ p + times p es
      one_more p es = let is = times_is p es in omega arith

  dues_are : (i : ℕ) (nodes : List (Node K)) → steps_due_from cmp tokens s0 i nodes ≡ dues i nodes
  dues_are i [] = refl
  dues_are i (node ∷ nodes) =
      let one = total_is (steps_due cmp tokens s0 i) node.rows.faces in
      let two = total_alike (steps_due cmp tokens s0 i) (owed cmp tokens (price i) (end_price i)) node.rows.faces (each_always (λ f. steps_due cmp tokens s0 i f ≡ owed cmp tokens (price i) (end_price i) f) (due_is i) node.rows.faces) in
      let rest = dues_are (i + 1) nodes in
      omega arith

  queues_are : (w : ById (List (Message K))) → sum_by (steps_of_queue (length tokens) s0) w ≡ queues weight w
  queues_are w = total_is (steps_of_queue (length tokens) s0) w ∙ total_alike (steps_of_queue (length tokens) s0) (λ row. total (weight row.0) row.1) w (each_always (λ (row : ℕ × List (Message K)). steps_of_queue (length tokens) s0 row ≡ total (weight row.0) row.1) (λ row. total_is (weight row.0) row.1) w)

  pub left_is : (s : Fabric K) → steps_left cmp tokens s0 s ≡ queues weight s.waiting + dues 1 s.gateways
  left_is s = let one = queues_are s.waiting in let two = dues_are 1 s.gateways in omega arith

  -- a gateway changes
  pub dues_changed : (i m j : ℕ) (change : Node K → Node K) (nodes : List (Node K)) (node : Node K) → i + m ≡ j + 1 → nth m nodes ≡ Some node
      → dues i (at_nth m change nodes) + owed_by cmp tokens (price j) (end_price j) node.rows.faces ≡ dues i nodes + owed_by cmp tokens (price j) (end_price j) (change node).rows.faces
  dues_changed i m j change [] node e at_ = cc
  dues_changed i m j change (x ∷ nodes) node e at_ =
      by_test (m == 1)
      (λ here.
      let one : m ≡ 1 = eqb-true m 1 here in
      let j_is : i ≡ j = omega arith in
      let x_is : x ≡ node = some_is (rw here at at_) in
      rw here (subst (λ k. (owed_by cmp tokens (price i) (end_price i) (change x).rows.faces + dues (i + 1) nodes) + owed_by cmp tokens (price k) (end_price k) node.rows.faces ≡ (owed_by cmp tokens (price i) (end_price i) x.rows.faces + dues (i + 1) nodes) + owed_by cmp tokens (price k) (end_price k) (change node).rows.faces) j_is
      (subst (λ y. (owed_by cmp tokens (price i) (end_price i) (change x).rows.faces + dues (i + 1) nodes) + owed_by cmp tokens (price i) (end_price i) y.rows.faces ≡ (owed_by cmp tokens (price i) (end_price i) x.rows.faces + dues (i + 1) nodes) + owed_by cmp tokens (price i) (end_price i) (change y).rows.faces) x_is (omega arith))))
      (λ here.
      let at_rest : nth (m - 1) nodes ≡ Some node = rw here at at_ in
      let real = nth_real (m - 1) nodes node at_rest in
      let rest = dues_changed (i + 1) (m - 1) j change nodes node (omega arith) at_rest in
      rw here (omega arith))

  -- ---- a message of a gateway, by its face's number in scripts

  pub price_at_most : (j k : ℕ) (m : Message K) → weight (number_of_place s0 j k) m ≤ message_price cmp tokens (price j) (end_price j) k m
  price_at_most j k (message.DeclareToken id e interest node) = omega arith
  price_at_most j k (message.UndeclareToken id e node) = omega arith
  price_at_most j k (message.DeclareFinal id) = omega arith
  price_at_most j k (message.Interest id mode options e) = omega arith
  price_at_most j k (message.DeclareSubscriber id e interest) = omega arith
  price_at_most j k (message.DeclareQueryable id e info interest) = omega arith
  price_at_most j k (message.InterestFinal id) = by_face (face_numbered s0 (number_of_place s0 j k)) refl
    where
      its_gateway : (x : FaceAt K) → face_numbered s0 (number_of_place s0 j k) ≡ Some x → x.gateway ≡ j
      its_gateway x found =
          let at_ = is_there s0 (number_of_place s0 j k) x found in
          by_test (is_placed j k s0.faces)
          (λ here.
          let n = number_of_place s0 j k in
          let n_is : n + 1 - 1 ≡ n = omega arith in
          let place_ : nth n s0.faces ≡ Some (record { gateway = j; face = k }) = ap (λ i. nth i s0.faces) (sym n_is) ∙ nth_of_number 1 j k s0.faces here in
          sym at_.gateway_is ∙ ap (λ (p : Place). p.gateway) (some_is (sym at_.place_is ∙ place_)))
          (λ here. let bad : Some at_.place ≡ None = sym at_.place_is ∙ ap (λ i. nth i s0.faces) (no_number 1 j k s0.faces here) ∙ nth_zero s0.faces in cc)

      by_face : (o : Option (FaceAt K)) → face_numbered s0 (number_of_place s0 j k) ≡ o → (let n : ℕ = elim o [ None ↦ 0 | Some x ↦ steps_to_end (length tokens) s0 x.gateway ] in n) ≤ steps_to_end (length tokens) s0 j
      by_face None is = omega arith
      by_face (Some x) is = let same_ : steps_to_end (length tokens) s0 x.gateway ≡ steps_to_end (length tokens) s0 j = ap (steps_to_end (length tokens) s0) (its_gateway x is) in omega arith
