-- How many steps messages come to, gateway by gateway of a fabric of trees.
use Rattle.std.proofs.Common.{◌≡◌, ℕ, zero, suc, ◌+◌, ◌-◌, ◌*◌, ◌≤◌, ◌<◌, Bool, true, false, not, if◌then◌else◌, ◌&&◌, ◌==◌, List, [], length, map, Option, Some, None, option_map, refl, sym, ap, ◌∙◌, subst, arith, eq-eqb, ⊎_elim}
use Rattle.std.proofs.lemmas.Bool.{and_from, and_parts, or_cases, or_left, or_right}
use Rattle.std.specs.List.{list_any, sum_by}
use Rattle.std.specs.Option.{option_to_list}
use Rattle.std.specs.declared.cmp.Ordering.{Ordering}
use Rattle.zt_region.specs.Region.{is_north}
use Rattle.zt_model.specs.Fabric.{Fabric, Link, Node, Place, number_from, number_of_place}
use Rattle.zt_model.specs.Linking.{gateway_beyond, is_end_of}
use Rattle.zt_model.specs.Lists.{first_where, nth}
use Rattle.zt_model.specs.Parts.{find_face}
use Rattle.zt_model.specs.Rows.{Face}
use Rattle.zt_model.specs.Transcript.{Each, FaceAt, face_numbered}
use Rattle.zt_laws.specs.Order.{FabricIsInOrder}
use Rattle.zt_laws.specs.Sound.{is_placed}
use Rattle.zt_laws.proofs.Entries.{found_where, nth_of_number}
use Rattle.zt_laws.proofs.Hearing.{find_passes}
use Rattle.zt_laws.proofs.Lists.{any_weaker, by_test, each_both, each_weaker, never}
use Rattle.zt_laws.proofs.LinesOrder.{gateway_in_order}
use Rattle.zt_laws.proofs.Numbered.{nth_real, nth_within}
use Rattle.zt_laws.proofs.ToldFrom.{found_by_number}
use Rattle.zt_theorem_tree_invariant.specs.Facts.{TreesAgree}
use Rattle.zt_theorem_tree_invariant.specs.Joints.{are_joined, joins}
use Rattle.zt_theorem_tree_invariant.proofs.Climbing.{any_found}
use Rattle.zt_theorem_tree_invariant.proofs.Members.{is_there, numbered}
use Rattle.zt_theorem_tree_invariant.proofs.Quiet.{joined_back}
use Rattle.zt_theorem_tree_rest.specs.Steps.{beyond, entities_at, faces_of, steps_down, steps_down_from, most_answers, steps_beyond, steps_up, steps_up_from}
use Rattle.zt_theorem_tree_rest.proofs.Frames.{Outline, outline}
use Rattle.zt_theorem_tree_rest.proofs.Sums.{total, total-map, total_alike, total_is, total_none}

some_is : {A : Type 0} {u v : A} → Some u ≡ Some v → u ≡ v
some_is h = cc

module _ {K : Type 0} (cmp : K → K → Ordering) (matching : K → K → Bool) (s : Fabric K) (fine : FabricIsInOrder cmp matching s) (agree : TreesAgree cmp matching s) where
  -- each face of a gateway, by its number in scripts
  abbrev pub IsFound : ℕ → Node K → Face K → Type 0
  IsFound n node f = face_numbered s (number_of_place s n f.number) ≡ Some (record { gateway = n; rows = node.rows; face = f })

  pub faces_found : (n : ℕ) (node : Node K) → nth n s.gateways ≡ Some node → Each (IsFound n node) node.rows.faces
  faces_found n node at_ =
      let gateway = gateway_in_order cmp matching s n node at_ fine in
      each_both (λ f. find_face f.number node.rows ≡ Some f) (λ f. is_placed n f.number s.faces ≡ true) (IsFound n node)
      (λ f found placed.
      let k = number_from 1 n f.number s.faces in
      let k_is : k + 1 - 1 ≡ k = omega arith in
      let place_ : nth k s.faces ≡ Some (record { gateway = n; face = f.number }) = ap (λ j. nth j s.faces) (sym k_is) ∙ nth_of_number 1 n f.number s.faces placed in
      numbered s k (record { gateway = n; face = f.number }) node f place_ at_ found)
      node.rows.faces (found_by_number 1 node.rows.faces gateway.rows.lists.faces_rise) gateway.placed

  pub joins_other : (a : ℕ) (link : Link) → is_end_of a link ≡ true → joins a (if a == link.one then link.two else link.one) link ≡ true
  joins_other a link end_ =
      by_test (a == link.one)
      (λ here. rw here (or_left (true && (link.two == link.two)) _ (and_from true (link.two == link.two) refl (eq-eqb link.two link.two refl))))
      (λ here.
      let two : (a == link.two) ≡ true = ⊎_elim (λ one. never one here) (λ t. t) (or_cases (a == link.one) (a == link.two) end_) in
      rw here (or_right (false && (link.one == link.two)) _ (and_from (a == link.two) (link.one == link.one) two (eq-eqb link.one link.one refl))))

  -- the face at the other end of a face's open link
  pub record Leads (k : ℕ) (x : FaceAt K) (n : ℕ) : Type 0 where
    pub other : ℕ
    pub y : FaceAt K
    pub joined : are_joined s k other ≡ true
    pub y_is : face_numbered s other ≡ Some y
    pub gateway : y.gateway ≡ n
    pub turned : is_north y.face.region ≡ not (is_north x.face.region)

  pub leads : (k : ℕ) (x : FaceAt K) (n : ℕ) → face_numbered s k ≡ Some x → gateway_beyond s k ≡ Some n → Leads k x n
  leads k x n x_is beyond_ = by_link (first_where test s.links) refl beyond_
    where
      test : Link → Bool
      test link = link.is_open && is_end_of k link

      by_link : (o : Option Link) → first_where test s.links ≡ o → (let g : Option ℕ = elim o [ None ↦ None | Some link ↦ option_map (λ (p : Place). p.gateway) (nth (if k == link.one then link.two else link.one) s.faces) ] in g) ≡ Some n → Leads k x n
      by_link None is e = cc
      by_link (Some link) is e =
          let other : ℕ = if k == link.one then link.two else link.one in
          let parts = and_parts link.is_open (is_end_of k link) (find_passes test s.links link is) in
          let joined : are_joined s k other ≡ true = any_found test (λ l. l.is_open && joins k other l) s.links link is (and_from link.is_open (joins k other link) parts.0 (joins_other k link parts.1)) in
          let ends = agree.links.meet k other joined in
          let own : ends.one ≡ x = some_is (sym ends.one_is ∙ x_is) in
          let at_ = is_there s other ends.two ends.two_is in
          let gateway_ : Some at_.place.gateway ≡ Some n = sym (ap (option_map (λ (p : Place). p.gateway)) at_.place_is) ∙ e in
          record { other = other; y = ends.two; joined = joined; y_is = ends.two_is; gateway = sym at_.gateway_is ∙ some_is gateway_; turned = ends.one_leads_up ∙ ap (λ (z : FaceAt K). not (is_north z.face.region)) own }

  -- the gateway at the other end of a joined face
  pub beyond_is : (a b : ℕ) (y : FaceAt K) → are_joined s a b ≡ true → face_numbered s b ≡ Some y → gateway_beyond s a ≡ Some y.gateway
  beyond_is a b y joined y_is =
      let test = λ (link : Link). link.is_open && is_end_of a link in
      let some : list_any test s.links ≡ true = any_weaker (λ link. link.is_open && joins a b link) test
      (λ link h.
      let parts = and_parts link.is_open (joins a b link) h in
      and_from link.is_open (is_end_of a link) parts.0
      (⊎_elim (λ one. or_left (a == link.one) (a == link.two) (and_parts (a == link.one) (b == link.two) one).0) (λ two. or_right (a == link.one) (a == link.two) (and_parts (a == link.two) (b == link.one) two).0) (or_cases ((a == link.one) && (b == link.two)) ((a == link.two) && (b == link.one)) parts.1)))
      s.links joined in
      let found = found_where test s.links some in
      let link = found.0 in
      let parts = and_parts link.is_open (is_end_of a link) (find_passes test s.links link found.1) in
      let other : ℕ = if a == link.one then link.two else link.one in
      let joined_other : are_joined s a other ≡ true = any_found test (λ k. k.is_open && joins a other k) s.links link found.1 (and_from link.is_open (joins a other link) parts.0 (joins_other a link parts.1)) in
      let other_is : other ≡ b = agree.links.once a other b joined_other joined in
      let at_ = is_there s b y y_is in
      ap (λ (o : Option Link). (let g : Option ℕ = elim o [ None ↦ None | Some k ↦ option_map (λ (p : Place). p.gateway) (nth (if a == k.one then k.two else k.one) s.faces) ] in g)) found.1
      ∙ ap (λ k. option_map (λ (p : Place). p.gateway) (nth k s.faces)) other_is
      ∙ ap (option_map (λ (p : Place). p.gateway)) at_.place_is
      ∙ ap Some at_.gateway_is

  -- ---- ranks

  abbrev rank : ℕ → ℕ
  rank n = agree.forest.rank n

  pub down_ranks : (k : ℕ) (x : FaceAt K) (n : ℕ) → face_numbered s k ≡ Some x → is_north x.face.region ≡ false → gateway_beyond s k ≡ Some n → rank x.gateway < rank n
  down_ranks k x n x_is down beyond_ =
      let to = leads k x n x_is beyond_ in
      let up : is_north to.y.face.region ≡ true = to.turned ∙ ap not down in
      subst (λ m. rank x.gateway < rank m) to.gateway (agree.forest.falls to.other k to.y x (joined_back s k to.other to.joined) to.y_is x_is up)

  pub up_ranks : (k : ℕ) (x : FaceAt K) (n : ℕ) → face_numbered s k ≡ Some x → is_north x.face.region ≡ true → gateway_beyond s k ≡ Some n → rank n < rank x.gateway
  up_ranks k x n x_is up beyond_ = let to = leads k x n x_is beyond_ in subst (λ m. rank m < rank x.gateway) to.gateway (agree.forest.falls k to.other x to.y to.joined x_is to.y_is up)

  -- sums over the faces of a gateway that agree where each face is found
  faces_alike : (u w : ℕ → Face K → ℕ) (n : ℕ) → ((x : FaceAt K) → x.gateway ≡ n → face_numbered s (number_of_place s n x.face.number) ≡ Some x → u n x.face ≡ w n x.face) → sum_by (u n) (faces_of s n) ≡ sum_by (w n) (faces_of s n)
  faces_alike u w n h = by_node (nth n s.gateways) refl
    where
      by_node : (o : Option (Node K)) → nth n s.gateways ≡ o → (let fs : List (Face K) = elim o [ None ↦ [] | Some node ↦ node.rows.faces ] in sum_by (u n) fs ≡ sum_by (w n) fs)
      by_node None at_ = refl
      by_node (Some node) at_ =
          total_is (u n) node.rows.faces
          ∙ total_alike (u n) (w n) node.rows.faces (each_weaker (IsFound n node) (λ f. u n f ≡ w n f) (λ f found. h (record { gateway = n; rows = node.rows; face = f }) refl found) node.rows.faces (faces_found n node at_))
          ∙ sym (total_is (w n) node.rows.faces)

  -- ---- falling

  -- more levels than there are below count nothing more
  pub falls_more : (levels n : ℕ) → length s.gateways ≤ levels + rank n → steps_down (suc levels) s n ≡ steps_down levels s n
  unfolding steps_down
  falls_more zero n low =
      let none_ = faces_alike (λ n f. if is_north f.region then 0 else sum_by (steps_down zero s) (beyond s (number_of_place s n f.number))) (λ n f. 0) n
      (λ x here found.
      by_test (is_north x.face.region) (λ up. rw up refl)
      (λ down. rw down (by_beyond x here found down (gateway_beyond s (number_of_place s n x.face.number)) refl))) in
      let zero_ = total_is (λ (f : Face K). 0) (faces_of s n) ∙ total_none (faces_of s n) in
      omega arith
    where
      by_beyond : (x : FaceAt K) → x.gateway ≡ n → face_numbered s (number_of_place s n x.face.number) ≡ Some x → is_north x.face.region ≡ false → (o : Option ℕ) → gateway_beyond s (number_of_place s n x.face.number) ≡ o → sum_by (steps_down zero s) (option_to_list o) ≡ 0
      by_beyond x here found down None is = refl
      by_beyond x here found down (Some m) is =
          let less = down_ranks (number_of_place s n x.face.number) x m found down is in
          let at_ : rank x.gateway ≡ rank n = ap rank here in
          let within = agree.forest.within m in
          absurd (omega arith)
  falls_more (suc levels) n low =
      ap (λ k. 1 + k)
      (faces_alike (λ n f. if is_north f.region then 0 else sum_by (steps_down (suc levels) s) (beyond s (number_of_place s n f.number))) (λ n f. if is_north f.region then 0 else sum_by (steps_down levels s) (beyond s (number_of_place s n f.number))) n
      (λ x here found.
      by_test (is_north x.face.region) (λ up. rw up refl)
      (λ down. rw down (by_beyond x here found down (gateway_beyond s (number_of_place s n x.face.number)) refl (λ m more. falls_more levels m more)))))
    where
      by_beyond : (x : FaceAt K) → x.gateway ≡ n → face_numbered s (number_of_place s n x.face.number) ≡ Some x → is_north x.face.region ≡ false → (o : Option ℕ) → gateway_beyond s (number_of_place s n x.face.number) ≡ o
          → ((m : ℕ) → length s.gateways ≤ levels + rank m → steps_down (suc levels) s m ≡ steps_down levels s m) → sum_by (steps_down (suc levels) s) (option_to_list o) ≡ sum_by (steps_down levels s) (option_to_list o)
      by_beyond x here found down None is more = refl
      by_beyond x here found down (Some m) is more =
          let less = down_ranks (number_of_place s n x.face.number) x m found down is in
          let at_ : rank x.gateway ≡ rank n = ap rank here in
          ap (λ k. 0 + k) (more m (omega arith))

  pub falls_suc : (levels n : ℕ) → steps_down (suc levels) s n ≡ 1 + sum_by (λ f. if is_north f.region then 0 else sum_by (steps_down levels s) (beyond s (number_of_place s n f.number))) (faces_of s n)
  unfolding steps_down
  falls_suc levels n = refl

  -- ---- rising

  -- more levels than there are above count nothing more
  pub rises_more : (tokens levels n : ℕ) → rank n < levels → steps_up (suc levels) tokens s n ≡ steps_up levels tokens s n
  unfolding steps_up
  rises_more tokens zero n low = absurd (omega arith)
  rises_more tokens (suc levels) n low =
      ap (λ k. most_answers tokens s n * steps_down_from s n + k)
      (faces_alike (λ n f. if is_north f.region then sum_by (steps_up (suc levels) tokens s) (beyond s (number_of_place s n f.number)) else 0) (λ n f. if is_north f.region then sum_by (steps_up levels tokens s) (beyond s (number_of_place s n f.number)) else 0) n
      (λ x here found.
      by_test (is_north x.face.region)
      (λ up. rw up (by_beyond x here found up (gateway_beyond s (number_of_place s n x.face.number)) refl (λ m more. rises_more tokens levels m more)))
      (λ down. rw down refl)))
    where
      by_beyond : (x : FaceAt K) → x.gateway ≡ n → face_numbered s (number_of_place s n x.face.number) ≡ Some x → is_north x.face.region ≡ true → (o : Option ℕ) → gateway_beyond s (number_of_place s n x.face.number) ≡ o
          → ((m : ℕ) → rank m < levels → steps_up (suc levels) tokens s m ≡ steps_up levels tokens s m) → sum_by (steps_up (suc levels) tokens s) (option_to_list o) ≡ sum_by (steps_up levels tokens s) (option_to_list o)
      by_beyond x here found up None is more = refl
      by_beyond x here found up (Some m) is more =
          let less = up_ranks (number_of_place s n x.face.number) x m found up is in
          let at_ : rank x.gateway ≡ rank n = ap rank here in
          ap (λ k. 0 + k) (more m (omega arith))

  -- ---- at a gateway

  -- what a message for a face of a gateway comes to
  abbrev pub price_at : ℕ → ℕ → ℕ → ℕ
  price_at tokens n k = steps_beyond tokens s (number_of_place s n k)

  abbrev pub down_price : (ℕ → ℕ) → Outline K → ℕ
  down_price price o = if is_north o.region then 0 else price o.number

  abbrev pub up_price : (ℕ → ℕ) → Outline K → ℕ
  up_price price o = if is_north o.region then price o.number else 0

  price_is : (tokens k : ℕ) (x : FaceAt K) → face_numbered s k ≡ Some x → steps_beyond tokens s k ≡ sum_by (λ n. if is_north x.face.region then steps_up_from tokens s n else steps_down_from s n) (beyond s k)
  price_is tokens k x found = ap (λ (o : Option (FaceAt K)). (let n : ℕ = elim o [ None ↦ 0 | Some y ↦ sum_by (λ n. if is_north y.face.region then steps_up_from tokens s n else steps_down_from s n) (beyond s k) ] in n)) found

  faces_are : (n : ℕ) (node : Node K) → nth n s.gateways ≡ Some node → faces_of s n ≡ node.rows.faces
  faces_are n node at_ = ap (λ (o : Option (Node K)). (let fs : List (Face K) = elim o [ None ↦ [] | Some x ↦ x.rows.faces ] in fs)) at_

  by_outlines : (w : Outline K → ℕ) (n : ℕ) (node : Node K) → nth n s.gateways ≡ Some node → sum_by (λ f. w (outline f)) (faces_of s n) ≡ total w (map outline node.rows.faces)
  by_outlines w n node at_ = ap (sum_by (λ f. w (outline f))) (faces_are n node at_) ∙ total_is (λ f. w (outline f)) node.rows.faces ∙ sym (total-map w outline node.rows.faces)

  pub falls_by_faces : (tokens n : ℕ) (node : Node K) → nth n s.gateways ≡ Some node → steps_down_from s n ≡ 1 + total (down_price (price_at tokens n)) (map outline node.rows.faces)
  falls_by_faces tokens n node at_ = by_levels (length s.gateways) refl
    where
      level : (x : FaceAt K) → x.gateway ≡ n → face_numbered s (number_of_place s n x.face.number) ≡ Some x → is_north x.face.region ≡ false → (levels : ℕ) → length s.gateways ≡ suc levels → (o : Option ℕ) → gateway_beyond s (number_of_place s n x.face.number) ≡ o
          → sum_by (steps_down levels s) (option_to_list o) ≡ sum_by (steps_down_from s) (option_to_list o)
      level x here found down levels is None beyond_ = refl
      level x here found down levels is (Some m) beyond_ =
          let less = down_ranks (number_of_place s n x.face.number) x m found down beyond_ in
          ap (λ k. 0 + k) (sym (falls_more levels m (omega arith)) ∙ ap (λ l. steps_down l s m) (sym is))

      by_levels : (l : ℕ) → length s.gateways ≡ l → steps_down_from s n ≡ 1 + total (down_price (price_at tokens n)) (map outline node.rows.faces)
      by_levels zero is = let within = nth_within n s.gateways node at_ in let real = nth_real n s.gateways node at_ in absurd (omega arith)
      by_levels (suc levels) is =
          ap (λ l. steps_down l s n) is ∙ falls_suc levels n
          ∙ ap (λ k. 1 + k)
          (faces_alike (λ n f. if is_north f.region then 0 else sum_by (steps_down levels s) (beyond s (number_of_place s n f.number))) (λ n f. down_price (price_at tokens n) (outline f)) n
          (λ x here found.
          by_test (is_north x.face.region) (λ up. rw up refl)
          (λ down.
          let is_ = price_is tokens (number_of_place s n x.face.number) x found in
          let fell : sum_by (λ m. if is_north x.face.region then steps_up_from tokens s m else steps_down_from s m) (beyond s (number_of_place s n x.face.number)) ≡ sum_by (steps_down_from s) (beyond s (number_of_place s n x.face.number)) = rw down refl in
          rw down (level x here found down levels is (gateway_beyond s (number_of_place s n x.face.number)) refl ∙ sym fell ∙ sym is_)))
          ∙ by_outlines (down_price (price_at tokens n)) n node at_)

  pub rises_by_faces : (tokens n : ℕ) (node : Node K) → nth n s.gateways ≡ Some node → steps_up_from tokens s n ≡ most_answers tokens s n * steps_down_from s n + total (up_price (price_at tokens n)) (map outline node.rows.faces)
  unfolding steps_up
  rises_by_faces tokens n node at_ =
      ap (λ k. most_answers tokens s n * steps_down_from s n + k)
      (faces_alike (λ n f. if is_north f.region then sum_by (steps_up (length s.gateways) tokens s) (beyond s (number_of_place s n f.number)) else 0) (λ n f. up_price (price_at tokens n) (outline f)) n
      (λ x here found.
      by_test (is_north x.face.region)
      (λ up.
      let is_ = price_is tokens (number_of_place s n x.face.number) x found in
      let rose : sum_by (λ m. if is_north x.face.region then steps_up_from tokens s m else steps_down_from s m) (beyond s (number_of_place s n x.face.number)) ≡ sum_by (steps_up_from tokens s) (beyond s (number_of_place s n x.face.number)) = rw up refl in
      rw up (level x here found up (gateway_beyond s (number_of_place s n x.face.number)) refl ∙ sym rose ∙ sym is_))
      (λ down. rw down refl))
      ∙ by_outlines (up_price (price_at tokens n)) n node at_)
    where
      level : (x : FaceAt K) → x.gateway ≡ n → face_numbered s (number_of_place s n x.face.number) ≡ Some x → is_north x.face.region ≡ true → (o : Option ℕ) → gateway_beyond s (number_of_place s n x.face.number) ≡ o
          → sum_by (steps_up (length s.gateways) tokens s) (option_to_list o) ≡ sum_by (steps_up_from tokens s) (option_to_list o)
      level x here found up None beyond_ = refl
      level x here found up (Some m) beyond_ =
          let less = up_ranks (number_of_place s n x.face.number) x m found up beyond_ in
          let within = agree.forest.within x.gateway in
          ap (λ k. 0 + k) (sym (rises_more tokens (length s.gateways) m (omega arith)))

  pub entities_by_faces : (n : ℕ) (node : Node K) → nth n s.gateways ≡ Some node → entities_at s n ≡ total (λ o. length o.subscribers + length o.queryables) (map outline node.rows.faces)
  entities_by_faces n node at_ = by_outlines (λ o. length o.subscribers + length o.queryables) n node at_

  -- ---- at a joint

  -- what falls to a gateway, and what rises to one
  pub falls_to : (tokens a b : ℕ) (x y : FaceAt K) → are_joined s a b ≡ true → face_numbered s a ≡ Some x → face_numbered s b ≡ Some y → is_north x.face.region ≡ false → steps_beyond tokens s a ≡ steps_down_from s y.gateway
  falls_to tokens a b x y joined x_is y_is down =
      price_is tokens a x x_is ∙ ap (λ (o : Option ℕ). sum_by (λ n. if is_north x.face.region then steps_up_from tokens s n else steps_down_from s n) (option_to_list o)) (beyond_is a b y joined y_is)
      ∙ rw down (omega arith)

  pub rises_to : (tokens a b : ℕ) (x y : FaceAt K) → are_joined s a b ≡ true → face_numbered s a ≡ Some x → face_numbered s b ≡ Some y → is_north x.face.region ≡ true → steps_beyond tokens s a ≡ steps_up_from tokens s y.gateway
  rises_to tokens a b x y joined x_is y_is up =
      price_is tokens a x x_is ∙ ap (λ (o : Option ℕ). sum_by (λ n. if is_north x.face.region then steps_up_from tokens s n else steps_down_from s n) (option_to_list o)) (beyond_is a b y joined y_is)
      ∙ rw up (omega arith)
