-- A message that falls comes to no gateway twice: it comes to as many at the most as there are.
use Rattle.std.proofs.Common.{◌≡◌, ◌≢◌, ◌⊎◌, inl, inr, ℕ, zero, suc, ◌+◌, ◌≤◌, ◌<◌, Bool, true, false, not, if◌then◌else◌, ◌||◌, ◌==◌, List, [], ◌∷◌, ◌++◌, length, Option, Some, None, refl, sym, ap, ◌∙◌, subst, arith, eq-eqb, eqb-true, ⊎_elim}
use Rattle.std.proofs.lemmas.Bool.{or_left, or_right}
use Rattle.std.proofs.lemmas.Cmp.{nat_cmp_total, ranked}
use Rattle.std.specs.List.{flat_map, sum_by}
use Rattle.std.specs.Option.{option_to_list}
use Rattle.std.specs.Ordering.{nat_cmp}
use Rattle.std.specs.declared.cmp.Ordering.{Ordering}
use Rattle.std.specs.declared.cmp.Ordering.TheVariants.{Equal}
use Rattle.zt_region.specs.Region.{is_north}
use Rattle.zt_model.specs.Fabric.{Fabric, Node, number_of_place}
use Rattle.zt_model.specs.Linking.{gateway_beyond}
use Rattle.zt_model.specs.Lists.{is_among, nth, same}
use Rattle.zt_model.specs.Rows.{Face}
use Rattle.zt_model.specs.Transcript.{Each, FaceAt, face_numbered}
use Rattle.zt_laws.specs.Order.{FabricIsInOrder, KeysOnce}
use Rattle.zt_laws.specs.Sound.{RiseFrom}
use Rattle.zt_laws.proofs.Keys.{same_is, same_itself}
use Rattle.zt_laws.proofs.Lists.{any-append, any_none, by_test, each_always, each_append, each_weaker, never}
use Rattle.zt_laws.proofs.LinesOrder.{gateway_in_order}
use Rattle.zt_laws.proofs.Numbered.{nth_real, nth_within}
use Rattle.zt_theorem_tree_invariant.specs.Facts.{TreesAgree}
use Rattle.zt_theorem_tree_invariant.specs.Joints.{are_joined}
use Rattle.zt_theorem_tree_invariant.proofs.Climbing.{IsUnder, Same, StepUp, Up, one_above, one_up}
use Rattle.zt_theorem_tree_invariant.proofs.Members.{is_there}
use Rattle.zt_theorem_tree_invariant.proofs.Quiet.{joined_back}
use Rattle.zt_theorem_tree_rest.specs.Steps.{beyond, faces_of, steps_down, steps_down_from}
use Rattle.zt_theorem_tree_rest.proofs.Once.{once_within}
use Rattle.zt_theorem_tree_rest.proofs.Sums.{times, total, total_alike, total_is}
use Rattle.zt_theorem_tree_rest.proofs.Telling.{times-flat_map}
use Rattle.zt_theorem_tree_rest.proofs.Weights.{IsFound, faces_found, leads}

-- ---- numbers up to one

abbrev pub up_to : ℕ → List ℕ
up_to zero = []
up_to (suc n) = suc n ∷ up_to n

among_up_to : (m n : ℕ) → 1 ≤ m → m ≤ n → is_among nat_cmp m (up_to n) ≡ true
among_up_to m zero real within = absurd (omega arith)
among_up_to m (suc n) real within =
    by_test (m == suc n)
    (λ here. let is : m ≡ suc n = eqb-true m (suc n) here in or_left (same nat_cmp m (suc n)) _ (ap (λ k. same nat_cmp m k) (sym is) ∙ same_itself nat_cmp nat_cmp_total m))
    (λ here. let apart : m ≢ suc n = λ e. never (eq-eqb m (suc n) e) here in or_right (same nat_cmp m (suc n)) _ (among_up_to m n real (omega arith)))

length_up_to : (n : ℕ) → times 1 (up_to n) ≡ n
length_up_to zero = refl
length_up_to (suc n) = let rest = length_up_to n in omega arith

nat_same : (a b : ℕ) → nat_cmp a b ≡ Equal → a ≡ b
nat_same a b e = ranked a b Equal (sym e)

-- keys of two lists that have none in common
once-append : (xs ys : List ℕ) → KeysOnce nat_cmp xs → KeysOnce nat_cmp ys → Each (λ x. is_among nat_cmp x ys ≡ false) xs → KeysOnce nat_cmp (xs ++ ys)
once-append [] ys one two apart = two
once-append (x ∷ xs) ys one two apart = (any-append (same nat_cmp x) xs ys ∙ none (is_among nat_cmp x xs) (is_among nat_cmp x ys) one.0 apart.0, once-append xs ys one.1 two apart.1)
  where
    none : (a b : Bool) → a ≡ false → b ≡ false → (a || b) ≡ false
    none true b h k = cc
    none false b h k = k

module _ {K : Type 0} (cmp : K → K → Ordering) (matching : K → K → Bool) (s : Fabric K) (fine : FabricIsInOrder cmp matching s) (agree : TreesAgree cmp matching s) where
  abbrev rank : ℕ → ℕ
  rank n = agree.forest.rank n

  step_ranks : (g h : ℕ) → StepUp s g h → rank h < rank g
  step_ranks g h step = subst (λ k. rank h < rank k) step.start (subst (λ k. rank k < rank step.x.gateway) step.end_ (agree.forest.falls step.a step.b step.x step.y step.joined step.x_is step.y_is step.up))

  under_ranks : (m a : ℕ) → IsUnder s m a → rank a ≤ rank m
  under_ranks m a (Same g) = omega arith
  under_ranks m a (Up g b c under step) = let rest = under_ranks g b under in let one = step_ranks b c step in omega arith

  -- where a climb begins
  begins : (b a : ℕ) → IsUnder s b a → (b ≡ a) ⊎ ((c : ℕ) × StepUp s b c × IsUnder s c a)
  begins b a (Same g) = inl refl
  begins b a (Up g d e under more) =
      ⊎_elim (λ is. inr (e, subst (λ k. StepUp s k e) (sym is) more, Same e)) (λ first. inr (first.0, first.1, Up first.0 d e first.2 more)) (begins g d under)

  -- what lies above one gateway lies in a line
  in_line : (m a b : ℕ) → IsUnder s m a → IsUnder s m b → IsUnder s a b ⊎ IsUnder s b a
  in_line m a b (Same g) two = inl two
  in_line m a b (Up g d e one step) two =
      ⊎_elim
      (λ below.
      ⊎_elim (λ is. inr (Up b b e (Same b) (subst (λ k. StepUp s k e) is step)))
      (λ first. inl (subst (λ k. IsUnder s k b) (one_above cmp matching s fine agree d first.0 e first.1 step) first.2))
      (begins d b below))
      (λ above. inr (Up b d e above step)) (in_line g d b one two)

  -- ---- through which face of a gateway one below comes to it

  pub record Through (n m : ℕ) : Type 0 where
    pub x : FaceAt K
    pub gateway : x.gateway ≡ n
    pub is : face_numbered s (number_of_place s n x.face.number) ≡ Some x
    pub down : is_north x.face.region ≡ false
    pub child : ℕ
    pub beyond_is : gateway_beyond s (number_of_place s n x.face.number) ≡ Some child
    pub under : IsUnder s m child

  child_step : (n m : ℕ) (t : Through n m) → StepUp s t.child n
  child_step n m t =
      let k = number_of_place s n t.x.face.number in
      let to = leads cmp matching s fine agree k t.x t.child t.is t.beyond_is in
      record { a = to.other; b = k; x = to.y; y = t.x; joined = joined_back s k to.other to.joined; x_is = to.y_is; y_is = t.is; up = to.turned ∙ ap not t.down; start = to.gateway; end_ = t.gateway }

  some_is : {A : Type 0} {u v : A} → Some u ≡ Some v → u ≡ v
  some_is h = cc

  -- two children of a gateway aren't above one another
  not_above : {G : Type 0} (n m : ℕ) (t u : Through n m) → t.child ≢ u.child → IsUnder s t.child u.child → G
  not_above n m t u apart under =
      ⊎_elim (λ is. absurd (apart is))
      (λ first.
      let e_is : first.0 ≡ n = one_above cmp matching s fine agree t.child first.0 n first.1 (child_step n m t) in
      let high = under_ranks n u.child (subst (λ k. IsUnder s k u.child) e_is first.2) in
      let low = step_ranks u.child n (child_step n m u) in
      absurd (omega arith))
      (begins t.child u.child under)

  -- by one face alone
  through_one : (n m : ℕ) (t u : Through n m) → t.x.face.number ≡ u.x.face.number
  unfolding child_step
  through_one n m t u =
      by_test (t.child == u.child) (λ here. same_child (eqb-true t.child u.child here))
      (λ here.
      let apart : t.child ≢ u.child = λ e. never (eq-eqb t.child u.child e) here in
      let back : u.child ≢ t.child = λ e. apart (sym e) in
      ⊎_elim (λ one. not_above n m t u apart one) (λ two. not_above n m u t back two) (in_line m t.child u.child t.under u.under))
    where
      same_child : t.child ≡ u.child → t.x.face.number ≡ u.x.face.number
      same_child is =
          let one = child_step n m t in
          let two = child_step n m u in
          let lower : one.a ≡ two.a = one_up cmp matching s fine agree one.a two.a one.x two.x one.x_is two.x_is (one.start ∙ is ∙ sym two.start) one.up two.up in
          let upper : one.b ≡ two.b = agree.links.once one.a one.b two.b one.joined (subst (λ a. are_joined s a two.b ≡ true) (sym lower) two.joined) in
          let e : Some one.y ≡ Some two.y = sym one.y_is ∙ ap (face_numbered s) upper ∙ two.y_is in
          let y_is : one.y ≡ two.y = some_is e in
          sym (y_of t) ∙ ap (λ (z : FaceAt K). z.face.number) y_is ∙ y_of u
        where
          y_of : (t : Through n m) → (child_step n m t).y.face.number ≡ t.x.face.number
          y_of t = refl

  -- ---- the gateways at and below one

  below_list : ℕ → ℕ → List ℕ
  below_list zero n = n ∷ []
  below_list (suc levels) n = n ∷ flat_map (λ f. if is_north f.region then [] else flat_map (below_list levels) (beyond s (number_of_place s n f.number))) (faces_of s n)

  abbrev part : ℕ → ℕ → Face K → List ℕ
  part levels n f = if is_north f.region then [] else flat_map (below_list levels) (beyond s (number_of_place s n f.number))

  -- they are as many as a message comes to that falls
  counted : (levels n : ℕ) → times 1 (below_list levels n) ≡ steps_down levels s n
  unfolding below_list steps_down
  counted zero n = refl
  counted (suc levels) n =
      let faces = times-flat_map 1 (part levels n) (faces_of s n) in
      let each = by_faces (counted levels) (faces_of s n) in
      omega arith
    where
      by_gateways : ((n : ℕ) → times 1 (below_list levels n) ≡ steps_down levels s n) → (ms : List ℕ) → times 1 (flat_map (below_list levels) ms) ≡ sum_by (steps_down levels s) ms
      by_gateways more ms = times-flat_map 1 (below_list levels) ms ∙ total_alike (λ m. times 1 (below_list levels m)) (steps_down levels s) ms (each_always (λ m. times 1 (below_list levels m) ≡ steps_down levels s m) more ms) ∙ sym (total_is (steps_down levels s) ms)

      by_faces : ((n : ℕ) → times 1 (below_list levels n) ≡ steps_down levels s n) → (fs : List (Face K)) → total (λ f. times 1 (part levels n f)) fs ≡ sum_by (λ f. if is_north f.region then 0 else sum_by (steps_down levels s) (beyond s (number_of_place s n f.number))) fs
      by_faces more fs =
          total_alike (λ f. times 1 (part levels n f)) (λ f. if is_north f.region then 0 else sum_by (steps_down levels s) (beyond s (number_of_place s n f.number))) fs
          (each_always (λ f. times 1 (part levels n f) ≡ (if is_north f.region then 0 else sum_by (steps_down levels s) (beyond s (number_of_place s n f.number)))) (λ f. by_test (is_north f.region) (λ up. rw up refl) (λ down. rw down (by_gateways more (beyond s (number_of_place s n f.number))))) fs)
          ∙ sym (total_is (λ f. if is_north f.region then 0 else sum_by (steps_down levels s) (beyond s (number_of_place s n f.number))) fs)

  -- what is known of each of them
  pub record IsBelow (n m : ℕ) : Type 0 where
    pub under : IsUnder s m n
    pub real : 1 ≤ m
    pub within : m ≤ length s.gateways

  below_list_once : (levels n : ℕ) → 1 ≤ n → n ≤ length s.gateways → KeysOnce nat_cmp (below_list levels n) × Each (IsBelow n) (below_list levels n)
  unfolding below_list
  below_list_once zero n real within = ((refl, tt), (record { under = Same n; real = real; within = within }, tt))
  below_list_once (suc levels) n real within =
      let parts = by_node (nth n s.gateways) refl (below_list_once levels) in
      let gone = any_none (same nat_cmp n) (flat_map (part levels n) (faces_of s n)) (each_weaker (λ m. Through n m × IsBelow n m) (λ m. same nat_cmp n m ≡ false) (λ m t. not_itself m t.0) (flat_map (part levels n) (faces_of s n)) parts.1) in
      ((gone, parts.0), (record { under = Same n; real = real; within = within }, each_weaker (λ m. Through n m × IsBelow n m) (IsBelow n) (λ m t. t.1) (flat_map (part levels n) (faces_of s n)) parts.1))
    where
      not_itself : (m : ℕ) → Through n m → same nat_cmp n m ≡ false
      not_itself m t =
          by_test (same nat_cmp n m)
          (λ here.
          let is : n ≡ m = same_is nat_cmp nat_cmp_total nat_same n m here in
          let one = under_ranks m t.child t.under in
          let two = step_ranks t.child n (child_step n m t) in
          let at_ : rank n ≡ rank m = ap rank is in
          absurd (omega arith))
          (λ h. h)

      Smaller : Type 0
      Smaller = (c : ℕ) → 1 ≤ c → c ≤ length s.gateways → KeysOnce nat_cmp (below_list levels c) × Each (IsBelow c) (below_list levels c)

      -- those below one face
      InPart : Face K → ℕ → Type 0
      InPart f m = (t : Through n m) × (t.x.face.number ≡ f.number) × IsBelow n m

      no_more : (xs : List ℕ) → xs ++ [] ≡ xs
      no_more [] = refl
      no_more (x ∷ xs) = ap (λ ys. x ∷ ys) (no_more xs)

      one_part : (node : Node K) → nth n s.gateways ≡ Some node → Smaller → (f : Face K) → IsFound cmp matching s fine agree n node f → KeysOnce nat_cmp (part levels n f) × Each (InPart f) (part levels n f)
      one_part node at_ smaller f found =
          by_test (is_north f.region) (λ up. rw up (tt, tt))
          (λ down. rw down (by_beyond (gateway_beyond s (number_of_place s n f.number)) refl down))
        where
          x : FaceAt K
          x = record { gateway = n; rows = node.rows; face = f }

          by_beyond : (o : Option ℕ) → gateway_beyond s (number_of_place s n f.number) ≡ o → is_north f.region ≡ false → KeysOnce nat_cmp (flat_map (below_list levels) (option_to_list o)) × Each (InPart f) (flat_map (below_list levels) (option_to_list o))
          by_beyond None is down = (tt, tt)
          by_beyond (Some c) is down =
              let to = leads cmp matching s fine agree (number_of_place s n f.number) x c found is in
              let there = is_there s to.other to.y to.y_is in
              let c_at : nth c s.gateways ≡ Some there.node = ap (λ g. nth g s.gateways) (sym to.gateway) ∙ there.node_is in
              let rest = smaller c (nth_real c s.gateways there.node c_at) (nth_within c s.gateways there.node c_at) in
              let through = λ (m : ℕ) (b : IsBelow c m). (let t : Through n m = record { x = x; gateway = refl; is = found; down = down; child = c; beyond_is = is; under = b.under } in t) in
              subst (λ xs. KeysOnce nat_cmp xs × Each (InPart f) xs) (sym (no_more (below_list levels c))) (
                rest.0,
                each_weaker (IsBelow c) (InPart f) (λ m b. (through m b, refl, record { under = Up m c n b.under (child_step n m (through m b)); real = b.real; within = b.within })) (below_list levels c) rest.1,
              )

      FromOn : ℕ → ℕ → Type 0
      FromOn low m = (t : Through n m) × (low ≤ t.x.face.number) × IsBelow n m

      all_parts : (node : Node K) → nth n s.gateways ≡ Some node → Smaller → (low : ℕ) (fs : List (Face K)) → RiseFrom (λ f. f.number) low fs → Each (IsFound cmp matching s fine agree n node) fs → KeysOnce nat_cmp (flat_map (part levels n) fs) × Each (FromOn low) (flat_map (part levels n) fs)
      all_parts node at_ smaller low [] rises found = (tt, tt)
      all_parts node at_ smaller low (f ∷ fs) rises found =
          let one = one_part node at_ smaller f found.0 in
          let rest = all_parts node at_ smaller (f.number + 1) fs rises.1 found.1 in
          let le : low ≤ f.number = rises.0 in (
            once-append (part levels n f) (flat_map (part levels n) fs) one.0 rest.0
                (each_weaker (InPart f) (λ m. is_among nat_cmp m (flat_map (part levels n) fs) ≡ false)
                (λ m own.
                any_none (same nat_cmp m) (flat_map (part levels n) fs)
                (each_weaker (FromOn (f.number + 1)) (λ k. same nat_cmp m k ≡ false)
                (λ k other.
                by_test (same nat_cmp m k)
                (λ here.
                let is : m ≡ k = same_is nat_cmp nat_cmp_total nat_same m k here in
                let moved : (u : Through n m) × (f.number + 1 ≤ u.x.face.number) × IsBelow n m = subst (FromOn (f.number + 1)) (sym is) other in
                let numbers = through_one n m own.0 moved.0 in
                let own_is : own.0.x.face.number ≡ f.number = own.1 in
                let above : f.number + 1 ≤ moved.0.x.face.number = moved.1 in
                absurd (omega arith))
                (λ h. h)) (flat_map (part levels n) fs) rest.1)) (part levels n f) one.1),
            each_append (FromOn low) (part levels n f) (flat_map (part levels n) fs)
                (each_weaker (InPart f) (FromOn low) (λ m own. (own.0, (let is : own.0.x.face.number ≡ f.number = own.1 in omega arith), own.2)) (part levels n f) one.1)
                (each_weaker (FromOn (f.number + 1)) (FromOn low) (λ m other. (other.0, (let more : f.number + 1 ≤ other.0.x.face.number = other.1 in omega arith), other.2)) (flat_map (part levels n) fs) rest.1),
          )

      by_node : (o : Option (Node K)) → nth n s.gateways ≡ o → Smaller → (let fs : List (Face K) = elim o [ None ↦ [] | Some node ↦ node.rows.faces ] in KeysOnce nat_cmp (flat_map (part levels n) fs) × Each (λ m. Through n m × IsBelow n m) (flat_map (part levels n) fs))
      by_node None at_ smaller = (tt, tt)
      by_node (Some node) at_ smaller =
          let all = all_parts node at_ smaller 1 node.rows.faces (gateway_in_order cmp matching s n node at_ fine).rows.lists.faces_rise (faces_found cmp matching s fine agree n node at_) in (
            all.0,
            each_weaker (FromOn 1) (λ m. Through n m × IsBelow n m) (λ m t. (t.0, t.2)) (flat_map (part levels n) node.rows.faces) all.1,
          )

  -- So a message that falls comes to as many gateways at the most as there are.
  pub falls_within : (n : ℕ) (node : Node K) → nth n s.gateways ≡ Some node → steps_down_from s n ≤ length s.gateways
  falls_within n node at_ =
      let h = length s.gateways in
      let list = below_list_once h n (nth_real n s.gateways node at_) (nth_within n s.gateways node at_) in
      let within = once_within nat_cmp nat_cmp_total nat_same 1 (below_list h n) (up_to h) list.0 (each_weaker (IsBelow n) (λ m. is_among nat_cmp m (up_to h) ≡ true) (λ m b. among_up_to m h b.real b.within) (below_list h n) list.1) in
      let is = counted h n in
      let count = length_up_to h in
      omega arith
