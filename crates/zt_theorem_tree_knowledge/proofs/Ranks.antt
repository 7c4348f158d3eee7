-- A link that opens gets new ranks: what lies at or below the child rises above the parent. Then ranks are counted anew, so
-- that they stay within the number of gateways.
use Rattle.std.proofs.Common.{◌≡◌, ◌≢◌, ℕ, zero, suc, ◌+◌, ◌-◌, ◌≤◌, ◌<◌, Bool, true, false, if◌then◌else◌, ◌&&◌, ◌==◌, nat_lt, length, Option, Some, None, option_map, refl, sym, ap, ◌∙◌, subst, arith, eq-eqb, eqb-true, ⊎_elim}
use Rattle.std.proofs.lemmas.Bool.{and_from, and_parts, le-ltb, lt-ltb, ltb-true, or_cases, or_left, or_right}
use Rattle.std.specs.List.{list_any}
use Rattle.std.specs.declared.cmp.Ordering.{Ordering}
use Rattle.zt_region.specs.declared.region.WhatAmI.{WhatAmI}
use Rattle.zt_region.specs.declared.region.WhatAmI.TheVariants.{Client}
use Rattle.zt_region.specs.Region.{is_north}
use Rattle.zt_model.specs.Fabric.{Fabric, Link, Node, Place, number_of_place}
use Rattle.zt_model.specs.Hat.{north_hat}
use Rattle.zt_model.specs.Linking.{climbs_to, gateway_above, gateway_beyond, is_end_of}
use Rattle.zt_model.specs.Lists.{first_where, is_some_and, nth}
use Rattle.zt_model.specs.Rows.{Face}
use Rattle.zt_model.specs.Transcript.{FaceAt, face_numbered}
use Rattle.zt_laws.specs.Order.{FabricIsInOrder}
use Rattle.zt_laws.proofs.Entries.{found_where}
use Rattle.zt_laws.proofs.Hearing.{find_each, find_passes}
use Rattle.zt_laws.proofs.Lists.{any_weaker, by_test, never}
use Rattle.zt_theorem_tree_invariant.specs.Facts.{IsTreeFace, TreesAgree}
use Rattle.zt_theorem_tree_invariant.specs.Joints.{are_joined, joins}
use Rattle.zt_theorem_tree_invariant.proofs.Climbing.{StepUp, any_found}
use Rattle.zt_theorem_tree_invariant.proofs.Members.{is_there, number_is_its, only_one}
use Rattle.zt_theorem_tree_invariant.proofs.Quiet.{gateway_of}

-- ---- ranks are counted anew

-- how many of the first gateways have a lower rank
count : (ℕ → ℕ) → ℕ → ℕ → ℕ
count rank v zero = 0
count rank v (suc m) = (if nat_lt (rank (suc m)) v then 1 else 0) + count rank v m

one_of : (b : Bool) → (if b then 1 else 0) ≤ 1
one_of true = omega arith
one_of false = omega arith

count_within : (rank : ℕ → ℕ) (v n : ℕ) → count rank v n ≤ n
unfolding count
count_within rank v zero = omega arith
count_within rank v (suc m) = let rest = count_within rank v m in let one = one_of (nat_lt (rank (suc m)) v) in omega arith

one_more : (r u v : ℕ) → u ≤ v → (if nat_lt r u then 1 else 0) ≤ (if nat_lt r v then 1 else 0)
one_more r u v le =
    by_test (nat_lt r u)
    (λ here. let less : r < u = ltb-true r u here in let there : nat_lt r v ≡ true = lt-ltb r v (omega arith) in rw (here, there) (omega arith))
    (λ here. rw here (omega arith))

count_more : (rank : ℕ → ℕ) (u v n : ℕ) → u ≤ v → count rank u n ≤ count rank v n
unfolding count
count_more rank u v zero le = omega arith
count_more rank u v (suc m) le = let rest = count_more rank u v m le in let one = one_more (rank (suc m)) u v le in omega arith

count_less : (rank : ℕ → ℕ) (u v n j : ℕ) → u < v → 1 ≤ j → j ≤ n → rank j ≡ u → count rank u n < count rank v n
unfolding count
count_less rank u v zero j less real within is = absurd (omega arith)
count_less rank u v (suc m) j less real within is =
    by_test (j == suc m)
    (λ here.
    let at_j : rank (suc m) ≡ u = ap rank (sym (eqb-true j (suc m) here)) ∙ is in
    let out : nat_lt (rank (suc m)) u ≡ false = le-ltb (rank (suc m)) u (omega arith) in
    let in_ : nat_lt (rank (suc m)) v ≡ true = lt-ltb (rank (suc m)) v (omega arith) in
    let rest = count_more rank u v m (omega arith) in
    rw (out, in_) (omega arith))
    (λ here.
    let apart : j ≢ suc m = λ e. never (eq-eqb j (suc m) e) here in
    let rest = count_less rank u v m j less real (omega arith) is in
    let one = one_more (rank (suc m)) u v (omega arith) in
    omega arith)

-- ---- climbing

module _ {K : Type 0} (s : Fabric K) where
  climbs_suc : (n from to : ℕ) → climbs_to n s from to ≡ true → climbs_to (suc n) s from to ≡ true
  unfolding climbs_to
  climbs_suc zero from to climbs = rw climbs refl
  climbs_suc (suc n) from to climbs =
      by_test (from == to)
      (λ here. rw here refl)
      (λ here. rw here (above (gateway_above s from) (λ up more. climbs_suc n up to more) (rw here at climbs)))
    where
      above : (o : Option ℕ) → ((up : ℕ) → climbs_to n s up to ≡ true → climbs_to (suc n) s up to ≡ true) → is_some_and o (λ up. climbs_to n s up to) ≡ true → is_some_and o (λ up. climbs_to (suc n) s up to) ≡ true
      above None more some = some
      above (Some up) more some = more up some

  climbs_more : (k n from to : ℕ) → climbs_to n s from to ≡ true → climbs_to (k + n) s from to ≡ true
  climbs_more zero n from to climbs = let is : 0 + n ≡ n = omega arith in subst (λ m. climbs_to m s from to ≡ true) (sym is) climbs
  climbs_more (suc k) n from to climbs = let is : suc k + n ≡ suc (k + n) = omega arith in subst (λ m. climbs_to m s from to ≡ true) (sym is) (climbs_suc (k + n) from to (climbs_more k n from to climbs))

  climbs_within : (m n from to : ℕ) → m ≤ n → climbs_to m s from to ≡ true → climbs_to n s from to ≡ true
  climbs_within m n from to le climbs = let is : (n - m) + m ≡ n = omega arith in subst (λ k. climbs_to k s from to ≡ true) is (climbs_more (n - m) m from to climbs)

  climbs_step : (n from up to : ℕ) → gateway_above s from ≡ Some up → climbs_to n s up to ≡ true → climbs_to (suc n) s from to ≡ true
  unfolding climbs_to
  climbs_step n from up to above climbs = by_test (from == to) (λ here. rw here refl) (λ here. rw here (ap (λ o. is_some_and o (λ u. climbs_to n s u to)) above ∙ climbs))

  climbs_itself : (n at : ℕ) → climbs_to n s at at ≡ true
  unfolding climbs_to
  climbs_itself zero at = eq-eqb at at refl
  climbs_itself (suc n) at = rw (eq-eqb at at refl) refl

module _ {K : Type 0} (cmp : K → K → Ordering) (matching : K → K → Bool) (s : Fabric K) (fine : FabricIsInOrder cmp matching s) (agree : TreesAgree cmp matching s) where
  -- the gateway at the other end of a joined face
  beyond_is : (a b : ℕ) (y : FaceAt K) → are_joined s a b ≡ true → face_numbered s b ≡ Some y → gateway_beyond s a ≡ Some y.gateway
  beyond_is a b y joined y_is =
      let test = λ (link : Link). link.is_open && is_end_of a link in
      let some : list_any test s.links ≡ true = any_weaker (λ link. link.is_open && joins a b link) test
      (λ link h.
      let parts = and_parts link.is_open (joins a b link) h in
      and_from link.is_open (is_end_of a link) parts.0
      (⊎_elim (λ one. or_left (a == link.one) (a == link.two) (and_parts (a == link.one) (b == link.two) one).0) (λ two. or_right (a == link.one) (a == link.two) (and_parts (a == link.two) (b == link.one) two).0) (or_cases ((a == link.one) && (b == link.two)) ((a == link.two) && (b == link.one)) parts.1)))
      s.links joined in
      let found = found_where test s.links some in
      let link = found.0 in
      let parts = and_parts link.is_open (is_end_of a link) (find_passes test s.links link found.1) in
      let other : ℕ = if a == link.one then link.two else link.one in
      let joined_other : are_joined s a other ≡ true = any_found test (λ k. k.is_open && joins a other k) s.links link found.1 (and_from link.is_open (joins a other link) parts.0 (joins_other link parts.1)) in
      let other_is : other ≡ b = agree.links.once a other b joined_other joined in
      let at_ = is_there s b y y_is in
      ap (λ (o : Option Link). (let g : Option ℕ = elim o [ None ↦ None | Some k ↦ option_map (λ (p : Place). p.gateway) (nth (if a == k.one then k.two else k.one) s.faces) ] in g)) found.1
      ∙ ap (λ k. option_map (λ (p : Place). p.gateway) (nth k s.faces)) other_is
      ∙ ap (option_map (λ (p : Place). p.gateway)) at_.place_is
      ∙ ap Some at_.gateway_is
    where
      joins_other : (link : Link) → is_end_of a link ≡ true → joins a (if a == link.one then link.two else link.one) link ≡ true
      joins_other link end_ =
          by_test (a == link.one)
          (λ here. rw here (or_left (true && (link.two == link.two)) _ (and_from true (link.two == link.two) refl (eq-eqb link.two link.two refl))))
          (λ here.
          let two : (a == link.two) ≡ true = ⊎_elim (λ one. never one here) (λ t. t) (or_cases (a == link.one) (a == link.two) end_) in
          rw here (or_right (false && (link.one == link.two)) _ (and_from (a == link.two) (link.one == link.one) two (eq-eqb link.one link.one refl))))

  -- the gateway above a client gateway, by a joint
  pub above_is : (g h : ℕ) → StepUp s g h → gateway_above s g ≡ Some h
  above_is g h step =
      let at_ = is_there s step.a step.x step.x_is in
      let node_is : nth g s.gateways ≡ Some at_.node = ap (λ k. nth k s.gateways) (sym step.start) ∙ at_.node_is in
      let tree = gateway_of cmp matching s step.a step.x agree step.x_is in
      let face : IsTreeFace step.x.rows.mode step.x.face = find_each (IsTreeFace step.x.rows.mode) (λ (f : Face K). step.x.face.number == f.number) step.x.rows.faces step.x.face tree.faces at_.face_is in
      let client : step.x.rows.mode ≡ Client = (face.up step.up).own in
      let mode_ : (north_hat at_.node.rows.mode).has_one_face ≡ true = ap (λ (r : WhatAmI). (north_hat r).has_one_face) (ap (λ r. r.mode) at_.rows_are ∙ client) in
      let first = found_where (λ (f : Face K). is_north f.region) step.x.rows.faces (any_found (λ (f : Face K). step.x.face.number == f.number) (λ (f : Face K). is_north f.region) step.x.rows.faces step.x.face at_.face_is step.up) in
      let first_up = find_passes (λ (f : Face K). is_north f.region) step.x.rows.faces first.0 first.1 in
      let same_ : first.0 ≡ step.x.face = only_one (λ (f : Face K). is_north f.region) (λ (f : Face K). is_north f.region) (λ (f : Face K). step.x.face.number == f.number) step.x.rows.faces first.0 step.x.face tree.one_north first.1 first_up at_.face_is step.up in
      ap (λ (o : Option (Node K)).
      (let r : Option ℕ = elim o [
        | None ↦ None
        | Some node ↦ if (north_hat node.rows.mode).has_one_face then elim (first_where (λ f. is_north f.region) node.rows.faces) [ None ↦ None | Some f ↦ gateway_beyond s (number_of_place s g f.number) ] else None
      ] in r)) node_is
      ∙ ap (λ b. (if b then (let r : Option ℕ = elim (first_where (λ f. is_north f.region) at_.node.rows.faces) [ None ↦ None | Some f ↦ gateway_beyond s (number_of_place s g f.number) ] in r) else None)) mode_
      ∙ ap (λ (o : Option (Face K)). (let r : Option ℕ = elim o [ None ↦ None | Some f ↦ gateway_beyond s (number_of_place s g f.number) ] in r)) (ap (λ r. first_where (λ (f : Face K). is_north f.region) r.faces) at_.rows_are ∙ first.1 ∙ ap Some same_)
      ∙ ap (λ k. gateway_beyond s (number_of_place s k step.x.face.number)) (sym step.start)
      ∙ ap (gateway_beyond s) (number_is_its cmp matching s step.a step.x fine step.x_is)
      ∙ beyond_is step.a step.b step.y step.joined step.y_is
      ∙ ap Some step.end_

  -- ---- new ranks

  module _ (child parent : ℕ) (apart : climbs_to (length s.gateways) s parent child ≡ false) where
    -- what lies at or below the child rises
    lifted : ℕ → ℕ
    lifted g = if climbs_to (agree.forest.rank g) s g child then agree.forest.rank g + agree.forest.rank parent + 1 else agree.forest.rank g

    lifted_high : (g : ℕ) → climbs_to (agree.forest.rank g) s g child ≡ true → lifted g ≡ agree.forest.rank g + agree.forest.rank parent + 1
    unfolding lifted
    lifted_high g here = rw here refl

    lifted_low : (g : ℕ) → climbs_to (agree.forest.rank g) s g child ≡ false → lifted g ≡ agree.forest.rank g
    unfolding lifted
    lifted_low g here = rw here refl

    lifted_above : (g : ℕ) → agree.forest.rank g ≤ lifted g
    lifted_above g = by_test (climbs_to (agree.forest.rank g) s g child) (λ here. let is = lifted_high g here in omega arith) (λ here. let is = lifted_low g here in omega arith)

    lifted_step : (g h : ℕ) → StepUp s g h → lifted h < lifted g
    lifted_step g h step =
        let less : agree.forest.rank h < agree.forest.rank g = subst (λ k. agree.forest.rank h < agree.forest.rank k) step.start (subst (λ k. agree.forest.rank k < agree.forest.rank step.x.gateway) step.end_ (agree.forest.falls step.a step.b step.x step.y step.joined step.x_is step.y_is step.up)) in
        by_test (climbs_to (agree.forest.rank h) s h child)
        (λ here.
        let up : climbs_to (agree.forest.rank g) s g child ≡ true = climbs_within s (suc (agree.forest.rank h)) (agree.forest.rank g) g child (omega arith) (climbs_step s (agree.forest.rank h) g h child (above_is g h step) here) in
        let one = lifted_high h here in
        let two = lifted_high g up in
        omega arith)
        (λ here.
        let one = lifted_low h here in
        let two = lifted_above g in
        omega arith)

    lifted_link : lifted parent < lifted child
    lifted_link =
        let low : climbs_to (agree.forest.rank parent) s parent child ≡ false = by_test (climbs_to (agree.forest.rank parent) s parent child) (λ here. never (climbs_within s (agree.forest.rank parent) (length s.gateways) parent child (agree.forest.within parent) here) apart) (λ e. e) in
        let one = lifted_low parent low in
        let two = lifted_high child (climbs_itself s (agree.forest.rank child) child) in
        omega arith

    -- counted anew
    pub new_rank : ℕ → ℕ
    new_rank g = count lifted (lifted g) (length s.gateways)

    pub new_within : (g : ℕ) → new_rank g ≤ length s.gateways
    unfolding new_rank
    new_within g = count_within lifted (lifted g) (length s.gateways)

    pub new_step : (g h : ℕ) → 1 ≤ h → h ≤ length s.gateways → StepUp s g h → new_rank h < new_rank g
    unfolding new_rank
    new_step g h real within step = count_less lifted (lifted h) (lifted g) (length s.gateways) h (lifted_step g h step) real within refl

    pub new_link : 1 ≤ parent → parent ≤ length s.gateways → new_rank parent < new_rank child
    unfolding new_rank
    new_link real within = count_less lifted (lifted parent) (lifted child) (length s.gateways) parent lifted_link real within refl
