-- Members of lists by their numbers, and the faces of a fabric by theirs.
use Rattle.std.proofs.Common.{◌≡◌, ℕ, ◌+◌, ◌-◌, ◌≤◌, Bool, true, cond, ◌==◌, List, [], ◌∷◌, length, filter, Option, Some, None, refl, sym, ap, ◌∙◌, subst, arith, eqb-true}
use Rattle.std.specs.List.{list_any}
use Rattle.std.specs.declared.cmp.Ordering.{Ordering}
use Rattle.zt_model.specs.Fabric.{Fabric, Node, Place, number_from, number_of_place}
use Rattle.zt_model.specs.Lists.{first_where, nth}
use Rattle.zt_model.specs.Parts.{find_face}
use Rattle.zt_model.specs.Promises.{EachGateway}
use Rattle.zt_model.specs.Rows.{Face}
use Rattle.zt_model.specs.Transcript.{Each, FaceAt, face_numbered}
use Rattle.zt_laws.specs.Order.{FabricIsInOrder}
use Rattle.zt_laws.specs.Sound.{is_placed}
use Rattle.zt_laws.proofs.Entries.{nth_of_number}
use Rattle.zt_laws.proofs.Hearing.{find_passes}
use Rattle.zt_laws.proofs.LinesOrder.{gateway_in_order}
use Rattle.zt_laws.proofs.Lists.{any_member, by_test, each_both, never}
use Rattle.zt_laws.proofs.Numbered.{nth_real}
use Rattle.zt_laws.proofs.Places.{number_of_nth}
use Rattle.zt_laws.proofs.ToldFrom.{found_by_number}

pub each_nth : {A : Type 0} (P : A → Type 0) (n : ℕ) (xs : List A) (x : A) → Each P xs → nth n xs ≡ Some x → P x
each_nth P n [] x all at_ = cc
each_nth P n (y ∷ xs) x all at_ =
    by_test (n == 1)
    (λ here. let e : Some y ≡ Some x = rw here at at_ in let is : y ≡ x = cc in subst P is all.0)
    (λ here. each_nth P (n - 1) xs x all.1 (rw here at at_))

pub each_gateway_nth : {K : Type 0} (P : ℕ → Node K → Type 0) (k m n : ℕ) (xs : List (Node K)) (x : Node K) → k + m ≡ n + 1 → EachGateway P k xs → nth m xs ≡ Some x → P n x
each_gateway_nth P k m n [] x e all at_ = cc
each_gateway_nth P k m n (y ∷ xs) x e all at_ =
    by_test (m == 1)
    (λ here.
    let one : m ≡ 1 = eqb-true m 1 here in
    let first : Some y ≡ Some x = rw here at at_ in
    let is : y ≡ x = cc in
    let k_is : k ≡ n = omega arith in
    subst (λ j. P j x) k_is (subst (P k) is all.0))
    (λ here.
    let rest : nth (m - 1) xs ≡ Some x = rw here at at_ in
    let real : 1 ≤ m - 1 = nth_real (m - 1) xs x rest in
    each_gateway_nth P (k + 1) (m - 1) n xs x (omega arith) all.1 rest)

-- of the members that pass a test there is at most one
pub only_one : {A : Type 0} (p q r : A → Bool) (xs : List A) (x y : A) → length (filter p xs) ≤ 1 → first_where q xs ≡ Some x → p x ≡ true → first_where r xs ≡ Some y → p y ≡ true → x ≡ y
only_one p q r [] x y few at_x px at_y py = cc
only_one {A} p q r (z ∷ xs) x y few at_x px at_y py =
    by_test (p z)
    (λ here.
    let none_ : length (filter p xs) ≤ 0 = (let few_ : length (cond (p z) (z ∷ filter p xs) (filter p xs)) ≤ 1 = few in let more : length (z ∷ filter p xs) ≤ 1 = rw here at few_ in omega arith) in
    let first : (s : A → Bool) (w : A) → first_where s (z ∷ xs) ≡ Some w → p w ≡ true → z ≡ w = λ s w at_w pw.
    by_test (s z)
    (λ own. let e : Some z ≡ Some w = rw own at at_w in let is : z ≡ w = cc in is)
    (λ own. absurd_of s w (rw own at at_w) pw none_) in
    sym (first q x at_x px) ∙ first r y at_y py)
    (λ here.
    let few_ : length (filter p xs) ≤ 1 = rw here at few in
    let later : (s : A → Bool) (w : A) → first_where s (z ∷ xs) ≡ Some w → p w ≡ true → first_where s xs ≡ Some w = λ s w at_w pw.
    by_test (s z)
    (λ own. let e : Some z ≡ Some w = rw own at at_w in let is : z ≡ w = cc in never pw (ap p (sym is) ∙ here))
    (λ own. rw own at at_w) in
    only_one p q r xs x y few_ (later q x at_x px) px (later r y at_y py) py)
  where
    absurd_of : {G : Type 0} (s : A → Bool) (w : A) → first_where s xs ≡ Some w → p w ≡ true → length (filter p xs) ≤ 0 → G
    absurd_of {G} s w at_w pw none_ = go xs at_w none_
      where
        go : (ys : List A) → first_where s ys ≡ Some w → length (filter p ys) ≤ 0 → G
        go [] found few = cc
        go (v ∷ ys) found few =
            by_test (p v)
            (λ here. let few_ : length (v ∷ filter p ys) ≤ 0 = rw here at few in absurd (omega arith))
            (λ here.
            by_test (s v)
            (λ own. let e : Some v ≡ Some w = rw own at found in let is : v ≡ w = cc in never pw (ap p (sym is) ∙ here))
            (λ own. go ys (rw own at found) (rw here at few)))

-- ---- faces by their numbers in scripts

-- a face of a number: its place, and its gateway
pub record IsThere {K : Type 0} (s : Fabric K) (n : ℕ) (x : FaceAt K) : Type 0 where
  pub place : Place
  pub node : Node K
  pub place_is : nth n s.faces ≡ Some place
  pub gateway_is : place.gateway ≡ x.gateway
  pub node_is : nth x.gateway s.gateways ≡ Some node
  pub rows_are : node.rows ≡ x.rows
  pub face_is : find_face x.face.number x.rows ≡ Some x.face
  pub number_is : place.face ≡ x.face.number

pub is_there : {K : Type 0} (s : Fabric K) (n : ℕ) (x : FaceAt K) → face_numbered s n ≡ Some x → IsThere s n x
unfolding face_numbered
is_there {K} s n x found = by_place (nth n s.faces) refl found
  where
    by_face : (p : Place) (node : Node K) → nth n s.faces ≡ Some p → nth p.gateway s.gateways ≡ Some node → (o : Option (Face K)) → find_face p.face node.rows ≡ o
        → elim o [ None ↦ None | Some f ↦ Some (record { gateway = p.gateway; rows = node.rows; face = f }) ] ≡ Some x → IsThere s n x
    by_face p node at_ there None is e = cc
    by_face p node at_ there (Some f) is e =
        let y : FaceAt K = record { gateway = p.gateway; rows = node.rows; face = f } in
        let same_ : y ≡ x = cc in
        let number_ : p.face ≡ f.number = eqb-true p.face f.number (find_passes (λ (h : Face K). p.face == h.number) node.rows.faces f is) in
        subst (IsThere s n) same_ (record {
          place = p;
          node = node;
          place_is = at_;
          gateway_is = refl;
          node_is = there;
          rows_are = refl;
          face_is = ap (λ k. find_face k node.rows) (sym number_) ∙ is;
          number_is = number_;
        })

    by_node : (p : Place) → nth n s.faces ≡ Some p → (o : Option (Node K)) → nth p.gateway s.gateways ≡ o
        → elim o [ None ↦ None | Some node ↦ elim (find_face p.face node.rows) [ None ↦ None | Some f ↦ Some (record { gateway = p.gateway; rows = node.rows; face = f }) ] ] ≡ Some x → IsThere s n x
    by_node p at_ None there e = cc
    by_node p at_ (Some node) there e = by_face p node at_ there (find_face p.face node.rows) refl e

    by_place : (o : Option Place) → nth n s.faces ≡ o
        → elim o [ None ↦ None | Some p ↦ elim (nth p.gateway s.gateways) [ None ↦ None | Some node ↦ elim (find_face p.face node.rows) [ None ↦ None | Some f ↦ Some (record { gateway = p.gateway; rows = node.rows; face = f }) ] ] ] ≡ Some x → IsThere s n x
    by_place None at_ e = cc
    by_place (Some p) at_ e = by_node p at_ (nth p.gateway s.gateways) refl e

pub numbered : {K : Type 0} (s : Fabric K) (n : ℕ) (p : Place) (node : Node K) (f : Face K) → nth n s.faces ≡ Some p → nth p.gateway s.gateways ≡ Some node → find_face p.face node.rows ≡ Some f
    → face_numbered s n ≡ Some (record { gateway = p.gateway; rows = node.rows; face = f })
unfolding face_numbered
numbered {K} s n p node f at_ there is =
    let at_face = λ (o : Option (Face K)). (let found : Option (FaceAt K) = elim o [ None ↦ None | Some h ↦ Some (record { gateway = p.gateway; rows = node.rows; face = h }) ] in found) in
    let at_node = λ (o : Option (Node K)). (let found : Option (FaceAt K) = elim o [ None ↦ None | Some x ↦ elim (find_face p.face x.rows) [ None ↦ None | Some h ↦ Some (record { gateway = p.gateway; rows = x.rows; face = h }) ] ] in found) in
    let at_place = λ (o : Option Place). (let found : Option (FaceAt K) = elim o [ None ↦ None | Some q ↦ elim (nth q.gateway s.gateways) [ None ↦ None | Some x ↦ elim (find_face q.face x.rows) [ None ↦ None | Some h ↦ Some (record { gateway = q.gateway; rows = x.rows; face = h }) ] ] ] in found) in
    ap at_place at_ ∙ ap at_node there ∙ ap at_face is

-- a face of a gateway, with its number in scripts
pub record FaceOf {K : Type 0} (s : Fabric K) (gateway : ℕ) (node : Node K) (p : Face K → Bool) : Type 0 where
  pub number : ℕ
  pub face : Face K
  pub is : face_numbered s number ≡ Some (record { gateway = gateway; rows = node.rows; face = face })
  pub passes : p face ≡ true

module _ {K : Type 0} (cmp : K → K → Ordering) (matching : K → K → Bool) where
  -- a face that passes a test has a number
  pub some_face : (s : Fabric K) (n : ℕ) (node : Node K) (p : Face K → Bool) → FabricIsInOrder cmp matching s → nth n s.gateways ≡ Some node → list_any p node.rows.faces ≡ true → FaceOf s n node p
  some_face s n node p fine at_ some =
      let gateway = gateway_in_order cmp matching s n node at_ fine in
      any_member (λ f. (find_face f.number node.rows ≡ Some f) × (is_placed n f.number s.faces ≡ true)) p node.rows.faces
      (each_both (λ f. find_face f.number node.rows ≡ Some f) (λ f. is_placed n f.number s.faces ≡ true) (λ f. (find_face f.number node.rows ≡ Some f) × (is_placed n f.number s.faces ≡ true)) (λ f found placed. (found, placed)) node.rows.faces
      (found_by_number 1 node.rows.faces gateway.rows.lists.faces_rise) gateway.placed)
      some
      (λ f both passes.
      let k = number_from 1 n f.number s.faces in
      let k_is : k + 1 - 1 ≡ k = omega arith in
      let place_ : nth k s.faces ≡ Some (record { gateway = n; face = f.number }) = ap (λ j. nth j s.faces) (sym k_is) ∙ nth_of_number 1 n f.number s.faces both.1 in
      record { number = k; face = f; is = numbered s k (record { gateway = n; face = f.number }) node f place_ at_ both.0; passes = passes })

  -- a number in scripts is that of the face's place
  pub number_is_its : (s : Fabric K) (k : ℕ) (x : FaceAt K) → FabricIsInOrder cmp matching s → face_numbered s k ≡ Some x → number_of_place s x.gateway x.face.number ≡ k
  number_is_its s k x fine found =
      let at_ = is_there s k x found in
      let gateway = gateway_in_order cmp matching s x.gateway at_.node at_.node_is fine in
      ap (λ g. number_from 1 g x.face.number s.faces) (sym at_.gateway_is)
      ∙ ap (λ f. number_from 1 at_.place.gateway f s.faces) (sym at_.number_is)
      ∙ number_of_nth k s.faces at_.place (rw (at_.gateway_is) gateway.places_rise) at_.place_is
