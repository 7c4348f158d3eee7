-- Each open face keeps its one place, whatever a transcript shows after lines.
use Rattle.std.proofs.Common.{◌≡◌, ℕ, ◌+◌, ◌-◌, ◌≤◌, ◌<◌, Bool, true, false, ◌==◌, ◌||◌, not, if◌then◌else◌, List, [], ◌∷◌, ◌++◌, map, filter, Some, refl, subst, sym, ap, ◌∙◌, arith, eqb-true, eq-eqb, ne_eqb}
use Rattle.std.proofs.lemmas.Bool.{eqb-false, and_parts, and_left, and_right}
use Rattle.std.specs.List.{list_any}
use Rattle.zt_keys.specs.Test.{by_test}
use Rattle.zt_model.specs.Fabric.{Fabric, Node, Place, at_nth, next_face, with_gateway, with_place, with_rows}
use Rattle.zt_model.specs.Lists.{nth}
use Rattle.zt_model.specs.Parts.{with_face}
use Rattle.zt_model.specs.Promises.{EachGateway}
use Rattle.zt_model.specs.Rows.{Face, Rows}
use Rattle.zt_model.specs.Shown.{with_new}
use Rattle.zt_model.specs.Transcript.{Each}
use Rattle.zt_check_fabric.specs.Placed.{IsPlaced, has_one_place, is_place, made_by, made_of}
use Rattle.zt_check_fabric.proofs.Numbered.{at_nth_zero}

-- ---- places

place_is : (n f : ℕ) (p : Place) → is_place n f p ≡ true → (n ≡ p.gateway) × (f ≡ p.face)
place_is n f p h = let parts = and_parts (n == p.gateway) (f == p.face) h in (eqb-true n p.gateway parts.0, eqb-true f p.face parts.1)

not_gateway : (n f : ℕ) (p : Place) → (n ≡ p.gateway → ⊥) → is_place n f p ≡ false
not_gateway n f p apart = and_left (n == p.gateway) (f == p.face) (ne_eqb n p.gateway apart)

not_face : (n f : ℕ) (p : Place) → (f ≡ p.face → ⊥) → is_place n f p ≡ false
not_face n f p apart = and_right (n == p.gateway) (f == p.face) (ne_eqb f p.face apart)

any_one : (t : Place → Bool) (ps : List Place) (p : Place) → t p ≡ false → list_any t (ps ++ p ∷ []) ≡ list_any t ps
any_one t [] p other = ap (λ b. b || false) other
any_one t (q ∷ ps) p other = ap (λ b. t q || b) (any_one t ps p other)

-- another place is put behind them
one_stays : (n f : ℕ) (ps : List Place) (p : Place) → is_place n f p ≡ false → has_one_place n f (ps ++ p ∷ []) ≡ has_one_place n f ps
one_stays n f [] p other = rw other refl
one_stays n f (q ∷ ps) p other =
    by_test (is_place n f q)
    (λ here. rw here (ap (λ b. not b) (any_one (is_place n f) ps p other)))
    (λ here. rw here (one_stays n f ps p other))

-- the place of a face that has none is put behind them
one_new : (n f : ℕ) (ps : List Place) (p : Place) → list_any (is_place n f) ps ≡ false → is_place n f p ≡ true → has_one_place n f (ps ++ p ∷ []) ≡ true
one_new n f [] p none own = rw own refl
one_new n f (q ∷ ps) p none own =
    by_test (is_place n f q)
    (λ here. let e : true ≡ false = rw here at none in cc)
    (λ here. rw here (one_new n f ps p (rw here at none) own))

each_one : {A : Type 0} (P : A → Type 0) (xs : List A) (y : A) → Each P xs → P y → Each P (xs ++ y ∷ [])
each_one P [] y each last = (last, tt)
each_one P (x ∷ xs) y each last = (each.0, each_one P xs y each.1 last)

each_weaker : {A : Type 0} (P Q : A → Type 0) → ((x : A) → P x → Q x) → (xs : List A) → Each P xs → Each Q xs
each_weaker P Q weaker [] each = tt
each_weaker P Q weaker (x ∷ xs) each = (weaker x each.0, each_weaker P Q weaker xs each.1)

module _ {K : Type 0} where
  abbrev AreMade : Fabric K → List Place → Type 0
  AreMade s ps = Each (λ p. p.face ≤ made_by s p.gateway) ps

  -- a face that isn't made has no place, and a face that has one is made
  no_place : (s : Fabric K) (n f : ℕ) (ps : List Place) → AreMade s ps → made_by s n < f → list_any (is_place n f) ps ≡ false
  no_place s n f [] made above = refl
  no_place s n f (p ∷ ps) made above =
      by_test (is_place n f p)
      (λ here.
      let own = place_is n f p here in
      let bound : f ≤ made_by s n = subst (λ k. f ≤ made_by s k) (sym own.0) (subst (λ k. k ≤ made_by s p.gateway) (sym own.1) made.0) in
      absurd (omega arith))
      (λ here. rw here (no_place s n f ps made.1 above))

  is_made : (s : Fabric K) (n f : ℕ) (ps : List Place) → AreMade s ps → has_one_place n f ps ≡ true → f ≤ made_by s n
  is_made s n f [] made one = cc
  is_made s n f (p ∷ ps) made one =
      by_test (is_place n f p)
      (λ here.
      let own = place_is n f p here in
      subst (λ k. f ≤ made_by s k) (sym own.0) (subst (λ k. k ≤ made_by s p.gateway) (sym own.1) made.0))
      (λ here. is_made s n f ps made.1 (rw here at one))

  -- ---- calls that open no face

  -- the faces' numbers are among those before, and no face is made
  pub record Keeps (g h : Rows K) : Type 0 where
    pub numbers : (p : ℕ → Bool) → Each (λ (f : Face K). p f.number ≡ true) g.faces → Each (λ (f : Face K). p f.number ≡ true) h.faces
    pub made : h.made ≡ g.made

  pub keeps_same : (g : Rows K) → Keeps g g
  keeps_same g = record { numbers = λ p each. each; made = refl }

  pub keeps_then : (g h k : Rows K) → Keeps g h → Keeps h k → Keeps g k
  keeps_then g h k one two = record { numbers = λ p each. two.numbers p (one.numbers p each); made = two.made ∙ one.made }

  pub keeps_if : (b : Bool) (g x y : Rows K) → Keeps g x → Keeps g y → Keeps g (if b then x else y)
  keeps_if true g x y one two = one
  keeps_if false g x y one two = two

  pub each_changed : (change : Face K → Face K) → ((f : Face K) → (change f).number ≡ f.number) → (p : ℕ → Bool) (fs : List (Face K)) → Each (λ (f : Face K). p f.number ≡ true) fs → Each (λ (f : Face K). p f.number ≡ true) (map change fs)
  each_changed change same p [] each = tt
  each_changed change same p (f ∷ fs) each = (ap p (same f) ∙ each.0, each_changed change same p fs each.1)

  pub each_filtered : (q : Face K → Bool) (p : ℕ → Bool) (fs : List (Face K)) → Each (λ (f : Face K). p f.number ≡ true) fs → Each (λ (f : Face K). p f.number ≡ true) (filter q fs)
  each_filtered q p [] each = tt
  each_filtered q p (f ∷ fs) each =
      by_test (q f)
      (λ here. rw here (each.0, each_filtered q p fs each.1))
      (λ here. rw here (each_filtered q p fs each.1))

  pub keeps_face : (n : ℕ) (change : Face K → Face K) → ((f : Face K) → (change f).number ≡ f.number) → (g : Rows K) → Keeps g (with_face n change g)
  unfolding with_face
  keeps_face n change same g = record {
    numbers = λ p each. each_changed (λ f. if n == f.number then change f else f) (λ f. go f (n == f.number)) p g.faces each;
    made = refl;
  }
    where
      go : (f : Face K) (b : Bool) → (if b then change f else f).number ≡ f.number
      go f true = same f
      go f false = refl

  -- ---- the rows of a gateway are changed

  abbrev HasOne : List Place → ℕ → Node K → Type 0
  HasOne places n node = Each (λ (f : Face K). has_one_place n f.number places ≡ true) node.rows.faces

  abbrev changed : (Rows K → Rows K) → Node K → Node K
  changed change node = record node { rows = change node.rows }

  module _ (change : Rows K → Rows K) (keeps : (g : Rows K) → Keeps g (change g)) where
    nodes_keep : (places : List Place) (i n : ℕ) (nodes : List (Node K)) → EachGateway (HasOne places) i nodes → EachGateway (HasOne places) i (at_nth n (changed change) nodes)
    nodes_keep places i n [] each = tt
    nodes_keep places i n (node ∷ nodes) each =
        by_test (n == 1)
        (λ here. rw here ((keeps node.rows).numbers (λ k. has_one_place i k places) each.0, each.1))
        (λ here. rw here (each.0, nodes_keep places (i + 1) (n - 1) nodes each.1))

    made_kept : (k n : ℕ) (nodes : List (Node K)) → made_of (nth k (at_nth n (changed change) nodes)) ≡ made_of (nth k nodes)
    made_kept k n [] = refl
    made_kept k n (node ∷ nodes) =
        by_test (n == 1)
        (λ here. by_test (k == 1) (λ first. rw (here, first) ((keeps node.rows).made)) (λ later. rw (here, later) refl))
        (λ here. by_test (k == 1) (λ first. rw (here, first) refl) (λ later. rw (here, later) (made_kept (k - 1) (n - 1) nodes)))

    pub rows_placed : (n : ℕ) (s : Fabric K) → IsPlaced s → IsPlaced (with_rows n change s)
    rows_placed n s placed = record {
      one = nodes_keep s.faces 1 n s.gateways placed.one;
      made =
          each_weaker (λ p. p.face ≤ made_by s p.gateway) (λ p. p.face ≤ made_by (with_rows n change s) p.gateway)
          (λ p below. subst (λ k. p.face ≤ k) (sym (made_kept p.gateway n s.gateways)) below) s.faces placed.made;
    }

  -- ---- a face opens

  module _ (change : Rows K → Rows K) (makes : (g : Rows K) → Face K) (new : (g : Rows K) → change g ≡ with_new (makes g) g) (numbered : (g : Rows K) → (makes g).number ≡ g.made + 1) where
    made_new : (n : ℕ) (nodes : List (Node K)) → made_of (nth n (at_nth n (changed change) nodes)) ≡ next_face (nth n nodes)
    made_new n [] = refl
    made_new n (node ∷ nodes) =
        by_test (n == 1)
        (λ here. rw (here, here) (ap (λ (g : Rows K). g.made) (new node.rows)))
        (λ here. rw (here, here) (made_new (n - 1) nodes))

    made_grows : (k n : ℕ) (nodes : List (Node K)) → made_of (nth k nodes) ≤ made_of (nth k (at_nth n (changed change) nodes))
    made_grows k n [] = omega arith
    made_grows k n (node ∷ nodes) =
        by_test (n == 1)
        (λ here. by_test (k == 1)
        (λ first. rw (here, first) (let more : (change node.rows).made ≡ node.rows.made + 1 = ap (λ (g : Rows K). g.made) (new node.rows) in omega arith))
        (λ later. rw (here, later) (omega arith)))
        (λ here. by_test (k == 1) (λ first. rw (here, first) (omega arith)) (λ later. rw (here, later) (made_grows (k - 1) (n - 1) nodes)))

    module _ (s : Fabric K) (n : ℕ) (placed : IsPlaced s) where
      abbrev next : Place
      next = record { gateway = n; face = next_face (nth n s.gateways) }

      faces_stay : (k : ℕ) (fs : List (Face K)) → ((f : ℕ) → has_one_place k f s.faces ≡ true → is_place k f next ≡ false)
          → Each (λ (f : Face K). has_one_place k f.number s.faces ≡ true) fs → Each (λ (f : Face K). has_one_place k f.number (s.faces ++ next ∷ []) ≡ true) fs
      faces_stay k fs other each =
          each_weaker (λ (f : Face K). has_one_place k f.number s.faces ≡ true) (λ (f : Face K). has_one_place k f.number (s.faces ++ next ∷ []) ≡ true)
          (λ f one. one_stays k f.number s.faces next (other f.number one) ∙ one) fs each

      others_stay : (i : ℕ) (nodes : List (Node K)) → ((k : ℕ) → i ≤ k → k ≡ n → ⊥) → EachGateway (HasOne s.faces) i nodes → EachGateway (HasOne (s.faces ++ next ∷ [])) i nodes
      others_stay i [] apart each = tt
      others_stay i (node ∷ nodes) apart each = (
        faces_stay i node.rows.faces (λ f one. not_gateway i f next (apart i (omega arith))) each.0,
        others_stay (i + 1) nodes (λ k above. apart k (omega arith)) each.1,
      )

      own_node : (node : Node K) → nth n s.gateways ≡ Some node → HasOne s.faces n node → HasOne (s.faces ++ next ∷ []) n (changed change node)
      own_node node there each =
          let made : made_by s n ≡ node.rows.made = ap made_of there in
          let face : next.face ≡ node.rows.made + 1 = ap next_face there in
          let others = faces_stay n node.rows.faces (λ f one. let below : f ≤ made_by s n = is_made s n f s.faces placed.made one in not_face n f next (λ e. omega arith)) each in
          let number : (makes node.rows).number ≡ node.rows.made + 1 = numbered node.rows in
          let none : list_any (is_place n (makes node.rows).number) s.faces ≡ false = no_place s n (makes node.rows).number s.faces placed.made (omega arith) in
          let own : is_place n (makes node.rows).number next ≡ true = rw (eq-eqb n n refl) (eq-eqb (makes node.rows).number next.face (omega arith)) in
          subst (λ (g : Rows K). Each (λ (f : Face K). has_one_place n f.number (s.faces ++ next ∷ []) ≡ true) g.faces) (sym (new node.rows))
          (each_one (λ (f : Face K). has_one_place n f.number (s.faces ++ next ∷ []) ≡ true) node.rows.faces (makes node.rows) others (one_new n (makes node.rows).number s.faces next none own))

      nodes_open : (i m : ℕ) (nodes : List (Node K)) → 1 ≤ m → i + m ≡ n + 1 → nth m nodes ≡ nth n s.gateways → EachGateway (HasOne s.faces) i nodes
          → EachGateway (HasOne (s.faces ++ next ∷ [])) i (at_nth m (changed change) nodes)
      nodes_open i m [] real counted same each = tt
      nodes_open i m (node ∷ nodes) real counted same each =
          by_test (m == 1)
          (λ here.
          let first : m ≡ 1 = eqb-true m 1 here in
          let own : i ≡ n = omega arith in
          let there : nth n s.gateways ≡ Some node = sym same ∙ rw here refl in
          rw here (
            subst (λ k. HasOne (s.faces ++ next ∷ []) k (changed change node)) (sym own) (own_node node there (subst (λ k. HasOne s.faces k node) own each.0)),
            others_stay (i + 1) nodes (λ k above e. omega arith) each.1,
          ))
          (λ here.
          let more : m ≡ 1 → ⊥ = eqb-false m 1 here in
          let differ : i ≡ n → ⊥ = λ e. more (omega arith) in
          rw here (
            faces_stay i node.rows.faces (λ f one. not_gateway i f next differ) each.0,
            nodes_open (i + 1) (m - 1) nodes (omega arith) (omega arith) (rw here at same) each.1,
          ))

      gateways_open : EachGateway (HasOne (s.faces ++ next ∷ [])) 1 (at_nth n (changed change) s.gateways)
      gateways_open =
          by_test (n == 0)
          (λ none.
          let zero_ : n ≡ 0 = eqb-true n 0 none in
          let same : s.gateways ≡ at_nth n (changed change) s.gateways = sym (ap (λ k. at_nth k (changed change) s.gateways) zero_ ∙ at_nth_zero (changed change) s.gateways) in
          subst (EachGateway (HasOne (s.faces ++ next ∷ [])) 1) same (others_stay 1 s.gateways (λ k above e. omega arith) placed.one))
          (λ some.
          let real : n ≡ 0 → ⊥ = eqb-false n 0 some in
          nodes_open 1 n s.gateways (omega arith) (omega arith) refl placed.one)

      pub opening_placed : IsPlaced (with_rows n change (with_place n s))
      opening_placed = record {
        one = gateways_open;
        made =
            each_one (λ p. p.face ≤ made_by (with_rows n change (with_place n s)) p.gateway) s.faces next
            (each_weaker (λ p. p.face ≤ made_by s p.gateway) (λ p. p.face ≤ made_by (with_rows n change (with_place n s)) p.gateway)
            (λ p below. let up = made_grows p.gateway n s.gateways in omega (arith, below, up)) s.faces placed.made)
            (let same = made_new n s.gateways in omega (arith, same));
      }

  -- ---- a gateway is made

  nodes_one : (P : ℕ → Node K → Type 0) (i : ℕ) (nodes : List (Node K)) (node : Node K) → ((k : ℕ) → P k node) → EachGateway P i nodes → EachGateway P i (nodes ++ node ∷ [])
  nodes_one P i [] node last each = (last i, tt)
  nodes_one P i (x ∷ nodes) node last each = (each.0, nodes_one P (i + 1) nodes node last each.1)

  made_alike : (k : ℕ) (nodes : List (Node K)) (node : Node K) → node.rows.made ≡ 0 → made_of (nth k (nodes ++ node ∷ [])) ≡ made_of (nth k nodes)
  made_alike k [] node none = by_test (k == 1) (λ first. rw first none) (λ later. rw later refl)
  made_alike k (x ∷ nodes) node none = by_test (k == 1) (λ first. rw first refl) (λ later. rw later (made_alike (k - 1) nodes node none))

  pub gateway_placed : (s : Fabric K) (node : Node K) → node.rows.faces ≡ [] → node.rows.made ≡ 0 → IsPlaced s → IsPlaced (with_gateway node s)
  gateway_placed s node empty none placed = record {
    one =
        nodes_one (HasOne s.faces) 1 s.gateways node
        (λ k. subst (λ (fs : List (Face K)). Each (λ (f : Face K). has_one_place k f.number s.faces ≡ true) fs) (sym empty) tt) placed.one;
    made =
        each_weaker (λ p. p.face ≤ made_by s p.gateway) (λ p. p.face ≤ made_by (with_gateway node s) p.gateway)
        (λ p below. subst (λ k. p.face ≤ k) (sym (made_alike p.gateway s.gateways node none)) below) s.faces placed.made;
  }
