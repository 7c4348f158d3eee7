-- Where nothing waits: a token that is live at a plain face is carried up to each gateway above, and ways lead there.
use Rattle.std.proofs.Common.{◌≡◌, ℕ, ◌≤◌, ◌<◌, ◌+◌, Bool, true, false, ◌&&◌, ◌==◌, not, List, [], ◌∷◌, ◌++◌, Option, Some, None, refl, sym, ap, ◌∙◌, subst, arith, eqb-true, eq-eqb, ⊎_elim}
use Rattle.std.proofs.lemmas.Bool.{and_from, and_parts, or_cases, or_left, or_right}
use Rattle.std.specs.Cmp.{IsTotalOrder}
use Rattle.std.specs.List.{list_any}
use Rattle.std.specs.declared.cmp.Ordering.{Ordering}
use Rattle.std.specs.declared.cmp.Ordering.TheVariants.{Equal}
use Rattle.zt_region.specs.declared.region.Region.TheVariants.{North}
use Rattle.zt_region.specs.Region.{is_north, region_eq, region_eq-refl, region_eq-same}
use Rattle.zt_model.specs.Fabric.{Fabric, Node}
use Rattle.zt_model.specs.Lists.{is_some_and, nth, same}
use Rattle.zt_model.specs.Parts.{find_face, is_routed}
use Rattle.zt_model.specs.Rows.{ById, Face}
use Rattle.zt_model.specs.Transcript.{Each, FaceAt, face_numbered}
use Rattle.zt_model.specs.TreePromises.{LeadsUpByLink, are_links_empty, is_live_at, is_plain_number, is_plainly_live_at}
use Rattle.zt_model.specs.Visible.{keeps, shows}
use Rattle.zt_model.proofs.Hats.{covers_is, shows_others}
use Rattle.zt_laws.specs.Keeping.{AllKeepRight, FacesKeepRight, KeepsRight}
use Rattle.zt_laws.specs.Order.{FabricIsInOrder}
use Rattle.zt_laws.specs.Sound.{IsToldInOrder, RiseFrom}
use Rattle.zt_laws.proofs.Hearing.{find_each}
use Rattle.zt_laws.proofs.LinesOrder.{gateway_in_order}
use Rattle.zt_laws.proofs.Lists.{any_weaker, by_test, never}
use Rattle.zt_theorem_tree_invariant.specs.Facts.{IsTreeFace, IsTreeGateway, TreesAgree}
use Rattle.zt_theorem_tree_invariant.specs.Trees.{FacesFormTrees, RefusesNoFaces}
use Rattle.zt_theorem_tree_invariant.proofs.Admitted.{admitted_if_shown}
use Rattle.zt_theorem_tree_invariant.proofs.Climbing.{IsUnder, Same, StepUp, Up, any_found}
use Rattle.zt_theorem_tree_invariant.proofs.Knowledge.{is_no_router}
use Rattle.zt_theorem_tree_invariant.proofs.Lines.{tree_rows}
use Rattle.zt_theorem_tree_invariant.proofs.Members.{each_gateway_nth, each_nth, is_there, number_is_its}
use Rattle.zt_theorem_tree_invariant.proofs.Quiet.{is_live, is_shown_by, nothing_waits, quiet_joint}
use Rattle.zt_theorem_tree_invariant.proofs.Saying.{IsReal}
use Rattle.zt_theorem_tree_all_that_stays.specs.Steady.{FinalIsBelow, IsTold, LeavesRow, has_row}
use Rattle.zt_theorem_tree_all_that_stays.specs.Ways.{IsAbove, IsCarried, IsCarriedUp, LeadsUpTo, LivesAt}

module _ {K : Type 0} (cmp : K → K → Ordering) (matching : K → K → Bool) (total : IsTotalOrder cmp) (equal_is_same : (a b : K) → cmp a b ≡ Equal → a ≡ b) (s : Fabric K) (fine : FabricIsInOrder cmp matching s) (agree : TreesAgree cmp matching s) (trees : FacesFormTrees s) where
  the_same : {A : Type 0} {u v : A} → Some u ≡ Some v → u ≡ v
  the_same h = cc

  -- ---- plain faces lead down

  pub plain_down : (k : ℕ) (x : FaceAt K) → face_numbered s k ≡ Some x → is_plain_number s k ≡ true → is_north x.face.region ≡ false
  plain_down k x found plain =
      by_test (is_north x.face.region)
      (λ up.
      let there = is_there s k x found in
      let faces = each_gateway_nth (λ n (node : Node K). Each (LeadsUpByLink s n node.rows) node.rows.faces) 1 x.gateway x.gateway s.gateways there.node (omega arith) trees.north there.node_is in
      let own = find_each (LeadsUpByLink s x.gateway there.node.rows) (λ (f : Face K). x.face.number == f.number) there.node.rows.faces x.face faces (ap (find_face x.face.number) there.rows_are ∙ there.face_is) in
      never (ap (is_plain_number s) (number_is_its cmp matching s k x fine found) ∙ plain) (own up).1)
      (λ down. down)

  -- so a plainly live expression is live at a face that leads down
  pub plainly_lives : (k : ℕ) (e : K) → is_plainly_live_at cmp matching s k e ≡ true → LivesAt cmp matching e s k
  plainly_lives k e live = cases (face_numbered s k) refl parts.1
    where
      parts : (is_plain_number s k ≡ true) × (is_some_and (face_numbered s k) (λ x. is_live_at cmp matching x.face e) ≡ true)
      parts = and_parts (is_plain_number s k) (is_some_and (face_numbered s k) (λ x. is_live_at cmp matching x.face e)) live

      cases : (o : Option (FaceAt K)) → face_numbered s k ≡ o → is_some_and o (λ x. is_live_at cmp matching x.face e) ≡ true → LivesAt cmp matching e s k
      cases None found live_ = cc
      cases (Some x) found live_ = record { own = x; own_is = found; down = plain_down k x found parts.0; live = live_ }

  -- ---- where nothing waits

  module _ (quiet : are_links_empty s ≡ true) where
    upper_is_down : (g h : ℕ) (step : StepUp s g h) → is_north step.y.face.region ≡ false
    upper_is_down g h step =
        let ends = agree.links.meet step.a step.b step.joined in
        let one : ends.one ≡ step.x = the_same (sym ends.one_is ∙ step.x_is) in
        let two : ends.two ≡ step.y = the_same (sym ends.two_is ∙ step.y_is) in
        ap (λ (z : FaceAt K). is_north z.face.region) (sym two) ∙ ends.one_leads_up ∙ ap (λ (z : FaceAt K). not (is_north z.face.region)) one ∙ ap not step.up

    above_of : (k g h : ℕ) (x : FaceAt K) → face_numbered s k ≡ Some x → is_north x.face.region ≡ false → x.gateway ≡ g → (step : StepUp s g h) → IsAbove s k step.a step.b x step.x step.y
    above_of k g h x found down here step = record { own_is = found; lower_is = step.x_is; upper_is = step.y_is; down = down; up = step.up; joined = step.joined; beside = step.start ∙ sym here }

    -- ---- a way leads up

    leads_on : (way : List (ℕ × ℕ)) (k g h : ℕ) (x : FaceAt K) → face_numbered s k ≡ Some x → is_north x.face.region ≡ false → LeadsUpTo s k way g → (step : StepUp s g h) → LeadsUpTo s k (way ++ (step.a, step.b) ∷ []) h
    leads_on [] k g h x found down up step =
        let same_ : up.0 ≡ x = the_same (sym up.1 ∙ found) in
        let here : x.gateway ≡ g = ap (λ (z : FaceAt K). z.gateway) (sym same_) ∙ up.2 in (
          record { own = x; lower = step.x; upper = step.y; above = above_of k g h x found down here step; finals = subst (Each (FinalIsBelow step.x.face.next)) (sym (nothing_waits s step.b quiet)) tt },
          (step.y, step.y_is, step.end_),
        )
    leads_on (one ∷ way) k g h x found down up step =
        let u = up.0.upper in
        let u_down : is_north u.face.region ≡ false = upper_is_down up.0.lower.gateway u.gateway (record { a = one.0; b = one.1; x = up.0.lower; y = u; joined = up.0.above.joined; x_is = up.0.above.lower_is; y_is = up.0.above.upper_is; up = up.0.above.up; start = refl; end_ = refl }) in
        (up.0, leads_on way one.1 g h u up.0.above.upper_is u_down up.1 step)

    pub way_of : (k : ℕ) (x : FaceAt K) (top : ℕ) → face_numbered s k ≡ Some x → is_north x.face.region ≡ false → (g : ℕ) → g ≡ x.gateway → IsUnder s g top → (way : List (ℕ × ℕ)) × LeadsUpTo s k way top
    way_of k x top found down g is (Same h) = ([], (x, found, sym is))
    way_of k x top found down g is (Up h b c under step) = let w = way_of k x b found down g is under in (w.0 ++ (step.a, step.b) ∷ [], leads_on w.0 k b c x found down w.1 step)

    -- ---- a token is carried up

    module _ (keep : AllKeepRight cmp matching s) (e : K) where
      node_keeps : (g h : ℕ) (step : StepUp s g h) (k : ℕ) (x : FaceAt K) → face_numbered s k ≡ Some x → x.gateway ≡ g → is_north x.face.region ≡ false → is_live cmp e x.face ≡ true → keeps cmp step.x.face e ≡ true
      node_keeps g h step k x found here down live =
          let th = is_there s step.a step.x step.x_is in
          let tx = is_there s k x found in
          let node = th.node in
          let r = node.rows in
          let same_node : tx.node ≡ node = the_same (sym tx.node_is ∙ ap (λ i. nth i s.gateways) (here ∙ sym step.start) ∙ th.node_is) in
          let found_low : find_face step.x.face.number r ≡ Some step.x.face = ap (find_face step.x.face.number) th.rows_are ∙ th.face_is in
          let found_x : find_face x.face.number r ≡ Some x.face = ap (λ (y : Node K). find_face x.face.number y.rows) (sym same_node) ∙ ap (find_face x.face.number) tx.rows_are ∙ tx.face_is in
          let gateway = each_nth (λ (y : Node K). IsTreeGateway cmp matching y.rows) step.x.gateway s.gateways node agree.gateways th.node_is in
          let face = find_each (IsTreeFace r.mode) (λ (f : Face K). step.x.face.number == f.number) r.faces step.x.face gateway.faces found_low in
          let keeps_ = find_each (λ f. is_routed r f ≡ false → KeepsRight cmp matching r f) (λ (f : Face K). step.x.face.number == f.number) r.faces step.x.face (each_nth (λ (y : Node K). FacesKeepRight cmp matching y.rows) step.x.gateway s.gateways node keep th.node_is) found_low in
          let refused = each_gateway_nth RefusesNoFaces 1 step.x.gateway step.x.gateway s.gateways node (omega arith) trees.admitted th.node_is in
          let stands = any_found (λ (f : Face K). step.x.face.number == f.number) (λ f. region_eq f.region step.x.face.region) r.faces step.x.face found_low (region_eq-refl step.x.face.region) in
          let shown : is_shown_by cmp r.mode step.x.face.region e x.face ≡ true =
          and_from (is_live cmp e x.face) (shows r.mode step.x.face.region x.face.region) live (ap (λ q. shows r.mode q x.face.region) (region_eq-same step.x.face.region North step.up) ∙ shows_others r.mode North x.face.region down) in
          let some : list_any (is_shown_by cmp r.mode step.x.face.region e) r.faces ≡ true = any_found (λ (f : Face K). x.face.number == f.number) (is_shown_by cmp r.mode step.x.face.region e) r.faces x.face found_x shown in
          (keeps_ (is_no_router r step.x.face face)).admitted_is_kept e (admitted_if_shown cmp r step.x.face.region e refused stands some) (covers_is matching r.mode step.x.face e ∙ or_left (is_north step.x.face.region) _ step.up)

      -- some row of what was told, under an id of its own
      pub record ToldRow (f : Face K) : Type 0 where
        pub id : ℕ
        pub real : 1 ≤ id
        pub told : IsTold cmp id e f

      told_row : (g h : ℕ) (step : StepUp s g h) → keeps cmp step.x.face e ≡ true → ToldRow step.x.face
      told_row g h step kept =
          let th = is_there s step.a step.x step.x_is in
          let r = th.node.rows in
          let found_low : find_face step.x.face.number r ≡ Some step.x.face = ap (find_face step.x.face.number) th.rows_are ∙ th.face_is in
          let order = (gateway_in_order cmp matching s step.x.gateway th.node th.node_is fine).rows in
          let told = find_each (λ f. IsToldInOrder cmp f.told f.next) (λ (f : Face K). step.x.face.number == f.number) r.faces step.x.face order.told found_low in
          let joint = agree.joints step.a step.b step.x step.y step.joined step.x_is step.y_is step.up in
          let rows = tree_rows cmp matching s step.x.gateway th.node fine agree th.node_is in
          let face = find_each (IsTreeFace r.mode) (λ (f : Face K). step.x.face.number == f.number) r.faces step.x.face rows.faces found_low in
          let real = find_each (IsReal cmp) (λ (f : Face K). step.x.face.number == f.number) r.faces step.x.face rows.real found_low in
          by_rows 1 step.x.face.next step.x.face.told told.rises joint.told_below real.told kept
          (λ n x le less has only. record { id = n; real = le; told = record { north = step.up; asks = (face.up step.up).asks; has = has; only = only; next = less } })
        where
          above_all : (low : ℕ) (rows : ById K) → RiseFrom (λ row. row.0) low rows → (n : ℕ) → n < low → Each (λ row. (n == row.0) ≡ true → same cmp e row.1 ≡ true) rows
          above_all low [] rises n less = tt
          above_all low (row ∷ rows) rises n less = let up : low ≤ row.0 = rises.0 in ((λ is. let bad : n ≡ row.0 = eqb-true n row.0 is in absurd (omega arith)), above_all (row.0 + 1) rows rises.1 n (omega arith))

          by_rows : {G : Type 0} (low next : ℕ) (rows : ById K) → RiseFrom (λ row. row.0) low rows → Each (λ row. row.0 < next) rows → Each (λ row. 1 ≤ row.0) rows → list_any (λ row. same cmp e row.1) rows ≡ true
              → ((n : ℕ) (x : K) → 1 ≤ n → n < next → has_row cmp n e rows ≡ true → Each (λ row. (n == row.0) ≡ true → same cmp e row.1 ≡ true) rows → G) → G
          by_rows low next [] rises below real kept_ goal = cc
          by_rows {G} low next (row ∷ rows) rises below real kept_ goal =
              by_test (same cmp e row.1)
              (λ here. goal row.0 row.1 real.0 below.0 (or_left ((row.0 == row.0) && same cmp e row.1) (has_row cmp row.0 e rows) (and_from (row.0 == row.0) (same cmp e row.1) (eq-eqb row.0 row.0 refl) here)) ((λ _. here), above_all (row.0 + 1) rows rises.1 row.0 (omega arith)))
              (λ other.
              by_rows (row.0 + 1) next rows rises.1 below.1 real.1 (rw other at kept_)
              (λ n x le less has only. goal n x le less (or_right ((n == row.0) && same cmp e row.1) (has_row cmp n e rows) has) ((λ is. absurd (later rows rises.1 n (eqb-true n row.0 is) has)), only)))
            where
              later : (ys : ById K) → RiseFrom (λ r. r.0) (row.0 + 1) ys → (n : ℕ) → n ≡ row.0 → has_row cmp n e ys ≡ true → ⊥
              later ys rises_ n is has_ = go (row.0 + 1) ys rises_ (omega arith) has_
                where
                  go : (lo : ℕ) (zs : ById K) → RiseFrom (λ r. r.0) lo zs → n < lo → has_row cmp n e zs ≡ true → ⊥
                  go lo [] rises2 less has2 = cc
                  go lo (z ∷ zs) rises2 less has2 =
                      let up : lo ≤ z.0 = rises2.0 in
                      ⊎_elim (λ own. let bad : n ≡ z.0 = eqb-true n z.0 (and_parts (n == z.0) (same cmp e z.1) own).0 in omega arith) (λ rest. go (z.0 + 1) zs rises2.1 (omega arith) rest) (or_cases ((n == z.0) && same cmp e z.1) (has_row cmp n e zs) has2)

      carried_here : (k g h : ℕ) (lives : LivesAt cmp matching e s k) → lives.own.gateway ≡ g → (step : StepUp s g h) → IsCarried cmp matching e s k step.a step.b
      carried_here k g h lives here step =
          let row = told_row g h step (node_keeps g h step k lives.own lives.own_is here lives.down lives.live) in
          let joint = quiet_joint cmp matching s step.a step.b step.x step.y agree quiet step.joined step.x_is step.y_is step.up in
          record {
            own = lives.own;
            lower = step.x;
            upper = step.y;
            above = above_of k g h lives.own lives.own_is lives.down here step;
            id = row.id;
            real = row.real;
            told = row.told;
            live = ap (has_row cmp row.id e) joint.live_above ∙ row.told.has;
            rising = subst (Each (LeavesRow cmp row.id e)) (sym (nothing_waits s step.a quiet)) tt;
          }

      carried_on : (way : List (ℕ × ℕ)) (k g h : ℕ) → LivesAt cmp matching e s k → IsCarriedUp cmp matching e s k way g → (step : StepUp s g h) → IsCarriedUp cmp matching e s k (way ++ (step.a, step.b) ∷ []) h
      carried_on [] k g h lives up step =
          let same_ : up.0 ≡ lives.own = the_same (sym up.1 ∙ lives.own_is) in
          (carried_here k g h lives (ap (λ (z : FaceAt K). z.gateway) (sym same_) ∙ up.2) step, (step.y, step.y_is, step.end_))
      carried_on (one ∷ way) k g h lives up step =
          let c = up.0 in
          let u_down : is_north c.upper.face.region ≡ false = upper_is_down c.lower.gateway c.upper.gateway (record { a = one.0; b = one.1; x = c.lower; y = c.upper; joined = c.above.joined; x_is = c.above.lower_is; y_is = c.above.upper_is; up = c.above.up; start = refl; end_ = refl }) in
          let u_live : is_live cmp e c.upper.face ≡ true = any_weaker (λ row. (c.id == row.0) && same cmp e row.1) (λ row. same cmp e row.1) (λ row both. (and_parts (c.id == row.0) (same cmp e row.1) both).1) c.upper.face.live c.live in
          (c, carried_on way one.1 g h (record { own = c.upper; own_is = c.above.upper_is; down = u_down; live = u_live }) up.1 step)

      pub carried_of : (k top : ℕ) (lives : LivesAt cmp matching e s k) (g : ℕ) → g ≡ lives.own.gateway → IsUnder s g top → (way : List (ℕ × ℕ)) × IsCarriedUp cmp matching e s k way top
      carried_of k top lives g is (Same h) = ([], (lives.own, lives.own_is, sym is))
      carried_of k top lives g is (Up h b c under step) = let w = carried_of k b lives g is under in (w.0 ++ (step.a, step.b) ∷ [], carried_on w.0 k b c lives w.1 step)
