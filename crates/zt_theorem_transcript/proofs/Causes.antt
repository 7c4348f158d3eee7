-- The causes of a line are those that a transcript shows, and too few ids are a cause beside the others.
use Rattle.std.proofs.Common.{◌≡◌, ℕ, ◌+◌, zero, suc, Bool, true, cond, not, ◌==◌, ◌&&◌, ◌||◌, nat_le, List, [], ◌∷◌, ◌++◌, length, map, Option, Some, None, Ok, Err, is_none, is_some, refl, ap, ◌∙◌}
use Rattle.std.proofs.lemmas.List.{length-map}
use Rattle.std.specs.List.{list_any}
use Rattle.std.specs.declared.cmp.Ordering.{Ordering}
use Rattle.zt_region.specs.Tables.{RegionAnswer}
use Rattle.zt_region.specs.Region.{is_north}
use Rattle.zt_protocol.specs.Plain.{PlainCall, NewSession, NewTransport, DeclareToken, UndeclareToken, Interest, InterestFinal, DeclareFinal, CloseFace, Expire, SetTrees, SetEntities, PlainLine, Gateway, Session, Face as FaceLine, Link as LinkLine, Unlink, Step, Speak, Moment, SetTreesAt}
use Rattle.zt_protocol.specs.declared.errors.Refusal.TheVariants as refusal
use Rattle.zt_model.specs.Fabric.{CallAt, Fabric, Node, line_causes, call_at, call_face, call_of, call_of_face, call_of_step, causes_of_call, is_linked_face, is_full, is_open_link, is_unknown_gateway, is_without_trees_above, number_of_place, table_at}
use Rattle.zt_model.specs.Hat.{hat_of, north_hat}
use Rattle.zt_model.specs.Linking.{LinkEnd, climbs_to, closes_loop, end_region, gateway_above, gateway_beyond, is_answer, is_end, is_refused_end, link_ends, oldest}
use Rattle.zt_model.specs.Lists.{first_where, is_some_and, nth}
use Rattle.zt_model.specs.Refusals.{Causes, call_causes, is_north_taken, GREATEST_NUMBER}
use Rattle.zt_model.specs.Rows.{Rows}
use Rattle.zt_model.specs.Strategy.{is_region_of}
use Rattle.zt_model.specs.Trees.{source_of, table_of}
use Rattle.zt_laws.specs.Shown.{as_shown, call_shown, node_shown, without_own}
use Rattle.zt_laws.proofs.Lists.{any-map, any_alike}
use Rattle.zt_theorem_visibility.proofs.Future.{call_at_shown, call_of_face_shown, call_of_step_shown, nth_map}

module _ {K : Type 0} where
  unfoldable pub end_shown : LinkEnd K → LinkEnd K
  end_shown end = record end { node = node_shown end.node; other = node_shown end.other }

  pub link_ends_shown : (s : Fabric K) (one two first back : ℕ) → link_ends (as_shown s) one two first back ≡ map end_shown (link_ends s one two first back)
  unfolding end_shown
  link_ends_shown s one two first back =
      ap (λ (o : Option (Node K)). ends o (nth two (map node_shown s.gateways))) (nth_map node_shown one s.gateways)
      ∙ ap (λ (o : Option (Node K)). ends (shown (nth one s.gateways)) o) (nth_map node_shown two s.gateways)
      ∙ cases (nth one s.gateways) (nth two s.gateways)
    where
      ends : Option (Node K) → Option (Node K) → List (LinkEnd K)
      ends a b = elim a [
        | None ↦ []
        | Some a ↦
            elim b [
              | None ↦ []
              | Some b ↦ record { gateway = one; node = a; beyond = two; other = b; first = first } ∷ record { gateway = two; node = b; beyond = one; other = a; first = back } ∷ []
            ]
      ]

      shown : Option (Node K) → Option (Node K)
      shown o = elim o [ None ↦ None | Some node ↦ Some (node_shown node) ]

      cases : (a b : Option (Node K)) → ends (shown a) (shown b) ≡ map end_shown (ends a b)
      cases None b = refl
      cases (Some a) None = refl
      cases (Some a) (Some b) = refl

  unknown_shown : (s : Fabric K) (n : ℕ) → is_unknown_gateway (as_shown s) n ≡ is_unknown_gateway s n
  unknown_shown s n = ap is_none (nth_map node_shown n s.gateways) ∙ cases (nth n s.gateways)
    where
      cases : (o : Option (Node K)) → is_none (elim o [ None ↦ None | Some x ↦ Some (node_shown x) ]) ≡ is_none o
      cases None = refl
      cases (Some x) = refl

  above_shown : (s : Fabric K) (n : ℕ) → gateway_above (as_shown s) n ≡ gateway_above s n
  above_shown s n = ap found (nth_map node_shown n s.gateways) ∙ cases (nth n s.gateways)
    where
      found : Option (Node K) → Option ℕ
      found o =
          elim o [
            | None ↦ None
            | Some node ↦
                cond (north_hat node.rows.mode).has_one_face (elim (first_where (λ f. is_north f.region) node.rows.faces) [ None ↦ None | Some f ↦ gateway_beyond s (number_of_place s n f.number) ]) None
          ]

      cases : (o : Option (Node K)) → found (elim o [ None ↦ None | Some x ↦ Some (node_shown x) ]) ≡ found o
      cases None = refl
      cases (Some x) = refl

  climbs_shown : (fuel : ℕ) (s : Fabric K) (from to : ℕ) → climbs_to fuel (as_shown s) from to ≡ climbs_to fuel s from to
  unfolding climbs_to
  climbs_shown zero s from to = refl
  climbs_shown (suc fuel) s from to =
      ap (λ b. cond (from == to) true b)
      (ap (λ o. is_some_and o (λ up. climbs_to fuel (as_shown s) up to)) (above_shown s from) ∙ cases (gateway_above s from) (λ up. climbs_shown fuel s up to))
    where
      cases : (o : Option ℕ) → ((up : ℕ) → climbs_to fuel (as_shown s) up to ≡ climbs_to fuel s up to) → is_some_and o (λ up. climbs_to fuel (as_shown s) up to) ≡ is_some_and o (λ up. climbs_to fuel s up to)
      cases None more = refl
      cases (Some up) more = more up

  -- a test of ends that looks at no own rows
  ends_test : (p q : LinkEnd K → Bool) (s : Fabric K) (one two first back : ℕ) → ((end : LinkEnd K) → p (end_shown end) ≡ q end) → list_any p (link_ends (as_shown s) one two first back) ≡ list_any q (link_ends s one two first back)
  ends_test p q s one two first back same_ =
      ap (list_any p) (link_ends_shown s one two first back)
      ∙ any-map p end_shown (link_ends s one two first back)
      ∙ any_alike (λ end. p (end_shown end)) q same_ (link_ends s one two first back)

module _ {K : Type 0} (cmp : K → K → Ordering) (matching : K → K → Bool) where
  call_causes_shown : (spent : Bool) (c : PlainCall K) (g : Rows K) → call_causes cmp matching spent c (without_own g) ≡ call_causes cmp matching spent c g
  unfolding call_causes source_of table_of
  call_causes_shown spent (NewSession first) g = refl
  call_causes_shown spent (NewTransport zid whatami region bound first) g = refl
  call_causes_shown spent (DeclareToken n id e node interest) g = refl
  call_causes_shown spent (UndeclareToken n id given node) g = refl
  call_causes_shown spent (Interest n id mode options e) g = refl
  call_causes_shown spent (InterestFinal n id) g = refl
  call_causes_shown spent (DeclareFinal n id) g = refl
  call_causes_shown spent (CloseFace n) g = refl
  call_causes_shown spent (Expire now) g = refl
  call_causes_shown spent (SetTrees region t) g = refl
  call_causes_shown spent (SetEntities n subscribers queryables) g = refl

  of_call_shown : (spent : Bool) (at : Option (CallAt K)) → causes_of_call cmp matching spent (call_shown at) ≡ causes_of_call cmp matching spent at
  of_call_shown spent None = refl
  of_call_shown spent (Some at) = call_causes_shown spent at.call at.rows

  of_call_at : (spent : Bool) (s : Fabric K) (n : ℕ) (c : PlainCall K) → causes_of_call cmp matching spent (call_at (as_shown s) n c) ≡ causes_of_call cmp matching spent (call_at s n c)
  of_call_at spent s n c = ap (causes_of_call cmp matching spent) (call_at_shown s n c) ∙ of_call_shown spent (call_at s n c)

  none_shown : (at : Option (CallAt K)) → is_none (call_shown at) ≡ is_none at
  none_shown None = refl
  none_shown (Some at) = refl

  full_shown : (s : Fabric K) → is_full (map node_shown s.gateways) ≡ is_full s.gateways
  full_shown s = ap (λ n. nat_le GREATEST_NUMBER n) (length-map s.gateways node_shown)

  -- The causes of a line are the same, as a transcript shows the fabric.
  pub causes_shown : (spent : Bool) (line : PlainLine K) (s : Fabric K) → line_causes cmp matching spent line (as_shown s) ≡ line_causes cmp matching spent line s
  unfolding line_causes call_of end_region end_shown
  causes_shown spent (Gateway mode zid regions south name timeout refused) s =
      ap
      (λ (b : Bool).
      (list_any (λ pair. not (is_region_of regions pair.0) || not (is_region_of regions pair.1)) refused, refusal.NoSuchRegion)
      ∷ (list_any (is_without_trees_above mode) regions, refusal.RegionConflict)
      ∷ (b, refusal.NumbersSpent)
      ∷ []) (full_shown s)
  causes_shown spent (Session n first) s = ap (λ b. (b, refusal.UnknownGateway) ∷ (is_full s.faces, refusal.NumbersSpent) ∷ []) (unknown_shown s n)
  causes_shown spent (FaceLine n mode zid region bound first) s =
      ap (λ b. (b, refusal.UnknownGateway) ∷ causes_of_call cmp matching spent (call_at (as_shown s) n (NewTransport zid mode region bound first)) ++ (is_full s.faces, refusal.NumbersSpent) ∷ []) (unknown_shown s n)
      ∙ ap (λ (cs : Causes). (is_unknown_gateway s n, refusal.UnknownGateway) ∷ cs ++ (is_full s.faces, refusal.NumbersSpent) ∷ []) (of_call_at spent s n (NewTransport zid mode region bound first))
  causes_shown spent (LinkLine one two first back) s =
      let tests = λ (a b c d e f : Bool) (rest : Causes). (a || b, refusal.UnknownGateway) ∷ (c, refusal.NoSuchRegion) ∷ (d || e, refusal.RegionConflict) ∷ (f, refusal.NorthTaken) ∷ rest in
      let loops = λ (b : Bool). (b, refusal.WouldLoop) ∷ (spent, refusal.IdsSpent) ∷ (nat_le GREATEST_NUMBER (length s.faces + 1) || is_full s.links, refusal.NumbersSpent) ∷ [] in
      let ends_ = link_ends (as_shown s) one two first back in
      let ends = link_ends s one two first back in
      let region_ = is_end {K = K} (λ end region bound. not (is_region_of end.node.rows.regions region)) in
      let fits_ = is_end {K = K} (λ end region bound. not ((hat_of end.node.rows.mode region).fits region end.other.rows.mode bound)) in
      let taken_ = is_end {K = K} (λ end region bound. is_north_taken region end.node.rows) in
      ap (λ x. tests x (is_unknown_gateway (as_shown s) two) (list_any region_ ends_) (list_any is_refused_end ends_) (list_any fits_ ends_) (list_any taken_ ends_) (loops (list_any (is_end (closes_loop (as_shown s))) ends_))) (unknown_shown s one)
      ∙ ap (λ x. tests (is_unknown_gateway s one) x (list_any region_ ends_) (list_any is_refused_end ends_) (list_any fits_ ends_) (list_any taken_ ends_) (loops (list_any (is_end (closes_loop (as_shown s))) ends_))) (unknown_shown s two)
      ∙ ap (λ x. tests (is_unknown_gateway s one) (is_unknown_gateway s two) x (list_any is_refused_end ends_) (list_any fits_ ends_) (list_any taken_ ends_) (loops (list_any (is_end (closes_loop (as_shown s))) ends_))) (ends_test region_ region_ s one two first back (λ end. refl))
      ∙ ap (λ x. tests (is_unknown_gateway s one) (is_unknown_gateway s two) (list_any region_ ends) x (list_any fits_ ends_) (list_any taken_ ends_) (loops (list_any (is_end (closes_loop (as_shown s))) ends_))) (ends_test is_refused_end is_refused_end s one two first back (λ end. refl))
      ∙ ap (λ x. tests (is_unknown_gateway s one) (is_unknown_gateway s two) (list_any region_ ends) (list_any is_refused_end ends) x (list_any taken_ ends_) (loops (list_any (is_end (closes_loop (as_shown s))) ends_))) (ends_test fits_ fits_ s one two first back (λ end. refl))
      ∙ ap (λ x. tests (is_unknown_gateway s one) (is_unknown_gateway s two) (list_any region_ ends) (list_any is_refused_end ends) (list_any fits_ ends) x (loops (list_any (is_end (closes_loop (as_shown s))) ends_))) (ends_test taken_ taken_ s one two first back (λ end. refl))
      ∙ ap (λ x. tests (is_unknown_gateway s one) (is_unknown_gateway s two) (list_any region_ ends) (list_any is_refused_end ends) (list_any fits_ ends) (list_any taken_ ends) (loops x)) (ends_test (is_end (closes_loop (as_shown s))) (is_end (closes_loop s)) s one two first back (λ end. loop_at end (end_region end.node end.other)))
    where
      loop_at : (end : LinkEnd K) (o : RegionAnswer) → is_answer o (closes_loop (as_shown s) (end_shown end)) ≡ is_answer o (closes_loop s end)
      loop_at end (Ok given) =
          ap (λ b. (north_hat end.node.rows.mode).has_one_face && (is_north given.0 && b))
          (ap (λ fuel. climbs_to fuel (as_shown s) end.beyond end.gateway) (length-map s.gateways node_shown) ∙ climbs_shown (length s.gateways) s end.beyond end.gateway)
      loop_at end (Err e) = refl
  causes_shown spent (Unlink link) s = refl
  causes_shown spent (Step link back) s =
      ap (λ (cs : Causes). (not (is_open_link s link), refusal.UnknownLink) ∷ (not (is_some_and (nth link s.links) (λ l. is_some (oldest s l back))), refusal.EmptyLink) ∷ cs)
      (ap (causes_of_call cmp matching spent) (call_of_step_shown s back (nth link s.links)) ∙ of_call_shown spent (call_of_step s back (nth link s.links)))
  causes_shown spent (Speak c) s =
      let at_ = call_of_face (as_shown s) c (call_face c) in
      let at = call_of_face s c (call_face c) in
      ap (λ (o : Option (CallAt K)). (is_none o, refusal.UnknownFace) ∷ (is_linked_face s (call_face c), refusal.LinkedFace) ∷ causes_of_call cmp matching spent o) (call_of_face_shown s c (call_face c))
      ∙ ap (λ b. (b, refusal.UnknownFace) ∷ (is_linked_face s (call_face c), refusal.LinkedFace) ∷ causes_of_call cmp matching spent (call_shown at)) (none_shown at)
      ∙ ap (λ (cs : Causes). (is_none at, refusal.UnknownFace) ∷ (is_linked_face s (call_face c), refusal.LinkedFace) ∷ cs) (of_call_shown spent at)
  causes_shown spent (Moment n now) s =
      ap (λ b. (b, refusal.UnknownGateway) ∷ causes_of_call cmp matching spent (call_at (as_shown s) n (Expire now))) (unknown_shown s n)
      ∙ ap (λ (cs : Causes). (is_unknown_gateway s n, refusal.UnknownGateway) ∷ cs) (of_call_at spent s n (Expire now))
  causes_shown spent (SetTreesAt n region t) s =
      let c : PlainCall K = SetTrees region (table_at s n t) in
      ap (λ b. (b, refusal.UnknownGateway) ∷ causes_of_call cmp matching spent (call_at (as_shown s) n c)) (unknown_shown s n)
      ∙ ap (λ (cs : Causes). (is_unknown_gateway s n, refusal.UnknownGateway) ∷ cs) (of_call_at spent s n c)
