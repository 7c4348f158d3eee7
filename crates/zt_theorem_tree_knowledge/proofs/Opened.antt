-- A gateway is made, or a plain face opens: all that is true of trees is kept.
use Rattle.std.proofs.Common.{◌≡◌, ℕ, ◌+◌, ◌-◌, ◌≤◌, Bool, true, false, ◌||◌, ◌==◌, List, [], ◌∷◌, ◌++◌, length, map, Option, Some, None, option_map, refl, sym, ap, ◌∙◌, subst, arith, eq-eqb, eqb-true, ne_eqb, le_trans, length-append, ⊎_elim}
use Rattle.std.proofs.lemmas.Bool.{or_cases}
use Rattle.std.specs.Cmp.{IsTotalOrder}
use Rattle.std.specs.List.{list_any}
use Rattle.std.specs.declared.cmp.Ordering.{Ordering}
use Rattle.zt_region.specs.Region.{is_north}
use Rattle.zt_protocol.specs.Plain.{PlainCall, NewSession, NewTransport, DeclareToken, UndeclareToken, Interest, InterestFinal, DeclareFinal, CloseFace, Expire, SetTrees, SetEntities}
use Rattle.zt_protocol.specs.declared.entries.Sent.{Sent}
use Rattle.zt_protocol.specs.declared.messages.Message.{Message}
use Rattle.zt_model.specs.Fabric.{Fabric, Link, Node, Place, next_face, printed_for, with_gateway, with_place}
use Rattle.zt_model.specs.Hearing.{heard_all, messages_for, rows_heard}
use Rattle.zt_model.specs.Linking.{is_end_of}
use Rattle.zt_model.specs.Lists.{first_where, has_id, nth}
use Rattle.zt_model.specs.Parts.{altered_by, find_face}
use Rattle.zt_model.specs.Rows.{ById, Face, Rows}
use Rattle.zt_model.specs.Says.{altered, parts_of, said}
use Rattle.zt_model.specs.Transcript.{Each}
use Rattle.zt_laws.specs.Order.{FabricIsInOrder}
use Rattle.zt_laws.specs.Sound.{opens_face, places_of, rows_after_call}
use Rattle.zt_laws.proofs.Entries.{nth-at_nth}
use Rattle.zt_laws.proofs.Gateways.{PrintsSends}
use Rattle.zt_laws.proofs.Hearing.{heard_all-number}
use Rattle.zt_laws.proofs.Lists.{any_member, by_test, each_append, each_map, each_weaker, never, of_cond}
use Rattle.zt_laws.proofs.LinesOrder.{gateway_in_order}
use Rattle.zt_laws.proofs.Numbered.{length-at_nth, nth_real}
use Rattle.zt_theorem_tree_invariant.specs.Facts.{IsTreeGateway, TreesAgree}
use Rattle.zt_theorem_tree_invariant.proofs.Making.{changes, face_opened, gateway_made, nth_front, seen, then_}
use Rattle.zt_theorem_tree_invariant.proofs.Members.{each_nth, is_there, numbered}
use Rattle.zt_theorem_tree_invariant.proofs.Saying.{find_map}
use Rattle.zt_theorem_tree_invariant.proofs.Standing.{nth_before}
use Rattle.zt_theorem_tree_knowledge.proofs.LineCalls.{each_at_nth, the_one}
use Rattle.zt_theorem_tree_knowledge.proofs.Views.{IsLike, like_falls, like_stands}

pub nth_was : {A : Type 0} (n : ℕ) (xs ys : List A) (x : A) → n ≤ length xs → nth n (xs ++ ys) ≡ Some x → nth n xs ≡ Some x
nth_was n [] ys x within at_ = let real : 1 ≤ n = nth_real n ys x at_ in let none_ : n ≤ 0 = within in absurd (omega arith)
nth_was n (y ∷ xs) ys x within at_ =
    by_test (n == 1)
    (λ here. rw here (rw here at at_))
    (λ here.
    let rest : nth (n - 1) (xs ++ ys) ≡ Some x = rw here at at_ in
    let le : n ≤ length (y ∷ xs) = within in
    let less : n - 1 ≤ length xs = omega arith in
    rw here (nth_was (n - 1) xs ys x less rest))

-- what is true of the places of a gateway is so of one that is found
placed_fact : (P : Place → Type 0) (n k : ℕ) (ps : List Place) (p : Place) → nth k ps ≡ Some p → p.gateway ≡ n → Each P (places_of n ps) → P p
placed_fact P n k [] p at_ here all = cc
placed_fact P n k (q ∷ ps) p at_ here all =
    by_test (k == 1)
    (λ own.
    let first : Some q ≡ Some p = rw own at at_ in
    let is : q ≡ p = the_one first in
    let there : (n == q.gateway) ≡ true = eq-eqb n q.gateway (sym here ∙ ap (λ (r : Place). r.gateway) (sym is)) in
    let both : Each P (q ∷ places_of n ps) = rw there at all in
    subst P is both.0)
    (λ own.
    placed_fact P n (k - 1) ps p (rw own at at_) here
    (of_cond (λ (rs : List Place). Each P rs → Each P (places_of n ps)) (n == q.gateway) (q ∷ places_of n ps) (places_of n ps) (λ _ two. two.1) (λ _ two. two) all))

-- an end of a link is a face that was made
pub end_made : {K : Type 0} (s : Fabric K) (a : ℕ) → Each (λ (link : Link). (link.one ≤ length s.faces) × (link.two ≤ length s.faces)) s.links → list_any (is_end_of a) s.links ≡ true → a ≤ length s.faces
end_made s a made some =
    any_member (λ (link : Link). (link.one ≤ length s.faces) × (link.two ≤ length s.faces)) (is_end_of a) s.links made some
    (λ link le here.
    ⊎_elim (λ one. subst (λ k. k ≤ length s.faces) (sym (eqb-true a link.one one)) le.0) (λ two. subst (λ k. k ≤ length s.faces) (sym (eqb-true a link.two two)) le.1)
    (or_cases (a == link.one) (a == link.two) here))

has_added : {K : Type 0} (ms : List (Sent K)) (k : ℕ) (rows : ById (List (Message K))) → has_id k (map (λ row. (row.0, row.1 ++ printed_for row.0 ms)) rows) ≡ has_id k rows
has_added ms k [] = refl
has_added ms k (row ∷ rows) = ap (λ b. (k == row.0) || b) (has_added ms k rows)

module _ {K : Type 0} (cmp : K → K → Ordering) (matching : K → K → Bool) (total : IsTotalOrder cmp) (s : Fabric K) (fine : FabricIsInOrder cmp matching s) (agree : TreesAgree cmp matching s) where
  -- ---- a gateway

  pub trees_after_gateway : (node : Node K) → node.rows.faces ≡ [] → IsTreeGateway cmp matching node.rows → TreesAgree cmp matching (with_gateway node s)
  trees_after_gateway node empty_ tree =
      let t = with_gateway node s in
      let more : length s.gateways ≤ length (s.gateways ++ node ∷ []) = omega (arith, length-append s.gateways (node ∷ [])) in
      let like : IsLike cmp matching s t = record {
        links = refl;
        faces = omega arith;
        gateways = more;
        wait = λ k h. h;
        rows = agree.links.rows;
        there = λ a b z joined found.
            let at_ = is_there s a z found in
            record {
              face = record { gateway = at_.place.gateway; rows = at_.node.rows; face = z.face };
              is = numbered t a at_.place at_.node z.face at_.place_is (ap (λ g. nth g (s.gateways ++ node ∷ [])) at_.gateway_is ∙ nth_front z.gateway s.gateways (node ∷ []) at_.node at_.node_is) (ap (λ n. find_face n at_.node.rows) at_.number_is ∙ ap (find_face z.face.number) at_.rows_are ∙ at_.face_is);
              gateway = at_.gateway_is;
              region = refl;
            };
        was = λ a x found some.
            let at_ = is_there t a x found in
            let within : at_.place.gateway ≤ length s.gateways = each_nth (λ (p : Place). p.gateway ≤ length s.gateways) a s.faces at_.place fine.places_exist at_.place_is in
            let there : nth at_.place.gateway s.gateways ≡ Some at_.node = nth_was at_.place.gateway s.gateways (node ∷ []) at_.node within (ap (λ g. nth g (s.gateways ++ node ∷ [])) at_.gateway_is ∙ at_.node_is) in
            (record { gateway = at_.place.gateway; rows = at_.node.rows; face = x.face }, numbered s a at_.place at_.node x.face at_.place_is there (ap (λ n. find_face n at_.node.rows) at_.number_is ∙ ap (find_face x.face.number) at_.rows_are ∙ at_.face_is));
      } in
      record {
        gateways = each_append (λ (x : Node K). IsTreeGateway cmp matching x.rows) s.gateways (node ∷ []) agree.gateways (tree, tt);
        joints = gateway_made cmp matching total s fine agree node;
        links = like_stands cmp matching s t like agree.links;
        forest = like_falls cmp matching s t like agree.links agree.forest;
      }

  -- ---- a face

  module _ (n : ℕ) (node : Node K) (at_n : nth n s.gateways ≡ Some node) (c : PlainCall K) (opens : opens_face c ≡ true) (ms : List (Sent K)) (prints : PrintsSends (with_place n s).faces n (said cmp matching c node.rows) ms) where
    abbrev pub after_opened : Fabric K
    after_opened = then_ cmp matching total s fine agree n node at_n c opens ms prints

    -- one face comes behind the others
    pub made_by : (f : Face K) × ((altered cmp matching c node.rows).faces ≡ node.rows.faces ++ f ∷ []) × (f.number ≡ node.rows.made + 1)
    unfolding parts_of altered_by
    made_by = by_call c opens
      where
        by_call : (d : PlainCall K) → opens_face d ≡ true → (f : Face K) × ((altered cmp matching d node.rows).faces ≡ node.rows.faces ++ f ∷ []) × (f.number ≡ node.rows.made + 1)
        by_call (NewSession first) o = (_, refl, refl)
        by_call (NewTransport zid whatami region bound first) o = (_, refl, refl)
        by_call (DeclareToken k id e m i) o = never o refl
        by_call (UndeclareToken k id e m) o = never o refl
        by_call (Interest k id mode options e) o = never o refl
        by_call (InterestFinal k id) o = never o refl
        by_call (DeclareFinal k id) o = never o refl
        by_call (CloseFace k) o = never o refl
        by_call (Expire now) o = never o refl
        by_call (SetTrees region t) o = never o refl
        by_call (SetEntities k subscribers queryables) o = never o refl

    found_before : (p : ℕ) (f : Face K) (fs : List (Face K)) (h : Face K) → f.number ≡ node.rows.made + 1 → p ≤ node.rows.made → first_where (λ k. p == k.number) (fs ++ f ∷ []) ≡ Some h → first_where (λ k. p == k.number) fs ≡ Some h
    found_before p f [] h number_ within found = let miss : (p == f.number) ≡ false = ne_eqb p f.number (λ is. omega arith) in let bad : None ≡ Some h = rw miss at found in cc
    found_before p f (k ∷ fs) h number_ within found = by_test (p == k.number) (λ here. rw here (rw here at found)) (λ here. rw here (found_before p f fs h number_ within (rw here at found)))

    was_open : (p : ℕ) (x : Face K) → p ≤ node.rows.made → find_face p (rows_after_call cmp matching c node.rows) ≡ Some x → (h : Face K) × (find_face p node.rows ≡ Some h)
    unfolding rows_heard
    was_open p x within found = by_found (find_face p g) refl
      where
        g : Rows K
        g = altered cmp matching c node.rows

        ss : List (ℕ × Message K)
        ss = said cmp matching c node.rows

        by_found : (o : Option (Face K)) → find_face p g ≡ o → (h : Face K) × (find_face p node.rows ≡ Some h)
        by_found (Some h) is = (h, found_before p made_by.0 node.rows.faces h made_by.2 within (ap (first_where (λ k. p == k.number)) (sym made_by.1) ∙ is))
        by_found None is =
            let gone : find_face p (rows_heard cmp ss g) ≡ None = find_map cmp p (λ h. heard_all cmp g.moment (messages_for h.number ss) h) g.faces (λ h. heard_all-number cmp g.moment (messages_for h.number ss) h) ∙ ap (option_map (λ h. heard_all cmp g.moment (messages_for h.number ss) h)) is in
            let bad : None ≡ Some x = sym gone ∙ found in
            cc

    opened_like : IsLike cmp matching s after_opened
    opened_like =
        let longer : length s.faces ≤ length (with_place n s).faces = omega (arith, length-append s.faces (record { gateway = n; face = next_face (nth n s.gateways) } ∷ [])) in
        let change = changes cmp matching total s fine agree n node at_n c opens ms prints in
        record {
          links = refl;
          faces = longer;
          gateways = subst (λ k. length s.gateways ≤ k) (sym (length-at_nth n change s.gateways)) (omega arith);
          wait = λ k h. has_added ms k s.waiting ∙ h;
          rows = each_map (λ (row : ℕ × List (Message K)). row.0 ≤ length (with_place n s).faces) (λ row. (row.0, row.1 ++ printed_for row.0 ms)) s.waiting (each_weaker (λ row. row.0 ≤ length s.faces) (λ row. row.0 ≤ length (with_place n s).faces) (λ row le. le_trans le longer) s.waiting agree.links.rows);
          there = λ a b z joined found. let u = seen cmp matching total s fine agree n node at_n c opens ms prints a z found in record { face = u.0; is = u.1.0; gateway = u.1.2; region = ap (λ (f : Face K). is_north f.region) u.1.1 };
          was = λ a x found some.
              let at_ = is_there after_opened a x found in
              let place_is : nth a s.faces ≡ Some at_.place = nth_was a s.faces (record { gateway = n; face = next_face (nth n s.gateways) } ∷ []) at_.place (end_made s a agree.links.made some) at_.place_is in
              by_test (x.gateway == n)
              (λ here.
              let at_x : x.gateway ≡ n = eqb-true x.gateway n here in
              let place_here : at_.place.gateway ≡ n = at_.gateway_is ∙ at_x in
              let within : at_.place.face ≤ node.rows.made = placed_fact (λ p. p.face ≤ node.rows.made) n a s.faces at_.place place_is place_here (gateway_in_order cmp matching s n node at_n fine).places_made in
              let node_now : nth n after_opened.gateways ≡ Some (change node) = nth-at_nth n change s.gateways node at_n in
              let node_same : at_.node ≡ change node = the_one (sym at_.node_is ∙ ap (λ g. nth g after_opened.gateways) at_x ∙ node_now) in
              let rows_same : x.rows ≡ rows_after_call cmp matching c node.rows = sym at_.rows_are ∙ ap (λ (y : Node K). y.rows) node_same in
              let h = was_open at_.place.face x.face within (ap (λ k. find_face k (rows_after_call cmp matching c node.rows)) at_.number_is ∙ ap (find_face x.face.number) (sym rows_same) ∙ at_.face_is) in
              (record { gateway = at_.place.gateway; rows = node.rows; face = h.0 }, numbered s a at_.place node h.0 place_is (ap (λ i. nth i s.gateways) place_here ∙ at_n) h.1))
              (λ apart.
              let node_before : nth x.gateway s.gateways ≡ Some at_.node = nth_before x.gateway n change s.gateways at_.node (nth_real n s.gateways node at_n) (λ is. never (eq-eqb x.gateway n is) apart) at_.node_is in
              (record { gateway = at_.place.gateway; rows = at_.node.rows; face = x.face }, numbered s a at_.place at_.node x.face place_is (ap (λ g. nth g s.gateways) at_.gateway_is ∙ node_before) (ap (λ k. find_face k at_.node.rows) at_.number_is ∙ ap (find_face x.face.number) at_.rows_are ∙ at_.face_is)));
        }

    -- Where the gateway is still one of a tree, all of it is kept.
    pub trees_after_opened : IsTreeGateway cmp matching (rows_after_call cmp matching c node.rows) → TreesAgree cmp matching after_opened
    trees_after_opened tree = record {
      gateways = each_at_nth (λ (x : Node K). IsTreeGateway cmp matching x.rows) n (changes cmp matching total s fine agree n node at_n c opens ms prints) s.gateways node at_n tree agree.gateways;
      joints = face_opened cmp matching total s fine agree n node at_n c opens ms prints;
      links = like_stands cmp matching s after_opened opened_like agree.links;
      forest = like_falls cmp matching s after_opened opened_like agree.links agree.forest;
    }
