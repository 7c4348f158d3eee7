-- Node ids that are given by tables: of single messages, and of what a rule gives for a face.
use Rattle.std.proofs.Common.{◌≡◌, ℕ, Bool, true, false, not, ◌==◌, ◌&&◌, ◌||◌, if◌then◌else◌, List, [], ◌∷◌, filter, Option, Some, None, refl, sym, ap, ◌∙◌, subst, eq-eqb}
use Rattle.std.proofs.lemmas.Bool.{and_from, and_parts}
use Rattle.std.specs.List.{list_any}
use Rattle.std.specs.declared.cmp.Ordering.{Ordering}
use Rattle.zt_region.specs.declared.region.Region.{Region}
use Rattle.zt_region.specs.declared.region.WhatAmI.{WhatAmI}
use Rattle.zt_region.specs.declared.region.Zid.{Zid}
use Rattle.zt_region.specs.Admission.{admits}
use Rattle.zt_region.specs.Region.{region_eq, region_eq-same, zid_eq, zid_eq-same}
use Rattle.zt_protocol.specs.Plain.{Trees}
use Rattle.zt_protocol.specs.declared.messages.Message.{Message}
use Rattle.zt_protocol.specs.declared.messages.Message.TheVariants as message
use Rattle.zt_model.specs.Hat.{hat_of, hat_of_face}
use Rattle.zt_model.specs.Lists.{first_where, is_among}
use Rattle.zt_model.specs.Rows.{Face, Rows}
use Rattle.zt_model.specs.Says.{forget_to, forget_untold, is_routed, is_told, tell_to, told_id}
use Rattle.zt_model.specs.Transcript.{Each}
use Rattle.zt_model.specs.Trees.{counted_table, hide_to, is_child, is_face_of_router, is_hidden, is_newly_shown, is_own_row, node_of, pass_to, routed_order, row_at, show_to, table_of, unpass_to}
use Rattle.zt_model.specs.Visible.{is_visible, shows}
use Rattle.zt_model.specs.Wants.{wants}
use Rattle.zt_laws.specs.Shown.{is_from_other}
use Rattle.zt_laws.proofs.Lists.{any_weaker, by_test, each_weaker, never, of_cond}
use Rattle.zt_theorem_visibility.proofs.Saying.{tell_says}
use Rattle.zt_theorem_exact_messages.specs.Nodes.{is_child_of, number_listed}

-- the table of a region among tables, as it counts
abbrev pub table_in : List (Region × Trees) → Region → Trees
table_in trees region = elim (first_where (λ t. region_eq region t.0) trees) [ None ↦ record { routers = []; links = []; children = [] } | Some t ↦ counted_table t.1 ]

-- a child of a source that passes a test
pub child_given : (t : Trees) (test : Zid → Bool) (source zid : Zid) (node : ℕ) → list_any (λ c. zid_eq source c.0 && zid_eq zid c.1) t.children ≡ true → node ≡ number_listed source t → test source ≡ true → is_child_of t zid node test ≡ true
child_given t test source zid node child number_ passes =
    any_weaker (λ c. zid_eq source c.0 && zid_eq zid c.1) (λ c. zid_eq zid c.1 && ((node == number_listed c.0 t) && test c.0))
    (λ c here.
    let parts = and_parts (zid_eq source c.0) (zid_eq zid c.1) here in
    let source_is : source ≡ c.0 = zid_eq-same source c.0 parts.0 in
    and_from (zid_eq zid c.1) ((node == number_listed c.0 t) && test c.0) parts.1
    (and_from (node == number_listed c.0 t) (test c.0) (eq-eqb node (number_listed c.0 t) (number_ ∙ ap (λ z. number_listed z t) source_is)) (subst (λ z. test z ≡ true) source_is passes)))
    t.children child

module _ {K : Type 0} (cmp : K → K → Ordering) (matching : K → K → Bool) where
  -- the expression stands in a row of the router's, as a transcript shows it
  abbrev pub stands : Rows K → Region → K → Zid → Bool
  stands g region e zid = zid_eq zid g.zid || is_among (routed_order cmp) (row_at cmp region zid e) (filter (is_from_other g.zid) g.routed)

  -- the message's node id is the one given to a face of a region to a remote, in a gateway of this mode with these tables
  abbrev pub given : WhatAmI → List (Region × Trees) → (Region → K → Zid → Bool) → Region → Zid → Message K → Bool
  given w trees of region zid (message.DeclareToken id e None node) = if (hat_of w region).goes_by_trees then is_child_of (table_in trees region) zid node (of region e) else node == 0
  given w trees of region zid (message.DeclareToken id e (Some interest) node) = node == 0
  given w trees of region zid (message.UndeclareToken id (Some e) node) = if (hat_of w region).goes_by_trees then is_child_of (table_in trees region) zid node (λ z. true) else node == 0
  given w trees of region zid (message.UndeclareToken id None node) = node == 0
  given w trees of region zid m = true

  abbrev pub Given : WhatAmI → List (Region × Trees) → (Region → K → Zid → Bool) → Region → Zid → Message K → Type 0
  Given w trees of region zid m = given w trees of region zid m ≡ true

  -- by a test that passes more
  pub given_more : (w : WhatAmI) (trees : List (Region × Trees)) (of more : Region → K → Zid → Bool) (region : Region) (zid : Zid) (m : Message K) → ((e : K) (z : Zid) → of region e z ≡ true → more region e z ≡ true) → Given w trees of region zid m → Given w trees more region zid m
  given_more w trees of more region zid (message.DeclareToken id e None node) passes own =
      by_test ((hat_of w region).goes_by_trees)
      (λ routed.
      rw routed
      (any_weaker (λ c. zid_eq zid c.1 && ((node == number_listed c.0 (table_in trees region)) && of region e c.0)) (λ c. zid_eq zid c.1 && ((node == number_listed c.0 (table_in trees region)) && more region e c.0))
      (λ c here.
      let one = and_parts (zid_eq zid c.1) ((node == number_listed c.0 (table_in trees region)) && of region e c.0) here in
      let two = and_parts (node == number_listed c.0 (table_in trees region)) (of region e c.0) one.1 in
      and_from (zid_eq zid c.1) ((node == number_listed c.0 (table_in trees region)) && more region e c.0) one.0 (and_from (node == number_listed c.0 (table_in trees region)) (more region e c.0) two.0 (passes e c.0 two.1)))
      (table_in trees region).children (rw routed at own)))
      (λ plain. rw plain (rw plain at own))
  given_more w trees of more region zid (message.DeclareToken id e (Some interest) node) passes own = own
  given_more w trees of more region zid (message.UndeclareToken id e node) passes own = by_kind e own
    where
      by_kind : (o : Option K) → Given w trees of region zid (message.UndeclareToken id o node) → Given w trees more region zid (message.UndeclareToken id o node)
      by_kind None h = h
      by_kind (Some x) h = h
  given_more w trees of more region zid (message.DeclareFinal interest) passes own = own
  given_more w trees of more region zid (message.Interest id mode options e) passes own = own
  given_more w trees of more region zid (message.InterestFinal id) passes own = own
  given_more w trees of more region zid (message.DeclareSubscriber id e interest) passes own = own
  given_more w trees of more region zid (message.DeclareQueryable id e info interest) passes own = own

  -- ---- messages without a node id

  abbrev pub HasNoNode : Message K → Type 0
  HasNoNode (message.DeclareToken id e interest node) = node ≡ 0
  HasNoNode (message.UndeclareToken id e node) = node ≡ 0
  HasNoNode m = Unit {0}

  -- and that can be for faces of any region
  abbrev pub IsForAny : Message K → Type 0
  IsForAny (message.DeclareToken id e None node) = ⊥
  IsForAny (message.DeclareToken id e (Some interest) node) = node ≡ 0
  IsForAny (message.UndeclareToken id None node) = node ≡ 0
  IsForAny (message.UndeclareToken id (Some e) node) = ⊥
  IsForAny m = Unit {0}

  pub given_any : (w : WhatAmI) (trees : List (Region × Trees)) (of : Region → K → Zid → Bool) (region : Region) (zid : Zid) (m : Message K) → IsForAny m → Given w trees of region zid m
  given_any w trees of region zid (message.DeclareToken id e None node) any = absurd any
  given_any w trees of region zid (message.DeclareToken id e (Some interest) node) any = eq-eqb node 0 any
  given_any w trees of region zid (message.UndeclareToken id None node) any = eq-eqb node 0 any
  given_any w trees of region zid (message.UndeclareToken id (Some e) node) any = absurd any
  given_any w trees of region zid (message.DeclareFinal interest) any = refl
  given_any w trees of region zid (message.Interest id mode options e) any = refl
  given_any w trees of region zid (message.InterestFinal id) any = refl
  given_any w trees of region zid (message.DeclareSubscriber id e interest) any = refl
  given_any w trees of region zid (message.DeclareQueryable id e info interest) any = refl

  given_plainly : (w : WhatAmI) (trees : List (Region × Trees)) (of : Region → K → Zid → Bool) (region : Region) (zid : Zid) (m : Message K) → (hat_of w region).goes_by_trees ≡ false → HasNoNode m → Given w trees of region zid m
  given_plainly w trees of region zid (message.DeclareToken id e None node) plain none_ = ap (λ b. if b then is_child_of (table_in trees region) zid node (of region e) else node == 0) plain ∙ eq-eqb node 0 none_
  given_plainly w trees of region zid (message.DeclareToken id e (Some interest) node) plain none_ = eq-eqb node 0 none_
  given_plainly w trees of region zid (message.UndeclareToken id None node) plain none_ = eq-eqb node 0 none_
  given_plainly w trees of region zid (message.UndeclareToken id (Some e) node) plain none_ = ap (λ b. if b then is_child_of (table_in trees region) zid node (λ z. true) else node == 0) plain ∙ eq-eqb node 0 none_
  given_plainly w trees of region zid (message.DeclareFinal interest) plain none_ = refl
  given_plainly w trees of region zid (message.Interest id mode options e) plain none_ = refl
  given_plainly w trees of region zid (message.InterestFinal id) plain none_ = refl
  given_plainly w trees of region zid (message.DeclareSubscriber id e interest) plain none_ = refl
  given_plainly w trees of region zid (message.DeclareQueryable id e info interest) plain none_ = refl

  -- what is said to faces outside router regions alone
  pub given_unrouted : (w : WhatAmI) (trees : List (Region × Trees)) (of : Region → K → Zid → Bool) (g : Rows K) (f : Face K) (ms : List (Message K)) → g.mode ≡ w → (is_routed g f ≡ true → ms ≡ []) → Each HasNoNode ms → Each (Given w trees of f.region f.zid) ms
  given_unrouted w trees of g f ms mode_ none_ all =
      by_test (is_routed g f)
      (λ routed. subst (Each (Given w trees of f.region f.zid)) (sym (none_ routed)) tt)
      (λ plain. each_weaker HasNoNode (Given w trees of f.region f.zid) (λ m one. given_plainly w trees of f.region f.zid m (ap (λ v. (hat_of v f.region).goes_by_trees) (sym mode_) ∙ plain) one) ms all)

  pub tell_given : (w : WhatAmI) (trees : List (Region × Trees)) (of : Region → K → Zid → Bool) (g : Rows K) (source : Region) (e : K) (f : Face K) → g.mode ≡ w → Each (Given w trees of f.region f.zid) (tell_to cmp matching g source e f)
  unfolding tell_to
  tell_given w trees of g source e f mode_ = given_unrouted w trees of g f (tell_to cmp matching g source e f) mode_ none_ (tell_says cmp matching HasNoNode (λ i x. refl) g source e f)
    where
      none_ : is_routed g f ≡ true → tell_to cmp matching g source e f ≡ []
      none_ routed = of_cond (λ ms. ms ≡ []) (is_told cmp matching g source e f) (message.DeclareToken f.next e None 0 ∷ []) [] (λ told. never routed (unrouted (and_parts (not (is_routed g f)) _ told).0)) (λ _. refl)
        where
          unrouted : not (is_routed g f) ≡ true → is_routed g f ≡ false
          unrouted h = by_test (is_routed g f) (λ here. never h (ap not here)) (λ here. here)

  pub forget_given : (w : WhatAmI) (trees : List (Region × Trees)) (of : Region → K → Zid → Bool) (g : Rows K) (source : Region) (e : K) (f : Face K) → g.mode ≡ w → Each (Given w trees of f.region f.zid) (forget_to cmp matching g source e f)
  unfolding forget_to
  forget_given w trees of g source e f mode_ = given_unrouted w trees of g f (forget_to cmp matching g source e f) mode_ none_ no_node
    where
      none_ : is_routed g f ≡ true → forget_to cmp matching g source e f ≡ []
      none_ routed = rw routed refl

      no_node : Each HasNoNode (forget_to cmp matching g source e f)
      no_node =
          of_cond (Each HasNoNode) (is_routed g f || is_visible cmp g f.region e) [] (elim (told_id cmp e f.told) [ None ↦ forget_untold cmp matching g source e f | Some id ↦ message.UndeclareToken id None 0 ∷ [] ]) (λ _. tt)
          (λ _. cases (told_id cmp e f.told))
        where
          cases : (o : Option ℕ) → (let ms : List (Message K) = elim o [ None ↦ forget_untold cmp matching g source e f | Some id ↦ message.UndeclareToken id None 0 ∷ [] ] in Each HasNoNode ms)
          cases None = of_cond (Each HasNoNode) (wants matching f e && (hat_of_face g f).undeclares_untold && shows g.mode f.region source) (message.UndeclareToken 0 (Some e) 0 ∷ []) [] (λ _. (refl, tt)) (λ _. tt)
          cases (Some id) = (refl, tt)

  -- ---- along trees

  pub pass_given : (w : WhatAmI) (trees : List (Region × Trees)) (of : Region → K → Zid → Bool) (g : Rows K) (region : Region) (source : Zid) (e : K) (f : Face K)
      → (hat_of w region).goes_by_trees ≡ true → table_of g region ≡ table_in trees region → of region e source ≡ true → Each (Given w trees of f.region f.zid) (pass_to cmp g region source e f)
  unfolding pass_to is_child
  pass_given w trees of g region source e f routed table_ has =
      let t = table_of g region in
      of_cond (Each (Given w trees of f.region f.zid)) (region_eq f.region region && is_child g t source f) (message.DeclareToken 0 e None (node_of source t) ∷ []) []
      (λ both.
      let parts = and_parts (region_eq f.region region) (is_child g t source f) both in
      let child = (and_parts (list_any (λ c. zid_eq source c.0 && zid_eq f.zid c.1) t.children) (is_face_of_router g f) parts.1).0 in
      let at_region : Given w trees of region f.zid (message.DeclareToken 0 e None (node_of source t)) =
      ap (λ b. if b then is_child_of (table_in trees region) f.zid (node_of source t) (of region e) else node_of source t == 0) routed
      ∙ child_given (table_in trees region) (of region e) source f.zid (node_of source t) (subst (λ (x : Trees). list_any (λ c. zid_eq source c.0 && zid_eq f.zid c.1) x.children ≡ true) table_ child) (ap (node_of source) table_) has in
      (subst (λ r. Given w trees of r f.zid (message.DeclareToken 0 e None (node_of source t))) (sym (region_eq-same f.region region parts.0)) at_region, tt))
      (λ _. tt)

  pub unpass_given : (w : WhatAmI) (trees : List (Region × Trees)) (of : Region → K → Zid → Bool) (g : Rows K) (region : Region) (source : Zid) (e : K) (f : Face K)
      → (hat_of w region).goes_by_trees ≡ true → table_of g region ≡ table_in trees region → Each (Given w trees of f.region f.zid) (unpass_to cmp g region source e f)
  unfolding unpass_to is_child
  unpass_given w trees of g region source e f routed table_ =
      let t = table_of g region in
      of_cond (Each (Given w trees of f.region f.zid)) (region_eq f.region region && is_child g t source f) (message.UndeclareToken 0 (Some e) (node_of source t) ∷ []) []
      (λ both.
      let parts = and_parts (region_eq f.region region) (is_child g t source f) both in
      let child = (and_parts (list_any (λ c. zid_eq source c.0 && zid_eq f.zid c.1) t.children) (is_face_of_router g f) parts.1).0 in
      let at_region : Given w trees of region f.zid (message.UndeclareToken 0 (Some e) (node_of source t)) =
      ap (λ b. if b then is_child_of (table_in trees region) f.zid (node_of source t) (λ z. true) else node_of source t == 0) routed
      ∙ child_given (table_in trees region) (λ z. true) source f.zid (node_of source t) (subst (λ (x : Trees). list_any (λ c. zid_eq source c.0 && zid_eq f.zid c.1) x.children ≡ true) table_ child) (ap (node_of source) table_) refl in
      (subst (λ r. Given w trees of r f.zid (message.UndeclareToken 0 (Some e) (node_of source t))) (sym (region_eq-same f.region region parts.0)) at_region, tt))
      (λ _. tt)

  pub show_given : (w : WhatAmI) (trees : List (Region × Trees)) (of : Region → K → Zid → Bool) (g : Rows K) (source : Region) (e : K) (f : Face K)
      → g.mode ≡ w → table_of g f.region ≡ table_in trees f.region → of f.region e g.zid ≡ true → Each (Given w trees of f.region f.zid) (show_to cmp g source e f)
  unfolding show_to is_newly_shown
  show_given w trees of g source e f mode_ table_ own =
      of_cond (Each (Given w trees of f.region f.zid)) ((hat_of g.mode f.region).goes_by_trees && (not (region_eq f.region source) && (admits g.refused source f.region && not (is_own_row cmp g f.region e)))) (pass_to cmp g f.region g.zid e f) []
      (λ shown. pass_given w trees of g f.region g.zid e f (ap (λ v. (hat_of v f.region).goes_by_trees) (sym mode_) ∙ (and_parts ((hat_of g.mode f.region).goes_by_trees) _ shown).0) table_ own)
      (λ _. tt)

  pub hide_given : (w : WhatAmI) (trees : List (Region × Trees)) (of : Region → K → Zid → Bool) (g : Rows K) (source : Region) (e : K) (f : Face K)
      → g.mode ≡ w → (region_eq f.region source ≡ false → table_of g f.region ≡ table_in trees f.region) → Each (Given w trees of f.region f.zid) (hide_to cmp g source e f)
  unfolding hide_to is_hidden
  hide_given w trees of g source e f mode_ table_ =
      of_cond (Each (Given w trees of f.region f.zid)) ((hat_of g.mode f.region).goes_by_trees && (not (region_eq f.region source) && not (is_visible cmp g f.region e))) (unpass_to cmp g f.region g.zid e f) []
      (λ hidden.
      let parts = and_parts ((hat_of g.mode f.region).goes_by_trees) (not (region_eq f.region source) && not (is_visible cmp g f.region e)) hidden in
      let apart = (and_parts (not (region_eq f.region source)) (not (is_visible cmp g f.region e)) parts.1).0 in
      unpass_given w trees of g f.region g.zid e f (ap (λ v. (hat_of v f.region).goes_by_trees) (sym mode_) ∙ parts.0) (table_ (by_test (region_eq f.region source) (λ here. never apart (ap not here)) (λ here. here))))
      (λ _. tt)
