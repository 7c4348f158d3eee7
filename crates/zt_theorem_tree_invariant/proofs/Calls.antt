-- Calls at a gateway of a tree: what each says to a face is said well, and what it changes of a face itself.
use Rattle.std.proofs.Common.{◌≡◌, ◌≢◌, ℕ, Bool, true, false, if◌then◌else◌, ◌&&◌, ◌==◌, not, List, [], ◌∷◌, ◌++◌, map, filter, Option, Some, None, refl, sym, ap, ◌∙◌, subst, eq-eqb, eqb-true, ne_eqb}
use Rattle.std.specs.List.{flat_map}
use Rattle.std.specs.declared.cmp.Ordering.{Ordering}
use Rattle.zt_region.specs.declared.region.Region.{Region}
use Rattle.zt_region.specs.declared.region.WhatAmI.{WhatAmI}
use Rattle.zt_region.specs.declared.region.Zid.{Zid}
use Rattle.zt_region.specs.Region.{region_eq, region_eq-same}
use Rattle.zt_protocol.specs.Plain.{DeclareToken, UndeclareToken, InterestFinal, DeclareFinal, CloseFace, Expire, SetTrees, SetEntities, Trees}
use Rattle.zt_protocol.specs.declared.messages.Message.TheVariants as message
use Rattle.zt_protocol.specs.declared.messages.QueryableInfo.{QueryableInfo}
use Rattle.zt_model.specs.Closing.{closing, is_expired, leaving, without_asks, without_face}
use Rattle.zt_model.specs.Entities.{entity_expressions, with_numbers}
use Rattle.zt_model.specs.Hat.{hat_of}
use Rattle.zt_model.specs.Lists.{at_id, first_where, has_id}
use Rattle.zt_model.specs.Parts.{Alter, Part, Say, find_face, is_routed, to_each, unsaid_to, with_face}
use Rattle.zt_model.specs.Routing.{ended, ending, finalising, finishing}
use Rattle.zt_model.specs.Rows.{Face, InterestRow, Pending, Rows}
use Rattle.zt_model.specs.Says.{declaring_of, finalising_held, forget, hiding_undeclared, parts_of, undeclaring_of}
use Rattle.zt_model.specs.Telling.{answering, declaring, registers, undeclaring}
use Rattle.zt_model.specs.Transcript.{Each}
use Rattle.zt_model.specs.Trees.{counted_table, forgetting, greet_to, hiding, is_child, left_out, routed_expressions, routers_in_order, showing, source_of, table_of}
use Rattle.zt_laws.proofs.Hearing.{find_each}
use Rattle.zt_laws.proofs.Lists.{by_test, each_always, each_append, each_filter, never, of_cond, rise_filter}
use Rattle.zt_laws.proofs.PartsOrder.{each_flat_map}
use Rattle.zt_theorem_tree_invariant.specs.Facts.{IsTreeFace}
use Rattle.zt_theorem_tree_invariant.proofs.Knowledge.{is_no_router}
use Rattle.zt_theorem_tree_invariant.proofs.Parts.{Good, Inside, good_answer, good_ending, good_finalising, good_forget, good_hiding, good_hiding_undeclared, good_initial, good_moment, good_registered, good_showing, good_tell, good_undeclaring, still_inside, tree_face_less}
use Rattle.zt_theorem_tree_invariant.proofs.Saying.{IsReal, SaidWell, TreeRows}
use Rattle.zt_theorem_tree_invariant.proofs.Tracking.{SameEar, find_with_face, good_unsaid, sent_each, with_face_rows}

module _ {K : Type 0} (cmp : K → K → Ordering) (matching : K → K → Bool) (p n : ℕ) (up : Bool) (R : Face K → Face K → Type 0) (itself : (f : Face K) → R f f) (trans : (f h k : Face K) → R f h → R h k → R f k) (ear : (f h : Face K) → R f h → SameEar f h)
    (own : n ≡ p → (f h : Face K) → SameEar f h → R f h) (ends : (id : ℕ) (f : Face K) → R f (ended id f)) (mode : WhatAmI) where
  abbrev Fine : Part K → Type 0
  Fine part = Good cmp matching p n up R itself trans ear own ends mode part

  tree_face_of : (g : Rows K) (k : ℕ) (f : Face K) → TreeRows cmp g → find_face k g ≡ Some f → IsTreeFace g.mode f
  tree_face_of g k f rows found = find_each (IsTreeFace g.mode) (λ (h : Face K). k == h.number) g.faces f rows.faces found

  pub declare_fine : (id node : ℕ) (e : K) (interest : Option ℕ) (g : Rows K) → Inside cmp matching p n up R itself trans ear own ends mode g → Each Fine (parts_of cmp matching (DeclareToken n id e node interest) g)
  unfolding parts_of
  declare_fine id node e interest g inside = cases (find_face n g) refl
    where
      answers : (i : Option ℕ) (f : Face K) → Each Fine (answering cmp matching n i e f)
      answers None f = tt
      answers (Some i) f = of_cond (Each Fine) (has_id i f.pendings) (Say (λ g. to_each _ g.faces) ∷ []) [] (λ _. (good_answer cmp matching p n up R itself trans ear own ends mode n i e, tt)) (λ _. tt)

      cases : (o : Option (Face K)) → find_face n g ≡ o
          → Each Fine (elim o [ None ↦ [] | Some f ↦ if is_routed g f then declaring_of cmp matching n (source_of g f node) e f else answering cmp matching n interest e f ++ (if registers f interest then declaring cmp matching n id e f ++ showing cmp f.region e else []) ])
      cases None found = tt
      cases (Some f) found =
          let plain : is_routed g f ≡ false = is_no_router g f (tree_face_of g n f inside.0 found) in
          rw plain (each_append Fine (answering cmp matching n interest e f) (if registers f interest then declaring cmp matching n id e f ++ showing cmp f.region e else []) (answers interest f)
          (of_cond (Each Fine) (registers f interest) (declaring cmp matching n id e f ++ showing cmp f.region e) []
          (λ _. (good_registered cmp matching p n up R itself trans ear own ends mode id e, (good_tell cmp matching p n up R itself trans ear own ends mode f.region e, good_showing cmp matching p n up R itself trans ear own ends mode f.region e)))
          (λ _. tt)))

  pub undeclare_fine : (id node : ℕ) (given : Option K) (g : Rows K) → Inside cmp matching p n up R itself trans ear own ends mode g → Each Fine (parts_of cmp matching (UndeclareToken n id given node) g)
  unfolding parts_of
  undeclare_fine id node given g inside = cases (find_face n g) refl
    where
      cases : (o : Option (Face K)) → find_face n g ≡ o → Each Fine (elim o [ None ↦ [] | Some f ↦ if is_routed g f then undeclaring_of cmp matching n (source_of g f node) given f else undeclaring cmp matching n id given f ++ hiding_undeclared cmp matching id given f ])
      cases None found = tt
      cases (Some f) found =
          let plain : is_routed g f ≡ false = is_no_router g f (tree_face_of g n f inside.0 found) in
          rw plain (each_append Fine (undeclaring cmp matching n id given f) (hiding_undeclared cmp matching id given f) (good_undeclaring cmp matching p n up R itself trans ear own ends mode id given f) (good_hiding_undeclared cmp matching p n up R itself trans ear own ends mode id given f))

  pub final_fine : (id : ℕ) (g : Rows K) → (n ≡ p → (f : Face K) (i : InterestRow K) → find_face n g ≡ Some f → at_id id f.held ≡ Some i → up ≡ false) → Each Fine (parts_of cmp matching (InterestFinal n id) g)
  unfolding parts_of
  final_fine id g down = cases (find_face n g) refl
    where
      held : (f : Face K) → find_face n g ≡ Some f → (o : Option (InterestRow K)) → at_id id f.held ≡ o → Each Fine (elim o [ None ↦ [] | Some interest ↦ finalising cmp matching n id interest ])
      held f found None at_ = tt
      held f found (Some interest) at_ = good_finalising cmp matching p n up R itself trans ear own ends mode (λ is. down is f interest found at_) id interest

      cases : (o : Option (Face K)) → find_face n g ≡ o → Each Fine (elim o [ None ↦ [] | Some f ↦ finalising_held cmp matching n id f ])
      cases None found = tt
      cases (Some f) found = held f found (at_id id f.held) refl

  pub finish_fine : (id : ℕ) (g : Rows K) → Each Fine (parts_of cmp matching (DeclareFinal n id) g)
  unfolding parts_of
  finish_fine id g = cases (find_face n g)
    where
      cases : (o : Option (Face K)) → Each Fine (elim o [ None ↦ [] | Some f ↦ finishing n id f ])
      cases None = tt
      cases (Some f) = (
        good_initial cmp matching p n up R itself trans ear own ends mode id,
        of_cond (Each Fine) (has_id id f.pendings) (ending n id) [] (λ _. good_ending cmp matching p n up R itself trans ear own ends mode n id) (λ _. tt),
      )

  pub expire_fine : (now : ℕ) (g : Rows K) → Each Fine (parts_of cmp matching (Expire now) g)
  unfolding parts_of
  expire_fine now g = (
    good_moment cmp matching p n up R itself trans ear own ends mode now,
    each_flat_map Fine (λ (f : Face K). flat_map (λ row. ending f.number row.0) (filter (is_expired now g.timeout) f.pendings)) g.faces
        (λ f. each_flat_map Fine (λ (row : ℕ × Pending). ending f.number row.0) (filter (is_expired now g.timeout) f.pendings) (λ row. good_ending cmp matching p n up R itself trans ear own ends mode f.number row.0)),
  )

  -- closing another face
  pub close_fine : n ≢ p → (g : Rows K) → Each Fine (parts_of cmp matching (CloseFace n) g)
  unfolding parts_of with_face
  close_fine apart g = cases (find_face n g)
    where
      other : (n == p) ≡ false
      other = ne_eqb n p apart

      without_asks_fine : Fine (Alter (with_face n without_asks))
      without_asks_fine = λ h f inside found. (
        (
          with_face_rows cmp matching n without_asks h (λ f. refl) (each_always (λ (f : Face K). (n == f.number) ≡ true → IsTreeFace h.mode f → IsTreeFace h.mode (without_asks f)) (λ f _ face. tree_face_less h.mode f (without_asks f) refl refl refl (λ e. e) (λ e. e) (λ e. refl) face) h.faces)
              (λ f r. record { next = r.next; told = r.told }) inside.0,
          inside.1,
        ),
        (f, find_with_face cmp matching p n without_asks h f (λ f. refl) found ∙ rw other refl, itself f),
      )

      find_without : (fs : List (Face K)) (f : Face K) → first_where (λ (h : Face K). p == h.number) fs ≡ Some f → first_where (λ (h : Face K). p == h.number) (filter (λ (h : Face K). not (n == h.number)) fs) ≡ Some f
      find_without [] f found = cc
      find_without (h ∷ fs) f found =
          by_test (n == h.number)
          (λ here.
          let miss : (p == h.number) ≡ false = by_test (p == h.number) (λ own_. never (eq-eqb n p (eqb-true n h.number here ∙ sym (eqb-true p h.number own_))) other) (λ e. e) in
          rw here (find_without fs f (rw miss at found)))
          (λ here. rw here (by_test (p == h.number) (λ own_. rw own_ (rw own_ at found)) (λ own_. rw own_ (find_without fs f (rw own_ at found)))))

      gone_fine : Fine (Alter (without_face n))
      gone_fine = λ h f inside found. (
        (
          record {
            rises = rise_filter (λ (f : Face K). f.number) 1 (λ f. not (n == f.number)) h.faces inside.0.rises;
            faces = each_filter (IsTreeFace h.mode) (λ f. not (n == f.number)) h.faces inside.0.faces;
            real = each_filter (IsReal cmp) (λ f. not (n == f.number)) h.faces inside.0.real;
          },
          inside.1,
        ),
        (f, find_without h.faces f found, itself f),
      )

      leaving_fine : (f : Face K) → Each Fine (leaving cmp matching n f)
      leaving_fine f =
          let undeclares : List (Part K) = flat_map (λ row. undeclaring cmp matching n row.0 None f ++ hiding cmp f.region row.1) f.live in
          let finals : List (Part K) = flat_map (λ row. finalising cmp matching n row.0 row.1) f.held in
          each_append Fine (undeclares ++ finals) (Alter (with_face n without_asks) ∷ flat_map (λ row. ending n row.0) f.pendings)
          (each_append Fine undeclares finals
          (each_flat_map Fine (λ (row : ℕ × K). undeclaring cmp matching n row.0 None f ++ hiding cmp f.region row.1) f.live
          (λ row. each_append Fine (undeclaring cmp matching n row.0 None f) (hiding cmp f.region row.1) (good_undeclaring cmp matching p n up R itself trans ear own ends mode row.0 None f) (good_hiding cmp matching p n up R itself trans ear own ends mode f.region row.1)))
          (each_flat_map Fine (λ (row : ℕ × InterestRow K). finalising cmp matching n row.0 row.1) f.held (λ row. good_finalising cmp matching p n up R itself trans ear own ends mode (λ is. absurd (apart is)) row.0 row.1)))
          (without_asks_fine, each_flat_map Fine (λ (row : ℕ × Pending). ending n row.0) f.pendings (λ row. good_ending cmp matching p n up R itself trans ear own ends mode n row.0))

      cases : (o : Option (Face K)) → Each Fine (elim o [ None ↦ [] | Some f ↦ closing cmp matching n g f ])
      cases None = tt
      cases (Some f) =
          each_append Fine (if is_routed g f then [] else unsaid_to n (leaving cmp matching n f)) (Alter (without_face n) ∷ [])
          (of_cond (Each Fine) (is_routed g f) [] (unsaid_to n (leaving cmp matching n f)) (λ _. tt)
          (λ _. good_unsaid cmp matching p up (Inside cmp matching p n up R itself trans ear own ends mode) (λ g inside. inside.0) (still_inside cmp matching p n up R itself trans ear own ends mode) R itself trans ear n (leaving cmp matching n f) other (leaving_fine f)))
          (gone_fine, tt)

  -- entities are replaced, of any face; routed rows change, where the region is a router's
  pub entities_fine : (k : ℕ) (subscribers : List K) (queryables : List (K × QueryableInfo)) → ((f : Face K) → R f (record f { subscribers = subscribers; queryables = queryables })) → (g : Rows K) → Each Fine (parts_of cmp matching (SetEntities k subscribers queryables) g)
  unfolding parts_of with_face
  entities_fine k subscribers queryables still g = (
    (λ h f inside found.
        let change : Face K → Face K = λ f. record f { subscribers = subscribers; queryables = queryables } in
        let numbered : Rows K = with_numbers cmp (entity_expressions cmp subscribers queryables) h in
        let rows : TreeRows cmp numbered = record { rises = inside.0.rises; faces = inside.0.faces; real = inside.0.real } in (
          (
            with_face_rows cmp matching k change numbered (λ f. refl) (each_always (λ (f : Face K). (k == f.number) ≡ true → IsTreeFace h.mode f → IsTreeFace h.mode (change f)) (λ f _ face. tree_face_less h.mode f (change f) refl refl refl (λ e. e) (λ e. e) (λ e. e) face) h.faces)
                (λ f r. record { next = r.next; told = r.told }) rows,
            inside.1,
          ),
          ((if k == p then change f else f), find_with_face cmp matching p k change numbered f (λ f. refl) found, of_cond (R f) (k == p) (change f) f (λ _. still f) (λ _. itself f)),
        )),
    tt,
  )

  pub trees_fine : (region : Region) (t : Trees) → (hat_of mode region).goes_by_trees ≡ true → (g : Rows K) → Each Fine (parts_of cmp matching (SetTrees region t) g)
  unfolding parts_of greet_to
  trees_fine region t router g =
      let counted = counted_table t in (
        (λ h f inside found. ((record { rises = inside.0.rises; faces = inside.0.faces; real = inside.0.real }, inside.1), (f, found, itself f))),
        each_append Fine (forgetting cmp matching region (left_out cmp region counted g)) _
            (each_flat_map Fine (λ (e : K). Say (forget cmp matching region e) ∷ hiding cmp region e) (left_out cmp region counted g) (λ e. (good_forget cmp matching p n up R itself trans ear own ends mode region e, good_hiding cmp matching p n up R itself trans ear own ends mode region e))) (
              (λ h f inside found. ((record { rises = inside.0.rises; faces = inside.0.faces; real = inside.0.real }, inside.1), (f, found, itself f))),
              (
                (λ h f inside found side.
                    let face = tree_face_of h p f inside.0 found in
                    let apart : region_eq f.region region ≡ false = by_test (region_eq f.region region)
                    (λ here.
                    let is : f.region ≡ region = region_eq-same f.region region here in
                    let hat : (hat_of h.mode f.region).goes_by_trees ≡ true = ap (λ m. (hat_of m f.region).goes_by_trees) inside.1 ∙ ap (λ r. (hat_of mode r).goes_by_trees) is ∙ router in
                    never hat (is_no_router h f face))
                    (λ e. e) in
                    subst (λ ms. SaidWell cmp up ms f.told f.asks) (sym (sent_each cmp matching p (greet_to cmp h region (table_of g region)) h f inside.0.rises found ∙ nothing h f apart (routers_in_order cmp (table_of h region)))) tt),
                tt,
              ),
            ),
      )
    where
      nothing : (h : Rows K) (f : Face K) → region_eq f.region region ≡ false → (rs : List (ℕ × Zid))
          → flat_map (λ r. if region_eq f.region region && (is_child h (table_of h region) r.1 f && not (is_child h (table_of g region) r.1 f)) then map (λ e. message.DeclareToken 0 e None r.0) (routed_expressions cmp h region r.1) else []) rs ≡ []
      nothing h f apart [] = refl
      nothing h f apart (r ∷ rs) = rw apart (nothing h f apart rs)
