-- An undeclared token has no row.
use Rattle.std.proofs.Common.{◌≡◌, ℕ, ◌==◌, ◌&&◌, Bool, true, false, not, if◌then◌else◌, Option, Some, None, List, [], ◌∷◌, ◌++◌, map, refl, sym, ap, subst, ◌∙◌}
use Rattle.std.specs.declared.cmp.Ordering.{Ordering}
use Rattle.zt_region.specs.declared.region.WhatAmI.{WhatAmI}
use Rattle.zt_region.specs.declared.region.Zid.{Zid}
use Rattle.zt_protocol.specs.Plain.{PlainCall, UndeclareToken}
use Rattle.zt_model.specs.Hat.{hat_of}
use Rattle.zt_model.specs.Hearing.{heard_all, messages_for, rows_heard}
use Rattle.zt_model.specs.Journal.{cause_of, rows_after}
use Rattle.zt_model.specs.Lists.{at_id, first_where, has_id, is_some_and, without_id}
use Rattle.zt_model.specs.Parts.{Alter, Part, Say, find_face, is_routed, with_face}
use Rattle.zt_model.specs.Refusals.{on_face}
use Rattle.zt_model.specs.Rows.{ById, Face, Rows}
use Rattle.zt_model.specs.Says.{Sends, altered, altered_by, forget, hiding_undeclared, parts_of, said, undeclared, undeclaring, undeclaring_of, unregistered}
use Rattle.zt_model.specs.Trees.{hiding, source_of, without_own_rows}
use Rattle.zt_laws.proofs.Hearing.{heard_all-live, heard_all-number, heard_all-region}
use Rattle.zt_laws.proofs.Lists.{by_test}

-- ---- rows by id

left_out : {A : Type 0} (id : ℕ) (rows : ById A) → has_id id (without_id id rows) ≡ false
left_out id [] = refl
left_out id (row ∷ rows) = by_test (id == row.0) (λ here. rw here (left_out id rows)) (λ here. rw (here, here) (left_out id rows))

not_there : {A : Type 0} (id : ℕ) (rows : ById A) → at_id id rows ≡ None → has_id id rows ≡ false
not_there id [] none = refl
not_there id (row ∷ rows) none = by_test (id == row.0) (λ here. let wrong = rw here at none in cc) (λ here. rw here (not_there id rows (rw here at none)))

and_false : (a b : Bool) → b ≡ false → (a && b) ≡ false
and_false true b h = h
and_false false b h = refl

module _ {K : Type 0} (cmp : K → K → Ordering) (matching : K → K → Bool) where
  -- a face outside router regions with a row of the id
  abbrev pub has_row : ℕ → Rows K → Face K → Bool
  has_row id g f = not (is_routed g f) && has_id id f.live

  abbrev test : WhatAmI → ℕ → Face K → Bool
  test mode id f = not ((hat_of mode f.region).goes_by_trees) && has_id id f.live

  -- messages leave it so
  heard_same : (n id now : ℕ) (mode : WhatAmI) (ss : Sends K) (fs : List (Face K))
      → is_some_and (first_where (λ f. n == f.number) (map (λ f. heard_all cmp now (messages_for f.number ss) f) fs)) (test mode id) ≡ is_some_and (first_where (λ f. n == f.number) fs) (test mode id)
  heard_same n id now mode ss [] = refl
  heard_same n id now mode ss (f ∷ fs) =
      let ms = messages_for f.number ss in
      rw (heard_all-number cmp now ms f)
      (by_test (n == f.number)
      (λ here. rw here (rw (heard_all-region cmp now ms f, heard_all-live cmp now ms f) refl))
      (λ here. rw here (heard_same n id now mode ss fs)))

  -- the row of the id is taken
  unregistered_gone : (n id : ℕ) (mode : WhatAmI) (fs : List (Face K))
      → is_some_and (first_where (λ f. n == f.number) (map (λ f. if n == f.number then unregistered id f else f) fs)) (test mode id) ≡ false
  unregistered_gone n id mode [] = refl
  unregistered_gone n id mode (f ∷ fs) =
      by_test (n == f.number)
      (λ here. rw (here, here) (and_false (not ((hat_of mode f.region).goes_by_trees)) (has_id id (without_id id f.live)) (left_out id f.live)))
      (λ here. rw (here, here) (unregistered_gone n id mode fs))

  -- what an undeclaration without expression is made of, by the expression of its id
  abbrev parts_by : ℕ → ℕ → Face K → Option K → List (Part K)
  parts_by n id f None = []
  parts_by n id f (Some e) = Alter (with_face n (unregistered id)) ∷ Say (forget cmp matching f.region e) ∷ hiding cmp f.region e

  parts_are : (n id : ℕ) (f : Face K) (u : Option K)
      → (elim u [ None ↦ [] | Some e ↦ Alter (with_face n (unregistered id)) ∷ Say (forget cmp matching f.region e) ∷ [] ]) ++ (elim u [ None ↦ [] | Some e ↦ hiding cmp f.region e ]) ≡ parts_by n id f u
  parts_are n id f None = refl
  parts_are n id f (Some e) = refl

  undeclared_is : (id : ℕ) (f : Face K) (o : Option K) → at_id id f.live ≡ o → undeclared cmp matching id None f ≡ o
  undeclared_is id f None at = rw (at, undeclared) refl
  undeclared_is id f (Some e) at = rw (at, undeclared) refl

  undeclared_gone : (n id : ℕ) (g : Rows K) → on_face n (altered cmp matching (UndeclareToken n id None 0) g) (has_row id (altered cmp matching (UndeclareToken n id None 0) g)) ≡ false
  unfolding parts_of altered_by with_face without_own_rows
  undeclared_gone n id g = faces (find_face n g) refl
    where
      parts : Face K → List (Part K)
      parts f = if is_routed g f then undeclaring_of cmp matching n (source_of g f 0) None f else undeclaring cmp matching n id None f ++ hiding_undeclared cmp matching id None f

      none_left : (o : Option (Face K)) → find_face n g ≡ o → is_some_and o (has_row id g) ≡ false → on_face n g (has_row id g) ≡ false
      none_left o is h = subst (λ (x : Option (Face K)). is_some_and x (has_row id g) ≡ false) (sym is) h

      routed : (f : Face K) (source : Option Zid) → altered_by cmp matching (undeclaring_of cmp matching n source None f) g ≡ g
      routed f None = refl
      routed f (Some source) = refl

      made : (f : Face K) (o : Option K) → at_id id f.live ≡ o → undeclaring cmp matching n id None f ++ hiding_undeclared cmp matching id None f ≡ parts_by n id f o
      made f o at = parts_are n id f (undeclared cmp matching id None f) ∙ ap (parts_by n id f) (undeclared_is id f o at)

      rows : (f : Face K) (o : Option K) → at_id id f.live ≡ o → find_face n g ≡ Some f
          → on_face n (altered_by cmp matching (undeclaring cmp matching n id None f ++ hiding_undeclared cmp matching id None f) g) (has_row id (altered_by cmp matching (undeclaring cmp matching n id None f ++ hiding_undeclared cmp matching id None f) g)) ≡ false
      rows f None at is =
          subst (λ (ps : List (Part K)). on_face n (altered_by cmp matching ps g) (has_row id (altered_by cmp matching ps g)) ≡ false) (sym (made f None at))
          (none_left (Some f) is (and_false (not (is_routed g f)) (has_id id f.live) (not_there id f.live at)))
      rows f (Some e) at is =
          subst (λ (ps : List (Part K)). on_face n (altered_by cmp matching ps g) (has_row id (altered_by cmp matching ps g)) ≡ false) (sym (made f (Some e) at))
          (unregistered_gone n id g.mode g.faces)

      open_face : (f : Face K) → find_face n g ≡ Some f → on_face n (altered_by cmp matching (parts f) g) (has_row id (altered_by cmp matching (parts f) g)) ≡ false
      open_face f is =
          by_test (is_routed g f)
          (λ trees. rw trees (subst (λ (h : Rows K). on_face n h (has_row id h) ≡ false) (sym (routed f (source_of g f 0))) (none_left (Some f) is (rw trees refl))))
          (λ trees. rw trees (rows f (at_id id f.live) refl is))

      faces : (o : Option (Face K)) → find_face n g ≡ o
          → (let ps : List (Part K) = elim o [ None ↦ [] | Some f ↦ parts f ] in on_face n (altered_by cmp matching ps g) (has_row id (altered_by cmp matching ps g)) ≡ false)
      faces None is = none_left None is refl
      faces (Some f) is = open_face f is

  -- after an accepted undeclaration no row of the id stands
  pub token_gone : (n id : ℕ) (g : Rows K) → cause_of cmp matching (UndeclareToken n id None 0) g ≡ None
      → on_face n (rows_after cmp matching (UndeclareToken n id None 0) g) (has_row id (rows_after cmp matching (UndeclareToken n id None 0) g)) ≡ false
  unfolding rows_after rows_heard
  token_gone n id g accepted =
      let call : PlainCall K = UndeclareToken n id None 0 in
      let left = altered cmp matching call g in
      rw (accepted, rows_after)
      (heard_same n id left.moment left.mode (said cmp matching call g) left.faces ∙ undeclared_gone n id g)
