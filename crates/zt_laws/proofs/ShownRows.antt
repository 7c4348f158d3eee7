-- What a transcript shows of a gateway after a call is what the machine keeps then, but for own rows.
use Rattle.std.proofs.Common.{◌≡◌, ℕ, ◌+◌, ◌≤◌, ◌<◌, Bool, true, false, cond, ◌&&◌, ◌==◌, not, if◌then◌else◌, List, [], ◌∷◌, ◌++◌, map, filter, Option, Some, None, refl, sym, ap, ◌∙◌, subst, arith, append_assoc, eq-eqb, eqb-true, ne_eqb}
use Rattle.std.proofs.lemmas.Bool.Decides.{nat_tests}
use Rattle.std.specs.List.{flat_map}
use Rattle.std.specs.Cmp.{IsTotalOrder}
use Rattle.std.specs.FinMap.Entries.{by_order}
use Rattle.std.specs.Ordering.{is_eq, nat_cmp, ordering_then}
use Rattle.std.specs.declared.cmp.Ordering.{Ordering}
use Rattle.std.specs.declared.cmp.Ordering.TheVariants.{Less, Equal, Greater}
use Rattle.zt_region.specs.declared.region.Bound.{Bound}
use Rattle.zt_region.specs.declared.region.Region.{Region}
use Rattle.zt_region.specs.declared.region.WhatAmI.{WhatAmI}
use Rattle.zt_region.specs.declared.region.Zid.{Zid}
use Rattle.zt_region.specs.Region.{zid_eq, zid_eq-refl}
use Rattle.zt_protocol.specs.declared.interests.InterestMode.{InterestMode}
use Rattle.zt_protocol.specs.declared.interests.InterestOptions.{InterestOptions}
use Rattle.zt_protocol.specs.Plain.{PlainCall, NewSession, NewTransport, DeclareToken, UndeclareToken, Interest, InterestFinal, DeclareFinal, CloseFace, Expire, SetTrees, SetEntities, Trees}
use Rattle.zt_model.specs.Closing.{closing, is_expired, leaving, without_asks, without_face}
use Rattle.zt_model.specs.Lists.{at_id, first_where, has_id, same, with_key, without_id}
use Rattle.zt_model.specs.Refusals.{would_send}
use Rattle.zt_model.specs.Routing.{ended, ending, finalising, finishing, initial_finalised, opened, sent_as, unheld}
use Rattle.zt_model.specs.Rows.{ById, Face, InterestRow, Pending, RoutedRow, Rows}
use Rattle.zt_model.specs.Says.{Alter, Part, Say, altered, altered_by, answering, asking, row_of, declaring, declaring_of, find_face, finalising_held, forget, hiding_undeclared, is_routed, parts_of, registered, registers, undeclared, undeclaring, undeclaring_of, to_each, unregistered, with_face}
use Rattle.zt_model.specs.Shown.{face_made, interest_kept, rows_shown, with_declared, with_interest, with_new, with_new_transport, with_source, without_declared, without_expired, without_source}
use Rattle.zt_model.specs.Parts.{unsaid_to}
use Rattle.zt_model.specs.Transcript.{Each}
use Rattle.zt_model.specs.Trees.{counted_table, forgetting, greet_to, hiding, is_hidden, is_left_out, is_routed_row, left_out, region_order, row_at, routed_order, showing, source_of, table_of, with_own_rows, with_routed, with_table, without_left_out, without_own_rows, without_routed}
use Rattle.zt_model.proofs.Hats.{initial_is}
use Rattle.zt_laws.specs.Order.{HasRowsInOrder, InKeyOrder, ListsAreInOrder}
use Rattle.zt_laws.specs.Shown.{is_from_other, without_own}
use Rattle.zt_laws.specs.Sound.{RiseFrom}
use Rattle.zt_laws.proofs.CallsOrder.{routed_total}
use Rattle.zt_laws.proofs.Faces.{with_face_twice}
use Rattle.zt_laws.proofs.Hearing.{find_none, find_only}
use Rattle.zt_laws.proofs.Lists.{by_test, each_always, each_append, each_filter, each_weaker, map-append, map_alike, map_same, never, rise_above}
use Rattle.zt_laws.proofs.PartsOrder.{altered_by_last, each_flat_map}

-- ---- filters

-- a filter that takes no more than another takes nothing beside it
pub filter_within : {A : Type 0} (p q : A → Bool) → ((x : A) → p x ≡ true → q x ≡ true) → (xs : List A) → filter p (filter q xs) ≡ filter p xs
filter_within p q h [] = refl
filter_within p q h (x ∷ xs) =
    let rest = filter_within p q h xs in
    by_test (p x)
    (λ here. rw (h x here, here) (ap (λ ys. x ∷ ys) rest))
    (λ here. rw here (by_test (q x) (λ there. rw (there, here) rest) (λ there. rw there rest)))

pub filters_commute : {A : Type 0} (p q : A → Bool) (xs : List A) → filter p (filter q xs) ≡ filter q (filter p xs)
filters_commute p q [] = refl
filters_commute p q (x ∷ xs) =
    let rest = filters_commute p q xs in
    by_test (p x)
    (λ here. by_test (q x) (λ there. rw (there, here, there) (ap (λ ys. x ∷ ys) rest)) (λ there. rw (there, here, there) rest))
    (λ here. by_test (q x) (λ there. rw (there, here) rest) (λ there. rw (there, here) rest))

module _ {A : Type 0} (cmp : A → A → Ordering) (p : A → Bool) where
  -- a key that a filter takes
  pub filter_new_out : (e : A) (ks : List A) → p e ≡ false → filter p (with_key cmp e ks) ≡ filter p ks
  filter_new_out e [] out = rw out refl
  filter_new_out e (k ∷ ks) out =
      elim (cmp e k) as (λ o. filter p (by_order o (e ∷ k ∷ ks) (k ∷ ks) (k ∷ with_key cmp e ks)) ≡ filter p (k ∷ ks)) [
        | Less ↦ rw out refl
        | Equal ↦ refl
        | Greater ↦ ap (λ ys. cond (p k) (k ∷ ys) ys) (filter_new_out e ks out)
      ]

  -- and one that it leaves: among keys in order, where it leaves what is equal to it
  module _ (total : IsTotalOrder cmp) where
    first_key : (e : A) (ks : List A) → Each (λ x. cmp e x ≡ Less) ks → with_key cmp e ks ≡ e ∷ ks
    first_key e [] before = refl
    first_key e (k ∷ ks) before = ap (λ o. by_order o (e ∷ k ∷ ks) (k ∷ ks) (k ∷ with_key cmp e ks)) before.0

    before_filter : (e : A) (ks : List A) → Each (λ x. cmp e x ≡ Less) ks → Each (λ x. cmp e x ≡ Less) (filter p ks)
    before_filter e [] before = tt
    before_filter e (k ∷ ks) before = by_test (p k) (λ here. rw here (before.0, before_filter e ks before.1)) (λ here. rw here (before_filter e ks before.1))

    pub filter_new_in : (e : A) (ks : List A) → p e ≡ true → ((x : A) → cmp e x ≡ Equal → p x ≡ true) → InKeyOrder cmp ks → filter p (with_key cmp e ks) ≡ with_key cmp e (filter p ks)
    filter_new_in e [] stays alike ordered = rw stays refl
    filter_new_in e (k ∷ ks) stays alike ordered =
        elim (cmp e k) as (λ o. cmp e k ≡ o → filter p (by_order o (e ∷ k ∷ ks) (k ∷ ks) (k ∷ with_key cmp e ks)) ≡ with_key cmp e (filter p (k ∷ ks))) [
          | Less ↦ λ h.
              rw stays
              (sym (first_key e (filter p (k ∷ ks)) (before_filter e (k ∷ ks) (h, each_weaker (λ x. cmp k x ≡ Less) (λ x. cmp e x ≡ Less) (λ x more. total.trans e k x h more) ks ordered.0))))
          | Equal ↦ λ h. rw (alike k h) (sym (ap (λ o. by_order o (e ∷ k ∷ filter p ks) (k ∷ filter p ks) (k ∷ with_key cmp e (filter p ks))) h))
          | Greater ↦ λ h.
              let rest = filter_new_in e ks stays alike ordered.1 in
              by_test (p k)
              (λ here. rw here (ap (λ ys. k ∷ ys) rest ∙ sym (ap (λ o. by_order o (e ∷ k ∷ filter p ks) (k ∷ filter p ks) (k ∷ with_key cmp e (filter p ks))) h)))
              (λ here. rw here rest)
        ] refl

-- ---- a new face

-- it has its initial interest by the hat of its region, and as the words of transcripts have it by the two bounds
pub opened_is_made : {K : Type 0} (zid : Zid) (whatami : WhatAmI) (region : Region) (bound : Bound) (first : ℕ) (g : Rows K)
    → opened zid whatami region bound first g ≡ with_new_transport zid whatami region bound first g
opened_is_made zid whatami region bound first g =
    ap (λ (initial : Option Bool). with_new (face_made zid whatami region bound first initial g) g) (initial_is g.mode region bound)

-- ---- rows of other routers alone

module _ {K : Type 0} where
  shown_is_other : (zid : Zid) (hidden : RoutedRow K → Bool) (row : RoutedRow K) → is_from_other zid row ≡ true → not (zid_eq row.source zid && hidden row) ≡ true
  shown_is_other zid hidden row other = by_test (zid_eq row.source zid) (λ own. never other (rw own refl)) (λ own. rw own refl)

module _ {K : Type 0} (cmp : K → K → Ordering) where
  own_added : (rs : List Region) (e : K) (g : Rows K) → without_own (with_own_rows cmp rs e g) ≡ without_own g
  unfolding with_own_rows with_routed
  own_added [] e g = refl
  own_added (r ∷ rs) e g =
      own_added rs e (with_routed cmp r g.zid e g)
      ∙ ap (λ (rows : List (RoutedRow K)). record g { routed = rows }) (filter_new_out (routed_order cmp) (is_from_other g.zid) (row_at cmp r g.zid e) g.routed (ap not (zid_eq-refl g.zid)))

  own_taken : (source : Region) (e : K) (g : Rows K) → without_own (without_own_rows cmp source e g) ≡ without_own g
  unfolding without_own_rows
  own_taken source e g =
      ap (λ (rows : List (RoutedRow K)). record g { routed = rows })
      (filter_within (is_from_other g.zid) (λ row. not (zid_eq row.source g.zid && (same cmp e row.expr && is_hidden cmp g source e row.region)))
      (λ row other. shown_is_other g.zid (λ row. same cmp e row.expr && is_hidden cmp g source e row.region) row other) g.routed)

module _ {K : Type 0} (cmp : K → K → Ordering) (matching : K → K → Bool) where
  -- a part that changes own rows alone
  abbrev pub ChangesOwn : Part K → Type 0
  ChangesOwn (Alter change) = (g : Rows K) → without_own (change g) ≡ without_own g
  ChangesOwn (Say rule) = Unit {0}

  pub own_parts : (parts : List (Part K)) (g : Rows K) → Each ChangesOwn parts → without_own (altered_by cmp matching parts g) ≡ without_own g
  unfolding altered_by
  own_parts [] g own = refl
  own_parts (Alter change ∷ parts) g own = own_parts parts (change g) own.1 ∙ own.0 g
  own_parts (Say rule ∷ parts) g own = own_parts parts g own.1

  altered_append : (ps qs : List (Part K)) (g : Rows K) → altered_by cmp matching (ps ++ qs) g ≡ altered_by cmp matching qs (altered_by cmp matching ps g)
  unfolding altered_by
  altered_append [] qs g = refl
  altered_append (Alter change ∷ ps) qs g = altered_append ps qs (change g)
  altered_append (Say rule ∷ ps) qs g = altered_append ps qs g

  own_showing : (source : Region) (e : K) → Each ChangesOwn (showing cmp source e)
  own_showing source e = (tt, ((λ g. own_added cmp _ e g), tt))

  own_hiding : (source : Region) (e : K) → Each ChangesOwn (hiding cmp source e)
  own_hiding source e = (tt, ((λ g. own_taken cmp source e g), tt))

  -- ---- one face

  -- a change that leaves the face of its number as it is
  still_face : (n : ℕ) (change : Face K → Face K) (f : Face K) (g : Rows K) → ListsAreInOrder cmp matching g → find_face n g ≡ Some f → change f ≡ f → with_face n change g ≡ g
  unfolding with_face
  still_face n change f g lists found same_ =
      ap (λ (fs : List (Face K)). record g { faces = fs })
      (map_same (λ h. if n == h.number then change h else h) g.faces
      (each_weaker (λ h. (n == h.number) ≡ true → h ≡ f) (λ h. (if n == h.number then change h else h) ≡ h)
      (λ h only. by_test (n == h.number) (λ here. rw here (ap change (only here) ∙ same_ ∙ sym (only here))) (λ here. rw here refl))
      g.faces (find_only n 1 g.faces f lists.faces_rise found)))

  none_with_id : {A : Type 0} (id : ℕ) (rows : ById A) → at_id id rows ≡ None → without_id id rows ≡ rows
  none_with_id id [] none_ = refl
  none_with_id {A = A} id (row ∷ rows) none_ =
      by_test (id == row.0)
      (λ here. let bad : Some row.1 ≡ None = rw here at none_ in cc)
      (λ here. rw here (ap (λ (rs : ById A). row ∷ rs) (none_with_id id rows (rw here at none_))))

  none_has_id : {A : Type 0} (id : ℕ) (rows : ById A) → has_id id rows ≡ false → at_id id rows ≡ None
  none_has_id id [] none_ = refl
  none_has_id id (row ∷ rows) none_ =
      by_test (id == row.0)
      (λ here. never (rw here refl) none_)
      (λ here. rw here (none_has_id id rows (rw here at none_)))

  -- ---- calls

  -- an answer changes nothing itself
  answers_still : (n : ℕ) (interest : Option ℕ) (e : K) (f : Face K) (parts : List (Part K)) (g : Rows K) → altered_by cmp matching (answering cmp matching n interest e f ++ parts) g ≡ altered_by cmp matching parts g
  unfolding altered_by
  answers_still n None e f parts g = refl
  answers_still n (Some id) e f parts g = by_test (has_id id f.pendings) (λ here. rw here refl) (λ here. rw here refl)

  pub declared_shown : (n id node : ℕ) (e : K) (interest : Option ℕ) (pendings : List (ℕ × ℕ)) (g : Rows K)
      → without_own (altered cmp matching (DeclareToken n id e node interest) g) ≡ without_own (rows_shown cmp pendings (DeclareToken n id e node interest) g)
  unfolding parts_of rows_shown altered_by table_of source_of
  declared_shown n id node e interest pendings g = cases (find_face n g)
    where
      by_source : (f : Face K) (o : Option Zid) → without_own (altered_by cmp matching (declaring_of cmp matching n o e f) g) ≡ without_own (with_source cmp f o e g)
      by_source f None = refl
      by_source f (Some source) = own_parts (showing cmp f.region e) (with_routed cmp f.region source e g) (own_showing f.region e)

      plain : (f : Face K) → without_own (altered_by cmp matching (answering cmp matching n interest e f ++ (if registers f interest then declaring cmp matching n id e f ++ showing cmp f.region e else [])) g)
          ≡ without_own (if registers f interest then with_face n (registered id e) g else g)
      plain f =
          ap without_own (answers_still n interest e f (if registers f interest then declaring cmp matching n id e f ++ showing cmp f.region e else []) g)
          ∙ by_test (registers f interest)
          (λ here. rw here (own_parts (showing cmp f.region e) (with_face n (registered id e) g) (own_showing f.region e)))
          (λ here. rw here refl)

      cases : (o : Option (Face K))
          → without_own (altered_by cmp matching (elim o [ None ↦ [] | Some f ↦ if is_routed g f then declaring_of cmp matching n (source_of g f node) e f else answering cmp matching n interest e f ++ (if registers f interest then declaring cmp matching n id e f ++ showing cmp f.region e else []) ]) g)
          ≡ without_own (elim o [ None ↦ g | Some f ↦ with_declared cmp n id e node interest g f ])
      cases None = refl
      cases (Some f) = by_test (is_routed g f) (λ here. rw here (by_source f (source_of g f node))) (λ here. rw here (plain f))

  undeclared_shown : (n id node : ℕ) (given : Option K) (pendings : List (ℕ × ℕ)) (g : Rows K) → ListsAreInOrder cmp matching g
      → without_own (altered cmp matching (UndeclareToken n id given node) g) ≡ without_own (rows_shown cmp pendings (UndeclareToken n id given node) g)
  unfolding parts_of rows_shown altered_by table_of source_of
  undeclared_shown n id node given pendings g lists = cases (find_face n g) refl
    where
      by_source : (f : Face K) (o : Option Zid) (e : Option K) → without_own (altered_by cmp matching (undeclaring_of cmp matching n o e f) g) ≡ without_own (without_source cmp f o e g)
      by_source f None e = refl
      by_source f (Some source) None = refl
      by_source f (Some source) (Some e) = own_parts (hiding cmp f.region e) (without_routed cmp f.region source e g) (own_hiding f.region e)

      unknown : (o : Option K) → (let x : Option K = elim o [ None ↦ given | Some e ↦ Some e ] in x) ≡ None → o ≡ None
      unknown None none_ = refl
      unknown (Some e) none_ = cc

      plain : (f : Face K) → find_face n g ≡ Some f → (o : Option K) → undeclared cmp matching id given f ≡ o
          → without_own (altered_by cmp matching ((elim o [ None ↦ [] | Some e ↦ Alter (with_face n (unregistered id)) ∷ Say (forget cmp matching f.region e) ∷ [] ]) ++ (elim o [ None ↦ [] | Some e ↦ hiding cmp f.region e ])) g)
          ≡ without_own (with_face n (unregistered id) g)
      plain f found None is =
          ap without_own (sym (still_face n (unregistered id) f g lists found (ap (λ (rows : ById K). record f { live = rows }) (none_with_id id f.live (unknown (at_id id f.live) is)))))
      plain f found (Some e) is = own_parts (hiding cmp f.region e) (with_face n (unregistered id) g) (own_hiding f.region e)

      cases : (o : Option (Face K)) → find_face n g ≡ o
          → without_own (altered_by cmp matching (elim o [ None ↦ [] | Some f ↦ if is_routed g f then undeclaring_of cmp matching n (source_of g f node) given f else undeclaring cmp matching n id given f ++ hiding_undeclared cmp matching id given f ]) g)
          ≡ without_own (elim o [ None ↦ g | Some f ↦ without_declared cmp n id given node g f ])
      cases None found = refl
      cases (Some f) found = by_test (is_routed g f) (λ here. rw here (by_source f (source_of g f node) given)) (λ here. rw here (plain f found (undeclared cmp matching id given f) refl))

  pub interest_shown : (n id : ℕ) (mode : InterestMode) (options : InterestOptions) (e : Option K) (g : Rows K)
      → (let c : PlainCall K = Interest n id mode options e in without_own (altered cmp matching c g) ≡ without_own (rows_shown cmp (would_send cmp matching c g) c g))
  unfolding parts_of rows_shown altered_by
  interest_shown n id mode options e g = cases (find_face n g) (would_send cmp matching (Interest n id mode options e) g) refl
    where
      cases : (o : Option (Face K)) (ps : List (ℕ × ℕ)) → ps ≡ (let qs : List (ℕ × ℕ) = elim o [ None ↦ [] | Some f ↦ sent_as g f.region mode ] in qs)
          → without_own (altered_by cmp matching (elim o [ None ↦ [] | Some f ↦ asking cmp matching n id (row_of cmp matching f mode options e) f.region g ]) g)
          ≡ without_own (elim o [ None ↦ g | Some f ↦ with_interest cmp n id ps (interest_kept f mode options e) g ])
      cases None ps is = refl
      cases (Some f) ps is = ap (λ qs. without_own (with_interest cmp n id qs (interest_kept f mode options e) g)) (sym is)

  -- where no face has the number
  still_none : (n : ℕ) (change : Face K → Face K) (g : Rows K) → find_face n g ≡ None → with_face n change g ≡ g
  unfolding with_face
  still_none n change g none_ =
      ap (λ (fs : List (Face K)). record g { faces = fs })
      (map_same (λ h. if n == h.number then change h else h) g.faces
      (each_weaker (λ h. (n == h.number) ≡ false) (λ h. (if n == h.number then change h else h) ≡ h) (λ h apart. rw apart refl) g.faces (find_none (λ f. n == f.number) g.faces none_)))

  finalised_shown : (n id : ℕ) (pendings : List (ℕ × ℕ)) (g : Rows K) → ListsAreInOrder cmp matching g
      → altered cmp matching (InterestFinal n id) g ≡ rows_shown cmp pendings (InterestFinal n id) g
  unfolding parts_of rows_shown altered_by
  finalised_shown n id pendings g lists = cases (find_face n g) refl
    where
      by_held : (f : Face K) → find_face n g ≡ Some f → (o : Option (InterestRow K)) → at_id id f.held ≡ o
          → altered_by cmp matching (elim o [ None ↦ [] | Some interest ↦ finalising cmp matching n id interest ]) g ≡ with_face n (unheld id) g
      by_held f found None is = sym (still_face n (unheld id) f g lists found (ap (λ (rows : ById (InterestRow K)). record f { held = rows }) (none_with_id id f.held is)))
      by_held f found (Some interest) is = refl

      cases : (o : Option (Face K)) → find_face n g ≡ o → altered_by cmp matching (elim o [ None ↦ [] | Some f ↦ finalising_held cmp matching n id f ]) g ≡ with_face n (unheld id) g
      cases None found = sym (still_none n (unheld id) g found)
      cases (Some f) found = by_held f found (at_id id f.held) refl

  ended_shown : (n id : ℕ) (pendings : List (ℕ × ℕ)) (g : Rows K) → ListsAreInOrder cmp matching g
      → altered cmp matching (DeclareFinal n id) g ≡ rows_shown cmp pendings (DeclareFinal n id) g
  unfolding parts_of rows_shown altered_by with_face
  ended_shown n id pendings g lists = cases (find_face n g) refl
    where
      first : Face K → Face K
      first f = initial_finalised id f

      alike : (f : Face K) → find_face n g ≡ Some f → ended id (first f) ≡ first f → with_face n (ended id) (with_face n (initial_finalised id) g) ≡ with_face n (initial_finalised id) g
      alike f found same_ =
          with_face_twice n (initial_finalised id) (ended id) g (λ h. refl)
          ∙ ap (λ (fs : List (Face K)). record g { faces = fs })
          (map_alike (λ h. if n == h.number then ended id (initial_finalised id h) else h) (λ h. if n == h.number then initial_finalised id h else h) g.faces
          (each_weaker (λ h. (n == h.number) ≡ true → h ≡ f) (λ h. (if n == h.number then ended id (initial_finalised id h) else h) ≡ (if n == h.number then initial_finalised id h else h))
          (λ h only. by_test (n == h.number) (λ here. rw here (subst (λ (k : Face K). ended id (initial_finalised id k) ≡ initial_finalised id k) (sym (only here)) same_)) (λ here. rw here refl))
          g.faces (find_only n 1 g.faces f lists.faces_rise found)))

      by_pending : (f : Face K) → find_face n g ≡ Some f → altered_by cmp matching (if has_id id f.pendings then ending n id else []) (with_face n (initial_finalised id) g) ≡ with_face n (ended id) (with_face n (initial_finalised id) g)
      by_pending f found =
          by_test (has_id id f.pendings)
          (λ here. rw here refl)
          (λ here. rw here (sym (alike f found (ap (λ (rows : ById Pending). record (initial_finalised id f) { pendings = rows }) (none_with_id id f.pendings (none_has_id id f.pendings here))))))

      cases : (o : Option (Face K)) → find_face n g ≡ o → altered_by cmp matching (elim o [ None ↦ [] | Some f ↦ finishing n id f ]) g ≡ with_face n (ended id) (with_face n (initial_finalised id) g)
      cases None found = sym (ap (with_face n (ended id)) (still_none n (initial_finalised id) g found) ∙ still_none n (ended id) g found)
      cases (Some f) found = by_pending f found

  -- ---- closing

  gone_face : (n : ℕ) (change : Face K → Face K) (g : Rows K) → ((f : Face K) → (change f).number ≡ f.number) → without_face n (with_face n change g) ≡ without_face n g
  unfolding with_face
  gone_face n change g number_ = ap (λ (fs : List (Face K)). record g { faces = fs }) (each g.faces)
    where
      each : (fs : List (Face K)) → filter (λ f. not (n == f.number)) (map (λ f. if n == f.number then change f else f) fs) ≡ filter (λ f. not (n == f.number)) fs
      each [] = refl
      each (f ∷ fs) =
          let rest = each fs in
          by_test (n == f.number)
          (λ here. let own : (n == (change f).number) ≡ true = ap (λ k. n == k) (number_ f) ∙ here in rw (here, own) rest)
          (λ here. rw (here, here) (ap (λ (xs : List (Face K)). f ∷ xs) rest))

  -- a part that changes the leaving face and own rows alone
  abbrev LeavesOthers : ℕ → Part K → Type 0
  LeavesOthers n (Alter change) = (g : Rows K) → without_own (without_face n (change g)) ≡ without_own (without_face n g)
  LeavesOthers n (Say rule) = Unit {0}

  leave_parts : (n : ℕ) (parts : List (Part K)) (g : Rows K) → Each (LeavesOthers n) parts → without_own (without_face n (altered_by cmp matching (unsaid_to n parts) g)) ≡ without_own (without_face n g)
  unfolding altered_by unsaid_to
  leave_parts n [] g leave = refl
  leave_parts n (Alter change ∷ parts) g leave = leave_parts n parts (change g) leave.1 ∙ leave.0 g
  leave_parts n (Say rule ∷ parts) g leave = leave_parts n parts g leave.1

  leave_face : (n : ℕ) (change : Face K → Face K) → ((f : Face K) → (change f).number ≡ f.number) → LeavesOthers n (Alter (with_face n change))
  leave_face n change number_ = λ g. ap without_own (gone_face n change g number_)

  leave_hiding : (n : ℕ) (source : Region) (e : K) → Each (LeavesOthers n) (hiding cmp source e)
  unfolding without_own_rows
  leave_hiding n source e = (
    tt,
    (
      (λ g.
          ap (λ (rows : List (RoutedRow K)). record (without_face n g) { routed = rows })
          (filter_within (is_from_other g.zid) (λ row. not (zid_eq row.source g.zid && (same cmp e row.expr && is_hidden cmp g source e row.region)))
          (λ row other. shown_is_other g.zid (λ row. same cmp e row.expr && is_hidden cmp g source e row.region) row other) g.routed)),
      tt,
    ),
  )

  leave_all : (n : ℕ) (f : Face K) → Each (LeavesOthers n) (leaving cmp matching n f)
  leave_all n f =
      let undeclares_row = λ (row : ℕ × K). undeclaring cmp matching n row.0 None f ++ hiding cmp f.region row.1 in
      let finalises = λ (row : ℕ × InterestRow K). finalising cmp matching n row.0 row.1 in
      let ends = flat_map (λ row. ending n row.0) f.pendings in
      each_append (LeavesOthers n) (flat_map undeclares_row f.live ++ flat_map finalises f.held) (Alter (with_face n without_asks) ∷ ends)
      (each_append (LeavesOthers n) (flat_map undeclares_row f.live) (flat_map finalises f.held)
      (each_flat_map (LeavesOthers n) undeclares_row f.live (λ row. each_append (LeavesOthers n) (undeclaring cmp matching n row.0 None f) (hiding cmp f.region row.1) (undeclares row.0 (undeclared cmp matching row.0 None f)) (leave_hiding n f.region row.1)))
      (each_flat_map (LeavesOthers n) finalises f.held (λ row. (leave_face n (unheld row.0) (λ h. refl), (tt, (tt, (tt, tt)))))))
      (leave_face n without_asks (λ h. refl), each_flat_map (LeavesOthers n) (λ row. ending n row.0) f.pendings (λ row. (leave_face n (ended row.0) (λ h. refl), (tt, tt))))
    where
      undeclares : (id : ℕ) (o : Option K) → Each (LeavesOthers n) (elim o [ None ↦ [] | Some e ↦ Alter (with_face n (unregistered id)) ∷ Say (forget cmp matching f.region e) ∷ [] ])
      undeclares id None = tt
      undeclares id (Some e) = (leave_face n (unregistered id) (λ h. refl), (tt, tt))

  pub closed_shown : (n : ℕ) (pendings : List (ℕ × ℕ)) (g : Rows K) → without_own (altered cmp matching (CloseFace n) g) ≡ without_own (rows_shown cmp pendings (CloseFace n) g)
  unfolding parts_of rows_shown altered_by
  closed_shown n pendings g = cases (find_face n g) refl
    where
      leaves : (f : Face K) → without_own (without_face n (altered_by cmp matching (if is_routed g f then [] else unsaid_to n (leaving cmp matching n f)) g)) ≡ without_own (without_face n g)
      leaves f = by_routed (is_routed g f)
        where
          by_routed : (b : Bool) → without_own (without_face n (altered_by cmp matching (if b then [] else unsaid_to n (leaving cmp matching n f)) g)) ≡ without_own (without_face n g)
          by_routed true = refl
          by_routed false = leave_parts n (leaving cmp matching n f) g (leave_all n f)

      all_stay : (fs : List (Face K)) → Each (λ f. (n == f.number) ≡ false) fs → filter (λ f. not (n == f.number)) fs ≡ fs
      all_stay [] apart = refl
      all_stay (f ∷ fs) apart = rw apart.0 (ap (λ (xs : List (Face K)). f ∷ xs) (all_stay fs apart.1))

      cases : (o : Option (Face K)) → find_face n g ≡ o → without_own (altered_by cmp matching (elim o [ None ↦ [] | Some f ↦ closing cmp matching n g f ]) g) ≡ without_own (without_face n g)
      cases None found = ap (λ (fs : List (Face K)). without_own (record g { faces = fs })) (sym (all_stay g.faces (find_none (λ f. n == f.number) g.faces found)))
      cases (Some f) found = ap without_own (altered_by_last cmp matching (if is_routed g f then [] else unsaid_to n (leaving cmp matching n f)) (without_face n) g) ∙ leaves f

  -- ---- expiry

  ended_all : ById Pending → Face K → Face K
  ended_all [] f = f
  ended_all (row ∷ rows) f = ended_all rows (ended row.0 f)

  without_all : ById Pending → ById Pending → ById Pending
  without_all [] ps = ps
  without_all (row ∷ rows) ps = without_all rows (without_id row.0 ps)

  ended_pendings : (rows : ById Pending) (f : Face K) → ended_all rows f ≡ record f { pendings = without_all rows f.pendings }
  unfolding ended_all without_all
  ended_pendings [] f = refl
  ended_pendings (row ∷ rows) f = ended_pendings rows (ended row.0 f)

  -- rows under greater ids stand as they stood
  above_stays : (x : ℕ × Pending) (rows ps : ById Pending) → Each (λ row. x.0 < row.0) rows → without_all rows (x ∷ ps) ≡ x ∷ without_all rows ps
  unfolding without_all
  above_stays x [] ps above = refl
  above_stays x (row ∷ rows) ps above =
      let up : x.0 < row.0 = above.0 in
      let apart : (row.0 == x.0) ≡ false = ne_eqb row.0 x.0 (λ e. omega arith) in
      rw apart (above_stays x rows (without_id row.0 ps) above.1)

  expired_gone : (p : ℕ × Pending → Bool) (low : ℕ) (ps : ById Pending) → RiseFrom (λ row. row.0) low ps → without_all (filter p ps) ps ≡ filter (λ row. not (p row)) ps
  unfolding without_all
  expired_gone p low [] rise = refl
  expired_gone p low (x ∷ xs) rise =
      let rest = expired_gone p (x.0 + 1) xs rise.1 in
      let above : Each (λ row. x.0 < row.0) xs = each_weaker (λ row. x.0 + 1 ≤ row.0) (λ row. x.0 < row.0) (λ row le. omega arith) xs (rise_above (λ row. row.0) (x.0 + 1) xs rise.1) in
      by_test (p x)
      (λ here. rw here (ap (without_all (filter p xs)) (first_gone x xs above) ∙ rest))
      (λ here. rw here (above_stays x (filter p xs) xs (each_filter (λ row. x.0 < row.0) p xs above) ∙ ap (λ (ys : ById Pending). x ∷ ys) rest))
    where
      none_left : (id : ℕ) (rows : ById Pending) → Each (λ row. id < row.0) rows → without_id id rows ≡ rows
      none_left id [] up = refl
      none_left id (row ∷ rows) up =
          let more : id < row.0 = up.0 in
          let apart : (id == row.0) ≡ false = ne_eqb id row.0 (λ e. omega arith) in
          rw apart (ap (λ (ys : ById Pending). row ∷ ys) (none_left id rows up.1))

      first_gone : (x : ℕ × Pending) (xs : ById Pending) → Each (λ row. x.0 < row.0) xs → without_id x.0 (x ∷ xs) ≡ xs
      first_gone x xs up = rw (eq-eqb x.0 x.0 refl) (none_left x.0 xs up)

  face_expired : (now timeout : ℕ) (f : Face K) → RiseFrom (λ row. row.0) 0 f.pendings → ended_all (filter (is_expired now timeout) f.pendings) f ≡ without_expired now timeout f
  face_expired now timeout f rise =
      ended_pendings (filter (is_expired now timeout) f.pendings) f ∙ ap (λ (rows : ById Pending). record f { pendings = rows }) (expired_gone (is_expired now timeout) 0 f.pendings rise)

  ends_face : (n : ℕ) (rows : ById Pending) (g : Rows K) → altered_by cmp matching (flat_map (λ row. ending n row.0) rows) g ≡ with_face n (ended_all rows) g
  unfolding altered_by ended_all with_face
  ends_face n [] g = ap (λ (fs : List (Face K)). record g { faces = fs }) (sym (map_same (λ f. if n == f.number then f else f) g.faces (each_always (λ f. (if n == f.number then f else f) ≡ f) (λ f. by_test (n == f.number) (λ here. rw here refl) (λ here. rw here refl)) g.faces)))
  ends_face n (row ∷ rows) g = ends_face n rows (with_face n (ended row.0) g) ∙ with_face_twice n (ended row.0) (ended_all rows) g (λ f. refl)

  abbrev expires : ℕ → ℕ → Face K → List (Part K)
  expires now timeout f = flat_map (λ row. ending f.number row.0) (filter (is_expired now timeout) f.pendings)

  all_expired : (now timeout low : ℕ) (gone fs : List (Face K)) (g : Rows K) → Each (λ f. f.number < low) gone → RiseFrom (λ f. f.number) low fs → Each HasRowsInOrder fs
      → altered_by cmp matching (flat_map (expires now timeout) fs) (record g { faces = gone ++ fs }) ≡ record g { faces = gone ++ map (without_expired now timeout) fs }
  unfolding altered_by with_face
  all_expired now timeout low gone [] g below rise rows = refl
  all_expired now timeout low gone (f ∷ fs) g below rise rows =
      let h : Rows K = record g { faces = gone ++ f ∷ fs } in
      let k : Rows K = record g { faces = (gone ++ without_expired now timeout f ∷ []) ++ fs } in
      let up : low ≤ f.number = rise.0 in
      altered_append (expires now timeout f) (flat_map (expires now timeout) fs) h
      ∙ ap (altered_by cmp matching (flat_map (expires now timeout) fs))
      (ends_face f.number (filter (is_expired now timeout) f.pendings) h
      ∙ ap (λ (xs : List (Face K)). record g { faces = xs }) (one_changes f gone fs (each_weaker (λ x. x.number < low) (λ x. (f.number == x.number) ≡ false) (λ x less. ne_eqb f.number x.number (λ e. omega arith)) gone below)
      (each_weaker (λ x. f.number + 1 ≤ x.number) (λ x. (f.number == x.number) ≡ false) (λ x more. ne_eqb f.number x.number (λ e. omega arith)) fs (rise_above (λ x. x.number) (f.number + 1) fs rise.1))
      (face_expired now timeout f rows.0.pendings)))
      ∙ all_expired now timeout (f.number + 1) (gone ++ without_expired now timeout f ∷ []) fs g
      (each_append (λ x. x.number < f.number + 1) gone (without_expired now timeout f ∷ []) (each_weaker (λ x. x.number < low) (λ x. x.number < f.number + 1) (λ x less. omega arith) gone below) (omega arith, tt))
      rise.1 rows.1
      ∙ ap (λ (xs : List (Face K)). record g { faces = xs }) (append_assoc gone (without_expired now timeout f ∷ []) (map (without_expired now timeout) fs))
    where
      apart_stay : (n : ℕ) (change : Face K → Face K) (xs : List (Face K)) → Each (λ x. (n == x.number) ≡ false) xs → map (λ x. if n == x.number then change x else x) xs ≡ xs
      apart_stay n change xs apart = map_same (λ x. if n == x.number then change x else x) xs (each_weaker (λ x. (n == x.number) ≡ false) (λ x. (if n == x.number then change x else x) ≡ x) (λ x other. rw other refl) xs apart)

      one_changes : (f : Face K) (gone fs : List (Face K)) → Each (λ x. (f.number == x.number) ≡ false) gone → Each (λ x. (f.number == x.number) ≡ false) fs
          → ended_all (filter (is_expired now timeout) f.pendings) f ≡ without_expired now timeout f
          → map (λ x. if f.number == x.number then ended_all (filter (is_expired now timeout) f.pendings) x else x) (gone ++ f ∷ fs) ≡ (gone ++ without_expired now timeout f ∷ []) ++ fs
      one_changes f gone fs before behind is =
          let change = ended_all (filter (is_expired now timeout) f.pendings) in
          let own : (if f.number == f.number then change f else f) ≡ without_expired now timeout f = rw (eq-eqb f.number f.number refl) is in
          map-append (λ x. if f.number == x.number then change x else x) gone (f ∷ fs)
          ∙ ap (λ (xs : List (Face K)). xs ++ map (λ x. if f.number == x.number then change x else x) (f ∷ fs)) (apart_stay f.number change gone before)
          ∙ ap (λ (x : Face K). gone ++ x ∷ map (λ x. if f.number == x.number then change x else x) fs) own
          ∙ ap (λ (xs : List (Face K)). gone ++ without_expired now timeout f ∷ xs) (apart_stay f.number change fs behind)
          ∙ sym (append_assoc gone (without_expired now timeout f ∷ []) fs)

  expired_shown : (now : ℕ) (pendings : List (ℕ × ℕ)) (g : Rows K) → ListsAreInOrder cmp matching g → altered cmp matching (Expire now) g ≡ rows_shown cmp pendings (Expire now) g
  unfolding parts_of rows_shown altered_by
  expired_shown now pendings g lists = all_expired now g.timeout 1 [] g.faces (record g { moment = now }) tt lists.faces_rise lists.rows

  -- ---- tables

  table_shown : (region : Region) (t : Trees) (pendings : List (ℕ × ℕ)) (g : Rows K) → without_own (altered cmp matching (SetTrees region t) g) ≡ without_own (rows_shown cmp pendings (SetTrees region t) g)
  unfolding parts_of rows_shown altered_by
  table_shown region t pendings g =
      let counted = counted_table t in
      let one = without_left_out cmp region counted g in
      let forgets = forgetting cmp matching region (left_out cmp region counted g) in
      ap without_own (altered_append forgets (Alter (with_table cmp region t) ∷ Say (λ h. to_each (greet_to cmp h region (table_of g region)) h.faces) ∷ []) one)
      ∙ ap (with_table cmp region t) (own_parts forgets one (each_flat_map ChangesOwn (λ e. Say (forget cmp matching region e) ∷ hiding cmp region e) (left_out cmp region counted g) (λ e. (tt, own_hiding region e))))

  -- ---- all calls

  pub call_is_shown : (c : PlainCall K) (g : Rows K) → ListsAreInOrder cmp matching g → without_own (altered cmp matching c g) ≡ without_own (rows_shown cmp (would_send cmp matching c g) c g)
  unfolding parts_of rows_shown altered_by
  call_is_shown (NewSession first) g lists = refl
  call_is_shown (NewTransport zid whatami region bound first) g lists = ap without_own (opened_is_made zid whatami region bound first g)
  call_is_shown (DeclareToken n id e node interest) g lists = declared_shown n id node e interest [] g
  call_is_shown (UndeclareToken n id given node) g lists = undeclared_shown n id node given [] g lists
  call_is_shown (Interest n id mode options e) g lists = interest_shown n id mode options e g
  call_is_shown (InterestFinal n id) g lists = ap without_own (finalised_shown n id [] g lists)
  call_is_shown (DeclareFinal n id) g lists = ap without_own (ended_shown n id [] g lists)
  call_is_shown (CloseFace n) g lists = closed_shown n [] g
  call_is_shown (Expire now) g lists = ap without_own (expired_shown now [] g lists)
  call_is_shown (SetTrees region t) g lists = table_shown region t [] g
  call_is_shown (SetEntities n subscribers queryables) g lists = refl

-- ---- own rows aside before a call and after it

tied_number : (a b : ℕ) → nat_cmp a b ≡ Equal → a ≡ b
tied_number a b tie =
    let same_ : (a == b) ≡ is_eq (nat_cmp a b) = grind (arith, nat_tests) in
    eqb-true a b (same_ ∙ ap is_eq tie)

then_equal : (a b : Ordering) → ordering_then a b ≡ Equal → (a ≡ Equal) × (b ≡ Equal)
then_equal Less b e = cc
then_equal Equal b e = (refl, e)
then_equal Greater b e = cc

source_is_other : {K : Type 0} (g : Rows K) (f : Face K) (node : ℕ) (source : Zid) → source_of g f node ≡ Some source → zid_eq source g.zid ≡ false
unfolding source_of
source_is_other g f node source found = cases (first_where (λ l. (l.0 == f.number) && (l.1 == node)) (table_of g f.region).links) found
  where
    cases : (o : Option (ℕ × ℕ × Zid)) → (let z : Option Zid = elim o [ None ↦ None | Some l ↦ if zid_eq l.2 g.zid then None else Some l.2 ] in z) ≡ Some source → zid_eq source g.zid ≡ false
    cases None found = cc
    cases (Some l) found =
        by_test (zid_eq l.2 g.zid)
        (λ own. let bad : None ≡ Some source = rw own at found in cc)
        (λ own. let e : Some l.2 ≡ Some source = rw own at found in let is : l.2 ≡ source = cc in ap (λ z. zid_eq z g.zid) (sym is) ∙ own)

module _ {K : Type 0} (cmp : K → K → Ordering) (matching : K → K → Bool) (total : IsTotalOrder cmp) where
  routed_aside : (region : Region) (source : Zid) (e : K) (g : Rows K) → zid_eq source g.zid ≡ false → InKeyOrder (routed_order cmp) g.routed → with_routed cmp region source e (without_own g) ≡ without_own (with_routed cmp region source e g)
  unfolding with_routed
  routed_aside region source e g other ordered =
      ap (λ (rows : List (RoutedRow K)). record g { routed = rows })
      (sym (filter_new_in (routed_order cmp) (is_from_other g.zid) (routed_total cmp matching total) (row_at cmp region source e) g.routed (ap not other) alike ordered))
    where
      alike : (x : RoutedRow K) → routed_order cmp (row_at cmp region source e) x ≡ Equal → is_from_other g.zid x ≡ true
      alike x tie =
          let later = (then_equal (region_order region x.region) (ordering_then (nat_cmp source.0 x.source.0) (cmp e x.expr)) tie).1 in
          let same_ : source.0 ≡ x.source.0 = tied_number source.0 x.source.0 (then_equal (nat_cmp source.0 x.source.0) (cmp e x.expr) later).0 in
          ap (λ k. not (k == g.zid.0)) (sym same_) ∙ ap not other

  pub call_aside : (pendings : List (ℕ × ℕ)) (c : PlainCall K) (g : Rows K) → ListsAreInOrder cmp matching g → rows_shown cmp pendings c (without_own g) ≡ without_own (rows_shown cmp pendings c g)
  unfolding rows_shown with_face without_routed source_of table_of
  call_aside pendings (NewSession first) g lists = refl
  call_aside pendings (NewTransport zid whatami region bound first) g lists = refl
  call_aside pendings (DeclareToken n id e node interest) g lists = cases (find_face n g)
    where
      by_source : (f : Face K) (o : Option Zid) → source_of g f node ≡ o → with_source cmp f o e (without_own g) ≡ without_own (with_source cmp f o e g)
      by_source f None is = refl
      by_source f (Some source) is = routed_aside f.region source e g (source_is_other g f node source is) lists.routed

      cases : (o : Option (Face K)) → (let h : Rows K = elim o [ None ↦ without_own g | Some f ↦ with_declared cmp n id e node interest (without_own g) f ] in h)
          ≡ without_own (elim o [ None ↦ g | Some f ↦ with_declared cmp n id e node interest g f ])
      cases None = refl
      cases (Some f) =
          by_test (is_routed g f)
          (λ here. rw here (by_source f (source_of g f node) refl))
          (λ here. rw here (by_test (registers f interest) (λ there. rw there refl) (λ there. rw there refl)))
  call_aside pendings (UndeclareToken n id e node) g lists = cases (find_face n g)
    where
      by_source : (f : Face K) (o : Option Zid) (given : Option K) → without_source cmp f o given (without_own g) ≡ without_own (without_source cmp f o given g)
      by_source f None given = refl
      by_source f (Some source) None = refl
      by_source f (Some source) (Some k) =
          ap (λ (rows : List (RoutedRow K)). record g { routed = rows }) (filters_commute (λ row. not (is_routed_row cmp (row_at cmp f.region source k) row)) (is_from_other g.zid) g.routed)

      cases : (o : Option (Face K)) → (let h : Rows K = elim o [ None ↦ without_own g | Some f ↦ without_declared cmp n id e node (without_own g) f ] in h)
          ≡ without_own (elim o [ None ↦ g | Some f ↦ without_declared cmp n id e node g f ])
      cases None = refl
      cases (Some f) = by_test (is_routed g f) (λ here. rw here (by_source f (source_of g f node) e)) (λ here. rw here refl)
  call_aside pendings (Interest n id mode options e) g lists = cases (find_face n g)
    where
      cases : (o : Option (Face K)) → (let h : Rows K = elim o [ None ↦ without_own g | Some f ↦ with_interest cmp n id pendings (interest_kept f mode options e) (without_own g) ] in h)
          ≡ without_own (elim o [ None ↦ g | Some f ↦ with_interest cmp n id pendings (interest_kept f mode options e) g ])
      cases None = refl
      cases (Some f) = refl
  call_aside pendings (InterestFinal n id) g lists = refl
  call_aside pendings (DeclareFinal n id) g lists = refl
  call_aside pendings (CloseFace n) g lists = refl
  call_aside pendings (Expire now) g lists = refl
  call_aside pendings (SetTrees region t) g lists =
      ap (λ (rows : List (RoutedRow K)). with_table cmp region t (record g { routed = rows })) (filters_commute (λ row. not (is_left_out cmp region (counted_table t) row)) (is_from_other g.zid) g.routed)
  call_aside pendings (SetEntities n subscribers queryables) g lists = refl

  -- The rows that a transcript shows after a call are those that the machine keeps, but for own rows.
  pub call_shown_is : (c : PlainCall K) (g : Rows K) → ListsAreInOrder cmp matching g → rows_shown cmp (would_send cmp matching c g) c (without_own g) ≡ without_own (altered cmp matching c g)
  call_shown_is c g lists = call_aside (would_send cmp matching c g) c g lists ∙ sym (call_is_shown cmp matching c g lists)
