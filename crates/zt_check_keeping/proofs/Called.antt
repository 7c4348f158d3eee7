-- What stays of a gateway's rows after an accepted call, but for what the call touches.
use Rattle.std.proofs.Common.{◌≡◌, ◌⊎◌, inl, inr, ℕ, ◌+◌, Bool, true, false, ◌&&◌, ◌||◌, ◌==◌, not, if◌then◌else◌, List, [], ◌∷◌, ◌++◌, map, filter, Option, None, Some, refl, sym, ap, subst, ◌∙◌, ⊎_elim, eqb-true, eq-eqb}
use Rattle.std.proofs.lemmas.Bool.{and_from, and_parts}
use Rattle.std.specs.Ordering.{is_eq, nat_cmp, ordering_then}
use Rattle.std.specs.declared.cmp.Ordering.{Ordering}
use Rattle.std.specs.declared.cmp.Ordering.TheVariants.{Less, Equal, Greater}
use Rattle.std.specs.FinMap.Entries.{put}
use Rattle.zt_keys.specs.Test.{by_test}
use Rattle.zt_region.specs.declared.region.Bound.{Bound}
use Rattle.zt_region.specs.declared.region.Region.{Region}
use Rattle.zt_region.specs.declared.region.WhatAmI.{WhatAmI}
use Rattle.zt_region.specs.declared.region.Zid.{Zid}
use Rattle.zt_region.specs.Region.{is_north, region_eq}
use Rattle.zt_protocol.specs.Interest.{is_current, is_future}
use Rattle.zt_protocol.specs.Plain.{PlainCall, Trees, NewSession, NewTransport, DeclareToken, UndeclareToken, Interest, InterestFinal, DeclareFinal, CloseFace, Expire, SetTrees, SetEntities}
use Rattle.zt_protocol.specs.declared.interests.InterestMode.{InterestMode}
use Rattle.zt_protocol.specs.declared.interests.InterestOptions.{InterestOptions}
use Rattle.zt_model.specs.Lists.{same}
use Rattle.zt_model.specs.Parts.{find_face, is_routed, with_face}
use Rattle.zt_model.specs.Rows.{Face, InterestRow, RoutedRow, Rows}
use Rattle.zt_model.specs.Seen.{concerns, is_owed, may_hear}
use Rattle.zt_model.specs.Shown.{by_face, counts_as_declared, interest_kept, router_meant, rows_shown, with_declared, with_held, with_initial_final, with_interest, with_question, with_source, with_token, without_declared, without_expired, without_held, without_pending, without_source, without_token}
use Rattle.zt_model.specs.Trees.{counted_table, is_left_out, is_routed_row, region_order, routed_order, row_at, with_routed, with_table, without_left_out, without_routed}
use Rattle.zt_check_keeping.specs.Changed.{declared, is_holding, is_sought, named, unlisted}
use Rattle.zt_check_keeping.specs.Owing.{is_concerned}
use Rattle.zt_check_keeping.proofs.Going.{Goes, IsNew, Stays, appended, changed, filtered, goes_then, goes_weaker, mapped, rerouted, stays_all, stays_same}
use Rattle.zt_check_keeping.proofs.Members.{Among, append_left, append_right, filter_in, in_filter, in_key, in_put, key_keeps, member_any, put_keeps}
use Rattle.zt_check_keeping.proofs.Standing.{Has, Holds, IsRoutedIn, hears_from, hears_to, owed_from, owed_to}
use Rattle.zt_check_keeping.proofs.Touched.{Covers, declared_in, holding, in_put_if, put_if_keeps, unlisted_there}

-- a face keeps all that matters
pub record IsSame {K : Type 0} (o f : Face K) : Type 0 where
  pub number : f.number ≡ o.number
  pub region : f.region ≡ o.region
  pub told : f.told ≡ o.told
  pub held : f.held ≡ o.held

pub same_itself : {K : Type 0} (o : Face K) → IsSame o o
same_itself o = record { number = refl; region = refl; told = refl; held = refl }

pub same_then : {K : Type 0} (a b c : Face K) → IsSame a b → IsSame b c → IsSame a c
same_then a b c one two = record { number = two.number ∙ one.number; region = two.region ∙ one.region; told = two.told ∙ one.told; held = two.held ∙ one.held }

pub same_new : {K : Type 0} (T : K → Type 0) (O : ℕ → Type 0) (a b : Face K) → IsSame a b → IsNew T O a → IsNew T O b
same_new T O a b is new = record { told = is.told ∙ new.told; opened = subst O (sym is.number) new.opened }

module _ {K : Type 0} (cmp : K → K → Ordering) (matching : K → K → Bool) where
  -- A face goes on: it may hear of what it could, but where it holds an interest no more, and more is owed to it only by an
  -- interest that it begins to hold.
  pub record GoesOn (U : ℕ → Type 0) (D : ℕ → ℕ → Type 0) (o f : Face K) : Type 0 where
    pub number : f.number ≡ o.number
    pub region : f.region ≡ o.region
    pub told : f.told ≡ o.told
    pub hears : (e : K) → may_hear matching o e ≡ true → (may_hear matching f e ≡ true) ⊎ U f.number
    pub owed : (e : K) → is_owed matching f e ≡ true → (is_owed matching o e ≡ true) ⊎ ((id : ℕ) × (D f.number id × (is_concerned cmp matching f.held id e ≡ true)))

  pub same_goes : (U : ℕ → Type 0) (D : ℕ → ℕ → Type 0) (o f : Face K) → IsSame o f → GoesOn U D o f
  same_goes U D o f is = record {
    number = is.number;
    region = is.region;
    told = is.told;
    hears = λ e h.
        inl (hears_to matching f e (⊎_elim
        (λ north. inl (ap is_north is.region ∙ north))
        (λ holds. inr (subst (λ held. Holds held (λ interest. concerns matching interest e)) (sym is.held) holds)) (hears_from matching o e h)));
    owed = λ e h.
        inl (owed_to matching o e (⊎_elim
        (λ north. inl (ap is_north (sym is.region) ∙ north))
        (λ holds. inr (subst (λ held. Holds held (λ interest. concerns matching interest e && is_current interest.mode)) is.held holds)) (owed_from matching f e h)));
  }

  -- ---- interests

  module _ (U : ℕ → Type 0) (D : ℕ → ℕ → Type 0) where
    unheld_goes : (n id : ℕ) (o : Face K) → n ≡ o.number → U n → GoesOn U D o (without_held id o)
    unheld_goes n id o own unheld = record {
      number = refl;
      region = refl;
      told = refl;
      hears = λ e h. inr (subst U own unheld);
      owed = λ e h.
          inl (owed_to matching o e (⊎_elim
          (λ north. inl north)
          (λ holds. inr (record { row = holds.row; there = in_filter (λ (row : ℕ × InterestRow K). not (id == row.0)) holds.row o.held holds.there; passes = holds.passes }))
          (owed_from matching (without_held id o) e h)));
    }

    held_goes : (n id : ℕ) (pendings : List (ℕ × ℕ)) (interest : InterestRow K) (o : Face K) → n ≡ o.number
        → (is_future interest.mode ≡ true → D n id) → ((row : ℕ × InterestRow K) → is_future interest.mode ≡ true → Among row o.held → id ≡ row.0 → U n)
        → GoesOn U D o (with_question pendings id interest (with_held id interest o))
    held_goes n id pendings interest o own held unheld = record {
      number = refl;
      region = refl;
      told = refl;
      hears = λ e h. ⊎_elim (λ north. inl (hears_to matching f e (inl north))) (λ holds. hearing e holds) (hears_from matching o e h);
      owed = λ e h. ⊎_elim (λ north. inl (owed_to matching o e (inl north))) (λ holds. owing e holds) (owed_from matching f e h);
    }
      where
        f : Face K
        f = with_question pendings id interest (with_held id interest o)

        hearing : (e : K) → Holds o.held (λ i. concerns matching i e) → (may_hear matching (with_question pendings id interest (with_held id interest o)) e ≡ true) ⊎ U o.number
        hearing e holds =
            ⊎_elim
            (λ kept. inl (hears_to matching (with_question pendings id interest (with_held id interest o)) e (inr (record { row = holds.row; there = kept; passes = holds.passes }))))
            (λ lost. inr (subst U own (unheld holds.row lost.0 holds.there lost.1)))
            (put_if_keeps (is_future interest.mode) id interest holds.row o.held holds.there)

        owing : (e : K) → Holds (with_held id interest o).held (λ i. concerns matching i e && is_current i.mode)
            → (is_owed matching o e ≡ true) ⊎ ((i : ℕ) × (D o.number i × (is_concerned cmp matching (with_held id interest o).held i e ≡ true)))
        owing e holds =
            ⊎_elim
            (λ new. inr (
              id,
              (
                subst (λ k. D k id) own (held new.0),
                member_any (λ (row : ℕ × InterestRow K). (row.0 == id) && (concerns matching row.1 e && is_current row.1.mode)) holds.row (with_held id interest o).held holds.there
                    (and_from (holds.row.0 == id) (concerns matching holds.row.1 e && is_current holds.row.1.mode) (eq-eqb holds.row.0 id (ap (λ (r : ℕ × InterestRow K). r.0) new.1)) holds.passes),
              ),
            ))
            (λ old. inl (owed_to matching o e (inr (record { row = holds.row; there = old; passes = holds.passes }))))
            (in_put_if (is_future interest.mode) id interest holds.row o.held holds.there)

  -- ---- keys of router regions

  -- rows of one region, router and key have one key
  same_key : (exact : (a b : K) → same cmp a b ≡ true → a ≡ b) (a b : RoutedRow K) → is_routed_row cmp a b ≡ true → a.expr ≡ b.expr
  same_key exact a b h = exact a.expr b.expr (last (region_order a.region b.region) (nat_cmp a.source.0 b.source.0) (cmp a.expr b.expr) h)
    where
      last : (x y z : Ordering) → is_eq (ordering_then x (ordering_then y z)) ≡ true → is_eq z ≡ true
      last Equal Equal z is = is
      last Equal Less z is = cc
      last Equal Greater z is = cc
      last Less y z is = cc
      last Greater y z is = cc

  module _ (exact : (a b : K) → same cmp a b ≡ true → a ≡ b) (T : K → Type 0) (U O : ℕ → Type 0) (D : ℕ → ℕ → Type 0) (gateway : ℕ) where
    abbrev Next : Rows K → Rows K → Type 0
    Next g h = Goes T O (GoesOn U D) g h

    not_not : (b : Bool) → not b ≡ false → b ≡ true
    not_not true h = refl
    not_not false h = cc

    same_next : (o : Face K) → GoesOn U D o o
    same_next o = same_goes U D o o (same_itself o)

    stays_next : (g : Rows K) → Next g g
    stays_next g = stays_all T O (GoesOn U D) same_next g

    next_if : (b : Bool) (g x y : Rows K) → Next g x → Next g y → Next g (if b then x else y)
    next_if true g x y one two = one
    next_if false g x y one two = two

    -- ---- tokens

    token_stays : (n id : ℕ) (e : K) (g : Rows K) (o : Face K) → Among o g.faces → n ≡ o.number → T e → ((k : K) → Among (gateway, k) (declared gateway n (Some id) g.faces) → T k) → Stays T O o (with_token id e o)
    token_stays n id e g o at own new old = record {
      region = refl;
      stood = λ k has.
          ⊎_elim (λ kept. inl (has.0, kept)) (λ lost. inr (old k (declared_in gateway n (Some id) has.0 k o g.faces at own has.1 (eq-eqb id has.0 lost)))) (put_keeps id e (has.0, k) o.live has.1);
      stands = λ k has.
          ⊎_elim (λ is. inr (subst T (sym (ap (λ (r : ℕ × K). r.1) is)) new)) (λ there. inl (has.0, there)) (in_put id e (has.0, k) o.live has.1);
    }

    untoken_stays : (n id : ℕ) (g : Rows K) (o : Face K) → Among o g.faces → n ≡ o.number → ((k : K) → Among (gateway, k) (declared gateway n (Some id) g.faces) → T k) → Stays T O o (without_token id o)
    untoken_stays n id g o at own old = record {
      region = refl;
      stood = λ k has.
          by_test (id == has.0)
          (λ same. inr (old k (declared_in gateway n (Some id) has.0 k o g.faces at own has.1 same)))
          (λ apart. inl (has.0, filter_in (λ (row : ℕ × K). not (id == row.0)) (has.0, k) o.live has.1 (ap not apart)));
      stands = λ k has. inl (has.0, in_filter (λ (row : ℕ × K). not (id == row.0)) (has.0, k) o.live has.1);
    }

    source_next : (f : Face K) (source : Option Zid) (e : K) (g : Rows K) → T e → Next g (with_source cmp f source e g)
    unfolding with_routed
    source_next f None e g touched = stays_next g
    source_next f (Some source) e g touched = rerouted T O (GoesOn U D) g (with_routed cmp f.region source e g) refl refl refl refl forth back same_next
      where
        forth : (regions : Region → Bool) (k : K) → IsRoutedIn regions g k → IsRoutedIn regions (with_routed cmp f.region source e g) k ⊎ T k
        forth regions k r =
            inl (record { row = r.row; there = key_keeps (routed_order cmp) (row_at cmp f.region source e) r.row g.routed r.there; region = r.region; expr = r.expr; other = r.other })

        back : (regions : Region → Bool) (k : K) → IsRoutedIn regions (with_routed cmp f.region source e g) k → IsRoutedIn regions g k ⊎ T k
        back regions k r =
            ⊎_elim
            (λ new. inr (subst T (sym (r.expr ∙ ap (λ (x : RoutedRow K). x.expr) new)) touched))
            (λ old. inl (record { row = r.row; there = old; region = r.region; expr = r.expr; other = r.other }))
            (in_key (routed_order cmp) (row_at cmp f.region source e) r.row g.routed r.there)

    unsource_next : (f : Face K) (source : Option Zid) (e : Option K) (g : Rows K) → ((k : K) → Among (gateway, k) (named gateway e) → T k) → Next g (without_source cmp f source e g)
    unfolding without_routed
    unsource_next f None e g touched = stays_next g
    unsource_next f (Some source) None g touched = stays_next g
    unsource_next f (Some source) (Some e) g touched = rerouted T O (GoesOn U D) g (without_routed cmp f.region source e g) refl refl refl refl forth back same_next
      where
        own : RoutedRow K → Bool
        own row = is_routed_row cmp (row_at cmp f.region source e) row

        forth : (regions : Region → Bool) (k : K) → IsRoutedIn regions g k → IsRoutedIn regions (without_routed cmp f.region source e g) k ⊎ T k
        forth regions k r =
            by_test (is_routed_row cmp (row_at cmp f.region source e) r.row)
            (λ gone. inr (subst T (same_key exact (row_at cmp f.region source e) r.row gone ∙ sym r.expr) (touched e (inl refl))))
            (λ kept. inl (record {
              row = r.row;
              there = filter_in (λ row. not (is_routed_row cmp (row_at cmp f.region source e) row)) r.row g.routed r.there (ap not kept);
              region = r.region;
              expr = r.expr;
              other = r.other;
            }))

        back : (regions : Region → Bool) (k : K) → IsRoutedIn regions (without_routed cmp f.region source e g) k → IsRoutedIn regions g k ⊎ T k
        back regions k r =
            inl (record {
              row = r.row;
              there = in_filter (λ row. not (is_routed_row cmp (row_at cmp f.region source e) row)) r.row g.routed r.there;
              region = r.region;
              expr = r.expr;
              other = r.other;
            })

    abbrev with_trees : Region → Trees → Rows K → Rows K
    with_trees region table g = with_table cmp region table (without_left_out cmp region (counted_table table) g)

    left_out_next : (region : Region) (table : Trees) (g : Rows K) → ((k : K) → Among (gateway, k) (unlisted gateway region (counted_table table) g.routed) → T k) → Next g (with_trees region table g)
    left_out_next region table g touched = rerouted T O (GoesOn U D) g (with_trees region table g) refl refl refl refl forth back same_next
      where
        forth : (regions : Region → Bool) (k : K) → IsRoutedIn regions g k → IsRoutedIn regions (with_trees region table g) k ⊎ T k
        forth regions k r =
            by_test (is_left_out cmp region (counted_table table) r.row)
            (λ gone. inr (subst T (sym r.expr) (touched r.row.expr (unlisted_there gateway region (counted_table table) r.row g.routed r.there gone))))
            (λ kept. inl (record {
              row = r.row;
              there = filter_in (λ row. not (is_left_out cmp region (counted_table table) row)) r.row g.routed r.there (ap not kept);
              region = r.region;
              expr = r.expr;
              other = r.other;
            }))

        back : (regions : Region → Bool) (k : K) → IsRoutedIn regions (with_trees region table g) k → IsRoutedIn regions g k ⊎ T k
        back regions k r =
            inl (record {
              row = r.row;
              there = in_filter (λ row. not (is_left_out cmp region (counted_table table) row)) r.row g.routed r.there;
              region = r.region;
              expr = r.expr;
              other = r.other;
            })

    -- ---- one face

    -- faces of a number change in what doesn't matter
    quiet_next : (n : ℕ) (change : Face K → Face K) (g h : Rows K) → h.mode ≡ g.mode → h.refused ≡ g.refused → h.zid ≡ g.zid → h.routed ≡ g.routed
        → h.faces ≡ map (λ f. if n == f.number then change f else f) g.faces → ((o : Face K) → IsSame o (change o)) → ((o : Face K) → (change o).live ≡ o.live) → Next g h
    quiet_next n change g h mode refused zid routed faces is live =
        changed T O (GoesOn U D) g h mode refused zid n change faces routed
        (λ o at own. (stays_same T O o (change o) (is o).region (live o), same_goes U D o (change o) (is o))) same_next

    quiet_same : (n : ℕ) (change : Face K → Face K) (g h : Rows K) → h.mode ≡ g.mode → h.refused ≡ g.refused → h.zid ≡ g.zid → h.routed ≡ g.routed
        → h.faces ≡ map (λ f. if n == f.number then change f else f) g.faces → ((o : Face K) → IsSame o (change o)) → ((o : Face K) → (change o).live ≡ o.live) → Goes T O IsSame g h
    quiet_same n change g h mode refused zid routed faces is live =
        changed T O IsSame g h mode refused zid n change faces routed (λ o at own. (stays_same T O o (change o) (is o).region (live o), is o)) same_itself

    declared_next : (n id : ℕ) (e : K) (node : ℕ) (interest : Option ℕ) (g : Rows K) (f : Face K) → Covers T U O D gateway g (DeclareToken n id e node interest) → Next g (with_declared cmp n id e node interest g f)
    unfolding with_face
    declared_next n id e node interest g f covers =
        let new : T e = covers.tokens e (inl refl) in
        next_if (is_routed g f) g _ _ (source_next f (router_meant g f node) e g new)
        (next_if (counts_as_declared f interest) g _ _
        (changed T O (GoesOn U D) g (with_face n (with_token id e) g) refl refl refl n (with_token id e) refl refl
        (λ o at own. (token_stays n id e g o at own new (λ k there. covers.tokens k (inr there)), same_goes U D o (with_token id e o) (record { number = refl; region = refl; told = refl; held = refl }))) same_next)
        (stays_next g))

    undeclared_next : (n id : ℕ) (e : Option K) (node : ℕ) (g : Rows K) (f : Face K) → Covers T U O D gateway g (UndeclareToken n id e node) → Next g (without_declared cmp n id e node g f)
    unfolding with_face
    undeclared_next n id e node g f covers =
        next_if (is_routed g f) g _ _
        (unsource_next f (router_meant g f node) e g (λ k there. covers.tokens k (append_left (gateway, k) (named gateway e) (declared gateway n (Some id) g.faces) there)))
        (changed T O (GoesOn U D) g (with_face n (without_token id) g) refl refl refl n (without_token id) refl refl
        (λ o at own. (
          untoken_stays n id g o at own (λ k there. covers.tokens k (append_right (gateway, k) (named gateway e) (declared gateway n (Some id) g.faces) there)),
          same_goes U D o (without_token id o) (record { number = refl; region = refl; told = refl; held = refl }),
        )) same_next)

    interest_next : (n id : ℕ) (mode : InterestMode) (options : InterestOptions) (e : Option K) (pendings : List (ℕ × ℕ)) (interest : InterestRow K) (g : Rows K) → interest.mode ≡ mode
        → Covers T U O D gateway g (Interest n id mode options e) → Next g (with_interest cmp n id pendings interest g)
    unfolding with_face
    interest_next n id mode options e pendings interest g is covers =
        changed T O (GoesOn U D) g (with_interest cmp n id pendings interest g) refl refl refl n (λ f. with_question pendings id interest (with_held id interest f)) refl refl
        (λ o at own. (
          stays_same T O o (with_question pendings id interest (with_held id interest o)) refl refl,
          held_goes U D n id pendings interest o own (λ future. covers.held n id (held_there future)) (λ row future there same. covers.unheld n (unheld_there o row future at own there same)),
        )) same_next
      where
        held_there : is_future interest.mode ≡ true → Among {A = ℕ × ℕ × ℕ} (gateway, n, id) (if is_future mode then (gateway, n, id) ∷ [] else [])
        held_there future = let here : is_future mode ≡ true = ap is_future (sym is) ∙ future in rw here (inl refl)

        unheld_there : (o : Face K) (row : ℕ × InterestRow K) → is_future interest.mode ≡ true → Among o g.faces → n ≡ o.number → Among row o.held → id ≡ row.0
            → Among {A = ℕ × ℕ} (gateway, n) (if is_future mode && is_holding n id g.faces then (gateway, n) ∷ [] else [])
        unheld_there o row future at own there under =
            let here : (is_future mode && is_holding n id g.faces) ≡ true = and_from (is_future mode) (is_holding n id g.faces) (ap is_future (sym is) ∙ future) (holding gateway n id row o g.faces at own there under) in
            rw here (inl refl)

    by_face_next : (n : ℕ) (g : Rows K) (change : Face K → Rows K) → ((f : Face K) → Next g (change f)) → Next g (by_face cmp n g change)
    by_face_next n g change next = go (find_face n g)
      where
        go : (found : Option (Face K)) → Next g (elim found [ None ↦ g | Some f ↦ change f ])
        go None = stays_next g
        go (Some f) = next f

    -- ---- calls

    pub called : (pendings : List (ℕ × ℕ)) (call : PlainCall K) (g : Rows K) → Covers T U O D gateway g call → Next g (rows_shown cmp pendings call g)
    unfolding rows_shown with_face
    called pendings (NewSession first) g covers =
        appended T O (GoesOn U D) g _ refl refl refl _ refl refl refl (record { told = refl; opened = covers.opened (g.made + 1) (inl refl) }) same_next
    called pendings (NewTransport zid whatami region bound first) g covers =
        appended T O (GoesOn U D) g _ refl refl refl _ refl refl refl (record { told = refl; opened = covers.opened (g.made + 1) (inl refl) }) same_next
    called pendings (DeclareToken n id e node interest) g covers = by_face_next n g (with_declared cmp n id e node interest g) (λ f. declared_next n id e node interest g f covers)
    called pendings (UndeclareToken n id e node) g covers = by_face_next n g (without_declared cmp n id e node g) (λ f. undeclared_next n id e node g f covers)
    called pendings (Interest n id mode options e) g covers =
        by_face_next n g (λ f. with_interest cmp n id pendings (interest_kept f mode options e) g) (λ f. interest_next n id mode options e pendings (interest_kept f mode options e) g refl covers)
    called pendings (InterestFinal n id) g covers =
        changed T O (GoesOn U D) g (with_face n (without_held id) g) refl refl refl n (without_held id) refl refl
        (λ o at own. (stays_same T O o (without_held id o) refl refl, unheld_goes U D n id o own (covers.unheld n (inl refl)))) same_next
    called pendings (DeclareFinal n id) g covers =
        let h = with_face n (with_initial_final id) g in
        goes_weaker T O IsSame (GoesOn U D) (same_goes U D) g (with_face n (without_pending id) h)
        (goes_then T O IsSame same_then (same_new T O) g h (with_face n (without_pending id) h)
        (quiet_same n (with_initial_final id) g h refl refl refl refl refl (λ o. record { number = refl; region = refl; told = refl; held = refl }) (λ o. refl))
        (quiet_same n (without_pending id) h (with_face n (without_pending id) h) refl refl refl refl refl (λ o. record { number = refl; region = refl; told = refl; held = refl }) (λ o. refl)))
    called pendings (CloseFace n) g covers =
        filtered T O (GoesOn U D) g _ refl refl refl (λ f. not (n == f.number)) refl refl
        (λ o at gone k has. covers.tokens k (declared_in gateway n None has.0 k o g.faces at (eqb-true n o.number (not_not (n == o.number) gone)) has.1 refl)) same_next
    called pendings (Expire now) g covers =
        mapped T O (GoesOn U D) g _ refl refl refl (without_expired now g.timeout) refl refl
        (λ o at. (stays_same T O o (without_expired now g.timeout o) refl refl, same_goes U D o (without_expired now g.timeout o) (record { number = refl; region = refl; told = refl; held = refl })))
    called pendings (SetTrees region table) g covers = left_out_next region table g covers.tokens
    called pendings (SetEntities n subscribers queryables) g covers =
        quiet_next n (λ f. record f { subscribers = subscribers; queryables = queryables }) g _ refl refl refl refl refl (λ o. record { number = refl; region = refl; told = refl; held = refl }) (λ o. refl)

    -- ---- the calls that open and close the faces of links

    pub opened_same : (pendings : List (ℕ × ℕ)) (zid : Zid) (mode : WhatAmI) (region : Region) (bound : Bound) (first : ℕ) (g : Rows K) → O (g.made + 1) → Goes T O IsSame g (rows_shown cmp pendings (NewTransport zid mode region bound first) g)
    unfolding rows_shown
    opened_same pendings zid mode region bound first g opened =
        appended T O IsSame g _ refl refl refl _ refl refl refl (record { told = refl; opened = opened }) same_itself

    pub closed_same : (pendings : List (ℕ × ℕ)) (n : ℕ) (g : Rows K) → ((o : Face K) → Among o g.faces → n ≡ o.number → (k : K) → Has k o.live → T k) → Goes T O IsSame g (rows_shown cmp pendings (CloseFace n) g)
    unfolding rows_shown
    closed_same pendings n g touched =
        filtered T O IsSame g _ refl refl refl (λ f. not (n == f.number)) refl refl
        (λ o at gone k has. touched o at (eqb-true n o.number (not_not (n == o.number) gone)) k has) same_itself
