-- What stays of a gateway's rows when a line changes them, but for what is said to be touched.
use Rattle.std.proofs.Common.{◌≡◌, ◌⊎◌, inl, inr, ℕ, Bool, true, false, ◌&&◌, ◌||◌, ◌==◌, not, if◌then◌else◌, List, [], ◌∷◌, ◌++◌, map, filter, refl, sym, ap, subst, ◌∙◌, ⊎_elim, eqb-true, eq-eqb}
use Rattle.std.specs.declared.cmp.Ordering.{Ordering}
use Rattle.zt_region.specs.declared.region.Region.{Region}
use Rattle.zt_region.specs.Region.{zid_eq}
use Rattle.zt_keys.specs.Test.{by_test}
use Rattle.zt_model.specs.Parts.{with_face}
use Rattle.zt_model.specs.Rows.{Face, Rows}
use Rattle.zt_model.specs.Seen.{is_owed, may_hear}
use Rattle.zt_check_keeping.specs.Owing.{is_concerned}
use Rattle.zt_check_keeping.proofs.Members.{Among, append_left, filter_in, in_append, in_filter, in_map, map_in}
use Rattle.zt_check_keeping.proofs.Standing.{Has, Holds, IsRoutedIn, Stands, StandsAt}

-- what is touched at a gateway: tokens, faces that open
module _ {K : Type 0} (T : K → Type 0) (O : ℕ → Type 0) where
  -- a new face was told nothing
  pub record IsNew (h : Face K) : Type 0 where
    pub told : h.told ≡ []
    pub opened : O h.number

  -- what is after a call, where faces go on by R
  pub record Goes (R : Face K → Face K → Type 0) (g h : Rows K) : Type 0 where
    pub mode : h.mode ≡ g.mode
    pub refused : h.refused ≡ g.refused
    pub stood : (regions : Region → Bool) (e : K) → Stands regions g e → Stands regions h e ⊎ T e
    pub stands : (regions : Region → Bool) (e : K) → Stands regions h e → Stands regions g e ⊎ T e
    pub faces : (f : Face K) → Among f h.faces → ((o : Face K) × (Among o g.faces × R o f)) ⊎ IsNew f

  -- what changes of the tokens of a face
  pub record Stays (o f : Face K) : Type 0 where
    pub region : f.region ≡ o.region
    pub stood : (e : K) → Has e o.live → Has e f.live ⊎ T e
    pub stands : (e : K) → Has e f.live → Has e o.live ⊎ T e

  pub stays_same : (o f : Face K) → f.region ≡ o.region → f.live ≡ o.live → Stays o f
  stays_same o f region live = record {
    region = region;
    stood = λ e has. inl (subst (λ rows. Has e rows) (sym live) has);
    stands = λ e has. inl (subst (λ rows. Has e rows) live has);
  }

  module _ (R : Face K → Face K → Type 0) where
    pub stays_all : ((o : Face K) → R o o) → (g : Rows K) → Goes R g g
    stays_all same g = record {
      mode = refl;
      refused = refl;
      stood = λ regions e h. inl h;
      stands = λ regions e h. inl h;
      faces = λ f at. inl (f, (at, same f));
    }

    -- rows but for their faces and router regions
    module _ (g h : Rows K) (mode : h.mode ≡ g.mode) (refused : h.refused ≡ g.refused) (zid : h.zid ≡ g.zid) where
      routed_on : (regions : Region → Bool) (e : K) → h.routed ≡ g.routed → IsRoutedIn regions g e → IsRoutedIn regions h e
      routed_on regions e routed r = record {
        row = r.row;
        there = subst (Among r.row) (sym routed) r.there;
        region = r.region;
        expr = r.expr;
        other = subst (λ z. zid_eq r.row.source z ≡ false) (sym zid) r.other;
      }

      routed_back : (regions : Region → Bool) (e : K) → h.routed ≡ g.routed → IsRoutedIn regions h e → IsRoutedIn regions g e
      routed_back regions e routed r = record {
        row = r.row;
        there = subst (Among r.row) routed r.there;
        region = r.region;
        expr = r.expr;
        other = subst (λ z. zid_eq r.row.source z ≡ false) zid r.other;
      }

      -- each face is changed
      pub mapped : (c : Face K → Face K) → h.faces ≡ map c g.faces → h.routed ≡ g.routed → ((o : Face K) → Among o g.faces → Stays o (c o) × R o (c o)) → Goes R g h
      mapped c faces routed goes = record {
        mode = mode;
        refused = refused;
        stood = stood;
        stands = stands;
        faces = λ f at. let found = in_map c f g.faces (subst (Among f) faces at) in inl (found.0, (found.1.0, subst (R found.0) (sym found.1.1) (goes found.0 found.1.0).1));
      }
        where
          stood : (regions : Region → Bool) (e : K) → Stands regions g e → Stands regions h e ⊎ T e
          stood regions e (inl s) =
              let stay = (goes s.face s.there).0 in
              ⊎_elim
              (λ has. inl (inl (record {
                face = c s.face;
                there = subst (Among (c s.face)) (sym faces) (map_in c s.face g.faces s.there);
                region = ap regions stay.region ∙ s.region;
                has = has;
              })))
              (λ touched. inr touched)
              (stay.stood e s.has)
          stood regions e (inr r) = inl (inr (routed_on regions e routed r))

          stands : (regions : Region → Bool) (e : K) → Stands regions h e → Stands regions g e ⊎ T e
          stands regions e (inl s) =
              let found = in_map c s.face g.faces (subst (Among s.face) faces s.there) in
              let stay = (goes found.0 found.1.0).0 in
              ⊎_elim
              (λ has. inl (inl (record {
                face = found.0;
                there = found.1.0;
                region = ap regions (sym (ap (λ (f : Face K). f.region) found.1.1 ∙ stay.region)) ∙ s.region;
                has = has;
              })))
              (λ touched. inr touched)
              (stay.stands e (subst (λ (f : Face K). Has e f.live) found.1.1 s.has))
          stands regions e (inr r) = inl (inr (routed_back regions e routed r))

      -- those of a number are
      pub changed : (n : ℕ) (change : Face K → Face K) → h.faces ≡ map (λ f. if n == f.number then change f else f) g.faces → h.routed ≡ g.routed
          → ((o : Face K) → Among o g.faces → n ≡ o.number → Stays o (change o) × R o (change o)) → ((o : Face K) → R o o) → Goes R g h
      changed n change faces routed goes same =
          mapped (λ f. if n == f.number then change f else f) faces routed (λ o at. pick o (n == o.number) (λ is. goes o at (eqb-true n o.number is)))
        where
          pick : (o : Face K) (b : Bool) → (b ≡ true → Stays o (change o) × R o (change o)) → Stays o (if b then change o else o) × R o (if b then change o else o)
          pick o true own = own refl
          pick o false own = (stays_same o o refl refl, same o)

      -- faces go
      pub filtered : (keep : Face K → Bool) → h.faces ≡ filter keep g.faces → h.routed ≡ g.routed → ((o : Face K) → Among o g.faces → keep o ≡ false → (e : K) → Has e o.live → T e) → ((o : Face K) → R o o) → Goes R g h
      filtered keep faces routed gone same = record {
        mode = mode;
        refused = refused;
        stood = stood;
        stands = stands;
        faces = λ f at. inl (f, (in_filter keep f g.faces (subst (Among f) faces at), same f));
      }
        where
          stood : (regions : Region → Bool) (e : K) → Stands regions g e → Stands regions h e ⊎ T e
          stood regions e (inl s) =
              by_test (keep s.face)
              (λ kept. inl (inl (record { face = s.face; there = subst (Among s.face) (sym faces) (filter_in keep s.face g.faces s.there kept); region = s.region; has = s.has })))
              (λ lost. inr (gone s.face s.there lost e s.has))
          stood regions e (inr r) = inl (inr (routed_on regions e routed r))

          stands : (regions : Region → Bool) (e : K) → Stands regions h e → Stands regions g e ⊎ T e
          stands regions e (inl s) = inl (inl (record { face = s.face; there = in_filter keep s.face g.faces (subst (Among s.face) faces s.there); region = s.region; has = s.has }))
          stands regions e (inr r) = inl (inr (routed_back regions e routed r))

      -- a face opens
      pub appended : (new : Face K) → h.faces ≡ g.faces ++ new ∷ [] → h.routed ≡ g.routed → new.live ≡ [] → IsNew new → ((o : Face K) → R o o) → Goes R g h
      appended new faces routed nothing is same = record {
        mode = mode;
        refused = refused;
        stood = stood;
        stands = stands;
        faces = λ f at. ⊎_elim (λ old. inl (f, (old, same f))) (λ at_new. inr (go f at_new)) (in_append f g.faces (new ∷ []) (subst (Among f) faces at));
      }
        where
          go : (f : Face K) → Among f (new ∷ []) → IsNew f
          go f (inl at) = subst IsNew (sym at) is
          go f (inr at) = absurd at

          stood : (regions : Region → Bool) (e : K) → Stands regions g e → Stands regions h e ⊎ T e
          stood regions e (inl s) = inl (inl (record { face = s.face; there = subst (Among s.face) (sym faces) (append_left s.face g.faces (new ∷ []) s.there); region = s.region; has = s.has }))
          stood regions e (inr r) = inl (inr (routed_on regions e routed r))

          old_only : (e : K) (f : Face K) → Among f (new ∷ []) → Has e f.live → ⊥
          old_only e f (inl at) has = (subst (λ rows. Has e rows) (ap (λ (x : Face K). x.live) at ∙ nothing) has).1
          old_only e f (inr at) has = at

          stands : (regions : Region → Bool) (e : K) → Stands regions h e → Stands regions g e ⊎ T e
          stands regions e (inl s) =
              ⊎_elim
              (λ old. inl (inl (record { face = s.face; there = old; region = s.region; has = s.has })))
              (λ at_new. absurd (old_only e s.face at_new s.has))
              (in_append s.face g.faces (new ∷ []) (subst (Among s.face) faces s.there))
          stands regions e (inr r) = inl (inr (routed_back regions e routed r))

      -- rows of router regions change
      pub rerouted : h.faces ≡ g.faces
          → ((regions : Region → Bool) (e : K) → IsRoutedIn regions g e → IsRoutedIn regions h e ⊎ T e)
          → ((regions : Region → Bool) (e : K) → IsRoutedIn regions h e → IsRoutedIn regions g e ⊎ T e)
          → ((o : Face K) → R o o) → Goes R g h
      rerouted faces forth back same = record {
        mode = mode;
        refused = refused;
        stood = stood;
        stands = stands;
        faces = λ f at. inl (f, (subst (Among f) faces at, same f));
      }
        where
          stood : (regions : Region → Bool) (e : K) → Stands regions g e → Stands regions h e ⊎ T e
          stood regions e (inl s) = inl (inl (record { face = s.face; there = subst (Among s.face) (sym faces) s.there; region = s.region; has = s.has }))
          stood regions e (inr r) = ⊎_elim (λ on. inl (inr on)) (λ touched. inr touched) (forth regions e r)

          stands : (regions : Region → Bool) (e : K) → Stands regions h e → Stands regions g e ⊎ T e
          stands regions e (inl s) = inl (inl (record { face = s.face; there = subst (Among s.face) faces s.there; region = s.region; has = s.has }))
          stands regions e (inr r) = ⊎_elim (λ on. inl (inr on)) (λ touched. inr touched) (back regions e r)

    -- one change after another
    pub goes_then : ((a b c : Face K) → R a b → R b c → R a c) → ((a b : Face K) → R a b → IsNew a → IsNew b) → (g h k : Rows K) → Goes R g h → Goes R h k → Goes R g k
    goes_then more new g h k one two = record {
      mode = two.mode ∙ one.mode;
      refused = two.refused ∙ one.refused;
      stood = λ regions e s. ⊎_elim (λ there. two.stood regions e there) (λ touched. inr touched) (one.stood regions e s);
      stands = λ regions e s. ⊎_elim (λ there. one.stands regions e there) (λ touched. inr touched) (two.stands regions e s);
      faces = λ f at. ⊎_elim (λ old. on f old.0 old.1.1 (one.faces old.0 old.1.0)) (λ is. inr is) (two.faces f at);
    }
      where
        on : (f o : Face K) → R o f → ((p : Face K) × (Among p g.faces × R p o)) ⊎ IsNew o → ((p : Face K) × (Among p g.faces × R p f)) ⊎ IsNew f
        on f o r (inl old) = inl (old.0, (old.1.0, more old.0 o f old.1.1 r))
        on f o r (inr is) = inr (new o f r is)

-- faces that go on by one relation go on by a weaker one
pub goes_weaker : {K : Type 0} (T : K → Type 0) (O : ℕ → Type 0) (R S : Face K → Face K → Type 0) → ((o f : Face K) → R o f → S o f) → (g h : Rows K) → Goes T O R g h → Goes T O S g h
goes_weaker T O R S weaker g h goes = record {
  mode = goes.mode;
  refused = goes.refused;
  stood = goes.stood;
  stands = goes.stands;
  faces = λ f at. ⊎_elim (λ old. inl (old.0, (old.1.0, weaker old.0 f old.1.1))) (λ is. inr is) (goes.faces f at);
}
