-- What faces are sent, one message after another, and that the parts of a call say it well.
use Rattle.std.proofs.Common.{◌≡◌, inl, inr, ℕ, ◌≤◌, Bool, true, false, ◌&&◌, ◌==◌, not, List, [], ◌∷◌, ◌++◌, map, filter, Some, None, option_map, refl, sym, ap, ◌∙◌, subst, arith, eq-eqb, eqb-true, ⊎_elim}
use Rattle.std.proofs.lemmas.Bool.{or_cases}
use Rattle.std.specs.List.{list_any}
use Rattle.std.specs.declared.cmp.Ordering.{Ordering}
use Rattle.zt_region.specs.Region.{is_north}
use Rattle.zt_region.specs.declared.region.WhatAmI.{WhatAmI}
use Rattle.zt_region.specs.declared.region.WhatAmI.TheVariants.{Client}
use Rattle.zt_protocol.specs.declared.messages.Message.{Message}
use Rattle.zt_protocol.specs.declared.messages.Message.TheVariants.{DeclareToken, UndeclareToken, DeclareFinal, Interest, InterestFinal, DeclareSubscriber, DeclareQueryable}
use Rattle.zt_model.specs.Hat.{hat_of}
use Rattle.zt_model.specs.Hearing.{asks_answered, heard, heard_all, messages_for, rows_heard}
use Rattle.zt_model.specs.Lists.{first_where, same, without_id}
use Rattle.zt_model.specs.Parts.{Sends, find_face}
use Rattle.zt_model.specs.Rows.{Ask, ById, Face, InterestRow, Rows}
use Rattle.zt_model.specs.Transcript.{Each}
use Rattle.zt_model.specs.Wants.{kept_options}
use Rattle.zt_laws.specs.Kept.{told_by, told_of}
use Rattle.zt_laws.specs.Sound.{RiseFrom}
use Rattle.zt_laws.proofs.Hearing.{heard_all-number}
use Rattle.zt_laws.proofs.Lists.{by_test, each_map, never, of_cond, rise_map}
use Rattle.zt_laws.proofs.NextIds.{DrawNext}
use Rattle.zt_theorem_tree_invariant.specs.Facts.{IsTreeFace, JointAgrees, tokens_after, tokens_by}
use Rattle.zt_theorem_tree_invariant.proofs.Hears.{DrawsNext, IsWell, lower_hears, upper_hears}

module _ {K : Type 0} (cmp : K → K → Ordering) where
  -- ---- the asks of a face once it has heard a message

  abbrev pub asks_by : Message K → ById (Ask K) → ById (Ask K)
  asks_by (DeclareToken id e interest node) asks = asks_answered cmp interest e asks
  asks_by (DeclareFinal interest) asks = without_id interest asks
  asks_by _ asks = asks

  abbrev pub asks_after : List (Message K) → ById (Ask K) → ById (Ask K)
  asks_after [] asks = asks
  asks_after (m ∷ ms) asks = asks_after ms (asks_by m asks)

  pub heard_told : (now : ℕ) (m : Message K) (f : Face K) → (heard cmp now m f).told ≡ tokens_by cmp m f.told
  heard_told now (DeclareToken id e interest node) f = refl
  heard_told now (UndeclareToken id e node) f = refl
  heard_told now (DeclareFinal interest) f = refl
  heard_told now (Interest id mode options e) f = refl
  heard_told now (InterestFinal id) f = refl
  heard_told now (DeclareSubscriber id e interest) f = refl
  heard_told now (DeclareQueryable id e info interest) f = refl

  pub heard_asks : (now : ℕ) (m : Message K) (f : Face K) → (heard cmp now m f).asks ≡ asks_by m f.asks
  heard_asks now (DeclareToken id e interest node) f = refl
  heard_asks now (UndeclareToken id e node) f = refl
  heard_asks now (DeclareFinal interest) f = refl
  heard_asks now (Interest id mode options e) f = refl
  heard_asks now (InterestFinal id) f = refl
  heard_asks now (DeclareSubscriber id e interest) f = refl
  heard_asks now (DeclareQueryable id e info interest) f = refl

  pub all_told : (now : ℕ) (ms : List (Message K)) (f : Face K) → (heard_all cmp now ms f).told ≡ tokens_after cmp ms f.told
  unfolding heard_all
  all_told now [] f = refl
  all_told now (m ∷ ms) f = all_told now ms (heard cmp now m f) ∙ ap (tokens_after cmp ms) (heard_told now m f)

  pub all_asks : (now : ℕ) (ms : List (Message K)) (f : Face K) → (heard_all cmp now ms f).asks ≡ asks_after ms f.asks
  unfolding heard_all
  all_asks now [] f = refl
  all_asks now (m ∷ ms) f = all_asks now ms (heard cmp now m f) ∙ ap (asks_after ms) (heard_asks now m f)

  -- ---- said well

  abbrev pub SaidWell : Bool → List (Message K) → ById K → ById (Ask K) → Type 0
  SaidWell up [] told asks = Unit {0}
  SaidWell up (m ∷ ms) told asks = IsWell cmp up told asks m × SaidWell up ms (tokens_by cmp m told) (asks_by m asks)

  pub well_append : (up : Bool) (ms ns : List (Message K)) (told : ById K) (asks : ById (Ask K)) → SaidWell up ms told asks → SaidWell up ns (tokens_after cmp ms told) (asks_after ms asks) → SaidWell up (ms ++ ns) told asks
  well_append up [] ns told asks one two = two
  well_append up (m ∷ ms) ns told asks one two = (one.0, well_append up ms ns (tokens_by cmp m told) (asks_by m asks) one.1 two)

  -- ---- an end of a joint hears them

  draws_next : (m : Message K) (ms : List (Message K)) (f : Face K) → DrawNext cmp (m ∷ ms) (told_of f) → DrawsNext cmp f.next f.told m
  draws_next (DeclareToken id e interest node) ms f drawn = ⊎_elim (λ zero_. inl (eqb-true id 0 zero_)) (λ more. inr (⊎_elim (λ is. inl (eqb-true id f.next is)) (λ there. inr there) (or_cases (id == f.next) _ more))) (or_cases (id == 0) _ drawn.0)
  draws_next (Interest id mode options e) ms f drawn = eqb-true id f.next drawn.0
  draws_next (UndeclareToken id e node) ms f drawn = tt
  draws_next (DeclareFinal interest) ms f drawn = tt
  draws_next (InterestFinal id) ms f drawn = tt
  draws_next (DeclareSubscriber id e interest) ms f drawn = tt
  draws_next (DeclareQueryable id e info interest) ms f drawn = tt

  told_heard : (now : ℕ) (m : Message K) (f : Face K) → told_of (heard cmp now m f) ≡ told_by cmp m (told_of f)
  told_heard now (DeclareToken id e interest node) f = refl
  told_heard now (UndeclareToken id e node) f = refl
  told_heard now (DeclareFinal interest) f = refl
  told_heard now (Interest id mode options e) f = refl
  told_heard now (InterestFinal id) f = refl
  told_heard now (DeclareSubscriber id e interest) f = refl
  told_heard now (DeclareQueryable id e info interest) f = refl

  step_append : {A : Type 0} (xs : List A) (y : A) (ys : List A) → (xs ++ y ∷ []) ++ ys ≡ xs ++ y ∷ ys
  step_append [] y ys = refl
  step_append (x ∷ xs) y ys = ap (λ zs. x ∷ zs) (step_append xs y ys)

  pub lower_hears_all : (now : ℕ) (ms : List (Message K)) (lower upper : Face K) (rising falling : List (Message K)) → SaidWell true ms lower.told lower.asks → DrawNext cmp ms (told_of lower)
      → JointAgrees cmp lower upper rising falling → JointAgrees cmp (heard_all cmp now ms lower) upper (rising ++ ms) falling
  unfolding heard_all
  lower_hears_all now [] lower upper rising falling well drawn j = subst (λ xs. JointAgrees cmp lower upper xs falling) (sym (no_more rising)) j
    where
      no_more : (xs : List (Message K)) → xs ++ [] ≡ xs
      no_more [] = refl
      no_more (x ∷ xs) = ap (λ ys. x ∷ ys) (no_more xs)
  lower_hears_all now (m ∷ ms) lower upper rising falling well drawn j =
      subst (λ xs. JointAgrees cmp (heard_all cmp now ms (heard cmp now m lower)) upper xs falling) (step_append rising m ms)
      (lower_hears_all now ms (heard cmp now m lower) upper (rising ++ m ∷ []) falling
      (subst (λ (asks : ById (Ask K)). SaidWell true ms (heard cmp now m lower).told asks) (sym (heard_asks now m lower)) (subst (λ (told : ById K). SaidWell true ms told (asks_by m lower.asks)) (sym (heard_told now m lower)) well.1))
      (subst (DrawNext cmp ms) (sym (told_heard now m lower)) drawn.1)
      (lower_hears cmp now m lower upper rising falling well.0 (draws_next m ms lower drawn) j))

  pub upper_hears_all : (now : ℕ) (ms : List (Message K)) (lower upper : Face K) (rising falling : List (Message K)) → SaidWell false ms upper.told upper.asks → DrawNext cmp ms (told_of upper)
      → JointAgrees cmp lower upper rising falling → JointAgrees cmp lower (heard_all cmp now ms upper) rising (falling ++ ms)
  unfolding heard_all
  upper_hears_all now [] lower upper rising falling well drawn j = subst (λ xs. JointAgrees cmp lower upper rising xs) (sym (no_more falling)) j
    where
      no_more : (xs : List (Message K)) → xs ++ [] ≡ xs
      no_more [] = refl
      no_more (x ∷ xs) = ap (λ ys. x ∷ ys) (no_more xs)
  upper_hears_all now (m ∷ ms) lower upper rising falling well drawn j =
      subst (λ xs. JointAgrees cmp lower (heard_all cmp now ms (heard cmp now m upper)) rising xs) (step_append falling m ms)
      (upper_hears_all now ms lower (heard cmp now m upper) rising (falling ++ m ∷ [])
      (subst (λ (asks : ById (Ask K)). SaidWell false ms (heard cmp now m upper).told asks) (sym (heard_asks now m upper)) (subst (λ (told : ById K). SaidWell false ms told (asks_by m upper.asks)) (sym (heard_told now m upper)) well.1))
      (subst (DrawNext cmp ms) (sym (told_heard now m upper)) drawn.1)
      (upper_hears cmp now m lower upper rising falling well.0 (draws_next m ms upper drawn) j))

  -- ---- the rows of a gateway of a tree

  -- real ids alone are told
  pub record IsReal (f : Face K) : Type 0 where
    pub next : 1 ≤ f.next
    pub told : Each (λ row. 1 ≤ row.0) f.told

  pub record TreeRows (g : Rows K) : Type 0 where
    pub rises : RiseFrom (λ f. f.number) 1 g.faces
    pub faces : Each (IsTreeFace g.mode) g.faces
    pub real : Each IsReal g.faces

  real_heard : (now : ℕ) (m : Message K) (f : Face K) → IsReal f → IsReal (heard cmp now m f)
  real_heard now (DeclareToken id e interest node) f r =
      let n : 1 ≤ f.next = r.next in
      record {
        next = omega arith;
        told =
            by_test (id == 0)
            (λ zero_. rw zero_ r.told)
            (λ some. rw some (of_cond (Each (λ row. 1 ≤ row.0)) (list_any (λ row. (id == row.0) && same cmp e row.1) f.told) f.told (f.told ++ (id, e) ∷ []) (λ _. r.told) (λ _. more f.told r.told (real_id id some))));
      }
    where
      real_id : (k : ℕ) → (k == 0) ≡ false → 1 ≤ k
      real_id k h = by_test (k == 0) (λ e. never e h) (λ _. nonzero k h)
        where
          nonzero : (k : ℕ) → (k == 0) ≡ false → 1 ≤ k
          nonzero k h = grind (arith, h, eq-eqb k 0)

      more : (rows : ById K) → Each (λ row. 1 ≤ row.0) rows → 1 ≤ id → Each (λ row. 1 ≤ row.0) (rows ++ (id, e) ∷ [])
      more [] all real = (real, tt)
      more (row ∷ rows) all real = (all.0, more rows all.1 real)
  real_heard now (UndeclareToken id None node) f r = record { next = r.next; told = filtered (λ row. not (id == row.0)) f.told r.told }
    where
      filtered : (p : ℕ × K → Bool) (rows : ById K) → Each (λ row. 1 ≤ row.0) rows → Each (λ row. 1 ≤ row.0) (filter p rows)
      filtered p [] all = tt
      filtered p (row ∷ rows) all = of_cond (Each (λ row. 1 ≤ row.0)) (p row) (row ∷ filter p rows) (filter p rows) (λ _. (all.0, filtered p rows all.1)) (λ _. filtered p rows all.1)
  real_heard now (UndeclareToken id (Some e) node) f r = record { next = r.next; told = filtered (λ row. not (same cmp e row.1)) f.told r.told }
    where
      filtered : (p : ℕ × K → Bool) (rows : ById K) → Each (λ row. 1 ≤ row.0) rows → Each (λ row. 1 ≤ row.0) (filter p rows)
      filtered p [] all = tt
      filtered p (row ∷ rows) all = of_cond (Each (λ row. 1 ≤ row.0)) (p row) (row ∷ filter p rows) (filter p rows) (λ _. (all.0, filtered p rows all.1)) (λ _. filtered p rows all.1)
  real_heard now (DeclareFinal interest) f r = record { next = r.next; told = r.told }
  real_heard now (Interest id mode options e) f r = let n : 1 ≤ f.next = r.next in record { next = omega arith; told = r.told }
  real_heard now (InterestFinal id) f r = record { next = r.next; told = r.told }
  real_heard now (DeclareSubscriber id e interest) f r = r
  real_heard now (DeclareQueryable id e info interest) f r = r

  no_asks : (m : Message K) → asks_by m [] ≡ []
  no_asks (DeclareToken id e None node) = refl
  no_asks (DeclareToken id e (Some interest) node) = refl
  no_asks (UndeclareToken id e node) = refl
  no_asks (DeclareFinal interest) = refl
  no_asks (Interest id mode options e) = refl
  no_asks (InterestFinal id) = refl
  no_asks (DeclareSubscriber id e interest) = refl
  no_asks (DeclareQueryable id e info interest) = refl

  -- what hearing leaves of a face, beside what it changes
  tree_face_by : (mode : WhatAmI) (f h : Face K) → h.region ≡ f.region → h.bound ≡ f.bound → h.mode ≡ f.mode → h.held ≡ f.held → (f.asks ≡ [] → h.asks ≡ []) → IsTreeFace mode f → IsTreeFace mode h
  tree_face_by mode f h region_ bound_ mode_ held_ asks_ face = record {
    up = λ up. let leads = face.up (ap is_north (sym region_) ∙ up) in record { own = leads.own; bound = bound_ ∙ leads.bound; held = held_ ∙ leads.held; asks = asks_ leads.asks };
    down = λ down. let leads = face.down (ap is_north (sym region_) ∙ down) in record { shares = ap (λ r. (hat_of mode r).shares_tokens) region_ ∙ leads.shares; mode = mode_ ∙ leads.mode; held = subst (λ (rows : ById (InterestRow K)). Each (λ row. kept_options Client row.1.options ≡ row.1.options) rows) (sym held_) leads.held };
  }

  tree_face_heard : (own : WhatAmI) (now : ℕ) (m : Message K) (f : Face K) → IsTreeFace own f → IsTreeFace own (heard cmp now m f)
  tree_face_heard own now (DeclareToken id e interest node) f face = tree_face_by own f (heard cmp now (DeclareToken id e interest node) f) refl refl refl refl (λ none_. ap (asks_answered cmp interest e) none_ ∙ no_asks (DeclareToken id e interest node)) face
  tree_face_heard own now (UndeclareToken id e node) f face = tree_face_by own f (heard cmp now (UndeclareToken id e node) f) refl refl refl refl (λ none_. none_) face
  tree_face_heard own now (DeclareFinal interest) f face = tree_face_by own f (heard cmp now (DeclareFinal interest) f) refl refl refl refl (λ none_. ap (without_id interest) none_) face
  tree_face_heard own now (Interest id mode options e) f face = tree_face_by own f (heard cmp now (Interest id mode options e) f) refl refl refl refl (λ none_. none_) face
  tree_face_heard own now (InterestFinal id) f face = tree_face_by own f (heard cmp now (InterestFinal id) f) refl refl refl refl (λ none_. none_) face
  tree_face_heard own now (DeclareSubscriber id e interest) f face = face
  tree_face_heard own now (DeclareQueryable id e info interest) f face = face

  pub tree_face_heard_all : (own : WhatAmI) (now : ℕ) (ms : List (Message K)) (f : Face K) → IsTreeFace own f → IsTreeFace own (heard_all cmp now ms f)
  unfolding heard_all
  tree_face_heard_all own now [] f face = face
  tree_face_heard_all own now (m ∷ ms) f face = tree_face_heard_all own now ms (heard cmp now m f) (tree_face_heard own now m f face)

  both_heard : (own : WhatAmI) (now : ℕ) (ms : List (Message K)) (f : Face K) → IsTreeFace own f → IsReal f → IsTreeFace own (heard_all cmp now ms f) × IsReal (heard_all cmp now ms f)
  unfolding heard_all
  both_heard own now [] f face real = (face, real)
  both_heard own now (m ∷ ms) f face real = both_heard own now ms (heard cmp now m f) (tree_face_heard own now m f face) (real_heard now m f real)

  pub tree_rows_heard : (ss : Sends K) (g : Rows K) → TreeRows g → TreeRows (rows_heard cmp ss g)
  unfolding rows_heard
  tree_rows_heard ss g rows =
      let hears = λ (f : Face K). heard_all cmp g.moment (messages_for f.number ss) f in
      record {
        rises = rise_map (λ f. f.number) 1 hears g.faces (λ f. heard_all-number cmp g.moment (messages_for f.number ss) f) rows.rises;
        faces = each_map (IsTreeFace g.mode) hears g.faces (each_both2 g.faces rows.faces rows.real (λ f face real. (both_heard g.mode g.moment (messages_for f.number ss) f face real).0));
        real = each_map IsReal hears g.faces (each_both3 g.faces rows.faces rows.real (λ f face real. (both_heard g.mode g.moment (messages_for f.number ss) f face real).1));
      }
    where
      each_both2 : (fs : List (Face K)) → Each (IsTreeFace g.mode) fs → Each IsReal fs → ((f : Face K) → IsTreeFace g.mode f → IsReal f → IsTreeFace g.mode (heard_all cmp g.moment (messages_for f.number ss) f)) → Each (λ f. IsTreeFace g.mode (heard_all cmp g.moment (messages_for f.number ss) f)) fs
      each_both2 [] a b h = tt
      each_both2 (f ∷ fs) a b h = (h f a.0 b.0, each_both2 fs a.1 b.1 h)

      each_both3 : (fs : List (Face K)) → Each (IsTreeFace g.mode) fs → Each IsReal fs → ((f : Face K) → IsTreeFace g.mode f → IsReal f → IsReal (heard_all cmp g.moment (messages_for f.number ss) f)) → Each (λ f. IsReal (heard_all cmp g.moment (messages_for f.number ss) f)) fs
      each_both3 [] a b h = tt
      each_both3 (f ∷ fs) a b h = (h f a.0 b.0, each_both3 fs a.1 b.1 h)

  -- a face found by its number, once all faces changed
  pub find_map : (n : ℕ) (change : Face K → Face K) (fs : List (Face K)) → ((f : Face K) → (change f).number ≡ f.number) → first_where (λ f. n == f.number) (map change fs) ≡ option_map change (first_where (λ f. n == f.number) fs)
  find_map n change [] still = refl
  find_map n change (f ∷ fs) still =
      by_test (n == f.number)
      (λ here. let there : (n == (change f).number) ≡ true = ap (λ k. n == k) (still f) ∙ here in rw (here, there) refl)
      (λ here. let there : (n == (change f).number) ≡ false = ap (λ k. n == k) (still f) ∙ here in rw (here, there) (find_map n change fs still))

  pub find_heard_at : (ss : Sends K) (g : Rows K) (n : ℕ) (f : Face K) → find_face n g ≡ Some f → find_face n (rows_heard cmp ss g) ≡ Some (heard_all cmp g.moment (messages_for n ss) f)
  unfolding rows_heard
  find_heard_at ss g n f found =
      find_map n (λ h. heard_all cmp g.moment (messages_for h.number ss) h) g.faces (λ h. heard_all-number cmp g.moment (messages_for h.number ss) h)
      ∙ ap (option_map (λ h. heard_all cmp g.moment (messages_for h.number ss) h)) found
      ∙ ap (λ k. Some (heard_all cmp g.moment (messages_for k ss) f)) (sym (number_is n g.faces f found))
    where
      number_is : (n : ℕ) (fs : List (Face K)) (f : Face K) → first_where (λ h. n == h.number) fs ≡ Some f → n ≡ f.number
      number_is n [] f found = cc
      number_is n (h ∷ fs) f found =
          by_test (n == h.number)
          (λ here. let e : Some h ≡ Some f = rw here at found in let is : h ≡ f = cc in eqb-true n h.number here ∙ ap (λ (x : Face K). x.number) is)
          (λ here. number_is n fs f (rw here at found))
