-- A face is closed before or after its gateway's other faces hear messages: the rows are the same.
use Rattle.std.proofs.Common.{◌≡◌, ℕ, Bool, true, false, cond, not, if◌then◌else◌, ◌==◌, ◌&&◌, List, [], ◌∷◌, ◌++◌, map, filter, Option, Some, None, option_map, refl, sym, ap, ◌∙◌, subst}
use Rattle.std.proofs.lemmas.List.Folds.{flat_map-map}
use Rattle.std.specs.List.{flat_map}
use Rattle.std.specs.declared.cmp.Ordering.{Ordering}
use Rattle.zt_region.specs.declared.region.Region.{Region}
use Rattle.zt_region.specs.Region.{region_eq, zid_eq}
use Rattle.zt_protocol.specs.Plain.{CloseFace}
use Rattle.zt_protocol.specs.declared.messages.Message.{Message}
use Rattle.zt_model.specs.Closing.{closing, leaving, without_asks, without_face}
use Rattle.zt_model.specs.Hat.{hat_of}
use Rattle.zt_model.specs.Hearing.{heard_all}
use Rattle.zt_model.specs.Lists.{first_where, same, without_id}
use Rattle.zt_model.specs.Parts.{unsaid_to}
use Rattle.zt_model.specs.Routing.{ended, ending, finalising, unheld}
use Rattle.zt_model.specs.Rows.{Ask, ById, Face, InterestRow, Pending, RoutedRow, Rows}
use Rattle.zt_model.specs.Says.{Alter, Part, Say, altered, altered_by, find_face, is_routed, parts_of, undeclared, undeclaring, unregistered, with_face, forget}
use Rattle.zt_model.specs.Transcript.{Each}
use Rattle.zt_model.specs.Trees.{hiding, is_hidden, without_own_rows}
use Rattle.zt_model.specs.Visible.{rows_of_face}
use Rattle.zt_laws.proofs.Hearing.{heard_all-live, heard_all-number, heard_all-region}
use Rattle.zt_laws.proofs.Keeping.{heard_leaves_rest}
use Rattle.zt_laws.proofs.Lists.{by_test, each_always, each_append, filter_alike, map-map, map_alike, map_same}
use Rattle.zt_laws.proofs.PartsOrder.{altered_by_last, each_flat_map}
use Rattle.zt_laws.proofs.Visible.{visible_alike}

module _ {K : Type 0} (cmp : K → K → Ordering) (matching : K → K → Bool) where
  -- ---- parts one after another

  altered_by-append : (ps qs : List (Part K)) (g : Rows K) → altered_by cmp matching (ps ++ qs) g ≡ altered_by cmp matching qs (altered_by cmp matching ps g)
  unfolding altered_by
  altered_by-append [] qs g = refl
  altered_by-append (Alter change ∷ ps) qs g = altered_by-append ps qs (change g)
  altered_by-append (Say rule ∷ ps) qs g = altered_by-append ps qs g

  altered_unsaid : (n : ℕ) (ps : List (Part K)) (g : Rows K) → altered_by cmp matching (unsaid_to n ps) g ≡ altered_by cmp matching ps g
  unfolding altered_by unsaid_to
  altered_unsaid n [] g = refl
  altered_unsaid n (Alter change ∷ ps) g = altered_unsaid n ps (change g)
  altered_unsaid n (Say rule ∷ ps) g = altered_unsaid n ps g

  module _ (n now : ℕ) (heard_by : ℕ → List (Message K)) where
    abbrev hears : Face K → Face K
    hears f = heard_all cmp now (heard_by f.number) f

    -- the live rows of faces, under their numbers and regions
    abbrev lives : List (Face K) → List (ℕ × Region × ById K)
    lives fs = map (λ f. (f.number, f.region, f.live)) fs

    abbrev others : List (Face K) → List (Face K)
    others fs = filter (λ f. not (n == f.number)) fs

    -- the rows `h` are those of `g` after all faces but the n-th heard their messages
    record IsHeardBeside (g h : Rows K) : Type 0 where
      moment : g.moment ≡ now
      faces : List (Face K)
      rows : h ≡ record g { faces = faces }
      lives_are : lives faces ≡ lives g.faces
      others_are : others faces ≡ map hears (others g.faces)

    -- ---- one face changes

    -- the change leaves number and region, and changes live rows by `live`
    record ChangesLive (live : ById K → ById K) (change : Face K → Face K) : Type 0 where
      number : (f : Face K) → (change f).number ≡ f.number
      region : (f : Face K) → (change f).region ≡ f.region
      live_is : (f : Face K) → (change f).live ≡ live f.live

    lives_changed : (live : ById K → ById K) (change : Face K → Face K) (fs : List (Face K)) → ChangesLive live change → lives (map (λ f. if n == f.number then change f else f) fs) ≡ map (λ t. if n == t.0 then (t.0, t.1, live t.2) else t) (lives fs)
    lives_changed live change [] by_ = refl
    lives_changed live change (f ∷ fs) by_ =
        by_test (n == f.number)
        (λ here.
        let one : ((change f).number, (change f).region, (change f).live) ≡ (f.number, f.region, live f.live) =
        ap (λ (k : ℕ). (k, (change f).region, (change f).live)) (by_.number f) ∙ ap (λ (r : Region). (f.number, r, (change f).live)) (by_.region f) ∙ ap (λ (rows : ById K). (f.number, f.region, rows)) (by_.live_is f) in
        rw here (ap (λ t. t ∷ lives (map (λ f. if n == f.number then change f else f) fs)) one ∙ ap (λ ts. (f.number, f.region, live f.live) ∷ ts) (lives_changed live change fs by_)))
        (λ here. rw here (ap (λ ts. (f.number, f.region, f.live) ∷ ts) (lives_changed live change fs by_)))

    others_changed : (change : Face K → Face K) (fs : List (Face K)) → ((f : Face K) → (change f).number ≡ f.number) → others (map (λ f. if n == f.number then change f else f) fs) ≡ others fs
    others_changed change [] number_ = refl
    others_changed change (f ∷ fs) number_ =
        by_test (n == f.number)
        (λ here. let still : (n == (change f).number) ≡ true = ap (λ k. n == k) (number_ f) ∙ here in rw (here, still) (others_changed change fs number_))
        (λ here. rw here (rw here (ap (λ rest. f ∷ rest) (others_changed change fs number_))))

    lives_same : (change : Face K → Face K) (fs : List (Face K)) → ChangesLive (λ rows. rows) change → lives (map (λ f. if n == f.number then change f else f) fs) ≡ lives fs
    lives_same change fs by_ = lives_changed (λ rows. rows) change fs by_ ∙ map_same (λ t. if n == t.0 then t else t) (lives fs) (each_always (λ t. (if n == t.0 then t else t) ≡ t) (λ t. either (n == t.0) t) (lives fs))
      where
        either : {A : Type 0} (b : Bool) (x : A) → cond b x x ≡ x
        either true x = refl
        either false x = refl

    -- on both sides
    beside_both : (live : ById K → ById K) (change : Face K → Face K) (g h : Rows K) → ChangesLive live change → IsHeardBeside g h → IsHeardBeside (with_face n change g) (with_face n change h)
    unfolding with_face
    beside_both live change g h by_ beside = record {
      moment = beside.moment;
      faces = map (λ f. if n == f.number then change f else f) beside.faces;
      rows = ap (with_face n change) beside.rows;
      lives_are = lives_changed live change beside.faces by_ ∙ ap (map (λ t. if n == t.0 then (t.0, t.1, live t.2) else t)) beside.lives_are ∙ sym (lives_changed live change g.faces by_);
      others_are = others_changed change beside.faces by_.number ∙ beside.others_are ∙ ap (map hears) (sym (others_changed change g.faces by_.number));
    }

    -- on one side, where live rows stay
    beside_left : (change : Face K → Face K) (g h : Rows K) → ChangesLive (λ rows. rows) change → IsHeardBeside g h → IsHeardBeside (with_face n change g) h
    unfolding with_face
    beside_left change g h by_ beside = record {
      moment = beside.moment;
      faces = beside.faces;
      rows = beside.rows;
      lives_are = beside.lives_are ∙ sym (lives_same change g.faces by_);
      others_are = beside.others_are ∙ ap (map hears) (sym (others_changed change g.faces by_.number));
    }

    beside_right : (change : Face K → Face K) (g h : Rows K) → ChangesLive (λ rows. rows) change → IsHeardBeside g h → IsHeardBeside g (with_face n change h)
    unfolding with_face
    beside_right change g h by_ beside = record {
      moment = beside.moment;
      faces = map (λ f. if n == f.number then change f else f) beside.faces;
      rows = ap (with_face n change) beside.rows;
      lives_are = lives_same change beside.faces by_ ∙ beside.lives_are;
      others_are = others_changed change beside.faces by_.number ∙ beside.others_are;
    }

    -- ---- own rows are hidden

    rows_by_lives : (fs : List (Face K)) → flat_map rows_of_face fs ≡ flat_map (λ (t : ℕ × Region × ById K). map (λ row. (t.1, row.1)) t.2) (lives fs)
    rows_by_lives fs = sym (flat_map-map (λ (t : ℕ × Region × ById K). map (λ row. (t.1, row.1)) t.2) (λ (f : Face K). (f.number, f.region, f.live)) fs)

    beside_hiding : (source : Region) (e : K) (g h : Rows K) → IsHeardBeside g h → IsHeardBeside (without_own_rows cmp source e g) (without_own_rows cmp source e h)
    unfolding without_own_rows is_hidden
    beside_hiding source e g h beside = record {
      moment = beside.moment;
      faces = beside.faces;
      rows =
          ap (without_own_rows cmp source e) beside.rows
          ∙ ap (λ (rows : List (RoutedRow K)). record g { routed = rows; faces = beside.faces })
          (filter_alike (λ row. not (zid_eq row.source g.zid && (same cmp e row.expr && is_hidden cmp (record g { faces = beside.faces }) source e row.region))) (λ row. not (zid_eq row.source g.zid && (same cmp e row.expr && is_hidden cmp g source e row.region))) g.routed
          (each_always (λ row. not (zid_eq row.source g.zid && (same cmp e row.expr && is_hidden cmp (record g { faces = beside.faces }) source e row.region)) ≡ not (zid_eq row.source g.zid && (same cmp e row.expr && is_hidden cmp g source e row.region)))
          (λ row. ap (λ b. not (zid_eq row.source g.zid && (same cmp e row.expr && ((hat_of g.mode row.region).goes_by_trees && (not (region_eq row.region source) && not b)))))
          (visible_alike cmp g beside.faces row.region e (rows_by_lives beside.faces ∙ ap (flat_map (λ (t : ℕ × Region × ById K). map (λ row. (t.1, row.1)) t.2)) beside.lives_are ∙ sym (rows_by_lives g.faces)))) g.routed));
      lives_are = beside.lives_are;
      others_are = beside.others_are;
    }

    -- ---- parts

    -- a part that does the same on both sides
    abbrev Follows : Part K → Type 0
    Follows (Alter change) = (g h : Rows K) → IsHeardBeside g h → IsHeardBeside (change g) (change h)
    Follows (Say rule) = Unit {0}

    follow_parts : (ps : List (Part K)) (g h : Rows K) → Each Follows ps → IsHeardBeside g h → IsHeardBeside (altered_by cmp matching ps g) (altered_by cmp matching ps h)
    unfolding altered_by
    follow_parts [] g h follow beside = beside
    follow_parts (Alter change ∷ ps) g h follow beside = follow_parts ps (change g) (change h) follow.1 (follow.0 g h beside)
    follow_parts (Say rule ∷ ps) g h follow beside = follow_parts ps g h follow.1 beside

    ends_live : (id : ℕ) → ChangesLive (λ rows. rows) (ended {K = K} id)
    ends_live id = record { number = λ f. refl; region = λ f. refl; live_is = λ f. refl }

    -- pendings end on one side
    left_ends : (pendings : ById Pending) (g h : Rows K) → IsHeardBeside g h → IsHeardBeside (altered_by cmp matching (flat_map (λ row. ending n row.0) pendings) g) h
    unfolding altered_by
    left_ends [] g h beside = beside
    left_ends (row ∷ rows) g h beside = left_ends rows (with_face n (ended row.0) g) h (beside_left (ended row.0) g h (ends_live row.0) beside)

    right_ends : (pendings : ById Pending) (g h : Rows K) → IsHeardBeside g h → IsHeardBeside g (altered_by cmp matching (flat_map (λ row. ending n row.0) pendings) h)
    unfolding altered_by
    right_ends [] g h beside = beside
    right_ends (row ∷ rows) g h beside = right_ends rows g (with_face n (ended row.0) h) (beside_right (ended row.0) g h (ends_live row.0) beside)

    follow_hiding : (source : Region) (e : K) → Each Follows (hiding cmp source e)
    follow_hiding source e = (tt, (λ g h beside. beside_hiding source e g h beside, tt))

    follow_undeclaring : (id : ℕ) (f : Face K) → Each Follows (undeclaring cmp matching n id None f)
    follow_undeclaring id f = cases (undeclared cmp matching id None f)
      where
        cases : (o : Option K) → Each Follows (elim o [ None ↦ [] | Some e ↦ Alter (with_face n (unregistered id)) ∷ Say (forget cmp matching f.region e) ∷ [] ])
        cases None = tt
        cases (Some e) = ((λ g h beside. beside_both (without_id id) (unregistered id) g h (record { number = λ f. refl; region = λ f. refl; live_is = λ f. refl }) beside), (tt, tt))

    follow_finalising : (id : ℕ) (interest : InterestRow K) → Each Follows (finalising cmp matching n id interest)
    follow_finalising id interest = ((λ g h beside. beside_both (λ rows. rows) (unheld id) g h (record { number = λ f. refl; region = λ f. refl; live_is = λ f. refl }) beside), (tt, (tt, (tt, tt))))

    -- all that a leaving face does before its asks are dropped
    abbrev leaving_first : Face K → List (Part K)
    leaving_first f =
        flat_map (λ row. undeclaring cmp matching n row.0 None f ++ hiding cmp f.region row.1) f.live
        ++ flat_map (λ row. finalising cmp matching n row.0 row.1) f.held

    follow_leaving : (f : Face K) → Each Follows (leaving_first f)
    follow_leaving f =
        each_append Follows (flat_map (λ row. undeclaring cmp matching n row.0 None f ++ hiding cmp f.region row.1) f.live) (flat_map (λ row. finalising cmp matching n row.0 row.1) f.held)
        (each_flat_map Follows (λ row. undeclaring cmp matching n row.0 None f ++ hiding cmp f.region row.1) f.live
        (λ row. each_append Follows (undeclaring cmp matching n row.0 None f) (hiding cmp f.region row.1) (follow_undeclaring row.0 f) (follow_hiding f.region row.1)))
        (each_flat_map Follows (λ row. finalising cmp matching n row.0 row.1) f.held (λ row. follow_finalising row.0 row.1))

    -- two faces that differ at most in what was heard leave the same rows
    beside_leaving : (f : Face K) (next : ℕ) (told : ById K) (locals : ById (InterestRow K)) (pendings : ById Pending) (asks : ById (Ask K)) (g h : Rows K) → IsHeardBeside g h
        → IsHeardBeside (altered_by cmp matching (leaving cmp matching n f) g) (altered_by cmp matching (leaving cmp matching n (record f { told = told; next = next; locals = locals; pendings = pendings; asks = asks })) h)
    unfolding altered_by
    beside_leaving f next told locals pendings asks g h beside =
        let first = leaving_first f in
        let one = follow_parts first g h (follow_leaving f) beside in
        let two = beside_both (λ rows. rows) without_asks (altered_by cmp matching first g) (altered_by cmp matching first h) (record { number = λ f. refl; region = λ f. refl; live_is = λ f. refl }) one in
        let g2 = with_face n without_asks (altered_by cmp matching first g) in
        let h2 = with_face n without_asks (altered_by cmp matching first h) in
        let three = left_ends f.pendings g2 h2 two in
        let four = right_ends pendings (altered_by cmp matching (flat_map (λ row. ending n row.0) f.pendings) g2) h2 three in
        subst (λ (k : Rows K). IsHeardBeside k (altered_by cmp matching (first ++ Alter (with_face n without_asks) ∷ flat_map (λ row. ending n row.0) pendings) h)) (sym (altered_by-append first (Alter (with_face n without_asks) ∷ flat_map (λ row. ending n row.0) f.pendings) g))
        (subst (λ (k : Rows K). IsHeardBeside (altered_by cmp matching (flat_map (λ row. ending n row.0) f.pendings) g2) k) (sym (altered_by-append first (Alter (with_face n without_asks) ∷ flat_map (λ row. ending n row.0) pendings) h)) four)

    -- ---- the face is gone

    beside_gone : (g h : Rows K) → IsHeardBeside g h → without_face n h ≡ (let k = without_face n g in record k { faces = map (λ f. heard_all cmp k.moment (heard_by f.number) f) k.faces })
    beside_gone g h beside =
        ap (without_face n) beside.rows
        ∙ ap (λ (fs : List (Face K)). record g { faces = fs }) beside.others_are
        ∙ ap (λ (m : ℕ). record g { faces = map (λ f. heard_all cmp m (heard_by f.number) f) (others g.faces) }) (sym beside.moment)

    -- ---- the rows at first

    others_heard : (fs : List (Face K)) → others (map hears fs) ≡ map hears (others fs)
    others_heard [] = refl
    others_heard (f ∷ fs) =
        let number_ : (hears f).number ≡ f.number = heard_all-number cmp now (heard_by f.number) f in
        by_test (n == f.number)
        (λ here. let still : (n == (hears f).number) ≡ true = ap (λ k. n == k) number_ ∙ here in rw (here, still) (others_heard fs))
        (λ here. let still : (n == (hears f).number) ≡ false = ap (λ k. n == k) number_ ∙ here in rw (here, still) (ap (λ rest. hears f ∷ rest) (others_heard fs)))

    lives_heard : (fs : List (Face K)) → lives (map hears fs) ≡ lives fs
    lives_heard fs =
        map-map (λ f. (f.number, f.region, f.live)) hears fs
        ∙ map_alike (λ f. ((hears f).number, (hears f).region, (hears f).live)) (λ f. (f.number, f.region, f.live)) fs
        (each_always (λ f. ((hears f).number, (hears f).region, (hears f).live) ≡ (f.number, f.region, f.live))
        (λ f.
        ap (λ (k : ℕ). (k, (hears f).region, (hears f).live)) (heard_all-number cmp now (heard_by f.number) f)
        ∙ ap (λ (r : Region). (f.number, r, (hears f).live)) (heard_all-region cmp now (heard_by f.number) f)
        ∙ ap (λ (rows : ById K). (f.number, f.region, rows)) (heard_all-live cmp now (heard_by f.number) f)) fs)

    beside_first : (g : Rows K) → g.moment ≡ now → IsHeardBeside g (record g { faces = map hears g.faces })
    beside_first g is = record { moment = is; faces = map hears g.faces; rows = refl; lives_are = lives_heard g.faces; others_are = others_heard g.faces }

    pub find_heard : (fs : List (Face K)) → first_where (λ f. n == f.number) (map hears fs) ≡ option_map hears (first_where (λ f. n == f.number) fs)
    find_heard [] = refl
    find_heard (f ∷ fs) =
        let number_ : (hears f).number ≡ f.number = heard_all-number cmp now (heard_by f.number) f in
        by_test (n == f.number)
        (λ here. let still : (n == (hears f).number) ≡ true = ap (λ k. n == k) number_ ∙ here in rw (here, still) refl)
        (λ here. let still : (n == (hears f).number) ≡ false = ap (λ k. n == k) number_ ∙ here in rw (here, still) (find_heard fs))

    -- ---- closing

    closed_parts : (g : Rows K) (f : Face K) → altered_by cmp matching (closing cmp matching n g f) g ≡ without_face n (if is_routed g f then g else altered_by cmp matching (leaving cmp matching n f) g)
    unfolding altered_by
    closed_parts g f = altered_by_last cmp matching (if is_routed g f then [] else unsaid_to n (leaving cmp matching n f)) (without_face n) g ∙ ap (without_face n) (either (is_routed g f))
      where
        either : (b : Bool) → altered_by cmp matching (if b then [] else unsaid_to n (leaving cmp matching n f)) g ≡ (if b then g else altered_by cmp matching (leaving cmp matching n f) g)
        either true = refl
        either false = altered_unsaid n (leaving cmp matching n f) g

    closed_beside : (f : Face K) (g : Rows K) → g.moment ≡ now
        → (let h = record g { faces = map hears g.faces } in let k = altered_by cmp matching (closing cmp matching n g f) g in
        altered_by cmp matching (closing cmp matching n h (hears f)) h ≡ record k { faces = map (λ f. heard_all cmp k.moment (heard_by f.number) f) k.faces })
    closed_beside f g is =
        let h = record g { faces = map hears g.faces } in
        let x = hears f in
        let x_is : x ≡ record f { told = x.told; next = x.next; locals = x.locals; pendings = x.pendings; asks = x.asks } = heard_leaves_rest cmp now (heard_by f.number) f in
        subst (λ y. altered_by cmp matching (closing cmp matching n h y) h ≡ Hears (altered_by cmp matching (closing cmp matching n g f) g)) (sym x_is)
        (subst (λ (k : Rows K). altered_by cmp matching (closing cmp matching n h (record f { told = x.told; next = x.next; locals = x.locals; pendings = x.pendings; asks = x.asks })) h ≡ Hears k) (sym (closed_parts g f))
        (closed_parts h (record f { told = x.told; next = x.next; locals = x.locals; pendings = x.pendings; asks = x.asks })
        ∙ by_test (is_routed g f)
        (λ here. rw here (beside_gone g h (beside_first g is)))
        (λ here. rw here (beside_gone (altered_by cmp matching (leaving cmp matching n f) g) (altered_by cmp matching (leaving cmp matching n (record f { told = x.told; next = x.next; locals = x.locals; pendings = x.pendings; asks = x.asks })) h) (beside_leaving f x.next x.told x.locals x.pendings x.asks g h (beside_first g is))))))
      where
        Hears : Rows K → Rows K
        Hears k = record k { faces = map (λ f. heard_all cmp k.moment (heard_by f.number) f) k.faces }

    none_apart : (g : Rows K) → g.moment ≡ now → (let h = record g { faces = map hears g.faces } in h ≡ record g { faces = map (λ f. heard_all cmp g.moment (heard_by f.number) f) g.faces })
    none_apart g is = ap (λ (m : ℕ). record g { faces = map (λ f. heard_all cmp m (heard_by f.number) f) g.faces }) (sym is)

    -- closing a face and hearing can be exchanged
    pub closing_heard : (g : Rows K) → g.moment ≡ now
        → (let k = altered cmp matching (CloseFace n) g in altered cmp matching (CloseFace n) (record g { faces = map hears g.faces }) ≡ record k { faces = map (λ f. heard_all cmp k.moment (heard_by f.number) f) k.faces })
    unfolding parts_of altered_by
    closing_heard g is = subst (λ o. Gone o (find_face n g)) (sym (find_heard g.faces)) (cases (find_face n g))
      where
        h : Rows K
        h = record g { faces = map hears g.faces }

        Gone : Option (Face K) → Option (Face K) → Type 0
        Gone o p =
            (let k = altered_by cmp matching (elim p [ None ↦ [] | Some f ↦ closing cmp matching n g f ]) g in
            altered_by cmp matching (elim o [ None ↦ [] | Some f ↦ closing cmp matching n h f ]) h ≡ record k { faces = map (λ f. heard_all cmp k.moment (heard_by f.number) f) k.faces })

        cases : (o : Option (Face K)) → Gone (option_map hears o) o
        cases None = none_apart g is
        cases (Some f) = closed_beside f g is
