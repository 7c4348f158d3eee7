-- A call that opens no face tells a face outside router regions only tokens that are admitted to it.
use Rattle.std.proofs.Common.{◌≡◌, ◌⊎◌, inl, inr, ⊎_elim, ℕ, Bool, true, false, not, nat_lt, ◌&&◌, ◌==◌, if◌then◌else◌, List, [], ◌∷◌, ◌++◌, map, filter, Option, Some, None, refl, sym, ap, ◌∙◌, subst}
use Rattle.std.proofs.lemmas.Bool.{and_from, and_parts, or_cases, or_left, or_right}
use Rattle.std.specs.Cmp.{IsTotalOrder}
use Rattle.std.specs.FinMap.Entries.{by_order, put}
use Rattle.std.specs.List.{list_any}
use Rattle.std.specs.Ordering.{nat_cmp}
use Rattle.std.specs.declared.cmp.Ordering.{Ordering}
use Rattle.std.specs.declared.cmp.Ordering.TheVariants.{Less, Equal, Greater}
use Rattle.zt_region.specs.declared.region.Region.{Region}
use Rattle.zt_region.specs.declared.region.Zid.{Zid}
use Rattle.zt_region.specs.Admission.{admits}
use Rattle.zt_region.specs.Region.{region_eq, region_eq-refl, region_eq-same}
use Rattle.zt_protocol.specs.Plain.{PlainCall, NewSession, NewTransport, DeclareToken, UndeclareToken, Interest, InterestFinal, DeclareFinal, CloseFace, Expire, SetTrees, SetEntities}
use Rattle.zt_protocol.specs.declared.messages.Message.{Message}
use Rattle.zt_protocol.specs.declared.messages.Message.TheVariants as message
use Rattle.zt_model.specs.Hearing.{heard_all, messages_for, rows_heard}
use Rattle.zt_model.specs.Lists.{first_where, has_id, is_some_and, same}
use Rattle.zt_model.specs.Refusals.{call_causes, first_cause}
use Rattle.zt_model.specs.Rows.{ById, Face, Rows}
use Rattle.zt_model.specs.Says.{Alter, Part, Say, Sends, answering, declaring, declaring_of, find_face, is_routed, is_told, parts_of, registered, registers, said, said_by, tell_to, to_each, with_face}
use Rattle.zt_model.specs.Seen.{sees}
use Rattle.zt_model.specs.Telling.{answer_to}
use Rattle.zt_model.specs.Transcript.{Each}
use Rattle.zt_model.specs.Trees.{is_newly_shown, pass_to, router_regions, show_to, showing, source_of, with_own_rows, with_routed}
use Rattle.zt_model.specs.Visible.{is_admitted, keeps, live_rows, rows_of_face, routed_rows, shows}
use Rattle.zt_model.specs.Wants.{seeks}
use Rattle.zt_laws.specs.Order.{RowsAreInOrder}
use Rattle.zt_laws.specs.Sound.{RiseFrom, opens_face, rows_after_call}
use Rattle.zt_laws.proofs.Hearing.{each_ruled, heard_all-number, heard_all-region}
use Rattle.zt_laws.proofs.Keys.{same_itself}
use Rattle.zt_laws.proofs.Lists.{by_test, each_always, each_append, each_both, each_filter, each_map, each_weaker, never, of_cond}
use Rattle.zt_laws.proofs.PartsOrder.{each_message_for}
use Rattle.zt_laws.proofs.Seen.{sees_is}
use Rattle.zt_laws.proofs.Visible.{any_live_rows}
use Rattle.zt_theorem_soundness.specs.Ran.{ran}
use Rattle.zt_theorem_soundness.proofs.CallsRun.{call_runs, live_rows_heard, own_rows_leave}
use Rattle.zt_theorem_soundness.proofs.Running.{ran-append}
use Rattle.zt_theorem_soundness.proofs.Showing.{own_rows_same, routed_more}
use Rattle.zt_theorem_soundness.proofs.Tokens.{source_is_other}
use Rattle.zt_theorem_visibility.proofs.Saying.{SaysEach, answering_says, closing_says, declare_final_says, expiry_says, interest_final_says, interest_says, pass_says, said_each, showing_says, table_says, undeclaration_says}
use Rattle.zt_theorem_sparing.proofs.Answering.{finds_itself}
use Rattle.zt_theorem_sparing.proofs.Sparing.{each_for}
use Rattle.zt_theorem_sparing.proofs.Telling.{CallTells, TellsNobody, TellsRight, call_tells}

module _ {K : Type 0} (cmp : K → K → Ordering) (matching : K → K → Bool) where
  -- a token that answers nobody is admitted to the face, outside router regions
  abbrev pub Admitted : Rows K → Face K → Message K → Type 0
  Admitted g f (message.DeclareToken id e None node) = is_routed g f ≡ false → is_admitted cmp g f.region e ≡ true
  Admitted g f m = Unit {0}

  pub nobody_admitted : (g : Rows K) (f : Face K) (m : Message K) → TellsNobody cmp matching m → Admitted g f m
  nobody_admitted g f (message.DeclareToken id e None node) none_ = absurd none_
  nobody_admitted g f (message.DeclareToken id e (Some i) node) none_ = tt
  nobody_admitted g f (message.UndeclareToken id e node) none_ = tt
  nobody_admitted g f (message.DeclareFinal interest) none_ = tt
  nobody_admitted g f (message.Interest id mode options e) none_ = tt
  nobody_admitted g f (message.InterestFinal id) none_ = tt
  nobody_admitted g f (message.DeclareSubscriber id e interest) none_ = tt
  nobody_admitted g f (message.DeclareQueryable id e info interest) none_ = tt

  -- ---- a row that is live

  -- a token of the region is live
  abbrev HasRow : Region → K → Rows K → Type 0
  HasRow source e g = (test : Region × K → Bool) → test (source, e) ≡ true → list_any test (live_rows g) ≡ true

  row_admitted : (total : IsTotalOrder cmp) (source own : Region) (e : K) (g : Rows K) → HasRow source e g → sees own source ≡ true → admits g.refused source own ≡ true → is_admitted cmp g own e ≡ true
  unfolding is_admitted
  row_admitted total source own e g row shown admitted =
      row (λ r. same cmp e r.1 && (shows g.mode own r.0 && admits g.refused r.0 own)) (and_from (same cmp e e) (shows g.mode own source && admits g.refused source own) (same_itself cmp total e) (and_from (shows g.mode own source) (admits g.refused source own) (sym (sees_is g.mode own source) ∙ shown) admitted))

  row_same : (source : Region) (e : K) (g h : Rows K) → live_rows h ≡ live_rows g → HasRow source e g → HasRow source e h
  row_same source e g h live_ row = λ test here. ap (list_any test) live_ ∙ row test here

  -- a row that is put under its id is there
  any_put : (test : Region × K → Bool) (r : Region) (id : ℕ) (e : K) (rows : ById K) → test (r, e) ≡ true → list_any test (map (λ row. (r, row.1)) (put nat_cmp id e rows)) ≡ true
  any_put test r id e [] here = or_left (test (r, e)) false here
  any_put test r id e (row ∷ rows) here =
      elim (nat_cmp id row.0) as (λ o. list_any test (map (λ x. (r, x.1)) (by_order o ((id, e) ∷ row ∷ rows) ((row.0, e) ∷ rows) (row ∷ put nat_cmp id e rows))) ≡ true) [
        | Less ↦ or_left (test (r, e)) _ here
        | Equal ↦ or_left (test (r, e)) _ here
        | Greater ↦ or_right (test (r, row.1)) _ (any_put test r id e rows here)
      ]

  -- a face of the number stands in the region
  abbrev stands_in : ℕ → Region → List (Face K) → Bool
  stands_in n r fs = list_any (λ x. (n == x.number) && region_eq x.region r) fs

  any_registered : (test : Region × K → Bool) (n id : ℕ) (r : Region) (e : K) (fs : List (Face K)) → test (r, e) ≡ true → stands_in n r fs ≡ true
      → list_any (λ f. list_any test (rows_of_face f)) (map (λ f. if n == f.number then registered id e f else f) fs) ≡ true
  any_registered test n id r e [] here there = never there refl
  any_registered test n id r e (x ∷ fs) here there =
      ⊎_elim
      (λ own.
      let both = and_parts (n == x.number) (region_eq x.region r) own in
      let one : list_any test (rows_of_face (registered id e x)) ≡ true = any_put test x.region id e x.live (ap (λ s. test (s, e)) (region_eq-same x.region r both.1) ∙ here) in
      or_left _ _ (ap (λ b. (let k : Face K = if b then registered id e x else x in list_any test (rows_of_face k))) both.0 ∙ one))
      (λ later. or_right _ _ (any_registered test n id r e fs here later))
      (or_cases ((n == x.number) && region_eq x.region r) (stands_in n r fs) there)

  row_registered : (n id : ℕ) (r : Region) (e : K) (g : Rows K) → stands_in n r g.faces ≡ true → HasRow r e (with_face n (registered id e) g)
  unfolding with_face
  row_registered n id r e g there = λ test here.
      let fs = map (λ f. if n == f.number then registered id e f else f) g.faces in
      any_live_rows test g fs ∙ or_left (list_any (λ f. list_any test (rows_of_face f)) fs) (list_any test (routed_rows g)) (any_registered test n id r e g.faces here there)

  stands_heard : (n : ℕ) (r : Region) (ss : Sends K) (g : Rows K) → stands_in n r g.faces ≡ true → stands_in n r (rows_heard cmp ss g).faces ≡ true
  unfolding rows_heard
  stands_heard n r ss g there = still g.faces there
    where
      hears : Face K → Face K
      hears f = heard_all cmp g.moment (messages_for f.number ss) f

      still : (fs : List (Face K)) → stands_in n r fs ≡ true → stands_in n r (map hears fs) ≡ true
      still [] there_ = there_
      still (x ∷ fs) there_ =
          let same_ : ((n == (hears x).number) && region_eq (hears x).region r) ≡ ((n == x.number) && region_eq x.region r) =
          ap (λ k. (n == k) && region_eq (hears x).region r) (heard_all-number cmp g.moment (messages_for x.number ss) x) ∙ ap (λ s. (n == x.number) && region_eq s r) (heard_all-region cmp g.moment (messages_for x.number ss) x) in
          ⊎_elim (λ own. or_left _ _ (same_ ∙ own)) (λ later. or_right _ _ (still fs later)) (or_cases ((n == x.number) && region_eq x.region r) (stands_in n r fs) there_)

  found_stands : (n : ℕ) (fs : List (Face K)) (f : Face K) → first_where (λ x. n == x.number) fs ≡ Some f → stands_in n f.region fs ≡ true
  found_stands n [] f found = cc
  found_stands n (x ∷ fs) f found =
      by_test (n == x.number)
      (λ here.
      let e : Some x ≡ Some f = rw here at found in
      let is : x ≡ f = cc in
      or_left _ _ (and_from (n == x.number) (region_eq x.region f.region) here (ap (λ (k : Face K). region_eq k.region f.region) is ∙ region_eq-refl f.region)))
      (λ here. or_right _ _ (found_stands n fs f (rw here at found)))

  -- ---- what is told of a region

  -- messages that tell under the id 0 alone
  abbrev TellsZero : Message K → Type 0
  TellsZero (message.DeclareToken id e None node) = id ≡ 0
  TellsZero m = Unit {0}

  -- such a message tells nobody outside router regions
  zero_admitted : (g : Rows K) (f : Face K) (m : Message K) → TellsZero m → TellsRight cmp matching g f m → Admitted g f m
  zero_admitted g f (message.DeclareToken id e None node) zero_ right = λ plain. let real : nat_lt 0 0 ≡ true = ap (nat_lt 0) (sym zero_) ∙ (right plain).0 in never real refl
  zero_admitted g f (message.DeclareToken id e (Some i) node) zero_ right = tt
  zero_admitted g f (message.UndeclareToken id e node) zero_ right = tt
  zero_admitted g f (message.DeclareFinal interest) zero_ right = tt
  zero_admitted g f (message.Interest id mode options e) zero_ right = tt
  zero_admitted g f (message.InterestFinal id) zero_ right = tt
  zero_admitted g f (message.DeclareSubscriber id e interest) zero_ right = tt
  zero_admitted g f (message.DeclareQueryable id e info interest) zero_ right = tt

  module _ (g0 : Rows K) (source : Region) (e : K) where
    -- the region is shown and admitted to the face of the number
    abbrev reaches : ℕ → Bool
    reaches n = is_some_and (find_face n g0) (λ x. sees x.region source && admits g0.refused source x.region)

    -- under a real id the expression alone is told, and only to whom it may be
    abbrev TellsIt : ℕ → Message K → Type 0
    TellsIt n (message.DeclareToken id x None node) = (id ≡ 0) ⊎ ((x ≡ e) × (reaches n ≡ true))
    TellsIt n m = Unit {0}

    zero_tells : (n : ℕ) (m : Message K) → TellsZero m → TellsIt n m
    zero_tells n (message.DeclareToken id x None node) zero_ = inl zero_
    zero_tells n (message.DeclareToken id x (Some i) node) zero_ = tt
    zero_tells n (message.UndeclareToken id x node) zero_ = tt
    zero_tells n (message.DeclareFinal interest) zero_ = tt
    zero_tells n (message.Interest id mode options x) zero_ = tt
    zero_tells n (message.InterestFinal id) zero_ = tt
    zero_tells n (message.DeclareSubscriber id x interest) zero_ = tt
    zero_tells n (message.DeclareQueryable id x info interest) zero_ = tt

    -- each face was there, in its region
    record Is (g : Rows K) : Type 0 where
      refused : g.refused ≡ g0.refused
      faces : Each (λ f. is_some_and (find_face f.number g0) (λ x. region_eq x.region f.region) ≡ true) g.faces

    is_start : RiseFrom (λ f. f.number) 1 g0.faces → Is g0
    is_start up = record {
      refused = refl;
      faces = each_weaker (λ f. find_face f.number g0 ≡ Some f) (λ f. is_some_and (find_face f.number g0) (λ x. region_eq x.region f.region) ≡ true) (λ f found. ap (λ (o : Option (Face K)). is_some_and o (λ x. region_eq x.region f.region)) found ∙ region_eq-refl f.region) g0.faces (finds_itself 1 g0.faces up);
    }

    is_mapped : (g h : Rows K) (change : Face K → Face K) → h.refused ≡ g.refused → h.faces ≡ map change g.faces → ((f : Face K) → (change f).number ≡ f.number) → ((f : Face K) → (change f).region ≡ f.region) → Is g → Is h
    is_mapped g h change refused_ faces_ number_ region_ is = record {
      refused = refused_ ∙ is.refused;
      faces = subst (Each (λ f. is_some_and (find_face f.number g0) (λ x. region_eq x.region f.region) ≡ true)) (sym faces_)
          (each_map (λ f. is_some_and (find_face f.number g0) (λ x. region_eq x.region f.region) ≡ true) change g.faces
          (each_weaker (λ f. is_some_and (find_face f.number g0) (λ x. region_eq x.region f.region) ≡ true) (λ f. is_some_and (find_face (change f).number g0) (λ x. region_eq x.region (change f).region) ≡ true)
          (λ f one. ap (λ n. is_some_and (find_face n g0) (λ x. region_eq x.region (change f).region)) (number_ f) ∙ ap (λ (r : Region). is_some_and (find_face f.number g0) (λ x. region_eq x.region r)) (region_ f) ∙ one) g.faces is.faces));
    }

    is_heard : (ss : Sends K) (g : Rows K) → Is g → Is (rows_heard cmp ss g)
    unfolding rows_heard
    is_heard ss g is = is_mapped g (rows_heard cmp ss g) (λ f. heard_all cmp g.moment (messages_for f.number ss) f) refl refl (λ f. heard_all-number cmp g.moment (messages_for f.number ss) f) (λ f. heard_all-region cmp g.moment (messages_for f.number ss) f) is

    is_same : (g h : Rows K) → h.refused ≡ g.refused → h.faces ≡ g.faces → Is g → Is h
    is_same g h refused_ faces_ is = record { refused = refused_ ∙ is.refused; faces = subst (Each (λ f. is_some_and (find_face f.number g0) (λ x. region_eq x.region f.region) ≡ true)) (sym faces_) is.faces }

    abbrev PartIs : Part K → Type 0
    PartIs (Alter change) = (g : Rows K) → Is g → Is (change g)
    PartIs (Say rule) = (g : Rows K) → Is g → Each (λ s. TellsIt s.0 s.1) (rule g)

    said_it : (parts : List (Part K)) (g : Rows K) → Each PartIs parts → Is g → Each (λ s. TellsIt s.0 s.1) (said_by cmp matching parts g)
    unfolding said_by
    said_it [] g tells is = tt
    said_it (Alter change ∷ parts) g tells is = said_it parts (change g) tells.1 (tells.0 g is)
    said_it (Say rule ∷ parts) g tells is =
        let h = rows_heard cmp (rule g) g in
        each_append (λ s. TellsIt s.0 s.1) (rule g) (said_by cmp matching parts h) (tells.0 g is) (said_it parts h tells.1 (is_heard (rule g) g is))

    ran_is : (parts : List (Part K)) (g : Rows K) → Each PartIs parts → Is g → Is (ran cmp parts g)
    unfolding ran
    ran_is [] g tells is = is
    ran_is (Alter change ∷ parts) g tells is = ran_is parts (change g) tells.1 (tells.0 g is)
    ran_is (Say rule ∷ parts) g tells is = ran_is parts (rows_heard cmp (rule g) g) tells.1 (is_heard (rule g) g is)

    zero_says : (rule : Rows K → Sends K) → ((g : Rows K) → Each (λ s. TellsZero s.1) (rule g)) → PartIs (Say rule)
    zero_says rule zero_ = λ g is. each_weaker (λ s. TellsZero s.1) (λ s. TellsIt s.0 s.1) (λ s one. zero_tells s.0 s.1 one) (rule g) (zero_ g)

    -- the face of the number is the one that was there
    reaches_is : (g : Rows K) (f : Face K) → Is g → is_some_and (find_face f.number g0) (λ x. region_eq x.region f.region) ≡ true → sees f.region source ≡ true → admits g.refused source f.region ≡ true → reaches f.number ≡ true
    reaches_is g f is there shown admitted = cases (find_face f.number g0) there
      where
        cases : (o : Option (Face K)) → is_some_and o (λ x. region_eq x.region f.region) ≡ true → is_some_and o (λ x. sees x.region source && admits g0.refused source x.region) ≡ true
        cases None there_ = never there_ refl
        cases (Some x) there_ =
            ap (λ (r : Region). sees r source && admits g0.refused source r) (region_eq-same x.region f.region there_)
            ∙ and_from (sees f.region source) (admits g0.refused source f.region) shown (ap (λ (pairs : List (Region × Region)). admits pairs source f.region) (sym is.refused) ∙ admitted)

    tells_it : PartIs (Say (λ g. to_each (tell_to cmp matching g source e) g.faces))
    unfolding tell_to to_each
    tells_it = λ g is. all g is g.faces is.faces
      where
        one : (g : Rows K) → Is g → (f : Face K) → is_some_and (find_face f.number g0) (λ x. region_eq x.region f.region) ≡ true → Each (λ m. TellsIt f.number m) (tell_to cmp matching g source e f)
        one g is f there =
            of_cond (Each (λ m. TellsIt f.number m)) (is_told cmp matching g source e f) (message.DeclareToken f.next e None 0 ∷ []) []
            (λ told.
            let a = and_parts (not (is_routed g f)) (admits g.refused source f.region && shows g.mode f.region source && not (keeps cmp f e) && seeks matching g.mode f e) told in
            let b = and_parts (admits g.refused source f.region && shows g.mode f.region source && not (keeps cmp f e)) (seeks matching g.mode f e) a.1 in
            let c = and_parts (admits g.refused source f.region && shows g.mode f.region source) (not (keeps cmp f e)) b.0 in
            let d = and_parts (admits g.refused source f.region) (shows g.mode f.region source) c.0 in
            (inr (refl, reaches_is g f is there (sees_is g.mode f.region source ∙ d.1) d.0), tt))
            (λ _. tt)

        all : (g : Rows K) → Is g → (fs : List (Face K)) → Each (λ f. is_some_and (find_face f.number g0) (λ x. region_eq x.region f.region) ≡ true) fs → Each (λ s. TellsIt s.0 s.1) (to_each (tell_to cmp matching g source e) fs)
        all g is [] there = tt
        all g is (f ∷ fs) there = each_append (λ s. TellsIt s.0 s.1) (map (λ m. (f.number, m)) (tell_to cmp matching g source e f)) (to_each (tell_to cmp matching g source e) fs) (each_map (λ s. TellsIt s.0 s.1) (λ m. (f.number, m)) (tell_to cmp matching g source e f) (one g is f there.0)) (all g is fs there.1)

    shown_is : Each PartIs (showing cmp source e)
    shown_is = (
      zero_says (λ g. to_each (show_to cmp g source e) g.faces) (showing_says cmp matching TellsZero (λ x k. refl) source e).0,
      (
        (λ g is.
            let rs = filter (is_newly_shown cmp g source e) (router_regions g) in
            is_same g (with_own_rows cmp rs e g) (own_rows_leave cmp (λ (k : Rows K). k.refused) (λ k rows. refl) rs e g) (own_rows_leave cmp (λ (k : Rows K). k.faces) (λ k rows. refl) rs e g) is),
        tt,
      ),
    )

    registered_is : (n id : ℕ) → PartIs (Alter (with_face n (registered id e)))
    unfolding with_face
    registered_is n id = λ g is.
        is_mapped g (with_face n (registered id e) g) (λ f. if n == f.number then registered id e f else f) refl refl
        (λ f. of_cond (λ (k : Face K). k.number ≡ f.number) (n == f.number) (registered id e f) f (λ _. refl) (λ _. refl)) (λ f. of_cond (λ (k : Face K). k.region ≡ f.region) (n == f.number) (registered id e f) f (λ _. refl) (λ _. refl)) is

    answered_is : (n : ℕ) (interest : Option ℕ) (f : Face K) → Each PartIs (answering cmp matching n interest e f)
    answered_is n None f = tt
    answered_is n (Some i) f =
        by_test (has_id i f.pendings)
        (λ here. let says = answering_says cmp matching TellsZero (λ k x j. tt) n (Some i) e f in rw here (zero_says (λ h. to_each (answer_to cmp matching n i e) h.faces) (rw here at says).0, tt))
        (λ here. rw here tt)

    routed_is : (n : ℕ) (zid : Zid) (f : Face K) → f.region ≡ source → Each PartIs (declaring_of cmp matching n (Some zid) e f)
    unfolding with_routed
    routed_is n zid f here =
        subst (λ (r : Region). Each PartIs (declaring_of cmp matching n (Some zid) e (record f { region = r }))) (sym here) (
          λ g is. is_same g (with_routed cmp source zid e g) refl refl is,
          (
            (λ g is.
                let ss = to_each (pass_to cmp g source zid e) g.faces in
                each_weaker (λ s. TellsZero s.1) (λ s. TellsIt s.0 s.1) (λ s one. zero_tells s.0 s.1 one) (filter (λ s. not (n == s.0)) ss) (each_filter (λ s. TellsZero s.1) (λ s. not (n == s.0)) ss (each_ruled TellsZero (pass_to cmp g source zid e) g.faces (pass_says cmp matching TellsZero (λ x k. refl) g source zid e)))),
            (tells_it, shown_is),
          ),
        )

    -- what is told so is admitted, where the token is live
    it_admitted : (total : IsTotalOrder cmp) (h : Rows K) (f : Face K) (m : Message K) → HasRow source e h → Is h → is_some_and (find_face f.number g0) (λ x. region_eq x.region f.region) ≡ true → TellsRight cmp matching h f m → TellsIt f.number m → Admitted h f m
    it_admitted total h f (message.DeclareToken id x None node) row is there right tells =
        λ plain.
        ⊎_elim
        (λ zero_. let real : nat_lt 0 0 ≡ true = ap (nat_lt 0) (sym zero_) ∙ (right plain).0 in never real refl)
        (λ both. ap (is_admitted cmp h f.region) both.0 ∙ cases (find_face f.number g0) there both.1) tells
      where
        cases : (o : Option (Face K)) → is_some_and o (λ x. region_eq x.region f.region) ≡ true → is_some_and o (λ x. sees x.region source && admits g0.refused source x.region) ≡ true → is_admitted cmp h f.region e ≡ true
        cases None there_ reached = never there_ refl
        cases (Some y) there_ reached =
            let parts = and_parts (sees y.region source) (admits g0.refused source y.region) reached in
            let region_ : y.region ≡ f.region = region_eq-same y.region f.region there_ in
            row_admitted total source f.region e h row (ap (λ (r : Region). sees r source) (sym region_) ∙ parts.0) (ap (λ (pairs : List (Region × Region)). admits pairs source f.region) is.refused ∙ ap (λ (r : Region). admits g0.refused source r) (sym region_) ∙ parts.1)
    it_admitted total h f (message.DeclareToken id x (Some i) node) row is there right tells = tt
    it_admitted total h f (message.UndeclareToken id x node) row is there right tells = tt
    it_admitted total h f (message.DeclareFinal interest) row is there right tells = tt
    it_admitted total h f (message.Interest id mode options x) row is there right tells = tt
    it_admitted total h f (message.InterestFinal id) row is there right tells = tt
    it_admitted total h f (message.DeclareSubscriber id x interest) row is there right tells = tt
    it_admitted total h f (message.DeclareQueryable id x info interest) row is there right tells = tt

  -- ---- calls

  -- what a call tells faces is admitted to them, once it is done
  abbrev pub CallAdmits : PlainCall K → Rows K → Type 0
  CallAdmits c g = (let h = rows_after_call cmp matching c g in Each (λ f. Each (Admitted h f) (messages_for f.number (said cmp matching c g))) h.faces)

  none_told : (c : PlainCall K) (g : Rows K) → Each (λ s. TellsNobody cmp matching s.1) (said cmp matching c g) → CallAdmits c g
  none_told c g none_ =
      let h = rows_after_call cmp matching c g in
      each_always (λ f. Each (Admitted h f) (messages_for f.number (said cmp matching c g))) (λ f. each_weaker (TellsNobody cmp matching) (Admitted h f) (λ m one. nobody_admitted h f m one) (messages_for f.number (said cmp matching c g)) (each_message_for cmp (TellsNobody cmp matching) f.number (said cmp matching c g) none_)) h.faces

  module _ (total : IsTotalOrder cmp) (equal_is_same : (a b : K) → cmp a b ≡ Equal → a ≡ b) where
    -- a call whose parts tell of one region
    by_parts : (c : PlainCall K) (g : Rows K) (source : Region) (e : K) → Each (PartIs g source e) (parts_of cmp matching c g) → RowsAreInOrder cmp matching g → HasRow source e (ran cmp (parts_of cmp matching c g) g) → CallTells cmp matching c g → CallAdmits c g
    by_parts c g source e tells ordered row right =
        let h = rows_after_call cmp matching c g in
        let ss = said cmp matching c g in
        let start = is_start g source e ordered.lists.faces_rise in
        let is : Is g source e h = subst (Is g source e) (sym (call_runs cmp matching c g)) (ran_is g source e (parts_of cmp matching c g) g tells start) in
        let row_ : HasRow source e h = subst (HasRow source e) (sym (call_runs cmp matching c g)) row in
        let all = said_it g source e (parts_of cmp matching c g) g tells start in
        each_both (λ f. Each (TellsRight cmp matching h f) (messages_for f.number ss)) (λ f. is_some_and (find_face f.number g) (λ x. region_eq x.region f.region) ≡ true) (λ f. Each (Admitted h f) (messages_for f.number ss))
        (λ f right_ there. each_both (TellsRight cmp matching h f) (TellsIt g source e f.number) (Admitted h f) (λ m one two. it_admitted g source e total h f m row_ is there one two) (messages_for f.number ss) right_ (each_for cmp matching (TellsIt g source e) f.number ss all)) h.faces right is.faces

    -- the row is still there when it was told and shown
    row_told : (source : Region) (e : K) (g : Rows K) → HasRow source e g → HasRow source e (ran cmp (Say (λ h. to_each (tell_to cmp matching h source e) h.faces) ∷ showing cmp source e) g)
    unfolding ran
    row_told source e g row =
        let ss1 = to_each (tell_to cmp matching g source e) g.faces in
        let g1 = rows_heard cmp ss1 g in
        let ss2 = to_each (show_to cmp g1 source e) g1.faces in
        let g2 = rows_heard cmp ss2 g1 in
        let rs = filter (is_newly_shown cmp g2 source e) (router_regions g2) in
        row_same source e g (with_own_rows cmp rs e g2) ((own_rows_same cmp rs e g2).live ∙ live_rows_heard cmp ss2 g1 ∙ live_rows_heard cmp ss1 g) row

    stands_answered : (n : ℕ) (interest : Option ℕ) (e : K) (f : Face K) (r : Region) (g : Rows K) → stands_in n r g.faces ≡ true → stands_in n r (ran cmp (answering cmp matching n interest e f) g).faces ≡ true
    unfolding ran
    stands_answered n None e f r g there = there
    stands_answered n (Some i) e f r g there =
        of_cond (λ (parts : List (Part K)). stands_in n r (ran cmp parts g).faces ≡ true) (has_id i f.pendings) (Say (λ h. to_each (answer_to cmp matching n i e) h.faces) ∷ []) []
        (λ _. stands_heard n r (to_each (answer_to cmp matching n i e) g.faces) g there) (λ _. there)

    declaration_admits : (n id node : ℕ) (e : K) (interest : Option ℕ) (g : Rows K) → RowsAreInOrder cmp matching g → CallTells cmp matching (DeclareToken n id e node interest) g → CallAdmits (DeclareToken n id e node interest) g
    unfolding parts_of ran said_by
    declaration_admits n id node e interest g ordered right = by_face (find_face n g) refl
      where
        c : PlainCall K
        c = DeclareToken n id e node interest

        plain : Face K → List (Part K)
        plain f = if registers f interest then declaring cmp matching n id e f ++ showing cmp f.region e else []

        of_face : Option (Face K) → List (Part K)
        of_face o = elim o [ None ↦ [] | Some f ↦ if is_routed g f then declaring_of cmp matching n (source_of g f node) e f else answering cmp matching n interest e f ++ plain f ]

        parts_are : (o : Option (Face K)) → find_face n g ≡ o → parts_of cmp matching c g ≡ of_face o
        parts_are o found = ap of_face found

        by_list : (f : Face K) (parts : List (Part K)) → parts_of cmp matching c g ≡ parts → Each (PartIs g f.region e) parts → HasRow f.region e (ran cmp parts g) → CallAdmits c g
        by_list f parts is tells row = by_parts c g f.region e (subst (Each (PartIs g f.region e)) (sym is) tells) ordered (subst (λ ps. HasRow f.region e (ran cmp ps g)) (sym is) row) right

        nobody : (parts : List (Part K)) → parts_of cmp matching c g ≡ parts → Each (λ s. TellsNobody cmp matching s.1) (said_by cmp matching parts g) → CallAdmits c g
        nobody parts is none_ = none_told c g (subst (λ ps. Each (λ s. TellsNobody cmp matching s.1) (said_by cmp matching ps g)) (sym is) none_)

        by_source : (f : Face K) (o : Option Zid) → source_of g f node ≡ o → parts_of cmp matching c g ≡ declaring_of cmp matching n o e f → CallAdmits c g
        by_source f None known is = nobody [] is tt
        by_source f (Some zid) known is =
            by_list f (declaring_of cmp matching n (Some zid) e f) is (routed_is g f.region e n zid f refl)
            (let k = with_routed cmp f.region zid e g in
            let ss = filter (λ s. not (n == s.0)) (to_each (pass_to cmp k f.region zid e) k.faces) in
            row_told f.region e (rows_heard cmp ss k)
            (row_same f.region e k (rows_heard cmp ss k) (live_rows_heard cmp ss k) (λ test here. (routed_more cmp equal_is_same f.region zid e g (source_is_other g f node zid known)).rows test ∙ or_right (list_any test (live_rows g)) (test (f.region, e)) here)))

        by_plain : (f : Face K) → find_face n g ≡ Some f → parts_of cmp matching c g ≡ answering cmp matching n interest e f ++ plain f → CallAdmits c g
        by_plain f found is =
            by_test (registers f interest)
            (λ here.
            let h = ran cmp (answering cmp matching n interest e f) g in
            let told : List (Part K) = declaring cmp matching n id e f ++ showing cmp f.region e in
            by_list f (answering cmp matching n interest e f ++ told) (is ∙ ap (λ b. answering cmp matching n interest e f ++ (if b then told else [])) here)
            (each_append (PartIs g f.region e) (answering cmp matching n interest e f) told (answered_is g f.region e n interest f) (registered_is g f.region e n id, (tells_it g f.region e, shown_is g f.region e)))
            (subst (HasRow f.region e) (sym (ran-append cmp (answering cmp matching n interest e f) told g))
            (row_told f.region e (with_face n (registered id e) h) (row_registered n id f.region e h (stands_answered n interest e f f.region g (found_stands n g.faces f found))))))
            (λ here.
            nobody (answering cmp matching n interest e f ++ []) (is ∙ ap (λ b. answering cmp matching n interest e f ++ (if b then declaring cmp matching n id e f ++ showing cmp f.region e else [])) here)
            (said_each cmp matching (TellsNobody cmp matching) (answering cmp matching n interest e f ++ []) g (each_append (SaysEach cmp matching (TellsNobody cmp matching)) (answering cmp matching n interest e f) [] (answering_says cmp matching (TellsNobody cmp matching) (λ k x i. tt) n interest e f) tt)))

        by_face : (o : Option (Face K)) → find_face n g ≡ o → CallAdmits c g
        by_face None found = nobody [] (parts_are None found) tt
        by_face (Some f) found =
            by_test (is_routed g f)
            (λ routed. by_source f (source_of g f node) refl (parts_are (Some f) found ∙ ap (λ b. if b then declaring_of cmp matching n (source_of g f node) e f else answering cmp matching n interest e f ++ plain f) routed))
            (λ routed. by_plain f found (parts_are (Some f) found ∙ ap (λ b. if b then declaring_of cmp matching n (source_of g f node) e f else answering cmp matching n interest e f ++ plain f) routed))

    zero_told : (c : PlainCall K) (g : Rows K) → Each (λ s. TellsZero s.1) (said cmp matching c g) → CallTells cmp matching c g → CallAdmits c g
    zero_told c g zero_ right =
        let h = rows_after_call cmp matching c g in
        let ss = said cmp matching c g in
        each_weaker (λ f. Each (TellsRight cmp matching h f) (messages_for f.number ss)) (λ f. Each (Admitted h f) (messages_for f.number ss))
        (λ f right_. each_both TellsZero (TellsRight cmp matching h f) (Admitted h f) (λ m one two. zero_admitted h f m one two) (messages_for f.number ss) (each_message_for cmp TellsZero f.number ss zero_) right_) h.faces right

    -- What a call tells is admitted.
    pub call_admits : (spent : Bool) (c : PlainCall K) (g : Rows K) → opens_face c ≡ false → first_cause (call_causes cmp matching spent c g) ≡ None → RowsAreInOrder cmp matching g → CallAdmits c g
    unfolding parts_of said_by
    call_admits spent (NewSession first) g still accepted ordered = never refl still
    call_admits spent (NewTransport zid whatami region bound first) g still accepted ordered = never refl still
    call_admits spent (DeclareToken n id e node interest) g still accepted ordered = declaration_admits n id node e interest g ordered (call_tells cmp matching spent (DeclareToken n id e node interest) g still accepted ordered)
    call_admits spent (UndeclareToken n id given node) g still accepted ordered = none_told (UndeclareToken n id given node) g (undeclaration_says cmp matching (TellsNobody cmp matching) (λ k. tt) (λ e k. tt) n id node given g)
    call_admits spent (Interest n id mode options e) g still accepted ordered = none_told (Interest n id mode options e) g (interest_says cmp matching (TellsNobody cmp matching) (λ k m o x. tt) (λ k x i. tt) (λ k x info i. tt) (λ k x i. tt) (λ k. tt) n id mode options e g)
    call_admits spent (InterestFinal n id) g still accepted ordered = none_told (InterestFinal n id) g (interest_final_says cmp matching (TellsNobody cmp matching) (λ k. tt) (λ k. tt) (λ k. tt) n id g)
    call_admits spent (DeclareFinal n id) g still accepted ordered = none_told (DeclareFinal n id) g (declare_final_says cmp matching (TellsNobody cmp matching) (λ k. tt) n id g)
    call_admits spent (CloseFace n) g still accepted ordered = none_told (CloseFace n) g (closing_says cmp matching (TellsNobody cmp matching) (λ k. tt) (λ e k. tt) (λ k. tt) (λ k. tt) n g)
    call_admits spent (Expire now) g still accepted ordered = none_told (Expire now) g (expiry_says cmp matching (TellsNobody cmp matching) (λ k. tt) now g)
    call_admits spent (SetTrees region t) g still accepted ordered = zero_told (SetTrees region t) g (table_says cmp matching TellsZero (λ k. tt) (λ e k. tt) (λ e k. refl) region t g) (call_tells cmp matching spent (SetTrees region t) g still accepted ordered)
    call_admits spent (SetEntities n subscribers queryables) g still accepted ordered = none_told (SetEntities n subscribers queryables) g tt
