-- What a call comes to at a face of a tree: what the call itself changes of it, and that what it is sent then is said well.
use Rattle.std.proofs.Common.{◌≡◌, ◌≢◌, ℕ, ◌+◌, Bool, true, false, if◌then◌else◌, ◌&&◌, ◌||◌, ◌==◌, not, List, [], ◌∷◌, ◌++◌, map, filter, Option, Some, None, refl, sym, ap, ◌∙◌, subst, eq-eqb, ne_eqb, arith}
use Rattle.std.proofs.lemmas.Bool.{and_from, or_left, or_right}
use Rattle.std.specs.FinMap.Entries.{by_order, put}
use Rattle.std.proofs.lemmas.Cmp.{ranked}
use Rattle.std.specs.List.{flat_map, list_any}
use Rattle.std.specs.Option.{option_to_list}
use Rattle.std.specs.Ordering.{nat_cmp}
use Rattle.std.specs.declared.cmp.Ordering.{Ordering}
use Rattle.std.specs.declared.cmp.Ordering.TheVariants.{Less, Equal, Greater}
use Rattle.zt_region.specs.declared.region.Region.{Region}
use Rattle.zt_region.specs.declared.region.WhatAmI.TheVariants.{Client}
use Rattle.zt_region.specs.Region.{is_north}
use Rattle.zt_protocol.specs.Interest.{has_aggregate, has_queryables, has_subscribers, is_current, is_future}
use Rattle.zt_protocol.specs.declared.interests.InterestMode.{InterestMode}
use Rattle.zt_protocol.specs.declared.interests.InterestOptions.{InterestOptions}
use Rattle.zt_protocol.specs.Plain.{PlainCall, DeclareToken, UndeclareToken, Interest, InterestFinal, DeclareFinal, CloseFace, Expire, SetTrees, SetEntities, Trees}
use Rattle.zt_protocol.specs.declared.messages.Message.{Message}
use Rattle.zt_protocol.specs.declared.messages.Message.TheVariants as message
use Rattle.zt_protocol.specs.declared.messages.QueryableInfo.{QueryableInfo}
use Rattle.zt_model.specs.Entities.{aggregate_of, all_merged, entities_for, info_of, matching_queryables, matching_subscribers, numbered_by, queryable_of, queryables_for, subscriber_of, subscribers_for, with_numbers}
use Rattle.zt_model.specs.Hat.{hat_of}
use Rattle.zt_model.specs.Hearing.{heard_all, messages_for, rows_heard}
use Rattle.zt_model.specs.Lists.{at_id, first_of, first_where, has_id, in_key_order}
use Rattle.zt_model.specs.Parts.{Alter, Part, Say, Sends, altered_by, find_face, is_routed, said_by, to_each, to_face, with_face}
use Rattle.zt_model.specs.Routing.{asked_as, ended, finalising, finishing, initial_finalised, is_asked, is_target, route_to, sent_as, unheld}
use Rattle.zt_model.specs.Rows.{Ask, ById, Face, InterestRow, Rows}
use Rattle.zt_model.specs.Says.{altered, answers_of, asking, forget, declaring_of, finalising_held, final_of, hiding_undeclared, parts_of, row_of, said, undeclaring_of}
use Rattle.zt_model.specs.Telling.{answering, declaring, registered, registers, undeclared, undeclaring, unregistered}
use Rattle.zt_model.specs.Transcript.{Each}
use Rattle.zt_model.specs.Trees.{hiding, is_newly_shown, router_regions, showing, source_of, with_own_rows, with_routed, without_own_rows}
use Rattle.zt_model.specs.Wants.{kept_options}
use Rattle.zt_model.proofs.Hats.{asked_north}
use Rattle.zt_laws.proofs.Hearing.{find_each, messages_for-append, messages_for_own}
use Rattle.zt_laws.proofs.Lists.{by_test, each_always, each_append, each_map, never, of_cond}
use Rattle.zt_laws.proofs.PartsOrder.{each_flat_map}
use Rattle.zt_theorem_tree_invariant.specs.Facts.{IsTreeFace, tokens_after}
use Rattle.zt_theorem_tree_invariant.proofs.Calls.{close_fine, declare_fine, entities_fine, expire_fine, final_fine, finish_fine, trees_fine, undeclare_fine}
use Rattle.zt_theorem_tree_invariant.proofs.Knowledge.{is_no_router}
use Rattle.zt_theorem_tree_invariant.proofs.Parts.{Good, Inside, still_inside}
use Rattle.zt_theorem_tree_invariant.proofs.Rules.{answers_of_well, final_well, kept_twice, own_mode, route_well}
use Rattle.zt_theorem_tree_invariant.proofs.Saying.{IsReal, SaidWell, TreeRows, asks_after, find_heard_at, well_append}
use Rattle.zt_theorem_tree_invariant.proofs.Tracking.{SameEar, Unmoved, altered_to, ear_itself, ear_trans, find_with_face, said_well, sent_each, sent_face, unmoved_ear, unmoved_itself, unmoved_trans}

pub ended_unmoved : {K : Type 0} (id : ℕ) (f : Face K) → Unmoved f (ended id f)
ended_unmoved id f = record { region = refl; live = refl; told = refl; next = refl; held = refl; locals = refl; asks = refl; stays = λ row. not (id == row.0); pendings = refl }

module _ {K : Type 0} (cmp : K → K → Ordering) (matching : K → K → Bool) where
  -- a face that a call itself leaves as it is, but that pendings may go, and what it is sent then
  pub record Hears (c : PlainCall K) (g : Rows K) (p : ℕ) (f : Face K) : Type 0 where
    pub after : Face K
    pub altered_is : find_face p (altered cmp matching c g) ≡ Some after
    pub unmoved : Unmoved f after
    pub well : SaidWell cmp (is_north f.region) (messages_for p (said cmp matching c g)) f.told f.asks

  tree_face_of : (g : Rows K) (k : ℕ) (f : Face K) → TreeRows cmp g → find_face k g ≡ Some f → IsTreeFace g.mode f
  tree_face_of g k f rows found = find_each (IsTreeFace g.mode) (λ (h : Face K). k == h.number) g.faces f rows.faces found

  hears_by_parts : (c : PlainCall K) (g : Rows K) (p n : ℕ) (f : Face K) (apart : n ≢ p) → TreeRows cmp g → find_face p g ≡ Some f
      → Each (Good cmp matching p n (is_north f.region) Unmoved unmoved_itself unmoved_trans unmoved_ear (λ is f h same_. absurd (apart is)) ended_unmoved g.mode) (parts_of cmp matching c g) → Hears c g p f
  hears_by_parts c g p n f apart rows found good =
      let up = is_north f.region in
      let inside = Inside cmp matching p n up Unmoved unmoved_itself unmoved_trans unmoved_ear (λ is f h same_. absurd (apart is)) ended_unmoved g.mode in
      let still = still_inside cmp matching p n up Unmoved unmoved_itself unmoved_trans unmoved_ear (λ is f h same_. absurd (apart is)) ended_unmoved g.mode in
      let to = altered_to cmp matching p up inside (λ g i. i.0) still Unmoved unmoved_itself unmoved_trans unmoved_ear (parts_of cmp matching c g) g f good (rows, refl) found in
      record {
        after = to.1.0;
        altered_is = to.1.1;
        unmoved = to.1.2;
        well = said_well cmp matching p up inside (λ g i. i.0) still Unmoved unmoved_itself unmoved_trans unmoved_ear (parts_of cmp matching c g) g f good (rows, refl) found refl;
      }

  -- what a call says to its own face
  said_by_parts : (c : PlainCall K) (g : Rows K) (n : ℕ) (f : Face K) → TreeRows cmp g → find_face n g ≡ Some f
      → Each (Good cmp matching n n (is_north f.region) SameEar ear_itself ear_trans (λ f h same_. same_) (λ is f h same_. same_) (λ id f. record { region = refl; told = refl; asks = refl }) g.mode) (parts_of cmp matching c g)
      → SaidWell cmp (is_north f.region) (messages_for n (said cmp matching c g)) f.told f.asks
  said_by_parts c g n f rows found good =
      let up = is_north f.region in
      let ends : (id : ℕ) (f : Face K) → SameEar f (ended id f) = λ id f. record { region = refl; told = refl; asks = refl } in
      said_well cmp matching n up (Inside cmp matching n n up SameEar ear_itself ear_trans (λ f h same_. same_) (λ is f h same_. same_) ends g.mode) (λ g i. i.0)
      (still_inside cmp matching n n up SameEar ear_itself ear_trans (λ f h same_. same_) (λ is f h same_. same_) ends g.mode) SameEar ear_itself ear_trans (λ f h same_. same_) (parts_of cmp matching c g) g f good (rows, refl) found refl

  -- ---- other faces

  pub other_declare : (n id node : ℕ) (e : K) (interest : Option ℕ) (g : Rows K) (p : ℕ) (f : Face K) → n ≢ p → TreeRows cmp g → find_face p g ≡ Some f → Hears (DeclareToken n id e node interest) g p f
  other_declare n id node e interest g p f apart rows found =
      hears_by_parts (DeclareToken n id e node interest) g p n f apart rows found
      (declare_fine cmp matching p n (is_north f.region) Unmoved unmoved_itself unmoved_trans unmoved_ear (λ is f h same_. absurd (apart is)) ended_unmoved g.mode id node e interest g (rows, refl))

  pub other_undeclare : (n id node : ℕ) (given : Option K) (g : Rows K) (p : ℕ) (f : Face K) → n ≢ p → TreeRows cmp g → find_face p g ≡ Some f → Hears (UndeclareToken n id given node) g p f
  other_undeclare n id node given g p f apart rows found =
      hears_by_parts (UndeclareToken n id given node) g p n f apart rows found
      (undeclare_fine cmp matching p n (is_north f.region) Unmoved unmoved_itself unmoved_trans unmoved_ear (λ is f h same_. absurd (apart is)) ended_unmoved g.mode id node given g (rows, refl))

  pub other_final : (n id : ℕ) (g : Rows K) (p : ℕ) (f : Face K) → n ≢ p → TreeRows cmp g → find_face p g ≡ Some f → Hears (InterestFinal n id) g p f
  other_final n id g p f apart rows found =
      hears_by_parts (InterestFinal n id) g p n f apart rows found
      (final_fine cmp matching p n (is_north f.region) Unmoved unmoved_itself unmoved_trans unmoved_ear (λ is f h same_. absurd (apart is)) ended_unmoved g.mode id g (λ is. absurd (apart is)))

  pub other_finish : (n id : ℕ) (g : Rows K) (p : ℕ) (f : Face K) → n ≢ p → TreeRows cmp g → find_face p g ≡ Some f → Hears (DeclareFinal n id) g p f
  other_finish n id g p f apart rows found =
      hears_by_parts (DeclareFinal n id) g p n f apart rows found (finish_fine cmp matching p n (is_north f.region) Unmoved unmoved_itself unmoved_trans unmoved_ear (λ is f h same_. absurd (apart is)) ended_unmoved g.mode id g)

  pub other_close : (n : ℕ) (g : Rows K) (p : ℕ) (f : Face K) → n ≢ p → TreeRows cmp g → find_face p g ≡ Some f → Hears (CloseFace n) g p f
  other_close n g p f apart rows found =
      hears_by_parts (CloseFace n) g p n f apart rows found (close_fine cmp matching p n (is_north f.region) Unmoved unmoved_itself unmoved_trans unmoved_ear (λ is f h same_. absurd (apart is)) ended_unmoved g.mode apart g)

  -- a number that isn't another
  next_apart : (p : ℕ) → p + 1 ≢ p
  next_apart p is = omega arith

  pub any_expire : (now : ℕ) (g : Rows K) (p : ℕ) (f : Face K) → TreeRows cmp g → find_face p g ≡ Some f → Hears (Expire now) g p f
  any_expire now g p f rows found =
      hears_by_parts (Expire now) g p (p + 1) f (next_apart p) rows found (expire_fine cmp matching p (p + 1) (is_north f.region) Unmoved unmoved_itself unmoved_trans unmoved_ear (λ is f h same_. absurd (next_apart p is)) ended_unmoved g.mode now g)

  entities_unmoved : (subscribers : List K) (queryables : List (K × QueryableInfo)) (f : Face K) → Unmoved f (record f { subscribers = subscribers; queryables = queryables })
  entities_unmoved subscribers queryables f = record { region = refl; live = refl; told = refl; next = refl; held = refl; locals = refl; asks = refl; stays = (unmoved_itself f).stays; pendings = (unmoved_itself f).pendings }

  pub any_entities : (k : ℕ) (subscribers : List K) (queryables : List (K × QueryableInfo)) (g : Rows K) (p : ℕ) (f : Face K) → TreeRows cmp g → find_face p g ≡ Some f → Hears (SetEntities k subscribers queryables) g p f
  any_entities k subscribers queryables g p f rows found =
      hears_by_parts (SetEntities k subscribers queryables) g p (p + 1) f (next_apart p) rows found
      (entities_fine cmp matching p (p + 1) (is_north f.region) Unmoved unmoved_itself unmoved_trans unmoved_ear (λ is f h same_. absurd (next_apart p is)) ended_unmoved g.mode k subscribers queryables (entities_unmoved subscribers queryables) g)

  pub any_trees : (region : Region) (t : Trees) (g : Rows K) (p : ℕ) (f : Face K) → (hat_of g.mode region).goes_by_trees ≡ true → TreeRows cmp g → find_face p g ≡ Some f → Hears (SetTrees region t) g p f
  any_trees region t g p f router rows found =
      hears_by_parts (SetTrees region t) g p (p + 1) f (next_apart p) rows found
      (trees_fine cmp matching p (p + 1) (is_north f.region) Unmoved unmoved_itself unmoved_trans unmoved_ear (λ is f h same_. absurd (next_apart p is)) ended_unmoved g.mode region t router g)

  -- ---- the face that a call names

  altered_append : (xs ys : List (Part K)) (g : Rows K) → altered_by cmp matching (xs ++ ys) g ≡ altered_by cmp matching ys (altered_by cmp matching xs g)
  unfolding altered_by
  altered_append [] ys g = refl
  altered_append (Alter change ∷ xs) ys g = altered_append xs ys (change g)
  altered_append (Say rule ∷ xs) ys g = altered_append xs ys g

  own_rows_faces : (rs : List Region) (e : K) (g : Rows K) → (with_own_rows cmp rs e g).faces ≡ g.faces
  unfolding with_own_rows with_routed
  own_rows_faces [] e g = refl
  own_rows_faces (r ∷ rs) e g = own_rows_faces rs e (with_routed cmp r g.zid e g)

  -- what a call changes of its own face, and what it says there
  pub record Acts (c : PlainCall K) (g : Rows K) (n : ℕ) (f after : Face K) : Type 0 where
    pub altered_is : find_face n (altered cmp matching c g) ≡ Some after
    pub well : SaidWell cmp (is_north f.region) (messages_for n (said cmp matching c g)) after.told after.asks

  pub own_declare : (n id node : ℕ) (e : K) (interest : Option ℕ) (g : Rows K) (f : Face K) → TreeRows cmp g → find_face n g ≡ Some f → Acts (DeclareToken n id e node interest) g n f (if registers f interest then registered id e f else f)
  unfolding parts_of altered_by
  own_declare n id node e interest g f rows found = record {
    altered_is = by_found (find_face n g) found;
    well =
        of_cond (λ (h : Face K). SaidWell cmp (is_north f.region) (messages_for n (said cmp matching (DeclareToken n id e node interest) g)) h.told h.asks) (registers f interest) (registered id e f) f (λ _. said_) (λ _. said_);
  }
    where
      said_ : SaidWell cmp (is_north f.region) (messages_for n (said cmp matching (DeclareToken n id e node interest) g)) f.told f.asks
      said_ =
          said_by_parts (DeclareToken n id e node interest) g n f rows found
          (declare_fine cmp matching n n (is_north f.region) SameEar ear_itself ear_trans (λ f h same_. same_) (λ is f h same_. same_) (λ id f. record { region = refl; told = refl; asks = refl }) g.mode id node e interest g (rows, refl))

      answers : (i : Option ℕ) → altered_by cmp matching (answering cmp matching n i e f) g ≡ g
      answers None = refl
      answers (Some i) = of_cond (λ parts. altered_by cmp matching parts g ≡ g) (has_id i f.pendings) (Say _ ∷ []) [] (λ _. refl) (λ _. refl)

      registered_is : registers f interest ≡ true → find_face n (altered_by cmp matching (declaring cmp matching n id e f ++ showing cmp f.region e) g) ≡ Some (registered id e f)
      registered_is here =
          let h = with_face n (registered id e) g in
          ap (first_where (λ (k : Face K). n == k.number)) (own_rows_faces (filter (is_newly_shown cmp h f.region e) (router_regions h)) e h)
          ∙ find_with_face cmp matching n n (registered id e) g f (λ f. refl) found
          ∙ rw (eq-eqb n n refl) refl

      by_found : (o : Option (Face K)) → o ≡ Some f
          → find_face n (altered_by cmp matching (elim o [ None ↦ [] | Some f ↦ if is_routed g f then declaring_of cmp matching n (source_of g f node) e f else answering cmp matching n interest e f ++ (if registers f interest then declaring cmp matching n id e f ++ showing cmp f.region e else []) ]) g)
          ≡ Some (if registers f interest then registered id e f else f)
      by_found None is = cc
      by_found (Some h) is =
          let same_ : h ≡ f = cc in
          subst (λ (k : Face K). find_face n (altered_by cmp matching (if is_routed g k then declaring_of cmp matching n (source_of g k node) e k else answering cmp matching n interest e k ++ (if registers k interest then declaring cmp matching n id e k ++ showing cmp k.region e else [])) g)
          ≡ Some (if registers f interest then registered id e f else f)) (sym same_)
          (rw (is_no_router g f (tree_face_of g n f rows found))
          (ap (find_face n) (altered_append (answering cmp matching n interest e f) (if registers f interest then declaring cmp matching n id e f ++ showing cmp f.region e else []) g ∙ ap (altered_by cmp matching (if registers f interest then declaring cmp matching n id e f ++ showing cmp f.region e else [])) (answers interest))
          ∙ by_test (registers f interest) (λ here. rw here (registered_is here)) (λ here. rw here found)))

  pub own_undeclare : (n id node : ℕ) (given : Option K) (g : Rows K) (f : Face K) → TreeRows cmp g → find_face n g ≡ Some f → (e : K) → undeclared cmp matching id given f ≡ Some e → Acts (UndeclareToken n id given node) g n f (unregistered id f)
  unfolding parts_of altered_by without_own_rows
  own_undeclare n id node given g f rows found e named = record {
    altered_is = by_found (find_face n g) found;
    well =
        said_by_parts (UndeclareToken n id given node) g n f rows found
        (undeclare_fine cmp matching n n (is_north f.region) SameEar ear_itself ear_trans (λ f h same_. same_) (λ is f h same_. same_) (λ id f. record { region = refl; told = refl; asks = refl }) g.mode id node given g (rows, refl));
  }
    where
      by_found : (o : Option (Face K)) → o ≡ Some f
          → find_face n (altered_by cmp matching (elim o [ None ↦ [] | Some f ↦ if is_routed g f then undeclaring_of cmp matching n (source_of g f node) given f else undeclaring cmp matching n id given f ++ hiding_undeclared cmp matching id given f ]) g) ≡ Some (unregistered id f)
      by_found None is = cc
      by_found (Some h) is =
          let same_ : h ≡ f = cc in
          subst (λ (k : Face K). find_face n (altered_by cmp matching (if is_routed g k then undeclaring_of cmp matching n (source_of g k node) given k else undeclaring cmp matching n id given k ++ hiding_undeclared cmp matching id given k) g) ≡ Some (unregistered id f)) (sym same_)
          (rw (is_no_router g f (tree_face_of g n f rows found)) (by_named (undeclared cmp matching id given f) named))
        where
          by_named : (o : Option K) → o ≡ Some e
              → find_face n (altered_by cmp matching ((elim o [ None ↦ [] | Some e ↦ Alter (with_face n (unregistered id)) ∷ Say (forget cmp matching f.region e) ∷ [] ]) ++ (elim o [ None ↦ [] | Some e ↦ hiding cmp f.region e ])) g) ≡ Some (unregistered id f)
          by_named None is = cc
          by_named (Some x) is = find_with_face cmp matching n n (unregistered id) g f (λ f. refl) found ∙ rw (eq-eqb n n refl) refl

  pub own_final : (n id : ℕ) (g : Rows K) (f : Face K) (i : InterestRow K) → TreeRows cmp g → find_face n g ≡ Some f → at_id id f.held ≡ Some i → Acts (InterestFinal n id) g n f (unheld id f)
  unfolding parts_of altered_by
  own_final n id g f i rows found held = record {
    altered_is = by_found (find_face n g) found;
    well =
        said_by_parts (InterestFinal n id) g n f rows found
        (final_fine cmp matching n n (is_north f.region) SameEar ear_itself ear_trans (λ f h same_. same_) (λ is f h same_. same_) (λ id f. record { region = refl; told = refl; asks = refl }) g.mode id g
        (λ is h k found_h held_h. by_test (is_north f.region) (λ up. nothing_held ((tree_face_of g n f rows found).up up).held) (λ down. down)));
  }
    where
      nothing_held : {A : Type 0} → f.held ≡ [] → A
      nothing_held none_ = let bad : None ≡ Some i = ap (at_id id) (sym none_) ∙ held in absurd (none_some bad)
        where
          none_some : {B : Type 0} {x : B} → None ≡ Some x → ⊥
          none_some e = cc

      by_held : (o : Option (InterestRow K)) → o ≡ Some i → find_face n (altered_by cmp matching (elim o [ None ↦ [] | Some interest ↦ finalising cmp matching n id interest ]) g) ≡ Some (unheld id f)
      by_held None is = cc
      by_held (Some k) is = find_with_face cmp matching n n (unheld id) g f (λ f. refl) found ∙ rw (eq-eqb n n refl) refl

      by_found : (o : Option (Face K)) → o ≡ Some f → find_face n (altered_by cmp matching (elim o [ None ↦ [] | Some f ↦ finalising_held cmp matching n id f ]) g) ≡ Some (unheld id f)
      by_found None is = cc
      by_found (Some h) is =
          let same_ : h ≡ f = cc in
          subst (λ (k : Face K). find_face n (altered_by cmp matching (finalising_held cmp matching n id k) g) ≡ Some (unheld id f)) (sym same_) (by_held (at_id id f.held) held)

  -- a final leaves its face as it was, but for what it ends
  pub own_finish : (n id : ℕ) (g : Rows K) (f : Face K) → TreeRows cmp g → find_face n g ≡ Some f → Hears (DeclareFinal n id) g n f
  unfolding parts_of altered_by
  own_finish n id g f rows found = record {
    after = if has_id id f.pendings then ended id (initial_finalised id f) else initial_finalised id f;
    altered_is = by_found (find_face n g) found;
    unmoved = of_cond (Unmoved f) (has_id id f.pendings) (ended id (initial_finalised id f)) (initial_finalised id f) (λ _. ended_) (λ _. started);
    well =
        said_by_parts (DeclareFinal n id) g n f rows found
        (finish_fine cmp matching n n (is_north f.region) SameEar ear_itself ear_trans (λ f h same_. same_) (λ is f h same_. same_) (λ id f. record { region = refl; told = refl; asks = refl }) g.mode id g);
  }
    where
      started : Unmoved f (initial_finalised id f)
      started = record { region = refl; live = refl; told = refl; next = refl; held = refl; locals = refl; asks = refl; stays = (unmoved_itself f).stays; pendings = (unmoved_itself f).pendings }

      ended_ : Unmoved f (ended id (initial_finalised id f))
      ended_ = record { region = refl; live = refl; told = refl; next = refl; held = refl; locals = refl; asks = refl; stays = λ row. not (id == row.0); pendings = refl }

      initial_is : find_face n (with_face n (initial_finalised id) g) ≡ Some (initial_finalised id f)
      initial_is = find_with_face cmp matching n n (initial_finalised id) g f (λ f. refl) found ∙ rw (eq-eqb n n refl) refl

      by_found : (o : Option (Face K)) → o ≡ Some f → find_face n (altered_by cmp matching (elim o [ None ↦ [] | Some f ↦ finishing n id f ]) g) ≡ Some (if has_id id f.pendings then ended id (initial_finalised id f) else initial_finalised id f)
      by_found None is = cc
      by_found (Some h) is =
          let same_ : h ≡ f = cc in
          subst (λ (k : Face K). find_face n (altered_by cmp matching (finishing n id k) g) ≡ Some (if has_id id f.pendings then ended id (initial_finalised id f) else initial_finalised id f)) (sym same_)
          (by_test (has_id id f.pendings)
          (λ here. rw here (find_with_face cmp matching n n (ended id) (with_face n (initial_finalised id) g) (initial_finalised id f) (λ f. refl) initial_is ∙ rw (eq-eqb n n refl) refl))
          (λ here. rw here initial_is))

  -- ---- interests

  -- subscribers and queryables, which a face hears without a change
  abbrev IsEntity : Message K → Type 0
  IsEntity (message.DeclareSubscriber id e interest) = Unit {0}
  IsEntity (message.DeclareQueryable id e info interest) = Unit {0}
  IsEntity _ = ⊥

  entity_well : (ms : List (Message K)) (told : ById K) (asks : ById (Ask K)) → Each IsEntity ms → SaidWell cmp false ms told asks
  entity_well [] told asks all = tt
  entity_well (message.DeclareSubscriber id e interest ∷ ms) told asks all = (refl, entity_well ms told asks all.1)
  entity_well (message.DeclareQueryable id e info interest ∷ ms) told asks all = (refl, entity_well ms told asks all.1)
  entity_well (message.DeclareToken id e interest node ∷ ms) told asks all = absurd all.0
  entity_well (message.UndeclareToken id e node ∷ ms) told asks all = absurd all.0
  entity_well (message.DeclareFinal interest ∷ ms) told asks all = absurd all.0
  entity_well (message.Interest id mode options e ∷ ms) told asks all = absurd all.0
  entity_well (message.InterestFinal id ∷ ms) told asks all = absurd all.0

  entity_leaves : (now : ℕ) (ms : List (Message K)) (f : Face K) (told : ById K) (asks : ById (Ask K)) → Each IsEntity ms → (heard_all cmp now ms f ≡ f) × ((tokens_after cmp ms told ≡ told) × (asks_after cmp ms asks ≡ asks))
  unfolding heard_all
  entity_leaves now [] f told asks all = (refl, (refl, refl))
  entity_leaves now (message.DeclareSubscriber id e interest ∷ ms) f told asks all = entity_leaves now ms f told asks all.1
  entity_leaves now (message.DeclareQueryable id e info interest ∷ ms) f told asks all = entity_leaves now ms f told asks all.1
  entity_leaves now (message.DeclareToken id e interest node ∷ ms) f told asks all = absurd all.0
  entity_leaves now (message.UndeclareToken id e node ∷ ms) f told asks all = absurd all.0
  entity_leaves now (message.DeclareFinal interest ∷ ms) f told asks all = absurd all.0
  entity_leaves now (message.Interest id mode options e ∷ ms) f told asks all = absurd all.0
  entity_leaves now (message.InterestFinal id ∷ ms) f told asks all = absurd all.0

  entities_alike : {A : Type 0} (make : A → Message K) (xs : List A) → ((x : A) → IsEntity (make x)) → Each IsEntity (map make xs)
  entities_alike make xs h = each_map IsEntity make xs (each_always (λ x. IsEntity (make x)) h xs)

  aggregate_entity : {A : Type 0} (expr : Option K) (found : Option A) (declare : K → A → Message K) → ((k : K) (x : A) → IsEntity (declare k x)) → Each IsEntity (aggregate_of cmp expr found declare)
  aggregate_entity None found declare h = tt
  aggregate_entity (Some k) None declare h = tt
  aggregate_entity (Some k) (Some x) declare h = (h k x, tt)

  subscribers_entity : (g : Rows K) (id : ℕ) (interest : InterestRow K) (f : Face K) → Each IsEntity (subscribers_for cmp matching g id interest f)
  unfolding subscribers_for
  subscribers_entity g id interest f =
      let found = matching_subscribers cmp matching g interest f in
      of_cond (Each IsEntity) (has_aggregate interest.options) (aggregate_of cmp interest.expr (first_of found) (λ k e. subscriber_of cmp g id k)) (map (subscriber_of cmp g id) (in_key_order cmp found))
      (λ _. aggregate_entity interest.expr (first_of found) (λ k e. subscriber_of cmp g id k) (λ k e. tt))
      (λ _. entities_alike (subscriber_of cmp g id) (in_key_order cmp found) (λ e. tt))

  queryables_entity : (g : Rows K) (id : ℕ) (interest : InterestRow K) (f : Face K) → Each IsEntity (queryables_for cmp matching g id interest f)
  unfolding queryables_for
  queryables_entity g id interest f =
      let found = matching_queryables cmp matching g interest f in
      let each_info = λ (e : K). map (queryable_of cmp g id e) (option_to_list (info_of cmp e found)) in
      of_cond (Each IsEntity) (has_aggregate interest.options) (aggregate_of cmp interest.expr (all_merged (map (λ q. q.1) found)) (queryable_of cmp g id)) (flat_map each_info (in_key_order cmp (map (λ q. q.0) found)))
      (λ _. aggregate_entity interest.expr (all_merged (map (λ q. q.1) found)) (queryable_of cmp g id) (λ k x. tt))
      (λ _. each_flat_map IsEntity each_info (in_key_order cmp (map (λ q. q.0) found)) (λ e. entities_alike (queryable_of cmp g id e) (option_to_list (info_of cmp e found)) (λ x. tt)))

  entities_are : (g : Rows K) (id : ℕ) (interest : InterestRow K) (f : Face K) → Each IsEntity (entities_for cmp matching g id interest f)
  unfolding entities_for
  entities_are g id interest f =
      let subscribers = if has_subscribers interest.options then subscribers_for cmp matching g id interest f else [] in
      let queryables = if has_queryables interest.options then queryables_for cmp matching g id interest f else [] in
      of_cond (Each IsEntity) (is_current interest.mode && is_future interest.mode) (subscribers ++ queryables) [] (
      λ _. each_append IsEntity subscribers queryables
      (of_cond (Each IsEntity) (has_subscribers interest.options) (subscribers_for cmp matching g id interest f) [] (λ _. subscribers_entity g id interest f) (λ _. tt))
      (of_cond (Each IsEntity) (has_queryables interest.options) (queryables_for cmp matching g id interest f) [] (λ _. queryables_entity g id interest f) (λ _. tt))
      ) (λ _. tt)

  any_put : (q : ℕ × Ask K → Bool) (id : ℕ) (ask : Ask K) (rows : ById (Ask K)) → q (id, ask) ≡ true → list_any q (put nat_cmp id ask rows) ≡ true
  any_put q id ask [] here = or_left (q (id, ask)) false here
  any_put q id ask (row ∷ rows) here =
      elim (nat_cmp id row.0) as (λ o. nat_cmp id row.0 ≡ o → list_any q (by_order o ((id, ask) ∷ row ∷ rows) ((row.0, ask) ∷ rows) (row ∷ put nat_cmp id ask rows)) ≡ true) [
        | Less ↦ λ is. or_left (q (id, ask)) (list_any q (row ∷ rows)) here
        | Equal ↦ λ is. or_left (q (row.0, ask)) (list_any q rows) (ap (λ k. q (k, ask)) (sym (ranked id row.0 Equal (sym is))) ∙ here)
        | Greater ↦ λ is. or_right (q row) (list_any q (put nat_cmp id ask rows)) (any_put q id ask rows here)
      ] refl

  -- the messages of an interest, phase by phase
  abbrev numbered_rows : InterestRow K → Rows K → Rows K
  numbered_rows i g = with_numbers cmp (numbered_by cmp i) g

  abbrev routes : Face K → InterestRow K → Rows K → Sends K
  routes f i g = to_each (route_to g f.region i) g.faces

  messages_none : (k : ℕ) → messages_for {M = Message K} k [] ≡ []
  unfolding messages_for
  messages_none k = refl

  hears_nothing : (now : ℕ) (f : Face K) → Some (heard_all cmp now [] f) ≡ Some f
  unfolding heard_all
  hears_nothing now f = refl

  no_route : (g : Rows K) (asker : Region) (i : InterestRow K) (f : Face K) → is_north f.region ≡ false → route_to g asker i f ≡ []
  unfolding route_to is_target
  no_route g asker i f down =
      by_test (is_asked g i.mode f)
      (λ asked. never (asked_north g i.mode f asked) down)
      (λ misses. rw misses (nothing (not (is_north asker))))
    where
      nothing : (b : Bool) → (if b && false then message.Interest f.next i.mode i.options i.expr ∷ [] else []) ≡ []
      nothing true = refl
      nothing false = refl

  sent_own : (n : ℕ) (rule : Face K → List (Message K)) (g : Rows K) (f : Face K) → find_face n g ≡ Some f → messages_for n (to_face n rule g) ≡ rule f
  unfolding to_face
  sent_own n rule g f found = by_found (find_face n g) found
    where
      by_found : (o : Option (Face K)) → o ≡ Some f → messages_for n (elim o [ None ↦ [] | Some h ↦ map (λ m. (n, m)) (rule h) ]) ≡ rule f
      by_found None is = cc
      by_found (Some h) is = messages_for_own n (rule h) ∙ (let same_ : h ≡ f = cc in ap rule same_)

  -- what an interest's parts say to a face, phase by phase, and what they change
  abbrev route_phase : Face K → InterestRow K → Rows K → Sends K
  route_phase from i g = to_each (route_to (numbered_rows i g) from.region i) g.faces

  abbrev after_route : Face K → InterestRow K → Rows K → Rows K
  after_route from i g = rows_heard cmp (route_phase from i g) (numbered_rows i g)

  abbrev entity_phase : ℕ → ℕ → Face K → InterestRow K → Rows K → Sends K
  entity_phase n id from i g = to_face n (entities_for cmp matching (after_route from i g) id i) (after_route from i g)

  abbrev after_asking : ℕ → ℕ → Face K → InterestRow K → Rows K → Rows K
  after_asking n id from i g = with_face n (asked_as (sent_as g from.region i.mode) id i) (rows_heard cmp (entity_phase n id from i g) (after_route from i g))

  abbrev answer_phase : ℕ → ℕ → Face K → InterestRow K → Rows K → Sends K
  answer_phase n id from i g = to_face n (answers_of cmp matching (after_asking n id from i g) id i) (after_asking n id from i g)

  abbrev after_answers : ℕ → ℕ → Face K → InterestRow K → Rows K → Rows K
  after_answers n id from i g = rows_heard cmp (answer_phase n id from i g) (after_asking n id from i g)

  abbrev final_phase : ℕ → ℕ → Face K → InterestRow K → Rows K → Sends K
  final_phase n id from i g = to_face n (final_of id) (after_answers n id from i g)

  abbrev interest_says : ℕ → ℕ → Face K → InterestRow K → Rows K → Sends K
  interest_says n id from i g = route_phase from i g ++ (entity_phase n id from i g ++ (answer_phase n id from i g ++ (final_phase n id from i g ++ [])))

  interest_said : (n id : ℕ) (mode : InterestMode) (options : InterestOptions) (e : Option K) (g : Rows K) (from : Face K) → find_face n g ≡ Some from
      → (said cmp matching (Interest n id mode options e) g ≡ interest_says n id from (row_of cmp matching from mode options e) g)
      × (altered cmp matching (Interest n id mode options e) g ≡ with_face n (asked_as (sent_as g from.region mode) id (row_of cmp matching from mode options e)) (numbered_rows (row_of cmp matching from mode options e) g))
  unfolding parts_of said_by altered_by
  interest_said n id mode options e g from at_ = (by_said (find_face n g) at_, by_altered (find_face n g) at_)
    where
      by_said : (o : Option (Face K)) → o ≡ Some from → said_by cmp matching (elim o [ None ↦ [] | Some f ↦ asking cmp matching n id (row_of cmp matching f mode options e) f.region g ]) g ≡ interest_says n id from (row_of cmp matching from mode options e) g
      by_said None is = cc
      by_said (Some h) is = let same_ : h ≡ from = cc in ap (λ (k : Face K). interest_says n id k (row_of cmp matching k mode options e) g) same_

      by_altered : (o : Option (Face K)) → o ≡ Some from
          → altered_by cmp matching (elim o [ None ↦ [] | Some f ↦ asking cmp matching n id (row_of cmp matching f mode options e) f.region g ]) g ≡ with_face n (asked_as (sent_as g from.region mode) id (row_of cmp matching from mode options e)) (numbered_rows (row_of cmp matching from mode options e) g)
      by_altered None is = cc
      by_altered (Some h) is = let same_ : h ≡ from = cc in ap (λ (k : Face K). with_face n (asked_as (sent_as g k.region mode) id (row_of cmp matching k mode options e)) (numbered_rows (row_of cmp matching k mode options e) g)) same_

  pub row_kept : (g : Rows K) (n : ℕ) (from : Face K) (mode : InterestMode) (options : InterestOptions) (e : Option K) → TreeRows cmp g → find_face n g ≡ Some from → is_north from.region ≡ false → kept_options Client (row_of cmp matching from mode options e).options ≡ (row_of cmp matching from mode options e).options
  row_kept g n from mode options e rows at_ down =
      let client : from.mode ≡ Client = ((tree_face_of g n from rows at_).down down).mode in
      ap (λ m. kept_options Client (kept_options m options)) client ∙ kept_twice options ∙ ap (λ m. kept_options m options) (sym client)

  pub other_interest : (n id : ℕ) (mode : InterestMode) (options : InterestOptions) (e : Option K) (g : Rows K) (from : Face K) (p : ℕ) (f : Face K) → n ≢ p → TreeRows cmp g → find_face n g ≡ Some from → is_north from.region ≡ false → find_face p g ≡ Some f → Hears (Interest n id mode options e) g p f
  other_interest n id mode options e g from p f apart rows at_ down found =
      let i = row_of cmp matching from mode options e in
      let is = interest_said n id mode options e g from at_ in
      let no_p : (n == p) ≡ false = ne_eqb n p apart in
      let g1 = after_route from i g in
      let f1 = heard_all cmp g.moment (messages_for p (route_phase from i g)) f in
      let found1 : find_face p g1 ≡ Some f1 = find_heard_at cmp (route_phase from i g) (numbered_rows i g) p f found in
      let none2 : messages_for p (entity_phase n id from i g) ≡ [] = sent_face cmp matching (λ ms. ms ≡ []) p n (entities_for cmp matching g1 id i) g1 f1 found1 (λ same_. absurd (apart same_)) refl in
      let g2 = rows_heard cmp (entity_phase n id from i g) g1 in
      let f2 = heard_all cmp g1.moment (messages_for p (entity_phase n id from i g)) f1 in
      let found2 : find_face p g2 ≡ Some f2 = find_heard_at cmp (entity_phase n id from i g) g1 p f1 found1 in
      let change = asked_as (sent_as g from.region mode) id i in
      let g3 = after_asking n id from i g in
      let f3 : Face K = if n == p then change f2 else f2 in
      let found3 : find_face p g3 ≡ Some f3 = find_with_face cmp matching p n change g2 f2 (λ h. refl) found2 in
      let none3 : messages_for p (answer_phase n id from i g) ≡ [] = sent_face cmp matching (λ ms. ms ≡ []) p n (answers_of cmp matching g3 id i) g3 f3 found3 (λ same_. absurd (apart same_)) refl in
      let g4 = after_answers n id from i g in
      let f4 = heard_all cmp g3.moment (messages_for p (answer_phase n id from i g)) f3 in
      let found4 : find_face p g4 ≡ Some f4 = find_heard_at cmp (answer_phase n id from i g) g3 p f3 found3 in
      let none4 : messages_for p (final_phase n id from i g) ≡ [] = sent_face cmp matching (λ ms. ms ≡ []) p n (final_of id) g4 f4 found4 (λ same_. absurd (apart same_)) refl in
      let routed : messages_for p (route_phase from i g) ≡ route_to (numbered_rows i g) from.region i f = sent_each cmp matching p (route_to (numbered_rows i g) from.region i) g f rows.rises found in
      let messages : messages_for p (interest_says n id from i g) ≡ route_to (numbered_rows i g) from.region i f ++ [] =
      messages_for-append p (route_phase from i g) (entity_phase n id from i g ++ (answer_phase n id from i g ++ (final_phase n id from i g ++ [])))
      ∙ ap (λ ms. ms ++ messages_for p (entity_phase n id from i g ++ (answer_phase n id from i g ++ (final_phase n id from i g ++ [])))) routed
      ∙ ap (λ ms. route_to (numbered_rows i g) from.region i f ++ ms)
      (messages_for-append p (entity_phase n id from i g) (answer_phase n id from i g ++ (final_phase n id from i g ++ []))
      ∙ ap (λ ms. ms ++ messages_for p (answer_phase n id from i g ++ (final_phase n id from i g ++ []))) none2
      ∙ messages_for-append p (answer_phase n id from i g) (final_phase n id from i g ++ [])
      ∙ ap (λ ms. ms ++ messages_for p (final_phase n id from i g ++ [])) none3
      ∙ messages_for-append p (final_phase n id from i g) []
      ∙ ap (λ ms. ms ++ messages_for p []) none4
      ∙ messages_none p) in
      record {
        after = f;
        altered_is = ap (find_face p) is.1 ∙ find_with_face cmp matching p n change (numbered_rows i g) f (λ h. refl) found ∙ rw no_p refl;
        unmoved = unmoved_itself f;
        well =
            subst (λ ms. SaidWell cmp (is_north f.region) ms f.told f.asks) (sym (ap (messages_for p) is.0 ∙ messages))
            (well_append cmp (is_north f.region) (route_to (numbered_rows i g) from.region i f) [] f.told f.asks (route_well cmp matching (numbered_rows i g) from.region i f (row_kept g n from mode options e rows at_ down)) tt);
      }

  pub own_interest : (n id : ℕ) (mode : InterestMode) (options : InterestOptions) (e : Option K) (g : Rows K) (f : Face K) → TreeRows cmp g → find_face n g ≡ Some f → is_north f.region ≡ false
      → Acts (Interest n id mode options e) g n f (asked_as (sent_as g f.region mode) id (row_of cmp matching f mode options e) f)
  own_interest n id mode options e g f rows found down =
      let i = row_of cmp matching f mode options e in
      let is = interest_said n id mode options e g f found in
      let change = asked_as (sent_as g f.region mode) id i in
      let none1 : messages_for n (route_phase f i g) ≡ [] = sent_each cmp matching n (route_to (numbered_rows i g) f.region i) g f rows.rises found ∙ no_route (numbered_rows i g) f.region i f down in
      let g1 = after_route f i g in
      let found1 : find_face n g1 ≡ Some f = find_heard_at cmp (route_phase f i g) (numbered_rows i g) n f found ∙ ap (λ ms. Some (heard_all cmp g.moment ms f)) none1 ∙ hears_nothing g.moment f in
      let ents = entities_for cmp matching g1 id i f in
      let leaves = entity_leaves g1.moment ents f f.told (change f).asks (entities_are g1 id i f) in
      let two : messages_for n (entity_phase n id f i g) ≡ ents = sent_own n (entities_for cmp matching g1 id i) g1 f found1 in
      let g2 = rows_heard cmp (entity_phase n id f i g) g1 in
      let found2 : find_face n g2 ≡ Some f = find_heard_at cmp (entity_phase n id f i g) g1 n f found1 ∙ ap (λ ms. Some (heard_all cmp g1.moment ms f)) two ∙ ap Some leaves.0 in
      let f3 = change f in
      let g3 = after_asking n id f i g in
      let found3 : find_face n g3 ≡ Some f3 = find_with_face cmp matching n n change g2 f (λ h. refl) found2 ∙ rw (eq-eqb n n refl) refl in
      let answers = answers_of cmp matching g3 id i f3 in
      let three : messages_for n (answer_phase n id f i g) ≡ answers = sent_own n (answers_of cmp matching g3 id i) g3 f3 found3 in
      let g4 = after_answers n id f i g in
      let f4 = heard_all cmp g3.moment (messages_for n (answer_phase n id f i g)) f3 in
      let found4 : find_face n g4 ≡ Some f4 = find_heard_at cmp (answer_phase n id f i g) g3 n f3 found3 in
      let four : messages_for n (final_phase n id f i g) ≡ final_of id f4 = sent_own n (final_of id) g4 f4 found4 in
      let real = find_each (IsReal cmp) (λ (h : Face K). n == h.number) g.faces f rows.real found in
      let messages : messages_for n (interest_says n id f i g) ≡ ents ++ (answers ++ (final_of id f4 ++ [])) =
      messages_for-append n (route_phase f i g) (entity_phase n id f i g ++ (answer_phase n id f i g ++ (final_phase n id f i g ++ [])))
      ∙ ap (λ ms. ms ++ messages_for n (entity_phase n id f i g ++ (answer_phase n id f i g ++ (final_phase n id f i g ++ [])))) none1
      ∙ messages_for-append n (entity_phase n id f i g) (answer_phase n id f i g ++ (final_phase n id f i g ++ []))
      ∙ ap (λ ms. ms ++ messages_for n (answer_phase n id f i g ++ (final_phase n id f i g ++ []))) two
      ∙ ap (λ ms. ents ++ ms)
      (messages_for-append n (answer_phase n id f i g) (final_phase n id f i g ++ [])
      ∙ ap (λ ms. ms ++ messages_for n (final_phase n id f i g ++ [])) three
      ∙ ap (λ ms. answers ++ ms) (messages_for-append n (final_phase n id f i g) [] ∙ ap (λ ms. ms ++ messages_for n []) four ∙ ap (λ ms. final_of id f4 ++ ms) (messages_none n))) in
      record {
        altered_is = ap (find_face n) is.1 ∙ find_with_face cmp matching n n change (numbered_rows i g) f (λ h. refl) found ∙ rw (eq-eqb n n refl) refl;
        well =
            subst (λ up. SaidWell cmp up (messages_for n (said cmp matching (Interest n id mode options e) g)) f3.told f3.asks) (sym down)
            (subst (λ ms. SaidWell cmp false ms f3.told f3.asks) (sym (ap (messages_for n) is.0 ∙ messages))
            (well_append cmp false ents (answers ++ (final_of id f4 ++ [])) f3.told f3.asks (entity_well ents f3.told f3.asks (entities_are g1 id i f))
            (subst (λ (asks : ById (Ask K)). SaidWell cmp false (answers ++ (final_of id f4 ++ [])) (tokens_after cmp ents f3.told) asks) (sym leaves.1.1)
            (subst (λ (told : ById K). SaidWell cmp false (answers ++ (final_of id f4 ++ [])) told f3.asks) (sym leaves.1.0)
            (well_append cmp false answers (final_of id f4 ++ []) f3.told f3.asks
            (answers_of_well cmp matching g3 id i f3 f3.asks (record { next = real.next; told = real.told }) (named (sent_as g f.region mode)))
            (well_append cmp false (final_of id f4) [] (tokens_after cmp answers f3.told) (asks_after cmp answers f3.asks) (final_well cmp matching id f4 (tokens_after cmp answers f3.told) (asks_after cmp answers f3.asks)) tt))))));
      }
    where
      named : (pendings : List (ℕ × ℕ)) → is_current mode ≡ true
          → list_any (λ row. (id == row.0) && ((is_future mode && is_future row.1.interest.mode) || (not (is_future mode) && not (is_future row.1.interest.mode)))) (asked_as pendings id (row_of cmp matching f mode options e) f).asks ≡ true
      named pendings current =
          rw current (any_put (λ row. (id == row.0) && ((is_future mode && is_future row.1.interest.mode) || (not (is_future mode) && not (is_future row.1.interest.mode)))) id (record { interest = row_of cmp matching f mode options e; pendings = pendings; answered = [] }) f.asks
          (and_from (id == id) ((is_future mode && is_future mode) || (not (is_future mode) && not (is_future mode))) (eq-eqb id id refl) (own_mode cmp matching (is_future mode))))
